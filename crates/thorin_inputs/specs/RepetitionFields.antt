-- What the fields of `Repetitions` hold.
use Rattle.std.specs.Ordering.{nat_cmp, ordering_then}
use Rattle.std.specs.declared.cmp.Ordering.{Ordering}
use Rattle.thorin_inputs.specs.declared.growth.Repetitions.TheInside.{Inside}
use Rattle.thorin_inputs.specs.Repetitions.{File, Reads}

-- an order of files
abbrev pub file_cmp : File → File → Ordering
file_cmp x y =
    ordering_then (ordering_then (nat_cmp x.0 y.0) (nat_cmp x.1 y.1)) (nat_cmp x.2 y.2)

abbrev pub reads_in : Inside → Reads
reads_in it = record {
  input = it.input;
  files = it.files.entries;
  counts = record { read = it.read; added = it.added; first = it.first; again = it.again };
}
