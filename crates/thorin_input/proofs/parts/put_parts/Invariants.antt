use Rattle.std.proofs.Common.{length, map, ◌≡◌}
use Rattle.std.specs.Vec.Iter.{into_iter_items, into_iter_len}
use Rattle.dwp_elf.specs.{FileText.Object, Growing.IsGrown}
use Rattle.thorin_input.specs.{Parts.with_parts, View.part}
use Rattle.thorin_input.proofs.parts.put_parts.Given as goal

-- the parts that are left, added to what there is, give what all give; and nothing was lost
abbrev pub invariant-loop-part : goal.invariant-loop-part
invariant-loop-part l = (record l.file {
  contents = with_parts (map part (into_iter_items l.part-iterator)) l.file.contents;
} ≡ record l.fn.file { contents = with_parts (map part l.fn.parts.items) l.fn.file.contents })
    × ((before : Object) → IsGrown before l.fn.file → IsGrown before l.file)
    × (into_iter_len l.part-iterator ≡ length (into_iter_items l.part-iterator))
