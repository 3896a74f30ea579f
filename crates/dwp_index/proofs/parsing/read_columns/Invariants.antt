use Rattle.dwp_index.{proofs.Indexes.Behind, specs.Places.ArePlaces}
use Rattle.dwp_index.specs.IndexBytes.{columns_at, numbers}
use Rattle.std.proofs.Common.{[], length, ◌*◌, ◌≡◌, ◌≤◌}
use Rattle.dwp_index.proofs.parsing.read_columns.Given as goal

abbrev pub invariant-loop-i : goal.invariant-loop-i
invariant-loop-i l = record {
  within : 4 * l.i ≤ length l.bytes;
  so_far : Behind l.order l.version l.bytes l.count l.i ≡ columns_at l.order l.version [] l.count
      l.bytes;
  places : ArePlaces l.places l.version l.i (numbers l.order 4 l.i l.bytes);
}
