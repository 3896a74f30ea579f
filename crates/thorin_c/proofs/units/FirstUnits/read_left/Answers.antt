use Rattle.thorin_executable.specs.Skeletons.{Named}
use Rattle.std.proofs.Common.{ap, append_assoc, arith, sym, [], ◌++◌, ◌∙◌, ◌∷◌}
use Rattle.thorin_c.proofs.units.FirstUnits.read_left.Goals as goal

pub loop-unit-preserved : goal.loop-unit-preserved
loop-unit-preserved c =
    let inv = c.loop-unit.invariant in
    let unit : Named = (c.in-Ok-Some.unit.target, c.next.new.self.path) in
    let after = c.next.new.self.listed in
    let adds = rw c.path.ensures at c.in_ok-add-in-Ok-Some.ensures in
    let next = rw c.in-Ok-Some.field-0-is at c.in-Ok-Some.ensures.next in
    record {
      done = inv.done ++ unit ∷ [];
      is = inv.is
          ∙ rw next (ap (λ l. (l, after.1)) (sym (append_assoc inv.done (unit ∷ []) after.0)));
      are_read = adds inv.done inv.are_read;
    }

pub loop-unit-smaller : goal.loop-unit-smaller
loop-unit-smaller c = rw (rw c.in-Ok-Some.field-0-is at c.in-Ok-Some.ensures.next) (omega arith)
