use Rattle.{thorin_c.proofs.Lists.lists, thorin_executable.specs.Skeletons.skeletons_of}
use Rattle.thorin_c.specs.declared.types.ThorinReport.{ThorinReport}
use Rattle.std.proofs.Common.{ap, refl}
use Rattle.thorin_c.proofs.skeletons.thorin_skeletons.Goals as goal

pub returns-in-None-clause-listed : goal.returns-in-None-clause-listed
returns-in-None-clause-listed c = λ _.
    lists (skeletons_of c.args.bytes.now).0 c.in-Ok.units c.args.names.now c.write_over.new.over
    c.args.paths.now c.write_over-in-Ok.new.over c.in-Ok.units.count _ c.in-Ok.ensures.first
    (rw c.deref.ensures.value at c.write_over.ensures)
    (rw c.deref-in-Ok.ensures.value at c.write_over-in-Ok.ensures) refl refl

pub returns-in-Ok-clause-listed : goal.returns-in-Ok-clause-listed
returns-in-Ok-clause-listed c = λ _.
    lists (skeletons_of c.args.bytes.now).0 c.in-Ok.units c.args.names.now c.write_over.new.over
    c.args.paths.now c.write_over-in-Ok.new.over c.in-Ok.units.count c.tell.new.report
    c.in-Ok.ensures.first (rw c.deref.ensures.value at c.write_over.ensures)
    (rw c.deref-in-Ok.ensures.value at c.write_over-in-Ok.ensures) refl
    (ap (λ (r : ThorinReport). r.size) c.tell.ensures.alone)
