use Rattle.std.proofs.{Common.arith, Common.refl, Common.sym, Common.◌≡◌, lemmas.Grind.common_steps}
use Rattle.dwp_elf.proofs.Changes.{is_grown-with_bytes, KindsDiffer-appended}
use Rattle.dwp_elf.specs.{Contents.contents_of, Growing.with_bytes}
use Rattle.dwp_elf.proofs.object.WritableObject.append.Goals as goal

pub invariant_of-self-2 : goal.invariant_of-self-2
invariant_of-self-2 c = grind (arith, common_steps, KindsDiffer-appended)

pub returns-clause-grown : goal.returns-clause-grown
returns-clause-grown c before =
    let added : contents_of c.append_to.new.sections.items ≡ with_bytes c.args.kind c.args.bytes.now
    (contents_of c.self.inside.sections.items) = grind (arith, common_steps) in
    rw (sym c.self.view_is) (is_grown-with_bytes before _ _ c.args.kind c.args.bytes.now
    (rw added refl))
