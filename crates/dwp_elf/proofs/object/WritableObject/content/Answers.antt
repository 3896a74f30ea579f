use Rattle.dwp_elf.proofs.Changes.{of_kind}
use Rattle.std.proofs.Common.{None, Some, sym, ◌∙◌}
use Rattle.dwp_elf.proofs.object.WritableObject.content.Goals as goal

pub returns-in-Some : goal.returns-in-Some
returns-in-Some c =
    rw (sym c.self.view_is) (c.deref-in-Some.ensures.value
    ∙ sym ((of_kind _ _ (Some _) (rw c.deref.ensures.value at c.in-Some.ensures)).content _
    c.index.ensures))

pub returns-in-None : goal.returns-in-None
returns-in-None c =
    rw (sym c.self.view_is)
    (sym (of_kind c.args.kind c.self.inside.sections.items None
    (rw c.deref.ensures.value at c.in-None.ensures)).content)
