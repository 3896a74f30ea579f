use Rattle.dwp_index.{proofs.Packages.met-first, proofs.Packages.met-later, specs.Firsts.found_in}
use Rattle.std.proofs.Common.{None, ap, not, sym, ◌∙◌}
use Rattle.dwp_index.proofs.contents.meet.Goals as goal

pub returns-then-is_none : goal.returns-then-is_none
returns-then-is_none c kind = c.set.ensures.each None kind
    ∙ sym (met-first (found_in c.args.firsts.now) c.args.number c.args.next.now c.in-Some.kind
    (sym c.section_kind.ensures ∙ c.in-Some.is) (sym c.is_empty.ensures ∙ c.if-is_empty.false)
    (rw (c.get.ensures.value None) (c.is_none.ensures ∙ ap not c.if-is_none.true)) kind)

pub returns-else-is_none : goal.returns-else-is_none
returns-else-is_none c kind = sym (met-later (found_in c.args.firsts.now) c.args.number
    c.args.next.now c.in-Some.kind (sym c.section_kind.ensures ∙ c.in-Some.is)
    (sym c.is_empty.ensures ∙ c.if-is_empty.false)
    (rw (c.get.ensures.value None) (c.is_none.ensures ∙ ap not c.if-is_none.false)) kind)
