use Rattle.dwp_elf_read.{proofs.ShortNames.without_zero, specs.Elf.section_of, specs.View.section}
use Rattle.dwp_elf_read.proofs.section.Section.is_called.Goals as goal

pub returns-then-stands_at : goal.returns-then-stands_at
unfolding section section_of
returns-then-stands_at c =
    without_zero _ c.args.name.now _ _ c.memchr.result _ _ c.as_bytes.ensures.value c.memchr.ensures
    c.is_none.ensures c.if-stands_at.true c.stands_at.ensures.exact
