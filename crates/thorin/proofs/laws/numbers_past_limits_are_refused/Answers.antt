use Rattle.{dwp_elf.specs.Numbers.Fits, thorin_index.specs.EntryTests.tests_under}
use Rattle.thorin_strings.specs.StringOffsets.{fitting_offset, remapped_entry}
use Rattle.thorin_join.proofs.Terms.{arith, [], ◌∷◌}
use Rattle.thorin.proofs.laws.numbers_past_limits_are_refused.Goals as goal

pub returns-clause-elf_32_file : goal.returns-clause-elf_32_file
unfolding Fits
returns-clause-elf_32_file c o is past fits =
    let first = (rw is at fits) 0 0 (omega arith) in
    let far = rw is at past in
    absurd (omega (arith, first, far))

pub returns-clause-elf_32_bytes : goal.returns-clause-elf_32_bytes
returns-clause-elf_32_bytes c o e is past h = grind (arith, returns-clause-elf_32_file c o is past)

pub returns-clause-elf_32_writer : goal.returns-clause-elf_32_writer
returns-clause-elf_32_writer c o old new e is past h =
    grind (arith, returns-clause-elf_32_file c o is past)

pub returns-clause-unit_count : goal.returns-clause-unit_count
unfolding tests_under
returns-clause-unit_count c [] past = absurd (omega (arith, past))
returns-clause-unit_count c (x ∷ xs) past = grind arith

pub returns-clause-string_offset : goal.returns-clause-string_offset
unfolding remapped_entry fitting_offset
returns-clause-string_offset c order encoding section bytes index strings string named far =
    grind arith
