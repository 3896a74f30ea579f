use Rattle.std.proofs.Common.{◌≡◌, ◌++◌, [], map}
use Rattle.dwp_elf_read.specs.Relocation.{relocations_of}
use Rattle.dwp_elf_read.specs.View.{elf, file, section, relocations_left}
use Rattle.thorin_executable.specs.Relocations.{pair_of, with_relocations}
use Rattle.thorin_executable.proofs.relocations.add_relocations.Given as goal

-- those found and those left have the meaning of all
abbrev pub invariant-loop-raw : goal.invariant-loop-raw
invariant-loop-raw l =
    with_relocations (elf l.executable) (section l.target).name
    (relocations_left l.raw-iterator) l.found.entries
    ≡ with_relocations (elf l.executable) (section l.target).name (relocations_of (file l.target)
    (section l.target).number) []

-- what is listed, and what is left
abbrev pub invariant-loop-offset : goal.invariant-loop-offset
invariant-loop-offset l = map pair_of l.list.items ++ l.offset-iterator ≡ l.initial.offset-iterator
