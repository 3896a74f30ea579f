use Rattle.dwp_dwarf.proofs.Terms.{err_from_is_err_and, Ok, refl, rules, ◌≡◌}
use Rattle.dwp_elf_read.specs.{Elf.elf_of, View.elf}
use Rattle.thorin_errors.specs.{Answers.as_error, Errors.ParseObjectFile}
use Rattle.thorin_executable.specs.Sections.{debug_data_of}
use Rattle.thorin_executable.proofs.loading.DebugData+SectionReader.read.Goals as goal

pub returns-in_err-debug_str : goal.returns-in_err-debug_str
unfolding debug_data_of
returns-in_err-debug_str g c =
    let file : as_error ParseObjectFile (elf_of c.args.bytes.now) ≡ Ok (elf c.in_ok-file.file) =
    search (rules, c.in_ok-file.ensures.cases) in
    let residual = c.from_residual-in_err-debug_str in
    let p = err_from_is_err_and residual.result residual.ensures.1 in
    rw (p.1, p.2) (λ other. rw (
      file,
      c.in_ok-debug_abbrev.ensures,
      c.in_ok-debug_info.ensures,
      c.in_ok-debug_line_str.ensures,
      c.in_err-debug_str.ensures other,
    ) refl)

pub returns-in_err-debug_str_offsets : goal.returns-in_err-debug_str_offsets
unfolding debug_data_of
returns-in_err-debug_str_offsets g c =
    let file : as_error ParseObjectFile (elf_of c.args.bytes.now) ≡ Ok (elf c.in_ok-file.file) =
    search (rules, c.in_ok-file.ensures.cases) in
    let residual = c.from_residual-in_err-debug_str_offsets in
    let p = err_from_is_err_and residual.result residual.ensures.1 in
    rw (p.1, p.2) (λ other. rw (
      file,
      c.in_ok-debug_abbrev.ensures,
      c.in_ok-debug_info.ensures,
      c.in_ok-debug_line_str.ensures,
      c.in_ok-debug_str.ensures,
      c.in_err-debug_str_offsets.ensures other,
    ) refl)
