use Rattle.dwp_elf_read.proofs.section.stands_at.Goals as goal
use Rattle.std.proofs.Common.{ap, arith, sym, ◌∙◌}
use Rattle.dwp_elf_read.proofs.section.stands_at.Goals.{then-text-rest-via-else-text-rest+then-rest-text-ne0}
use Rattle.dwp_elf_read.proofs.section.stands_at.Goals.{then-text-rest-via-then-text-rest}
use Rattle.std.{proofs.lemmas.Str.is_utf8-from_IsUtf8, specs.Str.is_utf8}
use Rattle.dwp_elf_read.proofs.ShortNames.{by_bytes, no_end}

pub returns-then-text-rest : goal.returns-then-text-rest
returns-then-text-rest c =
    let no = no_end _ _ c.args.text.now _ c.split_at.ensures.back (λ within nul.
    elim c.then-text-rest.branch [
      | then-text-rest-via-then-text-rest w ↦ omega (arith, within, w.if-text-rest.true)
      | then-text-rest-via-else-text-rest+then-rest-text-ne0 w ↦ w.if-rest-text-ne0.true nul
    ]) in
    record { exact = λ whole. no; other = λ same. sym no }

pub returns : goal.returns
returns c =
    let told = by_bytes _ _ _ _ c.args.text.now _ _ c.split_at.ensures.back
    c.split_at-2.ensures.front c.as_bytes.ensures.value c.eq.ensures
    (omega (arith, c.if-text-rest.false)) c.if-rest-text-ne0.false
    (ap is_utf8 (sym c.as_bytes.ensures.value)
    ∙ is_utf8-from_IsUtf8 _ c.as_bytes.ensures.utf8) in
    record { exact = told.0; other = told.1 }
