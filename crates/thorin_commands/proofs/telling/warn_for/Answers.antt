use Rattle.thorin_commands.proofs.telling.warn_for.Goals.{in-Types, in_default-3, in_default-3-2}
use Rattle.{std.specs.Path.path_bytes, thorin_inputs.specs.declared.notes.Lack.TheVariants.Types}
use Rattle.std.proofs.Common.{arith, inl, inr, refl, rules, string_bytes, sym, ◌≡◌, ◌⊎◌}
use Rattle.thorin_commands.{proofs.Warned.printed_ok, specs.Warned.unsplit_line}
use Rattle.thorin_print.specs.Shown.{shown}
use Rattle.thorin_commands.proofs.telling.warn_for.Goals as goal

pub returns-clause-line : goal.returns-clause-line
returns-clause-line g c =
    let name = path_bytes c.in-Some.path in
    let why = string_bytes c.in_ok-why.why in
    let its : string_bytes c.in_ok-name.name ≡ shown name =
    rw c.path_text.ensures.bytes at c.in_ok-name.ensures in
    let line : string_bytes c.in_ok-line.line ≡ unsplit_line name why = search (rules, its) in
    let may : (c.args.count ≡ 0) ⊎ (c.args.lack ≡ Types) = elim c.match-lack.branch [
      | in-Types w ↦ inr w.in-Types.is
      | in_default-3 w ↦ inl (omega (arith, w.if-count-gt0.false))
      | in_default-3-2 w ↦ inl (omega (arith, w.if-count-gt0.false))
    ] in
    printed_ok (string_bytes c.in_ok-line.line) _ _ c.print_text.result (λ h. record {
      text = unsplit_line name why;
      is = inr (may, name, why, sym c.in-Some.ensures, refl);
      added = rw line at h;
    }) (rw c.as_str.ensures.value at c.print_text.ensures.printed)
