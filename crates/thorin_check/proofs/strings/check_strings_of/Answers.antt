use Rattle.std.proofs.Common.{arith, Err, List, Ok, Option, Result, ℕ}
use Rattle.std.proofs.lemmas.List.FromFn.{map-range_with_len_more}
use Rattle.thorin_check.proofs.Told.{for_each_more, none_told, stopped_behind, text_told, told_then}
use Rattle.thorin_check.{proofs.Packages.of_found, proofs.Told.exit_is, specs.Faults.TellsNumbered}
use Rattle.{dwp_bytes.specs.declared.error.ReadError.ReadError, thorin_find.specs.Finding.string_of}
use Rattle.thorin_check.proofs.strings.check_strings_of.Goals as goal

pub string_text-text-requires : goal.string_text-text-requires
string_text-text-requires g c =
    of_found _ _ _ (rw c.in-Ok-Some.field-0-is at c.in-Ok-Some.ensures) _ c.requires

pub loop-i-preserved : goal.loop-i-preserved
loop-i-preserved g c =
    let i = c.loop-i.i in
    let unit = c.in-Ok-Some.unit in
    rw (map-range_with_len_more {X = ℕ × Result (Option (List ℕ)) ReadError}
    (λ k. (k, string_of unit k)) 0 i i (omega arith))
    (told_then (for_each_more (TellsNumbered c.args.object) _ (i, string_of unit i))
    c.loop-i.invariant (text_told _ _ _ _ _ (Ok tt) (c.string_text-text.ensures c.args.object)
    c.in_ok-tell.ensures))

pub returns-in_err-tell : goal.returns-in_err-tell
returns-in_err-tell g c =
    rw (exit_is c.from_residual.ensures.1) (stopped_behind _ c.loop-i.invariant (text_told
    (TellsNumbered _ (c.loop-i.i, string_of c.in-Ok-Some.unit c.loop-i.i)) _ _ _ _ (Err _)
    (c.string_text-text.ensures c.args.object) c.in_err-tell.ensures))

pub returns : goal.returns
returns g c = rw (rw c.in-Ok-Some.field-0-is at c.in-Ok-Some.ensures) (grind (arith, none_told))
