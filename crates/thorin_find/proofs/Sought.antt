-- What words ask for, and what came of a command that reads a file.
use Rattle.std.proofs.Common.{ap, arith, Err, get_or, List, MatchResult, Ok, Option, Result, ℕ, ◌≡◌}
use Rattle.{dwp_table.specs.declared.object.DwarfObject.DwarfObject, std.proofs.Common.◌≢◌}
use Rattle.std.{proofs.lemmas.Str.Parse.without_leading_plus_none, specs.Result.IsErrAnd}
use Rattle.thorin_find.specs.Finding.{Asks, AsksFor, Finds, FindsAsked, IsNumber, Words}
use Rattle.thorin_find.specs.{declared.finding.Wanted.Wanted, Files.Offer}
use Rattle.thorin_print.specs.declared.output.Failure.{Failure}
use Rattle.std.specs.Str.Parse.{digits_value, ParsesUnsigned}

-- what decimal digits are read as
pub number_read : {E : Type 0} (text : List ℕ) (r : Result ℕ E) → get_or text 0 0 ≢ 43
    → ParsesUnsigned 64 10 text r
    → MatchResult r (λ n. IsNumber text × (n ≡ digits_value 10 text)) (λ _. ¬ (IsNumber text))
number_read text r unsigned h = grind (arith, without_leading_plus_none text unsigned)

-- what the exit of a `?` answers
pub exit_is : {T E : Type 0} {e : E} {r : Result T E} → IsErrAnd r (λ y. y ≡ e) → r ≡ Err e
exit_is {r = Ok x} h = absurd h
exit_is {r = Err y} h = ap Err h

-- what words ask for, and what came of it
pub found : (offer : Offer) (path : List ℕ) (words : Words) (a : Option (List ℕ))
    (asked : Result DwarfObject Failure) → Asks words.kind words.id asked
    → (wanted : Result Wanted Failure) → AsksFor words.string words.section wanted
    → (b : Option (List ℕ)) (result : Result ℕ Failure)
    → FindsAsked offer path words.form a b asked wanted result → Finds offer path words a b result
found offer path words a asked asks wanted wants b result h =
    record { asked = asked; asks = asks; wanted = wanted; wants = wants; finds = h }
