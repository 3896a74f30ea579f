-- What a text of at most 16 hexadecimal digits is read as.
use Rattle.std.proofs.Common.{Ok, ℕ, ◌≡◌, ◌≢◌, ◌≤◌}
use Rattle.std.proofs.Common.{arith, Err, get_or, length, List, lit<, MatchOption, Result, ◌<◌, ◌^◌}
use Rattle.std.proofs.lemmas.{Int.Digits.digits_value-lt, Str.Parse.without_leading_plus_none}
use Rattle.std.specs.{Result.result_ok, Str.Parse.digits_value, Str.Parse.ParsesUnsigned}
use Rattle.{std.proofs.Math.Nat.pow-le-pow_right, thorin_words.specs.Identifiers.IsIdentifier}

short : (text : List ℕ) → IsIdentifier text → digits_value 16 text < 2 ^ 64
short text id =
    let most : 16 ^ length text ≤ 16 ^ 16 = pow-le-pow_right (lit< tt) id.1 in
    omega (arith, digits_value-lt 16 text id.0.1)

pub identifier_read : {E : Type 0} (text : List ℕ) (r : Result ℕ E) → length text ≤ 16
    → get_or text 0 0 ≢ 43 → ParsesUnsigned 64 16 text r
    → MatchOption (result_ok r) (¬ (IsIdentifier text)) (λ n. IsIdentifier text
    × (n ≡ digits_value 16 text))
identifier_read text (Ok n) fits unsigned h =
    let read = rw (without_leading_plus_none text unsigned) at h in ((read.0.0, fits), read.1)
identifier_read text (Err e) fits unsigned h = λ id.
    let unread = rw (without_leading_plus_none text unsigned) at h in unread (id.0, short text id)
