use Rattle.std.proofs.Common.{arith, false, List, MatchOption, None, Option, Some, true, ℕ, ◌≡◌}
use Rattle.std.specs.{Borrow.Bor, Str.Pattern.FindsChar, Str.Pattern.SplitsAtFirstByte}
use Rattle.thorin_inputs.specs.Prefixes.{from_of, has_equals, to_of}
use Rattle.std.proofs.lemmas.Bool.{le-ltb, lt-ltb}
use Rattle.thorin_inputs.proofs.prefixes.parts.Goals as goal

parted : (word : List ℕ) (r : Option (Bor (List ℕ) × Bor (List ℕ)))
    → SplitsAtFirstByte (FindsChar 61) (Some 61) word r
    → MatchOption r (has_equals word ≡ false) (λ parts. (has_equals word ≡ true)
    × (parts.0.now ≡ from_of word) × (parts.1.now ≡ to_of word))
unfolding has_equals
parted word None h = le-ltb _ _ (omega (arith, h (omega arith) (λ w o found. found)))
parted word (Some parts) h =
    let some = h (omega arith) (λ w o found. found) in (lt-ltb _ _ some.2, some.0, some.1)

pub returns : goal.returns
returns c = parted c.args.word.now c.split_once.result c.split_once.ensures.byte
