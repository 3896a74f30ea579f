-- What is read of a peer's line: its name, and its words with whole names.
use Rattle.std.proofs.Common.{ap, false, [], ℕ, ◌==◌, ◌≢◌, ◌≤◌}
use Rattle.std.proofs.Common.{ap₂, drop, None, refl, Some, sym, take, ◌++◌, ◌+◌, ◌<◌, ◌∙◌, ◌∷◌, ◌≡◌}
use Rattle.std.proofs.Common.{arith, get_or, is_some, length, MatchOption, Option, take-append-drop}
use Rattle.std.proofs.lemmas.Str.Pattern.{drop_at_char, NoCharPasses-char}
use Rattle.std.specs.{Borrow.Bor, Prelude.if◌then◌else◌, Prelude.option_map, Str.Pattern.RFindsChar}
use Rattle.thorin_arguments.specs.Peers.{last_part, last_part_in}
use Rattle.{clap.proofs.CutLemmas.list_any-Lacks, std.proofs.lemmas.Bool.Decides.nat_tests}
use Rattle.{clap.specs.Walk.Text, std.specs.List.list_any}

pub kept : {X Y : Type 0} (f : X → Y) (o : Option X) → is_some o ≡ is_some (option_map f o)
kept f o = grind arith

-- ---- the last part of a path

pub last_part-none : (mark : ℕ) (part text : Text) → list_any (λ x. x == mark) text ≡ false
    → last_part_in mark part text ≡ part
last_part-none mark part [] lacks = refl
last_part-none mark part (b ∷ rest) lacks = grind (arith, last_part-none mark part rest)

pub last_part-behind : (mark : ℕ) (part front rest : Text)
    → last_part_in mark part (front ++ mark ∷ rest) ≡ last_part mark rest
last_part-behind mark part [] rest = grind (arith, nat_tests)
last_part-behind mark part (b ∷ front) rest =
    last_part-behind mark (if b == mark then front ++ mark ∷ rest else part) front rest

-- what stands on both sides of the last of a mark, where there is one
pub last_part-cut : (mark : ℕ) (text : Text) (r : Option (Bor Text × Bor Text)) → mark < 128
    → MatchOption r (RFindsChar mark text None) (λ x. (i : ℕ) × (j : ℕ)
    × RFindsChar mark text (Some (i, j)) × (x.0.now ≡ take i text) × (x.1.now ≡ drop j text)
    × (i ≤ j) × (length x.0.now ≡ i) × (length x.1.now + j ≡ length text))
    → MatchOption r (last_part mark text ≡ text) (λ x. (last_part mark text ≡ x.1.now)
    × (text ≡ x.0.now ++ mark ∷ x.1.now))
last_part-cut mark text None low h = last_part-none mark text text
    (list_any-Lacks mark text (λ i. NoCharPasses-char mark text i h low))
last_part-cut mark text (Some (front, rest)) low h =
    let parts : text ≡ front.now ++ mark ∷ rest.now = sym (take-append-drop h.0 text)
    ∙ (ap₂ (λ a b. a ++ b) (sym h.3)
    (drop_at_char mark text h.0 h.1 h.2.1 low ∙ ap (λ l. mark ∷ l) (sym h.4))) in
    let lacks : (i : ℕ) → i < length rest.now → get_or rest.now i 0 ≢ mark = λ i.
    NoCharPasses-char mark rest.now i (rw h.4 h.2.0) low in (
      ap (last_part_in mark text) parts ∙ last_part-behind mark text front.now rest.now
          ∙ last_part-none mark rest.now rest.now (list_any-Lacks mark rest.now lacks),
      parts,
    )
