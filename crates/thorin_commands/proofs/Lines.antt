-- Lines that stand among a writer's bytes.
use Rattle.std.proofs.Common.{[], IfSome, IsSome, None, Option, option_map, refl, rules, Some, ◌++◌}
use Rattle.std.{proofs.Common.List, proofs.Common.ℕ, proofs.Common.◌≡◌, specs.Io.KnownBytes.Appends}
use Rattle.thorin_print.specs.{Answers.Grows, Failures.error_line}
use Rattle.std.proofs.lemmas.List.{append-nil, append_assoc}
use Rattle.thorin_commands.specs.Cause.{HasLine, Tells}
use Rattle.thorin_words.specs.Printed as words

-- known bytes stay known
known : (old new : Option (List ℕ)) (bytes : List ℕ) → IsSome old → Appends old new bytes
    → (xs : List ℕ) × (old ≡ Some xs) × (new ≡ Some (xs ++ bytes))
known None new bytes i h = search (rules, i)
known (Some xs) None bytes i h = absurd h
known (Some xs) (Some ys) bytes i h = (xs, refl, rw h refl)

module _ {W : Type 0} (contents : W → Option (List ℕ)) where
  -- a line that was printed
  pub printed : (old new : W) (text : List ℕ)
      → Appends (contents old) (contents new) (error_line text) → HasLine contents new text
  unfolding HasLine
  printed old new text h = λ all.
      let k = known (contents old) (contents new) (error_line text) (all old) h in
      (k.0, [], rw (append-nil (error_line text)) k.2)

  -- and more behind it
  kept : (old new : W) (text more : List ℕ) → HasLine contents old text
      → Appends (contents old) (contents new) more → HasLine contents new text
  unfolding HasLine
  kept old new text more h a = λ all.
      let k = known (contents old) (contents new) more (all old) a in
      let l = h all in
      let same : k.0 ≡ l.0 ++ (error_line text ++ l.1) = cc (k.1, l.2) in
      (l.0, l.1 ++ more, rw (k.2, same, append_assoc, append_assoc) refl)

  pub followed : (old new : W) (text : Option (List ℕ)) → Tells contents old text
      → Grows (contents old) (contents new) → Tells contents new text
  followed old new None h g = tt
  followed old new (Some text) h g = kept old new text g.0 h g.1

  -- the line of a text that was made of an error, where that is known
  pub told : (writer : W) (text : Option (List ℕ)) (made shown : List ℕ)
      → IfSome text (λ known. made ≡ known) → shown ≡ words.printed made
      → HasLine contents writer shown → Tells contents writer (option_map words.printed text)
  told writer None made shown same is h = tt
  told writer (Some text) made shown same is h = rw (is, same) at h
