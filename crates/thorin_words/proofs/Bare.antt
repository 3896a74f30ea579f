-- Words that name no file are told.
use Rattle.std.proofs.Common.{Ok, refl, [], ℕ, ◌≡◌, ◌≤◌}
use Rattle.std.proofs.Common.{arith, Err, IsUtf8, length, List, None, Option, rules, Some, sym, ◌*◌}
use Rattle.thorin_words.specs.Responses.{AreBare, Nothing, Outcome, Refusal, Spoils, Stands, Within}
use Rattle.thorin_words.specs.Responses.{CannotBeTold, Costs, End, Here, Later, Meets, Named, Plain}
use Rattle.thorin_words.specs.{declared.responses.ResponseError.ResponseError, Responses.name_in}
use Rattle.{std.proofs.lemmas.Option.none-some, thorin_words.specs.Responses.Word}
use Rattle.thorin_words.specs.declared.responses.ResponseError.TheVariants as errors

named : {name : List ℕ} → ¬ (Some name ≡ None)
named {name} is = none-some name (sym is)

module _ (offer : List ℕ → Option (List ℕ) → Type 0) where
  unmet : (P : List ℕ → Type 0) → ((word : List ℕ) → IsUtf8 word → name_in word ≡ None
      → ¬ (P word)) → (words : List (List ℕ)) → AreBare words → ¬ (Meets offer P words)
  unmet P never _ bare (Here word rest is) = never word bare.0 bare.1 is
  unmet P never _ bare (Later word rest meets) = unmet P never rest bare.2 meets
  unmet P never _ bare (Within name text rest offered meets) = named bare.1

  unrefused : (names words : List (List ℕ)) (out : Outcome) (refusal : Refusal) → AreBare words
      → Stands offer names words out → ¬ (out ≡ Err refusal)
  unrefused _ _ _ refusal bare (End _) is = search (rules, is)
  unrefused _ _ _ refusal bare (Plain _ _ _ (Ok own) plain stands) is = search (rules, is)
  unrefused _ _ _ refusal bare (Plain names rest _ (Err other) plain stands) is =
      unrefused names rest (Err other) other bare.2 stands refl
  unrefused _ _ _ refusal bare _ is = named bare.1

  cheap : (words : List (List ℕ)) (files bytes : ℕ) → AreBare words → Costs offer words files bytes
      → (files ≡ 0) × (bytes ≤ 32 * length words)
  cheap _ _ _ bare (Nothing _) = (refl, omega arith)
  cheap _ _ _ bare (Word _ rest files bytes plain costs) =
      let k = cheap rest files bytes bare.2 costs in (k.0, omega (arith, k.1))
  cheap _ _ _ bare (Named _ _ _ _ _ _ _ offered costs more) = absurd (named bare.1)

  module _ (fails : List ℕ → ResponseError → Type 0) (line : List (List ℕ)) (bare : AreBare line)
      (short : length line ≤ 2097152) where
    pub told : (e : ResponseError) → CannotBeTold offer fails line e → e ≡ errors.Memory
    told (errors.Inside name) k = absurd (unrefused [] line _ _ bare k refl)
    told (errors.TooDeep name) k = absurd (unrefused [] line _ _ bare k refl)
    told errors.Unreadable k = absurd (unmet (Spoils fails errors.Unreadable)
        (λ word utf8 none spoils. named (rw spoils.1 at none)) line bare k)
    told errors.NotUtf8 k =
        absurd (unmet (Spoils fails errors.NotUtf8) (λ word utf8 none bad. bad utf8) line bare k)
    told errors.TooMany (count, size, costs, many) =
        let k = cheap line count size bare costs in absurd (omega (arith, k.0, many))
    told errors.TooLong (count, size, costs, long) =
        let k = cheap line count size bare costs in absurd (omega (arith, k.1, long, short))
    told errors.Memory k = refl
