-- Sections taken one after the other, from the last.
use Rattle.dwp_macros.specs.Kept.{emptied, go, has_macros, kept_section, kept_sections, lose}
use Rattle.dwp_macros.specs.declared.kept.KeptMacros.{KeptMacros, TheVariants.All}
use Rattle.std.proofs.Common.{Bool, drop, false, if◌then◌else◌, length, List, refl, slice_get, Some}
use Rattle.std.proofs.Common.{ap, [], ℕ, ◌&&◌, ◌+◌, ◌||◌, ◌∙◌, ◌∷◌, ◌≡◌, ◌≤◌}
use Rattle.std.proofs.lemmas.Option.{get_or_from_slice_get, slice_get_within}
use Rattle.std.proofs.lemmas.{Bool.and_right, List.drop_all, List.drop_more}
use Rattle.{dwp_elf_read.specs.Elf.SectionMeaning, std.specs.List.list_any}

-- the items from the i-th on are it and those from the j-th on
pub drop_step : {X : Type 0} (xs : List X) (i j : ℕ) (x : X) → j ≡ i + 1 → slice_get xs i ≡ Some x
    → drop i xs ≡ x ∷ drop j xs
drop_step xs i j x n e =
    rw n (drop_more xs i x (slice_get_within xs i x e)
    ∙ ap (λ y. y ∷ drop (i + 1) xs) (get_or_from_slice_get xs i x x e))

-- an item from the i-th on passes
pub any_step : {X : Type 0} (p : X → Bool) (xs : List X) (i j : ℕ) (x : X) (here behind : Bool)
    → j ≡ i + 1 → slice_get xs i ≡ Some x → here ≡ p x → behind ≡ list_any p (drop j xs)
    → (here || behind) ≡ list_any p (drop i xs)
any_step p xs i j x here behind n e h b = rw (h, b, drop_step xs i j x n e) refl

module _ (kept : KeptMacros) (xs : List SectionMeaning) (i j : ℕ)
    (x : SectionMeaning) (behind : Bool) (next : j ≡ i + 1) (at : slice_get xs i ≡ Some x)
    (more : behind ≡ list_any has_macros (drop j xs)) where
  pub lose_step : (some here goes : Bool) → some ≡ lose kept (drop j xs)
      → here ≡ has_macros x → goes ≡ go kept behind
      → (some || (here && goes)) ≡ lose kept (drop i xs)
  unfolding lose
  lose_step some here goes s h g = rw (s, h, g, more, drop_step xs i j x next at) refl

  pub kept_step : (ys : List SectionMeaning) (y : SectionMeaning) → slice_get ys i ≡ Some y
      → (goes : Bool) → goes ≡ go kept behind → y ≡ (if has_macros x && goes then emptied x else x)
      → drop j ys ≡ kept_sections kept (drop j xs) → drop i ys ≡ kept_sections kept (drop i xs)
  unfolding kept_sections kept_section
  kept_step ys y is goes g e rest =
      rw (drop_step ys i j y next is, drop_step xs i j x next at, e, g, more, rest) refl

-- behind the last item there is none
pub any_end : {X : Type 0} (p : X → Bool) (xs : List X) (i : ℕ) → length xs ≤ i
    → false ≡ list_any p (drop i xs)
any_end p xs i h = rw (drop_all i xs h) refl

pub lose_end : (kept : KeptMacros) (xs : List SectionMeaning) (i : ℕ) → length xs ≤ i
    → false ≡ lose kept (drop i xs)
unfolding lose
lose_end kept xs i h = rw (drop_all i xs h) refl

pub kept_end : (kept : KeptMacros) (xs ys : List SectionMeaning) (i : ℕ) → length xs ≤ i
    → length ys ≤ i → drop i ys ≡ kept_sections kept (drop i xs)
unfolding kept_sections
kept_end kept xs ys i h k = rw (drop_all i ys k, drop_all i xs h) refl

-- where all macros are kept, none go
pub none_lose : (xs : List SectionMeaning) → lose All xs ≡ false
unfolding lose
none_lose [] = refl
none_lose (x ∷ xs) = rw (none_lose xs, and_right (has_macros x) false refl) refl
