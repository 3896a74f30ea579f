use Rattle.dwp_bytes.specs.Relocation.{ascends, begins_past, relocated_by, relocation_at, value_of}
use Rattle.std.proofs.lemmas.{Bool.cases_lt, List.Recursion.found_at, List.Recursion.found_nowhere}
use Rattle.std.proofs.Common.{inr, length, List, ltb-true, nat_cmp, ne_eqb, None, Ok, refl, rules}
use Rattle.std.proofs.Common.{arith, eqb, Err, false, get_or, inl, ◌+◌, ◌<◌, ◌∙◌, ◌∷◌, ◌≡◌, ◌≢◌}
use Rattle.std.proofs.lemmas.List.Sorted.{answers_always, IsNonDecreasingBy-from_all_adjacent}
use Rattle.{dwp_base.proofs.Bools.both, std.proofs.lemmas.Bool.Decides.nat_tests}
use Rattle.dwp_bytes.specs.declared.relocation.RelocationEntry.{RelocationEntry}
use Rattle.std.specs.{declared.cmp.Ordering.Ordering, Ordering.ordering_index}
use Rattle.std.specs.declared.cmp.Ordering.TheVariants.{Equal, Greater, Less}
use Rattle.std.specs.List.Sorted.{IsBinarySearchResult, IsNonDecreasingBy}
use Rattle.std.proofs.Common.{Some, suc, sym, true, zero, ℕ}
use Rattle.dwp_bytes.proofs.relocation.relocated.Goals as goal

-- each offset is below those further on
rising : (xs : List RelocationEntry) (i j : ℕ) (d : RelocationEntry) → ascends xs ≡ true → i < j
    → j < length xs → (get_or xs i d).offset < (get_or xs j d).offset
rising (x ∷ y ∷ xs) zero (suc zero) d ordered lt within = ltb-true _ _ (both _ _ ordered).0
rising (x ∷ y ∷ xs) zero (suc (suc j)) d ordered lt within =
    let parts = both _ _ ordered in
    let first : x.offset < y.offset = ltb-true _ _ parts.0 in
    let rest : y.offset < (get_or xs j d).offset = rising (y ∷ xs) zero (suc j) d parts.1
    (omega arith) (omega arith) in
    omega arith
rising (x ∷ xs) (suc i) (suc j) d ordered lt within = rising xs i j d
    (both (begins_past x.offset xs) (ascends xs) ordered).1 (omega arith) (omega arith)
rising xs i j d ordered lt within = absurd (omega arith)

not_equal : (a b : ℕ) (o : Ordering) → nat_cmp a b ≡ o → (o ≡ Equal → ⊥) → a ≢ b
not_equal a b o is other same = other (sym is ∙ grind (arith, nat_tests))

searchable : (xs : List RelocationEntry) (offset : ℕ) → ascends xs ≡ true → IsNonDecreasingBy (λ y.
    ordering_index (nat_cmp y.offset offset)) xs
searchable xs offset ordered = IsNonDecreasingBy-from_all_adjacent
    (λ y. ordering_index (nat_cmp y.offset offset)) xs (λ k d lt.
    let rises = rising xs k (k + 1) d ordered (omega arith) lt in grind (arith, nat_tests))

searched_Ok : (xs : List RelocationEntry) (offset stored i : ℕ) (d : RelocationEntry)
    → ascends xs ≡ true → i < length xs → IsBinarySearchResult (λ y.
    nat_cmp y.offset offset) xs (Ok i)
    → value_of (get_or xs i d).relocation stored ≡ relocated_by xs offset stored
unfolding relocated_by
searched_Ok xs offset stored i d ordered lt h =
    let here = h d in
    let at : (get_or xs i d).offset ≡ offset = grind (arith, nat_tests) in
    rw (found_at (λ (l : List RelocationEntry). relocation_at l offset) (λ x. eqb x.offset offset)
    (λ x. Some x.relocation) None refl (λ x l. refl) xs i d lt
    (λ k before. let less = rising xs k i d ordered before lt in grind (arith, nat_tests))
    (grind (arith, nat_tests))) refl

searched_Err : (xs : List RelocationEntry) (offset stored i : ℕ) → ascends xs ≡ true
    → IsBinarySearchResult (λ y. nat_cmp y.offset offset) xs (Err i) → stored ≡ relocated_by
    xs offset stored
unfolding relocated_by
searched_Err xs offset stored i ordered h =
    let parts = h (searchable xs offset ordered) in
    let d : RelocationEntry =
    record { offset = 0; relocation = record { addend = 0; implicit_addend = false } } in
    rw (found_nowhere (λ (l : List RelocationEntry). relocation_at l offset)
    (λ x. eqb x.offset offset) (λ x. Some x.relocation) None refl (λ x l. refl) xs d
    (λ k lt. ne_eqb _ _ (elim (cases_lt k i) [
      | inl low ↦ not_equal _ _ Less (parts.0 k d (omega arith) low) (λ e. absurd cc)
      | inr high ↦ not_equal _ _ Greater (parts.1 k d high lt) (λ e. absurd cc)
    ]))) refl

pub returns-in-Ok : goal.returns-in-Ok
returns-in-Ok c = rw c.value.ensures (searched_Ok _ _ _ _ _ c.requires c.in-Ok.ensures.bound
    (c.in-Ok.ensures.position (λ entry. entry.offset) (answers_always _ _ _ (λ f a r h called.
    search rules))))

pub returns-in-Err : goal.returns-in-Err
returns-in-Err c = searched_Err _ _ _ _ c.requires (c.in-Err.ensures.position (λ entry.
    entry.offset) (answers_always _ _ _ (λ f a r h called. search rules)))
