-- Names that are cut.
use Rattle.std.proofs.Common.{arith, codes, drop, IsCharBoundary, List, slice_range, suc, zero, ◌*◌}
use Rattle.std.proofs.Common.{length, ℕ, ◌++◌, ◌+◌, ◌-◌, ◌<◌, ◌≡◌, ◌≤◌}
use Rattle.std.{proofs.lemmas.Bool.Decides.nat_tests, specs.Fmt.Cut.floor_char_boundary}
use Rattle.{std.proofs.Math.Nat.sub-zero, thorin_print.specs.Shown.cut}

-- what `floor_char_boundary` ensures fixes its result
floor_is : (bs : List ℕ) (i kept : ℕ) → i < length bs → kept ≤ i → IsCharBoundary bs kept
    → ((j : ℕ) → kept < j → j ≤ i → ¬ (IsCharBoundary bs j)) → floor_char_boundary bs i ≡ kept
unfolding floor_char_boundary
floor_is bs zero kept within low boundary nearest = omega arith
floor_is bs (suc i) kept within low boundary nearest =
    grind (arith, nat_tests, nearest (suc i), floor_is bs i kept)

pub is_whole : (end : ℕ) (name : List ℕ) → length name ≤ 2 * end + 2 → name ≡ cut end name
unfolding cut
is_whole end name h = grind (arith, nat_tests)

module _ (end : ℕ) (some : 0 < end) (name front back : List ℕ) (first last : ℕ)
    (long : 2 * end + 2 < length name) (bound : first ≤ end) (boundary : IsCharBoundary name first)
    (nearest : (j : ℕ) → first < j → j ≤ end → ¬ (IsCharBoundary name j))
    (bound-2 : last ≤ length name - end) (boundary-2 : IsCharBoundary name last)
    (nearest-2 : (j : ℕ) → last < j → j ≤ length name - end → ¬ (IsCharBoundary name j))
  where
    pub is_cut : front ≡ slice_range name 0 first → back ≡ drop last name
        → front ++ (codes ".." ++ back) ≡ cut end name
    unfolding cut
    is_cut f b =
        let begins = floor_is name end first (omega arith) bound boundary nearest in
        let ends = floor_is name (length name - end) last (omega arith) bound-2 boundary-2
        nearest-2 in
        grind (arith, nat_tests, sub-zero first)
