-- Powers of two, odd steps round them, and what is one to one.
use Rattle.std.proofs.Common.{suc, zero, ℕ, ◌%◌, ◌*◌, ◌+◌, ◌-◌, ◌/◌, ◌<◌, ◌^◌, ◌∙◌, ◌≡◌, ◌≤◌, ◌⊎◌}
use Rattle.std.proofs.Common.{bit_or, count_ones, eq-eqb, eqb-true, ltb, pow-suc, pow_mono, pow_pos}
use Rattle.std.proofs.Common.{ap, arith, cond, eqb, inl, inr, IsTrue, mod-lt, refl, sym}
use Rattle.std.specs.{Int.Count.ones_step, Int.is_power_of_two}
use Rattle.std.proofs.{lemmas.Bool.Decides.nat_tests, Math.Decide.dec_lt}
use Rattle.std.proofs.lemmas.Nat.{ones_cat, ones_le_self, or_mod, zero_from_ones}
use Rattle.std.proofs.Math.Nat.{div-add-mod, dvd-mul_right, le_of_dvd, mul-sub}
use Rattle.dwp_table.specs.Table.{HasSlots, VisitsEachOnce}
use Rattle.dwp_table.proofs.Finding.{first_or_none}

-- ---- what has one set bit is a power of two
exponent_by : (d n : ℕ) → n ≤ d → count_ones n ≡ 1 → (k : ℕ) × (n ≡ 2 ^ k)
exponent_by zero n h e = absurd (omega (arith, ones_le_self n))
exponent_by (suc d) n h e =
    let s = ones_step n in
    elim (dec_lt (n % 2) 1) [
      | yes even ↦
          let half = exponent_by d (n / 2) (omega (arith, ones_le_self n)) (omega arith) in
          (suc half.0, omega (arith, pow-suc 2 half.0, half.1))
      | no odd ↦ let none = zero_from_ones (n / 2) (omega arith) in (0, omega arith)
    ]

pub exponent : (n : ℕ) → IsTrue (is_power_of_two n) → (k : ℕ) × (n ≡ 2 ^ k)
exponent n t = exponent_by n n (omega arith) (eqb-true _ _ t)

-- ---- an odd step
-- an odd factor takes no 2 away
odd_factor : (k d step q : ℕ) → step % 2 ≡ 1 → d * step ≡ 2 ^ k * q → (r : ℕ) × (d ≡ 2 ^ k * r)
odd_factor zero d step q odd e = (d, omega arith)
odd_factor (suc k) d step q odd e =
    let h = 2 ^ k * q - d * (step / 2) in
    let more = ap (λ x. x * q) (pow-suc 2 k) in
    let split : step ≡ 2 * (step / 2) + 1 = omega arith in
    let even : d ≡ 2 * h = omega (arith, e, more, ap (λ x. d * x) split) in
    let rest = odd_factor k h step q odd (omega (arith, e, more, ap (λ x. x * step) even)) in
    (rest.0, omega (arith, even, rest.1, ap (λ x. x * rest.0) (pow-suc 2 k)))

-- less than a round apart, no two places are one
apart : (size k start step i j : ℕ) → size ≡ 2 ^ k → step % 2 ≡ 1 → i < j → j < size
    → (start + i * step) % size ≡ (start + j * step) % size → ⊥
apart size k start step i j power odd less below same =
    let a = (start + i * step) / size in
    let b = (start + j * step) / size in
    let split : j ≡ i + (j - i) = omega arith in
    let here = div-add-mod (start + i * step) size in
    let there = div-add-mod (start + j * step) size in
    let rounds : (j - i) * step ≡ size * (b - a) =
    omega (arith, ap (λ x. x * step) split, mul-sub size b a, here, there) in
    let r = odd_factor k (j - i) step (b - a) odd (rw (← power) rounds) in
    let whole = le_of_dvd {m = 2 ^ k} {n = j - i} (omega arith)
    (rw r.1 (dvd-mul_right (2 ^ k) r.0)) in
    omega (arith, power, whole)

abbrev pub OneToOne : (ℕ → ℕ) → ℕ → Type 0
OneToOne f n = (i j : ℕ) → i < n → j < n → f i ≡ f j → i ≡ j

pub one_slot : (size start step : ℕ) → IsTrue (is_power_of_two size) → step % 2 ≡ 1
    → OneToOne (λ i. (start + i * step) % size) size
one_slot size start step power odd i j in_i in_j same =
    let k = exponent size power in
    let below = apart size k.0 start step i j k.1 odd in
    let above = apart size k.0 start step j i k.1 odd in
    grind (arith, below, above)

or_one : (r : ℕ) → r < 2 → bit_or r 1 ≡ 1
or_one zero h = refl
or_one (suc zero) h = refl
or_one (suc (suc r)) h = absurd (omega arith)

pub odd-or_one : (a : ℕ) → bit_or a 1 % 2 ≡ 1
odd-or_one a = or_mod a 1 1 ∙ or_one (a % 2) (omega arith)

-- ---- the pigeonhole principle
abbrev pub Into : (ℕ → ℕ) → ℕ → ℕ → Type 0
Into f n m = (i : ℕ) → i < n → f i < m

-- no more things than holes, where no two are in one
pub pigeonhole : (n m : ℕ) (f : ℕ → ℕ) → Into f n m → OneToOne f n → n ≤ m
pigeonhole zero m f into one = omega arith
pigeonhole (suc n) zero f into one = absurd (omega (arith, into n (omega arith)))
pigeonhole (suc n) (suc m) f into one = omega (
  arith,
  -- (what the last thing has is where one has m)
  pigeonhole n m (λ i. cond (eqb (f i) m) (f n) (f i))
      (λ i p. grind (arith, nat_tests, into i, into n, one i n))
      (λ i j p q e. grind (arith, nat_tests, one i j, one i n, one j n)),
)

-- ---- each hole is filled, where no two of as many things are in one
surjective : (n : ℕ) (f : ℕ → ℕ) (v : ℕ) → v < n → Into f n n → OneToOne f n → (i : ℕ)
    × (i < n) × (f i ≡ v)
surjective n f v below into one =
    elim (first_or_none (λ i. eqb (f i) v) n) [
      | inl w ↦ (w.0, w.1.within, eqb-true _ _ w.1.here)
      | inr none ↦
          let few = pigeonhole (suc n) n (λ i. cond (ltb i n) (f i) v)
          (λ i h. grind (arith, nat_tests, into i))
          (λ i j p q e. grind (arith, nat_tests, one i j, none i, none j)) in absurd (omega arith)
    ]

-- ---- going round by an odd step
pub visits_each_once : (size start step : ℕ) → IsTrue (is_power_of_two size) → step % 2 ≡ 1
    → VisitsEachOnce size start step
visits_each_once size start step power odd =
    let k = exponent size power in
    let pos : 0 < size = omega (arith, k.1, pow_pos k.0) in
    let once = one_slot size start step power odd in
    record {
      each = λ slot below. surjective size _ slot below (λ i p. mod-lt _ pos) once;
      once = once;
    }

-- ---- how many slots a table is written with
pub is_power : (k : ℕ) → IsTrue (is_power_of_two (2 ^ k))
is_power k =
    let shifted : 1 * 2 ^ k + 0 ≡ 2 ^ k = omega arith in
    let cut : count_ones (1 * 2 ^ k + 0) ≡ count_ones 1 + count_ones 0 =
    ones_cat k 1 0 (pow_pos k) in
    eq-eqb (count_ones (2 ^ k)) 1 (ap count_ones (sym shifted) ∙ cut ∙ omega
    (arith, ones_step 1, ones_le_self 0))

pub has_slots : (units size k : ℕ) → size ≡ 2 ^ suc k → (size ≡ 2) ⊎ (size ≤ units * 3)
    → 3 * units < 2 * size → HasSlots units size
has_slots units size k power least above = record {
  few = λ h. elim least [ inl e ↦ e | inr low ↦ omega (arith, power, pow-suc 2 k, pow_pos k) ];
  power = λ h. rw power (is_power (suc k));
  above = λ h. above;
  -- (a power below it is at most half of it)
  least = λ h other is more. let j = exponent other is in elim (dec_lt k j.0) [
    | yes p ↦ omega (arith, j.1, power, pow_mono {i = suc k} {j = j.0} (omega arith))
    | no p ↦ grind (arith, j.1, power, least, pow-suc 2 k, pow_mono {i = j.0} {j = k} (omega arith))
  ];
}
