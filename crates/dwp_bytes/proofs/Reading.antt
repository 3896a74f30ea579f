-- The first byte of a value, as a search gives it. Readings made of others: what is left stands
-- behind what was read, and the same is read wherever the bytes stand and whatever bytes are left.
-- And reading a number of variable length byte by byte.
use Rattle.std.proofs.Common.{take, take-add, take-append-drop, to_z, true, w64, zero, ℕ, ℤ, ⊎_elim}
use Rattle.std.proofs.Common.{le-ltb, length, length-drop, length-take, List, lt-ltb, ltb, negsuc}
use Rattle.std.proofs.Common.{[], ◌*ℤ◌, ◌*◌, ◌++◌, ◌+ℤ◌, ◌+◌, ◌-ℤ◌, ◌-◌, ◌<◌, ◌^◌, ◌∙◌, ◌∷◌, ◌≡◌}
use Rattle.std.proofs.Common.{add-zero, add_assoc, All, ap, append_assoc, arith, Bool, ◌≢◌, ◌≤◌}
use Rattle.std.proofs.Common.{of_z, Ok, ok_or, Option, pos, refl, Result, Some, subst, suc, sym}
use Rattle.{dwp_bytes.specs.declared.error.ReadError.ReadError, std.proofs.Math.IntN.pos-*ℤ-pos}
use Rattle.std.proofs.Common.{cond, drop, drop-drop, eq-eqb, Err, false, get_or-take, inl, inr}
use Rattle.std.proofs.Math.{IntN.pos-*ℤ-negsuc, Nat.mul-le-mul_right, Nat.pow-le-pow_right}
use Rattle.std.proofs.lemmas.{Bool.cases_lt, Grind.pow_more, Int.ints, List.get_or_default}
use Rattle.dwp_bytes.specs.declared.error.ReadError.TheVariants.{BigLeb, NoTerminator}
use Rattle.dwp_bytes.specs.Leb.{is_i64, leb_at, signed_leb_at, sleb_at, uleb_at}
use Rattle.dwp_base.proofs.{Bools.by-bool, Finds.position_is, Steps.bind-was}
use Rattle.dwp_bytes.specs.Input.{after, byte_at, found_at, Goes, Input}
use Rattle.memchr.specs.Find.{is_byte, IsFirstByte}
use Rattle.dwp_base.specs.Reading.{Answers, ◌>>=◌}

answers_same : (r m : Result ℕ ReadError) → r ≡ m → Answers (λ x. x) r m
answers_same (Ok x) m e = sym e
answers_same (Err x) m e = sym e

-- what a search over the bytes answers
pub found_is : (byte : ℕ) (now bytes : List ℕ) (r : Option ℕ) (result : Result ℕ ReadError)
    → now ≡ bytes → IsFirstByte (is_byte byte) now r → result ≡ ok_or r NoTerminator
    → Answers (λ x. x) result (found_at byte bytes)
unfolding found_at
found_is byte now bytes r result same first is =
    answers_same result _ (rw (is, ← same, position_is byte now r first) refl)

-- before the zero that a search found there is none
pub zero_free : (xs : List ℕ) (end : ℕ) → IsFirstByte (is_byte 0) xs (Some end)
    → All (λ b. b ≢ 0) (take end xs)
zero_free xs end h = λ k d below same.
    (let short : k < end = omega (arith, length-take end xs) in
    let within : k < length xs = omega (arith, h.0.high) in
    h.0.before k (omega arith) short (eq-eqb _ 0 (get_or_default xs k 0 d within
    ∙ sym (get_or-take end xs k d short) ∙ same)))

-- ---- what is known of an answer

-- whatever is read is so
pub record Gives (A : Type 0) (r : Result A ReadError) (P : A → Type 0) : Type 0 where
  pub gives : (x : A) → r ≡ Ok x → P x

pub then_gives : {A B : Type 0} {r : Result A ReadError} {f : A → Result B ReadError}
    {Q : A → Type 0} {P : B → Type 0} → Gives A r Q → ((x : A) → Q x → Gives B (f x) P)
    → Gives B (r >>= f) P
then_gives {r = r} {f = f} first second = record {
  gives = λ y e. let x = bind-was r f y e in (second x.0 (first.gives x.0 x.1)).gives y x.2;
}

pub more_gives : {A : Type 0} {r : Result A ReadError} {Q P : A → Type 0} → Gives A r Q
    → ((x : A) → Q x → P x) → Gives A r P
more_gives g more = record { gives = λ x e. more x (g.gives x e) }

pub value_gives : {A : Type 0} {x : A} {P : A → Type 0} → P x → Gives A (Ok x) P
value_gives {x = x} {P = P} p = record { gives = λ y e. let same : x ≡ y = cc in subst P same p }

pub error_gives : {A : Type 0} {e : ReadError} {P : A → Type 0} → Gives A (Err e) P
error_gives = record { gives = λ y e. absurd cc }

pub test_gives : {A : Type 0} {x y : Result A ReadError} {P : A → Type 0} (b : Bool)
    → (b ≡ true → Gives A x P) → (b ≡ false → Gives A y P) → Gives A (cond b x y) P
test_gives true one other = one refl
test_gives false one other = other refl

-- it is the answer
pub was : {A : Type 0} (r : Result A ReadError) → Gives A r (λ x. r ≡ Ok x)
was r = record { gives = λ x e. e }

-- by whether it is an answer
pub by-result : {A E : Type 0} (P : Type 0) (r : Result A E) → ((x : A) → r ≡ Ok x → P)
    → ((e : E) → r ≡ Err e → P) → P
by-result P (Ok x) ok error = ok x refl
by-result P (Err e) ok error = error e refl

-- ---- going forward

-- how many bytes are left
abbrev pub size : Input → ℕ
size i = length i.bytes

abbrev pub goes_after : {i : Input} (n : ℕ) → n ≤ length i.bytes → Goes n i (after n i)
goes_after n fits = record { taken = n; some = omega arith; enough = fits; is = refl }

pub after-zero : (i : Input) → after 0 i ≡ i
after-zero i = rw add-zero refl

abbrev pub goes_none : {i : Input} → Goes 0 i i
goes_none {i} = record {
  taken = 0;
  some = omega arith;
  enough = omega arith;
  is = sym (after-zero i);
}

abbrev pub goes_least : {m n : ℕ} {i j : Input} → m ≤ n → Goes n i j → Goes m i j
goes_least le g =
    record { taken = g.taken; some = omega (arith, g.some); enough = g.enough; is = g.is }

abbrev pub goes_some : {n : ℕ} {i j : Input} → Goes n i j → Goes 0 i j
goes_some g = goes_least (omega arith) g

pub after-after : (m n : ℕ) (i : Input) → after n (after m i) ≡ after (m + n) i
after-after m n i = rw (drop-drop n m i.bytes, add_assoc i.place m n) refl

abbrev pub goes_then : {m n : ℕ} {i j k : Input} → Goes m i j → Goes n j k → Goes m i k
goes_then {i = i} p q = record {
  taken = p.taken + q.taken;
  some = omega (arith, p.some);
  enough = omega (arith, p.enough, q.enough, ap size p.is, length-drop p.taken i.bytes);
  is = q.is ∙ ap (after q.taken) p.is ∙ after-after p.taken q.taken i;
}

-- what was taken is no longer left
pub goes_length : {n : ℕ} {i j : Input} → Goes n i j → length j.bytes + n ≤ length i.bytes
goes_length {i = i} g = omega (arith, g.some, g.enough, ap size g.is, length-drop g.taken i.bytes)

-- ---- the same bytes elsewhere, and with others behind them

abbrev pub Answer : Type 0 → Type 0
Answer A = Result (A × Input) ReadError

-- at least so many bytes are taken, and say the same wherever they stand and whatever is left
-- behind them
pub record Takes (least : ℕ) (i left : Input) (Says : Input → Input → Type 0) : Type 0 where
  pub goes : Goes least i left
  pub anyway : (j : Input) (rest : List ℕ)
      → Says (record j { bytes = take goes.taken i.bytes ++ rest })
      (record j { place = j.place + goes.taken; bytes = rest })

pub takes_then : {m n : ℕ} {i j k : Input} {P Q R : Input → Input → Type 0} → Takes m i j P
    → Takes n j k Q → ((a b c : Input) → P a b → Q b c → R a c) → Takes m i k R
takes_then {i = i} {j = j} p q both = record {
  goes = goes_then p.goes q.goes;
  anyway = λ at rest. let left : j.bytes ≡ drop p.goes.taken i.bytes =
      ap (λ (x : Input). x.bytes) p.goes.is in
      let place = add_assoc at.place p.goes.taken q.goes.taken in
      rw (take-add p.goes.taken q.goes.taken i.bytes, append_assoc, ← left, ← place)
      (both _ _ _ (p.anyway at (take q.goes.taken j.bytes ++ rest))
      (q.anyway (record at { place = at.place + p.goes.taken }) rest));
}

-- they say it where the same bytes stand
pub takes_there : {least : ℕ} {i left : Input} {Says : Input → Input → Type 0}
    → Takes least i left Says → (j : Input) → j.bytes ≡ i.bytes
    → (k : Input) × (k.bytes ≡ left.bytes) × Says j k
takes_there {i = i} t j same = (
  after t.goes.taken j,
  rw (t.goes.is, same) refl,
  rw (take-append-drop t.goes.taken i.bytes, ← same) at
      (t.anyway j (drop t.goes.taken i.bytes)),
)

-- a reading takes at least so many bytes, or refuses them wherever they stand
pub record Reads (least : ℕ) (A : Type 0) (read : Input → Answer A) : Type 0 where
  pub reads : (i : Input)
      → Gives (A × Input) (read i) (λ x. Takes least i x.1 (λ j k. read j ≡ Ok (x.0, k)))
  pub fails : (i j : Input) → j.bytes ≡ i.bytes → (e : ReadError) → read i ≡ Err e
      → read j ≡ Err e

-- what is told of what was read is told wherever the bytes stand, unless it goes by the place
pub told_there : {n : ℕ} {A B : Type 0} {read : Input → Answer A} → Reads n A read
    → (f : A × Input → Result B ReadError)
    → ((a : A) (i j : Input) → j.bytes ≡ i.bytes → f (a, j) ≡ f (a, i)) → (i j : Input)
    → j.bytes ≡ i.bytes → (read j >>= f) ≡ (read i >>= f)
told_there {read = read} r f alike i j same = by-result _ (read i)
    (λ x is. let there = takes_there ((r.reads i).gives x is) j same in
    rw (is, there.2) (alike x.0 x.1 there.0 there.1))
    (λ e is. rw (is, r.fails i j same e is) refl)

pub then_reads : {m n : ℕ} {A B : Type 0} {read : Input → Answer A} (next : A × Input → Answer B)
    → Reads m A read → ((a : A) → Reads n B (λ i. next (a, i))) → Reads m B (λ i. read i >>= next)
then_reads {read = read} next first second = record {
  reads = λ i. then_gives (first.reads i) (λ x p. more_gives ((second x.0).reads x.1) (λ y q.
      takes_then p q (λ a b c e f. rw e f)));
  fails = λ i j same e h. by-result _ (read i)
      (λ x is. let there = takes_there ((first.reads i).gives x is) j same in
      rw there.2 ((second x.0).fails x.1 there.0 there.1 e (rw is at h)))
      (λ d is. rw (first.fails i j same d is) (rw is at h));
}

pub value_reads : {A : Type 0} {a : A} → Reads 0 A (λ i. Ok (a, i))
value_reads = record {
  reads = λ i. value_gives (record { goes = goes_none; anyway = λ j rest. rw add-zero refl });
  fails = λ i j same e h. absurd cc;
}

pub error_reads : {n : ℕ} {A : Type 0} {e : ReadError} → Reads n A (λ i. Err e)
error_reads = record { reads = λ i. error_gives; fails = λ i j same e h. h }

pub test_reads : {n : ℕ} {A : Type 0} {one other : Input → Answer A} (b : Bool) → Reads n A one
    → Reads n A other → Reads n A (λ i. cond b (one i) (other i))
test_reads true f g = f
test_reads false f g = g

pub some_reads : {n : ℕ} {A : Type 0} {read : Input → Answer A} → Reads n A read → Reads 0 A read
some_reads r = record {
  reads = λ i. more_gives (r.reads i) (λ x t.
      record { goes = goes_some t.goes; anyway = t.anyway });
  fails = r.fails;
}

-- a reading goes forward
pub goes : {n : ℕ} {A : Type 0} {read : Input → Answer A} → Reads n A read → (i : Input)
    → Gives (A × Input) (read i) (λ x. Goes n i x.1)
goes r i = more_gives (r.reads i) (λ x t. t.goes)

pub reads_byte : Reads 1 ℕ byte_at
unfolding byte_at
reads_byte = record {
  reads = λ i. elim i.bytes as (λ l. Gives (ℕ × Input) (byte_at (record i { bytes = l }))
      (λ x. Takes 1 (record i { bytes = l }) x.1 (λ j k. byte_at j ≡ Ok (x.0, k)))) [
        | [] ↦ error_gives
        | b ∷ bs ↦ rw (le-ltb (suc (length bs)) 1 (omega arith)) (value_gives (record {
          goes = goes_after 1 (omega arith);
          anyway = λ j rest. rw (le-ltb (suc (length rest)) 1 (omega arith)) refl;
        }))
      ];
  fails = λ i j same e h. by-bool _ (ltb (length i.bytes) 1) (λ none. rw (same, none)
      (rw none at h)) (λ some. let never = rw some at h in absurd cc);
}

reads_leb : (n : ℕ) → Reads 1 ℕ (leb_at n)
unfolding leb_at
reads_leb zero = error_reads
reads_leb (suc n) = then_reads _ reads_byte (λ b. test_reads (ltb b 128) value_reads
    (some_reads (then_reads _ (reads_leb n) (λ r. value_reads))))

pub reads_uleb : Reads 1 ℕ uleb_at
unfolding uleb_at
reads_uleb = then_reads _ (reads_leb 10) (λ n. test_reads (ltb n (2 ^ 64)) value_reads error_reads)

reads_signed : (n : ℕ) → Reads 1 ℤ (signed_leb_at n)
unfolding signed_leb_at
reads_signed zero = error_reads
reads_signed (suc n) = then_reads _ reads_byte (λ b. test_reads (ltb b 64) value_reads
    (test_reads (ltb b 128) value_reads (some_reads (then_reads _ (reads_signed n) (λ r.
    value_reads)))))

pub reads_sleb : Reads 1 ℤ sleb_at
unfolding sleb_at
reads_sleb = then_reads _ (reads_signed 10) (λ n. test_reads (is_i64 n) value_reads error_reads)

-- ---- what fits
pub small : (k scale : ℕ) → scale ≡ 128 ^ k → k < 9 → scale ≤ 128 ^ 8
small k scale e lt = let here : 128 ^ k ≤ 128 ^ 8 = pow-le-pow_right {n = 128} (omega arith) {i = k}
    {j = 8} (omega arith) in omega (arith, e, here)

-- seven bits more before the tenth byte
pub seven_more : (k value scale low : ℕ) → scale ≡ 128 ^ k → k < 9 → value < scale → low ≤ 127
    → value + low * scale < 2 ^ 63
seven_more k value scale low scaled lt below high =
    omega (arith, small k scale scaled lt, mul-le-mul_right {m = low} {n = 127} scale high)

-- ---- numbers of either kind, by how those of some bytes are read, and what a number is behind a
-- value
module _ {N : Type 0} (read : ℕ → Input → Result (N × Input) ReadError) (behind : ℕ → ℕ → N
    → N) where
  -- what was read before, and what is still read
  abbrev pub carried : ℕ → ℕ → Result (N × Input) ReadError → Result (N × Input) ReadError
  carried value scale r = r >>= λ rest. Ok (behind value scale rest.0, rest.1)

  -- k bytes of the number that begins at first were read: they say value, and it goes on at i
  pub record SoFar (first i : Input) (k value scale : ℕ) : Type 0 where
    pub scaled : scale ≡ 128 ^ k
    pub below : value < scale
    pub rest : carried value scale (read (10 - k) i) ≡ read 10 first

  module _ {first i : Input} {k value scale : ℕ} (far : SoFar first i k value scale) where
    -- the number is what the rest of it says
    pub whole : (r : Result (N × Input) ReadError) → k < 10 → read (suc (9 - k)) i ≡ r
        → read 10 first ≡ carried value scale r
    whole r lt is =
        let n : 10 - k ≡ suc (9 - k) = omega arith in
        sym far.rest ∙ rw (n, is) refl

    pub one_more : ((value scale low : ℕ) (n : N) → behind value scale (behind low 128 n) ≡ behind
        (value + low * scale) (scale * 128) n) → (b : ℕ) (j : Input) → k < 9
        → read (suc (9 - k)) i ≡ carried (b - 128) 128 (read (9 - k) j) → b < 256
        → SoFar first j (k + 1) (value + (b - 128) * scale) (scale * 128)
    one_more twice b j lt is high =
        let n : 10 - (k + 1) ≡ 9 - k = omega arith in
        let low : (b - 128) * scale ≤ 127 * scale = mul-le-mul_right scale (omega arith) in
        record {
          scaled = rw (far.scaled, pow_more 128 k) refl;
          below = omega (arith, low, far.below);
          rest = rw n (sym (both (read (9 - k) j)) ∙ sym (whole _ (omega arith) is));
        }
      where
        both : (r : Result (N × Input) ReadError) → carried value scale
            (carried (b - 128) 128 r) ≡ carried (value + (b - 128) * scale) (scale * 128) r
        both (Ok x) = ap (λ n. Ok (n, x.1)) (twice value scale (b - 128) x.0)
        both (Err e) = refl

module _ {N : Type 0} {read : ℕ → Input → Result (N × Input) ReadError} {behind : ℕ → ℕ → N → N}
    {first i : Input} {k value scale : ℕ} (far : SoFar read behind first i k value scale) where
  -- seven more bits fit before the tenth byte
  pub fits : (low : ℕ) → k < 9 → low ≤ 127 → value + low * scale < 2 ^ 63
  fits low lt high = seven_more k value scale low far.scaled lt far.below high

  -- and one more bit after nine
  pub last_fits : (low : ℕ) → k ≡ 9 → low ≤ 1 → value + low * scale < 2 ^ 64
  last_fits low nine high = let scaled = far.scaled ∙ ap (λ n. 128 ^ n) nine in
      omega (arith, far.below, scaled, mul-le-mul_right {m = low} {n = 1} scale high)

-- ---- unsigned numbers
abbrev pub unsigned : ℕ → ℕ → ℕ → ℕ
unsigned value scale n = value + scale * n

goes_on : (n : ℕ) (i : Input) (b : ℕ) (j : Input) → byte_at i ≡ Ok (b, j) → 128 ≤ b
    → leb_at (suc n) i ≡ carried leb_at unsigned (b - 128) 128 (leb_at n j)
unfolding leb_at
goes_on n i b j read low = rw (read, le-ltb b 128 low) refl

no_byte : (n : ℕ) (i : Input) (e : ReadError) → byte_at i ≡ Err e → leb_at (suc n) i ≡ Err e
unfolding leb_at
no_byte n i e read = rw read refl

none_left : (i : Input) → leb_at 0 i ≡ Err BigLeb
unfolding leb_at
none_left i = refl

module _ {first i : Input} {k value scale : ℕ}
    (far : SoFar leb_at unsigned first i k value scale) where
  pub more : {b : ℕ} {j : Input} → k < 9 → byte_at i ≡ Ok (b, j) → 128 ≤ b → b < 256
      → SoFar leb_at unsigned first j (k + 1) (value + (b - 128) * scale) (scale * 128)
  more {b} {j} lt read low high =
      one_more leb_at unsigned far (λ value scale low n. omega arith) b j lt
      (goes_on (9 - k) i b j read low) high

  ends : (b : ℕ) (j : Input) → k < 10 → byte_at i ≡ Ok (b, j) → b < 128
      → leb_at 10 first ≡ Ok (value + b * scale, j)
  unfolding leb_at
  ends b j lt read last = whole leb_at unsigned far (Ok (b, j)) lt
      (rw (read, lt-ltb b 128 last) refl) ∙ ap (λ (n : ℕ). Ok (n, j)) (omega arith)

  pub uleb_ends : {b : ℕ} {j : Input} → k < 10 → byte_at i ≡ Ok (b, j) → b < 128
      → value + b * scale < 2 ^ 64 → uleb_at first ≡ Ok (value + b * scale, j)
  unfolding uleb_at
  uleb_ends {b} {j} lt read last fits =
      rw (ends b j lt read last, lt-ltb (value + b * scale) (2 ^ 64) fits) refl

  pub uleb_fails : {e : ReadError} → k < 10 → byte_at i ≡ Err e → uleb_at first ≡ Err e
  unfolding uleb_at
  uleb_fails {e} lt read = rw (whole leb_at unsigned far (Err e) lt (no_byte (9 - k) i e read)) refl

  pub uleb_big : {b : ℕ} {j : Input} → k ≡ 9 → byte_at i ≡ Ok (b, j) → 1 < b
      → uleb_at first ≡ Err BigLeb
  unfolding uleb_at
  uleb_big {b} {j} nine read big =
      let none : 9 - k ≡ 0 = omega arith in
      let tenth : k < 10 = omega arith in
      ⊎_elim
      (λ last.
      let scaled = far.scaled ∙ ap (λ n. 128 ^ n) nine in
      let over : 2 ^ 64 ≤ value + b * scale =
      omega (arith, scaled, mul-le-mul_right {m = 2} {n = b} scale big) in
      rw (ends b j tenth read last, le-ltb _ _ over) refl)
      (λ low. rw (whole leb_at unsigned far (Err BigLeb) tenth (goes_on (9 - k) i b j read
      low ∙ rw (none, none_left j) refl)) refl)
      (cases_lt b 128)

-- ---- signed numbers behind a value
abbrev pub signed : ℕ → ℕ → ℤ → ℤ
signed value scale z = pos value +ℤ pos scale *ℤ z

-- a difference, so many times
scaled_less : (s a b : ℕ) → pos s *ℤ (pos a -ℤ pos b) ≡ pos (s * a) -ℤ pos (s * b)
scaled_less s a b = elim (cases_lt a b) [
  | inl lt ↦
      let e : pos a -ℤ pos b ≡ negsuc (b - suc a) = omega (arith, ints) in
      let h : suc (b - suc a) + a ≡ b = omega arith in
      rw (e, pos-*ℤ-negsuc s (b - suc a)) (omega (arith, ints, ap (λ x. s * x) h))
  | inr le ↦
      let e : pos a -ℤ pos b ≡ pos (a - b) = omega (arith, ints) in
      let h : (a - b) + b ≡ a = omega arith in
      rw (e, pos-*ℤ-pos s (a - b)) (omega (arith, ints, ap (λ x. s * x) h))
]

two_steps : (value scale low : ℕ) (z : ℤ) → signed value scale (signed low 128 z) ≡ signed
    (value + low * scale) (scale * 128) z
two_steps value scale low (pos n) = ap (λ (m : ℕ). pos m) (omega arith)
two_steps value scale low (negsuc n) =
    let e : pos low +ℤ pos 128 *ℤ negsuc n ≡ pos low -ℤ pos (128 * suc n) = omega (arith, ints) in
    let d = scaled_less scale low (128 * suc n) in
    ap (λ (z : ℤ). pos value +ℤ pos scale *ℤ z) e ∙ (ap (λ (z : ℤ). pos value +ℤ z) d ∙
    omega (arith, ints))

last_high : (value scale b : ℕ) → b ≤ 128 → signed value scale (pos b -ℤ pos 128) ≡ pos value
    -ℤ pos ((128 - b) * scale)
last_high value scale b le =
    let h : (128 - b) + b ≡ 128 = omega arith in
    ap (λ (z : ℤ). pos value +ℤ z) (scaled_less scale b 128)
    ∙ omega (arith, ints, ap (λ (x : ℕ). x * scale) h)

is_i64_less : (v w : ℕ) → v < 2 ^ 63 → w ≤ 2 ^ 63 → is_i64 (pos v -ℤ pos w) ≡ true
is_i64_less v w low high =
    elim (cases_lt v w) [
      | inl lt ↦ let e : pos v -ℤ pos w ≡ negsuc (w - suc v) = omega (arith, ints) in
          rw e (lt-ltb (w - suc v) (2 ^ 63) (omega arith))
      | inr le ↦ let e : pos v -ℤ pos w ≡ pos (v - w) = omega (arith, ints) in
          rw e (lt-ltb (v - w) (2 ^ 63) (omega arith))
    ]

-- ---- one step of the definition
signed_goes_on : (n : ℕ) (i : Input) (b : ℕ) (j : Input) → byte_at i ≡ Ok (b, j) → 128 ≤ b
    → signed_leb_at (suc n) i ≡ carried signed_leb_at signed (b - 128) 128 (signed_leb_at n j)
unfolding signed_leb_at
signed_goes_on n i b j read low = rw (read, le-ltb b 64 (omega arith), le-ltb b 128 low) refl

signed_no_byte : (n : ℕ) (i : Input) (e : ReadError) → byte_at i ≡ Err e
    → signed_leb_at (suc n) i ≡ Err e
unfolding signed_leb_at
signed_no_byte n i e read = rw read refl

signed_none_left : (i : Input) → signed_leb_at 0 i ≡ Err BigLeb
unfolding signed_leb_at
signed_none_left i = refl

module _ {first i : Input} {k value scale : ℕ}
    (far : SoFar signed_leb_at signed first i k value scale) where
  pub signed_more : {b : ℕ} {j : Input} → k < 9 → byte_at i ≡ Ok (b, j) → 128 ≤ b → b < 256
      → SoFar signed_leb_at signed first j (k + 1) (value + (b - 128) * scale) (scale * 128)
  signed_more {b} {j} lt read low high = one_more signed_leb_at signed far two_steps b j lt
      (signed_goes_on (9 - k) i b j read low) high

  ends_low : (b : ℕ) (j : Input) → k < 10 → byte_at i ≡ Ok (b, j) → b < 64
      → signed_leb_at 10 first ≡ Ok (pos (value + b * scale), j)
  unfolding signed_leb_at
  ends_low b j lt read last = whole signed_leb_at signed far (Ok (pos b, j)) lt
      (rw (read, lt-ltb b 64 last) refl) ∙ ap (λ (n : ℕ). Ok (pos n, j)) (omega arith)

  ends_high : (b : ℕ) (j : Input) → k < 10 → byte_at i ≡ Ok (b, j) → 64 ≤ b → b < 128
      → signed_leb_at 10 first ≡ Ok (pos value -ℤ pos ((128 - b) * scale), j)
  unfolding signed_leb_at
  ends_high b j lt read low last = whole signed_leb_at signed far (Ok (pos b -ℤ pos 128, j)) lt
      (rw (read, le-ltb b 64 low, lt-ltb b 128 last) refl)
      ∙ ap (λ (z : ℤ). Ok (z, j)) (last_high value scale b (omega arith))

  pub sleb_low : {b : ℕ} {j : Input} {z : ℤ} → k < 10 → byte_at i ≡ Ok (b, j) → b < 64
      → value + b * scale < 2 ^ 63 → z ≡ pos (value + b * scale) → sleb_at first ≡ Ok (z, j)
  unfolding sleb_at
  sleb_low {b} {j} {z} lt read last fits is =
      rw (ends_low b j lt read last, is, lt-ltb (value + b * scale) (2 ^ 63) fits) refl

  pub sleb_high : {b : ℕ} {j : Input} {z : ℤ} → k < 10 → byte_at i ≡ Ok (b, j) → 64 ≤ b → b < 128
      → value < 2 ^ 63 → (128 - b) * scale ≤ 2 ^ 63 → z ≡ pos value -ℤ pos ((128 - b) * scale)
      → sleb_at first ≡ Ok (z, j)
  unfolding sleb_at
  sleb_high {b} {j} {z} lt read low last small fits is =
      rw (ends_high b j lt read low last, is) (rw (is_i64_less value ((128 - b) * scale) small fits)
      refl)

  pub sleb_fails : {e : ReadError} → k < 10 → byte_at i ≡ Err e → sleb_at first ≡ Err e
  unfolding sleb_at
  sleb_fails {e} lt read =
      rw (whole signed_leb_at signed far (Err e) lt (signed_no_byte (9 - k) i e read)) refl

  -- neither sign fills the tenth byte
  pub sleb_big : {b : ℕ} {j : Input} → k ≡ 9 → byte_at i ≡ Ok (b, j) → b ≢ 0 → b ≢ 127
      → sleb_at first ≡ Err BigLeb
  unfolding sleb_at
  sleb_big {b} {j} nine read some not_all =
      let none : 9 - k ≡ 0 = omega arith in
      let tenth : k < 10 = omega arith in
      let scaled = far.scaled ∙ ap (λ n. 128 ^ n) nine in
      elim (cases_lt b 64) [
        | inl low ↦
            let m : 1 * scale ≤ b * scale = mul-le-mul_right scale (omega arith) in
            let past = le-ltb (value + b * scale) (2 ^ 63) (omega (arith, m, scaled)) in
            rw (ends_low b j tenth read low, past) refl
        | inr high ↦ ⊎_elim
            (λ last.
            let m : 2 * scale ≤ (128 - b) * scale = mul-le-mul_right scale (omega arith) in
            let w : ℕ = (128 - b) * scale in
            let e : pos value -ℤ pos w ≡ negsuc (w - suc value) =
            omega (arith, ints, m, scaled, far.below) in
            let past = le-ltb (w - suc value) (2 ^ 63) (omega (arith, m, scaled, far.below)) in
            rw (ends_high b j tenth read high last, e) (rw past refl))
            (λ low. rw (whole signed_leb_at signed far (Err BigLeb) tenth (signed_goes_on (9 - k) i
            b j read low ∙ rw (none, signed_none_left j) refl)) refl)
            (cases_lt b 128)
      ]

-- what the casts of the last byte's arms make
pub cast_less : (v w : ℕ) → v < 2 ^ 63 → w < 2 ^ 63 → to_z w64 (of_z w64 (to_z w64 v -ℤ to_z w64 w))
    ≡ pos v -ℤ pos w
cast_less v w low high = omega (arith, ints)

pub cast_lowest : (v w : ℕ) → v < 2 ^ 63 → w ≡ 2 ^ 63
    → to_z w64 (of_z w64 (to_z w64 v +ℤ negsuc 9223372036854775807)) ≡ pos v -ℤ pos w
cast_lowest v w low is = omega (arith, ints)
