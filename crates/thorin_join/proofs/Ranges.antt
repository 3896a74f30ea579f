-- What is read of ranges of string offsets: of their whole entries alone, of none, and of joined
-- ones; and the strings that a range names, one by one.
use Rattle.thorin_join.proofs.Terms
use Terms.{Format, header_size, length, length-drop, length-take, List, nat_tests, None}
use Terms.{ap, arith, cond, drop-append-le, Encoding, Endianness, entry_count, entry_in, eqb, false}
use Terms.{number_front, offset_size, Ok, ReadsAlike, refl, remapped, slice_get, Some, string_at}
use Terms.{string_for, string_in, strings_of, suc, take-append-drop, whole_entries, zero, [], ℕ}
use Terms.{◌*◌, ◌++◌, ◌+◌, ◌-◌, ◌∙◌, ◌∷◌, ◌≡◌, ◌≤◌, ◌⊎◌}
use Rattle.thorin_strings.specs.StringOffsets.{entry_bytes, header_of, remapped_entries}
use Rattle.thorin_join.specs.Strings.{each_from, offset_of_entry, offsets_in, strings_at}
use Rattle.std.proofs.{Common.IsOk, Common.nat_lt, Common.take_all, Common.◌/◌, lemmas.Nat.row_fits}

-- a range without the bytes past its last whole entry
pub count-again : (format : Format) (l h n : ℕ) → l ≡ h + n * offset_size format
    → (l - h) / offset_size format ≡ n
count-again format l h n e = grind arith

-- whole entries fit, and each has at least 4 bytes
pub count-fits : (format : Format) (l h : ℕ) → h ≤ l
    → (h + (l - h) / offset_size format * offset_size format ≤ l)
    × ((l - h) / offset_size format * 4 ≤ l)
count-fits format l h e = grind arith

pub count-none : (format : Format) (l h : ℕ) → l ≤ h → (l - h) / offset_size format ≡ 0
count-none format l h e = grind arith

pub whole-long : (encoding : Encoding) (bytes : List ℕ) → header_size encoding ≤ length bytes
    → length (whole_entries encoding bytes) ≡ header_size encoding + entry_count encoding
    (length bytes) * offset_size encoding.format
whole-long encoding bytes room =
    let fits = count-fits encoding.format (length bytes) (header_size encoding) room in
    omega (arith, fits.0, length-take {A = ℕ})

module _ (order : Endianness) (encoding : Encoding) where
  pub whole-read : (strings bytes : List ℕ) (i : ℕ) → string_in order encoding strings
      (whole_entries encoding bytes) i ≡ string_in order encoding strings bytes i
  unfolding string_in entry_in
  whole-read strings bytes i =
      let width = offset_size encoding.format in
      let n = entry_count encoding (length bytes) in
      let end = header_size encoding + n * width in
      let whole = take-append-drop end bytes in
      let fits = row_fits i width n width in
      let long = whole-long encoding bytes in
      let all = take_all end bytes in
      grind (arith, nat_tests, count-again, number_front order, drop-append-le, length-drop)

  -- of no bytes nothing is read
  pub empty-alike : (section final : List ℕ) (i : ℕ)
      → ReadsAlike order encoding section [] final [] i
  unfolding string_in entry_in
  empty-alike section final i =
      grind (arith, nat_tests, count-none encoding.format 0 (header_size encoding))

-- what a range of some bytes is rewritten to: a header, and its entries
pub record Range (order : Endianness) (encoding : Encoding) (section bytes : List ℕ) (size : ℕ)
    (strings : List (List ℕ)) (range : List ℕ × List (List ℕ)) : Type 0 where
  pub some : eqb size 0 ≡ false
  pub room : header_size encoding ≤ size
  pub header : List ℕ
  pub entries : List ℕ × List (List ℕ)
  pub header_is : header_of order encoding (entry_count encoding size * offset_size
      encoding.format) ≡ Ok header
  pub entries_are : remapped_entries order encoding section bytes (entry_count encoding size)
      strings ≡ Ok entries
  pub is : (header ++ entry_bytes order encoding.format entries.0, entries.1) ≡ range

-- a range of no bytes stays one
pub range-of : (order : Endianness) (encoding : Encoding) (section bytes : List ℕ) (size : ℕ)
    (strings : List (List ℕ)) (range : List ℕ × List (List ℕ))
    → remapped order encoding section bytes size strings ≡ Ok range
    → ((size ≡ 0) × (([], strings) ≡ range)) ⊎ Range order encoding section bytes size strings range
unfolding remapped
range-of order encoding section bytes size strings range h = grind arith

-- the offsets
each-at : (f : ℕ → ℕ) (i n k j : ℕ) → j ≡ i + k
    → cond (nat_lt k n) (Some (f j)) None ≡ slice_get (each_from f i n) k
each-at f i zero k j at = grind (arith, nat_tests)
each-at f i (suc n) k j at = grind (arith, nat_tests, each-at f (i + 1) n (k - 1) j)

-- one by one
all-there : (section offsets : List ℕ) → ((i : ℕ) → IsOk (string_for section (slice_get offsets i)))
    → (l : List (List ℕ)) × (strings_at section offsets ≡ Ok l)
    × ((i : ℕ) → string_for section (slice_get offsets i) ≡ Ok (slice_get l i))
unfolding strings_at
all-there section [] h = ([], refl, λ i. refl)
all-there section (o ∷ os) h =
    let here : (string : List ℕ) × (string_at section o ≡ Ok string) = grind (arith, h 0) in
    let there = all-there section os (λ i. h (suc i)) in
    (here.0 ∷ there.0, grind (arith, here.1, there.1), λ i. grind (arith, here.1, there.2))

all-are : (section offsets : List ℕ) (l : List (List ℕ))
    → ((i : ℕ) → string_for section (slice_get offsets i) ≡ Ok (slice_get l i))
    → strings_at section offsets ≡ Ok l
unfolding strings_at
all-are section [] [] h = refl
all-are section [] (y ∷ ys) h = grind (arith, h 0)
all-are section (o ∷ os) [] h = grind (arith, h 0)
all-are section (o ∷ os) (y ∷ ys) h = grind (arith, h 0, all-are section os ys (λ i. h (suc i)))

-- the strings of a range
module _ (order : Endianness) (encoding : Encoding) (section range : List ℕ) where
  string-at : (i : ℕ) → string_in order encoding section range i
      ≡ string_for section (slice_get (offsets_in order encoding range) i)
  unfolding string_in entry_in
  string-at i = ap (string_for section)
      (each-at (offset_of_entry order encoding range) 0 _ i i (omega arith))

  pub strings-there : ((i : ℕ) → IsOk (string_in order encoding section range i))
      → (l : List (List ℕ)) × (strings_of order encoding section range ≡ Ok l)
      × ((i : ℕ) → string_in order encoding section range i ≡ Ok (slice_get l i))
  strings-there h =
      let there = all-there section _ (λ i. rw (string-at i) at (h i)) in
      (there.0, there.1, λ i. string-at i ∙ there.2 i)

  pub strings-are : (l : List (List ℕ))
      → ((i : ℕ) → string_in order encoding section range i ≡ Ok (slice_get l i))
      → strings_of order encoding section range ≡ Ok l
  strings-are l h = all-are section _ l (λ i. rw (string-at i) at (h i))
