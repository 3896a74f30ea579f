-- The strings of a package, as `.debug_str.dwo` holds them: each is ended by a zero byte (DWARF 5,
-- 7.26).
use Rattle.std.specs.Prelude.{[], if◌then◌else◌, ◌++◌, ◌+◌, ◌-◌, ◌<◌, ◌==◌, ◌^◌, ◌∷◌, ◌≡◌, ◌≢◌, ◌≤◌}
use Rattle.std.specs.Prelude.{All, AllPairs, length, List, slice_index, ℕ}
use Rattle.std.specs.{Cmp.Lexicographic.slice_cmp, declared.cmp.Ordering.TheVariants.Less}
use Rattle.std.specs.{List.flat_map, List.list_any, List.onto_first, Ordering.nat_cmp, Str.bytes_eq}
use Rattle.dwp_bytes.specs.StringOffsets.{string_from}

-- a string with the zero byte that ends it
abbrev pub terminated : List ℕ → List ℕ
terminated s = s ++ 0 ∷ []

-- the section that holds these strings, in their order
abbrev pub data_of : List (List ℕ) → List ℕ
data_of strings = flat_map terminated strings

-- the offset of a string in that section: length + 1 of each string before it, and of all where it
-- isn't there
abbrev pub offset_of : List (List ℕ) → List ℕ → ℕ
offset_of [] s = 0
offset_of (t ∷ ts) s = if bytes_eq t s then 0 else length t + 1 + offset_of ts s

-- the distinct strings once one more is used: a new one goes last
abbrev pub with_string : List (List ℕ) → List ℕ → List (List ℕ)
with_string strings s = if list_any (λ t. bytes_eq t s) strings then strings else strings ++ s ∷ []

-- a string was used and has this offset
abbrev pub IsPlaced : List (List ℕ) → List (List ℕ) → List ℕ → ℕ → Type 0
IsPlaced old new s place = (place ≡ offset_of old s) × (new ≡ with_string old s)

-- no byte is zero, so that the string can be ended by one
abbrev pub IsZeroFree : List ℕ → Type 0
IsZeroFree s = All (λ b. b ≢ 0) s

-- the strings of a table: distinct, and each can be ended by a zero byte
pub record IsTable (strings : List (List ℕ)) : Type 0 where
  pub distinct : AllPairs (λ s t. s ≢ t) strings
  pub zero_free : All IsZeroFree strings

-- a number is at most how many binary digits n has: n has at most k digits just where n < 2 ^ k
abbrev pub IsWithinDigits : ℕ → ℕ → Type 0
IsWithinDigits count n = (k : ℕ) → n < 2 ^ k → count ≤ k

-- a string begins at a place of a section of ended strings: at its front, or behind the zero byte
-- that ends another
pub record BeginsAt (bytes : List ℕ) (at : ℕ) : Type 0 where
  pub within : at < length bytes
  pub behind : 0 < at → slice_index bytes (at - 1) ≡ 0

-- the strings that a section of ended strings holds
abbrev pub strings_in : List ℕ → List (List ℕ)
strings_in [] = []
strings_in (b ∷ bs) = if b == 0 then [] ∷ strings_in bs else onto_first b (strings_in bs)

-- a string comes before another: a string that begins another comes first
abbrev pub IsBefore : List ℕ → List ℕ → Type 0
IsBefore s t = slice_cmp nat_cmp s t ≡ Less

-- the positions are those of some of the section's strings, which are distinct, sorted by the
-- strings
pub record IsIndexed (bytes positions : List ℕ) : Type 0 where
  pub ended : data_of (strings_in bytes) ≡ bytes
  pub distinct : AllPairs (λ s t. s ≢ t) (strings_in bytes)
  pub begun : All (λ p. BeginsAt bytes p) positions
  pub sorted : AllPairs (λ p q. IsBefore (string_from bytes p) (string_from bytes q)) positions

-- a string isn't among those that begin at the positions, and would stand at that rank
pub record StandsAt (bytes positions string : List ℕ) (rank : ℕ) : Type 0 where
  pub within : rank ≤ length positions
  pub before : (k : ℕ) → k < rank → IsBefore (string_from bytes (slice_index positions k)) string
  pub behind : (k : ℕ) → rank ≤ k → k < length positions
      → IsBefore string (string_from bytes (slice_index positions k))
