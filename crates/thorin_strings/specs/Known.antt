-- What is remembered of strings that were read: where each begins in its section, and its offset.
use Rattle.std.specs.Prelude.{◌≡◌, ℕ, List, All, Result, Ok}
use Rattle.dwp_base.specs.Reading.{◌>>=◌}
use Rattle.dwp_bytes.specs.declared.encoding.Format.{Format}
use Rattle.thorin_errors.specs.Errors.{ErrorValue}
use Rattle.dwp_strings.specs.Strings.{offset_of, with_string}
use Rattle.thorin_strings.specs.StringOffsets.{fitting_offset, string_read}

-- the offset of the string at an offset of a section once it is among the distinct ones, and these
-- strings
unfoldable pub offset_read : List ℕ → ℕ → List (List ℕ) → Result (ℕ × List (List ℕ)) ErrorValue
offset_read section at strings = do
  string ← string_read section at
  Ok (offset_of strings string, with_string strings string)

-- the same of an offset that is to fit the format
unfoldable pub fitting_read : Format → List ℕ → ℕ → List (List ℕ)
    → Result (ℕ × List (List ℕ)) ErrorValue
fitting_read format section at strings = do
  string ← string_read section at
  offset ← fitting_offset format (offset_of strings string)
  Ok (offset, with_string strings string)

-- the string at the first offset is among these, and has the second for its offset
abbrev pub IsKnown : List ℕ → List (List ℕ) → ℕ × ℕ → Type 0
IsKnown section strings pair = offset_read section pair.0 strings ≡ Ok (pair.1, strings)

-- the same of each pair
abbrev pub AreKnown : List ℕ → List (List ℕ) → List (ℕ × ℕ) → Type 0
AreKnown section strings pairs = All (IsKnown section strings) pairs
