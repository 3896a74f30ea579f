-- The number of an entry's attribute of a name, and which attributes have bytes in an entry.
use Rattle.std.specs.Prelude.{ℕ, List, [], ◌∷◌, Bool, not, ◌==◌, if◌then◌else◌, Option, Some, None}
use Rattle.std.specs.Prelude.{Result, Ok, Err, option_map}
use Rattle.dwp_base.specs.Reading.{◌>>=◌}
use Rattle.dwp_bytes.specs.Input.{Input}
use Rattle.dwp_bytes.specs.declared.encoding.Encoding.{Encoding}
use Rattle.dwp_bytes.specs.declared.error.ReadError.{ReadError}
use Rattle.dwp_dwarf.specs.Abbreviations.{Specification, declaration}
use Rattle.dwp_dwarf.specs.Entries.{DebugAttribute, DebugEntry, entry, number_of}
use Rattle.dwp_dwarf.specs.Forms.{is_one_of}
use Rattle.dwp_dwarf.specs.declared.cache.EntryNumber.{EntryNumber}

-- the number of an attribute of that name whose form is a plain number's
abbrev pub named_number : ℕ → DebugAttribute → Option ℕ
named_number name a = if a.name == name then number_of a else None

-- what was found, or what comes of the others
abbrev pub number_or : Option ℕ → Result (Option ℕ) ReadError → Result (Option ℕ) ReadError
number_or (Some n) others = Ok (Some n)
number_or None others = others

-- the first such number, up to the first error
abbrev pub first_number : ℕ → List (Result DebugAttribute ReadError)
    → Result (Option ℕ) ReadError
first_number name [] = Ok None
first_number name (Ok a ∷ others) = number_or (named_number name a) (first_number name others)
first_number name (Err e ∷ others) = Err e

-- an entry's tag, and its first number of a name
abbrev pub numbered : ℕ → DebugEntry → ℕ × Result (Option ℕ) ReadError
numbered name e = (e.tag, first_number name e.attributes)

-- the same of the entry of a code in a table, whose values stand there; None where the table
-- doesn't have the code
abbrev pub numbered_at : ℕ → Encoding → Input → ℕ → Input
    → Result (Option (ℕ × Result (Option ℕ) ReadError)) ReadError
numbered_at name encoding values code table = declaration code table >>= λ found.
    Ok (option_map (λ d. numbered name (entry encoding d values)) found)

-- an entry's number as it was found
abbrev pub numbered_of : EntryNumber → ℕ × Result (Option ℕ) ReadError
numbered_of n = (n.tag, n.number)

-- the values of flag_present and implicit_const have no bytes in an entry (DWARF 5, 7.5.5, 7.5.6)
abbrev pub has_bytes : Specification → Bool
has_bytes s = not (is_one_of (0x19 ∷ 0x21 ∷ []) s.form)
