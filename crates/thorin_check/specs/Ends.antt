-- Units whose strings can all be read (DWARF 5, 7.26).
use Rattle.std.specs.Prelude.{◌≡◌, ℕ, None, ◌≤◌, nat_lt, ◌==◌, List, length, drop, Option, Some}
use Rattle.std.specs.Prelude.{Bool, true}
use Rattle.std.specs.Result.{result_err}
use Rattle.dwp_index.specs.Package.{FoundUnit}
use Rattle.thorin_find.specs.Finding.{string_of}
use Rattle.std.specs.List.{list_any}
use Rattle.dwp_base.specs.declared.endian.Endianness.{Endianness}
use Rattle.thorin_check.specs.declared.strings.Ends.{Ends}

-- each string of a unit can be read
abbrev pub AllEnd : FoundUnit → Type 0
AllEnd unit = (i : ℕ) → result_err (string_of unit i) ≡ None

-- ---- which strings end

-- a zero byte stands at an offset or behind it where that offset is before this place
abbrev pub IsReach : (strings : List ℕ) → (reach : ℕ) → Type 0
IsReach strings reach =
    (offset : ℕ) → list_any (λ b. b == 0) (drop offset strings) ≡ nat_lt offset reach

-- what is known of strings, and of the byte order of the offsets that name them
pub record HasEnds (ends : Ends) (order : Endianness) (strings : List ℕ) : Type 0 where
  pub order_is : ends.order ≡ order
  pub size : ends.size ≡ length strings
  pub inside : ends.reach ≤ length strings
  pub reach : IsReach strings ends.reach

-- an offset is before the place behind the last zero byte, where there is an offset
abbrev pub is_inside : Ends → Option ℕ → Bool
is_inside ends None = true
is_inside ends (Some offset) = nat_lt offset ends.reach
