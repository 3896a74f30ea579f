-- The header of a member (ar(5)): 60 bytes of text. Its name has 16, and behind date, owner, group
-- and mode the size of the content has the ten from 48 on, decimal; then come a grave accent and a
-- line feed.
use Rattle.std.specs.Prelude.{ℕ, ◌+◌, ◌-◌, ◌*◌, Bool, ◌&&◌, ◌==◌, nat_lt, nat_le, nat_eq, not, List}
use Rattle.std.specs.Prelude.{[], ◌∷◌, length, drop, slice_range, if◌then◌else◌, Option, Some, None}
use Rattle.std.specs.Prelude.{Result, Ok, Err}
use Rattle.std.specs.List.{starts_with, list_all}
use Rattle.std.specs.Option.{ok_or}
use Rattle.dwp_base.specs.Reading.{◌>>=◌}
use Rattle.dwp_archive.specs.declared.error.ArchiveError.{ArchiveError}
use Rattle.dwp_archive.specs.declared.error.ArchiveError.TheVariants.{HeaderTooShort, HeaderEnd}
use Rattle.dwp_archive.specs.declared.error.ArchiveError.TheVariants.{Size, PastEnd}

-- `0` to `9`
abbrev pub is_digit : ℕ → Bool
is_digit b = nat_le 48 b && nat_le b 57

-- the number that digits write behind those that write n; blanks alone may stand behind them
unfoldable pub decimal_from : ℕ → List ℕ → Option ℕ
decimal_from n [] = Some n
decimal_from n (b ∷ bytes) =
    if is_digit b then decimal_from (10 * n + (b - 48)) bytes
    else (if list_all (λ b. b == 32) (b ∷ bytes) then Some n else None)

-- the number that a field writes, which begins with a digit
abbrev pub decimal : List ℕ → Option ℕ
decimal [] = None
decimal (b ∷ bytes) = if is_digit b then decimal_from 0 (b ∷ bytes) else None

-- a field is a text, with blanks behind it
abbrev pub is_padded : List ℕ → List ℕ → Bool
is_padded text field =
    starts_with nat_eq field text && list_all (λ b. b == 32) (drop (length text) field)

-- the size of the member whose header the bytes begin with, all of which is there
unfoldable pub size_at : List ℕ → Result ℕ ArchiveError
size_at bytes =
    if nat_lt (length bytes) 60 then Err HeaderTooShort
    else (if not (starts_with nat_eq (drop 58 bytes) (96 ∷ 10 ∷ [])) then Err HeaderEnd
    else (do
      size ← ok_or (decimal (slice_range bytes 48 58)) Size
      if nat_lt (length bytes - 60) size then Err PastEnd else Ok size))
