-- A text out of a file as it is printed: nothing in it moves a cursor, begins a line or turns the
-- direction of what stands behind it.
use Rattle.std.specs.Prelude.{ℕ, ◌+◌, ◌/◌, ◌%◌, ◌==◌, ◌||◌, ◌&&◌, nat_lt, Bool, List, [], ◌∷◌}
use Rattle.std.specs.Prelude.{◌++◌, if◌then◌else◌}
use Rattle.std.specs.Char.{encode_utf8}
use Rattle.std.specs.Str.{chars}
use Rattle.std.specs.List.{flat_map}

abbrev pub hex_digit : ℕ → ℕ
hex_digit n = if nat_lt n 10 then 48 + n else 87 + n

-- the two digits of a number below 256
abbrev pub two_digits : ℕ → List ℕ
two_digits n = hex_digit (n / 16) ∷ hex_digit (n % 16) ∷ []

-- the controls of C0 and C1, and the one that deletes (ECMA-48; Unicode, category Cc)
abbrev pub is_short_control : ℕ → Bool
is_short_control c = nat_lt c 32 || (nat_lt 126 c && nat_lt c 160)

-- the separators of lines and paragraphs, and the marks that turn the direction of a text (Unicode
-- Standard Annex 9, Bidi_Control)
abbrev pub is_long_control : ℕ → Bool
is_long_control c = (c == 0x61c) || (c == 0x200e) || (c == 0x200f)
    || (nat_lt 0x2027 c && nat_lt c 0x202f) || (nat_lt 0x2065 c && nat_lt c 0x206a)

abbrev pub is_control : ℕ → Bool
is_control c = is_short_control c || is_long_control c

-- a control by its number: two digits behind what stands in front of a short one, as `\x`, or `\u`
-- and four
abbrev pub control : List ℕ → ℕ → List ℕ
control short c = if is_short_control c then short ++ two_digits c else
    92 ∷ 117 ∷ two_digits (c / 256) ++ two_digits (c % 256)

-- a character: a control by its number, as `\x` and two digits, or `\u` and four
abbrev pub printed_character : ℕ → List ℕ
printed_character c = if is_control c then control (92 ∷ 120 ∷ []) c else encode_utf8 c

-- a text: each character that it spells
unfoldable pub printed : List ℕ → List ℕ
printed text = flat_map printed_character (chars text)
