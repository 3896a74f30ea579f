-- A text out of a file as a line has it, plain or in JSON (RFC 8259, 7).
use Rattle.std.specs.Prelude.{ℕ, ◌==◌, ◌||◌, nat_lt, Bool, false, List, ◌∷◌, [], ◌++◌}
use Rattle.std.specs.Prelude.{codes, if◌then◌else◌, Option, Some, None}
use Rattle.std.specs.Char.{encode_utf8}
use Rattle.std.specs.List.{flat_map}
use Rattle.std.specs.Str.{chars, is_utf8}
use Rattle.thorin_words.specs.Printed.{two_digits, is_control, control}
use Rattle.thorin_print.specs.declared.form.Form.{Form}
use Rattle.thorin_print.specs.declared.form.Form.TheVariants.{Lines, Json}

-- what stands in front of the two digits of a number below 256: `\x1f`, in JSON `\u001f`
abbrev pub escape_in : Form → List ℕ
escape_in Lines = 92 ∷ 120 ∷ []
escape_in Json = 92 ∷ 117 ∷ 48 ∷ 48 ∷ []

abbrev pub escape : Form → ℕ → List ℕ
escape form n = escape_in form ++ two_digits n

-- characters that a JSON string has a backslash in front of: the quotation mark and the backslash
abbrev pub is_marked : Form → ℕ → Bool
is_marked Lines c = false
is_marked Json c = (c == 34) || (c == 92)

-- a character: a control by its number
abbrev pub spelled_character : Form → ℕ → List ℕ
spelled_character form c =
    if is_control c then control (escape_in form) c else
    (if is_marked form c then 92 ∷ c ∷ [] else encode_utf8 c)

-- a byte of a text that isn't UTF-8: one above ASCII by its number
abbrev pub spelled_byte : Form → ℕ → List ℕ
spelled_byte form b =
    if nat_lt b 128 then spelled_character form b else escape form b

-- a text: each character that it spells, or each byte
unfoldable pub spelled : Form → List ℕ → List ℕ
spelled form bytes = if is_utf8 bytes then flat_map (spelled_character form) (chars bytes)
    else flat_map (spelled_byte form) bytes

-- a text that may be absent: `-`, in JSON `null`
abbrev pub none_in : Form → List ℕ
none_in Lines = codes "-"
none_in Json = codes "null"

-- a text, in JSON between quotation marks
abbrev pub marked : Form → List ℕ → List ℕ
marked Lines text = spelled Lines text
marked Json text = 34 ∷ [] ++ (spelled Json text ++ 34 ∷ [])

abbrev pub spelled_or : Form → Option (List ℕ) → List ℕ
spelled_or form None = none_in form
spelled_or form (Some text) = marked form text
