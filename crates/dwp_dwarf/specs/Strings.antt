-- The string of an attribute: in the unit, in a section of strings, or in one by an index (DWARF 5,
-- 7.5.5 "string", 7.26; the GNU page DebugFission for GNU_str_index).
use Rattle.std.specs.Prelude.{ℕ, ◌+◌, ◌*◌, Result, Ok, Err, ◌==◌, ◌||◌, if◌then◌else◌}
use Rattle.dwp_base.specs.Reading.{◌>>=◌}
use Rattle.dwp_bytes.specs.Encoding.{offset_size}
use Rattle.dwp_bytes.specs.Input.{Input, byte_at, number_at, offset_at}
use Rattle.dwp_bytes.specs.Leb.{uleb_at}
use Rattle.dwp_bytes.specs.declared.encoding.Format.{Format}
use Rattle.dwp_bytes.specs.declared.error.ReadError.{ReadError}
use Rattle.dwp_bytes.specs.declared.error.ReadError.TheVariants.{NotAString}
use Rattle.dwp_dwarf.specs.Entries.{DebugAttribute}
use Rattle.dwp_dwarf.specs.Forms.{text_at}
use Rattle.dwp_dwarf.specs.Offsets.{from_at}

-- .debug_str, .debug_line_str and .debug_str_offsets
pub record Strings : Type 0 where
  pub debug_str : Input
  pub debug_line_str : Input
  pub debug_str_offsets : Input

-- the string at an offset of a section: its bytes up to the first zero byte
unfoldable pub string_at : Input → ℕ → Result Input ReadError
string_at section offset = do
  rest ← from_at offset section
  text ← text_at rest
  Ok text.0

-- the string whose offset stands at an index of the table at a base
unfoldable pub indexed_at : Strings → Format → ℕ → ℕ → Result Input ReadError
indexed_at strings format base index = do
  offsets ← from_at (base + index * offset_size format) strings.debug_str_offsets
  offset ← offset_at format offsets
  string_at strings.debug_str offset.0

-- the string of a form: string, strp, line_strp, strx and GNU_str_index, strx1, strx2, strx3, strx4
unfoldable pub string_of : Strings → Format → ℕ → DebugAttribute → Result Input ReadError
string_of strings format base a =
    if a.form == 0x08 then (text_at a.value >>= λ text. Ok text.0) else
    (if a.form == 0x0e
    then (offset_at format a.value >>= λ offset. string_at strings.debug_str offset.0) else
    (if a.form == 0x1f
    then (offset_at format a.value >>= λ offset. string_at strings.debug_line_str offset.0) else
    (if a.form == 0x1a || a.form == 0x1f02
    then (uleb_at a.value >>= λ index. indexed_at strings format base index.0) else
    (if a.form == 0x25
    then (byte_at a.value >>= λ index. indexed_at strings format base index.0) else
    (if a.form == 0x26
    then (number_at 2 a.value >>= λ index. indexed_at strings format base index.0) else
    (if a.form == 0x27
    then (number_at 3 a.value >>= λ index. indexed_at strings format base index.0) else
    (if a.form == 0x28
    then (number_at 4 a.value >>= λ index. indexed_at strings format base index.0) else
    Err NotAString)))))))
