-- How the value of an attribute is laid out, by its form (DWARF 5, 7.5.5 and 7.5.6; DWARF 4, 7.5.4;
-- the GNU forms of split DWARF and of supplementary files).
use Rattle.std.specs.Prelude.{ℕ, zero, suc, ◌-◌, List, [], ◌∷◌, length, Bool, false, Option, Some}
use Rattle.std.specs.Prelude.{None, Result, Ok, Err, ◌==◌, ◌||◌, if◌then◌else◌}
use Rattle.std.specs.Option.{ok_or}
use Rattle.dwp_base.specs.Reading.{◌>>=◌}
use Rattle.dwp_bytes.specs.Encoding.{offset_size}
use Rattle.dwp_bytes.specs.Input.{Input, byte_at, number_at, skip_at, split_at, found_at}
use Rattle.dwp_bytes.specs.Leb.{uleb_at, sleb_at}
use Rattle.dwp_bytes.specs.declared.encoding.Encoding.{Encoding}
use Rattle.dwp_bytes.specs.declared.error.ReadError.{ReadError}
use Rattle.dwp_bytes.specs.declared.error.ReadError.TheVariants.{UnexpectedEof, UnknownForm}
use Rattle.dwp_dwarf.specs.declared.value.{BlockLength.BlockLength, FormLayout.FormLayout}
use Rattle.dwp_dwarf.specs.declared.value.FormLayout.TheVariants.{Block, Fixed, Signed, Text}
use Rattle.dwp_dwarf.specs.declared.value.FormLayout.TheVariants.{Unsigned}
use Rattle.dwp_dwarf.specs.declared.value.BlockLength.TheVariants.{One, Two, Four, Leb}

abbrev pub is_one_of : List ℕ → ℕ → Bool
is_one_of [] form = false
is_one_of (x ∷ xs) form = form == x || is_one_of xs form

-- the forms whose values have a size of their own
abbrev pub fixed_size : ℕ → Option ℕ
fixed_size form =
    -- flag_present, implicit_const
    if is_one_of (0x19 ∷ 0x21 ∷ []) form then Some 0 else
    -- data1, flag, ref1, strx1, addrx1
    (if is_one_of (0x0b ∷ 0x0c ∷ 0x11 ∷ 0x25 ∷ 0x29 ∷ []) form then Some 1 else
    -- data2, ref2, strx2, addrx2
    (if is_one_of (0x05 ∷ 0x12 ∷ 0x26 ∷ 0x2a ∷ []) form then Some 2 else
    -- strx3, addrx3
    (if is_one_of (0x27 ∷ 0x2b ∷ []) form then Some 3 else
    -- data4, ref4, ref_sup4, strx4, addrx4
    (if is_one_of (0x06 ∷ 0x13 ∷ 0x1c ∷ 0x28 ∷ 0x2c ∷ []) form then Some 4 else
    -- data8, ref8, ref_sig8, ref_sup8
    (if is_one_of (0x07 ∷ 0x14 ∷ 0x20 ∷ 0x24 ∷ []) form then Some 8 else
    -- data16
    (if form == 0x1e then Some 16 else None))))))

-- the forms whose values are as wide as the unit's addresses or offsets
abbrev pub unit_size : Encoding → ℕ → Option ℕ
unit_size encoding form =
    -- addr
    if form == 0x01 then Some encoding.address_size else
    -- strp, sec_offset, strp_sup, line_strp, GNU_ref_alt, GNU_strp_alt
    (if is_one_of (0x0e ∷ 0x17 ∷ 0x1d ∷ 0x1f ∷ 0x1f20 ∷ 0x1f21 ∷ []) form
    then Some (offset_size encoding.format) else
    -- ref_addr, an address in version 2
    (if form == 0x10 then Some (if encoding.version == 2 then encoding.address_size
    else offset_size encoding.format) else None))

-- the forms whose values say how long they are
abbrev pub open_layout : ℕ → Option FormLayout
open_layout form =
    -- block1, block2, block4
    if form == 0x0a then Some (Block One) else
    (if form == 0x03 then Some (Block Two) else
    (if form == 0x04 then Some (Block Four) else
    -- block, exprloc
    (if is_one_of (0x09 ∷ 0x18 ∷ []) form then Some (Block Leb) else
    -- string
    (if form == 0x08 then Some Text else
    -- sdata
    (if form == 0x0d then Some Signed else
    -- udata, ref_udata, strx, addrx, loclistx, rnglistx, GNU_addr_index, GNU_str_index
    (if is_one_of (0x0f ∷ 0x15 ∷ 0x1a ∷ 0x1b ∷ 0x22 ∷ 0x23 ∷ 0x1f01 ∷ 0x1f02 ∷ []) form
    then Some Unsigned else None))))))

-- the first of two that is there, the first as a size
abbrev pub sized_or : Option ℕ → Option FormLayout → Option FormLayout
sized_or (Some size) other = Some (Fixed size)
sized_or None other = other

-- how a form's value is laid out; None for a form that isn't known
abbrev pub layout_of : Encoding → ℕ → Option FormLayout
layout_of encoding form =
    sized_or (fixed_size form) (sized_or (unit_size encoding form) (open_layout form))

-- the length of a block
unfoldable pub block_length_at : BlockLength → Input → Result (ℕ × Input) ReadError
block_length_at One i = byte_at i
block_length_at Two i = number_at 2 i
block_length_at Four i = number_at 4 i
block_length_at Leb i = uleb_at i

-- a text without the zero byte that ends it, and what comes behind that
unfoldable pub text_at : Input → Result (Input × Input) ReadError
text_at i = do
  n ← found_at 0 i.bytes
  text ← split_at n i
  zero_byte ← skip_at 1 text.1
  Ok (text.0, zero_byte.1)

-- what comes behind a value
unfoldable pub past_value : FormLayout → Input → Result Input ReadError
past_value (Fixed size) i = skip_at size i >>= λ rest. Ok rest.1
past_value (Block wide) i = block_length_at wide i >>= λ n. skip_at n.0 n.1 >>= λ rest. Ok rest.1
past_value Text i = text_at i >>= λ text. Ok text.1
past_value Unsigned i = uleb_at i >>= λ n. Ok n.1
past_value Signed i = sleb_at i >>= λ n. Ok n.1

-- the bytes of a value, and what comes behind them
unfoldable pub value_at : Encoding → ℕ → Input → Result (Input × Input) ReadError
value_at encoding form i = do
  layout ← ok_or (layout_of encoding form) UnknownForm
  rest ← past_value layout i
  value ← split_at (rest.place - i.place) i
  Ok (value.0, rest)

-- the form indirect, 0x16, stands for the form named before the value, at most n times over;
-- implicit_const can't be named
unfoldable pub named_within : ℕ → ℕ → Input → Result (ℕ × Input) ReadError
named_within zero form i = if form == 0x16 then Err UnexpectedEof else Ok (form, i)
named_within (suc n) form i = if form == 0x16 then (uleb_at i >>= λ named. if named.0 == 0x21
    then Err UnknownForm else named_within n named.0 named.1) else Ok (form, i)

-- the form that a value really has; each name of a form has at least a byte
unfoldable pub named_form_at : ℕ → Input → Result (ℕ × Input) ReadError
named_form_at form i = named_within (length i.bytes) form i
