-- What a reader of DWARF data has left, and what a call of it takes from the front (DWARF 5, 7.4:
-- lengths, offsets and addresses; ELF gABI, "Data Encoding").
use Rattle.std.specs.Prelude.{◌≡◌, ◌≤◌, ℕ, ◌+◌, ◌==◌, ◌||◌, Bool, List, length, take, drop}
use Rattle.std.specs.Prelude.{slice_index, nat_lt, if◌then◌else◌, Result, Ok, Err, position}
use Rattle.std.specs.Option.{ok_or}
use Rattle.dwp_base.specs.declared.endian.Endianness.{Endianness}
use Rattle.dwp_base.specs.Numbers.{number}
use Rattle.dwp_bytes.specs.declared.encoding.Format.{Format}
use Rattle.dwp_bytes.specs.declared.error.ReadError.{ReadError}
use Rattle.dwp_bytes.specs.declared.error.ReadError.TheVariants.{UnexpectedEof, AddressSize}
use Rattle.dwp_bytes.specs.declared.error.ReadError.TheVariants.{NoTerminator}
use Rattle.dwp_bytes.specs.Encoding.{offset_size}

-- what a reader has left
pub record Input : Type 0 where
  -- the order of the bytes of a number
  pub order : Endianness
  -- what stands for the number stored at a place, once it is relocated
  pub relocated : ℕ → ℕ → ℕ
  -- how many bytes of the section lie before
  pub place : ℕ
  -- the bytes that are left
  pub bytes : List ℕ

-- a section that nothing relocates, from its start
abbrev pub section : Endianness → List ℕ → Input
section order bytes =
    record { order = order; relocated = λ place stored. stored; place = 0; bytes = bytes }

-- the first n bytes, or all where there are fewer
abbrev pub front : ℕ → Input → Input
front n i = record i { bytes = take n i.bytes }

-- what is left behind n bytes
abbrev pub after : ℕ → Input → Input
after n i = record i { place = i.place + n; bytes = drop n i.bytes }

-- reading goes forward: j is what i leaves behind some of its bytes, at least that many
pub record Goes (least : ℕ) (i j : Input) : Type 0 where
  pub taken : ℕ
  pub some : least ≤ taken
  pub enough : taken ≤ length i.bytes
  pub is : j ≡ after taken i

-- the next n bytes, as an input of their own
unfoldable pub split_at : ℕ → Input → Result (Input × Input) ReadError
split_at n i = if nat_lt (length i.bytes) n then Err UnexpectedEof else Ok (front n i, after n i)

-- the next n bytes
unfoldable pub bytes_at : ℕ → Input → Result (List ℕ × Input) ReadError
bytes_at n i =
    if nat_lt (length i.bytes) n then Err UnexpectedEof else Ok (take n i.bytes, after n i)

-- n bytes passed over
unfoldable pub skip_at : ℕ → Input → Result (Unit {0} × Input) ReadError
skip_at n i = if nat_lt (length i.bytes) n then Err UnexpectedEof else Ok (tt, after n i)

-- all but the first n bytes passed over
unfoldable pub truncate_at : ℕ → Input → Result (Unit {0} × Input) ReadError
truncate_at n i = if nat_lt (length i.bytes) n then Err UnexpectedEof else Ok (tt, front n i)

-- the next byte
unfoldable pub byte_at : Input → Result (ℕ × Input) ReadError
byte_at i =
    if nat_lt (length i.bytes) 1 then Err UnexpectedEof else Ok (slice_index i.bytes 0, after 1 i)

-- how far ahead the first byte of that value stands (a string ends at its first zero byte: DWARF 5,
-- 7.5.5)
unfoldable pub found_at : ℕ → List ℕ → Result ℕ ReadError
found_at byte bytes = ok_or (position (λ x. x == byte) bytes) NoTerminator

-- the number in the next n bytes
unfoldable pub number_at : ℕ → Input → Result (ℕ × Input) ReadError
number_at n i = if nat_lt (length i.bytes) n then Err UnexpectedEof
    else Ok (number i.order n i.bytes, after n i)

-- the number in the next n bytes, relocated
unfoldable pub relocated_at : ℕ → Input → Result (ℕ × Input) ReadError
relocated_at n i =
    if nat_lt (length i.bytes) n then Err UnexpectedEof
    else Ok (i.relocated i.place (number i.order n i.bytes), after n i)

-- numbers of these sizes can be addresses
abbrev pub is_address_size : ℕ → Bool
is_address_size size = size == 1 || size == 2 || size == 4 || size == 8

-- a relocated number of a size that is named beside it
unfoldable pub sized_at : ℕ → Input → Result (ℕ × Input) ReadError
sized_at size i = if is_address_size size then relocated_at size i else Err AddressSize

-- a relocated number as wide as the format's offsets
unfoldable pub offset_at : Format → Input → Result (ℕ × Input) ReadError
offset_at format i = relocated_at (offset_size format) i
