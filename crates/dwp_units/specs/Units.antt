-- The units of a section: their headers, and the bytes that each has (DWARF 5, 7.4 and 7.5.1;
-- DWARF 4, 7.5.1 for the units of versions 2 to 4).
use Rattle.std.specs.Prelude.{◌≡◌, ◌↔◌, ℕ, zero, suc, ◌-◌, List, [], ◌∷◌, ◌++◌, length, map, drop}
use Rattle.std.specs.Prelude.{Result, Ok, Err, nat_lt, nat_le, ◌==◌, ◌&&◌, if◌then◌else◌}
use Rattle.std.specs.List.{flat_map}
use Rattle.dwp_base.specs.Reading.{◌>>=◌}
use Rattle.dwp_bytes.specs.Input.{Input, Goes, front, after, split_at, byte_at, number_at}
use Rattle.dwp_bytes.specs.Input.{offset_at, is_address_size}
use Rattle.dwp_bytes.specs.declared.encoding.Encoding.{Encoding}
use Rattle.dwp_bytes.specs.declared.encoding.Format.{Format}
use Rattle.dwp_bytes.specs.declared.encoding.Format.TheVariants.{Dwarf32, Dwarf64}
use Rattle.dwp_bytes.specs.declared.error.ReadError.{ReadError}
use Rattle.dwp_bytes.specs.declared.error.ReadError.TheVariants.{ReservedLength, UnknownVersion}
use Rattle.dwp_bytes.specs.declared.error.ReadError.TheVariants.{UnknownUnitType, AddressSize}
use Rattle.dwp_units.specs.declared.unit.UnitType.{UnitType}
use Rattle.dwp_units.specs.declared.unit.UnitType.TheVariants.{Compilation, Partial, Skeleton}
use Rattle.dwp_units.specs.declared.unit.UnitType.TheVariants.{SplitCompilation, TypeUnit}
use Rattle.dwp_units.specs.declared.unit.UnitType.TheVariants.{SplitType}
use Rattle.dwp_units.specs.declared.unit.UnitSection.{UnitSection}
use Rattle.dwp_units.specs.declared.unit.UnitSection.TheVariants.{Info, Types}
use Rattle.dwp_units.specs.declared.unit.UnitHeader.{UnitHeader}
use Rattle.dwp_units.specs.declared.unit.UnitHeaders.{UnitHeaders}

-- a unit: what its header says, all of its bytes, and those after its header
pub record Unit : Type 0 where
  pub encoding : Encoding
  pub unit_type : UnitType
  pub abbrev_offset : ℕ
  pub whole : Input
  pub entries : Input

-- a unit as it was read from an input
abbrev pub unit_of : {R : Type 0} → (R → Input) → UnitHeader R → Unit
unit_of input header = record {
  encoding = header.encoding;
  unit_type = header.unit_type;
  abbrev_offset = header.abbrev_offset;
  whole = input header.whole;
  entries = input header.entries;
}

-- the format, and the length of what follows (7.4, 7.5.1.1)
unfoldable pub initial_length_at : Input → Result ((Format × ℕ) × Input) ReadError
initial_length_at i = do
  n ← number_at 4 i
  if nat_lt n.0 0xfffffff0 then Ok ((Dwarf32, n.0), n.1)
      else (if n.0 == 0xffffffff then (number_at 8 n.1 >>= λ m. Ok ((Dwarf64, m.0), m.1))
      else Err ReservedLength)

-- the size of an address
unfoldable pub address_size_at : Input → Result (ℕ × Input) ReadError
address_size_at i = do
  n ← byte_at i
  if is_address_size n.0 then Ok n else Err AddressSize

-- a type unit's signature, and the place of its type in the unit
unfoldable pub type_at : Format → Input → Result ((ℕ × ℕ) × Input) ReadError
type_at format i = do
  signature ← number_at 8 i
  offset ← offset_at format signature.1
  Ok ((signature.0, offset.0), offset.1)

-- before version 5 the section says which units these are
unfoldable pub older_type_at : UnitSection → Format → Input → Result (UnitType × Input) ReadError
older_type_at Info format i = Ok (Compilation, i)
older_type_at Types format i = do
  t ← type_at format i
  Ok (TypeUnit t.0.0 t.0.1, t.1)

-- the code of a unit type of version 5
-- the codes of unit types (DWARF 5, 7.5.1, Table 7.2)
abbrev pub DW_UT_compile : ℕ
DW_UT_compile = 1

abbrev pub DW_UT_type : ℕ
DW_UT_type = 2

abbrev pub DW_UT_partial : ℕ
DW_UT_partial = 3

abbrev pub DW_UT_skeleton : ℕ
DW_UT_skeleton = 4

abbrev pub DW_UT_split_compile : ℕ
DW_UT_split_compile = 5

abbrev pub DW_UT_split_type : ℕ
DW_UT_split_type = 6

unfoldable pub unit_code_at : Input → Result (ℕ × Input) ReadError
unit_code_at i = do
  n ← byte_at i
  if nat_le DW_UT_compile n.0 && nat_le n.0 DW_UT_split_type then Ok n else Err UnknownUnitType

-- what a unit type of version 5 adds to the header (7.5.1, table 7.2)
unfoldable pub unit_type_at : ℕ → Format → Input → Result (UnitType × Input) ReadError
unit_type_at code format i =
    if code == DW_UT_compile then Ok (Compilation, i) else
    (if code == DW_UT_type then (type_at format i >>= λ t. Ok (TypeUnit t.0.0 t.0.1, t.1)) else
    (if code == DW_UT_partial then Ok (Partial, i) else
    (if code == DW_UT_skeleton then (number_at 8 i >>= λ n. Ok (Skeleton n.0, n.1)) else
    (if code == DW_UT_split_compile
    then (number_at 8 i >>= λ n. Ok (SplitCompilation n.0, n.1)) else
    (type_at format i >>= λ t. Ok (SplitType t.0.0 t.0.1, t.1))))))

-- the header of versions 2 to 4 after its version
unfoldable pub older_at : UnitSection → Format → ℕ → Input → Input → Result Unit ReadError
older_at section format version whole i = do
  abbrev_offset ← offset_at format i
  address_size ← address_size_at abbrev_offset.1
  unit_type ← older_type_at section format address_size.1
  Ok (record {
    encoding = record {
      version = version;
      format = format;
      address_size = address_size.0;
    };
    unit_type = unit_type.0;
    abbrev_offset = abbrev_offset.0;
    whole = whole;
    entries = unit_type.1;
  })

-- the header of version 5 after its version
unfoldable pub newer_at : Format → Input → Input → Result Unit ReadError
newer_at format whole i = do
  code ← unit_code_at i
  address_size ← address_size_at code.1
  abbrev_offset ← offset_at format address_size.1
  unit_type ← unit_type_at code.0 format abbrev_offset.1
  Ok (record {
    encoding = record { version = 5; format = format; address_size = address_size.0 };
    unit_type = unit_type.0;
    abbrev_offset = abbrev_offset.0;
    whole = whole;
    entries = unit_type.1;
  })

-- the header from its version on, by the version
unfoldable pub header_at : UnitSection → Format → Input → Input → Result Unit ReadError
header_at section format whole i = do
  version ← number_at 2 i
  if version.0 == 5 then newer_at format whole version.1
      else (if nat_le 2 version.0 && nat_le version.0 4
      then older_at section format version.0 whole version.1 else Err UnknownVersion)

-- the first unit, and what comes after it
unfoldable pub unit_at : UnitSection → Input → Result (Unit × Input) ReadError
unit_at section i = do
  length ← initial_length_at i
  body ← split_at length.0.1 length.1
  whole ← split_at (body.1.place - i.place) i
  unit ← header_at section length.0.0 whole.0 body.0
  Ok (unit, body.1)

-- what was read first and the others, or the first error and nothing after it
abbrev pub listed : {A E : Type 0} → Result (A × Input) E → (Input → List (Result A E))
    → List (Result A E)
listed (Ok x) others = Ok x.0 ∷ others x.1
listed (Err e) others = Err e ∷ []

-- at most n units one after the other, up to the end or the first error
unfoldable pub units_within : ℕ → UnitSection → Input → List (Result Unit ReadError)
units_within zero section i = []
units_within (suc n) section i =
    if length i.bytes == 0 then [] else listed (unit_at section i) (units_within n section)

-- the units of a section; each has at least a byte
unfoldable pub units : UnitSection → Input → List (Result Unit ReadError)
units section i = units_within (length i.bytes) section i

-- what an iterator over the units has left: nothing after an error
abbrev pub units_left : {R : Type 0} → (R → Input) → UnitHeaders R → List (Result Unit ReadError)
units_left input headers =
    if headers.ended then [] else units headers.section (input headers.reader)

-- an item of that iterator
abbrev pub unit_seen : {R : Type 0} → (R → Input) → Result (UnitHeader R) ReadError
    → Result Unit ReadError
unit_seen input (Ok header) = Ok (unit_of input header)
unit_seen input (Err e) = Err e

-- all bytes of a unit
abbrev pub unit_bytes : Unit → List ℕ
unit_bytes u = u.whole.bytes

-- a unit takes at least a byte of the front, and its bytes are those that it takes
abbrev pub UnitsAreTaken : Type 0
UnitsAreTaken = (section : UnitSection) (i rest : Input) (u : Unit)
    → unit_at section i ≡ Ok (u, rest) → (goes : Goes 1 i rest) × (u.whole ≡ front goes.taken i)

-- a section without an error is the bytes of its units, joined
abbrev pub UnitsAreSection : Type 0
UnitsAreSection = (section : UnitSection) (i : Input) (read : List Unit)
    → units section i ≡ map Ok read → flat_map unit_bytes read ≡ i.bytes

-- before the first error of a section stand the bytes of its units, joined; the next unit, from
-- there on, has that error
abbrev pub ErrorIsNext : Type 0
ErrorIsNext = (section : UnitSection) (i : Input) (read : List Unit) (e : ReadError)
    → units section i ≡ map Ok read ++ Err e ∷ []
    → (flat_map unit_bytes read ++ drop (length (flat_map unit_bytes read)) i.bytes ≡ i.bytes)
    × (unit_at section (after (length (flat_map unit_bytes read)) i) ≡ Err e)

-- units that lie in a section one after the other, from its start to its end
abbrev pub UnitsLie : UnitSection → Input → List Unit → Type 0
UnitsLie section i [] = i.bytes ≡ []
UnitsLie section i (u ∷ us) =
    (rest : Input) × (unit_at section i ≡ Ok (u, rest)) × UnitsLie section rest us

-- where a section has such a list, that is the one that is read
abbrev pub UnitsAreOne : Type 0
UnitsAreOne = (section : UnitSection) (i : Input) (us : List Unit) → UnitsLie section i us
    ↔ (units section i ≡ map Ok us)
