-- What an input means: its units by name, in file order, with all that belongs to each; and how
-- such lists are joined (DWARF 5, 7.3.5; the GNU page DebugFissionDWP).
use Rattle.std.specs.Prelude.{[], Bool, Err, filter, find, if◌then◌else◌, is_none, length, List}
use Rattle.std.specs.Prelude.{map, None, not, Ok, Option, Result, Some, take, true, ℕ, ◌&&◌, ◌*◌}
use Rattle.std.specs.Prelude.{◌++◌, ◌+◌, ◌∷◌, ◌≡◌}
use Rattle.std.specs.List.{list_any}
use Rattle.std.specs.Option.{option_and_then}
use Rattle.dwp_base.specs.declared.section.SectionKind.{SectionKind}
use Rattle.dwp_base.specs.declared.section.SectionKind.TheVariants.{Str, StrOffsets}
use Rattle.dwp_base.specs.declared.section.Contribution.{Contribution}
use Rattle.dwp_base.specs.Reading.{◌>>=◌}
use Rattle.dwp_base.specs.Sections.{same_kind}
use Rattle.dwp_bytes.specs.Encoding.{offset_size}
use Rattle.dwp_bytes.specs.Input.{section}
use Rattle.dwp_bytes.specs.StringOffsets.{entry_count, header_size}
use Rattle.dwp_bytes.specs.declared.encoding.Encoding.{Encoding}
use Rattle.dwp_bytes.specs.declared.error.ReadError.{ReadError}
use Rattle.dwp_units.specs.Units.{Unit as Header, units}
use Rattle.dwp_units.specs.declared.unit.UnitSection.{UnitSection}
use Rattle.dwp_index.specs.Index.{Index, range_in, Ranges, row_in}
use Rattle.dwp_index.specs.Package.{is_outside, part_of}
use Rattle.dwp_table.specs.Columns.{contribution_kinds}
use Rattle.dwp_table.specs.declared.object.DwarfObject.{DwarfObject}
use Rattle.thorin_package_input.specs.RowPlaces.{row_by_place}
use Rattle.thorin_errors.specs.Errors.{ErrorValue, ParseUnitHeader}
use Rattle.thorin_errors.specs.Answers.{as_error}
use Rattle.thorin_input.specs.Encodings.{encoding_of}
use Rattle.thorin_input.specs.Format.{is_copied, is_shared}
use Rattle.thorin_input.specs.Indexes.{index_for, indexes_of, is_package, Source}
use Rattle.thorin_input.specs.Names.{is_compilation, same_name}
use Rattle.thorin_input.specs.NewUnits.{name_for, unit_section}
use Rattle.thorin_input.specs.Rows.{own_contribution}
use Rattle.thorin_join.specs.Strings.{strings_of}
use Rattle.thorin_input.specs.Used.{first, has_info, input_file_of, InputFile, opened, Used}

-- a unit's contribution, as bytes, to each kind of section that is kept as it is; the proof is
-- asked for, so that nothing is said of other kinds
abbrev pub Contributions : Type 0
Contributions = (kind : SectionKind) → is_copied kind ≡ true → List ℕ

-- these bytes of each kind
abbrev pub contributions_by : (SectionKind → List ℕ) → Contributions
contributions_by bytes kind copied = bytes kind

-- all that belongs to a unit: its bytes, its contributions, its strings in the order of their
-- offsets, and its input's encoding
pub record Meaning : Type 0 where
  pub bytes : List ℕ
  pub contributions : Contributions
  pub strings : List (List ℕ)
  pub encoding : Encoding

-- units by their names, with all that belongs to each
abbrev pub Members : Type 0
Members = List (DwarfObject × Meaning)

-- the contents of all sections of a kind, joined in file order
abbrev pub joined_content : SectionKind → List Used → List ℕ
joined_content kind [] = []
joined_content kind (s ∷ ss) =
    if same_kind s.kind kind then s.bytes ++ joined_content kind ss else joined_content kind ss

-- a section of string offsets without the bytes past its last whole entry
abbrev pub whole_entries : Encoding → List ℕ → List ℕ
whole_entries encoding bytes = take
    (header_size encoding + entry_count encoding (length bytes) * offset_size encoding.format) bytes

-- those of an object, joined
abbrev pub joined_offsets : Encoding → List Used → List ℕ
joined_offsets encoding [] = []
joined_offsets encoding (s ∷ ss) =
    if same_kind s.kind StrOffsets then whole_entries encoding s.bytes ++ joined_offsets encoding ss
    else joined_offsets encoding ss

-- a unit's contribution to the sections of a kind: by its row, where its input is a package, else
-- all of them
abbrev pub contribution_by : Source → Option Ranges → SectionKind → List ℕ
contribution_by source None kind = joined_content kind source.object.sections
contribution_by source (Some row) kind = part_of (first kind source.object.sections)
    (range_in row kind)

-- its string offsets
abbrev pub offsets_by : Source → Option Ranges → List ℕ
offsets_by source None = joined_offsets source.encoding source.object.sections
offsets_by source (Some row) =
    part_of (first StrOffsets source.object.sections) (range_in row StrOffsets)

-- the kinds of section that units share
abbrev pub shared_kinds : List SectionKind
shared_kinds = filter is_shared contribution_kinds

-- the ranges of a row lie inside their sections
abbrev pub lie_inside : Source → Option Ranges → Bool
lie_inside source None = true
lie_inside source (Some row) = is_none
    (find (λ kind. is_outside (first kind source.object.sections) (range_in row kind)) shared_kinds)

-- a unit of these bytes, by its row, whose strings are these, where they can be read
abbrev pub meaning_with : Source → List ℕ → Option Ranges → Result (List (List ℕ)) ReadError
    → Option Meaning
meaning_with source bytes row (Ok strings) = Some (record {
  bytes = bytes;
  contributions = contributions_by (contribution_by source row);
  strings = strings;
  encoding = source.encoding;
})
meaning_with source bytes row (Err e) = None

-- all that belongs to it: nothing where a range lies outside its section, or a string can't be read
unfoldable pub meaning_by : Source → List ℕ → Option Ranges → Option Meaning
meaning_by source bytes row =
    if lie_inside source row
    then meaning_with source bytes row (strings_of source.object.order source.encoding
    (first Str source.object.sections) (offsets_by source row))
    else None

-- what was read, where it was
abbrev pub read_of : {X E : Type 0} → Result X E → Option X
read_of (Ok x) = Some x
read_of (Err e) = None

-- the row of an index by place
abbrev pub placed_row : Option Index → SectionKind → Contribution → Option Ranges
placed_row None kind range = None
placed_row (Some index) kind range =
    option_and_then (λ number. read_of (row_in index number)) (row_by_place (Some index) kind range)

-- a unit that was read, and the kind of section that it stands in
pub record UnitRead : Type 0 where
  pub from : SectionKind
  pub unit : Header

-- a unit with all that belongs to it: of a package by its row by place, and nothing without that
-- row
unfoldable pub unit_meaning : Source → DwarfObject × UnitRead → Option Meaning
unit_meaning source read =
    if is_package source.indexes
    then option_and_then (λ row. meaning_by source read.1.unit.whole.bytes (Some row))
    (placed_row (index_for source.indexes read.0) read.1.from (own_contribution read.1.unit))
    else meaning_by source read.1.unit.whole.bytes None

-- a unit that was read, by its name
unfoldable pub named_unit : Source → SectionKind → Result Header ReadError
    → Result (DwarfObject × UnitRead) ErrorValue
named_unit source kind read = do
  unit ← as_error ParseUnitHeader read
  name ← name_for source kind unit
  Ok (name, record { from = kind; unit = unit })

-- all that were read of a section
unfoldable pub named_each : Source → SectionKind → List (Result Header ReadError)
    → Result (List (DwarfObject × UnitRead)) ErrorValue
named_each source kind [] = Ok []
named_each source kind (read ∷ rest) = do
  unit ← named_unit source kind read
  others ← named_each source kind rest
  Ok (unit ∷ others)

abbrev pub named_at : Source → Used → Option UnitSection
    → Result (List (DwarfObject × UnitRead)) ErrorValue
named_at source from None = Ok []
named_at source from (Some place) =
    named_each source from.kind (units place (section source.object.order from.bytes))

-- those of each of these sections, in file order
unfoldable pub named_sections : Source → List Used
    → Result (List (DwarfObject × UnitRead)) ErrorValue
named_sections source [] = Ok []
named_sections source (from ∷ rest) = do
  here ← named_at source from (unit_section from.kind)
  others ← named_sections source rest
  Ok (here ++ others)

-- the units of an input by their names, in file order
abbrev pub source_units : Source → Result (List (DwarfObject × UnitRead)) ErrorValue
source_units source = named_sections source source.object.sections

-- each with all that belongs to it, if it has that
abbrev pub meant : Source → DwarfObject × UnitRead → DwarfObject × Option Meaning
meant source read = (read.0, unit_meaning source read)

unfoldable pub source_meaning : Source → Result (List (DwarfObject × Option Meaning)) ErrorValue
source_meaning source = do
  units ← source_units source
  Ok (map {B = DwarfObject × Option Meaning} (meant source) units)

-- the same of an input with units, whose sections, encoding and indexes are read first
unfoldable pub object_meaning : InputFile → Result (List (DwarfObject × Option Meaning)) ErrorValue
object_meaning object = do
  encoding ← encoding_of object
  indexes ← indexes_of object encoding
  source_meaning (record { object = object; encoding = encoding; indexes = indexes })

-- what an input's bytes mean; without an info section they mean no units
unfoldable pub input_meaning : List ℕ → Result (List (DwarfObject × Option Meaning)) ErrorValue
input_meaning bytes = do
  file ← opened bytes
  if has_info file then (input_file_of file >>= object_meaning) else Ok []

-- the names of a list
abbrev pub keys : {X : Type 0} → List (DwarfObject × X) → List DwarfObject
keys units = map (λ u. u.0) units

-- what a list adds to names that are there: a unit whose name is there, or came before, is passed
-- over
abbrev pub joining : {X : Type 0} → List DwarfObject → List (DwarfObject × X)
    → List (DwarfObject × X)
joining names [] = []
joining names (unit ∷ rest) =
    if list_any (same_name unit.0) names then joining names rest
    else unit ∷ joining (names ++ unit.0 ∷ []) rest

-- there is a join: no compilation unit of the list has a name that is there, or came before
abbrev pub can_join : {X : Type 0} → List DwarfObject → List (DwarfObject × X) → Bool
can_join names [] = true
can_join names (unit ∷ rest) =
    if list_any (same_name unit.0) names then not (is_compilation unit.0) && can_join names rest
    else can_join (names ++ unit.0 ∷ []) rest
