-- A package while it is made: its fields, and the steps that add the units and rows of an input
-- whose sections are known (DWARF 5, 7.3.5; the GNU page DebugFissionDWP).
use Rattle.std.specs.Prelude.{[], Err, if◌then◌else◌, length, List, map, Ok, Result, take, ℕ, ◌++◌}
use Rattle.std.specs.Prelude.{◌∷◌, ◌≡◌}
use Rattle.std.specs.List.{list_any}
use Rattle.dwp_base.specs.Reading.{◌>>=◌}
use Rattle.dwp_base.specs.declared.class.Class.{Class}
use Rattle.dwp_base.specs.declared.endian.Endianness.{Endianness}
use Rattle.dwp_base.specs.declared.section.SectionKind.TheVariants as kinds
use Rattle.dwp_base.specs.Sections.{name_of}
use Rattle.dwp_elf.specs.FileText.{Object as File}
use Rattle.dwp_elf.specs.Growing.{Contents, contribution_put, IsGrown, lengths, with_bytes}
use Rattle.dwp_units.specs.declared.unit.UnitSection.{UnitSection}
use Rattle.dwp_units.specs.declared.unit.UnitSection.TheVariants as places
use Rattle.dwp_index.specs.Package.{kind_of}
use Rattle.dwp_table.specs.declared.object.DwarfObject.{DwarfObject}
use Rattle.thorin_index.specs.declared.entry.IndexEntry.{IndexEntry}
use Rattle.thorin_errors.specs.Errors.{ErrorValue, MissingRequiredSection}
use Rattle.thorin_input.specs.Held as held
use Rattle.thorin_input.specs.Indexes.{Source}
use Rattle.thorin_input.specs.Names.{same_name}
use Rattle.thorin_input.specs.NewUnits.{Adding, New, new_units, NewUnit}
use Rattle.thorin_input.specs.Parts.{parts_of, with_parts}
use Rattle.thorin_input.specs.Rows.{whole_row}
use Rattle.thorin_input.specs.Used.{InputFile}

-- a package that was begun: the file so far, the distinct strings, a row for each unit, and the
-- signatures of type units that were passed over and differ from those kept
pub record InProgress : Type 0 where
  pub file : File
  pub strings : List (List ℕ)
  pub rows : List IndexEntry
  pub differing : List ℕ

-- the names of its units, in order of acceptance
abbrev pub names_of : InProgress → List DwarfObject
names_of made = map (λ row. row.id) made.rows

-- the bytes of each unit, by its name
abbrev pub held_units : InProgress → List (DwarfObject × List ℕ)
held_units made = held.held_units made.file.contents made.rows

-- the row of a unit whose bytes are appended to info or types
abbrev pub row_at : IndexEntry → Contents → DwarfObject → List ℕ → UnitSection → IndexEntry
row_at row contents name bytes places.Info =
    record row { id = name; debug_info = contribution_put kinds.Info bytes contents }
row_at row contents name bytes places.Types =
    record row { id = name; debug_types = contribution_put kinds.Types bytes contents }

-- the package with a unit more
abbrev pub with_unit_added : InProgress → DwarfObject × NewUnit → InProgress
with_unit_added made unit = record made {
  file = record made.file
      { contents = with_bytes (kind_of unit.1.place) unit.1.bytes made.file.contents };
  rows = made.rows ++ row_at unit.1.row made.file.contents unit.0 unit.1.bytes unit.1.place ∷ [];
}

-- the same where its name isn't there
unfoldable pub with_new_unit : InProgress → DwarfObject × NewUnit → InProgress
with_new_unit made unit =
    if list_any (same_name unit.0) (names_of made) then made else with_unit_added made unit

-- and with each of these
unfoldable pub with_new_units : InProgress → List (DwarfObject × NewUnit) → InProgress
with_new_units made [] = made
with_new_units made (unit ∷ units) = with_new_units (with_new_unit made unit) units

-- a section of abbreviations is there
unfoldable pub abbreviations_test : InputFile → Result (Unit {0}) ErrorValue
abbreviations_test object =
    if object.has_abbreviations then Ok tt else Err (MissingRequiredSection (name_of kinds.Abbrev))

-- what the units that an input adds depend on, whose parts will be these
abbrev pub adding : Source → InProgress → Contents → Adding
adding source made parts = record {
  source = source;
  whole = whole_row source.encoding made.file.contents parts;
  held = held_units made;
}

-- the package with these parts, these strings and these units of an input
unfoldable pub with_all : InProgress → Contents × List (List ℕ) → New → InProgress
with_all made parts new =
    with_new_units
    (record made {
      file = record made.file { contents = with_parts parts.0 made.file.contents };
      strings = parts.1;
      differing = made.differing ++ new.differing;
    })
    new.units

-- the package with the units of an input, or its first error
unfoldable pub with_source : Source → InProgress → Result InProgress ErrorValue
with_source source made = do
  parts ← parts_of source made.strings
  _ ← abbreviations_test source.object
  new ← new_units (adding source made parts.0)
  Ok (with_all made parts new)

-- nothing of what a package had is lost
pub record Extends (before now : InProgress) : Type 0 where
  pub file : IsGrown before.file now.file
  pub strings : take (length before.strings) now.strings ≡ before.strings
  pub rows : take (length before.rows) now.rows ≡ before.rows
  pub differing : take (length before.differing) now.differing ≡ before.differing

-- a package with nothing in it
abbrev pub empty : Class → ℕ → Endianness → InProgress
empty class machine order = record {
  file = record { class = class; machine = machine; order = order; contents = [] };
  strings = [];
  rows = [];
  differing = [];
}

-- how much of a package there is: the length of each content, and how many strings, rows and
-- signatures
pub record Amount : Type 0 where
  pub lengths : List ℕ
  pub strings : ℕ
  pub rows : ℕ
  pub differing : ℕ

abbrev pub amount_of : InProgress → Amount
amount_of made = record {
  lengths = lengths made.file.contents;
  strings = length made.strings;
  rows = length made.rows;
  differing = length made.differing;
}
