-- The units that a package has, each with its bytes (DWARF 5, 7.3.5).
use Rattle.std.specs.Prelude.{ℕ, List, map}
use Rattle.dwp_elf.specs.Contents.{content_of}
use Rattle.dwp_elf.specs.Growing.{Contents}
use Rattle.dwp_index.specs.Package.{kind_of, part_of, place_of}
use Rattle.dwp_table.specs.declared.object.DwarfObject.{DwarfObject}
use Rattle.thorin_index.specs.Entries.{contribution_to}
use Rattle.thorin_index.specs.declared.entry.IndexEntry.{IndexEntry}

-- the bytes of the unit of a row: its range of types, where it is a type unit and has one, else of
-- info
abbrev pub unit_bytes : Contents → IndexEntry → List ℕ
unit_bytes contents row =
    let kind = kind_of (place_of row.id row.debug_types) in
    part_of (content_of kind contents) (contribution_to kind row)

-- the bytes of each unit, by its name, where a package has these contents and rows
abbrev pub held_units : Contents → List IndexEntry → List (DwarfObject × List ℕ)
held_units contents rows = map (λ row. (row.id, unit_bytes contents row)) rows
