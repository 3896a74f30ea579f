-- What the values of an open package hold.
use Rattle.std.specs.Prelude.{ℕ}
use Rattle.dwp_bytes.specs.declared.encoding.Encoding.{Encoding}
use Rattle.dwp_table.specs.declared.object.DwarfObject.{DwarfObject}
use Rattle.dwp_index.specs.Finding.{unit_of}
use Rattle.dwp_index.specs.Index.{Ranges}
use Rattle.dwp_index.specs.Package.{Package, FoundUnit}
use Rattle.thorin_c.specs.Opening.{sections_at}
use Rattle.thorin_c.specs.declared.opened.OpenPackage.TheInside.{Inside}
use Rattle.thorin_c.specs.declared.opened.ListedRow.{ListedRow}

abbrev pub package_held : Inside → Package
package_held o = record {
  order = o.order;
  contents = sections_at o.sections.places.now o.sections.bytes.now;
  compilations = o.compilations;
  types = o.types;
}

-- a row with its number, and how many slots were looked at
abbrev pub row_held : ListedRow → (ℕ × Ranges) × ℕ
row_held row = ((row.number, row.ranges), row.slots)

-- the unit of an object
abbrev pub unit_held : Package → DwarfObject → ListedRow × Encoding → FoundUnit × ℕ
unit_held pack object unit =
    (unit_of pack object unit.0.number unit.0.ranges unit.1, unit.0.slots)
