-- The identifier that a unit's own bytes give: that in its header, or before DWARF 5 the GNU_dwo_id
-- of its unit DIE (DWARF 5, 7.5.1; the GNU page DebugFission).
use Rattle.std.specs.Prelude.{Option, Some, None}
use Rattle.std.specs.Result.{result_ok}
use Rattle.dwp_base.specs.declared.section.SectionKind.TheVariants.{Abbrev}
use Rattle.dwp_bytes.specs.Input.{Input, section}
use Rattle.dwp_index.specs.Package.{FoundUnit, row_bytes}
use Rattle.dwp_table.specs.declared.object.DwarfObject.{DwarfObject}
use Rattle.dwp_units.specs.Units.{Unit}
use Rattle.thorin_find.specs.Names.{header_in}
use Rattle.thorin_identity.specs.Identity.{identity}

-- the identifier of a unit with this header, where it has one; nothing where it can't be read
abbrev pub own_by : (abbreviations : Input) → Option Unit → Option (Option DwarfObject)
own_by abbreviations None = None
own_by abbreviations (Some header) = result_ok (identity abbreviations header)

-- the identifier that a unit's own bytes give, by the abbreviations of its row
abbrev pub own_of : DwarfObject → FoundUnit → Option (Option DwarfObject)
own_of object unit = own_by (section unit.order (row_bytes unit.contents unit.row Abbrev))
    (header_in unit.order object unit)
