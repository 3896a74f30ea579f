-- The rows of an index (DWARF 5, 7.3.5.3), each held as its unit, its contribution to the section
-- that the unit stands in, and the number of what it shares with others.
use Rattle.std.specs.Prelude.{List, Some, None, get_or}
use Rattle.dwp_bytes.specs.declared.encoding.Format.TheVariants.{Dwarf32}
use Rattle.dwp_table.specs.declared.object.DwarfObject.{DwarfObject}
use Rattle.dwp_table.specs.declared.object.DwarfObject.TheVariants.{TypeUnit}
use Rattle.thorin_index.specs.Entries.{entry_by}
use Rattle.thorin_index.specs.declared.entry.IndexEntry.{IndexEntry}
use Rattle.thorin_index.specs.declared.rows.Own.{Own}
use Rattle.thorin_index.specs.declared.rows.Own.TheVariants.{Nothing, Info, Types}
use Rattle.thorin_index.specs.declared.rows.Row.{Row}

-- an entry with the unit and its own contribution
abbrev pub with_own : DwarfObject → Own → IndexEntry → IndexEntry
with_own id Nothing entry = record entry { id = id }
with_own id (Info range) entry = record entry { id = id; debug_info = Some range }
with_own id (Types range) entry = record entry { id = id; debug_types = Some range }

-- an entry of no number
abbrev pub blank : IndexEntry
blank = entry_by (record { version = 0; format = Dwarf32; address_size = 0 })
    (TypeUnit (record { 0 = 0 })) (λ kind. None)

-- the entry of a row
abbrev pub row_of : List IndexEntry → Row → IndexEntry
row_of shared row = with_own row.id row.own (get_or shared row.shared blank)
