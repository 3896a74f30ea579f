-- The units that the indexes of a package name.
use Rattle.std.specs.Prelude.{ℕ, List, ◌++◌, map, Option}
use Rattle.std.specs.Option.{option_copied}
use Rattle.dwp_table.specs.declared.object.DwarfObject.TheVariants.{Compilation, TypeUnit}
use Rattle.dwp_index.specs.declared.units.UnitEntry.{UnitEntry}
use Rattle.dwp_index.specs.declared.units.Units.{Units}
use Rattle.dwp_index.specs.Index.{Index}
use Rattle.dwp_index.specs.Used.{used_from}

abbrev pub compilation_entry : ℕ × ℕ → UnitEntry
compilation_entry s = record { object = Compilation (record { 0 = s.0 }); row = s.1 }

abbrev pub type_entry : ℕ × ℕ → UnitEntry
type_entry s = record { object = TypeUnit (record { 0 = s.0 }); row = s.1 }

-- the used slots of both indexes from these slots on, the compilation index first
abbrev pub entries_from : Option Index → Option Index → ℕ → ℕ → List UnitEntry
entries_from compilations types c t =
    map compilation_entry (used_from compilations c) ++ map type_entry (used_from types t)

-- what the iterator has left
abbrev pub units_left : Units → List UnitEntry
units_left u =
    entries_from (option_copied u.compilations) (option_copied u.types) u.compilation u.type_unit
