-- The names of units: each is of one kind, with one number (DWARF 5, 7.3.5.3).
use Rattle.std.specs.Prelude.{Bool, true, false, ◌==◌, List, [], ◌∷◌, ◌++◌, if◌then◌else◌}
use Rattle.std.specs.List.{list_any}
use Rattle.dwp_table.specs.declared.object.DwarfObject.{DwarfObject}
use Rattle.dwp_table.specs.declared.object.DwarfObject.TheVariants.{Compilation, TypeUnit}

-- two names are the same: of one kind, with one number
abbrev pub same_name : DwarfObject → DwarfObject → Bool
same_name (Compilation a) (Compilation b) = a.0 == b.0
same_name (TypeUnit a) (TypeUnit b) = a.0 == b.0
same_name _ _ = false

-- whether a name is that of a compilation unit
abbrev pub is_compilation : DwarfObject → Bool
is_compilation (Compilation id) = true
is_compilation (TypeUnit signature) = false

-- names with one more, where it isn't among them
abbrev pub with_name : List DwarfObject → DwarfObject → List DwarfObject
with_name names name = if list_any (same_name name) names then names else names ++ name ∷ []
