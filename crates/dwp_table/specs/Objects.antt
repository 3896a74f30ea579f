-- The number by which a unit is looked up: its identifier, or its type signature (DWARF 5,
-- 7.3.5.3).
use Rattle.std.specs.Prelude.{ℕ}
use Rattle.dwp_table.specs.declared.object.DwarfObject.{DwarfObject}
use Rattle.dwp_table.specs.declared.object.DwarfObject.TheVariants.{Compilation, TypeUnit}

abbrev pub identifier_of : DwarfObject → ℕ
identifier_of (Compilation id) = id.0
identifier_of (TypeUnit signature) = signature.0
