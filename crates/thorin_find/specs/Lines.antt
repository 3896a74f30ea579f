-- What is printed of units.
use Rattle.std.specs.Prelude.{ℕ, List, ◌++◌, codes}
use Rattle.dwp_table.specs.Objects.{identifier_of}
use Rattle.dwp_table.specs.declared.object.DwarfObject.{DwarfObject}
use Rattle.dwp_table.specs.declared.object.DwarfObject.TheVariants.{Compilation, TypeUnit}
use Rattle.thorin_print.specs.Lines.{hex16}

-- `cu` or `tu`
abbrev pub short_kind : DwarfObject → List ℕ
short_kind (Compilation id) = codes "cu"
short_kind (TypeUnit signature) = codes "tu"

-- an object (RFC 8259) up to a unit's identifier
unfoldable pub json_unit : DwarfObject → List ℕ
json_unit object = codes "{\"kind\":\"" ++ (short_kind object
    ++ (codes "\",\"id\":\"0x" ++ hex16 (identifier_of object)))
