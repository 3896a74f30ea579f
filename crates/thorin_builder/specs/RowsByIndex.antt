-- The rows that stand in each of a package's two indexes.
use Rattle.std.specs.Prelude.{Bool, filter, true, false, List, not}
use Rattle.thorin_builder.specs.declared.state.Index.{Index}
use Rattle.thorin_builder.specs.declared.state.Index.TheVariants.{Compilations, TypeUnits}
use Rattle.thorin_index.specs.declared.entry.IndexEntry.{IndexEntry}
use Rattle.thorin_input.specs.Names.{is_compilation}

-- whether an index is that of the compilation units
abbrev pub is_of_compilations : Index → Bool
is_of_compilations Compilations = true
is_of_compilations TypeUnits = false

-- whether a row stands in an index
abbrev pub stands_in : Index → IndexEntry → Bool
stands_in Compilations row = is_compilation row.id
stands_in TypeUnits row = not (is_compilation row.id)

-- the rows that stand in an index, in their order
abbrev pub rows_in : Index → List IndexEntry → List IndexEntry
rows_in index rows = filter (stands_in index) rows
