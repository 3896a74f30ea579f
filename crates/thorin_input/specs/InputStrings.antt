-- The string offsets of an input, rewritten to the strings of the package (DWARF 5, 7.26): of an
-- object all at once, of a package range by range.
use Rattle.std.specs.Prelude.{ℕ, List, length, Result, if◌then◌else◌}
use Rattle.dwp_base.specs.declared.section.SectionKind.TheVariants.{Str}
use Rattle.thorin_errors.specs.Errors.{ErrorValue}
use Rattle.thorin_strings.specs.StringOffsets.{remapped}
use Rattle.thorin_package_input.specs.PackagedOffsets.{packaged_offsets}
use Rattle.thorin_input.specs.Indexes.{Source, is_package}
use Rattle.thorin_input.specs.Used.{first}

-- string offsets that name their strings among the distinct ones: those of a package range by range
unfoldable pub rewritten : Source → List ℕ → List (List ℕ)
    → Result (List ℕ × List (List ℕ)) ErrorValue
rewritten source bytes strings =
    if is_package source.indexes
    then packaged_offsets source.object.order source.encoding source.indexes.compilations
    source.indexes.types (first Str source.object.sections) bytes strings
    else remapped source.object.order source.encoding (first Str source.object.sections) bytes
    (length bytes) strings
