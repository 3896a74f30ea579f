-- What `check` tells of the indexes of a package, apart from their rows and slots: two versions,
-- and sections that no column is for.
use Rattle.std.specs.Prelude.{ℕ, Bool, false, not, ◌&&◌, ◌||◌, ◌==◌, if◌then◌else◌, List, [], ◌∷◌}
use Rattle.std.specs.Prelude.{◌++◌, codes, length, Option, Some, None, is_some}
use Rattle.std.specs.Fmt.{decimal}
use Rattle.dwp_base.specs.Sections.{name_of}
use Rattle.dwp_base.specs.declared.section.SectionKind.{SectionKind}
use Rattle.dwp_index.specs.Contents.{content}
use Rattle.dwp_index.specs.Index.{Index, column_place}
use Rattle.dwp_index.specs.Package.{Package}
use Rattle.dwp_table.specs.Columns.{contribution_kinds}
use Rattle.thorin_check.specs.Rendering.{FaultValue, of_package}
use Rattle.thorin_check.specs.Telling.{InTurn, ForEach, Is}

-- ---- versions

-- the versions of two indexes that differ: the units of a package are of one format, that of DWARF
-- 5 or the one before (DWARF 5, 7.3.5.3; the GNU page DebugFissionDWP), and packing refuses others
abbrev pub versions_by : (compilations types : Option Index) → Option (ℕ × ℕ)
versions_by (Some c) (Some t) = if c.version == t.version then None else Some (c.version, t.version)
versions_by _ _ = None

abbrev pub mixed_versions : Package → Option (ℕ × ℕ)
mixed_versions pack = versions_by pack.compilations pack.types

unfoldable pub versions_text : (compilations types : ℕ) → List ℕ
versions_text compilations types = codes ".debug_cu_index has version "
    ++ (decimal compilations ++ (codes ", .debug_tu_index version " ++ decimal types))

abbrev pub versions_faults : Option (ℕ × ℕ) → List FaultValue
versions_faults None = []
versions_faults (Some versions) = of_package (versions_text versions.0 versions.1) ∷ []

-- ---- columns

-- an index has a column for a section
abbrev pub has_column : SectionKind → Option Index → Bool
has_column kind None = false
has_column kind (Some index) = is_some (column_place index.version index.columns kind)

-- a section has bytes, and no index has a column for it: so no unit has any of them, though it is a
-- section that units have parts of (DWARF 5, 7.3.5.3), and packing refuses such a package
abbrev pub lacks_column : Package → SectionKind → Bool
lacks_column pack kind = not (length (content pack.contents kind) == 0)
    && not (has_column kind pack.compilations || has_column kind pack.types)

-- a fault of a section, where that is so
abbrev pub section_faults : SectionKind → (is_so : Bool) → (what : List ℕ) → List FaultValue
section_faults kind is_so what = if is_so then of_package (name_of kind ++ what) ∷ [] else []

abbrev pub column_faults : SectionKind → (lacks : Bool) → List FaultValue
column_faults kind lacks = section_faults kind lacks (codes ": no index has a column for it")

-- what is told of these sections
abbrev pub TellsColumns : Package → List SectionKind → List FaultValue → Type 0
TellsColumns pack = ForEach (λ kind. Is (column_faults kind (lacks_column pack kind)))

-- what is told of the versions, and of all sections that units have parts of
abbrev pub TellsIndexes : Package → List FaultValue → Type 0
TellsIndexes pack = InTurn (Is (versions_faults (mixed_versions pack)))
    (TellsColumns pack contribution_kinds)
