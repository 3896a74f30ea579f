-- Where the ranges of an input's units lie beside those of the inputs before it (DWARF 5, 7.3.5.3).
use Rattle.std.specs.Prelude.{◌≡◌, ◌≤◌, List, [], ◌∷◌, ◌++◌, length, Option, Some, None}
use Rattle.dwp_base.specs.declared.section.SectionKind.{SectionKind}
use Rattle.dwp_base.specs.declared.section.Contribution.{Contribution}
use Rattle.dwp_elf.specs.Contents.{content_of}
use Rattle.thorin_index.specs.Entries.{contribution_to}
use Rattle.thorin_index.specs.declared.entry.IndexEntry.{IndexEntry}
use Rattle.dwp_elf.specs.Growing.{Contents}
use Rattle.thorin_join.specs.Represents.{LieInside}
use Rattle.thorin_join.specs.State.{InProgress}

-- the rows and the contents of a package, where an input has begun one
abbrev pub rows_begun : Option InProgress → List IndexEntry
rows_begun None = []
rows_begun (Some made) = made.rows

abbrev pub contents_begun : Option InProgress → Contents
contents_begun None = []
contents_begun (Some made) = made.file.contents

-- the ranges of a row begin where the contents end, or behind
abbrev pub LieBehind : Contents → IndexEntry → Type 0
LieBehind contents row = (kind : SectionKind) (range : Contribution)
    → contribution_to kind row ≡ Some range → length (content_of kind contents) ≤ range.offset.0

-- it holds of each row
abbrev pub EachRow : (IndexEntry → Type 0) → List IndexEntry → Type 0
EachRow P [] = Unit {0}
EachRow P (row ∷ rows) = P row × EachRow P rows

-- the ranges of the units before lie inside the contents before, those of the units that an input
-- added behind these; all of them have bytes, inside the contents
pub record StandApart (before : Option InProgress) (now : InProgress) : Type 0 where
  pub added : List IndexEntry
  pub rows : now.rows ≡ rows_begun before ++ added
  pub first : EachRow (LieInside (contents_begun before)) (rows_begun before)
  pub behind : EachRow (LieBehind (contents_begun before)) added
  pub inside : EachRow (LieInside now.file.contents) now.rows
