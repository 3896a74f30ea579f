-- The package that a written file is read as (DWARF 5, 7.3.5; the GNU page DebugFissionDWP).
use Rattle.std.specs.Prelude.{◌≡◌, Option, Ok}
use Rattle.dwp_base.specs.declared.section.SectionKind.{SectionKind}
use Rattle.dwp_elf.specs.Contents.{content_of}
use Rattle.dwp_elf.specs.FileText.{Object as File}
use Rattle.dwp_index.specs.Holding.{sections_of}
use Rattle.dwp_index.specs.Index.{Index}
use Rattle.dwp_index.specs.Package.{Package, index_in_section}

-- a file's content of a kind is this index; or it is empty, and there is none
abbrev pub IsIndexIn : File → SectionKind → Option Index → Type 0
IsIndexIn file kind index =
    index_in_section file.order (content_of kind file.contents) ≡ Ok index

-- a file's contents as a package with these indexes
abbrev pub package_with : File → (compilations types : Option Index) → Package
package_with file compilations types = record {
  order = file.order;
  contents = sections_of (λ kind. content_of kind file.contents);
  compilations = compilations;
  types = types;
}
