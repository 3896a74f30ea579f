-- A package that is open: where its sections lie among its bytes.
use Rattle.std.specs.Prelude.{◌≡◌, ℕ, ◌+◌, ◌==◌, true, List, [], slice_range, Result, Ok}
use Rattle.std.specs.Prelude.{if◌then◌else◌}
use Rattle.dwp_base.specs.ByKind.{value_of}
use Rattle.dwp_base.specs.Reading.{◌>>=◌}
use Rattle.dwp_base.specs.declared.endian.Endianness.{Endianness}
use Rattle.dwp_base.specs.declared.endian.Endianness.TheVariants.{Little, Big}
use Rattle.dwp_base.specs.declared.section.SectionKind.{SectionKind}
use Rattle.dwp_base.specs.declared.section.SectionKind.TheVariants as kinds
use Rattle.dwp_elf_read.specs.Layout.{is_inside}
use Rattle.dwp_index.specs.Contents.{Sections, content}
use Rattle.dwp_index.specs.Holding.{sections_of}
use Rattle.dwp_index.specs.Package.{Package, index_in_section}
use Rattle.dwp_index.specs.declared.error.PackageError.{PackageError}
use Rattle.thorin_c.specs.declared.types.ThorinPackage.{ThorinPackage}
use Rattle.thorin_c.specs.declared.types.ThorinRange.{ThorinRange}

-- the place of a section that isn't there
abbrev pub nowhere : ThorinRange
nowhere = record { offset = 0; size = 0 }

-- the bytes of a place; none where it isn't inside
abbrev pub bytes_at : List ℕ → ThorinRange → List ℕ
bytes_at bytes place =
    if is_inside bytes place.offset place.size
    then slice_range bytes place.offset (place.offset + place.size) else []

-- the byte order of a number
abbrev pub order_of : ℕ → Endianness
order_of n = if n == 0 then Little else Big

-- the place of a kind's section
abbrev pub place_in : ThorinPackage → SectionKind → ThorinRange
place_in places kind = value_of nowhere places.sections kind

-- the sections at their places
unfoldable pub sections_at : ThorinPackage → List ℕ → Sections
sections_at places bytes = sections_of (λ kind. bytes_at bytes (place_in places kind))

-- a place lies inside the bytes
abbrev pub IsPlaceIn : List ℕ → ThorinRange → Type 0
IsPlaceIn bytes place = is_inside bytes place.offset place.size ≡ true

-- so does the place of each kind's section
abbrev pub LieIn : List ℕ → ThorinPackage → Type 0
LieIn bytes places = (kind : SectionKind) → IsPlaceIn bytes (place_in places kind)

-- what bytes mean as a package whose sections are at these places, whatever the places are; or the
-- first index that can't be read
unfoldable pub package_in : ThorinPackage → List ℕ → Result Package PackageError
package_in places bytes = do
  let order = order_of places.big_endian
  let contents = sections_at places bytes
  compilations ← index_in_section order (content contents kinds.CuIndex)
  types ← index_in_section order (content contents kinds.TuIndex)
  Ok (record {
    order = order;
    contents = contents;
    compilations = compilations;
    types = types;
  })

-- the places at which a package's sections lie: read by them, it means what its bytes mean
abbrev pub opened : Result Package PackageError → Result (Result Package PackageError) PackageError
opened read = read >>= λ pack. Ok (Ok pack)
