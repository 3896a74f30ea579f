-- Looking a row up, or a unit, is looking a row up by the index of its kind. The places of sections
-- that are read for each kind, and a package by them. Files that are decompressed, and the errors
-- of those that aren't.
use Rattle.dwp_base.proofs.KindsRead.{answers-each, read-all, ReadBelow}
use Rattle.dwp_base.specs.{declared.section.SectionKind.SectionKind, Reading.Answers, Reading.◌>>=◌}
use Rattle.dwp_base.{proofs.Steps.each-read, specs.Sections.all_kinds, specs.Sections.rank_of}
use Rattle.dwp_decompress.specs.Result.{decompressed_of, plain_length_of}
use Rattle.dwp_decompress.specs.declared.error.DecompressError.{DecompressError}
use Rattle.dwp_decompress.{proofs.Sections.length_fails, specs.declared.asked.Asked.TheVariants.All}
use Rattle.dwp_elf_read.specs.{declared.error.ReadError.ReadError, Elf.elf_of, Elf.SectionMeaning}
use Rattle.dwp_index.specs.Contents.{content, content_among, contents_of}
use Rattle.dwp_index.specs.Package.{found_by, index_for, row_by, row_counted, row_found, unit_found}
use Rattle.dwp_index.specs.Package.{found_counted, Package, unit_at_row, unit_in}
use Rattle.dwp_table.specs.{Objects.identifier_of, Probing.found_row, Probing.look_count}
use Rattle.std.proofs.Common.{ap, inl, inr, length, Ok, Option, refl, Some, sym, ◌<◌, ◌∙◌, ◌≢◌, ◌≤◌}
use Rattle.std.proofs.Common.{arith, drop, Err, IfOk, List, pos, Result, slice_get, take, ℕ, ℤ, ◌⊎◌}
use Rattle.std.proofs.{Common.None, Common.rules, lemmas.Option.get_or_from_slice_get, Common.◌≡◌}
use Rattle.thorin_c.specs.ByIndex.{inside, row_listed, row_numbered, with_header}
use Rattle.thorin_c.specs.Finding.{as_status, of_object, present}
use Rattle.thorin_c.specs.Opening.{bytes_at, IsPlaceIn, nowhere, place_in, sections_at}
use Rattle.thorin_c.specs.Plain.{Decompresses, IsError, NeedsRoom, status_of, TellsError}
use Rattle.thorin_c.specs.declared.types.{ThorinPackage.ThorinPackage, ThorinRange.ThorinRange}
use Rattle.{dwp_base.proofs.EveryKind.value-of, dwp_units.proofs.Readings.by-result}
use Rattle.{dwp_base.specs.ByKind.value_of, dwp_table.specs.declared.object.DwarfObject.DwarfObject}
use Rattle.{dwp_index.specs.Index.Index, dwp_index.specs.Index.row_in, std.proofs.lemmas.Int.ints}
use Rattle.dwp_decompress.specs.declared.error.DecompressError.TheVariants as errors

module _ (pack : Package) (object : DwarfObject) where
  by_number : (index : Index) (found : Option ℕ) (slots : ℕ)
      → ((as_status (row_found pack index found slots) >>= present)
      ≡ (row_numbered index found slots >>= inside pack))
      × ((as_status (unit_found pack object index found slots) >>= present)
      ≡ ((row_numbered index found slots >>= inside pack) >>= with_header pack object))
  unfolding unit_at_row unit_in
  by_number index None slots = (refl, refl)
  by_number index (Some number) slots = by-result _ (row_in index number)
      (λ row e. rw e (grind rules, grind rules)) (λ cause e. rw e (refl, refl))

  by_index : (index : Option Index) → ((as_status (row_by pack object index) >>= present)
      ≡ (row_listed object index >>= inside pack))
      × ((as_status (found_by pack object index) >>= present)
      ≡ ((row_listed object index >>= inside pack) >>= with_header pack object))
  by_index None = (refl, refl)
  by_index (Some index) =
      by_number index (found_row index.signatures index.rows (identifier_of object))
      (look_count index.signatures index.rows (identifier_of object))

  pub row_is : of_object row_counted pack object
      ≡ (row_listed object (index_for pack object) >>= inside pack)
  unfolding row_counted
  row_is = (by_index (index_for pack object)).0

  pub unit_is : of_object found_counted pack object
      ≡ (of_object row_counted pack object >>= with_header pack object)
  unfolding row_counted found_counted
  unit_is = (by_index (index_for pack object)).1
      ∙ ap (λ r. r >>= with_header pack object) (sym (by_index (index_for pack object)).0)

-- what is read for a kind is the place of its section, inside the bytes
abbrev pub IsPlaceOf : List SectionMeaning → List ℕ → SectionKind → Result ThorinRange ReadError
    → Type 0
IsPlaceOf sections bytes kind place =
    Answers (bytes_at bytes) place (content_among sections kind) × IfOk place (IsPlaceIn bytes)

-- what holds of what was read for each kind
module _ (sections : List SectionMeaning) (bytes : List ℕ) (places : List ThorinRange)
    (below : ReadBelow (IsPlaceOf sections bytes) places 13) where
  place_is : (kind : SectionKind)
      → (content_among sections kind ≡ Ok (bytes_at bytes (value_of nowhere places kind)))
      × IsPlaceIn bytes (value_of nowhere places kind)
  place_is kind =
      let read = read-all {E = ReadError} (IsPlaceOf sections bytes) places below kind in
      let same : value_of nowhere places kind ≡ read.0 =
      get_or_from_slice_get places (rank_of kind) read.0 nowhere read.1 in
      rw same read.2

  pub contents_read : (order : ℕ) → contents_of sections
      ≡ Ok (sections_at (record { sections = places; big_endian = order }) bytes)
  unfolding contents_of sections_at
  contents_read order = each-read (content_among sections) (λ kind. bytes_at bytes
      (value_of nowhere places kind)) (λ kind. (place_is kind).0) all_kinds

  pub inside_each : (kind : SectionKind) → IsPlaceIn bytes (value_of nowhere places kind)
  inside_each kind = (place_is kind).1

-- the first that can't be read is the answer
pub contents_stop : (sections : List SectionMeaning) (bytes : List ℕ) (places : List ThorinRange)
    (place : ℕ) (kind : SectionKind) (e : ReadError) → slice_get all_kinds place ≡ Some kind
    → IsPlaceOf sections bytes kind (Err e) → ReadBelow (IsPlaceOf sections bytes) places place
    → contents_of sections ≡ Err e
unfolding contents_of
contents_stop sections bytes places place kind e at fails below =
    answers-each (bytes_at bytes) (content_among sections) (IsPlaceOf sections bytes)
    (λ other r means. means.0) (Err e) (
      place,
      kind,
      at,
      fails,
      λ before other lt there.
          let read = below before other lt there in (read.0, read.2),
    )

-- the content of a kind stands at its place
pub content_placed : (places : ThorinPackage) (bytes : List ℕ) (kind : SectionKind)
    → content (sections_at places bytes) kind ≡ bytes_at bytes (place_in places kind)
unfolding sections_at
content_placed places bytes kind = value-of (λ k. bytes_at bytes (place_in places k)) _ kind

module _ (bytes file : List ℕ) (size : ℕ) where
  -- the file was put at the beginning of the room
  pub plain_put : (old new : List ℕ) → decompressed_of All bytes ≡ Ok (Some (elf_of file))
      → plain_length_of All bytes ≡ Ok (Some (length file))
      → size ≡ length file → length file ≤ length new → take (length file) new ≡ file
      → drop (length file) new ≡ drop (length file) old → Decompresses bytes size old new
  plain_put old new meant long s fits front rest = grind arith

  -- it has more bytes than there is room for
  pub room_needed : (room : ℕ) → plain_length_of All bytes ≡ Ok (Some (length file))
      → size ≡ length file → room < length file → NeedsRoom bytes size room
  room_needed room long s past = record { told = rw s long; past = rw s past }

-- other statuses tell no error
pub tells_none : (P : Type 0) (status : ℤ)
    → (status ≡ pos 0) ⊎ ((status ≡ pos 10) ⊎ (status ≡ pos 14)) → TellsError status → P
tells_none P status other told = absurd (grind (arith, ints))

-- an error that is told is neither want of memory nor a file that can't be written
pub told : (bytes : List ℕ) (error : DecompressError) (status : ℤ)
    → (error ≢ errors.Memory → error ≢ errors.Unrepresentable
    → decompressed_of All bytes ≡ Err error)
    → status ≡ status_of error → TellsError status → IsError bytes status
told bytes error status gives s h =
    let apart : (status ≡ pos 13) ⊎ (status ≡ pos 17) → ⊥ = λ other. grind (arith, ints) in
    record {
      error = error;
      is = gives (λ k. apart (inl (s ∙ ap status_of k))) (λ k. apart (inr (s ∙ ap status_of k)));
      status_is = s;
    }

-- the same of an error that is told before any stream is read
pub told_early : (bytes : List ℕ) (error : DecompressError) (status : ℤ)
    → (error ≢ errors.Memory → error ≢ errors.Unrepresentable
    → plain_length_of All bytes ≡ Err error)
    → status ≡ status_of error → TellsError status → IsError bytes status
told_early bytes error status gives =
    told bytes error status (λ m u. length_fails All bytes error (gives m u))
