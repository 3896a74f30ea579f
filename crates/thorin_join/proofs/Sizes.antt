-- How large a package becomes: inputs add to its contents at most the bytes of their used sections,
-- and finishing adds the strings and both indexes.
use Rattle.thorin_join.proofs.Terms
use Terms.{Adding, adding, All, ap, arith, begun_by, bind-was, bytes_of_unit, cond, Contents}
use Terms.{IndexEntry, InProgress, is_some, IsFinished, IsIndexOf, joining, KindsDiffer, leb-true}
use Terms.{data_of, DwarfObject, Elf, Endianness, ErrorValue, every, File, file_text, first, Header}
use Terms.{length, length-append, length-KindsDiffer, length-map, List, map, name_of, nat_le, ◌≡◌}
use Terms.{nat_tests, NewUnit, None, Ok, Option, refl, same-ok, SectionKind, Some, Source, Str, suc}
use Terms.{sum_by, sym, unit_section, UnitRead, units_whole, UnitSection, Used, with_bytes, ◌≤◌}
use Terms.{with_input, with_new_units, with_parts, with_source, [], ℕ, ◌*◌, ◌++◌, ◌+◌, ◌∙◌, ◌∷◌}
use Rattle.dwp_elf.proofs.ReadingBack.{length-file_text, length-number_bytes}
use Rattle.std.proofs.lemmas.List.{Concat.length-flat_map, Folds.flat_map-map}
use Rattle.{thorin_index.specs.IndexText.index_bytes, thorin_join.proofs.Parts.units-strings}
use Rattle.thorin_join.specs.{FirstUse.strings_begun, FirstUse.with_strings, Sizes.bytes_begun}
use Rattle.thorin_join.specs.{Meaning.named_at, Meaning.named_sections, Sizes.bytes_of_index}
use Rattle.thorin_join.proofs.Joined.{same-begun, source-made, takes}
use Rattle.dwp_elf.specs.{Contents.appended, FileText.content_bytes, FileText.names_of}
use Rattle.thorin_join.specs.Sizes.{bytes_of_contents, sections_of_input, used_size, with_inputs}
use Rattle.thorin_join.specs.Sizes.{bytes_of_strings, carried, carried_size, container_most}
use Rattle.thorin_join.specs.Sizes.{IsSizeFinished, IsSizeOfIndex, offsets_used, sections_in}
use Rattle.std.proofs.lemmas.List.Sums.{sum_by-append, sum_by-cons, sum_by-le-sum_by, sum_by_push}
use Rattle.thorin_join.proofs.Parts.{each-brings, each-unit, ended_long, long, placed_bytes}
use Rattle.thorin_join.proofs.Units.{AreAdded, each-named, News, Reads, units-joined}

-- bytes that are added to a kind's
appended-long : (k : SectionKind) (bytes : List ℕ) (c : Contents)
    → bytes_of_contents (appended k bytes c) ≡ bytes_of_contents c + length bytes
appended-long k bytes [] = omega (arith, sum_by-cons long (k, bytes) [])
appended-long k bytes (c ∷ cs) =
    let same = sum_by-cons long (c.0, c.1 ++ bytes) cs in
    let other = sum_by-cons long c (appended k bytes cs) in
    grind (arith, sum_by-cons long c cs, length-append c.1 bytes, appended-long k bytes cs)

pub with_bytes-long : (k : SectionKind) (bytes : List ℕ) (c : Contents)
    → bytes_of_contents (with_bytes k bytes c) ≡ bytes_of_contents c + length bytes
with_bytes-long k bytes c = grind (arith, nat_tests, appended-long k bytes c)

pub with_parts-long : (parts c : Contents) → bytes_of_contents (with_parts parts c) ≡
    bytes_of_contents c + bytes_of_contents parts
unfolding with_parts
with_parts-long [] c = omega arith
with_parts-long (p ∷ ps) c =
    grind (arith, with_parts-long ps, with_bytes-long p.0 p.1 c, sum_by-cons long p ps)

-- units
abbrev unit_long : DwarfObject × NewUnit → ℕ
unit_long unit = length unit.1.bytes

pub units-within : (made : InProgress) (units : News)
    → bytes_of_contents (with_new_units made units).file.contents ≤
    bytes_of_contents made.file.contents + sum_by unit_long units
units-within = each-unit (λ made units now. bytes_of_contents now.file.contents ≤
    bytes_of_contents made.file.contents + sum_by unit_long units) (λ made. omega arith)
    (λ made unit units now later. omega (arith, sum_by-cons unit_long unit units, later))
    (λ made unit units now later. grind (arith, sum_by-cons unit_long unit units, with_bytes-long))

-- the units that are read by their names have all bytes of their section
abbrev read_unit : DwarfObject × UnitRead → Header
read_unit read = read.1.unit

abbrev read_bytes : DwarfObject × UnitRead → ℕ
read_bytes read = length read.1.unit.whole.bytes

module _ (source : Source) where
  section-within : (from : Used) (place : Option UnitSection) (us : Reads)
      → named_at source from place ≡ Ok us
      → sum_by read_bytes us ≤ cond (is_some place) (length from.bytes) 0
  section-within from None us h = rw (← same-ok {E = ErrorValue} [] us h) (omega arith)
  section-within from (Some place) us h =
      let reads = each-named source from.kind (λ reads us. reads ≡ map Ok (map read_unit us)) refl
      (λ unit name reads us named others. ap (λ l. Ok unit ∷ l) others) _ us h in
      let is = sym (flat_map-map bytes_of_unit read_unit us) ∙ units_whole place _ _ reads in
      let joined = length-flat_map (λ (u : DwarfObject × UnitRead). u.1.unit.whole.bytes) us in
      omega (arith, joined, ap length is)

  sections-within : (sections : List Used) (us : Reads)
      → named_sections source sections ≡ Ok us → sum_by read_bytes us ≤ sum_by placed_bytes sections
  unfolding named_sections
  sections-within [] us h = grind arith
  sections-within (from ∷ rest) us h =
      let here = section-within from (unit_section from.kind) in
      let sums = sum_by-append read_bytes in
      grind (arith, here, sections-within rest, sums, sum_by-cons placed_bytes from rest)

-- what is added of them
added-within : (adding : Adding) (names : List DwarfObject) (us : Reads) (ns : News)
    → AreAdded adding ns (joining names us) → sum_by unit_long ns ≤ sum_by read_bytes us
added-within adding names us [] are = omega arith
added-within adding names [] (n ∷ ns) are = absurd are
added-within adding names (u ∷ us) (n ∷ ns) are =
    let here = sum_by-cons unit_long n ns in
    let passed = added-within adding names us (n ∷ ns) in
    let new = added-within adding (names ++ u.0 ∷ []) us ns in
    grind (arith, here, sum_by-cons read_bytes u us, passed, new)

-- a measure of a package grows by at most so much with the units of an input
pub record Grows (measure : Option InProgress → ℕ) (most : List Used → ℕ) : Type 0 where
  pub begins : (file : Elf) → measure (Some (begun_by file)) ≡ measure None
  pub source : (source : Source) (before now : InProgress) → with_source source before ≡ Ok now
      → measure (Some now) ≤ measure (Some before) + most source.object.sections

pub bytes-grow : Grows bytes_begun (sum_by carried)
bytes-grow = record {
  begins = λ file. refl;
  source = λ source before now h.
      let m = source-made source before now h in
      let brought = each-brings source _ _ _ m.parts_are in
      let j = units-joined (adding source before m.parts) m.new m.new_are in
      let added = added-within _ _ j.all m.new.units j.are in
      let all = sections-within source _ j.all j.is in
      grind (arith, m.is, units-within, with_parts-long, brought.1);
}

used-most : (strings used : List (List ℕ)) → bytes_of_strings
    (with_strings strings used) ≤ bytes_of_strings strings + bytes_of_strings used
used-most strings [] = omega arith
used-most strings (s ∷ ss) =
    let more = used-most (strings ++ s ∷ []) ss in
    grind (arith, sum_by-cons ended_long, sum_by_push ended_long, used-most strings ss, more)

-- the strings are those that its string offsets name
pub strings-grow : Grows (λ begun. 4 * bytes_of_strings (strings_begun begun))
    (λ sections. sum_by offsets_used sections * length (first Str sections))
strings-grow = record {
  begins = λ file. refl;
  source = λ source before now h.
      let m = source-made source before now h in
      let b = (each-brings source _ _ _ m.parts_are).0 in
      let same = ap (λ (n : InProgress). n.strings) (sym m.is) ∙ units-strings _ m.new.units in
      grind (arith, same, b.are, b.most, used-most before.strings);
}

-- inputs, one after another
module _ {measure : Option InProgress → ℕ} {most : List Used → ℕ} (grows : Grows measure most) where
  -- an input begins a package at most, or its units are added
  pub input-most : (bytes : List ℕ) (begun now : Option InProgress) → with_input bytes begun ≡ Ok
      now → measure now ≤ measure begun + most (sections_of_input bytes)
  unfolding sections_of_input sections_in
  input-most bytes begun now h =
      let t = takes bytes begun now h in
      grind (arith, same-begun measure t.file (grows.begins t.file) begun, grows.source)

  pub inputs-most : (inputs : List (List ℕ)) (begun now : Option InProgress)
      → with_inputs inputs begun ≡ Ok now
      → measure now ≤ measure begun + sum_by (λ bytes. most (sections_of_input bytes)) inputs
  unfolding with_inputs
  inputs-most [] begun now h = grind arith
  inputs-most (bytes ∷ inputs) begun now h =
      let s = bind-was _ _ now h in
      let later = inputs-most inputs s.0 now s.2 in
      omega (arith, input-most bytes begun s.0 s.1, later, sum_by-cons {X = List ℕ})

-- where used sections don't overlap
pub carried-used : (bytes : List ℕ) → carried_size bytes ≤ used_size bytes
carried-used bytes = sum_by-le-sum_by carried (λ used. length used.bytes) (sections_of_input bytes)
    (λ s. grind arith)

pub lengths-within : (inputs : List (List ℕ)) → All (λ bytes. used_size bytes ≤ length bytes) inputs
    → sum_by carried_size inputs ≤ sum_by length inputs
lengths-within [] h = omega arith
lengths-within (bytes ∷ inputs) h =
    let later = lengths-within inputs (λ k d within. h (suc k) d (omega arith)) in
    omega (arith, h 0 [] (omega arith), carried-used bytes, later, sum_by-cons {X = List ℕ})

-- a finished package: contributions of so many bytes each
each-long : {X : Type 0} (n : ℕ) (xs : List X) → sum_by (λ x. n) xs ≡ n * length xs
each-long n [] = omega arith
each-long n (x ∷ xs) = grind (arith, sum_by-cons (λ x. n) x xs, each-long n xs)

index-long : (order : Endianness) (version : ℕ) (columns : List SectionKind)
    (entries : List IndexEntry) (rows : List ℕ)
    → length (index_bytes order version columns entries rows) ≡ bytes_of_index (length rows)
    (length columns) (length entries)
unfolding index_bytes
index-long order version columns entries rows =
    simp (length-append, length-flat_map, length-number_bytes, each-long, length-map)
    (grind (arith, length-append, length-number_bytes))

index-size : (order : Endianness) (entries : List IndexEntry) (bytes : List ℕ)
    → IsIndexOf order entries bytes → IsSizeOfIndex entries (length bytes)
index-size order [] bytes h = ap length h
index-size order (first ∷ entries) bytes h =
    (length h.rows, h.slots, ap length h.text ∙ index-long order _ _ (first ∷ entries) h.rows)

pub finished-size : (made : InProgress) (file : File) → IsFinished made file
    → IsSizeFinished made (bytes_of_contents file.contents)
finished-size made file f =
    let strings : length (data_of made.strings) ≡ bytes_of_strings made.strings =
    simp (length-flat_map, length-append) in
    record {
      compilation_index = length f.compilation_index;
      type_index = length f.type_index;
      of_compilations = index-size made.file.order _ f.compilation_index f.compilations;
      of_types = index-size made.file.order _ f.type_index f.types;
      is = grind (arith, f.contents, with_bytes-long, strings);
    }

-- an ELF file has few bytes beside its contents
contents-within : (cs : Contents) → (length (content_bytes cs) ≡ bytes_of_contents cs)
    × (length (names_of cs) ≤ 23 * length cs)
unfolding content_bytes names_of
contents-within [] = (refl, omega arith)
contents-within (c ∷ cs) =
    let name = leb-true _ 22 (every (λ k. nat_le (length (name_of k)) 22) refl c.0) in
    omega (arith, length-append {A = ℕ}, name, contents-within cs, sum_by-cons long c cs)

pub file-within : (file : File) → KindsDiffer file.contents
    → length (file_text file) ≤ bytes_of_contents file.contents + container_most
file-within file differ =
    let few = length-KindsDiffer file.contents differ in
    let parts = contents-within file.contents in
    grind (arith, length-file_text file, parts, length-append {A = ℕ})

-- the laws that are one of these lemmas as it stands
pub ruleset laws = (file-within, finished-size)
