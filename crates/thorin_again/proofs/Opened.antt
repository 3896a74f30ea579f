-- A written file is opened as an input, its sections are taken, and what is not empty is there
-- under its name. The sections are taken as parts, or refused with an error of some sort, where
-- string offsets are. The indexes of a written package are taken, where its rows have the version
-- of the input, and its sections are in the format of its units. A written package of plain objects
-- is read again: its indexes, and its string offsets.
use Rattle.thorin_join.proofs.Terms as Joined
use Joined.{AreRowsOf, entry_ids, file_text, is_chosen, is_shared, IsIndexOf, nat_tests, with_input}
use Joined.{Contents, rewritten, same-each, same-self, same_kind, same_Some, slice_get, UnitSection}
use Joined.{DwarfObject, index_version_of, KindsDiffer, packaged_offsets, SectionKind, with_offsets}
use Joined.{Endianness, ErrorValue, IndexEntry, InProgress, IsFinished, list_any-append, StrOffsets}
use Joined.{Index, Parts, parts_of, Result, rows_of, same-ok, Source, units_in, units_of, with_part}
use Joined.{ap, Elf, Err, length, not, Ok, sym, [], ◌++◌, ◌+◌, ◌<◌, ◌>>=◌, ◌^◌, ◌∙◌, ◌∷◌, ◌≡◌, ◌≤◌}
use Joined.{append-nil, content_of, is_package, length-map, meaning_at, nil_from_length, order_test}
use Joined.{append_assoc, AreDistinct, contribution_to, input_file_of, IsSoundBegun, with_each_part}
use Joined.{arith, Bool, cond, every, false, File, first, List, None, refl, Some, subst, true, Used}
use Joined.{count_of, Encoding, has_info, has_part, index_tests, list_any, slice_index, take-length}
use Joined.{data_of, Indexes, is-same, is_some, IsRowOf, IsSound, kind_of, Meaning, name_of, Option}
use Joined.{ℕ}
use Rattle.dwp_base.proofs.EveryKind.{kind-named, not-older}
use Rattle.dwp_base.specs.declared.section.SectionKind.TheVariants.{Info}
use Rattle.dwp_elf.specs.Written.{plain_section, written_elf, written_sections}
use Rattle.dwp_elf_read.specs.Elf.{elf_of, is_named, is_of, SectionMeaning}
use Rattle.std.proofs.{Common.bytes_eq, lemmas.Bool.or_right}
use Rattle.thorin_again.proofs.Offsets.{all-rewritten, are-named, tile-tested}
use Rattle.thorin_again.proofs.Sections.{any-chosen, has-range, one-is-there, ranges-are, tile-lies}
use Rattle.thorin_again.proofs.Sections.{at-row, passing, some-has}
use Rattle.thorin_again.specs.OwnInput.{IsOwn, own_source, TakesParts, TakesUpToParts, written_used}
use Rattle.thorin_again.specs.{Again.input_encoding, OwnInput.CanTake, OwnInput.written_object}
use Rattle.thorin_again.specs.{OwnRefusals.UnlessStringOffset, Plain.HasTiledOffsets, Plain.IsPlain}
use Rattle.thorin_index.proofs.ReadAgain.{index_is_read, written_rows}
use Rattle.thorin_index.{proofs.Held.have_passed, proofs.Held.used_known, specs.IndexText.is_used}
use Rattle.thorin_input.specs.Indexes.{index_in, indexes_of, version_test}
use Rattle.thorin_input.specs.Used.{counts_once, has_kind, is_present, opened, used_from, used_kind}
use Rattle.thorin_input.specs.{Encodings.encoding_of, Format.is_in_format, Format.is_of_units}
use Rattle.thorin_join.proofs.Files.{chosen-fit, finished-order, HasRows, members, no-bytes, Tested}
use Rattle.thorin_join.proofs.Files.{finished-content, finished-own, finished-strings, tested-state}
use Rattle.thorin_join.proofs.{Parts.rewritten-package, Parts.slice-long, Units.distinct_chosen}
use Rattle.thorin_join.specs.Builder.{IsFinishedState, order_of, same_order, source_for, with_units}
use Rattle.thorin_join.specs.{Builder.finish_test, Builder.State, StandApart.EachRow}
use Rattle.thorin_join.{proofs.Files.nothing, specs.Laid.IsLaid, specs.Laid.Lie, specs.Laid.rows_at}
use Rattle.thorin_package_input.specs.{PackagedOffsets.rewritten_from, PackagedReading.range_bytes}
use Rattle.{dwp_elf.specs.FileText.name_table, dwp_table.specs.Columns.column_of}
use Rattle.{dwp_elf_read.specs.Identification.identity_of, thorin_input.proofs.Walking.found-any}
use Rattle.{dwp_index.specs.Contents.is_of_kind, std.proofs.lemmas.List.Elements.recursion_from_All}
use Rattle.{std.proofs.ByRecursion.all_kept_by, thorin_input.specs.Used.used_bytes}
use Rattle.{std.proofs.Math.ListN.get_or-map, thorin_again.specs.OwnUnits.AllOf}
use Rattle.{thorin_join.proofs.Rows.part-inside, thorin_package_input.proofs.Rows.range_is}
use Rattle.dwp_base.specs.declared.section.SectionKind.TheVariants as kinds
use Rattle.dwp_index.specs.Contents as contents
use Rattle.dwp_units.specs.declared.unit.UnitSection.TheVariants as places

-- a written file is opened
pub opened-elf : (bytes : List ℕ) (file : Elf) → elf_of bytes ≡ Ok file → opened bytes ≡ Ok file
unfolding opened elf_of identity_of
opened-elf bytes file h = grind arith

-- a content as a section
abbrev pub section_of : SectionKind × List ℕ → Used
section_of c = record { kind = c.0; bytes = c.1; address = 0 }

-- no kind that was seen comes again
pub rest-differ : (c : SectionKind × List ℕ) (cs : Contents) → KindsDiffer (c ∷ cs) → KindsDiffer cs
rest-differ c cs h kind = let all = h kind in omega arith

-- behind a content no other is of its kind
pub none-behind : (kind : SectionKind) (c : SectionKind × List ℕ) (cs : Contents)
    → KindsDiffer (c ∷ cs) → same_kind c.0 kind ≡ true → content_of kind cs ≡ []
none-behind kind c cs differ same = let one = differ kind in nothing kind cs (grind arith)

-- a content without bytes counts as none
pub empty-first : (kind k : SectionKind) (cs : Contents) → KindsDiffer ((k, []) ∷ cs)
    → content_of kind ((k, []) ∷ cs) ≡ content_of kind cs
empty-first kind k cs differ = grind (arith, none-behind kind (k, []) cs differ)

-- those that were seen don't come, and each other comes once at most
abbrev pub Fresh : (SectionKind → Bool) → Contents → Type 0
Fresh seen cs = (kind : SectionKind) → cond (seen kind) 1 0 + count_of kind cs ≤ 1

pub fresh-rest : (seen : SectionKind → Bool) (c : SectionKind × List ℕ) (cs : Contents)
    → Fresh seen (c ∷ cs) → Fresh seen cs
fresh-rest seen c cs fresh kind = let all = fresh kind in omega arith

-- one more was seen, of the kind of the first
pub fresh-more : {X : Type 0} (test : SectionKind → X → Bool) (xs : List X) (x : X) (c : SectionKind
    × List ℕ) (cs : Contents) → ((kind : SectionKind) → test kind x ≡ same_kind c.0 kind)
    → Fresh (λ kind. list_any (test kind) xs) (c ∷ cs)
    → Fresh (λ kind. list_any (test kind) (xs ++ x ∷ [])) cs
fresh-more test xs x c cs same fresh kind =
    grind (arith, nat_tests, list_any-append (test kind) xs (x ∷ []), same kind, fresh kind)

pub not-seen : (seen : SectionKind → Bool) (c : SectionKind × List ℕ) (cs : Contents)
    → Fresh seen (c ∷ cs) → seen c.0 ≡ false
not-seen seen c cs fresh = grind (arith, nat_tests, fresh c.0, same-self c.0)

-- the used sections of a written file
abbrev Seen : List Used → SectionKind → Bool
Seen used kind = list_any (has_kind kind) used

used-written : (n : ℕ) (names : List ℕ) (cs : Contents) (used : List Used) → Fresh (Seen used) cs
    → used_from used (written_sections n names cs) ≡ Ok (used ++ written_used cs)
unfolding used_from used_bytes contents.used_bytes used_kind is_of_kind
used-written n names [] used fresh = grind (arith, nat_tests, append-nil used)
used-written n names (c ∷ cs) used fresh =
    let new = found-any (has_kind c.0) used ∙ not-seen (Seen used) c cs fresh in
    let passed = used-written (n + 1) names cs used (fresh-rest (Seen used) c cs fresh) in
    let more = used-written (n + 1) names cs (used ++ section_of c ∷ [])
    (fresh-more has_kind used (section_of c) c cs (λ kind. refl) fresh) in
    let both = append_assoc used (section_of c ∷ []) (written_used cs) in
    grind (arith, nat_tests, new, kind-named c.0, not-older c.0, passed, more, both)

-- a written file as an input
pub object-written : (file : File) → KindsDiffer file.contents → input_file_of (written_elf file) ≡
    Ok (written_object file)
unfolding input_file_of used_from used_kind is_of_kind
object-written file differ =
    rw (used-written 1 (name_table file.contents) file.contents []
    (λ kind. let d = differ kind in omega arith)) refl

-- the encoding of the written bytes is that of the file as an input
pub input-encoding : (file : File) → KindsDiffer file.contents → elf_of (file_text file) ≡ Ok
    (written_elf file) → input_encoding (file_text file) ≡ encoding_of (written_object file)
unfolding input_encoding
input-encoding file differ back =
    rw (opened-elf (file_text file) (written_elf file) back, object-written file differ) refl

-- the first section of a kind is the content of that kind
pub first-written : (kind : SectionKind) (cs : Contents) → KindsDiffer cs
    → first kind (written_used cs) ≡ content_of kind cs
first-written kind [] differ = refl
first-written kind (c ∷ cs) differ =
    let rest = first-written kind cs (rest-differ c cs differ) in
    grind (arith, nat_tests, rest, none-behind kind c cs differ, nil_from_length c.1)

-- a test that each section of the kind's name meets
module _ (kind : SectionKind) (test : SectionMeaning → Bool)
    (meets : (n : ℕ) (bytes : List ℕ) → test (plain_section n 1 (name_of kind) bytes) ≡ true) where
  is-among : (n : ℕ) (names : List ℕ) (cs : Contents) → 0 < length (content_of kind cs)
      → list_any test (written_sections n names cs) ≡ true
  is-among n names [] h = absurd (omega (arith, h))
  is-among n names (c ∷ cs) h =
      grind (arith, nat_tests, is-among (n + 1) names cs, meets n c.1, is-same c.0 kind)

  in-file : (file : File) → 0 < length (content_of kind file.contents)
      → list_any test (written_elf file).sections ≡ true
  in-file file h = or_right _ _ (is-among 1 (name_table file.contents) file.contents h)

-- it is present
pub present-written : (kind : SectionKind) (file : File)
    → 0 < length (content_of kind file.contents) → is_present kind (written_elf file) ≡ true
present-written kind file h =
    let named = every (λ k. bytes_eq (name_of k) (name_of k)) refl kind in
    found-any (is_named (name_of kind)) (written_elf file).sections
    ∙ in-file kind (is_named (name_of kind)) (λ n bytes. named) file h

-- and units are
pub info-written : (file : File) → 0 < length (content_of Info file.contents)
    → has_info (written_elf file) ≡ true
info-written file h = in-file Info (is_of Info) (λ n bytes. refl) file h

-- an answer of which something holds, or an error of some sort
abbrev pub Fares : {X : Type 0} → (ErrorValue → Type 0) → (X → Type 0) → Result X ErrorValue
    → Type 0
Fares E P (Ok x) = P x
Fares E P (Err e) = E e

-- a step, and then another
pub then-fares : {X Y : Type 0} (E : ErrorValue → Type 0) (P : X → Type 0) (Q : Y → Type 0)
    (r : Result X ErrorValue) (f : X → Result Y ErrorValue) → Fares E P r
    → ((x : X) → P x → Fares E Q (f x)) → Fares E Q (r >>= f)
then-fares E P Q r f h k = grind arith

-- an answer, or an error of some sort
abbrev pub Unless : (ErrorValue → Type 0) → {X : Type 0} → Result X ErrorValue → Type 0
Unless E (Ok x) = Unit {0}
Unless E (Err e) = E e

-- a step, and then another
pub and-then : (E : ErrorValue → Type 0) {X Y : Type 0} (r : Result X ErrorValue) (f : X
    → Result Y ErrorValue) → Unless E r → ((x : X) → r ≡ Ok x → Unless E (f x)) → Unless E (r >>= f)
and-then E r f h k = grind arith

-- where no error is of that sort, there is an answer
pub answered : {X : Type 0} (r : Result X ErrorValue) → Unless (λ e. ⊥) r → (x : X) × (r ≡ Ok x)
answered r h = grind arith

-- a content behind the first is that of its kind in the whole
pub behind : (kind : SectionKind) (c : SectionKind × List ℕ) (cs : Contents) → KindsDiffer (c ∷ cs)
    → 0 < length (content_of kind cs) → content_of kind (c ∷ cs) ≡ content_of kind cs
behind kind c cs differ some = grind (arith, none-behind kind c cs differ)

pub front : (c : SectionKind × List ℕ) (cs : Contents) → content_of c.0 (c ∷ cs) ≡ c.1
front c cs = rw (same-self c.0) refl

-- the sections are taken, or refused with an error of some sort
module _ (E : ErrorValue → Type 0) (source : Source) where
  -- what taking them asks
  pub record CanTry (cs : Contents) (strings : List (List ℕ)) : Type 0 where
    pub format : (kind : SectionKind) → 0 < length (content_of kind cs)
        → is_in_format source.encoding kind ≡ true
    pub offsets : 0 < length (content_of StrOffsets cs) → (source.object.has_strings ≡ true)
        × Unless E (rewritten source (content_of StrOffsets cs) strings)

  -- the strings change with the string offsets alone
  can-rest : (c : SectionKind × List ℕ) (cs : Contents) (strings now : List (List ℕ))
      → KindsDiffer (c ∷ cs) → (0 < length (content_of StrOffsets cs) → strings ≡ now)
      → CanTry (c ∷ cs) strings → CanTry cs now
  can-rest c cs strings now differ same can = record {
    format = λ kind some. can.format kind (rw (behind kind c cs differ some) some);
    offsets = λ some. let is = behind StrOffsets c cs differ some in
        rw (← same some, ← is) (can.offsets (rw is some));
  }

  abbrev Had : Parts → SectionKind → Bool
  Had before kind = has_part kind before.0

  parts-tried : (cs : Contents) (before : Parts) → Fresh (Had before) cs
      → CanTry cs before.1 → Unless E (with_each_part source before (written_used cs))
  unfolding with_each_part with_part with_offsets
  parts-tried [] before fresh can = tt
  parts-tried (c ∷ cs) before fresh can =
      let differ : KindsDiffer (c ∷ cs) = λ k. let all = fresh k in omega arith in
      let same-strings = can-rest c cs before.1 before.1 differ (λ s. refl) can in
      let more = λ (put : List ℕ) (k : SectionKind) (is : c.0 ≡ k).
      fresh-more (λ j (part : SectionKind × List ℕ). same_kind part.0 j) before.0 (k, put) c cs
      (λ j. ap (λ l. same_kind l j) (sym is)) fresh in
      let offsets = λ (w : List ℕ × List (List ℕ)) (same : same_kind c.0 StrOffsets ≡ true).
      parts-tried cs (before.0 ++ (StrOffsets, w.0) ∷ [], w.1)
      (more w.0 StrOffsets (is-same c.0 StrOffsets same)) (can-rest c cs before.1 w.1 differ
      (λ s. grind (arith, none-behind StrOffsets c cs differ same)) can) in
      let copied = parts-tried cs (before.0 ++ (c.0, c.1) ∷ [], before.1) (more c.1 c.0 refl)
      same-strings in
      let left = parts-tried cs before (fresh-rest (Had before) c cs fresh) same-strings in
      let new = not-seen (Had before) c cs fresh in
      grind (arith, nat_tests, can.format c.0, front c cs, new, can.offsets, offsets, copied, left)

  -- those of an input that has the sections of written contents
  pub own-parts-tried : (contents : Contents) (strings : List (List ℕ))
      → source.object.sections ≡ written_used contents → KindsDiffer contents
      → CanTry contents strings → Unless E (parts_of source strings)
  own-parts-tried contents strings are differ can =
      subst (λ l. Unless E (with_each_part source ([], strings) l)) (sym are)
      (parts-tried contents ([], strings) (λ kind. let d = differ kind in omega arith) can)

-- the parts of a written package are taken
pub own-parts : (source : Source) (contents : Contents) (strings : List (List ℕ))
    → source.object.sections ≡ written_used contents → KindsDiffer contents
    → CanTake source contents strings → TakesParts source strings
own-parts source contents strings are differ can =
    answered (parts_of source strings) (own-parts-tried (λ e. ⊥) source contents strings are differ
    (record { format = can.format; offsets = λ some. (can.has some, rw (can.written some).1 tt) }))

-- rows come from inputs of this encoding
abbrev pub HaveEncoding : Encoding → List IndexEntry → Type 0
HaveEncoding encoding = EachRow (λ row. row.encoding ≡ encoding)

-- it is read from these bytes, has these rows, and goes with inputs of this encoding
pub record IndexTaken (order : Endianness) (encoding : Encoding) (rows : List IndexEntry)
    (bytes : List ℕ) : Type 0 where
  pub index : Option Index
  pub taken : (kind : SectionKind) → index_in order kind bytes ≡ Ok index
  pub fits : (kind : SectionKind) → version_test encoding kind index ≡ Ok tt
  pub has : HasRows index rows

index-taken : (order : Endianness) (encoding : Encoding) (rows : List IndexEntry) (bytes : List ℕ)
    → IsIndexOf order rows bytes → index_tests rows ≡ Ok tt
    → ((r : ℕ) → slice_index (entry_ids rows) r < 2 ^ 64) → AreDistinct (entry_ids rows)
    → HaveEncoding encoding rows → IndexTaken order encoding rows bytes
unfolding index_in
index-taken order encoding [] bytes text tested fit distinct have =
    record { index = None; taken = λ kind. rw text refl; fits = λ kind. refl; has = refl }
index-taken order encoding (row ∷ rows) bytes text tested fit distinct have =
    let read = index_is_read order row.encoding (row ∷ rows) bytes tested fit text in
    let entries = written_rows order row.encoding (row ∷ rows) bytes tested distinct fit text _
    read in
    record {
      index = Some _;
      taken = λ kind. grind (arith, nat_tests, read, no-bytes order, nil_from_length bytes);
      fits = λ kind. grind (arith, nat_tests, have.0);
      has = (index_version_of row.encoding.version, entries, omega arith);
    }

-- what the unit of a row of a package means, and that the row is that of this unit
abbrev pub mean_of : InProgress → IndexEntry → Meaning
mean_of made row = meaning_at made.file.order made.file.contents made.strings row

abbrev pub IsOwnRow : InProgress → IndexEntry → Type 0
IsOwnRow made row =
    IsRowOf made.file.order made.file.contents made.strings row (row.id, mean_of made row)

-- rows have an encoding where their units have it
pub rows-of : (e : Encoding) (made : InProgress) → AllOf e (units_of made)
    → HaveEncoding e made.rows
rows-of e made all =
    let unit : IndexEntry → DwarfObject × Meaning = λ row. (row.id, mean_of made row) in
    let long = length-map made.rows unit in
    recursion_from_All (λ row. row.encoding ≡ e) made.rows (λ k d within.
    let is = all k (unit d) (omega (arith, within, long)) in
    grind (arith, is, get_or-map unit made.rows k d))

each-row : (order : Endianness) (c : Contents) (strings : List (List ℕ)) (mean : IndexEntry
    → Meaning) (rows : List IndexEntry) → AreRowsOf order c strings rows (members mean rows)
    → EachRow (λ row. IsRowOf order c strings row (row.id, mean row)) rows
each-row order c strings mean [] are = tt
each-row order c strings mean (r ∷ rs) are = (are.0, each-row order c strings mean rs are.1)

-- what it has
pub record OwnMade (encoding : Encoding) (made : InProgress) : Type 0 where
  pub sound : IsSound made
  pub tests : Tested made
  pub all : HaveEncoding encoding made.rows
  pub some : made.rows ≡ [] → ⊥
  pub rows : EachRow (IsOwnRow made) made.rows

-- its units lie in turn
pub lie-kept : (made : InProgress) (file : File) → IsLaid made → IsFinished made file
    → (place : UnitSection) → Lie file.order place 0 (rows_at place made.rows)
    (content_of (kind_of place) file.contents)
lie-kept made file laid f places.Info =
    rw (finished-order made file f, finished-own made file f places.Info) laid.info
lie-kept made file laid f places.Types =
    rw (finished-order made file f, finished-own made file f places.Types) laid.types

-- a finished package, read again of its file with these indexes
pub record IsReadOf (encoding : Encoding) (file : File) (indexes : Indexes)
    (made : InProgress) : Type 0 where
  pub packed : is_package indexes ≡ true
  pub held : (kind : SectionKind)
      → first kind (written_object file).sections ≡ content_of kind file.contents
  pub strings_are : content_of kinds.Str file.contents ≡ data_of made.strings
  pub compilations : HasRows indexes.compilations (rows_of true made.rows)
  pub types : HasRows indexes.types (rows_of false made.rows)
  pub finished : IsFinished made file
  pub kinds : KindsDiffer file.contents
  pub own : OwnMade encoding made

pub own-made : {state : State} {encoding : Encoding} {file : File} → IsSoundBegun state.begun
    → finish_test state ≡ Ok tt → (fin : IsFinishedState state file) → 0 < length (units_in state)
    → AllOf encoding (units_in state) → OwnMade encoding fin.made
own-made {state} {encoding} sound_begun tested fin some all =
    let made = fin.made in
    let there : 0 < length (units_of made) = rw fin.begun at some in
    let long : length (units_of made) ≡ length made.rows = length-map made.rows _ in
    let sound : IsSound made = rw fin.begun at sound_begun in
    record {
      sound = sound;
      tests = tested-state state made fin.begun tested;
      all = rows-of encoding made (rw fin.begun at all);
      some = λ none. omega (arith, there, long, ap length none);
      rows = each-row _ _ _ (mean_of made) made.rows sound.units.rows;
    }

module _ {state : State} {encoding : Encoding} {file : File} (own : IsOwn state encoding file) where
  abbrev made : InProgress
  made = own.finished.made

  abbrev f : IsFinished made file
  f = own.finished.finished

  has : OwnMade encoding made
  has = own-made own.sound own.tested own.finished own.some own.all

  pub own-plain : {other : InProgress} → state.begun ≡ Some other → IsPlain encoding other
      → IsPlain encoding made
  own-plain {other} begun plain =
      subst (IsPlain encoding) (same_Some other made (sym begun ∙ own.finished.begun)) plain

  sort-taken : (b : Bool) (kind : SectionKind)
      → IsIndexOf made.file.order (rows_of b made.rows) (content_of kind file.contents)
      → index_tests (rows_of b made.rows) ≡ Ok tt → IndexTaken file.order encoding
      (rows_of b made.rows) (first kind (written_object file).sections)
  sort-taken b kind text tested =
      subst (λ o. IndexTaken o encoding (rows_of b made.rows)
      (first kind (written_object file).sections)) (sym (finished-order made file f))
      (rw (first-written kind file.contents own.kinds) (index-taken _ encoding _ _ text tested
      (chosen-fit b made.rows own.finished.identifiers)
      (distinct_chosen b made.rows has.sound.apart)
      (all_kept_by (is_chosen b) (λ row. row.encoding ≡ encoding) made.rows has.all)))

  taken : (b : Bool) → IndexTaken file.order encoding (rows_of b made.rows)
      (first (cond b kinds.CuIndex kinds.TuIndex) (written_object file).sections)
  taken true = sort-taken true kinds.CuIndex (rw (rw has.sound.units.no_compilations at
      (finished-content made file f kinds.CuIndex)) f.compilations) has.tests.compilation_rows
  taken false = sort-taken false kinds.TuIndex (rw (rw has.sound.units.no_types at
      (finished-content made file f kinds.TuIndex)) f.types) has.tests.type_rows

  abbrev indexes-taken : Indexes
  indexes-taken = record { compilations = (taken true).index; types = (taken false).index }

  indexes-packed : is_package indexes-taken ≡ true
  indexes-packed = one-is-there _ _ made.rows (taken true).has (taken false).has has.some

  indexes-read : indexes_of (written_object file) encoding ≡ Ok indexes-taken
  unfolding indexes_of
  indexes-read =
      let c = taken true in
      let t = taken false in
      rw (c.taken kinds.CuIndex, t.taken kinds.TuIndex, c.fits kinds.CuIndex, t.fits kinds.TuIndex)
      refl

  pub read-of : (indexes : Indexes) → indexes_of (written_object file) encoding ≡ Ok indexes
      → IsReadOf encoding file indexes made
  read-of indexes read =
      let same : indexes ≡ indexes-taken = same-ok _ _ (sym read ∙ indexes-read) in
      let held = λ (kind : SectionKind). first-written kind file.contents own.kinds in
      let strings = finished-strings made file f has.sound.units.no_strings in
      let c = (taken true).has in
      let t = (taken false).has in
      rw same (assumption (has, indexes-packed, held, strings, c, t))

-- an own file is taken up to its parts
pub up-to-parts : (state : State) (encoding : Encoding) (file : File)
    → IsOwn state encoding file → (before : Option InProgress) → order_of before file.order ≡
    file.order → TakesUpToParts file encoding before
unfolding with_input with_units source_for order_test
up-to-parts state encoding file own before same =
    let opens = opened-elf (file_text file) (written_elf file) own.read_back in
    let object = object-written file own.kinds in
    let order : same_order file.order file.order ≡ true = grind arith in
    let read = indexes-read own in
    record {
      indexes = _;
      read = read;
      finished = indexes-packed own;
      is = rw (opens, info-written file own.info, object, own.first, same, order, read) refl;
    }

-- a section that rows name has a column in their index
column-of : (encoding : Encoding) (kind : SectionKind) (rows : List IndexEntry)
    → HaveEncoding encoding rows → index_tests rows ≡ Ok tt → is_used rows kind ≡ true
    → is_some (column_of (index_version_of encoding.version) kind) ≡ true
column-of encoding kind [] have h used = absurd cc
column-of encoding kind (r ∷ rs) have h used = rw (← have.0)
    (used_known _ (r ∷ rs) (have_passed r.encoding (r ∷ rs) h).known kind used)

-- a section that has bytes is in the format, where rows name it
pub in-format : {encoding : Encoding} {made : InProgress} → OwnMade encoding made
    → (kind : SectionKind) → (counts_once kind ≡ false → is_used made.rows kind ≡ true)
    → is_in_format encoding kind ≡ true
in-format {encoding} {made} own kind used =
    let column = λ (b : Bool). column-of encoding kind (rows_of b made.rows)
    (all_kept_by (is_chosen b) (λ row. row.encoding ≡ encoding) made.rows own.all) in
    let once = same-each counts_once (λ k. not (is_of_units k)) refl kind in
    let chosen = any-chosen (λ row. is_some (contribution_to kind row)) made.rows in
    let c = column true own.tests.compilation_rows in
    let t = column false own.tests.type_rows in
    grind (arith, c, t, chosen, used, once)

-- the contents that units share stay when a package is finished
pub finished-shared : (made : InProgress) (file : File) → IsFinished made file
    → (kind : SectionKind) → is_shared kind ≡ true → content_of kind file.contents ≡ content_of kind
    made.file.contents
finished-shared made file f kind shared = grind (arith, finished-content made file f kind)

-- a package of plain objects, read again of its file
module _ {encoding : Encoding} {file : File} {indexes : Indexes} {made : InProgress}
    (is : IsReadOf encoding file indexes made) (plain : IsPlain encoding made) where
  abbrev tiled : HasTiledOffsets encoding made
  tiled = plain.offsets

  -- its string offsets are rewritten range by range
  pub offsets-are : (strings : List (List ℕ)) → rewritten (own_source file encoding indexes)
      (content_of kinds.StrOffsets file.contents) strings ≡ rewritten_from made.file.order encoding
      (data_of made.strings) (content_of kinds.StrOffsets made.file.contents) 0 tiled.ranges strings
  unfolding packaged_offsets
  offsets-are strings =
      let f = is.finished in
      let size = length (content_of kinds.StrOffsets made.file.contents) in
      let ranges = ranges-are _ encoding size tiled.ranges tiled.tile _ _ made.rows
      is.compilations is.types tiled.rows tiled.named in
      let tested = tile-tested _ encoding size 0 size 0 _ tiled.tile (omega arith) (omega arith) in
      rewritten-package (own_source file encoding indexes) _ strings is.packed ∙ (λ i.
      packaged_offsets (finished-order made file f i) encoding indexes.compilations indexes.types
      ((is.held kinds.Str ∙ is.strings_are) i)
      (finished-shared made file f kinds.StrOffsets refl i) strings) ∙ rw (ranges, tested) refl

  -- unless an offset doesn't fit
  pub own-offsets : (strings : List (List ℕ)) → UnlessStringOffset
      (rewritten (own_source file encoding indexes) (content_of kinds.StrOffsets file.contents)
      strings)
  own-offsets strings =
      let bytes = content_of kinds.StrOffsets made.file.contents in
      rw (offsets-are strings) (all-rewritten _ _ _ bytes 0 tiled.ranges strings (λ r h.
      let whole = (tile-lies _ _ 0 _ tiled.ranges r tiled.tile h).1 in
      let p = passing (has-range r) made.rows (some-has r made.rows (tiled.named r h)) in
      let e = range_is r p.1.debug_str_offsets p.3 in
      let own = at-row (IsOwnRow made) made.rows p.0 p.1 is.own.rows p.2 in
      let inside = own.lie.inside kinds.StrOffsets r e in
      let part = part-inside bytes r inside in
      let all = at-row (λ row. row.encoding ≡ encoding) made.rows p.0 p.1 is.own.all p.2 in
      let table = is.own.sound.units.table in
      let read = own.shares.string made.strings table (take-length made.strings) in (
        whole,
        are-named made.file.order encoding (data_of made.strings) (range_bytes bytes r) r.size
            (slice-long bytes r.offset.0 r.size inside) whole (slice_get (mean_of made p.1).strings)
            (λ k. grind (arith, e, part, all, read k)),
      )))
