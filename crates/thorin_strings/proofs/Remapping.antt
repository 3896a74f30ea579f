-- Strings that are read, what is remembered of them, and entries that are rewritten one after
-- another, while more strings come. The header of a range of string offsets, and the bytes of its
-- entries, as they are read; what rewritten entries name, and a range of them.
use Rattle.dwp_base.proofs.Steps.{bind-was, by-choice, guard-ok, same-ok}
use Rattle.dwp_base.specs.Numbers.{number, number_bytes}
use Rattle.dwp_base.specs.declared.endian.Endianness.TheVariants.{Big, Little}
use Rattle.dwp_base.{proofs.Bools.by-bool, specs.declared.endian.Endianness.Endianness}
use Rattle.dwp_bytes.specs.StringOffsets.{entry_count, entry_in, header_size, string_at}
use Rattle.dwp_bytes.specs.declared.encoding.Format.TheVariants.{Dwarf32, Dwarf64}
use Rattle.dwp_bytes.specs.declared.encoding.{Encoding.Encoding, Format.Format}
use Rattle.dwp_bytes.specs.declared.error.ReadError.TheVariants.{UnexpectedEof}
use Rattle.dwp_strings.proofs.Named.{ended_free, ended_front, front_string, has_Decides, read_later}
use Rattle.dwp_strings.proofs.Named.{has, read_free, string_was, there_later, there_once_used, used}
use Rattle.dwp_strings.specs.Strings.{IsPlaced, IsTable, IsZeroFree, offset_of}
use Rattle.std.proofs.Common.{add-one, drop_at, eq-eqb, get_or, Result, suc-mul, take_all, zero-mul}
use Rattle.std.proofs.Common.{ap, codes, Ok, [], ℕ, ◌≡◌, ◌≤◌}
use Rattle.std.proofs.Common.{arith, drop, length, List, None, refl, Some, take, true, zero, ⊎_elim}
use Rattle.std.proofs.Common.{drop-drop, eqb-true, length-append, length-take, ltb-false, take-take}
use Rattle.std.proofs.Common.{eqb, Err, ltb, not, suc, sym, ◌*◌, ◌++◌, ◌+◌, ◌-◌, ◌/◌, ◌<◌, ◌∙◌, ◌∷◌}
use Rattle.std.proofs.lemmas.List.{flat_map_more, get_or_append_left, get_or_push, take_rest}
use Rattle.std.proofs.lemmas.Nat.{from_be_bytes-to_be_bytes_4, from_be_bytes-to_be_bytes_8}
use Rattle.std.proofs.lemmas.Nat.{from_le_bytes-to_le_bytes_4, from_le_bytes-to_le_bytes_8}
use Rattle.std.proofs.lemmas.{Bool.cases_eq, Bool.Decides.nat_tests, Bool.eqb-false, Nat.row_fits}
use Rattle.thorin_errors.specs.Errors.{ErrorValue, NumberTooLarge, OffsetAtIndex}
use Rattle.thorin_strings.specs.Known.{AreKnown, fitting_read, IsKnown, offset_read}
use Rattle.thorin_strings.specs.StringOffsets.{entry_at, named_at, remapped_entries, remapped_entry}
use Rattle.thorin_strings.specs.StringOffsets.{entry_bytes, fitting_offset, header_of, offset_limit}
use Rattle.thorin_strings.specs.StringOffsets.{offset_at, remapped, string_read}
use Rattle.{dwp_bytes.specs.Encoding.offset_size, thorin_strings.specs.Written.AreWritten}
use Rattle.{dwp_strings.specs.Ends.IsFirstZero, thorin_errors.specs.Answers.as_error}
use Rattle.{std.proofs.lemmas.List.Folds.list_any_at, thorin_strings.specs.Rewritten.NamesTheSame}

-- what keeps the strings before it keeps those before them
pub kept_more : (old now new : List (List ℕ)) → take (length old) now ≡ old → take (length now) new
    ≡ now → take (length old) new ≡ old
kept_more old now new first second =
    grind (arith, length-take (length old) now, take-take (length old) (length now) new)

-- the string at a place of a section, before any zero
pub read_front : (section rest : List ℕ) (at end : ℕ) → at ≤ length section
    → rest ≡ take (length section - at) (drop at section) → end < length rest
    → get_or rest end 0 ≡ 0 → string_read section at ≡ Ok (front_string rest)
unfolding string_at
read_front section rest at end inside is within is_zero =
    rw (← (is ∙ take_rest section at))
    (grind (arith, list_any_at (λ b. eqb b 0) rest end 0 within (eq-eqb _ 0 is_zero)))

-- up to the first zero
pub ended_read : (section rest : List ℕ) (at end : ℕ) → at ≤ length section
    → rest ≡ take (length section - at) (drop at section) → IsFirstZero rest end
    → (string_read section at ≡ Ok (take end rest)) × IsZeroFree (take end rest)
ended_read section rest at end inside is is_zero =
    let read = read_front section rest at end inside is is_zero.within is_zero.ended in
    (read ∙ ap Ok (ended_front rest end is_zero), ended_free rest end is_zero)

-- a string was read and used
pub was_read : (section : List ℕ) (at place : ℕ) (old new : List (List ℕ)) → offset_read section at
    old ≡ Ok (place, new)
    → (string : List ℕ) × (string_read section at ≡ Ok string) × IsPlaced old new string place
unfolding offset_read
was_read section at place old new h =
    let string = bind-was (string_read section at) _ (place, new) h in
    (string.0, string.1, grind arith)

pub read_used : (section : List ℕ) (at place : ℕ) (old new : List (List ℕ)) (string : List ℕ)
    → string_read section at ≡ Ok string → IsPlaced old new string place
    → offset_read section at old ≡ Ok (place, new)
unfolding offset_read
read_used section at place old new string read used = rw (read, used.0, used.1) refl

-- what was read and used is known
pub known_used : (section : List ℕ) (at place : ℕ) (old new : List (List ℕ)) (s : List ℕ)
    → string_read section at ≡ Ok s → IsPlaced old new s place → IsKnown section new (at, place)
unfolding offset_read
known_used section at place old new s read used = grind (arith, there_once_used old s)

-- what is known stays so once more strings have come
pub are_known_later : (section : List ℕ) (old new : List (List ℕ)) (pairs : List (ℕ × ℕ))
    → take (length old) new ≡ old → AreKnown section old pairs → AreKnown section new pairs
unfolding offset_read
are_known_later section old new pairs kept known = λ i d within.
    let r = was_read section _ _ old old (known i d within) in
    grind (arith, there_later old new r.0 kept, there_once_used old r.0)

-- an entry is whole just where its end is within the bytes
in_range : (format : Format) (index front size : ℕ)
    → ltb index ((size - front) / offset_size format)
    ≡ not (ltb size (front + index * offset_size format + offset_size format))
in_range Dwarf32 index front size = grind (arith, nat_tests)
in_range Dwarf64 index front size = grind (arith, nat_tests)

-- the offset that was read of an entry
pub entry_was : (order : Endianness) (encoding : Encoding) (bytes : List ℕ) (index named : ℕ)
    → entry_in order encoding bytes index ≡ Some named
    → entry_at order encoding bytes index ≡ Ok named
unfolding entry_in offset_at
entry_was order encoding bytes index named is =
    grind (arith, in_range encoding.format index (header_size encoding) (length bytes))

-- a string that was read and used, and is to fit the format
module _ (format : Format) (section : List ℕ) (named place : ℕ) (old new : List (List ℕ))
    (h : offset_read section named old ≡ Ok (place, new)) where
  pub read_fitting : place ≤ offset_limit format → fitting_read format section named old ≡ Ok
      (place, new)
  unfolding fitting_read fitting_offset
  read_fitting fits = let r = was_read section named place old new h in grind arith

  pub read_large : offset_limit format < place → fitting_read format section named old ≡ Err
      (NumberTooLarge (codes "string offset") place)
  unfolding fitting_read fitting_offset
  read_large large = let r = was_read section named place old new h in grind arith

-- what an entry comes to, by the offset that it has
module _ (order : Endianness) (encoding : Encoding) (section bytes : List ℕ) (index : ℕ) where
  pub entry_is : (named : ℕ) (old : List (List ℕ)) → entry_at order encoding bytes index ≡ Ok named
      → remapped_entry order encoding section bytes index old
      ≡ fitting_read encoding.format section named old
  unfolding named_at remapped_entry fitting_read
  entry_is named old entry = rw entry refl

  pub entry_absent : (old : List (List ℕ)) → entry_in order encoding bytes index ≡ None
      → remapped_entry order encoding section bytes index old
      ≡ Err (OffsetAtIndex UnexpectedEof index)
  unfolding entry_in offset_at named_at remapped_entry
  entry_absent old none =
      grind (arith, in_range encoding.format index (header_size encoding) (length bytes))

-- so many entries are rewritten behind other bytes, from the first strings to those that there are
abbrev pub AreRewritten : Endianness → Encoding → (section bytes : List ℕ) → ℕ → List ℕ
    → (old now : List (List ℕ)) → List ℕ → Type 0
AreRewritten order encoding section bytes n first old now out = (offsets : List ℕ)
    × (remapped_entries order encoding section bytes n old ≡ Ok (offsets, now))
    × (out ≡ first ++ entry_bytes order encoding.format offsets)

module _ (order : Endianness) (encoding : Encoding) (section bytes : List ℕ) where
  -- one more entry
  pub rewritten_more : (i : ℕ) (first : List ℕ) (old now new : List (List ℕ)) (offset : ℕ)
      (out more : List ℕ) → AreRewritten order encoding section bytes i first old now out
      → remapped_entry order encoding section bytes i now ≡ Ok (offset, new)
      → more ≡ out ++ number_bytes order (offset_size encoding.format) offset
      → AreRewritten order encoding section bytes (i + 1) first old new more
  unfolding remapped_entries
  rewritten_more i first old now new offset out more so_far entry is_more = (
    so_far.0 ++ offset ∷ [],
    rw (add-one, so_far.1, entry) refl,
    rw (is_more, so_far.2) (flat_map_more _ first so_far.0 offset),
  )

  -- an entry that refuses, in as many entries as there are
  module _ (i : ℕ) (old now : List (List ℕ)) (before : List ℕ) (error : ErrorValue)
      (so_far : remapped_entries order encoding section bytes i old ≡ Ok (before, now))
      (entry : remapped_entry order encoding section bytes i now ≡ Err error) where
    entries_fail : (n : ℕ) → i < n → remapped_entries order encoding section bytes n old ≡ Err error
    unfolding remapped_entries
    entries_fail zero less = absurd (omega arith)
    entries_fail (suc n) less = grind (arith, entries_fail n, cases_eq i n)

    -- and in a range
    pub remapped_refuses : (size count width : ℕ) (header : List ℕ)
        → count ≡ entry_count encoding size → width ≡ offset_size encoding.format → (size ≡ 0 → ⊥)
        → header_size encoding ≤ size → header_of order encoding (count * width) ≡ Ok header
        → i < count → remapped order encoding section bytes size old ≡ Err error
    unfolding remapped
    remapped_refuses size count width header is_count is_width some fits has_header less =
        grind (arith, entries_fail count less)

module _ (encoding : Encoding) (form : encoding.format ≡ Dwarf32) where
  -- one more entry of four bytes is rewritten in its place
  pub one_written : (section bytes : List ℕ) (at index offset : ℕ) (front : List ℕ)
      (old now new : List (List ℕ)) (out more : List ℕ) → at ≡ header_size encoding + index * 4
      → remapped_entry Little encoding section bytes index now ≡ Ok (offset, new)
      → take (at + 4) more ≡ take at out ++ number_bytes Little 4 offset
      → AreWritten encoding section bytes index front old now out
      → AreWritten encoding section bytes (index + 1) front old new more
  one_written section bytes at index offset front old now new out more is_at entry written so_far =
      let next : header_size encoding + (index + 1) * 4 ≡ at + 4 = omega (arith, is_at) in
      let one = rewritten_more Little encoding section bytes index front old now new offset
      (take at out) (take (at + 4) more)
      (so_far.offsets, so_far.entries, rw (← is_at) at so_far.written) entry (rw form written) in
      record { offsets = one.0; entries = one.1; written = rw next one.2 }

-- a number that fits is written in so many bytes, and read from them
kept : (order : Endianness) (format : Format) (x : ℕ) (rest : List ℕ)
    → (length (number_bytes order (offset_size format) x) ≡ offset_size format)
    × (x ≤ offset_limit format
    → number order (offset_size format) (number_bytes order (offset_size format) x ++ rest) ≡ x)
kept Little Dwarf32 x rest = (refl, λ h. omega (arith, from_le_bytes-to_le_bytes_4 x (omega arith)))
kept Little Dwarf64 x rest = (refl, λ h. omega (arith, from_le_bytes-to_le_bytes_8 x (omega arith)))
kept Big Dwarf32 x rest = (refl, λ h. omega (arith, from_be_bytes-to_be_bytes_4 x (omega arith)))
kept Big Dwarf64 x rest = (refl, λ h. omega (arith, from_be_bytes-to_be_bytes_8 x (omega arith)))

-- the entries
pub entries_long : (order : Endianness) (format : Format) (offsets : List ℕ)
    → length (entry_bytes order format offsets) ≡ length offsets * offset_size format
entries_long order format [] = sym (zero-mul (offset_size format))
entries_long order format (x ∷ xs) =
    let one = (kept order format x []).0 in
    let more = suc-mul (length xs) (offset_size format) in
    grind (arith, length-append, one, entries_long order format xs, more)

pub entry_read : (order : Endianness) (format : Format) (offsets : List ℕ) (i : ℕ)
    → i < length offsets → get_or offsets i 0 ≤ offset_limit format
    → number order (offset_size format) (drop (i * offset_size format) (entry_bytes order format
    offsets)) ≡ get_or offsets i 0
entry_read order format [] i less fits = absurd (omega arith)
entry_read order format (x ∷ xs) zero less fits =
    grind (arith, zero-mul (offset_size format), kept order format x (entry_bytes order format xs))
entry_read order format (x ∷ xs) (suc i) less fits =
    let width = offset_size format in
    let bytes = entry_bytes order format (x ∷ xs) in
    let long = (kept order format x []).0 in
    let read = entry_read order format xs i in
    grind (arith, suc-mul i width, drop_at, drop-drop (i * width) width bytes, long, read)

-- the header
pub header_long : (order : Endianness) (encoding : Encoding) (size : ℕ) (header : List ℕ)
    → header_of order encoding size ≡ Ok header → length header ≡ header_size encoding
unfolding header_of
header_long order encoding size header h = grind (arith, nat_tests)

pub as_error_ok : {A E : Type 0} (f : E → ErrorValue) (r : Result A E) (x : A)
    → as_error f r ≡ Ok x → r ≡ Ok x
as_error_ok f r x h = grind arith

module _ (order : Endianness) (encoding : Encoding) (section bytes : List ℕ) where
  -- a string that an entry names has no zero
  pub named_free : (index : ℕ) (string : List ℕ)
      → named_at order encoding section bytes index ≡ Ok string → IsZeroFree string
  unfolding named_at
  named_free index string h =
      let offset = bind-was (entry_at order encoding bytes index) _ string h in
      rw (string_was section string offset.0 (as_error_ok _ _ string offset.2))
      at (read_free section offset.0)

  -- an entry names a string of these, whose offset it is to have
  pub record EntryNames (index : ℕ) (strings : List (List ℕ)) (offset : ℕ) : Type 0 where
    pub string : List ℕ
    pub old : named_at order encoding section bytes index ≡ Ok string
    pub there : (has strings string ≡ true) × (offset_of strings string ≡ offset)
    pub fits : offset ≤ offset_limit encoding.format

  -- so many first entries
  pub record EntriesKeep (n : ℕ) (before : List (List ℕ)) (offsets : List ℕ)
      (after : List (List ℕ)) : Type 0 where
    pub table : IsTable after
    pub kept : take (length before) after ≡ before
    pub long : length offsets ≡ n
    pub each : (i : ℕ) → i < n → EntryNames i after (get_or offsets i 0)

  pub entries_keep : (n : ℕ) (before : List (List ℕ)) (entries : List ℕ × List (List ℕ))
      → IsTable before → remapped_entries order encoding section bytes n before ≡ Ok entries
      → EntriesKeep n before entries.0 entries.1
  unfolding remapped_entries remapped_entry fitting_offset
  entries_keep zero before entries table h = grind (arith, take_all)
  entries_keep (suc n) before entries table h =
      let first = bind-was (remapped_entries order encoding section bytes n before) _ entries h in
      let entry = bind-was (remapped_entry order encoding section bytes n first.0.1) _
      entries first.2 in
      let all = entries_keep n before first.0 table first.1 in
      let named = bind-was (named_at order encoding section bytes n) _ entry.0 entry.1 in
      let fit = bind-was (fitting_offset encoding.format (offset_of first.0.1 named.0)) _ _
      named.2 in
      let fits = guard-ok (ltb (offset_limit encoding.format) _) _ _ fit.0 fit.1 in
      let next = used first.0.1 named.0 all.table (named_free n named.0 named.1) in
      rw (← same-ok _ _ entry.2, ← same-ok _ _ fit.2) (record {
        table = next.table;
        kept = kept_more before first.0.1 _ all.kept next.kept;
        long = omega (arith, length-append first.0.0 (fit.0 ∷ []), all.long);
        each = λ i less. ⊎_elim
            (λ last. rw (get_or_push first.0.0 fit.0 0 i (all.long ∙ sym last), last) (record {
              string = named.0;
              old = named.1;
              there = (next.there, next.offset ∙ fits.1);
              fits = omega (arith, ltb-false _ _ fits.0, fits.1);
            }))
            (λ other. let old = all.each i (omega arith) in
            let there = there_later first.0.1 _ old.string next.kept old.there.0 in
            let same = get_or_append_left first.0.0 (fit.0 ∷ []) 0 i
            (omega (arith, all.long)) in
            rw same (record {
              string = old.string;
              old = old.old;
              there = (there.0, there.1 ∙ old.there.1);
              fits = old.fits;
            })) (cases_eq i n);
      })

  pub range_named : (size : ℕ) (before : List (List ℕ)) (range : List ℕ × List (List ℕ))
      → IsTable before → remapped order encoding section bytes size before ≡ Ok range
      → NamesTheSame order encoding section bytes size before range.0 range.1
  unfolding remapped named_at offset_at
  range_named size before range table h = by-bool _ (eqb size 0)
      (λ empty. grind (arith, take_all, eqb-true size 0 empty))
      (λ some. by-choice _ (ltb size (header_size encoding)) _ _ _ (rw some at h) (λ e. absurd cc)
      (λ whole. let n = entry_count encoding size in
      let width = offset_size encoding.format in
      let header = bind-was (header_of order encoding (n * width)) _ range whole in
      let entries = bind-was (remapped_entries order encoding section bytes n before) _ range
      header.2 in
      let keep = entries_keep n before entries.0 table entries.1 in
      let front = header_long order encoding (n * width) header.0 header.1 in
      let tail = entry_bytes order encoding.format entries.0.0 in
      let long : length (header.0 ++ tail) ≡ header_size encoding + n * width =
      grind (arith, entries_long, length-append, front, keep.long) in
      rw (← same-ok _ _ entries.2) (record {
        table = keep.table;
        kept = keep.kept;
        count = grind (arith, long);
        none = λ is_zero. absurd (eqb-false size 0 some is_zero);
        long = λ _. long;
        named = λ i less.
            let entry = keep.each i less in
            let read = entry_read order encoding.format entries.0.0 i
            (omega (arith, less, keep.long)) entry.fits in
            let past = drop_at header.0 tail (header_size encoding) front in
            record {
              string = entry.string;
              there = (has_Decides entries.0.1 entry.string).0 entry.there.0;
              old = entry.old;
              new = λ final table kept.
                  (let free = named_free i entry.string entry.old in
                  let found = read_later entries.0.1 final entry.string kept free entry.there.0 in
                  let room = row_fits i width n width less in
                  grind (arith, long, past, drop-drop, read, found));
            };
      })))
