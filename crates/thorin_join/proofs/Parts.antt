-- What the parts of an input are for the contents that they are added to; and what its sections
-- bring: the strings that their string offsets name, in order of first use, how many bytes these
-- have, and the parts. The string offsets of the parts read alike: of a plain input those of the
-- object, of a package those of each row, where each kind of section has one part at most.
use Rattle.thorin_join.proofs.Terms
use Terms.{Contribution, data_of, drop, DwarfObject, Encoding, Endianness, entry_count, eqb}
use Terms.{ErrorValue, false, first, fitting_offset, has_part, header_size, Index, inl, InProgress}
use Terms.{InputFile, inr, is-same, is_copied, is_package, is_some, IsTable, joined_content}
use Terms.{Ok, packaged_offsets, Parts, parts_of, position_or_len, range_in, range_named, Ranges}
use Terms.{ReadsAlike, refl, remapped, result_unwrap_or, rewritten, row_in, same-ok, same-self}
use Terms.{[], ℕ, ◌&&◌, ◌*◌, ◌++◌, ◌+◌, ◌-◌, ◌<◌, ◌||◌, ◌∙◌, ◌∷◌, ◌≡◌, ◌≤◌, ◌⊎◌}
use Terms.{ap, append-nil, append_assoc, arith, bind-was, Bool, by-bool, cond, content_of, Contents}
use Terms.{joined_parts, kept_more, length, length-append, length-drop, length-take, List, list_any}
use Terms.{list_any-append, named_at, nat_tests, NewUnit, nil_from_length, no_header, offset_size}
use Terms.{same_kind, SectionKind, slice_range, Some, Source, stands_once, Str, string_at}
use Terms.{strings_again, strings_of, StrOffsets, subst, suc, sum_by, sym, take, take-length, true}
use Terms.{unit_section, Used, whole_entries, with_bytes, with_each_part, with_new_unit}
use Terms.{with_new_units, with_offsets, with_part, with_parts, with_string, with_unit_added, zero}
use Rattle.thorin_package_input.specs.PackagedOffsets.{ranges_test, rewritten_from}
use Rattle.thorin_strings.proofs.Remapping.{entries_long, header_long}
use Rattle.{dwp_elf.specs.Contents.appended, thorin_package_input.specs.PackagedReading.range_bytes}
use Rattle.{dwp_strings.specs.Strings.IsZeroFree, std.proofs.Math.Nat.mul-le-mul_right}
use Rattle.thorin_package_input.proofs.ReadAlike.{joined_read, next_passed, package_reads_alike}
use Rattle.thorin_strings.specs.StringOffsets.{offset_at, remapped_entries, remapped_entry}
use Rattle.std.proofs.lemmas.List.Sums.{sum_by-append, sum_by-cons, sum_by_push}
use Rattle.thorin_join.specs.Strings.{each_from, offset_of_entry, strings_at}
use Rattle.dwp_strings.proofs.Named.{read_free, string_was, used}
use Rattle.thorin_join.{proofs.Ranges.whole-read, proofs.Units.News, specs.Meaning.joined_offsets}
use Rattle.thorin_join.specs.FirstUse.{named_by_ranges, named_by_section, named_in, with_strings}
use Rattle.thorin_join.specs.Sizes.{bytes_of_contents, bytes_of_strings, carried, offsets_used}
use Rattle.thorin_join.proofs.Ranges.{count-fits, count-none, empty-alike, range-of, whole-long}
use Rattle.std.proofs.Common.{if◌then◌else◌, leb, leb-false, true≢false, ⊎_elim}

-- bytes that are added to a section
pub content-appended : (kind k : SectionKind) (bytes : List ℕ) (c : Contents) → content_of kind
    (appended k bytes c) ≡ cond (same_kind k kind) (content_of kind c ++ bytes) (content_of kind c)
content-appended kind k bytes [] = refl
content-appended kind k bytes (d ∷ ds) =
    by-bool _ (same_kind d.0 k) (λ same. rw (same, ← is-same d.0 k same)
    (by-bool _ (same_kind d.0 kind) (λ here. rw here) (λ later. rw later)))
    (λ other. rw other (by-bool _ (same_kind d.0 kind) (λ here. rw here (grind arith))
    (λ later. rw (later, content-appended kind k bytes ds))))

pub content-with_bytes : (kind k : SectionKind) (bytes : List ℕ) (c : Contents)
    → content_of kind (with_bytes k bytes c) ≡ (if same_kind k kind then content_of kind c ++ bytes
    else content_of kind c)
content-with_bytes kind k bytes c =
    let none = nil_from_length bytes in
    grind (arith, content-appended kind k bytes c, none, append-nil (content_of kind c))

pub content-with_parts : (kind : SectionKind) (parts c : Contents)
    → content_of kind (with_parts parts c) ≡ content_of kind c ++ joined_parts kind parts
unfolding with_parts
content-with_parts kind [] c = sym (append-nil (content_of kind c))
content-with_parts kind (p ∷ ps) c =
    grind (arith, content-with_parts kind ps, content-with_bytes kind p.0 p.1, append_assoc {A = ℕ})

-- joined parts with one more
pub joined_parts-more : (kind : SectionKind) (a : Contents) (k : SectionKind) (bytes : List ℕ)
    → joined_parts kind (a ++ (k, bytes) ∷ []) ≡ joined_parts kind a ++ cond
    (same_kind k kind) bytes []
joined_parts-more kind [] k bytes = ap (λ v. cond (same_kind k kind) v []) (append-nil bytes)
joined_parts-more kind (p ∷ ps) k bytes =
    rw (joined_parts-more kind ps k bytes) (grind (arith, append_assoc {A = ℕ}))

pub joined_parts-other : (kind : SectionKind) (a : Contents) (k : SectionKind) (bytes : List ℕ)
    → same_kind k kind ≡ false → joined_parts kind (a ++ (k, bytes) ∷ []) ≡ joined_parts kind a
joined_parts-other kind a k bytes other =
    joined_parts-more kind a k bytes ∙ rw other (append-nil (joined_parts kind a))

-- whether there is a part of a kind, with one more
pub has_part-more : (kind : SectionKind) (a : Contents) (k : SectionKind) (bytes : List ℕ)
    → has_part kind (a ++ (k, bytes) ∷ []) ≡ (has_part kind a || (same_kind k kind || false))
has_part-more kind a k bytes = list_any-append (λ part. same_kind part.0 kind) a ((k, bytes) ∷ [])

module _ (source : Source) where
  -- string offsets were rewritten
  pub record Rewritten (before : Parts) (bytes : List ℕ) (next : Parts) : Type 0 where
    pub written : List ℕ × List (List ℕ)
    pub rewrites : rewritten source bytes before.1 ≡ Ok written
    pub is : next ≡ (before.0 ++ (StrOffsets, written.0) ∷ [], written.1)

  -- a section's part is made of its string offsets, is the section as it is, or isn't there
  abbrev pub Adds : Parts → Used → Parts → Type 0
  Adds before s next =
      ((same_kind s.kind StrOffsets ≡ true) × Rewritten before s.bytes next)
      ⊎ (((same_kind s.kind StrOffsets ≡ false) × (is_copied s.kind ≡ true)
      × (next ≡ (before.0 ++ (s.kind, s.bytes) ∷ [], before.1)))
      ⊎ ((same_kind s.kind StrOffsets ≡ false) × (is_copied s.kind ≡ false) × (next ≡ before)))

  -- the section doesn't stand twice where it may not
  pub record Step (before : Parts) (s : Used) (next : Parts) : Type 0 where
    pub once : (stands_once source s.kind && has_part s.kind before.0) ≡ false
    pub adds : Adds before s next

  pub step : (before : Parts) (s : Used) (next : Parts) → with_part source before s ≡ Ok next
      → Step before s next
  unfolding with_part with_offsets
  step before s next h = grind arith

  -- what holds of no sections, and with one more before others, holds of those of an input
  pub each-part : (P : Parts → List Used → Parts → Type 0) → ((parts : Parts) → P parts [] parts)
      → ((before : Parts) (s : Used) (next : Parts) (ss : List Used) (after : Parts)
      → Step before s next → with_each_part source next ss ≡ Ok after → P next ss after
      → P before (s ∷ ss) after) → (sections : List Used) (before after : Parts)
      → with_each_part source before sections ≡ Ok after → P before sections after
  unfolding with_each_part
  each-part P none more [] before after h = grind (arith, none before)
  each-part P none more (s ∷ ss) before after h =
      let next = bind-was (with_part source before s) _ after h in
      more before s next.0 ss after (step before s next.0 next.1) next.2
      (each-part P none more ss next.0 after next.2)

module _ (source : Source) (strings : List (List ℕ)) (parts : Contents) (after : List (List ℕ))
    (h : parts_of source strings ≡ Ok (parts, after)) (kind : SectionKind) where
  parts-plain : same_kind StrOffsets kind ≡ false → joined_parts kind parts
      ≡ cond (is_copied kind) (joined_content kind source.object.sections) []
  parts-plain apart =
      each-part source (λ before ss next. joined_parts kind next.0 ≡ joined_parts kind before.0
      ++ cond (is_copied kind) (joined_content kind ss) [])
      (λ parts. grind (arith, append-nil (joined_parts kind parts.0)))
      (λ before s next ss last made rest later.
      grind (arith, joined_parts-more kind, is-same s.kind kind, append_assoc {A = ℕ}, same-self))
      source.object.sections ([], strings) (parts, after) h

  -- sections that are copied, joined
  pub parts-copied : is_copied kind ≡ true
      → joined_parts kind parts ≡ joined_content kind source.object.sections
  parts-copied copied = grind (arith, is-same StrOffsets kind, parts-plain)

  -- of units, strings and indexes there is no part
  pub parts-none : is_copied kind ≡ false → same_kind StrOffsets kind ≡ false
      → joined_parts kind parts ≡ []
  parts-none none apart = grind (arith, parts-plain apart)

-- what holds of the kinds that are copied, and of string offsets
pub copied-or-offsets : (P : SectionKind → Type 0) → ((kind : SectionKind) → is_copied kind ≡ true
    → P kind) → P StrOffsets → (kind : SectionKind)
    → (is_copied kind || same_kind kind StrOffsets) ≡ true → P kind
copied-or-offsets P copied offsets kind shared =
    by-bool _ (is_copied kind) (copied kind)
    (λ other. subst P (sym (is-same kind StrOffsets (rw other at shared))) offsets)

-- string offsets of a package are rewritten range by range, others as one range
module _ (source : Source) (bytes : List ℕ) (strings : List (List ℕ)) where
  pub rewritten-package : is_package source.indexes ≡ true → rewritten source bytes strings
      ≡ packaged_offsets source.object.order source.encoding source.indexes.compilations
      source.indexes.types (first Str source.object.sections) bytes strings
  unfolding rewritten
  rewritten-package h = rw h refl

  pub rewritten-plain : is_package source.indexes ≡ false → rewritten source bytes strings
      ≡ remapped source.object.order source.encoding (first Str source.object.sections) bytes
      (length bytes) strings
  unfolding rewritten
  rewritten-plain h = rw h refl

-- strings that are used
with-append : (strings a b : List (List ℕ)) → with_strings strings (a ++ b) ≡ with_strings
    (with_strings strings a) b
with-append strings [] b = refl
with-append strings (x ∷ a) b = with-append (with_string strings x) a b

-- the bytes of a string with the zero byte that ends it
abbrev pub ended_long : List ℕ → ℕ
ended_long string = length string + 1

-- a table of strings, with the one before in front
pub record Follows (before after : List (List ℕ)) : Type 0 where
  pub table : IsTable after
  pub kept : take (length before) after ≡ before

-- strings that are named in a section by so many bytes of offsets are used after others: an offset
-- of 4 bytes names no more than the whole section
pub record Brings (section : List ℕ) (before named : List (List ℕ)) (size : ℕ)
    (after : List (List ℕ)) : Type 0 where
  pub are : after ≡ with_strings before named
  pub most : 4 * bytes_of_strings named ≤ size * length section
  pub follows : IsTable before → Follows before after

none-brings : {section : List ℕ} {strings : List (List ℕ)} {size : ℕ}
    → Brings section strings [] size strings
none-brings {section} {strings} = grind (arith, take-length strings)

both-bring : {section : List ℕ} {a named b others c : List (List ℕ)} {m n size : ℕ}
    → Brings section a named m b → Brings section b others n c → m + n ≤ size
    → Brings section a (named ++ others) size c
both-bring {section} {a} {named} {b} {others} {c} first second fits =
    let product = mul-le-mul_right (length section) fits in
    grind (arith, with-append a named, sum_by-append ended_long named others, kept_more a b c)

-- a string lies inside its section, with the zero byte that ends it
zero-within : (xs : List ℕ) → list_any (λ b. eqb b 0) xs ≡ true
    → position_or_len (λ b. eqb b 0) xs < length xs
zero-within [] h = absurd cc
zero-within (x ∷ xs) h = grind (arith, zero-within xs)

string-brings : (section string : List ℕ) (at : ℕ) (strings : List (List ℕ))
    → string_at section at ≡ Ok string
    → Brings section strings (string ∷ []) 4 (with_string strings string)
unfolding string_at
string-brings section string at strings h =
    let left = drop at section in
    let free = subst IsZeroFree (string_was section string at h) (read_free section at) in
    let one = sum_by-cons ended_long string [] in
    grind (arith, nat_tests, zero-within left, length-drop, length-take, used strings string)

-- one more string is read, at the offset of a number
string-more : (section : List ℕ) (f : ℕ → ℕ) (i n j : ℕ) (l : List (List ℕ)) (string : List ℕ)
    → j ≡ i + n → strings_at section (each_from f i n) ≡ Ok l → string_at section (f j) ≡ Ok string
    → strings_at section (each_from f i (suc n)) ≡ Ok (l ++ string ∷ [])
unfolding strings_at
string-more section f i zero j l string at h k =
    let here : i ≡ j = omega arith in grind arith
string-more section f i (suc n) j l string at h k = grind (arith, string-more section f (i + 1) n j)

pub no-entries : (encoding : Encoding) → entry_count encoding 0 ≡ 0
no-entries encoding = count-none encoding.format 0 (header_size encoding) (omega arith)

module _ (order : Endianness) (encoding : Encoding) (section bytes : List ℕ) where
  -- each entry that is rewritten names a string, which is used
  entries-named : (n : ℕ) (strings : List (List ℕ)) (out : List ℕ × List (List ℕ))
      → remapped_entries order encoding section bytes n strings ≡ Ok out
      → (named : List (List ℕ)) × (length out.0 ≡ n) × Brings section strings named (n * 4) out.1
      × (strings_at section (each_from (offset_of_entry order encoding bytes) 0 n) ≡ Ok named)
  unfolding remapped_entries strings_at remapped_entry named_at offset_at fitting_offset
  entries-named zero strings out h = grind (arith, take-length strings)
  entries-named (suc n) strings out h =
      let first = bind-was _ _ out h in
      let before = entries-named n strings first.0 first.1 in
      let entry = bind-was (remapped_entry order encoding section bytes n first.0.1) _ out
      first.2 in
      let s : (string : List ℕ)
      × (string_at section (offset_of_entry order encoding bytes n) ≡ Ok string)
      × (entry.0.1 ≡ with_string first.0.1 string) = grind (arith, entry.1) in
      let both = both-bring before.2 (string-brings section s.0 _ first.0.1 s.1) (omega arith) in
      let all = string-more section _ 0 n n before.0 s.0 (omega arith) before.3 s.1 in
      rw (← same-ok {E = ErrorValue} _ out entry.2, s.2)
      (before.0 ++ s.0 ∷ [], omega (arith, before.1, length-append {A = ℕ}), both, all)

  -- a range is rewritten to no more bytes
  range-brings : (size : ℕ) (strings : List (List ℕ)) (out : List ℕ × List (List ℕ))
      → size ≡ length bytes → remapped order encoding section bytes size strings ≡ Ok out
      → Brings section strings (result_unwrap_or (strings_of order encoding section bytes) []) size
      out.1 × (length out.0 ≤ size)
  unfolding strings_at
  range-brings size strings out is_size h = rw (← is_size)
      (elim (range-of order encoding section bytes size strings out h) [
        | inl none ↦ rw (none.0, no-entries encoding, ← none.1) (none-brings, omega arith)
        | inr r ↦
            let names = entries-named _ strings r.entries r.entries_are in
            let fits = count-fits encoding.format size (header_size encoding) r.room in
            let product = mul-le-mul_right (length section) fits.1 in
            let header = header_long order encoding _ r.header r.header_is in
            let entries = entries_long order encoding.format r.entries.0 in
            rw (names.3, ← r.is) (grind (arith, names.1, names.2, fits.0, length-append {A = ℕ}))
      ])

-- the strings that ranges name, one after the other
pub slice-long : (bytes : List ℕ) (at size : ℕ) → at + size ≤ length bytes
    → size ≡ length (slice_range bytes at (at + size))
slice-long bytes at size h =
    omega (arith, length-drop at bytes, length-take (at + size - at) (drop at bytes))

-- the bytes of one of the contents
abbrev pub long : SectionKind × List ℕ → ℕ
long c = length c.1

-- the bytes of a section of units
abbrev pub placed_bytes : Used → ℕ
placed_bytes s = cond (is_some (unit_section s.kind)) (length s.bytes) 0

module _ (source : Source) where
  abbrev strings_in : List ℕ
  strings_in = first Str source.object.sections

  ranges-bring : (bytes : List ℕ) (at left : ℕ) (ranges : List Contribution)
      (strings : List (List ℕ)) (out : List ℕ × List (List ℕ)) → at + left ≡ length bytes
      → ranges_test source.encoding (length bytes) at ranges ≡ Ok tt
      → rewritten_from source.object.order source.encoding strings_in bytes at ranges
      strings ≡ Ok out → Brings strings_in strings (named_by_ranges source bytes ranges) left out.1
      × (length out.0 ≤ left)
  unfolding rewritten_from
  ranges-bring bytes at left [] strings out ends t h = rw (← same-ok {E = ErrorValue} _ out h)
      (none-brings, omega (arith, length-drop at bytes))
  ranges-bring bytes at left (r ∷ rs) strings out ends t h =
      let next = next_passed source.encoding (length bytes) at r rs t in
      let s1 = bind-was _ _ out h in
      let s2 = bind-was _ _ out s1.2 in
      let here = range-brings _ _ _ _ _ _ _ (slice-long bytes r.offset.0 r.size next.inside) s1.1 in
      let later = ranges-bring bytes (r.offset.0 + r.size) (length bytes - (r.offset.0 + r.size)) rs
      s1.0.1 s2.0 (omega arith) next.others s2.1 in
      let both = both-bring here.0 later.0 (omega arith) in
      rw (← same-ok {E = ErrorValue} _ out s2.2)
      (both, omega (arith, here.1, later.1, length-take {A = ℕ}, length-append {A = ℕ}))

  -- a section, and all of them
  section-brings : (bytes : List ℕ) (strings : List (List ℕ)) (out : List ℕ × List (List ℕ))
      → rewritten source bytes strings ≡ Ok out → Brings strings_in strings
      (named_by_section source bytes) (length bytes) out.1 × (length out.0 ≤ length bytes)
  unfolding rewritten packaged_offsets
  section-brings bytes strings out h =
      by-bool _ (is_package source.indexes) (λ packed. let s1 = bind-was _ _ out (rw packed at h) in
      rw packed (ranges-bring bytes 0 (length bytes) _ strings out (omega arith) s1.1 s1.2))
      (λ plain. rw plain (range-brings _ _ _ bytes _ strings out refl (rw plain at h)))

  -- what sections bring: the strings that they name, and parts that have, with their units, no more
  -- than is carried
  abbrev Bring : Parts → (sections : List Used) → Parts → Type 0
  Bring before sections after =
      Brings strings_in before.1 (named_in source sections) (sum_by offsets_used sections) after.1
      × (bytes_of_contents after.0 + sum_by placed_bytes sections ≤ bytes_of_contents before.0
      + sum_by carried sections)

  pub step-brings : (before : Parts) (s : Used) (next : Parts) → Adds source before s next
      → Brings strings_in before.1
      (if same_kind s.kind StrOffsets then named_by_section source s.bytes else [])
      (offsets_used s) next.1
      × (bytes_of_contents next.0 + placed_bytes s ≤ bytes_of_contents before.0 + carried s)
  step-brings before s next adds =
      let brings = section-brings s.bytes before.1 in
      let part = cond (same_kind s.kind StrOffsets || is_copied s.kind) (length s.bytes) 0 in
      let fits : part + placed_bytes s ≤ carried s = grind arith in
      grind (arith, brings, fits, take-length before.1, sum_by_push long before.0)

  pub each-brings : (sections : List Used) (before after : Parts)
      → with_each_part source before sections ≡ Ok after → Bring before sections after
  each-brings = each-part source Bring (λ parts. (none-brings, omega arith))
      (λ before s next ss after made rest later.
      let here = step-brings before s next made.adds in
      let offsets = sum_by-cons offsets_used s ss in (
        both-bring here.0 later.0 (omega arith),
        omega (arith, sum_by-cons placed_bytes s ss, sum_by-cons carried s ss),
      ))

-- what holds of no units, and with one more that is added or passed over, holds of those of an
-- input
pub each-unit : (P : InProgress → News → InProgress → Type 0) → ((p : InProgress) → P p [] p)
    → ((p : InProgress) (u : DwarfObject × NewUnit) (us : News) (now : InProgress) → P p us now
    → P p (u ∷ us) now) → ((p : InProgress) (u : DwarfObject
    × NewUnit) (us : News) (now : InProgress) → P (with_unit_added p u) us now → P p (u ∷ us) now)
    → (p : InProgress) (us : News) → P p us (with_new_units p us)
unfolding with_new_units with_new_unit
each-unit P none passed added p [] = none p
each-unit P none passed added p (u ∷ us) =
    let new = each-unit P none passed added (with_unit_added p u) us in
    grind (arith, passed p u us _ (each-unit P none passed added p us), added p u us _ new)

-- units bring no strings
pub units-strings : (p : InProgress) (us : News) → (with_new_units p us).strings ≡ p.strings
units-strings = each-unit (λ p us now. now.strings ≡ p.strings) (λ p. refl)
    (λ p u us now same. same) (λ p u us now same. same)

pub has-more : (a : Contents) (bytes : List ℕ) → has_part StrOffsets
    (a ++ (StrOffsets, bytes) ∷ []) ≡ true
has-more a bytes = grind (arith, has_part-more StrOffsets a StrOffsets bytes)

pub has-other : (a : Contents) (k : SectionKind) (bytes : List ℕ) → same_kind k StrOffsets ≡ false
    → has_part StrOffsets (a ++ (k, bytes) ∷ []) ≡ has_part StrOffsets a
has-other a k bytes other = grind (arith, has_part-more StrOffsets a k bytes)

module _ (source : Source) (plain : is_package source.indexes ≡ false) where
  abbrev object : InputFile
  object = source.object

  abbrev encoding : Encoding
  encoding = source.encoding

  abbrev section : List ℕ
  section = first Str object.sections

  -- the rewritten ranges so far read as those of the object, with the strings of any table that
  -- begins with these
  record Reads (new : List ℕ) (strings : List (List ℕ)) (has : Bool) (old : List ℕ) : Type 0 where
    table : IsTable strings
    read : (final : List (List ℕ)) → IsTable final → take (length strings) final ≡ strings → (i : ℕ)
        → ReadsAlike object.order encoding section old (data_of final) new i
    whole : encoding.version < 5 → (count : ℕ) × (length old ≡ count * offset_size
        encoding.format) × (length new ≡ count * offset_size encoding.format)
    fresh : leb 5 encoding.version ≡ true → has ≡ false → (new ≡ []) × (old ≡ [])

  abbrev ReadsBy : Parts → List ℕ → Type 0
  ReadsBy before old = Reads (joined_parts StrOffsets before.0) before.1
      (has_part StrOffsets before.0) old

  -- one more range: in DWARF 5 it is the only one, before it is joined to those before
  reads-rewritten : (before : Parts) (bytes : List ℕ) (next : Parts) (old : List ℕ)
      → ReadsBy before old → (leb 5 encoding.version ≡ true → has_part StrOffsets before.0 ≡ false)
      → Rewritten source before bytes next → ReadsBy next (old ++ whole_entries encoding bytes)
  reads-rewritten before bytes next old so_far once w =
      let law = range_named _ _ _ _ _ _ w.written so_far.table
      (sym (rewritten-plain source bytes before.1 plain) ∙ w.rewrites) in
      let new = joined_parts StrOffsets before.0 in
      let own = whole_entries encoding bytes in
      rw (w.is, joined_parts-more, has-more before.0 w.written.0) (record {
        table = law.table;
        read = λ final table begins.
            let last : (i : ℕ) → ReadsAlike object.order encoding section own (data_of final)
            w.written.0 i = λ i. let alike = strings_again _ _ _ _ _ _ _ final law table begins i in
            grind (arith, whole-read object.order encoding section bytes i) in
            by-bool _ (leb 5 encoding.version)
            (λ standard. let none = so_far.fresh standard (once standard) in
            rw (none.0, none.1) last) (λ gnu i. let early = leb-false 5 encoding.version gnu in
            let whole = so_far.whole early in
            let one = so_far.read final table (kept_more _ _ _ law.kept begins) i in
            let olds = joined_read object.order encoding old own whole.0 early whole.1 section i in
            let news = joined_read object.order encoding new w.written.0 whole.0 early whole.2
            (data_of final) i in
            grind (arith, olds, news, one, last (i - whole.0)));
        whole = λ gnu.
            let whole = so_far.whole gnu in
            let header = no_header encoding gnu in
            let long = whole-long encoding bytes (omega (arith, header)) in (
              whole.0 + entry_count encoding (length bytes),
              omega (arith, header, long, whole.1, length-append old own),
              grind (arith, count-none encoding.format, law.none, law.long, length-append new),
            );
        fresh = λ standard has. absurd (true≢false has);
      })

  -- the strings that the part of string offsets names are those that the object's name
  pub parts-read : (strings : List (List ℕ)) (parts : Contents) (after : List (List ℕ))
      → IsTable strings → parts_of source strings ≡ Ok (parts, after)
      → (final : List (List ℕ)) → IsTable final → take (length after) final ≡ after → (i : ℕ)
      → ReadsAlike object.order encoding section (joined_offsets encoding object.sections)
      (data_of final) (joined_parts StrOffsets parts) i
  parts-read strings parts after table h =
      (each-part source (λ before ss after. (old : List ℕ) → ReadsBy before old
      → ReadsBy after (old ++ joined_offsets encoding ss)) (λ parts old so_far.
      rw (append-nil old) so_far) (λ before s next ss after made rest later old so_far.
      elim made.adds [
        | inl (o, w) ↦
            rw (o, ← append_assoc old (whole_entries encoding s.bytes) (joined_offsets encoding ss))
            (later _ (reads-rewritten before s.bytes next old so_far
            (λ standard. grind (arith, made.once, is-same s.kind StrOffsets o)) w))
        | inr (inl (o, c, is)) ↦
            let joined = joined_parts-other StrOffsets before.0 s.kind s.bytes o in
            rw o (later old (rw (is, has-other before.0 s.kind s.bytes o, joined) so_far))
        | inr (inr (o, c, is)) ↦ rw o (later old (rw is so_far))
      ]) object.sections ([], strings) (parts, after) h []
      (grind (arith, empty-alike object.order encoding section))).read

-- the string offsets of a package were rewritten: each row's range reads alike
pub record RowsRead (source : Source) (old new : List ℕ) (after : List (List ℕ)) : Type 0 where
  pub size : length new ≡ length old
  pub rows : (index : Index)
      → (source.indexes.compilations ≡ Some index) ⊎ (source.indexes.types ≡ Some index)
      → (number : ℕ) (row : Ranges) (range : Contribution) → row_in index number ≡ Ok row
      → range_in row StrOffsets ≡ Some range → range.offset.0 + range.size ≤ length old
      → 0 < range.size → (final : List (List ℕ)) → IsTable final → take (length after) final ≡ after
      → (k : ℕ) → ReadsAlike source.object.order source.encoding (first Str source.object.sections)
      (range_bytes old range) (data_of final) (range_bytes new range) k

module _ (source : Source) (packed : is_package source.indexes ≡ true) where
  -- where a kind has a part, no further section of it follows, and the part stays
  ended : (kind : SectionKind) (sections : List Used) (before after : Parts)
      → with_each_part source before sections ≡ Ok after → has_part kind before.0 ≡ true
      → joined_parts kind after.0 ≡ joined_parts kind before.0
  ended kind = each-part source (λ before ss after. has_part kind before.0 ≡ true
      → joined_parts kind after.0 ≡ joined_parts kind before.0) (λ parts has. refl)
      (λ before s next ss after made rest ends has.
      grind (arith, is-same, joined_parts-other kind before.0, has_part-more kind before.0))

  -- so the part of a kind that is copied is its first section
  pub parts-first : (strings : List (List ℕ)) (parts : Contents) (after : List (List ℕ))
      → parts_of source strings ≡ Ok (parts, after) → (kind : SectionKind) → is_copied kind ≡ true
      → joined_parts kind parts ≡ first kind source.object.sections
  parts-first strings parts after h kind copied =
      each-part source (λ before ss after. joined_parts kind before.0 ≡ []
      → joined_parts kind after.0 ≡ first kind ss) (λ parts none. none)
      (λ before s next ss last made rest once none.
      let end = ended kind ss next last rest in
      grind (arith, joined_parts-more kind, end, has_part-more kind, is-same, same-self kind))
      source.object.sections ([], strings) (parts, after) h refl

  pub rows-read : (strings : List (List ℕ)) (parts : Contents) (after : List (List ℕ))
      → IsTable strings → parts_of source strings ≡ Ok (parts, after) → RowsRead source
      (first StrOffsets source.object.sections) (joined_parts StrOffsets parts) after
  rows-read strings parts after table h =
      each-part source (λ before ss after. IsTable before.1 → joined_parts StrOffsets before.0 ≡ []
      → RowsRead source (first StrOffsets ss) (joined_parts StrOffsets after.0) after.1)
      (λ parts table none. rw none (grind arith))
      (λ before s next ss last made rest rows table none. by-bool _ (same_kind s.kind StrOffsets)
      (λ same. let w : Rewritten source before s.bytes next = grind (arith, made.adds) in
      let end = ended StrOffsets ss next last rest in
      let joined : joined_parts StrOffsets last.0 ≡ w.written.0 =
      grind (arith, end, has_part-more StrOffsets, joined_parts-more StrOffsets before.0) in
      let reads = package_reads_alike _ _ _ _ _ _ _ w.written.0 w.written.1
      table (sym (rewritten-package source s.bytes before.1 packed) ∙ w.rewrites) in
      let later = (each-brings source ss _ last (rw w.is at rest)).0.follows reads.table in
      rw (same, joined) (record {
        size = reads.size;
        rows = λ index one number row range there is inside some final final_table begins.
            (⊎_elim (reads.compilation_rows index) (reads.type_rows index) one number row range
            there is).alike final final_table (kept_more _ _ _ later.kept begins);
      }))
      (λ other. rw other (rows ((step-brings source before s next made.adds).0.follows table).table
      (grind (arith, joined_parts-other StrOffsets before.0)))))
      source.object.sections ([], strings) (parts, after) h table refl
