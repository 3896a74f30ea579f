-- What stands in a package stays when more is added; the ranges that a unit's row gets, where they
-- lie, and what stands there; and a unit that is added stands in its row. A unit's own row in its
-- input's indexes, the row that it gets, and what this row means, where each of its ranges was put
-- behind the contents before: a unit that passed the tests stands in its row.
use Rattle.thorin_join.proofs.Terms
use Terms.{Endianness, IsRowOf, IsTable, IsWhole, joined_parts, kept_more, kind_of, le-leb, length}
use Terms.{HasFront, with_parts, [], ℕ, ◌&&◌, ◌++◌, ◌+◌, ◌-◌, ◌<◌, ◌||◌, ◌∙◌, ◌∷◌, ◌≡◌, ◌≤◌, ◌⊎◌}
use Terms.{Index, nil_from_length, None, Ok, Option, part_of, parts_of, place_of, range_in, Ranges}
use Terms.{IndexEntry, read_each, ReadsAlike, refl, row_at, row_in, same-each, same-self, same_kind}
use Terms.{SectionKind, Shares, slice_range, Some, Source, Str, string_in, StrOffsets, sym, take}
use Terms.{all_kinds, ap, append-nil, append_assoc, AreRowsOf, arith, bind-was, Bool, by-bool}
use Terms.{column_place, cond, content_of, Contents, Contribution, contribution_put, identifier_of}
use Terms.{contribution_to, data_of, drop, drop-append-le, DwarfObject, Encoding, encoding_in, eqb}
use Terms.{entry_by, take-append-le, take-length, true, TypeUnit, UnitRead, UnitSection, with_bytes}
use Terms.{false, Indexes, is-same, is_copied, is_none, is_outside, is_package, is_shared, is_some}
use Terms.{first, length-append, length-drop, LieInside, List, Meaning, nat_tests, ne_eqb, NewUnit}
use Rattle.{dwp_base.specs.ByKind.value_of, thorin_input.specs.Adjusting.adjusted}
use Rattle.{dwp_base.proofs.KindsRead.read-kind, thorin_join.specs.StandApart.LieBehind}
use Rattle.dwp_base.specs.declared.section.SectionKind.TheVariants.{Abbrev, Info, Types}
use Rattle.thorin_join.specs.Meaning.{contributions_by, lie_inside, placed_row}
use Rattle.std.proofs.{Common.if◌then◌else◌, Math.Seq.drop-append-add, Math.Seq.drop-append_seam}
use Rattle.thorin_join.proofs.{Parts.rows-read, Ranges.empty-alike, Ranges.strings-there}
use Rattle.thorin_input.specs.{Indexes.index_for, Rows.row_test, Rows.unit_contribution}
use Rattle.thorin_input.specs.Adjusting.{contribution_by_row, moved, own_index, without_column}
use Rattle.thorin_join.proofs.Parts.{content-with_bytes, each-brings, parts-first, parts-read}
use Rattle.thorin_join.proofs.Parts.{content-with_parts, copied-or-offsets, parts-copied, RowsRead}
use Rattle.thorin_input.specs.Rows.{adjusted_contribution, own_contribution, unit_row, whole_row}
use Rattle.thorin_join.specs.Meaning.{contribution_by, meaning_by, offsets_by, unit_meaning}
use Rattle.thorin_input.specs.Adjusting.{Adjustor, has_column_for, moved_range, other_index, row_of}
use Rattle.dwp_base.specs.declared.section.SectionKind.TheVariants as kinds
use Rattle.dwp_units.specs.declared.unit.UnitSection.TheVariants as places

-- each content has at its front what it was
abbrev pub Grows : Contents → Contents → Type 0
Grows c d = (kind : SectionKind) → HasFront (content_of kind c) (content_of kind d)

pub front-long : {a b : List ℕ} → HasFront a b → length a ≤ length b
front-long {a} h = omega (arith, ap length h.is, length-append a h.rest)

pub grows-trans : (c d e : Contents) → Grows c d → Grows d e → Grows c e
grows-trans c d e h k kind = record {
  rest = (h kind).rest ++ (k kind).rest;
  is = rw ((k kind).is, (h kind).is, append_assoc);
}

-- bytes that are added
pub grows-with_bytes : (k : SectionKind) (x : List ℕ) (c : Contents) → Grows c (with_bytes k x c)
grows-with_bytes k x c kind =
    let none = append-nil (content_of kind c) in
    record { rest = cond (same_kind k kind) x []; is = grind (arith, content-with_bytes, none) }

pub range-front : (a x : List ℕ) (i n : ℕ) → i + n ≤ length a → slice_range (a ++ x) i (i + n) ≡
    slice_range a i (i + n)
range-front a x i n h = rw (drop-append-le i a x (omega arith))
    (take-append-le (i + n - i) (drop i a) x (omega (arith, length-drop i a)))

-- the bytes of a range that lies inside
pub part-inside : (a : List ℕ) (range : Contribution) → range.offset.0 + range.size ≤ length a
    → part_of a (Some range) ≡ slice_range a range.offset.0 (range.offset.0 + range.size)
part-inside a range h = rw (le-leb _ _ h) refl

-- the part of a row
pub keep-part : (c d : Contents) (row : IndexEntry) → Grows c d → LieInside c row
    → (kind : SectionKind) → part_of (content_of kind d) (contribution_to kind row) ≡ part_of
    (content_of kind c) (contribution_to kind row)
keep-part c d row grows lie kind = let front = grows kind in
    let same = range-front (content_of kind c) front.rest in
    grind (arith, lie.inside kind, front.is, front-long front, part-inside, same)

pub keep-lie : (c d : Contents) (row : IndexEntry) → Grows c d → LieInside c row → LieInside d row
keep-lie c d row grows lie =
    grind (arith, lie.inside, lie.some, λ (kind : SectionKind). front-long (grows kind))

pub keep-shares : (order : Endianness) (c d : Contents) (s t : List (List ℕ)) (row : IndexEntry)
    (unit : Meaning) → Grows c d → take (length s) t ≡ s → LieInside c row
    → Shares order c s row unit → Shares order d t row unit
keep-shares order c d s t row unit grows longer lie shares = record {
  content = λ kind copied. keep-part c d row grows lie kind ∙ shares.content kind copied;
  string = λ final table begins i. ap (λ part. string_in order unit.encoding (data_of final) part i)
      (keep-part c d row grows lie StrOffsets)
      ∙ shares.string final table (kept_more s t final longer begins) i;
}

pub keep-rows : (order : Endianness) (c d : Contents) (s t : List (List ℕ)) (rows : List IndexEntry)
    (members : List (DwarfObject × Meaning)) → Grows c d → take (length s) t ≡ s
    → AreRowsOf order c s rows members → AreRowsOf order d t rows members
keep-rows order c d s t [] [] grows longer are = tt
keep-rows order c d s t (r ∷ rs) (m ∷ ms) grows longer are =
    let part = keep-part c d r grows are.0.lie (kind_of are.0.owns.place) in
    let shares = keep-shares order c d s t r m.1 grows longer are.0.lie are.0.shares in
    let rest = keep-rows order c d s t rs ms grows longer are.1 in
    grind (arith, part, shares, keep-lie c d r grows are.0.lie, rest)
keep-rows order c d s t _ _ grows longer are = absurd are

-- one more row
pub rows-next : (order : Endianness) (c : Contents) (s : List (List ℕ)) (rows : List IndexEntry)
    (members : List (DwarfObject × Meaning)) (row : IndexEntry) (member : DwarfObject × Meaning)
    → AreRowsOf order c s rows members → IsRowOf order c s row member → AreRowsOf order c s
    (rows ++ row ∷ []) (members ++ member ∷ [])
rows-next order c s [] [] row member are is = (is, tt)
rows-next order c s (r ∷ rs) (m ∷ ms) row member are is =
    (are.0, rows-next order c s rs ms row member are.1 is)
rows-next order c s _ _ row member are is = absurd are

-- a range, where there is one, lies inside bytes that were put behind others, and has some, and
-- these bytes stand there
pub record Lies (front bytes : List ℕ) (range : Option Contribution) (part : List ℕ) : Type 0 where
  pub behind : (r : Contribution) → range ≡ Some r → length front ≤ r.offset.0
  pub inside : (r : Contribution) → range ≡ Some r → r.offset.0 + r.size ≤ length (front ++ bytes)
  pub some : (r : Contribution) → range ≡ Some r → 0 < r.size
  pub part_is : part_of (front ++ bytes) range ≡ part

abbrev range_at : ℕ → ℕ → Contribution
range_at at size = record { offset = record { 0 = at }; size = size }

-- a range of bytes, moved behind others
lies-at : (front bytes : List ℕ) (r moved : Contribution) → moved.offset.0 ≡ length front
    + r.offset.0 → moved.size ≡ r.size → 0 < r.size → r.offset.0 + r.size ≤ length bytes
    → Lies front bytes (Some moved) (part_of bytes (Some r))
lies-at front bytes r moved at size some within =
    grind (arith, length-append front bytes, part-inside, drop-append-add front bytes r.offset.0)

-- where bytes come to lie as a whole behind others: nowhere, where there are none
abbrev pub whole_behind : List ℕ → List ℕ → Option Contribution
whole_behind front bytes = if eqb (length bytes) 0 then None else Some
    (range_at (length front) (length bytes))

pub lies-whole : (front bytes : List ℕ) → Lies front bytes (whole_behind front bytes) bytes
lies-whole front bytes =
    let whole = range_at 0 (length bytes) in
    let lies = lies-at front bytes whole (range_at (length front) (length bytes)) in
    let none = nil_from_length bytes in
    grind (arith, nat_tests, none, lies, part-inside bytes whole, take-length bytes)

-- a unit's part of bytes that were put behind others: its range lies inside them, and the same
-- stands there
pub record Placed (front bytes : List ℕ) (range moved : Option Contribution) : Type 0 where
  pub within : (r : Contribution) → range ≡ Some r → r.offset.0 + r.size ≤ length bytes
  pub lies : Lies front bytes moved (part_of bytes range)

-- by the columns that the indexes have
pub placed-by : (front bytes : List ℕ) (kind : SectionKind) (id : ℕ)
    (range result : Option Contribution) (own other : Bool)
    → ((r : Contribution) → range ≡ Some r → 0 < r.size) → (own ≡ false → range ≡ None)
    → cond own (moved_range kind id range (whole_behind front bytes))
    (cond other (Ok None) (without_column (whole_behind front bytes))) ≡ Ok result
    → Placed front bytes range result
unfolding moved
placed-by front bytes kind id None result own other some none h = grind arith
placed-by front bytes kind id (Some r) result own other some none h =
    let moved = range_at (length front + r.offset.0) r.size in
    grind (arith, nat_tests, some r, none, lies-at front bytes r moved)

-- a range that is there has bytes
pub range-some : (row : Ranges) (kind : SectionKind) (r : Contribution) → range_in row kind ≡
    Some r → 0 < r.size
unfolding range_in
range-some row kind r h = grind (arith, nat_tests)

-- without a column there is no range
pub range-none : (index : Index) (number : ℕ) (row : Ranges) (kind : SectionKind)
    → row_in index number ≡ Ok row → is_some (column_place index.version index.columns kind) ≡ false
    → range_in row kind ≡ None
unfolding range_in row_in
range-none index number row kind h none = grind arith

-- a range inside bytes as long isn't outside
pub not-outside : (bytes as_long : List ℕ) (range : Option Contribution) → length bytes ≡ length
    as_long → ((r : Contribution) → range ≡ Some r → r.offset.0 + r.size ≤ length as_long)
    → is_outside bytes range ≡ false
not-outside bytes as_long range long within = grind (arith, within, nat_tests)

-- the content of the kind that bytes are added to
pub content-put : (k : SectionKind) (x : List ℕ) (c : Contents) → content_of k (with_bytes k x c) ≡
    content_of k c ++ x
content-put k x c = rw (content-with_bytes k k x c, same-self k) refl

-- where they lie
abbrev pub range_for : SectionKind → List ℕ → Contents → Contribution
range_for k x c = record { offset = record { 0 = length (content_of k c) }; size = length x }

pub place-put : (k : SectionKind) (x : List ℕ) (c : Contents) → 0 < length x
    → contribution_put k x c ≡ Some (range_for k x c)
place-put k x c h = rw (ne_eqb (length x) 0 (λ none. absurd (omega arith))) refl

pub own-bytes : (a x : List ℕ) → slice_range (a ++ x) (length a) (length a + length x) ≡ x
own-bytes a x = grind (arith, drop-append_seam a x, take-length x)

-- the kind of a place is none of those that units share
pub not-shared : (place : UnitSection) → (is_copied (kind_of place) ≡ false)
    × (same_kind (kind_of place) kinds.StrOffsets ≡ false)
    × (same_kind kinds.StrOffsets (kind_of place) ≡ false)
not-shared place = grind arith

-- a unit that can be put behind the others: its place is that of its name and its range in types
pub record CanLie (order : Endianness) (u : DwarfObject × NewUnit) : Type 0 where
  pub no_info : u.1.row.debug_info ≡ None
  pub no_types : u.1.row.debug_types ≡ None
  pub types_only : u.1.place ≡ places.Types → (signature : ℕ)
      × (u.0 ≡ TypeUnit (record { 0 = signature }))
  pub whole : IsWhole order u.1.place u.0 u.1.bytes

module _ (shared : IndexEntry) (c : Contents) (name : DwarfObject) (x : List ℕ) where
  -- a unit's row has its own part, and those that it shares
  row-parts : (place : UnitSection) (kind : SectionKind)
      → contribution_to kind (row_at shared c name x place) ≡ cond (same_kind (kind_of place) kind)
      (contribution_put (kind_of place) x c) (contribution_to kind shared)
  row-parts places.Info = same-each _ _ refl
  row-parts places.Types = same-each _ _ refl

  pub own-place : {order : Endianness} (place : UnitSection)
      → CanLie order (name, record { place = place; bytes = x; row = shared })
      → place ≡ place_of name (contribution_to kinds.Types (row_at shared c name x place))
  own-place place can =
      grind (arith, can.no_types, can.types_only, place-put kinds.Types x c can.whole.some)

  pub row-name : (place : UnitSection) → (row_at shared c name x place).id ≡ name
  row-name place = grind arith

  module _ (place : UnitSection) where
    abbrev row : IndexEntry
    row = row_at shared c name x place

    pub row-other : (kind : SectionKind) → same_kind (kind_of place) kind ≡ false
        → contribution_to kind row ≡ contribution_to kind shared
    row-other kind other = rw (row-parts place kind, other)

    pub row-own : contribution_to (kind_of place) row ≡ contribution_put (kind_of place) x c
    row-own = rw (row-parts place (kind_of place), same-self (kind_of place))

    -- its other parts are those that it shares, and its own
    pub row-part : (kind : SectionKind) → (contribution_to kind row ≡ contribution_to kind shared) ⊎
        ((kind ≡ kind_of place) × (contribution_to kind row ≡ contribution_put (kind_of place) x c))
    row-part kind = grind (arith, is-same (kind_of place) kind, row-own, row-other kind)

    -- a unit whose row shares what belongs to it is the one of its row, once its bytes are added
    pub unit-added : (base : Contents) → Grows base c → (order : Endianness) (s : List (List ℕ))
        (unit : Meaning) → x ≡ unit.bytes → shared.encoding ≡ unit.encoding → LieInside base shared
        → Shares order base s shared unit
        → CanLie order (name, record { place = place; bytes = x; row = shared })
        → IsRowOf order (with_bytes (kind_of place) x c) s row (name, unit)
    unfolding encoding_in
    unit-added base grows order s unit bytes encoded lie shares can =
        let k = kind_of place in
        let d = with_bytes k x c in
        let more = grows-trans base c d grows (grows-with_bytes k x c) in
        let kept = keep-shares order base d s s shared unit more (take-length s) lie shares in
        let there = keep-lie base d shared more lie in
        let own = lies-whole (content_of k c) x in
        record {
          name = row-name place;
          encoding = grind (arith, encoded);
          lie = grind (
            arith,
            row-part,
            there.inside,
            there.some,
            own.inside,
            own.some,
            content-put k x c,
          );
          shares = grind (arith, is-same, not-shared place, row-other, kept.content, kept.string);
          owns = record {
            place = place;
            place_is = own-place place can;
            bytes = rw (row-own, content-put k x c) (own.part_is ∙ bytes);
            encoding = can.whole.unit.encoding;
            header = grind (arith, bytes, can.whole.read);
          };
        }

-- an entry by parts has each of those that it can have
entry-part : (encoding : Encoding) (id : DwarfObject) (part : SectionKind → Option Contribution)
    (kind : SectionKind) → is_shared kind ≡ true
    → contribution_to kind (entry_by encoding id part) ≡ part kind
entry-part encoding id part kind shared = grind arith

-- the row by place is there, and is the one that looking an identifier up gives
pub record OwnRow (own : Option Index) (kind : SectionKind) (range : Contribution)
    (id : ℕ) : Type 0 where
  pub index : Index
  pub is : own ≡ Some index
  pub number : ℕ
  pub row : Ranges
  pub there : row_in index number ≡ Ok row
  pub placed : placed_row own kind range ≡ Some row
  pub found : row_of own id ≡ Ok row

-- parts that are adjusted
abbrev pub adjustor : Indexes → SectionKind → Adjustor
adjustor indexes kind =
    record { compilation = indexes.compilations; types = indexes.types; section = kind }

pub own-index : (indexes : Indexes) (kind : SectionKind) (name : DwarfObject)
    → own_index (adjustor indexes kind) name ≡ index_for indexes name
own-index indexes kind name = grind arith

pub some-index : (c t : Option Index) → (is_some c || is_some t) ≡ true
    → (is_none c && is_none t) ≡ false
some-index c t h = grind arith

-- the row that a unit gets
pub record IsUnitRow (indexes : Indexes) (whole : IndexEntry) (name : DwarfObject)
    (row : IndexEntry) : Type 0 where
  pub encoding : row.encoding ≡ whole.encoding
  pub info : row.debug_info ≡ whole.debug_info
  pub types : row.debug_types ≡ whole.debug_types
  pub parts : (kind : SectionKind) → is_shared kind ≡ true → adjusted_contribution indexes name kind
      (contribution_to kind whole) ≡ Ok (contribution_to kind row)

module _ (indexes : Indexes) (name : DwarfObject) where
  -- of a plain input a unit's part is the whole
  pub adjusted-plain : (kind : SectionKind) (whole : Option Contribution)
      → is_package indexes ≡ false → adjusted_contribution indexes name kind whole ≡ Ok whole
  unfolding adjusted
  adjusted-plain kind whole plain = grind arith

  -- of a package it is by the unit's row
  pub adjusted-packed : is_package indexes ≡ true → (kind : SectionKind)
      (whole result : Option Contribution) → adjusted_contribution indexes name kind
      whole ≡ Ok result
      → (row : Ranges) × (row_of (index_for indexes name) (identifier_of name) ≡ Ok row)
      × (contribution_by_row (adjustor indexes kind) name whole row ≡ Ok result)
  unfolding adjusted
  adjusted-packed packed kind whole result h = grind (arith, own-index indexes kind name)

pub is-unit_row : (indexes : Indexes) (whole : IndexEntry) (name : DwarfObject) (row : IndexEntry)
    → unit_row indexes whole name ≡ Ok row → IsUnitRow indexes whole name row
unfolding unit_row
is-unit_row indexes whole name row h =
    let given = λ (kind : SectionKind). unit_contribution indexes name kind
    (contribution_to kind whole) in
    let parts = bind-was (read_each given all_kinds) _ row h in
    let part = read-kind given parts.0 None parts.1 in
    let entry = entry-part whole.encoding name (value_of None parts.0) in
    grind (arith, parts.2, part, part Info, part Types, entry)

-- where the wholes lie
pub whole-part : (encoding : Encoding) (before parts : Contents) (kind : SectionKind)
    → is_shared kind ≡ true → contribution_to kind
    (whole_row encoding before parts) ≡ contribution_put kind (joined_parts kind parts) before
unfolding whole_row
whole-part encoding before parts kind shared = grind (arith, entry-part encoding)

pub whole-else : (encoding : Encoding) (before parts : Contents)
    → ((whole_row encoding before parts).encoding ≡ encoding)
    × ((whole_row encoding before parts).debug_info ≡ None)
    × ((whole_row encoding before parts).debug_types ≡ None)
unfolding whole_row
whole-else encoding before parts = (refl, refl, refl)

-- the ranges of the kinds that units share lie behind the contents before, inside the parts that
-- were put there, and these bytes stand there
abbrev pub SharedLie : (before parts : Contents) → IndexEntry → (SectionKind → List ℕ) → Type 0
SharedLie before parts row part = (kind : SectionKind) → is_shared kind ≡ true → Lies
    (content_of kind before) (joined_parts kind parts) (contribution_to kind row) (part kind)

-- string offsets read as those of the unit's ranges, with the strings of any table that begins with
-- these
abbrev pub OffsetsRead : Source → Option Ranges → List (List ℕ) → List ℕ → Type 0
OffsetsRead source ranges after new = (final : List (List ℕ)) → IsTable final → take (length after)
    final ≡ after → (i : ℕ)
    → ReadsAlike source.object.order source.encoding (first Str source.object.sections)
    (offsets_by source ranges) (data_of final) new i

-- what belongs to a unit stands in its row
pub record RowShares (source : Source) (before parts : Contents) (after : List (List ℕ))
    (read : DwarfObject × UnitRead) (row : IndexEntry) : Type 0 where
  pub unit : Meaning
  pub meaning_is : unit_meaning source read ≡ Some unit
  pub bytes_are : unit.bytes ≡ read.1.unit.whole.bytes
  pub encoding : row.encoding ≡ unit.encoding
  pub lie : LieInside (with_parts parts before) row
  pub shares : Shares source.object.order (with_parts parts before) after row unit

module _ (source : Source) (before parts : Contents) (read : DwarfObject × UnitRead)
    (row : IndexEntry) (made : IsUnitRow source.indexes (whole_row source.encoding before parts)
    read.0 row) where
  abbrev name : DwarfObject
  name = read.0

  -- a kind of which it has a range is shared
  has-shared : (kind : SectionKind) (range : Contribution) → contribution_to kind row ≡ Some range
      → is_shared kind ≡ true
  has-shared kind range h = grind (arith, whole-else source.encoding before parts)

  -- the unit by these ranges, which has these parts
  shares-by : (after : List (List ℕ)) (ranges : Option Ranges) (part : SectionKind → List ℕ)
      → IsTable after → unit_meaning source read ≡ meaning_by source read.1.unit.whole.bytes ranges
      → SharedLie before parts row part → ((kind : SectionKind) → is_copied kind ≡ true
      → part kind ≡ contribution_by source ranges kind) → lie_inside source ranges ≡ true
      → OffsetsRead source ranges after (part StrOffsets)
      → RowShares source before parts after read row
  unfolding meaning_by
  shares-by after ranges part table is lies copied inside reads =
      let strings = strings-there source.object.order source.encoding
      (first Str source.object.sections) (offsets_by source ranges)
      (λ i. (reads after table (take-length after) i).readable) in
      record {
        unit = record {
          bytes = read.1.unit.whole.bytes;
          contributions = contributions_by (contribution_by source ranges);
          strings = strings.0;
          encoding = source.encoding;
        };
        meaning_is = is ∙ rw (inside, strings.1) refl;
        bytes_are = refl;
        encoding = made.encoding ∙ (whole-else source.encoding before parts).0;
        lie = grind (arith, has-shared, lies, content-with_parts);
        shares = grind (arith, content-with_parts, lies, copied, reads, strings.2);
      }

  -- a plain input
  plain-lies : is_package source.indexes ≡ false
      → SharedLie before parts row (λ kind. joined_parts kind parts)
  plain-lies plain kind shared =
      let whole = contribution_to kind (whole_row source.encoding before parts) in
      let is : whole ≡ contribution_to kind row =
      cc (adjusted-plain source.indexes name kind whole plain, made.parts kind shared) in
      rw (← is, whole-part source.encoding before parts kind shared)
      (lies-whole (content_of kind before) (joined_parts kind parts))

  -- a package
  module _ (test : row_test source.indexes read.1.from name read.1.unit ≡ Ok tt)
      (packed : is_package source.indexes ≡ true) where
    -- it has a row of its own
    own : OwnRow (index_for source.indexes name) read.1.from (own_contribution read.1.unit)
        (identifier_of name)
    unfolding row_test row_of
    own =
        let part = made.parts Abbrev refl in
        grind (arith, test, packed, (adjusted-packed source.indexes name packed Abbrev _ _ part).1)

    each-placed : (kind : SectionKind) → is_shared kind ≡ true → Placed (content_of kind before)
        (joined_parts kind parts) (range_in own.row kind) (contribution_to kind row)
    each-placed kind shared =
        let adjust = adjustor source.indexes kind in
        let by = adjusted-packed source.indexes name packed kind _ _
        (rw (whole-part source.encoding before parts kind shared) at (made.parts kind shared)) in
        let none = range-none own.index own.number own.row kind own.there in
        placed-by _ _ kind (identifier_of name) _ _ (has_column_for kind (own_index adjust name))
        (has_column_for kind (other_index adjust name)) (range-some own.row kind)
        (grind (arith, none, own-index source.indexes kind name, own.is))
        (grind (arith, by.1, by.2, own.found))

    -- its string offsets read alike
    packed-reads : (after : List (List ℕ)) → RowsRead source
        (first StrOffsets source.object.sections) (joined_parts StrOffsets parts) after
        → OffsetsRead source (Some own.row) after
        (part_of (joined_parts StrOffsets parts) (range_in own.row StrOffsets))
    packed-reads after reads final table kept i =
        let none = empty-alike source.object.order source.encoding
        (first Str source.object.sections) (data_of final) i in
        let placed = each-placed StrOffsets refl in
        let some = λ (range : Contribution) (is : range_in own.row StrOffsets ≡ Some range).
        reads.rows own.index (grind (arith, own.is)) own.number own.row range own.there is
        (omega (arith, reads.size, placed.within range is)) (range-some own.row StrOffsets range is)
        final table kept i in
        grind (arith, none, some, placed.within, reads.size, part-inside)

  -- the ranges of a unit that passed the tests lie behind the contents before
  pub row-behind : row_test source.indexes read.1.from name read.1.unit ≡ Ok tt
      → LieBehind before row
  row-behind test kind range is =
      let shared = has-shared kind range is in
      by-bool _ (is_package source.indexes)
      (λ packed. (each-placed test packed kind shared).lies.behind range is)
      (λ plain. (plain-lies plain kind shared).behind range is)

  -- a unit that passed the tests stands in its row, with all that belongs to it
  pub row-shares : (strings after : List (List ℕ)) → IsTable strings → parts_of source strings ≡ Ok
      (parts, after) → row_test source.indexes read.1.from name read.1.unit ≡ Ok tt
      → RowShares source before parts after read row
  unfolding unit_meaning
  row-shares strings after table h test =
      let by = λ (ranges : Option Ranges) (part : SectionKind → List ℕ). shares-by after ranges part
      ((each-brings source _ _ _ h).0.follows table).table in
      by-bool _ (is_package source.indexes) (λ packed. let has = own test packed in
      let placed = each-placed test packed in
      let firsts = parts-first source packed strings parts after h in
      let reads = rows-read source packed strings parts after table h in
      let longs = copied-or-offsets (λ kind. length (first kind source.object.sections) ≡ length
      (joined_parts kind parts)) (λ kind copied. ap length (sym (firsts kind copied)))
      (sym reads.size) in
      let inside = λ (kind : SectionKind) (shared : is_shared kind ≡ true).
      not-outside (first kind source.object.sections) (joined_parts kind parts)
      (range_in has.row kind) (longs kind shared) (placed kind shared).within in
      by (Some has.row) (λ kind. part_of (joined_parts kind parts) (range_in has.row kind))
      (rw (packed, has.placed) refl) (λ kind shared. (placed kind shared).lies)
      (λ kind copied. ap (λ v. part_of v (range_in has.row kind)) (firsts kind copied))
      (grind (arith, inside)) (packed-reads test packed after reads))
      (λ plain. by None (λ kind. joined_parts kind parts) (rw plain refl) (plain-lies plain)
      (parts-copied source strings parts after h) refl
      (parts-read source plain strings parts after table h))
