-- The rows that units get, put together of the contributions that are read for each kind of
-- section.
use Rattle.dwp_base.proofs.Steps.{bind-err, bind-ok, each-read}
use Rattle.dwp_base.specs.ByKind.{ReadsEach, value_of, values_of}
use Rattle.dwp_base.specs.{declared.by_kind.ByKind.ByKind, Sections.all_kinds, Sections.rank_of}
use Rattle.dwp_base.specs.{declared.section.SectionKind.SectionKind, Reading.Answers, Reading.◌>>=◌}
use Rattle.dwp_base.{proofs.EveryKind.same-each, specs.declared.section.Contribution.Contribution}
use Rattle.dwp_dwarf.proofs.Terms.{ap, by-bool, Ok, ◌∙◌, ◌≡◌}
use Rattle.dwp_dwarf.proofs.Terms.{cond, Encoding, Err, None, Option, refl, Result, slice_get, Some}
use Rattle.dwp_elf.specs.Growing.{Contents, contribution_put}
use Rattle.dwp_table.specs.declared.object.DwarfObject.{DwarfObject, TheVariants.Compilation}
use Rattle.thorin_index.specs.Entries.{contribution_to, entry_by}
use Rattle.thorin_input.specs.Rows.{EndFits, EndsFit, unit_contribution, unit_row, whole_row}
use Rattle.thorin_input.specs.{Format.is_shared, Indexes.Indexes, Parts.joined_parts}
use Rattle.{dwp_base.proofs.KindsRead.answers-each, std.proofs.lemmas.Option.get_or_from_slice_get}
use Rattle.{std.proofs.Common.map-id, thorin_index.specs.declared.entry.IndexEntry.IndexEntry}
use Rattle.{thorin_errors.specs.Errors.ErrorValue, thorin_input.specs.Adjusting.adjusted}

-- where whole sections come to lie: the row of what is known of the range of each kind
pub whole-row : (encoding : Encoding) (before parts : Contents)
    (ranges : ByKind (Option Contribution)) → ((kind : SectionKind) → (range : Option Contribution)
    × (slice_get (values_of ranges) (rank_of kind) ≡ Some range)
    × (range ≡ cond (is_shared kind) (contribution_put kind (joined_parts kind parts) before) None)
    × EndFits range)
    → (row : IndexEntry) → row ≡ entry_by encoding (Compilation (record { 0 = 0 }))
    (value_of None (values_of ranges)) → (row ≡ whole_row encoding before parts) × EndsFit row
unfolding whole_row
whole-row encoding before parts ranges read row is =
    let range = value_of None (values_of ranges) in
    let of = entry_by encoding (Compilation (record { 0 = 0 })) in
    let there : (kind : SectionKind) → range kind ≡ (read kind).0 = λ kind.
    get_or_from_slice_get (values_of ranges) (rank_of kind) (read kind).0 None (read kind).1 in (
      is ∙ (λ i. of (λ kind. (there kind ∙ (read kind).2) i)),
      rw is (λ kind shared.
          let each = same-each (λ k. cond (is_shared k) (contribution_to k (of range)) None)
          (λ k. cond (is_shared k) (range k) None) refl kind in
          rw (rw shared at each, there kind) (read kind).3),
    )

-- ---- a unit's row

-- where an input has no index
pub plain-row : (indexes : Indexes) (whole : IndexEntry) (name : DwarfObject) → indexes.compilations
    ≡ None → indexes.types ≡ None → unit_row indexes whole name ≡ Ok (record whole { id = name })
unfolding unit_row adjusted
plain-row indexes whole name compilations types = bind-ok _ _ (λ ranges.
    Ok (entry_by whole.encoding name (value_of None ranges))) (each-read (λ kind. unit_contribution
    indexes name kind (contribution_to kind whole)) (λ kind. contribution_to kind whole) (λ kind.
    by-bool _ (is_shared kind) (λ e. rw (e, compilations, types) refl) (λ e. rw e refl)) all_kinds)

module _ (indexes : Indexes) (whole : IndexEntry) (name : DwarfObject) where
  abbrev range : SectionKind → Result (Option Contribution) ErrorValue
  range kind = unit_contribution indexes name kind (contribution_to kind whole)

  -- what a call answered for a kind is what the definition says
  abbrev pub RangeRead : SectionKind → Result (Option Contribution) ErrorValue → Type 0
  RangeRead kind r = Answers (λ range. range) r (range kind)

  abbrev of_ranges : ByKind (Option Contribution) → Result IndexEntry ErrorValue
  of_ranges ranges = Ok (entry_by whole.encoding name (value_of None (values_of ranges)))

  pub row-read : (ranges : Result (ByKind (Option Contribution)) ErrorValue)
      → ReadsEach RangeRead ranges → unit_row indexes whole name ≡ (ranges >>= of_ranges)
  unfolding unit_row
  row-read (Ok ranges) read = bind-ok _ (values_of ranges) (λ values. Ok (entry_by whole.encoding
      name (value_of None values))) (answers-each (λ range. range) range RangeRead
      (λ kind r h. h) (Ok ranges) read ∙ ap Ok (map-id (values_of ranges)))
  row-read (Err e) read = bind-err _ e (λ values. Ok (entry_by whole.encoding name
      (value_of None values))) (answers-each (λ range. range) range RangeRead (λ kind r h. h)
      (Err e) read)
