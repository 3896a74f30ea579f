use Rattle.std.proofs.Common.{ap, rules, sym, ◌∙◌}
use Rattle.thorin_input.proofs.NewUnitLemmas.{AreNumbered, not_added, numbered_last, numbered_still}
use Rattle.thorin_input.proofs.NewUnitLemmas.{added_last, either_way}
use Rattle.dwp_table.specs.declared.object.DwarfObject.{DwarfObject}
use Rattle.thorin_input.specs.{NewUnits.with_first, NewUnits.with_unit, UnitView.adding_of}
use Rattle.indexmap.proofs.CallerLemmas.{insert_entry-new}
use Rattle.thorin_input.proofs.held.NewUnits.add_unit.Goals as goal

pub invariant_of-self-2 : goal.invariant_of-self-2
invariant_of-self-2 c =
    let rows = c.args.self.now.rows.items in
    let more = c.share.new.entries.items in
    let units = c.args.self.now.units.entries in
    let last = insert_entry-new _ c.args.self.now.units c.args.name _
    (not_added (adding_of c.args.adding.now).held rows units c.args.name
    (sym (rw c.in-None-default.is-0 at c.kept_bytes-kept.ensures))) in
    record {
      numbered = either_way c.insert.result _ _
          (AreNumbered more c.insert.new.self.entries) c.insert.ensures.entries c.insert.ensures.err
          (λ entries. rw (entries ∙ last) (numbered_last rows more c.share.ensures.kept
          units c.args.self.now.numbered _ _ c.in_ok-row_number.ensures.there)) (λ same.
          rw same (numbered_still rows more c.share.ensures.kept units c.args.self.now.numbered));
    }

pub returns : goal.returns
unfolding with_first with_unit
returns c =
    let rows = c.args.self.now.rows.items in
    let units = c.args.self.now.units.entries in
    let last = insert_entry-new _ c.args.self.now.units c.args.name _
    (not_added (adding_of c.args.adding.now).held rows units c.args.name
    (sym (rw c.in-None-default.is-0 at c.kept_bytes-kept.ensures))) in
    let added = added_last rows c.share.new.entries.items c.share.ensures.kept units
    c.args.self.now.numbered _ _ c.in_ok-row_number.ensures.there c.in_ok-row.row
    c.insert.new.self.entries (ap (λ (name : DwarfObject). record c.in_ok-row.row { id = name })
    (sym c.in_ok-row.ensures.name)) (c.in_ok-insert.ensures.entries ∙ last) in
    rw (added, c.place_for-place.ensures) (search rules)
