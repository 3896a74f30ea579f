use Rattle.std.proofs.Common.{append-nil, arith, length, Ok, refl, sym, take, [], ◌∙◌, ◌≡◌}
use Rattle.thorin_strings.proofs.Remapping.{read_fitting, remapped_refuses, rewritten_more}
use Rattle.thorin_strings.proofs.Remapping.{entry_absent, entry_is, entry_was, kept_more}
use Rattle.thorin_strings.specs.StringOffsets.{remapped_entries, remapped_entry}
use Rattle.std.proofs.{Common.take_all, lemmas.Result.err_from_is_err_and}
use Rattle.thorin_strings.specs.Known.{AreKnown}
use Rattle.thorin_strings.proofs.table.PackageStringTable.remapped.Goals as goal

pub loop-index-init : goal.loop-index-init
unfolding remapped_entries
loop-index-init c = record {
  kept = take_all _ c.args.self.now (omega arith);
  so_far = ([], refl, sym (append-nil c.reserve.new.self.items));
  known = c.requires.known;
}

pub returns-in-None-clause-meaning : goal.returns-in-None-clause-meaning
returns-in-None-clause-meaning c = λ other.
    let absent = entry_absent c.args.order c.args.encoding c.args.range.now.strings.now
    c.args.range.now.offsets.now c.loop-index.index c.loop-index.self cc in
    remapped_refuses _ _ _ _ _ _ _ _ _ c.loop-index.invariant.so_far.1 absent
    _ _ _ _ c.string_offsets_count-count.ensures c.offset_size-entry_size.ensures
    (omega arith) (omega arith) c.in_ok-out.ensures (omega arith)

pub returns-in_err-offset-in-None-offset_told-clause-meaning :
    goal.returns-in_err-offset-in-None-offset_told-clause-meaning
returns-in_err-offset-in-None-offset_told-clause-meaning c =
    let residual = c.from_residual-in_err-offset-in-None-offset_told in
    let was = err_from_is_err_and residual.result residual.ensures.1 in
    let range = c.args.range.now in
    let entry = entry_is c.args.order c.args.encoding range.strings.now range.offsets.now
    c.loop-index.index c.in-Some.named c.loop-index.self
    (entry_was c.args.order c.args.encoding range.offsets.now c.loop-index.index c.in-Some.named
    cc) in
    rw (was.1, was.2) (λ other. remapped_refuses _ _ _ _ _ _ _ _ _ c.loop-index.invariant.so_far.1
    (entry ∙ rw c.in-None-offset_told.ensures.none at
    (c.in_err-offset-in-None-offset_told.ensures.meaning other))
    _ _ _ _ c.string_offsets_count-count.ensures c.offset_size-entry_size.ensures
    (omega arith) (omega arith) c.in_ok-out.ensures (omega arith))

pub loop-index-preserved : goal.loop-index-preserved
loop-index-preserved c =
    let old = c.loop-index.self in
    let new = c.match-offset_told.self in
    let range = c.args.range.now in
    let entry = entry_was c.args.order c.args.encoding range.offsets.now c.loop-index.index
    c.in-Some.named cc in
    let is = entry_is c.args.order c.args.encoding range.strings.now range.offsets.now
    c.loop-index.index c.in-Some.named old entry in
    let now : (remapped_entry c.args.order c.args.encoding range.strings.now range.offsets.now
    c.loop-index.index old ≡ Ok (c.match-offset_told.offset, new))
    × (take (length old) new ≡ old) × AreKnown range.strings.now new c.match-offset_told.repeats = (
      grind (arith, c.match-offset_told.branch, is, read_fitting),
      grind (arith, c.match-offset_told.branch, c.offset_told.ensures.kept),
      grind (arith, c.match-offset_told.branch, c.offset_told.ensures.known),
    ) in
    record {
      kept = kept_more _ _ _ c.loop-index.invariant.kept now.1;
      so_far = rewritten_more _ _ _ _ _ _ _ _ _ _ _ _ c.loop-index.invariant.so_far now.0
          c.in_ok-push_offset.ensures;
      known = now.2;
    }
