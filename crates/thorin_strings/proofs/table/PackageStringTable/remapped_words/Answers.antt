use Rattle.thorin_strings.proofs.table.PackageStringTable.remapped_words.Goals.{After-write_told-index}
use Rattle.std.proofs.{Common.length, lemmas.List.with_items_is, lemmas.Result.err_from_is_err_and}
use Rattle.{dwp_base.specs.declared.endian.Endianness.TheVariants.Little, std.specs.Vec.with_items}
use Rattle.std.proofs.Common.{ap, append-nil, length-append, length-drop, length-take, sym}
use Rattle.std.proofs.Common.{arith, Ok, refl, take, take_all, [], ◌*◌, ◌+◌, ◌<◌, ◌∙◌, ◌≡◌, ◌≤◌}
use Rattle.thorin_strings.proofs.table.PackageStringTable.remapped_words.Goals.{After-len-first}
use Rattle.thorin_strings.proofs.Remapping.{read_fitting, remapped_refuses}
use Rattle.thorin_strings.proofs.Remapping.{entry_is, header_long, kept_more, one_written}
use Rattle.thorin_strings.specs.StringOffsets.{remapped_entries, remapped_entry}
use Rattle.dwp_bytes.specs.{Encoding.offset_size, StringOffsets.header_size}
use Rattle.thorin_strings.specs.{Known.AreKnown, Written.AreWritten}
use Rattle.thorin_strings.proofs.table.PackageStringTable.remapped_words.Goals as goal

is_first : (c : goal.After-len-first) → c.len-first.result ≡ header_size c.args.range.now.encoding
is_first c = grind (arith, c.len-first.ensures, header_long Little c.args.range.now.encoding)

fits : (c : goal.After-len-first) → c.len-first.result + c.string_offsets_count-count.result * 4
    ≤ length c.args.range.now.offsets.now
fits c = grind (arith, is_first c, c.string_offsets_count-count.ensures)

pub slice_bounds-append_by_pieces-end : goal.slice_bounds-append_by_pieces-end
slice_bounds-append_by_pieces-end c =
    omega (arith, fits (goal.at.slice_bounds-append_by_pieces-end c).After-len-first)

pub loop-index-init : goal.loop-index-init
unfolding remapped_entries
loop-index-init c =
    let at = (goal.at.loop-index-init c).After-len-first in
    let first = is_first at in
    record {
      within = omega arith;
      first = first;
      kept = take_all _ c.args.self.now (omega arith);
      so_far = record { offsets = []; entries = refl; written = grind (arith, first, append-nil) };
      long = grind (arith, length-append, length-take, length-drop, fits at);
      known = c.requires.known;
    }

-- so many entries are written before the next, and that is in the range
written : (c : goal.After-write_told-index) → AreWritten c.args.range.now.encoding
    c.args.range.now.strings.now c.args.range.now.offsets.now c.write_told-index.result
    (take c.len-first.result c.append_by_pieces.new.out.items) c.args.self.now
    c.write_told-index.new.self c.write_told-index.new.out
    × (c.write_told-index.result < c.string_offsets_count-count.result)
written c =
    let long = ap length c.deref_mut.ensures.value ∙ c.loop-index.invariant.long in (
      c.write_told-index.ensures.told _ _ (rw c.deref_mut.ensures.value
          c.loop-index.invariant.so_far),
      omega (arith, c.write_told-index.ensures.here, c.loop-index.invariant.first),
    )

pub returns-in_err-offset-in-None-clause-meaning : goal.returns-in_err-offset-in-None-clause-meaning
returns-in_err-offset-in-None-clause-meaning c =
    let residual = c.from_residual-in_err-offset-in-None in
    let was = err_from_is_err_and residual.result residual.ensures.1 in
    let at = goal.at.returns-in_err-offset-in-None-clause-meaning c in
    let so = written at.After-write_told-index in
    let same = c.dwarf32-encoding.ensures in
    let range = c.args.range.now in
    let entry = entry_is Little range.encoding range.strings.now range.offsets.now
    c.write_told-index.result c.word_at-named.result c.write_told-index.new.self
    (rw same at c.word_at-named.ensures) in
    rw (was.1, was.2) (λ other. remapped_refuses _ _ _ _ _ _ _ _ _ so.0.entries
    (entry ∙ rw (c.in-None.ensures.none, ← c.requires.form) at
    (c.in_err-offset-in-None.ensures.meaning other)) _ _ 4 _
    (rw same at c.string_offsets_count-count.ensures) (sym (ap offset_size c.requires.form))
    (omega arith) (omega (arith, ap header_size same)) (rw same at c.in_ok-out.ensures) so.1)

pub loop-index-preserved : goal.loop-index-preserved
loop-index-preserved c =
    let old = c.loop-index.out in
    let so = written (goal.at.loop-index-preserved c).After-write_told-index in
    let long : length c.write_told-index.new.out ≡ old.len =
    c.write_told-index.ensures.long ∙ c.deref_mut.ensures.len in
    let value = c.deref_mut-in-loop-index.ensures.value
    ∙ with_items_is old c.write_told-index.new.out long in
    let long_now : length c.write_word.new.out ≡ old.len =
    c.write_word.ensures.long ∙ ap length value ∙ long in
    let same = c.dwarf32-encoding.ensures in
    let range = c.args.range.now in
    let before = c.write_told-index.new.self in
    let new = c.match-other_offset.self in
    let is = entry_is Little range.encoding range.strings.now range.offsets.now
    c.write_told-index.result c.word_at-named.result before (rw same at c.word_at-named.ensures) in
    let now : (remapped_entry Little range.encoding range.strings.now range.offsets.now
    c.write_told-index.result before ≡ Ok (c.match-other_offset.offset, new))
    × (take (length before) new ≡ before)
    × AreKnown range.strings.now new c.match-other_offset.repeats = (
      grind (arith, c.match-other_offset.branch, c.requires.form, is, read_fitting),
      grind (arith, c.match-other_offset.branch, c.other_offset.ensures.kept),
      grind (arith, c.match-other_offset.branch, c.other_offset.ensures.known),
    ) in
    rw (with_items_is (with_items old c.write_told-index.new.out) c.write_word.new.out long_now)
    (record {
      within = omega (arith, so.1);
      first = c.loop-index.invariant.first;
      kept = kept_more _ _ _ (kept_more _ _ _ c.loop-index.invariant.kept
          c.write_told-index.ensures.kept) now.1;
      so_far = one_written _ c.requires.form _ _ _ c.write_told-index.result
          c.match-other_offset.offset _ _ _ _ c.write_told-index.new.out _
          (omega (arith, c.loop-index.invariant.first)) now.0
          (rw value at c.write_word.ensures.written) so.0;
      long = long_now ∙ old.ok.0 ∙ c.loop-index.invariant.long;
      known = now.2;
    })
