use Rattle.thorin_strings.proofs.Remapping.{entry_is, kept_more, one_written, read_fitting}
use Rattle.dwp_base.specs.declared.endian.Endianness.TheVariants.{Little}
use Rattle.std.proofs.Common.{arith, ◌∙◌}
use Rattle.thorin_strings.proofs.table.PackageStringTable.write_told.Goals as goal

pub loop-index-preserved : goal.loop-index-preserved
loop-index-preserved c = record {
  further = omega (arith, c.loop-index.invariant.further);
  within = omega arith;
  read = c.word_at-after.ensures;
  told = λ old front so_far. one_written c.args.range.now.encoding c.requires.form
      c.args.range.now.strings.now c.args.range.now.offsets.now _ c.loop-index.index _
      front old c.loop-index.self c.guessed_offset.new.self c.loop-index.out _
      (omega (arith, c.string_offsets_header_size-first.ensures))
      (entry_is Little _ _ _ _ _ _ c.loop-index.invariant.read
      ∙ read_fitting c.args.range.now.encoding.format _ _ _ _ _ c.in-Some.ensures.meaning
      (rw c.requires.form (omega (arith, c.in-Some.ensures.fits))))
      c.write_word.ensures.written (c.loop-index.invariant.told old front so_far);
  kept = kept_more _ _ _ c.loop-index.invariant.kept c.guessed_offset.ensures.kept;
}
