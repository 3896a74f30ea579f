use Rattle.std.proofs.Common.{arith, length-append, refl, rules, [], ◌++◌, ◌∷◌, ◌≡◌}
use Rattle.std.proofs.lemmas.{List.take_all, List.take_more, Result.err_from_is_err_and}
use Rattle.std.proofs.{KnownBytes.Appends-trans, lemmas.Grind.common_steps}
use Rattle.thorin.specs.declared.packing.Input.{Input, TheVariants.Object}
use Rattle.thorin_commands.proofs.Causes.{refuses_by, stops_at}
use Rattle.thorin_commands.proofs.Warned.{taking_begins, taking_more, unsplit_by}
use Rattle.thorin_commands.proofs.making.fill.Goals as goal

abbrev none : Input
none = Object (record { text = record { ref_ptr = (0, 0); now = [] } })

pub loop-input-init : goal.loop-input-init
loop-input-init g c =
    let none : c.new-lacks.result.items ≡ [] = search rules in
    rw none (record { count = refl; told = taking_begins })

pub loop-input-preserved : goal.loop-input-preserved
loop-input-preserved g c =
    let one = take_more c.args.list.now c.loop-input.input-index none c.loop-input-test.true in
    let more : c.push.new.self.items ≡ c.loop-input.lacks.items ++ c.lack_of-lack.result ∷ [] =
    grind (arith, common_steps) in record {
      count = rw (more, one, length-append, length-append, c.loop-input.invariant.count) refl;
      told = taking_more one more (rw (
        c.saturating_sub-added.ensures,
        c.unit_count.ensures,
        c.unit_count-before.ensures,
      ) at c.lack_of-lack.ensures) c.loop-input.invariant.told
          c.in_ok-take.ensures.took c.in_ok-take.ensures.line;
    }

pub returns-in_err-take-clause-told : goal.returns-in_err-take-clause-told
returns-in_err-take-clause-told g c =
    let p = err_from_is_err_and c.from_residual.result c.from_residual.ensures.1 in
    rw (p.1, p.2) (refuses_by g.E.LineOutput.contents g.E.LineOutput.failed c.take.new.err
    (stops_at c.args.list.now c.loop-input.input-index none c.loop-input-test.true
    c.loop-input.invariant.told.took) c.in_err-take.field-0.0 c.in_err-take.ensures.told)

pub warn_unsplit-requires : goal.warn_unsplit-requires
warn_unsplit-requires g c = rw c.as_slice-lacks.ensures.value (rw (take_all
    c.loop-input.input-index c.args.list.now c.loop-input-test.false) at
    c.loop-input.invariant.count)

pub returns-clause-fills : goal.returns-clause-fills
returns-clause-fills g c =
    let so = rw (take_all c.loop-input.input-index c.args.list.now c.loop-input-test.false) at
    c.loop-input.invariant.told in
    let unsplit = rw c.as_slice-lacks.ensures.value at c.in_ok-warn_unsplit.ensures.lines in
    let left = c.in_ok-leave_out.ensures.lines in record {
      fills = record {
        state = c.loop-input.builder.state;
        took = so.took;
        rest = c.in_ok-leave_out.ensures.left;
      };
      told = record {
        text = so.told.text ++ (unsplit.text ++ left.text);
        is = record {
          taken = so.told.text;
          taken_are = so.told.is.lines;
          unsplit = unsplit.text;
          unsplit_are = unsplit_by c.args.options.warns _ c.args.list.now _ _ unsplit.text
              so.told.is.lacking unsplit.is;
          missing = left.text;
          missing_are = left.is;
          text_is = refl;
        };
        added = Appends-trans _ _ _ so.told.text (unsplit.text ++ left.text) so.told.added
            (Appends-trans _ _ _ unsplit.text left.text unsplit.added left.added);
      };
      names_are = c.in_ok-lines.ensures;
    }
