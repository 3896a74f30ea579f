use Rattle.thorin_index.{proofs.Held.rows_fit, specs.Entries.offset_or_0, specs.Entries.size_or_0}
use Rattle.std.proofs.{Common.codes, Common.refl, lemmas.Result.on_ok_weaker}
use Rattle.thorin_index.proofs.index_writer.test_entries.Goals as goal

pub returns-clause-offsets : goal.returns-clause-offsets
returns-clause-offsets c = on_ok_weaker c.test_each-3.result
    (λ _. rows_fit offset_or_0 (codes "contribution offset") c.args.rows.now refl
    c.in_ok-test_each-2.ensures.passed) c.test_each-3.ensures.passed

pub returns-clause-sizes : goal.returns-clause-sizes
returns-clause-sizes c = on_ok_weaker c.test_each-3.result (rows_fit size_or_0
    (codes "contribution size") c.args.rows.now refl) c.test_each-3.ensures.passed
