use Rattle.thorin_index.specs.EntryTests.{each, encoding_test}
use Rattle.std.proofs.Common.{drop, ◌≡◌}
use Rattle.thorin_index.proofs.index_writer.test_encodings.Given as goal

-- what is left has the first error of all
abbrev pub invariant-loop-position : goal.invariant-loop-position
invariant-loop-position l = each (encoding_test l.encoding) (drop l.position l.rows) ≡ each
    (encoding_test l.encoding) l.rows
