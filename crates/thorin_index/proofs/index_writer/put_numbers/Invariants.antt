use Rattle.thorin_index.specs.IndexText.{numbers_bytes}
use Rattle.std.proofs.Common.{take, ◌++◌, ◌≡◌}
use Rattle.thorin_index.proofs.index_writer.put_numbers.Given as goal

abbrev pub invariant-loop-number : goal.invariant-loop-number
invariant-loop-number l = l.out.items ≡ l.initial.out.items ++ numbers_bytes l.order
    (take l.number-index l.numbers)
