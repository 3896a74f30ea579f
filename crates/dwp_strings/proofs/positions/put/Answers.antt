use Rattle.dwp_strings.proofs.Chunks.{piece_changed, piece_unchanged}
use Rattle.std.proofs.Common.{arith, insert}
use Rattle.dwp_strings.proofs.positions.put.Goals as goal

pub returns-in_err-insert-clause-err : goal.returns-in_err-insert-clause-err
returns-in_err-insert-clause-err c =
    grind (arith, piece_unchanged c.args.chunks.now.items c.args.at c.index_mut-chunk.result.now)

pub returns-clause-ok : goal.returns-clause-ok
returns-clause-ok c = piece_changed c.args.chunks.now.items c.args.at c.index_mut-chunk.result.now
    (omega (arith, c.args.chunks.now.ok.0)) c.index_mut-chunk.ensures.value c.insert.new.self
    (λ l. insert l c.args.place c.args.position) c.in_ok-insert.ensures.items
