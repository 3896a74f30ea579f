use Rattle.dwp_strings.proofs.Chunks.{kept_within, length-pieces, piece_changed, short_filter}
use Rattle.dwp_strings.proofs.Chunks.{chunked_all, counts, kept_all, kept_more, pieces-set}
use Rattle.std.proofs.Common.{List, arith, filter, length, nat_lt, rules, ℕ, ◌+◌, ◌<◌, ◌≡◌}
use Rattle.std.proofs.lemmas.{Fn.filter_same, Grind.get_or-set_at}
use Rattle.dwp_strings.specs.Chunks.{pieces}
use Rattle.dwp_strings.proofs.positions.keep_all.Goals as goal

pub loop-at-preserved : goal.loop-at-preserved
loop-at-preserved c =
    let chunks = c.loop-at.chunks in
    let keep : List ℕ → List ℕ = filter (λ p. nat_lt p c.args.limit) in
    let there : c.loop-at.at < length chunks.items =
    grind (arith, length-pieces, c.loop-at.invariant.long, chunks.ok.0) in
    let kept : c.retain.new.self.items ≡ keep c.index_mut-chunk.result.now.items =
    filter_same _ (λ p. nat_lt p c.args.limit) _ (λ x b f' called. search rules) _ _
    c.retain.ensures.filtered in
    let changed = piece_changed chunks.items c.loop-at.at c.index_mut-chunk.result.now there
    c.index_mut-chunk.ensures.value c.retain.new.self keep kept in
    kept_more _ _ _ _ _ _ c.loop-at.invariant _ _ (omega arith) changed
    (grind (arith, pieces-set, counts, get_or-set_at, there, c.retain.new.self.ok.0))

pub overflow_add-total : goal.overflow_add-total
overflow_add-total c =
    let within = kept_within (λ p. nat_lt p c.args.limit) (pieces c.args.chunks.now.items)
    (c.loop-at.at + 1) in
    omega (arith, (loop-at-preserved c).counted, within, c.requires.small)

pub returns-clause-kept : goal.returns-clause-kept
returns-clause-kept c = kept_all _ _ _ _ _ _ c.loop-at.invariant (omega arith)

pub returns-clause-chunked : goal.returns-clause-chunked
returns-clause-chunked c = chunked_all _ _ _ _ _ _ c.loop-at.invariant (omega arith)
    (short_filter (λ p. nat_lt p c.args.limit) (pieces c.args.chunks.now.items) c.requires.short)
