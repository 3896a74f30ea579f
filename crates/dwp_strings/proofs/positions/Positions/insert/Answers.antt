use Rattle.dwp_strings.proofs.Chunks.{chunk_inserted, length-starts_from, raised, start_within}
use Rattle.dwp_strings.{proofs.Chunks.placed, specs.Chunks.IsChunked, specs.Chunks.pieces}
use Rattle.std.proofs.lemmas.List.{get_or_default, get_or_read, with_items_is}
use Rattle.std.proofs.Common.{ap, arith, insert, length, sym, ◌+◌, ◌∙◌, ◌≡◌}
use Rattle.std.{proofs.lemmas.Grind.common_steps, specs.List.concat}
use Rattle.dwp_strings.proofs.positions.Positions.insert.Goals.{After-raise}
use Rattle.dwp_strings.proofs.positions.Positions.insert.Goals as goal

pub put-requires-clause-within : goal.put-requires-clause-within
put-requires-clause-within c = (placed _ _ _ _ _ c.in_ok-at.ensures.begun c.in_ok-at.ensures.at
    (get_or_read _ _ _ c.in_ok-at.ensures.at.there c.index.ensures 0)
    (omega (arith, ap length (c.in_ok-at.ensures.same ∙ c.self.view_is)))).high

pub raise-requires-clause-small : goal.raise-requires-clause-small
raise-requires-clause-small c =
    let whole = ap length (c.in_ok-at.ensures.same ∙ c.self.view_is) in
    rw (c.deref_mut.ensures.value, c.in_ok-at.ensures.begun) (λ i d less.
    let start = start_within (pieces c.room_at.new.chunks.items) i 0 in
    grind (arith, whole, c.requires.small, get_or_default, length-starts_from, start))

inserted : (c : goal.After-raise) → (concat (pieces c.put.new.chunks.items)
    ≡ insert (concat (pieces c.room_at.new.chunks.items)) c.args.rank c.args.position)
    × IsChunked (pieces c.put.new.chunks.items) c.raise.new.starts (c.self.inside.len + 1)
inserted c =
    chunk_inserted _ c.room_at.new.starts.items _ _ _ c.in_ok-at.ensures.begun
    c.in_ok-at.ensures.at (get_or_read _ _ _ c.in_ok-at.ensures.at.there c.index.ensures 0)
    (omega (arith, ap length (c.in_ok-at.ensures.same ∙ c.self.view_is))) _ _ _ _
    (c.self.invariant.counted ∙ ap length (sym c.in_ok-at.ensures.same)) c.in_ok-put.ensures.ok
    (c.raise.ensures ∙ ap (raised (c.in_ok-at.at + 1)) c.deref_mut.ensures.value)
    c.in_ok-at.ensures.short c.in_ok-at.ensures.room

pub invariant_of-self-2 : goal.invariant_of-self-2
invariant_of-self-2 c =
    rw (with_items_is c.room_at.new.starts c.raise.new.starts (grind (arith, common_steps)))
    (inserted (goal.at.invariant_of-self-2 c).After-raise).1

pub returns-clause-ok : goal.returns-clause-ok
returns-clause-ok c =
    (inserted (goal.at.returns-clause-ok c).After-raise).0 ∙ ap (λ l.
    insert l c.args.rank c.args.position) (c.in_ok-at.ensures.same ∙ c.self.view_is)
