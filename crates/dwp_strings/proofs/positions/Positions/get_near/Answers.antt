use Rattle.dwp_strings.proofs.Chunks.{counts, piece_read, placed}
use Rattle.dwp_strings.{proofs.positions.Positions.get_near.Goals.After-index, specs.Chunks.pieces}
use Rattle.std.proofs.Common.{arith, get_or, length, sym, ◌-◌, ◌<◌, ◌∙◌, ◌≡◌}
use Rattle.std.{proofs.lemmas.List.get_or_read, specs.List.concat}
use Rattle.dwp_strings.proofs.positions.Positions.get_near.Goals as goal

-- what the rank finds
found : (c : goal.After-index) → (c.args.rank - c.index.result.now < length
    c.index-chunk.result.now.items)
    × (get_or (concat (pieces c.self.inside.chunks.items)) c.args.rank 0
    ≡ get_or c.index-chunk.result.now.items (c.args.rank - c.index.result.now) 0)
found c =
    let items = c.self.inside.chunks.items in
    let place = placed (pieces items) _ c.args.rank c.chunk_of-at.result c.index.result.now
    c.self.invariant.begun (rw c.as_slice.ensures.value at c.chunk_of-at.ensures)
    (grind (arith, get_or_read, c.chunk_of-at.ensures)) (grind (arith, c.self.view_is)) in
    let read = piece_read items c.chunk_of-at.result c.index-chunk.result.now in
    grind (arith, counts, read, place.there, place.inside, place.got, c.self.view_is)

pub index-requires-2 : goal.index-requires-2
index-requires-2 c =
    let found = found (goal.at.index-requires-2 c).After-index in
    omega (arith, found.0, c.index-chunk.result.now.ok.0)

pub returns : goal.returns
returns c =
    let found = found (goal.at.returns c).After-index in
    rw (← c.self.view_is) (get_or_read _ _ _ found.0 c.index-2.ensures 0 ∙ sym found.1)
