use Rattle.{dwp_strings.specs.Chunks.pieces, std.proofs.lemmas.List.get_or_read}
use Rattle.dwp_strings.proofs.Chunks.{IsInHalf, counts, halves_room, in_half}
use Rattle.std.proofs.Common.{arith, length, rules, ◌<◌, ◌∙◌}
use Rattle.dwp_strings.proofs.positions.room_at.Goals.{In_ok-cut}
use Rattle.dwp_strings.proofs.positions.room_at.Goals as goal

there : (c : goal.In_ok-cut) → c.chunk_of-at.result < length (pieces c.args.chunks.now.items)
there c = grind (arith, counts)

half : (c : goal.In_ok-cut) → IsInHalf c.cut.new.starts.items c.args.rank c.chunk_of-at.result
half c = in_half _ _ c.chunk_of-at.result (there c) c.in_ok-cut.ensures.halved c.deref.result.now _
    c.args.rank (c.deref.ensures.value ∙ c.requires.begun) c.chunk_of-at.ensures c.cut.ensures.begun

pub index-requires-2 : goal.index-requires-2
index-requires-2 c = omega (arith, (half c).there, c.cut.new.starts.ok.0)

pub returns-then-rank-index : goal.returns-then-rank-index
returns-then-rank-index c =
    let after = (goal.at.returns-then-rank-index c).In_ok-cut in
    let half = half after in
    let at = half.first (omega (arith, get_or_read _ _ _ half.there c.index-2.ensures 0)) in
    let room = (halves_room _ _ c.chunk_of-at.result (there after) c.in_ok-cut.ensures.halved
    c.requires.short).0 in
    search rules

pub returns-else-rank-index : goal.returns-else-rank-index
returns-else-rank-index c =
    let after = (goal.at.returns-else-rank-index c).In_ok-cut in
    let half = half after in
    let at = half.second (omega (arith, get_or_read _ _ _ half.there c.index-2.ensures 0)) in
    let room = (halves_room _ _ c.chunk_of-at.result (there after) c.in_ok-cut.ensures.halved
    c.requires.short).1 in
    search rules
