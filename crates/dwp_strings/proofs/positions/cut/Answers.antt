use Rattle.{dwp_strings.proofs.positions.cut.Goals.After-index, std.proofs.lemmas.List.get_or_read}
use Rattle.dwp_strings.proofs.Chunks.{halves_begun, halves_short, piece_halved, piece_read}
use Rattle.dwp_strings.proofs.Chunks.{counts, halves_same, length-pieces, start_within}
use Rattle.std.proofs.Common.{[], arith, get_or, length, ◌+◌, ◌/◌, ◌<◌, ◌≡◌}
use Rattle.dwp_strings.specs.Chunks.{IsHalved, pieces}
use Rattle.dwp_strings.proofs.positions.cut.Goals as goal

there : (c : goal.After-index) → c.args.at < length (pieces c.args.chunks.now.items)
there c = omega (arith, length-pieces c.args.chunks.now)

halved : (c : goal.After-index) → IsHalved (pieces c.args.chunks.now.items)
    (pieces c.insert.new.self.items) c.args.at
halved c = piece_halved c.args.chunks.now.items c.args.at c.index_mut-chunk.result.now (grind arith)
    (grind (arith, c.index_mut-chunk.ensures.value)) c.insert.new.self.items c.len-half.result
    c.truncate.new.self c.in_ok-upper.upper (omega arith) c.truncate.ensures.items
    (grind (arith, c.in_ok-upper.ensures.items)) (grind (arith, c.insert.ensures.items))

-- where the second half begins
start : (c : goal.After-index) → c.index.result.now + c.len-half.result / 2
    ≡ get_or c.args.starts.now.items c.args.at 0
    + length (get_or (pieces c.args.chunks.now.items) c.args.at []) / 2
start c =
    let piece = piece_read c.args.chunks.now.items c.args.at c.index_mut-chunk.result.now in
    grind (arith, counts, piece, get_or_read c.args.starts.now.items c.args.at c.index.result.now)

pub overflow_add-start : goal.overflow_add-start
overflow_add-start c =
    let at = (goal.at.overflow_add-start c).After-index in
    let ps = pieces c.args.chunks.now.items in
    let half = length (get_or ps c.args.at []) / 2 in
    grind (arith, start at, there at, start_within ps c.args.at half, c.requires.begun)

pub returns : goal.returns
returns c =
    let after = (goal.at.returns c).After-index in
    let there = there after in
    let halved = halved after in
    record {
      begun = grind (arith, halves_begun _ _ c.args.at there halved, start after);
      same = halves_same _ _ c.args.at there halved;
      short = halves_short _ _ c.args.at there halved c.requires.short;
      halved = halved;
    }
