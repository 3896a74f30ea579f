use Rattle.dwp_bytes.specs.Input.{section}
use Rattle.std.proofs.Common.{ap, arith, drop, rules, take, ◌∙◌, ◌≡◌}
use Rattle.{std.proofs.lemmas.Grind.common_steps, thorin_identity.proofs.Parts.part_within}
use Rattle.dwp_bytes.specs.contracts.slice.SliceReaderReader.TheImpl as reader
use Rattle.thorin_identity.proofs.ranges.RangeTables.identifier.Goals as goal

pub returns-else-eq-2-clause-meaning : goal.returns-else-eq-2-clause-meaning
returns-else-eq-2-clause-meaning c =
    let inside = c.self.inside in
    let range = c.within-range.result in
    let part = c.or_all-part.result in
    let held : reader.input-value.it c.if-ne.self-inside.cache
    ≡ section inside.order (drop part.begin (take part.end inside.bytes.now)) =
    first_of (grind (arith, common_steps), search rules) in
    let same =
    part_within inside.order inside.bytes.now part.begin range.begin range.end part.end _
    c.or_all-part.ensures.begin c.within-range.ensures.order c.or_all-part.ensures.end held
    ∙ ap (section inside.order) c.within-range.ensures.same in
    search (rules, same, c.dwo_identifier_in_range.ensures.meaning)
