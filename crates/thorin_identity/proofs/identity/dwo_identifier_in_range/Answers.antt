use Rattle.dwp_units.specs.Units.{unit_of}
use Rattle.std.proofs.Common.{ap, drop, rules, subst, take, ◌≡◌}
use Rattle.thorin_identity.specs.Identity.{identity, part_between}
use Rattle.{thorin_errors.specs.Answers.Gives, thorin_identity.proofs.Parts.root_alike}
use Rattle.thorin_identity.proofs.identity.dwo_identifier_in_range.Goals as goal

pub returns-in-None-clause-meaning : goal.returns-in-None-clause-meaning
unfolding identity
returns-in-None-clause-meaning g c =
    let input = g.R.Reader.input in
    let whole = input c.args.debug_abbrev.now in
    let part = part_between c.args.start c.args.end whole in
    let same : (input c.section.result).bytes ≡ whole.bytes =
    search (rules, c.section.ensures, c.offset_within.ensures.kept) in
    let held : (input c.part_of.result).bytes ≡ part.bytes =
    rw c.part_of.ensures (ap (λ bytes. drop c.args.start (take c.args.end bytes)) same) in
    let meant = subst (Gives (λ name. name) c.root_identifier.result)
    (root_alike (input c.part_of.result) part (unit_of input c.args.header.now) held)
    c.root_identifier.ensures.meaning in
    search (rules, meant)
