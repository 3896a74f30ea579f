use Rattle.std.proofs.Common.{ap, rules, subst, ◌∙◌}
use Rattle.thorin_errors.specs.Answers.{Gives}
use Rattle.thorin_identity.specs.Identity.{numbered_identity, root_identity}
use Rattle.{dwp_dwarf.specs.Attributes.entry_of, thorin_identity.proofs.Parts.numbered_is}
use Rattle.thorin_identity.proofs.identity.root_identifier.Goals as goal

pub returns-clause-meaning : goal.returns-clause-meaning
unfolding root_identity
returns-clause-meaning g c =
    let named = subst (Gives (λ name. name) c.numbered_identifier.result)
    (ap (λ number. numbered_identity (c.entry-entry.result.tag, number)) c.number_read.ensures
    ∙ numbered_is (entry_of g.R.Reader.input c.entry-entry.result))
    c.numbered_identifier.ensures.meaning in
    search rules
