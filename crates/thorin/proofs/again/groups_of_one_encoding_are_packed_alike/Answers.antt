use Rattle.{thorin.specs.Again.HasCommonEncoding, thorin_again.specs.Again.HaveEncodingOf}
use Rattle.std.proofs.lemmas.List.Elements.{All-head, All-tail}
use Rattle.thorin.proofs.Running.{as-written, each-taken}
use Rattle.thorin_join.proofs.Terms.{units_in, [], ◌∷◌}
use Rattle.thorin_join.specs.Builder.{start}
use Rattle.thorin.proofs.again.groups_of_one_encoding_are_packed_alike.Goals as goal

pub returns-clause-encodings : goal.returns-clause-encodings
returns-clause-encodings c [] [] each all = tt
returns-clause-encodings c (group ∷ groups) (bytes ∷ files) each all =
    let state = each.0.state in
    let w = each.0.written in
    let here = All-head HasCommonEncoding group groups all in (
      as-written state bytes w (λ b. HaveEncodingOf b (units_in state))
          (c.packages_have_the_encoding_of_their_inputs.ensures here.0 group state
          (each-taken group start state each.0.taken) here.1 w.file w.finished),
      returns-clause-encodings c groups files each.1 (All-tail HasCommonEncoding group groups all),
    )
returns-clause-encodings c _ _ each all = absurd each

pub returns-clause-joined : goal.returns-clause-joined
returns-clause-joined c groups file packed all =
    c.groups_are_packed_alike.ensures.joined groups file packed
    (returns-clause-encodings c groups packed.packages packed.each all)
