use Rattle.thorin_join.proofs.Terms.{arith, Encoding, List, Ok, subst, sym, units_in, ℕ, ◌≡◌}
use Rattle.thorin_again.specs.Again.{HaveEncodingOf, input_encoding, MeansWhereTaken}
use Rattle.thorin_again.specs.{OneEncoding.IsOfEncoding, PlainInputs.IsPlainOf}
use Rattle.thorin_join.proofs.{Files.finished-is, Joined.input-keeps}
use Rattle.thorin_join.specs.{Builder.start, Builder.taken, Join.IsPackageOf}
use Rattle.thorin.proofs.Running.{as-written, read-text, taken-joins}
use Rattle.thorin_again.proofs.Lists.{begun-now}
use Rattle.thorin.proofs.again.refused_packages_mean_what_is_read.Goals as goal

pub returns-clause-taken : goal.returns-clause-taken
returns-clause-taken c accepted state bytes before after are w have other took =
    let units = units_in state in
    let sound = (taken-joins accepted start state tt are).0 in
    let j = (input-keeps bytes before.begun after.begun other
    (begun-now bytes before after took)).joins in
    record {
      meant = j.units;
      meaning = j.meaning;
      same = as-written state bytes w (λ b. HaveEncodingOf b units → MeansWhereTaken units b)
          (c.written_packages_mean_their_units.ensures state w.file sound w.tested w.finished)
          have before after took j.units j.meaning;
      package_of = as-written state bytes w (IsPackageOf units)
          (finished-is state w.file sound w.tested w.finished);
    }

-- plain inputs of an encoding are inputs of this encoding
plain-encoding : (encoding : Encoding) (bytes : List ℕ) → IsPlainOf encoding bytes
    → IsOfEncoding encoding bytes
unfolding input_encoding
plain-encoding encoding bytes p = (λ file object e h k l. grind (arith, p), λ e h. grind (arith, p))

pub returns-clause-own : goal.returns-clause-own
returns-clause-own c accepted state bytes are packs w =
    let plain = (c.plain_objects_pack_again.ensures accepted state are).0 packs in
    let have = as-written state bytes w (λ b. HaveEncodingOf b (units_in state))
    (c.packages_have_the_encoding_of_their_inputs.ensures plain.encoding accepted state are
    (λ k d within. plain-encoding plain.encoding _ (plain.plain k d within)) w.file w.finished) in
    let again = c.packages_that_pack_again_are_accepted.ensures.accepted_by_new accepted state
    w.file are w.tested w.finished packs w.kinds (read-text state bytes w) in
    returns-clause-taken c accepted state bytes start again.after are w have tt
    (subst (λ b. taken b start ≡ Ok again.after) (sym w.text) again.is)
