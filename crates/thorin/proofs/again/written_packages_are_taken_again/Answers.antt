use Rattle.{thorin_again.specs.OneEncoding.AnswersAs, thorin_join.proofs.Terms.units_in}
use Rattle.thorin.proofs.Running.{as-written, read-text}
use Rattle.thorin.proofs.again.written_packages_are_taken_again.Goals as goal

pub returns-clause-again : goal.returns-clause-again
returns-clause-again c accepted state bytes are packs w =
    let laws = c.packages_that_pack_again_are_accepted.ensures in
    let back = read-text state bytes w in
    record {
      file = w.file;
      text = w.text;
      accepted = laws.accepted accepted state w.file are w.tested w.finished packs w.kinds back;
      accepted_by_new =
          laws.accepted_by_new accepted state w.file are w.tested w.finished packs w.kinds back;
    }

pub returns-clause-answers : goal.returns-clause-answers
returns-clause-answers c accepted state bytes are one w =
    as-written state bytes w (AnswersAs (units_in state))
    (c.inputs_of_one_encoding_keep_their_strings.ensures accepted state are one w.file w.tested
    w.finished)
