use Rattle.thorin_arguments.{proofs.Matched.read, proofs.Matched.unread, specs.Asked.words_in}
use Rattle.{clap.specs.Words.app_of, std.proofs.lemmas.Result.err_from_is_err_and}
use Rattle.thorin_arguments.proofs.reading.read_by.Goals as goal

pub returns : goal.returns
returns c = λ named of is line are. (read named (app_of c.args.command.now) is line
    (words_in c.args.words.now) are c.in_ok-matches.matches c.in_ok-matches.ensures.kinds
    c.in_ok-matches.ensures.ok.2).0 (rw of c.in_ok-tested.ensures)

pub returns-in_err-tested : goal.returns-in_err-tested
returns-in_err-tested c = λ named of is line are.
    let exit = c.from_residual-in_err-tested in
    let p = err_from_is_err_and exit.result exit.ensures.1 in
    rw (p.1, p.2) ((read named (app_of c.args.command.now) is line (words_in c.args.words.now) are
    c.in_ok-matches.matches c.in_ok-matches.ensures.kinds c.in_ok-matches.ensures.ok.2).1
    c.in_err-tested.field-0.0 (rw of c.in_err-tested.ensures))

pub returns-in_err-matches : goal.returns-in_err-matches
returns-in_err-matches c = λ named of is line are.
    let p = err_from_is_err_and c.from_residual.result c.from_residual.ensures.1 in
    rw (p.1, p.2) (unread named (app_of c.args.command.now) is line (words_in c.args.words.now) are
    c.in_err-matches.field-0.0 c.in_err-matches.ensures.kinds)
