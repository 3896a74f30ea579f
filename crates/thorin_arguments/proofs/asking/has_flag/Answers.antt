use Rattle.std.proofs.Common.{◌∙◌}
use Rattle.{clap.specs.Words.found_of, thorin_arguments.proofs.Getters.flag_read}
use Rattle.thorin_arguments.proofs.asking.has_flag.Goals as goal

pub returns : goal.returns
returns c = c.unwrap_or.ensures
    ∙ flag_read _ (found_of c.args.matches.now) c.args.name.now c.get_one.result
    c.get_one.ensures.none c.get_one.ensures.value
