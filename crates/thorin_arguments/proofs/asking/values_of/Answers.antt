use Rattle.std.proofs.Common.{◌∙◌}
use Rattle.clap.{proofs.WalkLemmas.raw_values-rows, specs.Words.found_of}
use Rattle.thorin_arguments.proofs.asking.values_of.Goals as goal

pub returns : goal.returns
returns c = c.get_strs.ensures ∙ raw_values-rows (found_of c.args.matches.now) c.args.name.now
