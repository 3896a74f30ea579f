use Rattle.std.proofs.{Common.arith, lemmas.Str.Pattern.strip_prefix_char}
use Rattle.clap.proofs.LexerLemmas.{strip_byte-from}
use Rattle.thorin_arguments.proofs.peers.behind_dash.Goals as goal

pub returns : goal.returns
returns c = strip_byte-from 45 c.args.word.now c.strip_prefix.result
    (strip_prefix_char 45 c.args.word.now c.strip_prefix.result c.strip_prefix.ensures.cases
    (omega arith))
