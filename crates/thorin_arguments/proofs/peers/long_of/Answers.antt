use Rattle.clap.specs.Lexer.{long_of, long_of_rest, name_and_value, strip_byte}
use Rattle.std.proofs.Common.{ap, arith, false, length, List, None, Some, sym, [], ℕ, ◌∙◌, ◌∷◌, ◌≡◌}
use Rattle.std.{proofs.lemmas.Str.Pattern.split_parts, specs.Prelude.option_and_then}
use Rattle.{clap.proofs.LexerLemmas.name_and_value-without, std.proofs.Common.◌==◌}
use Rattle.thorin_arguments.proofs.peers.long_of.Goals as goal

behind_dashes : (word first rest : List ℕ) → Some first ≡ strip_byte 45 word
    → Some rest ≡ strip_byte 45 first → (length rest == 0) ≡ false
    → name_and_value rest ≡ (rest, None) → Some (rest, None) ≡ long_of word
behind_dashes word first [] e f some is = absurd cc
behind_dashes word first (x ∷ xs) e f some is =
    sym (ap (λ o. option_and_then long_of_rest (option_and_then (strip_byte 45) o)) (sym e)
    ∙ (ap (option_and_then long_of_rest) (sym f) ∙ ap Some is))

pub returns-in-None : goal.returns-in-None
returns-in-None c =
    let rest = c.in_ok-rest.rest.now in
    let lacks = split_parts 61 rest None c.in-None.ensures.cases (omega arith) in
    behind_dashes c.args.word.now c.in_ok-behind_dash.field-0.now rest
    c.in_ok-behind_dash.ensures c.in_ok-rest.ensures (sym c.is_empty.ensures ∙ c.if-is_empty.false)
    (name_and_value-without rest lacks)
