use Rattle.std.proofs.Common.{arith, length, List, None, Some, take, [], ℕ, ◌++◌, ◌-◌, ◌∷◌, ◌≡◌}
use Rattle.std.proofs.{Common.sym, lemmas.Grind.common_steps}
use Rattle.thorin_arguments.proofs.Completing.{last_part-cut}
use Rattle.thorin_arguments.proofs.peers.cut_at_last.Goals as goal

before : (mark : ℕ) (text front rest last : List ℕ) → last ≡ rest → text ≡ front ++ mark ∷ rest
    → front ≡ take (length text - length last - 1) text
before mark text front rest last e f = grind (arith, common_steps)

nothing : (text last : List ℕ) → last ≡ text → [] ≡ take (length text - length last - 1) text
nothing text last e = grind (arith, common_steps)

pub returns-in-Some : goal.returns-in-Some
returns-in-Some c =
    let k = last_part-cut c.args.mark c.args.text.now (Some (c.in-Some.front, c.in-Some.last))
    c.requires c.in-Some.ensures.cases in
    record {
      front = before c.args.mark c.args.text.now c.in-Some.front.now c.in-Some.last.now _ k.0 k.1;
      last = sym k.0;
    }

pub returns-in-None : goal.returns-in-None
returns-in-None c =
    let k = last_part-cut c.args.mark c.args.text.now None c.requires c.in-None.ensures.cases in
    record { front = nothing c.args.text.now _ k; last = sym k }
