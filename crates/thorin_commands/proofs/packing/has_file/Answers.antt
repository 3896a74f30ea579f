use Rattle.std.{proofs.lemmas.List.take_all, proofs.lemmas.List.take_more, specs.Borrow.Bor}
use Rattle.std.proofs.Common.{[], drop, get_or, inr, List, rules, take, ℕ, ◌+◌, ◌∷◌}
use Rattle.thorin_commands.{proofs.Causes.split_at, specs.Packing.AreApart}
use Rattle.std.proofs.lemmas.List.Elements.{All-append, All-cons, All-nil}
use Rattle.thorin_commands.proofs.packing.has_file.Goals as goal

abbrev none : Bor (List ℕ)
none = record { ref_ptr = (0, 0); now = [] }

pub loop-name-preserved : goal.loop-name-preserved
loop-name-preserved g c =
    let name = get_or c.args.names.now c.loop-name.name-index none in
    let apart = λ (path : Bor (List ℕ)). AreApart (g.F.FileSystem.known c.args.files.now)
    c.args.file.now path.now
    in
    rw (take_more c.args.names.now c.loop-name.name-index none c.loop-name-test.true)
    (All-append apart _ (name ∷ []) c.loop-name.invariant (All-cons apart name [] (inr (
      c.identity-own.result,
      c.identity.result,
      c.identity-own.ensures,
      search (rules, c.identity.ensures),
      search (rules, c.eq.ensures, c.if-eq),
    )) (All-nil apart)))

pub returns-then-eq-clause-leads : goal.returns-then-eq-clause-leads
returns-then-eq-clause-leads g c = λ is. record {
  own = c.identity-own.result;
  is_there = search rules;
  named = c.identity-own.ensures;
  front = take c.loop-name.name-index c.args.names.now;
  path = get_or c.args.names.now c.loop-name.name-index none;
  rest = drop (c.loop-name.name-index + 1) c.args.names.now;
  list_is = split_at c.args.names.now c.loop-name.name-index none c.loop-name-test.true;
  same = search (rules, c.identity.ensures, c.eq.ensures, c.if-eq);
}

pub returns-clause-apart : goal.returns-clause-apart
returns-clause-apart g c = λ none. rw (take_all c.loop-name.name-index c.args.names.now
    c.loop-name-test.false) at c.loop-name.invariant
