use Rattle.std.proofs.Common.{ap, Bool, false, refl, true, ◌∙◌, ◌≡◌}
use Rattle.thorin_commands.proofs.Causes.{all_joined, by_outcome, err_by, finishing, refuses_by}
use Rattle.thorin_commands.proofs.Warned.{none_began, not_taken_no, printed_as}
use Rattle.thorin_commands.{proofs.Causes.taking, specs.Opened.left}
use Rattle.thorin_join.specs.{Builder.differing_in, Builder.State, Represents.units_in}
use Rattle.{std.proofs.lemmas.Result.IfOk-weaker, thorin_commands.specs.Packing.declines}
use Rattle.thorin_commands.proofs.making.packed_inputs.Goals as goal

-- a package without the list of units that executables refer to has the same units, also those
-- that differ
same_left : (partial : Bool) (state : State) → (units_in (left partial state) ≡ units_in state)
    × (differing_in (left partial state) ≡ differing_in state)
same_left true state = (refl, refl)
same_left false state = (refl, refl)

pub returns-in-Ok-clause-made : goal.returns-in-Ok-clause-made
returns-in-Ok-clause-made g c =
    let filled = rw c.new-builder.ensures.state at c.in-Ok.ensures.fills in
    let took = filled.fills.took in
    let state = filled.fills.state in
    let done = c.fill.new.builder.state in
    let partial = c.args.options.partial in
    let now : done ≡ left partial state = filled.fills.rest in
    let units : units_in done ≡ units_in state =
    ap units_in now ∙ (same_left partial state).0 in
    let differ : differing_in done ≡ differing_in state =
    ap differing_in now ∙ (same_left partial state).1 in
    IfOk-weaker c.finished.result _ _ (λ made its. record {
      packed = record {
        state = state;
        took = took;
        joined = all_joined c.runs_go_on.ensures.joined took;
        tested = rw now at its.0;
        finished = rw now at its.1;
        package_of = rw units at its.2;
      };
      told = rw its.5 filled.told;
      differ = its.3 ∙ differ;
      names_are = rw its.4 filled.names_are;
    }) c.finished.ensures.made

pub returns-in-Ok-clause-tried : goal.returns-in-Ok-clause-tried
returns-in-Ok-clause-tried g c =
    let filled = rw c.new-builder.ensures.state at c.in-Ok.ensures.fills in
    by_outcome c.finished.result _ (λ refusal is e.
    rw ((rw is at c.finished.ensures.empty) e) (printed_as (λ x t. record {
      state = filled.fills.state;
      took = filled.fills.took;
      unbegun = none_began (rw (is, e, filled.fills.rest) at c.finished.ensures.told);
      tells = t;
    }) filled.told))

pub returns-in-Ok-clause-told : goal.returns-in-Ok-clause-told
returns-in-Ok-clause-told g c =
    let filled = rw c.new-builder.ensures.state at c.in-Ok.ensures.fills in
    err_by g.E.LineOutput.contents g.E.LineOutput.failed c.finished.new.err
    (finishing {declines = declines c.args.inputs.now.packing.now
    (g.F.FileSystem.offer c.args.inputs.now.files.now)} c.args.options.partial
    c.args.list.now c.fill.new.builder.state filled.fills) c.finished.result c.finished.ensures.told

pub returns-clause-tried : goal.returns-clause-tried
returns-clause-tried g c = λ e.
    let stops = rw e at c.in-Err.ensures.told in
    absurd (not_taken_no stops.input stops.state _ stops.refused _ refl)

pub returns-clause-told : goal.returns-clause-told
returns-clause-told g c = refuses_by g.E.LineOutput.contents g.E.LineOutput.failed c.fill.new.err
    (taking c.args.options.partial c.args.list.now) c.in-Err.refusal
    (rw c.new-builder.ensures.state at c.in-Err.ensures.told)
