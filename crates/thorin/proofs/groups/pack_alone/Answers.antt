use Rattle.std.proofs.{Common.get_or, Common.IfOk, lemmas.List.at_drop_more, lemmas.List.drop_all}
use Rattle.thorin_join.proofs.Terms.{bind-ok, drop, Err, inl, inr, [], ◌+◌, ◌<◌, ◌>>=◌, ◌∙◌, ◌≡◌}
use Rattle.thorin_join.specs.{Builder.start, Builder.State, Builder.taken, Join.IsPackageOf}
use Rattle.{dwp_base.proofs.Steps.bind-err, std.proofs.Common.Bor, thorin.specs.Run.Writes}
use Rattle.thorin_join.proofs.Terms.{length, List, Ok, refl, sym, units_in, ℕ}
use Rattle.thorin.specs.Groups.{bytes_in, PacksAlone, taken_each}
use Rattle.thorin.proofs.Running.{each-taken, taken-joins}
use Rattle.thorin.proofs.groups.pack_alone.Goals as goal

abbrev none : Bor (List ℕ)
none = record { ref_ptr = (0, 0); now = [] }

-- the first of the inputs that are left is taken
next-input : (inputs : List (Bor (List ℕ))) (i : ℕ) (state : State) → i < length inputs
    → taken_each (bytes_in (drop i inputs)) state
    ≡ (taken (get_or inputs i none).now state >>= taken_each (bytes_in (drop (i + 1) inputs)))
unfolding taken_each
next-input inputs i state = at_drop_more (λ l. taken_each (bytes_in l) state) inputs i none

pub loop-input-init : goal.loop-input-init
loop-input-init g c = rw c.new-builder.ensures.state refl

pub loop-input-preserved : goal.loop-input-preserved
loop-input-preserved g c =
    let next = next-input c.args.inputs.now c.loop-input.input-index c.loop-input.builder.state
    c.loop-input-test.true in
    sym (next ∙ bind-ok _ _ _ c.in_default.ensures.meaning) ∙ c.loop-input.invariant

pub returns-in-Err : goal.returns-in-Err
returns-in-Err g c =
    let next = next-input c.args.inputs.now c.loop-input.input-index c.loop-input.builder.state
    c.loop-input-test.true in
    λ aside. inl
    (sym c.loop-input.invariant ∙ next ∙ bind-err _ _ _ (c.in-Err.ensures.meaning aside))

pub returns : goal.returns
unfolding taken_each
returns g c =
    let all = bytes_in c.args.inputs.now in
    let state = c.loop-input.builder.state in
    let are = sym (rw (drop_all c.loop-input.input-index c.args.inputs.now
    c.loop-input-test.false) at c.loop-input.invariant) in
    let joined = (taken-joins all start state tt (each-taken all start state are)).1 in
    elim c.written-file.result.0 as (λ r. Writes (λ file. file.items) state r
    → IfOk r (λ file. IsPackageOf (units_in state) file.items)
    → PacksAlone (λ file. file.items) all r) [
      | Ok file ↦ λ w p.
          record { state = state; taken = are; joined = joined; written = w; package_of = p }
      | Err e ↦ λ w p aside. inr (record { state = state; taken = are; refused = w aside })
    ] c.written-file.ensures.writes c.written-file.ensures.packaged
