use Rattle.thorin.specs.Groups.{bytes_in, taken_each}
use Rattle.thorin_join.{proofs.Terms.drop, proofs.Terms.◌≡◌, specs.Builder.start}
use Rattle.thorin.proofs.groups.pack_alone.Given as goal

-- what comes of the inputs that are left comes of all
abbrev pub invariant-loop-input : goal.invariant-loop-input
invariant-loop-input g l = taken_each (bytes_in (drop l.input-index l.inputs)) l.builder.state
    ≡ taken_each (bytes_in l.inputs) start
