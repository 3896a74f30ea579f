use Rattle.{thorin.proofs.Running.each-taken, thorin_c.specs.Packing.bytes_of}
use Rattle.std.proofs.Common.{ap, inr, length, refl, rules, sym, ◌<◌, ◌∙◌}
use Rattle.thorin_join.specs.{Builder.start, Represents.units_in}
use Rattle.std.proofs.lemmas.List.{length-map}
use Rattle.thorin_c.proofs.packing.package_of.Goals as goal

pub returns-in-Ok-clause-packed : goal.returns-in-Ok-clause-packed
returns-in-Ok-clause-packed c = rw c.packs_again-packs_again.ensures.exact (record {
  state = c.add_all.new.builder.state;
  accepted = rw c.new-builder.ensures.state at c.in_default.ensures.accepted;
  written = c.in-Ok.ensures.writes;
  package_of = c.in-Ok.ensures.packaged;
  differ = sym (length-map c.differing_types.result.now (λ s. s.0))
      ∙ ap length c.differing_types.ensures;
  packs = refl;
})

pub returns-in-Ok-clause-again : goal.returns-in-Ok-clause-again
returns-in-Ok-clause-again c = λ yes.
    let inputs = bytes_of c.args.inputs.now in
    let state = c.add_all.new.builder.state in
    let accepted = rw c.new-builder.ensures.state at c.in_default.ensures.accepted in record {
      units = units_in state;
      joined = accepted.joined;
      again = c.written_packages_are_taken_again.ensures.again inputs state c.in-Ok.file.items
          (each-taken inputs start state accepted.taken)
          (sym c.packs_again-packs_again.ensures.exact ∙ yes) c.in-Ok.ensures.writes;
    }

pub returns-in-Err-written-clause-refused : goal.returns-in-Err-written-clause-refused
returns-in-Err-written-clause-refused c =
    let some : 0 < length c.args.inputs.now = search rules in
    inr (
      search rules,
      record {
        state = c.add_all.new.builder.state;
        accepted = rw c.new-builder.ensures.state at c.in_default.ensures.accepted;
        refused = c.in-Err-written.ensures.writes;
        memory = λ e. some;
      },
    )
