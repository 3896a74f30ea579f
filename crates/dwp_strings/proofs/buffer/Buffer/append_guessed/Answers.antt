use Rattle.std.proofs.Common.{ap₂, arith, refl, ◌++◌, ◌+◌, ◌∙◌}
use Rattle.dwp_strings.proofs.Lanes.{in_room, same_fronts}
use Rattle.std.proofs.lemmas.Grind.{elements}
use Rattle.dwp_strings.proofs.buffer.Buffer.append_guessed.Goals as goal

pub returns-clause-appended : goal.returns-clause-appended
returns-clause-appended c = λ is.
    let copy = c.if-not-copy_ended.ensures in
    let room = c.if-not-has_room.ensures in
    in_room c.has_room.new.items c.deref_mut.result.now c.copy_ended.new.room c.self.inside.used _
    (c.args.end + 1) c.deref_mut.ensures.len (grind arith) (grind (arith, elements, copy.long)) refl
    (grind (arith, elements, copy.long))
    ∙ ap₂ (λ a b. a ++ b) (rw c.deref_mut.ensures.value (room.kept ∙ c.self.view_is))
    (same_fronts _ _ (c.args.end + 1) (grind (arith, elements, copy.long)) (omega arith)
    (λ k less. copy.copied refl k (omega arith)))
