use Rattle.{dwp_strings.proofs.Lanes.in_room, std.proofs.lemmas.Grind.elements}
use Rattle.std.proofs.Common.{ap₂, arith, length, refl, ◌++◌, ◌+◌, ◌∙◌}
use Rattle.dwp_strings.proofs.buffer.Buffer.append.Goals as goal

pub returns-then-string-len-clause-ok : goal.returns-then-string-len-clause-ok
returns-then-string-len-clause-ok c =
    let put = c.put_ended.ensures in
    in_room c.self.inside.items c.deref_mut.result.now c.put_ended.new.room c.self.inside.used _
    (length c.args.string.now + 1) c.deref_mut.ensures.len (grind arith)
    (grind (arith, elements, put.long)) refl (grind (arith, elements, put.long))
    ∙ ap₂ (λ a b. a ++ b) (rw c.deref_mut.ensures.value c.self.view_is) put.put
