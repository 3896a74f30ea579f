use Rattle.dwp_elf.specs.{Contents.appended, Contents.contents_of, Growing.with_bytes}
use Rattle.dwp_elf.proofs.Changes.{is_grown-with_bytes, KindsDiffer-appended, of_kind}
use Rattle.std.proofs.Common.{arith, None, refl, rules, sym, ◌≡◌}
use Rattle.std.proofs.lemmas.Grind.{common_steps}
use Rattle.dwp_elf.proofs.object.WritableObject.append_moved.Goals as goal

pub invariant_of-self-in-None : goal.invariant_of-self-in-None
invariant_of-self-in-None c =
    let none = of_kind c.args.kind c.self.inside.sections.items None
    (rw c.deref.ensures.value at c.in-None.ensures) in
    let added : contents_of c.push.new.self.items ≡ appended c.args.kind
    c.args.bytes.items (contents_of c.self.inside.sections.items) =
    grind (arith, common_steps, none.added) in
    rw added (KindsDiffer-appended _ _ _ c.self.invariant)

pub returns-in_ok-map_err-in-None : goal.returns-in_ok-map_err-in-None
returns-in_ok-map_err-in-None c =
    let none = of_kind c.args.kind c.self.inside.sections.items None
    (rw c.deref.ensures.value at c.in-None.ensures) in
    let added : contents_of c.push.new.self.items ≡ with_bytes c.args.kind
    c.args.bytes.items (contents_of c.self.inside.sections.items) =
    grind (arith, common_steps, none.added) in
    record {
      nothing = λ empty. absurd (omega arith);
      place = grind (arith, common_steps, none.content);
      contents = rw (sym c.self.view_is) (rw added refl);
      grown = λ before. rw (sym c.self.view_is) (is_grown-with_bytes before _ _ c.args.kind
          c.args.bytes.items (rw added refl));
      refused = search rules;
      unchanged = search rules;
    }
