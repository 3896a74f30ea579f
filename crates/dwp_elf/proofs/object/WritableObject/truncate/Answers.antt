use Rattle.dwp_elf.proofs.Changes.{count_of-truncated, length-contents_of, truncated-contents_of}
use Rattle.dwp_elf.specs.{Contents.contents_of, Contents.truncated, Object.object_of}
use Rattle.dwp_elf.proofs.Changes.{cut_all, cut_more, truncated-begins}
use Rattle.std.proofs.Common.{ap, arith, refl, sym, ◌∙◌, ◌≡◌}
use Rattle.std.proofs.lemmas.Grind.{common_steps}
use Rattle.dwp_elf.proofs.object.WritableObject.truncate.Goals as goal

pub loop-number-preserved : goal.loop-number-preserved
loop-number-preserved c = grind (arith, common_steps, cut_more, length-contents_of)

pub invariant_of-self : goal.invariant_of-self
invariant_of-self c =
    let is : contents_of c.loop-number.self-inside.sections.items ≡ truncated
    (contents_of c.self.inside.sections.items) c.args.sizes.now =
    grind (arith, common_steps, length-contents_of, cut_all, truncated-contents_of) in
    rw is (λ k. omega (
      arith,
      c.self.invariant k,
      count_of-truncated k (contents_of c.self.inside.sections.items) c.args.sizes.now,
    ))

pub returns : goal.returns
returns c =
    let is : contents_of c.loop-number.self-inside.sections.items ≡ truncated
    (contents_of c.self.inside.sections.items) c.args.sizes.now =
    grind (arith, common_steps, length-contents_of, cut_all, truncated-contents_of) in
    let whole : object_of c.loop-number.self-inside ≡ record (object_of c.self.inside) {
      contents = truncated (contents_of c.self.inside.sections.items) c.args.sizes.now;
    } = ap object_of c.loop-number.invariant.others ∙ rw is refl in
    record {
      cut = rw (sym c.self.view_is) whole;
      taken_back = λ before grown same.
          let inside = rw (sym c.self.view_is) at grown in
          let begins = truncated-begins before.contents _ inside.contents in
          whole ∙ rw (same, begins, inside.class, inside.machine, inside.order) refl;
    }
