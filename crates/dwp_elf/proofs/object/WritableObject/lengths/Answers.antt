use Rattle.std.proofs.{Common.rules, Common.sym, Common.ℕ, lemmas.Iterator.YieldsList-from_slice}
use Rattle.std.proofs.lemmas.Iterator.{items_from_collect, YieldsList-from_map}
use Rattle.{dwp_elf.proofs.Changes.told_lengths, std.specs.Global.Vec}
use Rattle.dwp_base.specs.declared.section.SectionKind.{SectionKind}
use Rattle.dwp_elf.proofs.object.WritableObject.lengths.Goals as goal

pub returns : goal.returns
returns c =
    let xs = c.self.inside.sections.items in
    let told = items_from_collect _ c.collect.ensures.ran (YieldsList-from_map _
    (λ (s : SectionKind × Vec ℕ). s.1.len) (YieldsList-from_slice xs cc) c.map.ensures.closure
    (λ x r q k. search rules)) in
    rw (sym c.self.view_is) (rw (told_lengths xs) at told)
