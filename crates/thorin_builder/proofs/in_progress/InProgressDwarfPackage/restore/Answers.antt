use Rattle.dwp_table.specs.declared.object.DebugTypeSignature.{DebugTypeSignature}
use Rattle.thorin_join.proofs.Terms.{DwarfObject, IndexEntry}
use Rattle.std.proofs.Common.{ap, length, rules, ℕ, ◌∙◌}
use Rattle.std.specs.List.{take-map}
use Rattle.thorin_builder.proofs.in_progress.InProgressDwarfPackage.restore.Goals as goal

pub invariant_of-self : goal.invariant_of-self
invariant_of-self c =
    let id : IndexEntry → DwarfObject = λ row. row.id in
    let named = take-map id c.args.mark.now.rows c.args.self.now.rows in
    grind (rules, named, c.args.self.now.named, c.truncate-5.ensures.keys, c.truncate-3.ensures)

pub returns : goal.returns
returns c before h m =
    let old = c.args.self.now in
    let file = c.truncate.ensures.taken_back before.file h.file
    (c.deref.ensures.value ∙ ap (λ a. a.lengths) m) in
    let signature : DebugTypeSignature → ℕ = λ s. s.0 in
    let differing = take-map signature (length before.differing) old.differing.items in
    let cut = c.truncate-4.ensures.items in
    grind (rules, file, h, m, c.truncate-2.ensures, c.truncate-3.ensures, cut, differing)
