use Rattle.{std.specs.Map.lookup, thorin_inputs.specs.Repetitions.File}
use Rattle.thorin_inputs.proofs.Counted.{file_tests, noted_at}
use Rattle.std.proofs.Common.{ap, Bool, ◌∙◌}
use Rattle.thorin_inputs.proofs.growth.Repetitions.note.Goals as goal

pub returns-clause-before : goal.returns-clause-before
returns-clause-before c =
    let file : File = (c.in-Some.device, c.in-Some.number, c.args.size) in
    rw (c.in-Some.is, ← c.self.view_is) (c.in_ok-insert.ensures.old
    ∙ ap (λ (is : File → File → Bool). lookup (is file) c.self.inside.files.entries) file_tests)

pub returns-clause-noted : goal.returns-clause-noted
returns-clause-noted c =
    rw (c.in-Some.is, ← c.self.view_is)
    (noted_at c.self.inside.files c.insert.new.self _ c.self.inside.input
    c.in_ok-insert.ensures.updates)
