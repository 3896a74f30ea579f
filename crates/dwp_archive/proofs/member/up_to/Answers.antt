use Rattle.std.proofs.Common.{ap, arith, length, None, Some, sym, take, take_all, ℕ, ◌∙◌}
use Rattle.dwp_base.proofs.Finds.{first_at}
use Rattle.dwp_archive.proofs.member.up_to.Goals as goal

pub returns-in-Some : goal.returns-in-Some
returns-in-Some c = c.split_at.ensures.front ∙ ap (λ (n : ℕ). take n c.args.bytes.now)
    (sym (first_at c.args.end c.args.bytes.now (Some c.in-Some.n) c.in-Some.ensures))

pub returns-in-None : goal.returns-in-None
returns-in-None c = sym (take_all (length c.args.bytes.now) c.args.bytes.now (omega arith))
    ∙ ap (λ (n : ℕ). take n c.args.bytes.now)
    (sym (first_at c.args.end c.args.bytes.now None c.in-None.ensures))
