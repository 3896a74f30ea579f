use Rattle.{thorin_builder.specs.Repeated.Remembers, thorin_input.proofs.NewUnitLemmas.either_way}
use Rattle.std.proofs.Common.{inl, inr, rules, string_bytes, ◌≡◌}
use Rattle.thorin_builder.proofs.executables.remember.Goals as goal

pub returns-in-Ok : goal.returns-in-Ok
returns-in-Ok c = λ bytes begun adds.
    let at : string_bytes c.in-Ok.key ≡ c.args.path.now = search (rules, c.in-Ok.ensures.ok) in
    either_way c.insert.result _ _ (Remembers bytes begun c.args.path.now c.args.taken.now.entries
    c.insert.new.self.entries) c.insert.ensures.entries c.insert.ensures.err
    (λ is. inr (c.in-Ok.key, c.args.again, at, adds, is)) (λ same. inl (search (rules, same)))
