use Rattle.std.proofs.Common.{inl, rules}
use Rattle.thorin_builder.proofs.package.DwarfPackage.add_and_remember.Goals as goal

pub returns-clause-remembers : goal.returns-clause-remembers
returns-clause-remembers g c = elim c.if-not-is_there.branch [
  | goal.then-not-is_there+in-Some w ↦
      rw (w.self-is, w.again_of.ensures.state, w.taken-is) (w.remember.ensures c.args.bytes.now
      c.add_object_bytes.new.self.state.begun (rw w.in-Some.is at w.again_of.ensures.again))
  | goal.then-not-is_there+in_default w ↦ inl (search (rules, w.taken-is))
  | goal.else-not-is_there w ↦ inl (search (rules, w.taken-is))
]
