use Rattle.{std.proofs.Common.take, thorin_c.specs.Packing.Accepts}
use Rattle.thorin_c.proofs.packing.add_all.Given as goal

-- the inputs so far are accepted
abbrev pub invariant-loop-number : goal.invariant-loop-number
invariant-loop-number l = Accepts (take l.number l.inputs) l.initial.builder.state l.builder.state
