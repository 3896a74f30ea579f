use Rattle.thorin_builder.{proofs.Inputs.TakenUpTo, specs.Repeated.AreTaken, specs.Taking.IsUnread}
use Rattle.std.proofs.Common.{length, ◌≡◌}
use Rattle.thorin_builder.proofs.package.DwarfPackage.add_each.Given as goal

-- the units so far were taken; what is known of the path that came last, and of those before
abbrev pub invariant-loop-known : goal.invariant-loop-known
invariant-loop-known g l = TakenUpTo (g.R.InputReader.offer l.reader) l.missing l.fn.units.listed
    l.fn.self.state l.units.listed l.self.state × (l.self.session ≡ l.fn.self.session)
    × IsUnread (g.R.InputReader.offer l.reader l.units.path) l.missing l.known.is_unread
    × AreTaken (g.R.InputReader.offer l.reader) l.known.taken.entries l.self.state.begun

abbrev pub decreases-loop-known : goal.decreases-loop-known
decreases-loop-known g l = length l.units.listed.0
