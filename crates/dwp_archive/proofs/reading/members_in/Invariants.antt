use Rattle.std.proofs.Common.{map, [], ◌-◌, ◌≡◌}
use Rattle.dwp_archive.{proofs.Entering.behind, specs.Members.members_from, specs.View.member}
use Rattle.dwp_archive.proofs.reading.members_in.Given as goal

-- those so far and those that are left are all
abbrev pub invariant-loop : goal.invariant-loop
invariant-loop l = behind (map member l.members.items) (members_from (l.most - l.counter) l.names
    l.rest) ≡ members_from l.most [] l.entries
