use Rattle.std.proofs.Common.{length, string_bytes, ◌≡◌}
use Rattle.thorin_executable.specs.{Paths.IsKept, Skeletons.skeletons_from, View.data_of}
use Rattle.{dwp_dwarf.specs.Sections.strings_of, dwp_units.specs.Units.units_left}
use Rattle.thorin_executable.proofs.listing.next_named.Given as goal

-- the units so far stand for none, and the path that came last stays
abbrev pub invariant-loop-read : goal.invariant-loop-read
invariant-loop-read g l =
    (skeletons_from l.nameless (data_of g.R.Reader.input l.debug)
    (units_left g.R.Reader.input l.headers)
    ≡ skeletons_from l.nameless (data_of g.R.Reader.input l.debug)
    (units_left g.R.Reader.input l.fn.headers)) × (l.abbreviations ≡ l.debug.debug_abbrev)
    × (string_bytes l.last.text ≡ string_bytes l.fn.last.text)
    × IsKept (strings_of g.R.Reader.input l.debug.strings) l.last

abbrev pub decreases-loop-read : goal.decreases-loop-read
decreases-loop-read g l = length (units_left g.R.Reader.input l.headers)
