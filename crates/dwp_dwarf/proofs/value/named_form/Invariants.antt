use Rattle.dwp_dwarf.proofs.Terms.{length, named_form_at, ◌≡◌}
use Rattle.dwp_dwarf.proofs.value.named_form.Given as goal

-- the form named so far names the same form in the end
abbrev pub invariant-loop-named : goal.invariant-loop-named
invariant-loop-named g l = named_form_at l.named (g.R.Reader.input l.at) ≡ named_form_at l.form
    (g.R.Reader.input l.fn.at)

abbrev pub decreases-loop-named : goal.decreases-loop-named
decreases-loop-named g l = length (g.R.Reader.input l.at).bytes
