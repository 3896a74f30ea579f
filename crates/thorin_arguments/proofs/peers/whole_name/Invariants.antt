use Rattle.std.proofs.Common.{drop, false, ◌∷◌, ◌≡◌}
use Rattle.std.specs.{Prelude.filter, Prelude.if◌then◌else◌, Str.IsUtf8}
use Rattle.{clap.specs.Walk.texts, thorin_arguments.specs.Whole.begins}
use Rattle.thorin_arguments.proofs.peers.whole_name.Given as goal

-- those that begin so: the one that was met, and those that are left
abbrev pub invariant-loop-other : goal.invariant-loop-other
invariant-loop-other l = (filter (begins l.name) (texts l.names)
    ≡ (if l.is_begun then l.whole ∷ filter (begins l.name) (texts (drop l.other-index l.names))
    else filter (begins l.name) (texts (drop l.other-index l.names))))
    × (l.is_begun ≡ false → l.whole ≡ l.name) × IsUtf8 l.whole
