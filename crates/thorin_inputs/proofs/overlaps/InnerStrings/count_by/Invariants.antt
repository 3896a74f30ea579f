use Rattle.{std.proofs.Common.◌&&◌, std.proofs.Common.◌||◌, thorin_inputs.proofs.Counted.Left}
use Rattle.thorin_inputs.{proofs.Counted.named_from, specs.InnerPlaces.is_counted}
use Rattle.thorin_inputs.specs.InnerStrings.{begins_inside, has_word}
use Rattle.thorin_inputs.proofs.overlaps.InnerStrings.count_by.Given as goal

-- those that are counted and those that words name which are left are all
abbrev pub invariant-loop-number : goal.invariant-loop-number
invariant-loop-number l =
    let it = l.initial.self in
    let strings = it.strings.now in
    Left l.self strings it.file_size (named_from l.order l.step l.offsets strings l.number) (λ at.
    is_counted it at || (has_word l.order l.step l.offsets at && begins_inside strings at))
