use Rattle.{std.proofs.Common.rules, thorin_print.proofs.Cuts.is_cut}
use Rattle.thorin_print.proofs.spelled.cut.Goals as goal

pub returns : goal.returns
returns c =
    let f = c.floor_char_boundary-first.ensures in
    let l = c.floor_char_boundary-last.ensures in
    rw (← is_cut c.args.end c.requires.some c.args.text.now _ _ _ _ c.if-text-most.false f.bound
    f.boundary f.nearest l.bound l.boundary l.nearest c.range-front.ensures.value
    c.range_from-back.ensures.value) (search rules)
