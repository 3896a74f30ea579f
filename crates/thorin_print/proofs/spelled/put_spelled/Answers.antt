use Rattle.std.proofs.{Common.map-id, Common.take_all, lemmas.Iterator.Consumers.YieldsList-end}
use Rattle.std.proofs.{Common.arith, lemmas.Iterator.YieldsList-from_chars}
use Rattle.thorin_print.proofs.Spelling.{spelled_bytes, spelled_text}
use Rattle.thorin_print.proofs.spelled.put_spelled.Goals as goal

pub returns-in-Ok : goal.returns-in-Ok
returns-in-Ok c =
    let name = c.in-Ok.ensures.cases in
    let all = YieldsList-end (YieldsList-from_chars c.in-Ok.name.now (rw (← name.0) at name.1) cc)
    c.loop-c.yielded _ c.loop-c.yielded_by _ _ c.in-None.is c.next.ensures.steps in
    rw (← spelled_text c.args.form c.args.bytes.now c.in-Ok.name.now name.0 name.1)
    (grind (arith, map-id c.loop-c.yielded, all.0))

pub returns : goal.returns
returns c = rw (← spelled_bytes c.args.form c.args.bytes.now c.in_default.ensures.cases.0)
    (rw (take_all _ _ c.loop-byte-test.false) at c.loop-byte.invariant)
