use Rattle.std.proofs.lemmas.Iterator.{Consumers.YieldsList-end, YieldsList-from_chars}
use Rattle.{std.proofs.Common.map-id, thorin_words.specs.Printed.printed}
use Rattle.thorin_words.proofs.printing.printed.Goals as goal

pub returns : goal.returns
unfolding printed
returns c =
    let all = YieldsList-end (YieldsList-from_chars c.args.text.now c.utf8.text cc)
    c.loop-c.yielded _ c.loop-c.yielded_by _ _ c.in-None.is c.next.ensures.steps in
    cc (map-id c.loop-c.yielded)
