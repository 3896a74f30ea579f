use Rattle.dwp_dwarf.proofs.Places.{if_both, others_beside, others_here, value_beside, value_here}
use Rattle.{dwp_dwarf.proofs.Terms.◌∙◌, std.proofs.lemmas.Option.IfSome_then}
use Rattle.dwp_dwarf.proofs.versions.+insert_below.Goals as goal

pub returns-then-key-eq0-clause-value : goal.returns-then-key-eq0-clause-value
returns-then-key-eq0-clause-value t c = IfSome_then c.add.result c.add.ensures.node
    (λ added now. value_here _ _ added _ _ c.if-levels-eq0.false c.if-key-eq0.true c.requires now)

pub returns-then-key-eq0-clause-others : goal.returns-then-key-eq0-clause-others
returns-then-key-eq0-clause-others t c = if_both c.add.result (λ added above now.
    others_here c.args.levels c.args.nodes.now.items c.add.new.nodes.items c.args.version added
    c.args.key c.args.value c.copy_of-node.result c.if-levels-eq0.false c.if-key-eq0.true
    (rw c.deref.ensures.value at c.copy_of-node.ensures) c.add.ensures.grows above now)
    c.add.ensures.above c.add.ensures.node

pub returns-clause-value : goal.returns-clause-value
returns-clause-value t c = if_both c.add-2.result (λ added above now. value_beside
    _ c.args.version added _ _ c.copy_of-node.result c.if-levels-eq0.false c.if-key-eq0.false
    (rw c.deref.ensures.value at c.copy_of-node.ensures) c.insert_below.ensures.grows
    c.add-2.ensures.grows c.in_ok-side.ensures.fits above (rw c.with_side.ensures at now)
    (rw c.half.ensures at c.in_ok-side.ensures.value)) c.add-2.ensures.above c.add-2.ensures.node

pub returns-clause-others : goal.returns-clause-others
returns-clause-others t c = if_both c.add-2.result
    (λ added above now. others_beside _ c.args.version added _ _ c.copy_of-node.result
    c.if-levels-eq0.false c.if-key-eq0.false (rw c.deref.ensures.value at c.copy_of-node.ensures)
    c.insert_below.ensures.grows c.add-2.ensures.grows c.in_ok-side.ensures.fits above
    (rw c.with_side.ensures at now) (λ k apart. rw c.side.ensures at (c.in_ok-side.ensures.others k
    (λ e. apart (e ∙ c.half.ensures))))) c.add-2.ensures.above c.add-2.ensures.node
