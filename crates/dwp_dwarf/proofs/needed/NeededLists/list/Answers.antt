use Rattle.dwp_dwarf.proofs.{Places.put_keeps, Terms.ListsNeeded}
use Rattle.dwp_dwarf.proofs.needed.NeededLists.list.Goals as goal

pub returns-then-put : goal.returns-then-put
returns-then-put g c = λ said is old. put_keeps (ListsNeeded said) c.args.self.now.by_key
    c.put.new.map c.args.key c.in-Some.list c.put.result
    (record { declared = _; is = is; listed = c.in-Some.ensures }) c.put.ensures.added
    c.put.ensures.others c.put.ensures.refused old
