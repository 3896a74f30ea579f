use Rattle.{thorin_input.specs.View.part, thorin_join.proofs.Terms.with_parts}
use Rattle.dwp_elf.specs.{FileText.Object, Growing.IsGrown}
use Rattle.std.proofs.Common.{drop, map, ◌≡◌}
use Rattle.thorin_builder.proofs.repeated.put_each.Given as goal

-- the parts that are left, added to what there is, give what all give; and nothing was lost
abbrev pub invariant-loop-part : goal.invariant-loop-part
invariant-loop-part l =
    (record l.file { contents = with_parts (map part (drop l.part-index l.parts)) l.file.contents }
    ≡ record l.fn.file { contents = with_parts (map part l.parts) l.fn.file.contents })
    × ((before : Object) → IsGrown before l.fn.file → IsGrown before l.file)
