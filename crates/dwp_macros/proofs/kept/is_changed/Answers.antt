use Rattle.std.proofs.Common.{◌≡◌, ◌+◌, ◌-◌, sym, ap, ◌∙◌, arith, option_map}
use Rattle.dwp_elf_read.specs.View.{elf, section}
use Rattle.dwp_macros.specs.Kept.{has_macros, is_index}
use Rattle.dwp_macros.proofs.Walks.{any_step, lose_step}
use Rattle.dwp_macros.proofs.kept.is_changed.Goals as goal

pub loop-left-preserved : goal.loop-left-preserved
loop-left-preserved c =
    let j = c.loop-left.left in
    let i = c.loop-left.left - 1 in
    let xs = (elf c.args.file.now).sections in
    let x = section c.in-Some.section in
    let next : j ≡ i + 1 = omega arith in
    let at = sym c.section.ensures.found ∙ ap (option_map section) c.in-Some.is in
    let more = c.loop-left.invariant.more in
    record {
      inside = omega arith;
      more = any_step has_macros xs i j x _ _ next at c.has_macros-macros.ensures more;
      lose = lose_step c.args.kept xs i j x _ next at more _ _ _ c.loop-left.invariant.lose
          c.has_macros-macros.ensures c.go.ensures;
      indexed = any_step is_index xs i j x _ _ next at c.is_index-indexed.ensures
          c.loop-left.invariant.indexed;
    }
