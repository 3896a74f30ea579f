use Rattle.std.proofs.Common.{List, map, refl, rules, tests, [], ◌∙◌, ◌≡◌}
use Rattle.std.proofs.lemmas.Iterator.{Search.any_from_yields_List, YieldsList-from_slice}
use Rattle.std.specs.Prelude.{None, Option, option_map, Some, unwrap_or}
use Rattle.{clap.proofs.WalkLemmas.list_any-map, thorin_arguments.specs.Wrong.lacks_mark}
use Rattle.{clap.specs.Walk.Text, std.specs.Borrow.Bor, std.specs.List.list_any}
use Rattle.thorin_arguments.proofs.reading.lack_marks.Goals as goal

in_values : (o : Option (Bor (List (Bor Text)))) (none : Bor (List (Bor Text))) → none.now ≡ []
    → list_any (λ v. lacks_mark v.now) (unwrap_or o none).now
    ≡ list_any lacks_mark (unwrap_or (option_map (λ s. map (λ v. v.now) s.now) o) [])
in_values (Some s) none e = list_any-map lacks_mark (λ (v : Bor Text). v.now) s.now
in_values None none e = rw e refl

pub returns : goal.returns
returns c = any_from_yields_List (λ (v : Bor Text). lacks_mark v.now) _ _ _ c.any.ensures.ran
    (YieldsList-from_slice c.unwrap_or.result.now cc) (λ x b q k. search (rules, tests))
    ∙ rw (c.unwrap_or.ensures, ← c.values_of.ensures) (in_values c.values_of.result _ refl)
