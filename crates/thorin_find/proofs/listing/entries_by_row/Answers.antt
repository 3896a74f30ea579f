use Rattle.std.proofs.{Common.rules, lemmas.List.Sorted.answers_always}
use Rattle.thorin_find.specs.Listing.{place_of_line}
use Rattle.thorin_find.proofs.listing.entries_by_row.Goals as goal

pub returns : goal.returns
returns c =
    let from = c.in_ok-entries.ensures in
    record {
      all = rw from at c.sort_by_key.ensures.permutation;
      by_row = c.in_ok-sort_by_key.ensures.sorted place_of_line
          (answers_always _ _ _ (λ f a r g h. search rules));
      by_slot = rw from at (c.sort_by_key.ensures.stable place_of_line
          (answers_always _ _ _ (λ f a r g h. search rules)));
    }
