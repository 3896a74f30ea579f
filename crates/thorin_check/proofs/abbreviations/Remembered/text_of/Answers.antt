use Rattle.std.proofs.{Common.ap, Common.sym, Common.◌∙◌, lemmas.Map.Views.All-values-insert_entry}
use Rattle.thorin_check.specs.declared.abbreviations.PlaceRead.{PlaceRead}
use Rattle.thorin_check.proofs.Packages.{own_is, places_same}
use Rattle.thorin_check.specs.Remembered.{IsReadIn, own_at}
use Rattle.thorin_check.proofs.abbreviations.Remembered.text_of.Goals as goal

pub returns-then-eq-clause-text : goal.returns-then-eq-clause-text
returns-then-eq-clause-text c =
    let among = c.in-Some.ensures.member in
    let read = rw (← among.1.1) at (c.requires.knows.shared among.0 c.in-Some.read.now among.1.0) in
    let same = places_same _ _ (sym c.eq.ensures ∙ c.if-eq.true) ∙ c.of-place.ensures in
    let is = own_is c.args.pack.now c.args.object c.args.unit.now c.requires.is_found in
    rw (read ∙ ap (own_at c.args.pack.now) same ∙ is) at c.own_fault.ensures

pub returns-then-has_twin-clause-knows : goal.returns-then-has_twin-clause-knows
returns-then-has_twin-clause-knows c =
    let read : PlaceRead = record { place = c.of-place.result; own = c.in_ok-own.own } in
    let is = own_is c.args.pack.now c.args.object c.args.unit.now c.requires.is_found in
    record {
      tables = rw c.read.ensures.kept c.requires.knows.tables;
      shared = rw c.in_ok-insert.ensures.entries (All-values-insert_entry _ _ read
          (IsReadIn c.args.pack.now) _ c.requires.knows.shared (c.in_ok-own.ensures.own
          ∙ sym (ap (own_at c.args.pack.now) c.of-place.ensures ∙ is)));
    }
