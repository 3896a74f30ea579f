-- What the getters of the matches give, by their rows.
use Rattle.std.proofs.Common.{ap, Bool, codes, false, None, Option, refl, Some, sym, true, ◌∙◌, ◌≡◌}
use Rattle.std.specs.{Option.option_map_or, Prelude.unwrap_or, Str.bytes_eq, Str.Parse.ParsesBool}
use Rattle.std.proofs.{lemmas.Bool.false_from_ne_true, lemmas.Slice.Eq.bytes_eq-Decides}
use Rattle.clap.specs.{Matches.one_text, Matches.ReadsOne, Walk.rows_of, Walk.Text}
use Rattle.clap.{proofs.WalkLemmas.one_text-rows, specs.declared.parser.matches.Found.Found}
use Rattle.thorin_arguments.specs.Flags.{is_set}

abbrev is_true : Text → Bool
is_true text = bytes_eq text (codes "true")

by_text : (E : Type 0) (t : Text) (r : Option Bool) → ReadsOne {T = Bool} {E = E} ParsesBool t r
    → unwrap_or r false ≡ is_true t
by_text E t (Some true) h = rw h refl
by_text E t (Some false) h = rw h refl
by_text E t None h = sym (false_from_ne_true (is_true t)
    (λ e. h.1.0 ((bytes_eq-Decides t (codes "true")).0 e)))

-- a flag, as it is read as a truth value
pub flag_read : (E : Type 0) (f : Found) (id : Text) (r : Option Bool)
    → (one_text f id ≡ None → r ≡ None)
    → ((t : Text) → one_text f id ≡ Some t → ReadsOne {T = Bool} {E = E} ParsesBool t r)
    → unwrap_or r false ≡ is_set (rows_of f) id
flag_read E f id r none some = go (one_text f id) refl
    ∙ ap (λ (o : Option Text). option_map_or is_true o false) (one_text-rows f id)
  where
    go : (o : Option Text) → one_text f id ≡ o
        → unwrap_or r false ≡ option_map_or is_true (one_text f id) false
    go None e = rw (none e, e) refl
    go (Some t) e = rw e (by_text E t r (some t e))
