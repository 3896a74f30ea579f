-- What comes of reading words by the grammar.
use Rattle.clap.specs.declared.error.kind.ErrorKind.TheVariants as kinds
use Rattle.std.proofs.Common.{ap, Bool, inl, inr, refl, sym, true, [], ℕ, ◌↔◌, ◌∙◌, ◌≡◌, ◌≢◌, ◌⊎◌}
use Rattle.std.proofs.Common.{Err, false, is_some, IsTrue, List, None, Ok, Option, Some, subst}
use Rattle.clap.specs.Simple.{App, HasMatchesOf, matches_of, subcommand_of, subcommand_rows_of}
use Rattle.thorin_arguments.specs.Grammar.{AreMatchesOf, IsLine, IsText, read_words}
use Rattle.clap.proofs.{OnLiterals.clap_on_literals, WalkLemmas.both}
use Rattle.clap.specs.{declared.error.Error.Error, declared.parser.matches.ArgMatches.ArgMatches}
use Rattle.clap.specs.{declared.error.kind.ErrorKind.ErrorKind, Faults.is_simple_and_free}
use Rattle.clap.specs.{Faults.fault_of, Kinds.HasKind, Simple.is_simple, Walk.Text, Words.found_of}
use Rattle.clap.specs.{Kinds.IsAmong, Walk.rows_of, Words.kind_of}
use Rattle.thorin_arguments.specs.{Grammar.peer, Grammar.thorin, Peers.peer_of, Whole.is_of_llvm}
use Rattle.thorin_arguments.specs.Reading.{are_wrong, AreReadAs, IsReadAs, IsTested, IsUnread}
use Rattle.thorin_arguments.specs.Asked.{Call, Does, IsCallBy, IsCallOf}

free : (named : Option Text) (app : App) → IsLine named app → is_simple_and_free app ≡ true
unfolding clap_on_literals peer thorin
free (Some name) app (which, how, _, _, is) = ap is_simple_and_free is
    ∙ elim (is_of_llvm name) as (λ b. is_simple_and_free (peer name b which how) ≡ true)
    [ true ↦ refl | false ↦ refl ]
free None app (which, _, is) = ap is_simple_and_free is

simple : (named : Option Text) (app : App) → IsLine named app → is_simple app ≡ true
simple named app is = (both (is_simple app) _ (free named app is)).0

-- whether a kind of error is of a text that is asked for
is_text : (k : ErrorKind) → IsText k ⊎ (¬ IsText k)
is_text kinds.DisplayHelp = inl (inl refl)
is_text kinds.DisplayVersion = inl (inr refl)
is_text k = inr (λ h. elim h [
  | inl e ↦ absurd cc
  | inr e ↦ absurd cc
])

-- an error of options that don't go together is of none
pub no_text : (e : Error) → kind_of e ≡ kinds.ArgumentConflict → ¬ IsText (kind_of e)
no_text e is = rw is (λ h. elim h [
  | inl text ↦ absurd cc
  | inr text ↦ absurd cc
])

module _ (named : Option Text) (app : App) (is : IsLine named app) (line words : List Text)
    (are : AreReadAs named line words) where
  -- matches that are tested
  pub read : (m : ArgMatches)
      → (is_simple_and_free app ≡ true → fault_of app words ≡ []) → HasMatchesOf app words m
      → (are_wrong (is_some named) m ≡ false → IsReadAs named line (Ok m))
      × ((e : Error) → IsTested (is_some named) m (Err e) → IsReadAs named line (Err e))
  read m none h = (
    λ t. (fine, t),
    λ e t. elim t [
      | inl k ↦ inl k
      | inr w ↦ inr (inr (w.0, inr (_, _, (fine, w.1))))
    ],
  )
    where
      fine : AreMatchesOf named line (rows_of (found_of m)) (subcommand_rows_of m)
      fine = record {
        app = app;
        line = is;
        taken = ap (fault_of app) (are app is) ∙ none (free named app is);
        rows_are = (h (simple named app is)).0 ∙ ap (matches_of app) (sym (are app is));
        command_is = (h (simple named app is)).1 ∙ ap (subcommand_of app) (sym (are app is));
      }

  -- words that weren't read
  pub unread : (e : Error) → (is_simple_and_free app ≡ true → HasKind (fault_of app words) e)
      → IsUnread named line e
  unread e h = elim (h (free named app is)) [
    | inl k ↦ inl k
    | inr among ↦ (
        let own : IsAmong (kind_of e) (fault_of app (read_words named app line)) =
        rw (are app is) among in
        elim (is_text (kind_of e)) [
          | inl t ↦ inr (inl (t, (app, is, kind_of e, own, t)))
          | inr t ↦ inr (inr (t, inl (app, is, kind_of e, own, t)))
        ]
        )
  ]

-- which errors are of a text that is asked for, by where they are printed
pub by_stream : (b : Bool) (k : ErrorKind)
    → (IsTrue b ↔ ((k ≢ kinds.DisplayHelp) × (k ≢ kinds.DisplayVersion)))
    → ((b ≡ true) → ¬ IsText k) × ((b ≡ false) → IsText k)
by_stream b k h = (
  (λ e t. elim t [
    | inl is ↦ (h.0 e).0 is
    | inr is ↦ (h.0 e).1 is
  ]),
  λ e. elim (is_text k) [
    | inl t ↦ t
    | inr n ↦ let bad : false ≡ true = sym e ∙ h.1 ((λ is. n (inl is)), (λ is. n (inr is))) in
        absurd cc
  ],
)

-- ---- one call

module _ {S : Type 0} (does : S → Call → ℕ → S → Type 0) (named : Option Text) (line : List Text)
    (old new : S) (status : ℕ) where
  -- by the program's name
  pub by_name : named ≡ peer_of line → Does does (IsCallBy named line) old status new
      → Does does (IsCallOf line) old status new
  by_name is d = subst (λ n. Does does (IsCallBy n line) old status new) is d
