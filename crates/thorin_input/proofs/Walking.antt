-- One walk over the sections of an input: what is known of those so far, with those that are left.
use Rattle.dwp_base.specs.Sections.{all_kinds, kind_named}
use Rattle.dwp_elf_read.specs.Elf.{Elf, has_name, SectionMeaning, SHT_NOBITS}
use Rattle.dwp_elf_read.specs.View.{Placed, placed_sections}
use Rattle.std.proofs.Common.{ap, Bool, eqb, find, map, None, Option, refl, Result, Some, ◌&&◌, ◌∷◌}
use Rattle.std.proofs.Common.{arith, Err, false, is_some, List, not, Ok, sym, true, [], ℕ, ◌∙◌, ◌≡◌}
use Rattle.std.proofs.{Common.option_and_then, Math.Bool.or-false, Math.Bool.or_assoc, Common.◌||◌}
use Rattle.std.{proofs.lemmas.Bool.false≢true, specs.List.list_any, specs.Result.result_err}
use Rattle.thorin_errors.specs.Answers.{Gives, MemoryAside}
use Rattle.thorin_errors.specs.{declared.error.Error.Error, Errors.error_of, Errors.ErrorValue}
use Rattle.thorin_input.specs.Used.{has_kind, Used, used_from, used_kind, with_used}
use Rattle.thorin_input.specs.declared.object.{InputObject.InputObject, UsedSection.UsedSection}
use Rattle.thorin_input.specs.{declared.walk.UsedSections.UsedSections, Encodings.is_plain}
use Rattle.{dwp_index.specs.Contents.is_of_kind, thorin_input.specs.Encodings.is_index}
use Rattle.dwp_base.specs.declared.section.SectionKind.TheVariants as kinds
use Rattle.thorin_input.specs.View as view

-- ---- one section

-- the kind of a section without bytes, and of one that has some
pub kind-empty : (s : SectionMeaning) → (eqb s.size 0 || eqb s.kind SHT_NOBITS) ≡ true
    → used_kind s ≡ None
unfolding used_kind is_of_kind
kind-empty s h = rw h refl

pub kind-full : (s : SectionMeaning) → (eqb s.size 0 || eqb s.kind SHT_NOBITS) ≡ false
    → used_kind s ≡ option_and_then kind_named s.name
unfolding used_kind is_of_kind
kind-full s h = rw h (full s.name)
  where
    full : (name : Option (List ℕ)) → find (λ kind. true && has_name kind name) all_kinds ≡
        option_and_then kind_named name
    full None = refl
    full (Some own) = refl

-- ---- kinds among those that are used

pub found-any : {A : Type 0} (test : A → Bool) (xs : List A) → is_some (find test xs) ≡
    list_any test xs
found-any test [] = refl
found-any test (x ∷ xs) = grind (arith, found-any test xs)

pub ruleset kinds_used = (found-any, kind-empty, kind-full)

-- an index is one of the two
pub either-index : (ss : List UsedSection) → (list_any (has_kind kinds.CuIndex) (map view.used ss)
    || list_any (has_kind kinds.TuIndex) (map view.used ss))
    ≡ list_any (λ s. is_index (view.used s)) ss
either-index [] = refl
either-index (s ∷ ss) = grind (arith, either-index ss)

-- what is found among values that are made of others
pub any_map : {A B : Type 0} (test : B → Bool) (f : A → B) (xs : List A)
    → list_any test (map f xs) ≡ list_any (λ x. test (f x)) xs
any_map test f [] = refl
any_map test f (x ∷ xs) = rw (any_map test f xs) refl

pub plain-is : (o : InputObject) → o.plain ≡ is_plain (view.object o).sections
plain-is o = o.no_index ∙ ap not (sym (any_map is_index view.used o.sections.items))

-- ---- the walk

-- the sections that are left
abbrev pub those : List Placed → List SectionMeaning
those left = map (λ (p : Placed). p.section) left

pub map-placed : (e : Elf) (ss : List SectionMeaning) → those (placed_sections e ss) ≡ ss
map-placed e [] = refl
map-placed e (s ∷ ss) = rw (map-placed e ss) refl

-- a test of the sections so far, or of one of those that are left, is that of all
abbrev pub SoFar : (SectionMeaning → Bool) → Bool → List Placed → Elf → Type 0
SoFar test b left file = (b || list_any test (those left)) ≡ list_any test file.sections

pub any-step : (test : SectionMeaning → Bool) (b : Bool) (l rest : List Placed) (p : Placed)
    (file : Elf) → l ≡ p ∷ rest → SoFar test b l file → SoFar test (b || test p.section) rest file
any-step test b l rest p file h so_far =
    or_assoc b (test p.section) (list_any test (those rest)) ∙ (rw h at so_far)

pub any-end : (test : SectionMeaning → Bool) (b : Bool) (l : List Placed) (file : Elf) → l ≡ []
    → SoFar test b l file → b ≡ list_any test file.sections
any-end test b l file e so_far = sym (or-false b) ∙ (rw e at so_far)

-- the used sections so far, with those that are left; or the error of the first that can't be used
abbrev pub used_in : UsedSections → List Used
used_in t = map view.used t.sections.items

abbrev pub GoesOn : Option Error → UsedSections → List SectionMeaning
    → Result (List Used) ErrorValue → Type 0
GoesOn None t rest all = used_from (used_in t) rest ≡ all
GoesOn (Some e) t rest all = MemoryAside e (all ≡ Err (error_of e))

-- one more section, where none so far has an error
pub used-next : (fault : Option Error) (t n : UsedSections) (answer : Result (Unit {0}) Error)
    (l rest : List Placed) (p : Placed) (all : Result (List Used) ErrorValue) → is_some fault ≡
    false → l ≡ p ∷ rest → Gives (λ _. used_in n) answer (with_used (used_in t) p.section (used_kind
    p.section)) → GoesOn fault t (those l) all → GoesOn (result_err answer) n (those rest) all
unfolding used_from
used-next None t n (Ok _) l rest p all none h next goes = rw (h, next) at goes
used-next None t n (Err e) l rest p all none h next goes = λ aside.
    let fails = next aside in sym (rw (h, fails) at goes)
used-next (Some e) t n answer l rest p all none h next goes = absurd (false≢true (sym none))

-- an error stays
pub used-kept : (fault : Option Error) (t : UsedSections) (rest left : List SectionMeaning)
    (all : Result (List Used) ErrorValue) → is_some fault ≡ true → GoesOn fault t rest all
    → GoesOn fault t left all
used-kept None t rest left all some goes = absurd (false≢true some)
used-kept (Some e) t rest left all some goes = goes
