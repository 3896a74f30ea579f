-- Lists that are written over others from their beginning on, or whose elements are replaced one
-- after the other by what comes of them; lists of the units that an executable names; and inputs
-- taken one after the other.
use Rattle.dwp_table.specs.declared.object.DebugTypeSignature.{DebugTypeSignature}
use Rattle.std.proofs.Common.{ap, rules, [], ℕ, ℤ}
use Rattle.std.proofs.Common.{append-nil, append_assoc, drop-set-lt, get_or, length, Option, Result}
use Rattle.std.proofs.Common.{arith, Ok, pos, set, suc, sym, ◌+◌, ◌-◌, ◌<◌, ◌∙◌, ◌∷◌, ◌≡◌, ◌≤◌, ◌⊎◌}
use Rattle.std.proofs.Common.{drop, inl, inr, length-append, List, map, min, refl, take, zero, ◌++◌}
use Rattle.std.proofs.lemmas.List.{drop-map, get_or-map, length-map, map-append, map_more, take_min}
use Rattle.std.proofs.lemmas.List.{drop_more, map-set, set-get_or, take_more_set}
use Rattle.thorin.{proofs.Running.join-append, proofs.Running.taken-then, specs.Groups.taken_each}
use Rattle.thorin_c.specs.Packing.{Accepts, bytes_of, IsDifferingStatus, TellsOfError, TellsRefused}
use Rattle.thorin_c.specs.Packing.{Differ, IsFailure, Refuses}
use Rattle.thorin_c.specs.Skeletons.{IsFirst, ListsUnits, paths_of, skeleton_named, TellsOfEnd}
use Rattle.thorin_c.specs.declared.types.{ThorinBytes.ThorinBytes, ThorinReport.ThorinReport}
use Rattle.thorin_c.specs.declared.types.{ThorinLookup.ThorinLookup, ThorinSkeleton.ThorinSkeleton}
use Rattle.thorin_c.specs.declared.units.{FirstUnits.FirstUnits, Room.Room}
use Rattle.thorin_c.specs.declared.{packing.RefusedInput.RefusedInput, types.ThorinUnit.ThorinUnit}
use Rattle.thorin_c.specs.{Finding.looked, Finding.told, Listing.written_over, Skeletons.room_of}
use Rattle.thorin_errors.specs.Errors.{error_of, ErrorValue, NoOutputObjectCreated}
use Rattle.thorin_executable.specs.Skeletons.{Listed, Named}
use Rattle.thorin_join.specs.Builder.{differing_in, finish_test, start, State, taken, targets_test}
use Rattle.{dwp_base.proofs.Steps.bind-ok, thorin_join.specs.Join.Joins}
use Rattle.{dwp_index.specs.Package.Package, thorin_join.specs.Represents.units_in}
use native.Mathlib.Numerals.{unary_clauses}
use Rattle.thorin_errors.specs.declared.error.Error.TheVariants as errors

module _ {A : Type 0} where
  -- one more; where there is no room for it, nothing is set
  pub one_more : (old list : List A) (x : A)
      → written_over old (list ++ x ∷ []) ≡ set (written_over old list) (length list) x
  one_more [] [] x = refl
  one_more [] (z ∷ list) x = refl
  one_more (y ∷ old) [] x = refl
  one_more (y ∷ old) (z ∷ list) x = ap (λ l. z ∷ l) (one_more old list x)

  -- a copy of as many as there is room for
  pub over_is : (old list : List A) → written_over old list
      ≡ take (min (length list) (length old)) list ++ drop (min (length list) (length old)) old
  over_is old [] = simp unary_clauses refl
  over_is [] (x ∷ list) = simp unary_clauses refl
  over_is (y ∷ old) (x ∷ list) = simp unary_clauses (ap (λ l. x ∷ l) (over_is old list))

module _ {A B : Type 0} where
  -- one more is written, where there is room for it
  pub put-next : (f : A → B) (old now : List B) (done : List A) (x : A) (i : ℕ)
      → now ≡ written_over old (map f done) → i ≡ length (map f done)
      → set now i (f x) ≡ written_over old (map f (done ++ x ∷ []))
  put-next f old now done x i h is =
      rw (h, is, map-append f done (x ∷ [])) (sym (one_more old (map f done) (f x)))

-- the first elements, which are replaced, and what comes of the others
abbrev pub outcome : {A : Type 0} → (A → A) → ℕ → List A → List A
outcome f i now = take i now ++ map f (drop i now)

module _ {A : Type 0} (f : A → A) where
  -- one more is replaced, behind a change that leaves the first as they were, and of which the same
  -- comes
  pub replaced-next : (old now all : List A) (i : ℕ) (d y : A) → i < length now
      → take i now ≡ take i old → map f now ≡ map f old → y ≡ f (get_or now i d)
      → outcome f i old ≡ all → outcome f (i + 1) (set now i y) ≡ all
  replaced-next old now all i d y h front same is done =
      let kept : outcome f i now ≡ all =
      rw (front, ← drop-map f i now, same, drop-map f i old) done in
      rw (take_more_set now i y h, drop-set-lt (i + 1) now i y (omega arith), is, append_assoc)
      (rw (drop_more now i d h) at kept)

-- a status that was left before makes no difference
pub status_left : (find : Result Package ℤ → ℕ → ℕ → Result ThorinUnit ℤ) (pack : Package)
    (lookups : List ThorinLookup) (i : ℕ) (d : ThorinLookup) (s : ℤ) → i < length lookups
    → map (looked find pack) (set lookups i (record (get_or lookups i d) { status = s }))
    ≡ map (looked find pack) lookups
status_left find pack lookups i d s h =
    let asked = get_or lookups i d in
    rw (
      map-set,
      untold asked (find (Ok pack) asked.kind asked.id),
      ← get_or-map (looked find pack) lookups i d d h,
      set-get_or,
    ) refl
  where
    untold : (asked : ThorinLookup) (found : Result ThorinUnit ℤ)
        → told (record asked { status = s }) found ≡ told asked found
    untold asked found = grind rules

-- ---- the first of a list, as far as there is room

module _ {A : Type 0} where
  over_front : (old list : List A)
      → written_over old (take (length old) list) ≡ written_over old list
  over_front [] [] = refl
  over_front [] (x ∷ list) = refl
  over_front (y ∷ old) [] = refl
  over_front (y ∷ old) (x ∷ list) = ap (λ l. x ∷ l) (over_front old list)

  -- the front of a list goes on with the front of what comes behind it
  front_next : (room : ℕ) (xs ys : List A)
      → take room xs ++ take (room - length (take room xs)) ys ≡ take room (xs ++ ys)
  front_next zero xs ys = refl
  front_next (suc room) [] ys = simp unary_clauses refl
  front_next (suc room) (x ∷ xs) ys = simp unary_clauses (ap (λ l. x ∷ l) (front_next room xs ys))

  pub front_more : (room n m : ℕ) (old new all more : List A) → old ≡ take room all
      → n ≡ room - length old → m ≡ min n (length more) → new ≡ old ++ take m more
      → new ≡ take room (all ++ more)
  front_more room n m old new all more is left taken put =
      put ∙ rw (taken, left, is) (ap (λ l. take room all ++ l) (take_min _ more)
      ∙ front_next room all more)

-- ---- units that are read one after another

paths-append : (units : List Named) (unit : Named)
    → paths_of (units ++ unit ∷ []) ≡ paths_of units ++ (unit.1 ++ 0 ∷ [])
paths-append [] unit = refl
paths-append (first ∷ units) unit =
    ap (λ l. first.1 ++ 0 ∷ l) (paths-append units unit)
    ∙ sym (append_assoc first.1 (0 ∷ paths_of units) (unit.1 ++ 0 ∷ []))

pub first_more : (room : Room) (units : List Named) (unit : Named) (old new : FirstUnits)
    → IsFirst room units old
    → new.names.items ≡ take room.names (map skeleton_named units ++ skeleton_named unit ∷ [])
    → new.paths.items ≡ take room.paths ((paths_of units ++ unit.1) ++ 0 ∷ [])
    → new.count ≡ old.count + 1 → new.size ≡ old.size + length unit.1 + 1
    → IsFirst room (units ++ unit ∷ []) new
first_more room units unit old new h names paths count size =
    let named = map-append skeleton_named units (unit ∷ []) in
    let ended = append_assoc (paths_of units) unit.1 (0 ∷ []) in
    grind (arith, h, named, ended, paths-append units unit, length-append)

-- of some units those before the ones that are left were read
pub record GoesOn (room : Room) (all left : Listed) (first : FirstUnits) : Type 0 where
  pub done : List Named
  pub is : all ≡ (done ++ left.0, left.1)
  pub are_read : IsFirst room done first

pub none_read : (room : Room) (all : Listed) (first : FirstUnits) → IsFirst room [] first
    → GoesOn room all all first
none_read room all first h = record { done = []; is = refl; are_read = h }

pub ends : (room : Room) (all left : Listed) (old : FirstUnits) → GoesOn room all left old
    → (end : Option ErrorValue) → left ≡ ([], end) → (all.1 ≡ end) × IsFirst room all.0 old
ends room all left old h end e = rw (h.is, e, append-nil h.done) (refl, h.are_read)

-- ---- what is told

pub lists : (list : List Named) (first : FirstUnits) (old new : List ThorinSkeleton)
    (before after : List ℕ) (count : ℕ) (report : ThorinReport)
    → IsFirst (room_of old before) list first → new ≡ written_over old first.names.items
    → after ≡ written_over before first.paths.items → count ≡ first.count
    → report.size ≡ first.size → ListsUnits list old new before after count report
lists list first old new before after count report h names paths number size =
    let front = over_front old (map skeleton_named list) in
    grind (arith, h, front, over_front before (paths_of list))

-- the fields that are told of an error, behind the size
pub end_alone : (old new : ThorinReport) (n : ℕ) → TellsOfError (record old { size = n }) new
    → TellsOfEnd old new
end_alone old new n told =
    let size : n ≡ new.size = sym (ap (λ (r : ThorinReport). r.size) told) in
    told ∙ (λ i. record old {
      size = size i;
      fault = new.fault;
      text_size = new.text_size;
      text = new.text;
    })

-- one more input is accepted
pub accepts-next : (inputs : List ThorinBytes) (i : ℕ) (d : ThorinBytes) (old middle new : State)
    → i < length inputs → Accepts (take i inputs) old middle
    → taken (get_or inputs i d).bytes.now middle ≡ Ok new → Joins (get_or inputs i d).bytes.now
    (units_in middle) (units_in new) → Accepts (take (i + 1) inputs) old new
unfolding taken_each
accepts-next inputs i d old middle new h before now joins =
    let done = bytes_of (take i inputs) in
    let bytes = (get_or inputs i d).bytes.now in
    let more = map_more (λ (input : ThorinBytes). input.bytes.now) inputs i d h in
    record {
      taken = ap (λ l. taken_each l old) more ∙ taken-then done (bytes ∷ []) old middle before.taken
          ∙ bind-ok (taken bytes middle) new _ now;
      joined = rw more (join-append done (bytes ∷ []) (units_in old) (units_in middle)
          (units_in new) before.joined (units_in new, joins, refl));
    }

-- what is told of a refused input
pub refuses : (inputs : List ThorinBytes) (refusal : RefusedInput) (report : ThorinReport)
    → IsFailure inputs refusal
    → (refusal.number < length inputs) × TellsRefused refusal.number refusal.error report
    → Refuses inputs report
refuses inputs refusal report (inl at) (lt, told) = record {
  error = error_of refusal.error;
  within = rw told.input lt;
  state = at.state;
  before = rw told.input at.before;
  refused = rw told.input (at.refused told.not_memory);
  told = told.told;
}
refuses inputs refusal report (inr is) (lt, told) = absurd (omega (arith, lt, is.0))

-- an input was refused, or memory ran out at it: the package was not finished
pub at_an_input : (X : Type 0) (status : ℤ) (number count : ℕ) → number < count
    → (status ≡ pos 12 → (count ≤ number) × X)
    → (status ≡ pos 11) ⊎ ((status ≡ pos 12) ⊎ (status ≡ pos 13)) → IsDifferingStatus status
at_an_input X status number count lt past told = grind (arith, past)

-- no input makes no package
pub none_fails : (inputs : List ThorinBytes) → length inputs ≡ 0
    → IsFailure inputs (record { number = 0; error = errors.NoOutputObjectCreated })
unfolding taken_each finish_test targets_test
none_fails [] e = inr (
  refl,
  record {
    state = start;
    accepted = record { taken = refl; joined = refl };
    refused = λ h. inl refl;
    memory = λ e. absurd cc;
  },
)
none_fails (x ∷ inputs) e = absurd (omega arith)

-- the signatures of those that differ
pub differs : (inputs : List ThorinBytes) (old state : State) (signatures : List DebugTypeSignature)
    (report : ThorinReport) (before now : List ℕ) → old ≡ start → Accepts inputs old state
    → map (λ s. s.0) signatures ≡ differing_in state → report.differing ≡ length signatures
    → now ≡ written_over before (map (λ s. s.0) signatures) → Differ inputs report before now
differs inputs old state signatures report before now is accepted differ count written = record {
  state = state;
  accepted = rw (← is) accepted;
  count = count ∙ sym (length-map signatures (λ s. s.0)) ∙ ap length differ;
  signatures = written ∙ ap (λ l. written_over before l) differ;
}
