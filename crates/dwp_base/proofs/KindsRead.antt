-- Values that are read for each kind, one kind after another.
use Rattle.dwp_base.proofs.{EveryKind.at-rank, Steps.bind-err, Steps.each-read, Steps.read-at}
use Rattle.dwp_base.specs.ByKind.{ReadsEach, value_of, values_of}
use Rattle.dwp_base.specs.declared.{by_kind.ByKind.ByKind, section.SectionKind.SectionKind}
use Rattle.dwp_base.specs.{Reading.Answers, Reading.read_each, Sections.all_kinds, Sections.rank_of}
use Rattle.std.proofs.Common.{ap, subst, [], ℕ, ◌∷◌, ◌≡◌, ◌≤◌}
use Rattle.std.proofs.Common.{arith, length, List, map, refl, suc, sym, zero, ⊎_elim, ◌+◌, ◌<◌, ◌∙◌}
use Rattle.std.proofs.lemmas.Option.{get_or_from_slice_get, slice_get-map, slice_get_within}
use Rattle.std.proofs.lemmas.{Grind.elements, List.length-map, List.length-set, Option.same_Some}
use Rattle.std.specs.Prelude.{Err, Ok, option_map, Result, slice_get, slice_set, Some}
use Rattle.{dwp_base.proofs.EveryKind.rank-at, std.proofs.lemmas.Bool.cases_lt}

-- the value at each of the first places was read for the kind that stands there
abbrev pub ReadBelow : {T E : Type 0} → (SectionKind → Result T E → Type 0) → List T → ℕ → Type 0
ReadBelow reads values count = (place : ℕ) (kind : SectionKind) → place < count
    → slice_get all_kinds place ≡ Some kind
    → (value : _) × (slice_get values place ≡ Some value) × reads kind (Ok value)

set-here : {T : Type 0} (values : List T) (i : ℕ) (value : T) → i < length values
    → slice_get (slice_set values i value) i ≡ Some value
set-here values i value within = grind (arith, elements)

set-elsewhere : {T : Type 0} (values : List T) (i j : ℕ) (value old : T) → (j ≡ i → ⊥)
    → slice_get values j ≡ Some old → slice_get (slice_set values i value) j ≡ Some old
set-elsewhere values i j value old other at = grind (arith, elements)

-- one more is read
pub read-more : {T E : Type 0} (reads : SectionKind → Result T E → Type 0) (values new : List T)
    (i : ℕ) (kind : SectionKind) (value : T) → length values ≡ 13 → i < 13
    → slice_get all_kinds i ≡ Some kind → new ≡ slice_set values (rank_of kind) value
    → reads kind (Ok value) → ReadBelow reads values i
    → (length new ≡ 13) × ReadBelow reads new (i + 1)
read-more reads values new i kind value long within at is read before =
    let put : new ≡ slice_set values i value = is ∙ ap (λ n. slice_set values n value)
    (rank-at i kind at) in
    rw put (
      length-set values i value ∙ long,
      λ place other lt there. ⊎_elim
          (λ (earlier : place < i).
          let old = before place other earlier there in (
            old.0,
            set-elsewhere values i place value old.0 (λ e. omega (arith, e, earlier)) old.1,
            old.2,
          ))
          (λ (later : i ≤ place).
          let same : place ≡ i = omega arith in
          let this : kind ≡ other = same_Some _ _ (sym at ∙ ap (slice_get all_kinds) (sym same)
          ∙ there) in (
            value,
            ap (slice_get (slice_set values i value)) same
                ∙ set-here values i value (omega (arith, long, within)),
            subst (λ k. reads k (Ok value)) this read,
          ))
          (cases_lt place i),
    )

-- all are read
pub read-all : {T E : Type 0} (reads : SectionKind → Result T E → Type 0) (values : List T)
    → ReadBelow reads values 13 → (kind : SectionKind)
    → (value : T) × (slice_get values (rank_of kind) ≡ Some value) × reads kind (Ok value)
read-all reads values below kind =
    below (rank_of kind) kind (slice_get_within all_kinds (rank_of kind) kind (at-rank kind))
    (at-rank kind)

-- ---- what is read for each kind, as a definition says it

list-again : {T : Type 0} (xs ys : List T) → length xs ≡ length ys
    → ((i : ℕ) (x : T) → slice_get ys i ≡ Some x → slice_get xs i ≡ Some x) → xs ≡ ys
list-again [] [] long same = refl
list-again [] (y ∷ ys) long same = absurd (omega (arith, long))
list-again (x ∷ xs) [] long same = absurd (omega (arith, long))
list-again (x ∷ xs) (y ∷ ys) long same =
    let first : x ≡ y = same_Some _ _ (same 0 y refl) in
    ap (λ z. z ∷ xs) first ∙ ap (λ zs. y ∷ zs) (list-again xs ys (omega (arith, long)) (λ i z at.
    same (suc i) z at))

map-at : {X Y : Type 0} (f : X → Y) (xs : List X) (i : ℕ) (y : Y) → slice_get (map f xs) i ≡ Some y
    → (x : X) × (slice_get xs i ≡ Some x) × (f x ≡ y)
map-at f [] i y at = absurd cc
map-at f (x ∷ xs) zero y at = (x, refl, same_Some _ _ at)
map-at f (x ∷ xs) (suc i) y at = map-at f xs i y at

stops : {X Y E : Type 0} (f : X → Result Y E) (xs : List X) (place : ℕ) (x : X) (e : E)
    → slice_get xs place ≡ Some x → f x ≡ Err e
    → ((before : ℕ) (other : X) → before < place → slice_get xs before ≡ Some other
    → (y : Y) × (f other ≡ Ok y)) → read_each f xs ≡ Err e
stops f [] place x e at fails others = absurd cc
stops f (y ∷ ys) zero x e at fails others =
    let same : y ≡ x = same_Some _ _ at in
    bind-err (f y) e _ (ap f same ∙ fails)
stops f (y ∷ ys) (suc place) x e at fails others =
    let first = others 0 y (omega arith) refl in
    let rest = stops f ys place x e at fails (λ before other lt there.
    others (suc before) other (omega (arith, lt)) there) in
    rw (first.1, rest) refl

-- values that answer what a definition reads for each kind are what it reads for all
pub answers-each : {T Y E : Type 0} (view : T → Y) (f : SectionKind → Result Y E)
    (reads : SectionKind → Result T E → Type 0)
    → ((kind : SectionKind) (r : Result T E) → reads kind r → Answers view r (f kind))
    → (result : Result (ByKind T) E) → ReadsEach reads result
    → Answers (λ by_kind. map view (values_of by_kind)) result (read_each f all_kinds)
answers-each view f reads means (Ok by_kind) read =
    let g : SectionKind → _ = λ kind. view (read.1 kind).0 in
    each-read f g (λ kind. means kind _ (read.1 kind).2) all_kinds
    ∙ ap Ok (sym (list-again (map view (values_of by_kind)) (map g all_kinds)
    (length-map (values_of by_kind) view ∙ read.0) (λ i y at.
    let kind = map-at g all_kinds i y at in
    ap (slice_get (map view (values_of by_kind))) (sym (rank-at i kind.0 kind.1))
    ∙ slice_get-map view (values_of by_kind) (rank_of kind.0)
    ∙ ap (option_map view) (read.1 kind.0).1 ∙ ap Some kind.2)))
answers-each view f reads means (Err e) read =
    stops f all_kinds read.0 read.1 e read.2 (means read.1 _ read.3) (λ before other lt at.
    let earlier = read.4 before other lt at in (view earlier.0, means other _ earlier.1))

-- what was read for each kind, among what was read for all
pub read-kind : {Y E : Type 0} (f : SectionKind → Result Y E) (ys : List Y) (default : Y)
    → read_each f all_kinds ≡ Ok ys → (kind : SectionKind) → f kind ≡ Ok (value_of default ys kind)
read-kind f ys default read kind =
    let at = read-at f all_kinds ys read (rank_of kind) kind (at-rank kind) in
    at.1 ∙ ap Ok (sym (get_or_from_slice_get ys (rank_of kind) at.0 default at.2))
