-- What holds of each kind of section in the list of them holds of every kind.
use Rattle.dwp_base.specs.Sections.{all_kinds, compressed_name_of, is_named, kind_named, same_kind}
use Rattle.dwp_base.{proofs.Bools.is-false, specs.declared.section.SectionKind.SectionKind}
use Rattle.std.proofs.Common.{ap, get_or, map, not, subst, suc, sym, true, zero, [], ◌∙◌, ◌∷◌, ◌≡◌}
use Rattle.std.proofs.Common.{arith, Bool, eqb-true, false, List, option_map, refl, slice_get, Some}
use Rattle.std.proofs.lemmas.List.{FromFn.get_or-range_with_len, Sums.AllPass-from_list_all}
use Rattle.std.proofs.lemmas.Option.{get_or_from_slice_get, slice_get-map, slice_get_within}
use Rattle.std.{proofs.lemmas.Option.same_Some, specs.List.list_all, specs.Str.bytes_eq}
use Rattle.{dwp_base.specs.Sections.name_of, dwp_base.specs.Sections.rank_of, std.proofs.Common.ℕ}

pub at-rank : (kind : SectionKind) → slice_get all_kinds (rank_of kind) ≡ Some kind
at-rank kind = grind arith

-- a test that each of a list passes is passed by what stands at a place of it
passes-at : {X : Type 0} (test : X → Bool) (xs : List X) (i : ℕ) (x : X)
    → list_all test xs ≡ true → slice_get xs i ≡ Some x → test x ≡ true
passes-at test xs i x all there =
    rw (get_or_from_slice_get xs i x x there) at
    (AllPass-from_list_all test xs all i x (slice_get_within xs i x there))

-- a test that is seen to pass for each of the kinds, as by `refl`, passes for every kind
pub every : (test : SectionKind → Bool) → list_all test all_kinds ≡ true → (kind : SectionKind)
    → test kind ≡ true
every test all kind = passes-at test all_kinds (rank_of kind) kind all (at-rank kind)

-- what holds at each of the first places of a list
abbrev pub HoldsAll : {X : Type 0} → (X → Type 0) → List X → Type 0
HoldsAll P [] = Unit {0}
HoldsAll P (x ∷ xs) = P x × HoldsAll P xs

holds-at : {X : Type 0} (P : X → Type 0) (xs : List X) (i : ℕ) (x : X) → HoldsAll P xs
    → slice_get xs i ≡ Some x → P x
holds-at P [] i x all at = absurd cc
holds-at P (y ∷ ys) zero x all at = let same : y ≡ x = cc in subst P same all.0
holds-at P (y ∷ ys) (suc i) x all at = holds-at P ys i x all.1 at

-- what holds of each of the kinds in their order holds of every kind
pub each : (P : SectionKind → Type 0) → HoldsAll P all_kinds → (kind : SectionKind) → P kind
each P all kind = holds-at P all_kinds (rank_of kind) kind all (at-rank kind)

-- what is made of an item of a list
value-at : {X Y : Type 0} (f : X → Y) (xs : List X) (i : ℕ) (x : X) (default : Y)
    → slice_get xs i ≡ Some x → get_or (map f xs) i default ≡ f x
value-at f xs i x default at =
    get_or_from_slice_get (map f xs) i (f x) default (slice_get-map f xs i ∙ ap (option_map f) at)

-- a kind's rank is the place that it stands at
pub rank-at : (place : ℕ) (kind : SectionKind) → slice_get all_kinds place ≡ Some kind
    → rank_of kind ≡ place
rank-at place kind at =
    sym (value-at rank_of all_kinds place kind 0 at)
    ∙ get_or-range_with_len 0 13 place 0 (slice_get_within all_kinds place kind at) ∙ omega arith

-- ---- equal kinds

pub same-self : (kind : SectionKind) → same_kind kind kind ≡ true
same-self = every (λ k. same_kind k k) refl

pub is-same : (a b : SectionKind) → same_kind a b ≡ true → a ≡ b
is-same a b e = same_Some _ _ (sym (at-rank a) ∙ ap (slice_get all_kinds)
    (eqb-true (rank_of a) (rank_of b) e) ∙ at-rank b)

-- ---- a value of each kind

-- the value of a kind among the values of all
pub value-of : {Y : Type 0} (f : SectionKind → Y) (default : Y) (kind : SectionKind)
    → get_or (map f all_kinds) (rank_of kind) default ≡ f kind
value-of f default kind = value-at f all_kinds (rank_of kind) kind default (at-rank kind)

-- what is the same for each of the kinds, as by `refl`, is the same for every kind
pub same-each : {Y : Type 0} (f g : SectionKind → Y) → map f all_kinds ≡ map g all_kinds
    → (kind : SectionKind) → f kind ≡ g kind
same-each f g same kind =
    sym (value-of f (f kind) kind)
    ∙ ap (λ values. get_or values (rank_of kind) (f kind)) same
    ∙ value-of g (f kind) kind

-- ---- names

-- a kind's name names it
pub kind-named : (kind : SectionKind) → kind_named (name_of kind) ≡ Some kind
kind-named = same-each (λ k. kind_named (name_of k)) Some refl

-- a kind's name is its own, in the newer spelling alone
pub named-itself : (kind : SectionKind) → is_named (name_of kind) kind ≡ true
named-itself = every (λ k. is_named (name_of k) k) refl

pub not-older : (kind : SectionKind) → bytes_eq (name_of kind) (compressed_name_of kind) ≡ false
not-older kind = is-false _
    (every (λ k. not (bytes_eq (name_of k) (compressed_name_of k))) refl kind)
