use Rattle.dwp_strings.proofs.Hashed.{known_offset_in, misplaced, unordered, unplaced}
use Rattle.std.proofs.Common.{Contains, arith, false, refl, sym, true, ◌↔◌, ◌∙◌, ◌≡◌}
use Rattle.dwp_strings.specs.{Hashed.held, Strings.IsZeroFree, Strings.offset_of}
use Rattle.std.proofs.lemmas.{Bool.false≢true, List.Elements.All-contains}
use Rattle.dwp_strings.proofs.Named.{zero_free-strings_in, zero_within}
use Rattle.dwp_strings.proofs.table.StringTable.find_counted.Goals as goal

is_absent : {P : Type 0} → (P → ⊥) → (false ≡ true) ↔ P
is_absent absent = (λ e. absurd (false≢true e), λ there. absurd (absent there))

pub returns-then-is_some-clause-found : goal.returns-then-is_some-clause-found
returns-then-is_some-clause-found c = rw (← c.self.view_is) (is_absent (λ there. zero_within _ _
    c.memchr.ensures (sym c.is_some.ensures ∙ c.if-is_some.true) (All-contains IsZeroFree _ _
    (zero_free-strings_in c.self.inside.entries.bytes) there)))

pub returns-in-Err-2-clause-found : goal.returns-in-Err-2-clause-found
returns-in-Err-2-clause-found c = rw (← c.self.view_is) (is_absent (unplaced _ c.self.invariant
    c.args.string.now c.hash.result c.hash.ensures c.if-self.false c.in-Err-2.ensures.none))

pub returns-in-Err-place-clause-found : goal.returns-in-Err-place-clause-found
returns-in-Err-place-clause-found c =
    let absent = c.search-found.ensures.absent in
    let stands = rw (c.in-Err-place.is, c.as_slice.ensures.value) at absent in
    rw (← c.self.view_is) (is_absent (unordered _ c.self.invariant c.args.string.now c.hash.result
    c.hash.ensures _ (grind (arith, c.match-seek.branch)) stands))

-- the string stands where its hash says
known : (c : goal.Then-stands_at) → Contains (held c.self.inside.entries) c.args.string.now
    × (c.match-seek.place ≡ offset_of (held c.self.inside.entries) c.args.string.now)
known c =
    let here = rw c.as_slice-2.ensures.value at (c.stands_at.ensures.0 c.if-stands_at.true) in
    known_offset_in _ _ _ _ c.self.invariant.indexed here.0 here.1

pub returns-then-stands_at-clause-found : goal.returns-then-stands_at-clause-found
returns-then-stands_at-clause-found c = rw (← c.self.view_is) (λ _. (known c).0, λ _. refl)

pub returns-then-stands_at-clause-offset : goal.returns-then-stands_at-clause-offset
returns-then-stands_at-clause-offset c = rw (← c.self.view_is) (known c).1

pub returns-else-stands_at-clause-found : goal.returns-else-stands_at-clause-found
returns-else-stands_at-clause-found c =
    rw (← c.self.view_is) (is_absent (misplaced c.self.inside.entries c.self.invariant
    c.args.string.now c.hash.result c.hash.ensures c.match-seek.place
    (grind (arith, c.match-seek.branch)) (grind arith) (grind (arith, c.stands_at.ensures))))
