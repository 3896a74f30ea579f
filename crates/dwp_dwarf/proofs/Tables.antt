-- A table of abbreviations: its readings go forward, and its lists and look-ups go by what stands
-- first. What stands at an offset of a section.
use Rattle.dwp_dwarf.proofs.Terms
use Rattle.dwp_dwarf.specs.Abbreviations.{children_at, constant_at, pairs_within, specifications_at}
use Rattle.dwp_dwarf.specs.Abbreviations.{declaration_within, is_last, pairs_from, specification_at}
use Rattle.dwp_dwarf.specs.{Abbreviations.tag_at, Grammar.DeclarationsLie, Grammar.IsBehindOthers}
use Rattle.dwp_units.proofs.Readings.{Answer, Gives, reads_sleb, reads_uleb, some_reads, takes_then}
use Rattle.dwp_units.proofs.Readings.{Reads, Steps, test_gives, test_reads, then_gives, value_gives}
use Rattle.dwp_units.proofs.Readings.{Takes, value_reads}
use Rattle.dwp_units.proofs.Readings.{bind-bind, bind-cond, by-result, by_step, reads_byte, shorter}
use Rattle.dwp_units.proofs.Readings.{bind_alike, error_gives, error_reads, goes_length, more_gives}
use Rattle.dwp_units.proofs.Readings.{goes, goes_none, goes_some, size, then_reads, told_there, was}
use Rattle.{dwp_bytes.specs.Input.after, dwp_dwarf.specs.Abbreviations.specifications_within}
use Rattle.{dwp_units.specs.AbbreviationCodes.code_at, std.specs.List.AllByRecursion}
use Terms.{Declaration, declaration, declaration_at, OffsetOutOfRange, Specification, UnexpectedEof}
use Terms.{ap}
use Terms.{arith, cond, false, Goes, Input, List, ltb-false, None, refl, Some, subst, take, uleb_at}
use Terms.{by-bool, byte_at, eqb-false, eqb-true, from_at, pairs_in, past_specifications, ReadError}
use Terms.{eq-eqb, IfSome, le-ltb, leb_at, length, lt-ltb, ne_eqb, next_at, Option, Result, skip_at}
use Terms.{eqb, Err, ltb, Ok, suc, sym, zero, [], ℕ, ◌++◌, ◌<◌, ◌>>=◌, ◌↔◌, ◌∙◌, ◌∷◌, ◌≡◌, ◌≢◌, ◌≤◌}

-- past the end nothing stands
pub past_end : (place : ℕ) (section : Input) → length section.bytes < place → from_at place section
    ≡ Err OffsetOutOfRange
unfolding from_at
past_end place section h = rw (lt-ltb _ _ h) refl

-- within the section the rest of it does
pub from_within : (offset : ℕ) (section : Input) → offset ≤ length section.bytes
    → from_at offset section ≡ Ok (after offset section)
unfolding from_at skip_at
from_within offset section fits = rw (le-ltb (length section.bytes) offset fits) refl

pub from_is : (offset : ℕ) (section i : Input) → from_at offset section ≡ Ok i
    → (offset ≤ length section.bytes) × (i ≡ after offset section)
unfolding from_at skip_at
from_is offset section i e = (test_gives {P = λ j. (offset ≤ length section.bytes)
    × (j ≡ after offset section)} (ltb (length section.bytes) offset) (λ _. error_gives)
    (λ fits. rw fits (value_gives (ltb-false _ _ fits, refl)))).gives i e

pub reads_specification : Reads 1 Specification specification_at
unfolding specification_at constant_at
reads_specification = then_reads _ reads_uleb (λ name. then_reads _ reads_uleb (λ form. then_reads
    _ (test_reads (eqb form 0x21) (some_reads (then_reads _ reads_sleb (λ x. value_reads)))
    value_reads) (λ c. value_reads)))

-- ---- a list of pairs

-- where no byte is left there is no pair
no_specification : (i : Input) → size i ≡ 0 → specification_at i ≡ Err UnexpectedEof
unfolding specification_at uleb_at leb_at byte_at
no_specification i e = rw e refl

-- a pair before others, and what follows the first pair
abbrev before_others : Specification → List Specification × Input → Answer (List Specification)
before_others first rest = Ok (first ∷ rest.0, rest.1)

abbrev after_first : (Input → Answer (List Specification)) → Specification × Input
    → Answer (List Specification)
after_first others first = cond (is_last first.0) (Ok ([], first.1))
    (others first.1 >>= before_others first.0)

pub specifications_cases : (i : Input)
    → specifications_at i ≡ (specification_at i >>= after_first specifications_at)
unfolding specifications_at specifications_within
specifications_cases i =
    let steps : Steps size specifications_within (λ others i. specification_at i >>= after_first
    others) = record {
      none = λ others i e. rw (no_specification i e) refl;
      next = λ n i. refl;
      alike = λ f g i same. bind_alike (specification_at i) (after_first f) (after_first g)
          (λ x e. rw (same x.1 (shorter reads_specification i x e)) refl);
    } in
    by_step steps i

-- the end of a list that has one pair more
pub past_other : (first : Specification) (r : Answer (List Specification))
    → ((r >>= before_others first) >>= λ list. Ok list.1) ≡ (r >>= λ list. Ok list.1)
past_other first r = grind arith

pub pairs_cases : (i : Input) → pairs_in i ≡ pairs_from (specification_at i) pairs_in
unfolding pairs_in pairs_within
pairs_cases i =
    let steps : Steps size pairs_within (λ others i. pairs_from (specification_at i) others) =
    record {
      none = λ others i e. rw (no_specification i e) refl;
      next = λ n i. refl;
      alike = λ f g i same. by-result _ (specification_at i)
          (λ x e. rw (e, same x.1 (shorter reads_specification i x e)) refl) (λ e h. rw h refl);
    } in
    by_step steps i

-- a list that was read whole has these pairs
pairs_are : (n : ℕ) (i : Input)
    → Gives (List Specification × Input) (specifications_within n i) (λ p. pairs_within n i ≡ p.0)
unfolding specifications_within pairs_within
pairs_are zero i = error_gives
pairs_are (suc n) i = then_gives (was (specification_at i))
    (λ first is. test_gives (is_last first.0) (λ last. value_gives (rw (is, last) refl)) (λ other.
    then_gives (pairs_are n first.1) (λ rest same. value_gives (rw (is, other, same) refl))))

-- a list that was passed over has the pairs that can be read there
pub passed_list : (i j : Input) → past_specifications i ≡ Ok j
    → specifications_at i ≡ Ok (pairs_in i, j)
unfolding specifications_at pairs_in
passed_list i j e = grind (arith, (pairs_are (size i) i).gives)

-- ---- a declaration

-- a list, of at most so many bytes, is the same whatever follows it
list_takes : (n : ℕ) (i : Input) → size i < n → Gives (List Specification × Input)
    (specifications_at i) (λ x. Takes 1 i x.1 (λ j k. specifications_at j ≡ Ok (x.0, k)))
list_takes zero i less = absurd (omega arith)
list_takes (suc n) i less = rw (specifications_cases i) (then_gives (reads_specification.reads i)
    (λ first t. test_gives (is_last first.0) (λ last. value_gives (record {
      goes = t.goes;
      anyway = λ j rest. specifications_cases _ ∙ rw (t.anyway j rest, last) refl;
    })) (λ other. then_gives (list_takes n first.1 (omega (arith, goes_length t.goes))) (λ others u.
    value_gives (takes_then t u (λ a b c p q. specifications_cases a ∙ rw (p, other, q) refl))))))

reads_within : (n : ℕ) → Reads 1 (List Specification) (specifications_within n)
unfolding specifications_within
reads_within zero = error_reads
reads_within (suc n) = then_reads _ reads_specification (λ first. test_reads (is_last first)
    value_reads (some_reads (then_reads _ (reads_within n) (λ others. value_reads))))

reads_specifications : Reads 1 (List Specification) specifications_at
unfolding specifications_at
reads_specifications = record {
  reads = λ i. list_takes (suc (size i)) i (omega arith);
  fails = λ i j same e h. ap (λ bytes. specifications_within (length bytes) j) same
      ∙ (reads_within (size i)).fails i j same e h;
}

pub reads_declaration : Reads 1 Declaration declaration_at
unfolding declaration_at tag_at children_at
reads_declaration = then_reads _
    (then_reads _ reads_uleb (λ tag. test_reads (eqb tag 0) error_reads value_reads))
    (λ tag. then_reads _ (then_reads _ reads_byte (λ byte. test_reads (eqb byte 0) value_reads
    (test_reads (eqb byte 1) value_reads error_reads)))
    (λ children. then_reads _ reads_specifications (λ list. value_reads)))

pub code_goes : (i : Input) → Gives (ℕ × Input) (code_at i) (λ x. Goes 0 i x.1)
unfolding code_at
code_goes i = test_gives (eqb (size i) 0) (λ _. value_gives goes_none)
    (λ _. more_gives (goes reads_uleb i) (λ x p. goes_some p))

-- a declaration that was read with its code
abbrev pub Next : Type 0
Next = (ℕ × Declaration) × Input

-- a code other than 0, which no end of the bytes stands for
code_takes : (i : Input) → Gives (ℕ × Input) (code_at i) (λ x. eqb x.0 0 ≡ false
    → Takes 1 i x.1 (λ j k. code_at j ≡ Ok (x.0, k)))
unfolding code_at
code_takes i = test_gives (eqb (size i) 0) (λ _. value_gives (λ never. absurd cc))
    (λ _. more_gives (reads_uleb.reads i) (λ x t _. record {
      goes = t.goes;
      anyway = λ j rest. let less = shorter reads_uleb _ _ (t.anyway j rest) in
          rw (ne_eqb (length (take t.goes.taken i.bytes ++ rest)) 0 (λ e. omega (arith, e, less)))
          (t.anyway j rest);
    }))

next_gives : (i : Input) → Gives (Option Next) (next_at i) (λ o. IfSome o (λ x. Takes 1 i x.1
    (λ j k. next_at j ≡ Ok (Some (x.0, k)))))
unfolding next_at
next_gives i = then_gives (code_takes i) (λ code t. test_gives (eqb code.0 0) (λ _. value_gives tt)
    (λ some. then_gives (reads_declaration.reads code.1) (λ d r. value_gives (takes_then (t some) r
    (λ a b c p q. rw (p, some, q) refl)))))

-- the next declaration of a table is there whatever stands behind it
pub next_takes : (i : Input) (x : Next) → next_at i ≡ Ok (Some x)
    → Takes 1 i x.1 (λ j k. next_at j ≡ Ok (Some (x.0, k)))
next_takes i x e = (next_gives i).gives (Some x) e

pub next_shorter : (i : Input) (x : Next) → next_at i ≡ Ok (Some x)
    → length x.1.bytes < length i.bytes
next_shorter i x e = omega (arith, goes_length (next_takes i x e).goes)

-- ---- a look-up

abbrev pub Found : Type 0
Found = Result (Option Declaration) ReadError

-- what a look-up makes of the next declaration
abbrev chosen : ℕ → (Input → Found) → Option Next → Found
chosen wanted others None = Ok None
chosen wanted others (Some x) = cond (eqb x.0.0 wanted) (Ok (Some x.0.1)) (others x.1)

chosen_alike : (wanted : ℕ) (f g : Input → Found) (o : Option Next)
    → ((x : Next) → o ≡ Some x → f x.1 ≡ g x.1) → chosen wanted f o ≡ chosen wanted g o
chosen_alike wanted f g o same = grind (arith, same)

-- it goes by the next declaration
pub look_up : (code : ℕ) (i : Input) → declaration code i ≡ (next_at i >>= chosen code
    (declaration code))
unfolding declaration declaration_within next_at code_at
look_up code i =
    let steps : Steps size (λ n i. declaration_within n code i) (λ others i. next_at i >>=
    chosen code others) = record {
      none = λ others i e. rw e refl;
      next = λ n i. simp (bind-bind, bind-cond);
      alike = λ f g i same. bind_alike (next_at i) (chosen code f) (chosen code g) (λ o e.
          chosen_alike code f g o (λ x is. same x.1 (next_shorter i x (e ∙ ap (λ p. Ok p) is))));
    } in
    by_step steps i

pub look_up-by : (code : ℕ) (i : Input) {r : Result (Option Next) ReadError} → next_at i ≡ r
    → declaration code i ≡ (r >>= chosen code (declaration code))
look_up-by code i h = rw (look_up code i, h) refl

pub look_up-here : (i : Input) (x : Next) → next_at i ≡ Ok (Some x)
    → declaration x.0.0 i ≡ Ok (Some x.0.1)
look_up-here i x h = rw (look_up x.0.0 i, h, eq-eqb x.0.0 x.0.0 refl) refl

pub look_up-other : (code : ℕ) (i : Input) (x : Next) → next_at i ≡ Ok (Some x) → x.0.0 ≢ code
    → declaration code i ≡ declaration code x.1
look_up-other code i x h apart = rw (look_up code i, h, ne_eqb x.0.0 code apart) refl

-- ---- declarations one after the other, and which of them a look-up finds

-- what the rest of a table says of a code by its next declaration
abbrev IsSaid : ℕ → Input → Found → Type 0
IsSaid code rest (Ok None) = next_at rest ≡ Ok None
IsSaid code rest (Err e) = next_at rest ≡ Err e
IsSaid code rest (Ok (Some d)) = (next : Input) × (next_at rest ≡ Ok (Some ((code, d), next)))

-- the rest behind declarations of other codes says it so
abbrev SaidBehind : ℕ → Input → Found → Type 0
SaidBehind code i said = (rest : Input) × IsBehindOthers code i rest × IsSaid code rest said

none_before : (code : ℕ) (i : Input) → IsBehindOthers code i i
none_before code i = record { others = []; lie = refl; other = tt }

by_next : (n : ℕ) (code : ℕ) (i : Input) (r : Result (Option Next) ReadError) → next_at i ≡ r
    → size i < n → SaidBehind code i (declaration code i)
by_next zero code i r h fits = absurd (omega arith)
by_next (suc n) code i (Ok None) h fits = rw (look_up-by code i h) (i, none_before code i, h)
by_next (suc n) code i (Err e) h fits = rw (look_up-by code i h) (i, none_before code i, h)
by_next (suc n) code i (Ok (Some x)) h fits = by-bool (SaidBehind code i (declaration code i))
    (eqb x.0.0 code) (λ here. subst (λ (c : ℕ). SaidBehind c i (declaration c i))
    (eqb-true _ _ here) (rw (look_up-here i x h) (i, none_before x.0.0 i, (x.1, h)))) (λ apart.
    let less = next_shorter i x h in
    let behind = by_next n code x.1 (next_at x.1) refl (omega arith) in
    let others : IsBehindOthers code i behind.0 = record {
      others = x.0 ∷ behind.1.others;
      lie = (x.1, h, behind.1.lie);
      other = (eqb-false _ _ apart, behind.1.other);
    } in
    rw (look_up-other code i x h (eqb-false _ _ apart)) (behind.0, others, behind.2))

-- declarations of other codes are passed over
passed_over : (code : ℕ) (ds : List (ℕ × Declaration)) (i rest : Input) → DeclarationsLie i ds
    rest → AllByRecursion (λ d. d.0 ≢ code) ds → declaration code i ≡ declaration code rest
passed_over code [] i rest lie other = ap (declaration code) (sym lie)
passed_over code (d ∷ ds) i rest lie other = look_up-other code i (d, lie.0) lie.1 other.0
    ∙ passed_over code ds lie.0 rest lie.2 other.1

says : (code : ℕ) (rest : Input) (said : Found) → IsSaid code rest said
    → declaration code rest ≡ said
says code rest (Ok None) h = look_up-by code rest h
says code rest (Err e) h = look_up-by code rest h
says code rest (Ok (Some d)) h = look_up-here rest ((code, d), h.0) h.1

-- what a look-up finds is the first declaration of the code, or that there is none
pub said : (code : ℕ) (i : Input) (found : Found) → (declaration code i ≡ found) ↔
    SaidBehind code i found
said code i found = (
  (λ e. subst (SaidBehind code i) e (by_next (suc (size i)) code i (next_at i) refl (omega arith))),
  (λ s. passed_over code s.1.others i s.0 s.1.lie s.1.other ∙ says code s.0 found s.2),
)

-- ---- what a table declares depends on its bytes alone: not on the place in a section at which it
-- stands, on the order of the bytes of a number, or on relocations

within_anywhere : (n wanted : ℕ) (i j : Input) → j.bytes ≡ i.bytes
    → declaration_within n wanted j ≡ declaration_within n wanted i
unfolding declaration_within code_at
within_anywhere zero wanted i j same = refl
within_anywhere (suc n) wanted i j same = by-bool _ (eqb (length i.bytes) 0)
    (λ none. rw (ap (λ bytes. eqb (length bytes) 0) same ∙ none, none) refl)
    (λ some. rw (ap (λ bytes. eqb (length bytes) 0) same ∙ some, some) (told_there reads_uleb _
    (λ code k l e. ap (cond (eqb code 0) (Ok None)) (told_there reads_declaration _ (λ d v w f.
    ap (cond (eqb code wanted) (Ok (Some d))) (within_anywhere n wanted v w f)) k l e)) i j same))

-- tables of the same bytes declare the same
pub declared_anywhere : (wanted : ℕ) (i j : Input) → i.bytes ≡ j.bytes
    → declaration wanted i ≡ declaration wanted j
unfolding declaration
declared_anywhere wanted i j e = ap (λ bytes. declaration_within (length bytes) wanted i) e
    ∙ within_anywhere (length j.bytes) wanted j i e
