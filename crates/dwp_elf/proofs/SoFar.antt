-- Lemmas on bytes that are written piece by piece.
use Rattle.std.proofs.Common.{arith, Err, IsErrAnd, length, Option, Result, take, ℕ, ◌++◌, ◌+◌, ◌≡◌}
use Rattle.{dwp_elf.specs.Refusals.AppendsPart, dwp_elf.specs.Refusals.Writes, std.proofs.Common.Ok}
use Rattle.std.{proofs.Common.List, proofs.lemmas.List.take-append-le, specs.Io.KnownBytes.Appends}
use Rattle.std.proofs.{Common.length-append, KnownBytes.Appends-trans, Math.Seq.take-append-add}

-- a part of what comes after something that was appended whole
pub part_after : {a b c : Option (List ℕ)} (x : List ℕ) {y : List ℕ} → Appends a b x
    → AppendsPart b c y → AppendsPart a c (x ++ y)
part_after {a = a} {b = b} {c = c} x {y = y} p q =
    record {
      count = length x + q.count;
      part = omega (arith, length-append x y, q.part);
      appended = rw take-append-add (Appends-trans a b c x (take q.count y) p q.appended);
    }

-- a part of a beginning is a part of the whole
pub part_before : {a b : Option (List ℕ)} {x : List ℕ} (y : List ℕ) → AppendsPart a b x
    → AppendsPart a b (x ++ y)
part_before {x = x} y q =
    record {
      count = q.count;
      part = omega (arith, length-append x y);
      appended = rw (take-append-le q.count x y (omega arith)) q.appended;
    }

-- what was written so far and then the rest are all, and a part of the rest makes a part of all
pub record SoFar (old now : Option (List ℕ)) (all rest : List ℕ) : Type 0 where
  pub whole : (new : Option (List ℕ)) → Appends now new rest → Appends old new all
  pub part : (new : Option (List ℕ)) → AppendsPart now new rest → AppendsPart old new all

pub so_far_none : (a : Option (List ℕ)) (all : List ℕ) → SoFar a a all all
so_far_none a all = record { whole = λ new p. p; part = λ new p. p }

module _ {old now : Option (List ℕ)} {all rest : List ℕ} (s : SoFar old now all rest) where
  pub so_far_more : (next : Option (List ℕ)) (piece rest' : List ℕ) → rest ≡ piece ++ rest'
      → Appends now next piece → SoFar old next all rest'
  so_far_more next piece rest' e p = record {
    whole = λ new q. s.whole new (rw e (Appends-trans now next new piece rest' p q));
    part = λ new q. s.part new (rw e (part_after piece p q));
  }

  pub so_far_part : (new : Option (List ℕ)) (piece rest' : List ℕ) → rest ≡ piece ++ rest'
      → AppendsPart now new piece → AppendsPart old new all
  so_far_part new piece rest' e q = s.part new (rw e (part_before rest' q))

  -- the last piece
  pub Writes-so_far : {E : Type 0} (r : Result (Unit {0}) E) (new : Option (List ℕ))
      → Writes r now new rest → Writes r old new all
  Writes-so_far (Ok u) new q = s.whole new q
  Writes-so_far (Err e) new q = s.part new q

-- what a step that failed has written, as the function returns its error
pub failed : {E : Type 0} (F : E → Type 0) {a b : Option (List ℕ)} {bs : List ℕ}
    (r : Result (Unit {0}) E) → IsErrAnd r F → AppendsPart a b bs → Writes r a b bs
failed F (Ok u) e p = absurd e
failed F (Err x) e p = p
