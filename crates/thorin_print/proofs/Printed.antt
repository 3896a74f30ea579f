-- What was printed, or begun.
use Rattle.std.proofs.Common.{append-nil, append_assoc, arith, List, None, Option, Result, take_all}
use Rattle.std.proofs.Common.{length, Some, sym, take, [], ℕ, ◌++◌, ◌≡◌}
use Rattle.std.proofs.KnownBytes.{Appends-kept, Appends-nil, Appends-trans}
use Rattle.std.{proofs.Math.Seq.take-append_seam, specs.Io.KnownBytes.Appends}
use Rattle.thorin_print.specs.Answers.{Comes, Grows, HasBeginning}
use Rattle.{std.specs.Io.KnownBytes.Keeps, thorin_print.specs.declared.output.Failure.Failure}
pub use Rattle.std.proofs.KnownBytes.{Appends-kept as flushed}

-- all of it is a beginning
pub whole : (old new : Option (List ℕ)) (bytes : List ℕ) → Appends old new bytes
    → HasBeginning old new bytes
unfolding HasBeginning
whole old new bytes h = (length bytes, rw (take_all (length bytes) bytes (omega arith)) h)

-- all was printed, and the answer is the one that is meant
pub came : (given : Result ℕ Failure) (text : List ℕ) (old new : Option (List ℕ))
    → Appends old new text → Comes given (record { printed = text; answer = given }) old new
came given text old new h = grind (arith, whole old new text h)

-- nothing was handed over
pub nothing : (a : Option (List ℕ)) (bytes : List ℕ) → HasBeginning a a bytes
unfolding HasBeginning
nothing a bytes = (0, Appends-nil a)

-- of all, everything but a rest was handed over
pub record SoFar (old new : Option (List ℕ)) (all rest : List ℕ) : Type 0 where
  pub done : List ℕ
  pub split : all ≡ done ++ rest
  pub appended : Appends old new done

-- and more of it
pub so_far_more : {a b : Option (List ℕ)} {all : List ℕ} (c : Option (List ℕ))
    (rest piece rest' : List ℕ) → SoFar a b all rest → rest ≡ piece ++ rest'
    → Appends b c piece → SoFar a c all rest'
so_far_more {a = a} {b = b} c rest piece rest' s e p = record {
  done = s.done ++ piece;
  split = rw (s.split, e) (sym (append_assoc s.done piece rest'));
  appended = Appends-trans a b c s.done piece s.appended p;
}

-- and nothing more
pub so_far_kept : {a b : Option (List ℕ)} {all rest : List ℕ} (c : Option (List ℕ))
    → SoFar a b all rest → Keeps b c → SoFar a c all rest
so_far_kept {a = a} {b = b} c s k = record {
  done = s.done;
  split = s.split;
  appended = Appends-kept a b c s.done s.appended k;
}

-- what was handed over so far is a beginning, where nothing more was
pub part : (old middle new : Option (List ℕ)) (all rest : List ℕ) → SoFar old middle all rest
    → Keeps middle new → HasBeginning old new all
unfolding HasBeginning
part old middle new all rest s k =
    let kept = Appends-kept old middle new s.done s.appended k in
    (length s.done, rw (s.split, take-append_seam s.done rest) kept)

-- a write that took no bytes
pub none_taken : (old new : Option (List ℕ)) (bytes : List ℕ)
    → Appends old new (take 0 bytes) → Keeps old new
none_taken None new bytes h = tt
none_taken (Some x) None bytes h = absurd h
none_taken (Some x) (Some y) bytes h = rw append-nil at h

-- ---- something was printed

pub begun : (old new : Option (List ℕ)) (bytes : List ℕ) → HasBeginning old new bytes
    → Grows old new
unfolding HasBeginning
begun old new bytes h = (_, h.1)

pub none_grown : (a : Option (List ℕ)) → Grows a a
none_grown a = ([], Appends-nil a)

pub grown : (a b c : Option (List ℕ)) → Grows a b → Grows b c → Grows a c
grown a b c p q = (p.0 ++ q.0, Appends-trans a b c p.0 q.0 p.1 q.1)

-- a writer that was told to hand on what was printed, and did not
pub not_flushed : (a b c : Option (List ℕ)) (text : List ℕ) → Appends a b text → Keeps b c
    → Grows a c
not_flushed a b c text h k = (text, Appends-kept a b c text h k)
