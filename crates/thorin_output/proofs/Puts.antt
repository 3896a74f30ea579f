-- What was put under a name, or begun.
use Rattle.dwp_elf.specs.{FileText.file_text, FileText.Object, Refusals.RefusesWriter}
use Rattle.dwp_elf_read.specs.declared.error.WriteError.TheVariants.{Io, Memory, NumberTooLarge}
use Rattle.std.proofs.Common.{arith, false, inl, inr, length, List, true, [], ℕ, ◌≡◌}
use Rattle.std.proofs.{KnownBytes.Appends-kept, KnownBytes.Appends-nil, lemmas.List.take_all}
use Rattle.std.specs.{Prelude.codes, Prelude.None, Prelude.Option, Prelude.Some, Str.bytes_eq}
use Rattle.thorin_output.specs.Files.{Adds, IsCutShort, IsOfFile}
use Rattle.thorin_output.specs.Files.{Begins, Begun, HasBeginning, IsUnwritten, IsWhyUnwritten, Put}
use Rattle.thorin_output.specs.Warnings.{IsPrinted, IsWarning}
use Rattle.thorin_print.specs.Answers.{FailsBy, IsOfPrinting}
use Rattle.{dwp_base.proofs.Bools.by-bool, dwp_elf_read.specs.declared.error.WriteError.WriteError}
use Rattle.{std.specs.Io.KnownBytes.Appends, thorin_output.specs.declared.warnings.Warned.Warned}
use Rattle.{std.specs.Io.KnownBytes.Keeps, thorin_print.specs.declared.output.Failure.Failure}
use Rattle.thorin_print.specs.declared.output.Failure.TheVariants as failures

-- a package whose writing was refused was begun
pub begun : (o : Object) (old new : Option (List ℕ)) (e : WriteError) → RefusesWriter o old new e
    → HasBeginning old new (file_text o)
unfolding HasBeginning
begun o old new NumberTooLarge h = (0, Appends-kept old old new [] (Appends-nil old) h.1)
begun o old new Memory h = absurd h
begun o old new (Io e) h = (h.1.count, h.1.appended)

-- all of it is a beginning
pub whole : (old new : Option (List ℕ)) (bytes : List ℕ) → Appends old new bytes
    → HasBeginning old new bytes
unfolding HasBeginning
whole old new bytes h = (length bytes, rw (take_all (length bytes) bytes (omega arith)) h)

module _ {F O : Type 0} (begins : F → Option (List Begun)) (contents : O → Option (List ℕ))
    (files files' : F) (out out' : O) (name text : List ℕ) where
  -- in the stream, and in a file
  pub put_stream : bytes_eq name (codes "-") ≡ true → files' ≡ files → Appends
      (contents out) (contents out') text → Put begins contents files files' out out' name text
  unfolding Put
  put_stream e same added = rw e (same, added)

  pub put_file : bytes_eq name (codes "-") ≡ false → Adds (begins files) (begins files')
      (name, Some text) → out' ≡ out → Put begins contents files files' out out' name text
  unfolding Put
  put_file e added same = rw e (added, same)

  pub begins_stream : bytes_eq name (codes "-") ≡ true → files' ≡ files → HasBeginning
      (contents out) (contents out') text → Begins begins contents files files' out out' name text
  unfolding Begins
  begins_stream e same added = rw e (same, added)

  pub begins_file : bytes_eq name (codes "-") ≡ false → Adds (begins files) (begins files')
      (name, None) → out' ≡ out → Begins begins contents files files' out out' name text
  unfolding Begins
  begins_file e added same = rw e (inr added, same)

  -- what was put was begun
  pub put_begins : Put begins contents files files' out out' name text
      → Begins begins contents files files' out out' name text
  unfolding Put Begins
  put_begins h = by-bool _ (bytes_eq name (codes "-"))
      (λ e. let was = rw e at h in rw e (was.0, whole (contents out) (contents out') text was.1))
      (λ e. let was = rw e at h in rw e (inl was.0, was.1))

  -- why that failed, in the stream and in a file
  pub why_stream : bytes_eq name (codes "-") ≡ true → files' ≡ files
      → HasBeginning (contents out) (contents out') text → (failure : Failure)
      → IsOfPrinting failure → IsWhyUnwritten (IsUnwritten begins files files' out out' name)
      (IsCutShort contents files files' out out' name text) ⊥ failure
  why_stream e same begun failures.Line h =
      inl (record { a_stream = e; begun = begun; same = same })
  why_stream e same begun failures.Memory h = tt
  why_stream e same begun _ h = absurd h

  pub why_file : bytes_eq name (codes "-") ≡ false
      → Adds (begins files) (begins files') (name, None) → out' ≡ out → (failure : Failure)
      → IsOfFile failure → IsWhyUnwritten (IsUnwritten begins files files' out out' name)
      (IsCutShort contents files files' out out' name text) ⊥ failure
  why_file e added same failures.Output h = record { a_file = e; added = added; same = same }
  why_file e added same failures.Memory h = tt
  why_file e added same _ h = absurd h

pub ruleset puts = (
  put_stream,
  put_file,
  begins_stream,
  begins_file,
  why_stream,
  why_file,
  begun,
  whole,
  Appends-kept,
)

-- why lines behind a package weren't printed, or it wasn't written
pub why_package : (U C X : Type 0) (failure : Failure) → IsWhyUnwritten U C ⊥ failure
    → IsWhyUnwritten U C X failure
why_package U C X failures.Output h = h
why_package U C X failures.Line (inl h) = inl h
why_package U C X failures.Line (inr h) = absurd h
why_package U C X failures.Memory h = tt
why_package U C X _ h = absurd h

pub why_line : (U C X : Type 0) (failure : Failure) → FailsBy X failure
    → IsWhyUnwritten U C X failure
why_line U C X failures.Line h = inr h
why_line U C X failures.Memory h = tt
why_line U C X _ h = absurd h

pub ruleset warned = (put_begins, why_package, why_line)

-- the warnings that were printed, and handed over
pub printed : {warned : Warned} (old middle new : Option (List ℕ)) (text : List ℕ) → IsWarning
    warned text → Appends old middle text → Keeps middle new → IsPrinted old new (IsWarning warned)
printed old middle new text is added kept =
    record { text = text; is = is; added = Appends-kept old middle new text added kept }
