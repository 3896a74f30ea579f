-- What standard error got stays there when notes follow.
use Rattle.std.proofs.Common.{codes, inl, inr, List, refl, ℕ, ◌≡◌, ◌⊎◌}
use Rattle.std.specs.Io.KnownBytes.{Appends}
use Rattle.std.specs.Prelude.{Err, Ok, Option, Result, Some}
use Rattle.thorin_cli.specs.Doing.{DoesPacking, HasStatus, HasTold, State, System}
use Rattle.thorin_cli.specs.Telling.{no_memory, response_text}
use Rattle.thorin_commands.specs.{Cause.HasLine, Cause.text_of, declared.packing.Packing.Packing}
use Rattle.thorin_commands.{proofs.Lines.followed, proofs.Lines.printed, specs.Failing.IsWhy}
use Rattle.thorin_print.specs.Failures.{error_line, failure_text, Reports}
use Rattle.thorin_print.specs.{Answers.Grows, declared.output.Failure.Failure}
use Rattle.thorin_words.specs.declared.responses.ResponseError.{ResponseError}
use Rattle.{std.proofs.lemmas.Result.IfErr-weaker, thorin_words.specs.Responses.CannotBeTold}
use Rattle.thorin_print.specs.declared.output.Failure.TheVariants as failures
use Rattle.thorin_words.specs.declared.responses.ResponseError.TheVariants as errors

-- a line that was printed stands behind what was there
pub appended : (a b : Option (List ℕ)) (text : List ℕ) → Appends a b text → Grows a b
appended a b text h = (text, h)

-- why packing failed, where it is more often known that a line wasn't taken
more : (known : _) (packing : Packing) (unsplit unwritten cut untold untold' : Type 0)
    → (untold → untold') → (failure : Failure)
    → IsWhy known packing unsplit unwritten (cut ⊎ untold) failure
    → IsWhy known packing unsplit unwritten (cut ⊎ untold') failure
more known packing unsplit unwritten cut untold untold' f failures.Line (inl c) = inl c
more known packing unsplit unwritten cut untold untold' f failures.Line (inr u) = inr (f u)
more known packing unsplit unwritten cut untold untold' f _ why = why

-- what is said of a file that can't be read
pub unreadable : (e : ResponseError) → (e ≡ errors.Unreadable)
    ⊎ ((e ≡ errors.TooMany) ⊎ (e ≡ errors.NotUtf8))
    → response_text e ≡ codes "Failed to read response file"
unreadable e (inl is) = rw is refl
unreadable e (inr (inl is)) = rw is refl
unreadable e (inr (inr is)) = rw is refl

module _ {F O E : Type 0} (system : System F O E) (files : F) (out : O) (old new : E) where
  abbrev before : State F O E
  before = record { files = files; out = out; err = old }

  abbrev after : State F O E
  after = record { files = files; out = out; err = new }

  -- a failure whose line was printed, unless that couldn't be
  pub reported : (failure : Failure) (status : ℕ)
      → Reports failure (system.told old) (system.told new) (system.untold new) status
      → HasStatus system after (Err failure) status
  reported failure status (inl (is, line)) =
      inl (is, printed system.told old new (failure_text failure) line)
  reported failure status (inr (is, untold)) = inr (is, inl untold)

  -- an error whose line was printed, unless that couldn't be, and notes behind it
  module _ (middle : E) (grows : Grows (system.told middle) (system.told new))
      (stays : system.untold middle → system.untold new) where
    abbrev Tried : (text : List ℕ) → Type 0
    Tried text =
        Appends (system.told old) (system.told middle) (error_line text) ⊎ system.untold middle

    tried : (text : List ℕ) → Tried text → HasLine system.told new text ⊎ system.untold new
    tried text (inl line) = inl (followed system.told middle new (Some text)
        (printed system.told old middle text line) grows)
    tried text (inr untold) = inr (stays untold)

    -- words can't be told, or memory ran out while that was said
    pub unread : (text : List ℕ → Option (List ℕ) → Type 0)
        (fails : List ℕ → ResponseError → Type 0) (words line : List (List ℕ)) (e : ResponseError)
        → CannotBeTold text fails words e → words ≡ line
        → Tried (response_text e) ⊎ Tried no_memory → HasTold system text fails line after
    unread text fails words line e is same (inl told) =
        record { cause = e; is = rw (← same) is; line = tried (response_text e) told }
    unread text fails words line e is same (inr told) =
        record { cause = errors.Memory; is = tt; line = tried no_memory told }

  pub noted : Grows (system.told old) (system.told new)
      → (system.untold old → system.untold new) → (failure : Failure) (status : ℕ)
      → HasStatus system before (Err failure) status → HasStatus system after (Err failure) status
  noted grows stays failure status (inl (is, line)) =
      inl (is, followed system.told old new (Some (failure_text failure)) line grows)
  noted grows stays failure status (inr (is, inl untold)) = inr (is, inl (stays untold))
  noted grows stays failure status (inr (is, inr failed)) = inr (is, inr failed)

  -- what came of packing that made no package, whatever was printed behind that
  pub unpacked : (system.untold old → system.untold new) → (packing : Packing)
      (start : State F O E) (answer : Result ℕ Failure) → ¬ (answer ≡ Ok 0)
      → (answer ≡ Ok 1 → Grows (system.told old) (system.told new))
      → DoesPacking system packing start before answer
      → DoesPacking system packing start after answer
  unpacked stays packing start answer not grows does = record {
    packed = does.packed;
    warned = λ is. absurd (not is);
    status = does.status;
    refused = does.refused;
    told = λ is. record {
      cause = (does.told is).cause;
      is = (does.told is).is;
      line = followed system.told old new (text_of (does.told is).cause) (does.told is).line
          (grows is);
    };
    failed = does.failed;
    why = IfErr-weaker answer _ _ (λ failure why. more _ packing _ _ _ _ _ stays failure why)
        does.why;
    apart = does.apart;
  }
