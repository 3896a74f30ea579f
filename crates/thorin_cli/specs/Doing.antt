-- What the program does: the command that words ask for, with the status of its answer.
use Rattle.std.specs.Prelude.{◌≡◌, ◌≤◌, ◌⊎◌, ◌==◌, ◌&&◌, ℕ, Bool, true, false, not, List, [], ◌∷◌}
use Rattle.std.specs.Prelude.{codes, Option, Some, Result, Ok, Err, IfOk, IfErr, IsErr}
use Rattle.std.specs.Prelude.{if◌then◌else◌}
use Rattle.std.specs.List.{list_any}
use Rattle.clap.specs.Walk.{Text}
use Rattle.thorin_print.specs.Answers.{exit_status}
use Rattle.thorin_print.specs.Failures.{failure_text}
use Rattle.thorin_print.specs.declared.form.Form.TheVariants.{Lines}
use Rattle.thorin_print.specs.declared.output.Failure.{Failure}
use Rattle.thorin_print.specs.declared.output.Failure.TheVariants as failures
use Rattle.thorin_find.specs.Finding.{Finds}
use Rattle.thorin_find.specs.Listing.{Lists}
use Rattle.thorin_check.specs.Checking.{Checks}
use Rattle.thorin_reading.specs.Taken.{Takes}
use Rattle.thorin_words.specs.Responses.{CannotBeTold, Stands}
use Rattle.thorin_words.specs.declared.responses.ResponseError.{ResponseError}
use Rattle.thorin_output.specs.Files.{Begins, Begun, Put}
use Rattle.thorin_output.specs.Reads.{Identity}
use Rattle.thorin_commands.specs.Cause.{HasLine, IsCauseFor, Told}
use Rattle.thorin_commands.specs.Failing.{FailsPacking}
use Rattle.thorin_commands.specs.Naming.{IsNameless}
use Rattle.thorin_commands.specs.Packing.{Fails, IsNoInput, Packs, declines, out_of, paths_in}
use Rattle.thorin_commands.specs.Packing.{reads}
use Rattle.thorin_commands.specs.Taken.{Offer}
use Rattle.thorin_commands.specs.Warned.{PacksTelling}
use Rattle.thorin_commands.specs.declared.packing.Packing.{Packing}
use Rattle.thorin_arguments.specs.Asked as calls
use Rattle.thorin_arguments.specs.Asked.{Call, Does, IsCallOf}
use Rattle.thorin_arguments.specs.Peers.{is_peer}
use Rattle.thorin_cli.specs.Settings.{list_form, packing_for, reading_for, words_for}
use Rattle.thorin_cli.specs.Telling.{response_text}
use Rattle.thorin_cli.specs.declared.system.ProgramManner.{ProgramManner}

-- what is known of a system: what a read of a file that is packed may answer, by what it may be
-- known, and which were begun; what standard output has, and that a write to it failed; what
-- standard error has, and that a line couldn't be printed to it; what a read of any other file may
-- answer
pub record System (F O E : Type 0) : Type 1 where
  pub offer : F → Offer
  pub known : F → List ℕ → Identity → Type 0
  pub begun : F → Option (List Begun)
  pub contents : O → Option (List ℕ)
  pub failed : O → Type 0
  pub told : E → Option (List ℕ)
  pub untold : E → Type 0
  pub read : Offer

-- the files that are packed, standard output, and standard error at a moment
pub record State (F O E : Type 0) : Type 0 where
  pub files : F
  pub out : O
  pub err : E

abbrev pub Untouched : {F O E : Type 0} → (old new : State F O E) → Type 0
Untouched old new = (new.files ≡ old.files) × (new.out ≡ old.out)

-- the status of an answer: its own; of a failure the failure's, and its line was printed; or 1,
-- since a line couldn't be printed, or nothing more to standard output
abbrev pub HasStatus : {F O E : Type 0} → System F O E → (new : State F O E) → Result ℕ Failure
    → (status : ℕ) → Type 0
HasStatus system new (Ok answer) status = status ≡ answer
HasStatus system new (Err failure) status =
    ((status ≡ exit_status failure) × HasLine system.told new.err (failure_text failure))
    ⊎ ((status ≡ 1) × (system.untold new.err
    ⊎ ((failure ≡ failures.Line) × system.failed new.out)))

-- a command answered, and that is its status
pub record Answers {F O E : Type 0} (system : System F O E) (new : State F O E)
    (P : Result ℕ Failure → Type 0) (status : ℕ) : Type 0 where
  pub answer : Result ℕ Failure
  pub has : HasStatus system new answer status
  pub done : P answer

-- ---- the commands

-- `pack`: at 0 the package was put under its name, and just what there is to tell was told; at 1
-- nothing was touched, for a cause that was told; at a failure nothing, or the package was begun,
-- and why; and without `force` it took the place of no input
pub record DoesPacking {F O E : Type 0} (system : System F O E) (packing : Packing)
    (old new : State F O E) (answer : Result ℕ Failure) : Type 0 where
  pub packed : answer ≡ Ok 0 → Packs (reads packing (system.offer old.files)) packing
      (Put system.begun system.contents old.files new.files old.out new.out)
  pub warned : answer ≡ Ok 0 → PacksTelling (reads packing (system.offer old.files)) packing
      (Put system.begun system.contents old.files new.files old.out new.out)
      (system.told old.err) (system.told new.err)
  pub status : IfOk answer (λ status. status ≤ 1)
  pub refused : answer ≡ Ok 1 → Untouched old new
  pub told : answer ≡ Ok 1 → Told system.told new.err (IsCauseFor
      (reads packing (system.offer old.files)) (declines packing (system.offer old.files)) packing)
  pub failed : IfErr answer (λ failure. Fails failure (Untouched old new)
      (Packs (reads packing (system.offer old.files)) packing
      (Begins system.begun system.contents old.files new.files old.out new.out)))
  pub why : IfErr answer (FailsPacking system.offer system.known system.begun system.contents
      packing old.files new.files old.out new.out (system.untold new.err))
  pub apart : packing.force ≡ false
      → (new.files ≡ old.files) ⊎ IsNoInput (system.known old.files) packing

-- `check` of the package that would be made; or there is no name for it
abbrev pub Verifies : {F O E : Type 0} → System F O E → Packing → (old new : State F O E)
    → Result ℕ Failure → Type 0
Verifies system packing old new answer = (new.files ≡ old.files)
    × (((name : List ℕ) × (out_of packing ≡ Some name)
    × Checks (Takes packing.decompresses system.read) name (record {
      paths = paths_in packing.executables;
      reading = record { form = Lines; nameless = packing.nameless };
    }) (system.contents old.out) (system.contents new.out) answer)
    ⊎ (IsErr answer × IfErr answer (IsNameless (out_of packing)) × (new.out ≡ old.out)))

-- the missing objects are listed, and nothing is packed
abbrev pub ListsMissing : {F O E : Type 0} → (old new : State F O E) → Result ℕ Failure → Type 0
ListsMissing old new answer = (new.files ≡ old.files) × IfOk answer (λ status. status ≤ 1)

abbrev pub DoesPack : {F O E : Type 0} → System F O E → Packing → (verifies lists : Bool)
    → (old new : State F O E) → Result ℕ Failure → Type 0
DoesPack system packing true lists old new answer = Verifies system packing old new answer
DoesPack system packing false true old new answer = ListsMissing old new answer
DoesPack system packing false false old new answer = DoesPacking system packing old new answer

-- a text was shown; or why it couldn't be
abbrev pub HasShown : {F O E : Type 0} → System F O E → (new : State F O E) → (status : ℕ) → Type 0
HasShown system new status = (status ≡ 0) ⊎ HasStatus system new (Err failures.Line) status

-- words were refused; or that couldn't be printed
abbrev pub HasRefused : {F O E : Type 0} → System F O E → (new : State F O E) → (status : ℕ)
    → Type 0
HasRefused system new status = (status ≡ 2) ⊎ ((status ≡ 1) × system.untold new.err)

-- what a call does, and its status
abbrev pub DoesCall : {F O E : Type 0} → System F O E → ProgramManner → (old : State F O E) → Call
    → (status : ℕ) → (new : State F O E) → Type 0
DoesCall system manner old (calls.Packs a) status new =
    Answers system new
    (DoesPack system (packing_for manner a) a.verifies_only a.lists_missing old new) status
DoesCall system manner old (calls.Finds a) status new = (new.files ≡ old.files)
    × Answers system new (Finds (Takes a.decompresses system.read) a.file.now (words_for a)
    (system.contents old.out) (system.contents new.out)) status
DoesCall system manner old (calls.Lists file a) status new = (new.files ≡ old.files)
    × Answers system new (Lists (Takes a.decompresses system.read) file.now (list_form a)
    (system.contents old.out) (system.contents new.out)) status
DoesCall system manner old (calls.Checks a) status new = (new.files ≡ old.files)
    × Answers system new (Checks (Takes a.decompresses system.read) a.file.now
    (record { paths = a.executables.now; reading = reading_for a })
    (system.contents old.out) (system.contents new.out)) status
DoesCall system manner old calls.Shows status new =
    (new.files ≡ old.files) × HasShown system new status
DoesCall system manner old calls.Refuses status new =
    Untouched old new × HasRefused system new status
DoesCall system manner old calls.LacksMemory status new =
    Untouched old new × HasStatus system new (Err failures.Memory) status

-- ---- from the words on

-- a peer's name, without folders
abbrev pub is_name_of_peer : Text → Bool
is_name_of_peer word = not (list_any (λ byte. byte == 47) word) && is_peer word

-- the program's name, and the words behind it; a peer's name that stands where a command does takes
-- the place of the program's own
abbrev pub named : (program : Text) → List Text → Text × List Text
named program [] = (program, [])
named program (word ∷ line) = if is_name_of_peer word && not (is_peer program)
    then (word, line) else (program, word ∷ line)

abbrev pub line_of : List Text → Text × List Text
line_of [] = (codes "thorin", [])
line_of (program ∷ line) = named program line

-- words can't be told, and the error of such a cause was, unless that couldn't be done
pub record HasTold {F O E : Type 0} (system : System F O E) (text : Text → Option Text → Type 0)
    (fails : Text → ResponseError → Type 0) (words : List Text) (new : State F O E) : Type 0 where
  pub cause : ResponseError
  pub is : CannotBeTold text fails words cause
  pub line : HasLine system.told new.err (response_text cause) ⊎ system.untold new.err

-- the words of response files, which `text` says, stand in the place of their names, and then one
-- call was made that the words ask for; or these can't be told, as `fails` says by which error a
-- file can't be read, an error says why, and nothing was touched
abbrev pub Runs : {F O E : Type 0} → System F O E → (text : Text → Option Text → Type 0)
    → (fails : Text → ResponseError → Type 0) → (on_terminal : Bool) → (line : Text × List Text)
    → (old : State F O E) → (status : ℕ) → (new : State F O E) → Type 0
Runs system text fails on_terminal line old status new =
    ((own : List Text) × Stands text [] line.1 (Ok own)
    × Does (DoesCall system (record { of_peer = is_peer line.0; on_terminal = on_terminal }))
    (IsCallOf (line.0 ∷ own)) old status new)
    ⊎ ((status ≡ 1) × Untouched old new × HasTold system text fails line.1 new)
