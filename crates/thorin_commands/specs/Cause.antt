-- Why nothing was packed where the program answers 1, and the line that tells it.
use Rattle.std.specs.Prelude.{◌≡◌, ◌≢◌, ◌⊎◌, ℕ, List, [], ◌∷◌, ◌++◌, Bool, true, false}
use Rattle.std.specs.Prelude.{Option, Some, None, IsSome, Ok, Err}
use Rattle.std.specs.Borrow.{Bor}
use Rattle.std.specs.Option.{option_map}
use Rattle.std.specs.Path.{path_bytes}
use Rattle.std.specs.declared.path.Path.{Path}
use Rattle.dwp_archive.specs.Entries.{Member}
use Rattle.dwp_archive.specs.Members.{members_of}
use Rattle.dwp_archive.specs.Texts.{archive_text}
use Rattle.dwp_archive.specs.declared.error.ArchiveError.{ArchiveError}
use Rattle.dwp_archive.specs.declared.error.ArchiveError.TheVariants as archive_errors
use Rattle.thorin_errors.specs.Answers.{MemoryAside}
use Rattle.thorin_errors.specs.Errors.{ErrorValue, error_of}
use Rattle.thorin_errors.specs.Text.{error_text}
use Rattle.thorin_errors.specs.declared.error.Error.{Error}
use Rattle.thorin_errors.specs.declared.error.Error.TheVariants as errors
use Rattle.thorin_errors.specs.declared.error.InputError.{InputError}
use Rattle.thorin_join.specs.Builder.{State, start}
use Rattle.thorin_builder.specs.Reading.{IsRead, OnDeclined, OnFailed, error_in}
use Rattle.thorin_builder.specs.Reading.{unread}
use Rattle.thorin_builder.specs.declared.reader.NotTaken.{NotTaken}
use Rattle.thorin_builder.specs.declared.reader.NotTaken.TheVariants.{Failed, Declined}
use Rattle.thorin.specs.Run.{DeclinesInput, RefusesToWrite, Took}
use Rattle.thorin.specs.declared.packing.Input.{Input}
use Rattle.thorin.specs.declared.packing.Input.TheVariants as inputs
use Rattle.thorin_words.specs.Printed.{printed}
use Rattle.thorin_print.specs.Failures.{error_line}
use Rattle.thorin_print.specs.declared.output.Failure.{Failure}
use Rattle.thorin_print.specs.declared.output.Failure.TheVariants as failures
use Rattle.thorin_inputs.specs.Growth.{growth_text}
use Rattle.thorin_inputs.specs.declared.growth.Growth.{Growth}
use Rattle.thorin_commands.specs.Archives.{StandsFor, is_archive, split_contents}
use Rattle.thorin_commands.specs.Opened.{TookEach, TookInputs, left}
use Rattle.thorin_commands.specs.Packing.{AreAsked, manner_of}
use Rattle.thorin_commands.specs.Taken.{DeclinesBytes, IsTakenFor, Manner, Offer}
use Rattle.thorin_commands.specs.declared.packing.Packing.{Packing}
use Rattle.thorin_commands.specs.declared.packing.NoPackage.{NoPackage}
use Rattle.thorin_commands.specs.declared.packing.NoPackage.TheVariants as refusals

-- ---- the line

-- a writer whose bytes are known at all times has the line of a text among them
unfoldable pub HasLine : {W : Type 0} → (contents : W → Option (List ℕ)) → W → (text : List ℕ)
    → Type 0
HasLine contents writer text = ((w : _) → IsSome (contents w))
    → (before : List ℕ) × (after : List ℕ)
    × (contents writer ≡ Some (before ++ (error_line text ++ after)))

-- the same of a text that is known
abbrev pub Tells : {W : Type 0} → (contents : W → Option (List ℕ)) → W → (text : Option (List ℕ))
    → Type 0
Tells contents writer None = Unit {0}
Tells contents writer (Some text) = HasLine contents writer text

-- the text of an error, in which names out of files have no control characters; of one that only
-- passes on a cause it isn't stated
abbrev pub told_text : ErrorValue → Option (List ℕ)
told_text error = option_map printed (error_text error)

-- the text of why an input wasn't taken
abbrev pub refusal_text : NotTaken Error Growth → Option (List ℕ)
refusal_text (Failed error) = told_text (error_of error)
refusal_text (Declined why) = Some (growth_text why)

-- ---- the cause

-- an input, or a member of an archive, wasn't taken; the members of an archive can't be told; or
-- all inputs were taken, and the package can't be finished, or its file has too large a number
pub data Cause : Type 0 where
  Untaken : (why : NotTaken Error Growth) → Cause
  Malformed : (error : ArchiveError) → Cause
  Unfinished : (error : Error) → Cause

-- what is told of it
abbrev pub text_of : Cause → Option (List ℕ)
text_of (Untaken why) = refusal_text why
text_of (Malformed error) = Some (archive_text error)
text_of (Unfinished error) = told_text (error_of error)

-- why the file at a path may be declined, an input's own or one that an executable names
abbrev pub Reasons : Type 1
Reasons = (own : Bool) → (path : List ℕ) → Growth → Type 0

-- an input was refused: by its first error, want of memory aside; or its file is declined, or that
-- of a unit that an executable names
pub record IsRefused (offer : Offer) (declines : Reasons) (input : Input) (state : State)
    (why : NotTaken Error Growth) : Type 0 where
  pub new : State
  pub took : Took offer input state (Err (error_in why)) new
  pub declined : OnDeclined {X = Unit {0}} (Err why) (DeclinesInput offer declines input state)

-- the same of bytes
pub record AreRefused (offer : Offer) (declines : Reasons) (bytes : List ℕ) (state : State)
    (why : NotTaken Error Growth) : Type 0 where
  pub input : Bor (List ℕ)
  pub is : input.now ≡ bytes
  pub refused : IsRefused offer declines (inputs.Bytes input) state why

-- the content of a member is declined, want of memory aside
pub record IsUnfit (manner : Manner) (content : List ℕ) (why : NotTaken Error Growth)
    : Type 0 where
  pub declined : OnDeclined {X = Unit {0}} (Err why) (DeclinesBytes manner content)
  pub failed : OnFailed {X = Unit {0}} (Err why) (λ error. error ≡ errors.Memory)

-- or what is taken for it was refused
pub record IsTakenNot (offer : Offer) (declines : Reasons) (manner : Manner) (content : List ℕ)
    (state : State) (why : NotTaken Error Growth) : Type 0 where
  pub taken : List ℕ
  pub is : IsTakenFor manner content taken
  pub refused : AreRefused offer declines taken state why

-- of contents the first that isn't taken: those before it were
pub record StopsAmong (offer : Offer) (declines : Reasons) (manner : Manner)
    (contents : List (List ℕ)) (old : State) (why : NotTaken Error Growth) : Type 0 where
  pub front : List (List ℕ)
  pub content : List ℕ
  pub rest : List (List ℕ)
  pub list_is : contents ≡ front ++ content ∷ rest
  pub state : State
  pub took : TookEach manner offer front old state
  pub refused : IsUnfit manner content why ⊎ IsTakenNot offer declines manner content state why

-- an archive isn't taken: its members can't be told, or one that has split units isn't taken
pub data StopsIn (offer : Offer) (declines : Reasons) (manner : Manner) (file : List ℕ)
    (old : State) : Cause → Type 0 where
  Bad : (error : ArchiveError) → members_of file ≡ Err error
      → StopsIn offer declines manner file old (Malformed error)
  Among : (members : List Member) (why : NotTaken Error Growth) → members_of file ≡ Ok members
      → StopsAmong offer declines manner (split_contents members) old why
      → StopsIn offer declines manner file old (Untaken why)

-- an input isn't taken: it stands for itself and was refused; or it is a file that may be an
-- archive, and can't be read; or is none and was refused; or is one that isn't taken
pub data IsNotTaken (opens : Bool) (manner : Manner) (offer : Offer) (declines : Reasons)
    : Input → State → Cause → Type 0 where
  Alone : (input : Input) (state : State) (why : NotTaken Error Growth)
      → StandsFor opens manner offer input (input ∷ [])
      → IsRefused offer declines input state why
      → IsNotTaken opens manner offer declines input state (Untaken why)
  Unread : (path : Path) (state : State) (why : NotTaken InputError Growth) → opens ≡ true
      → IsRead (offer (path_bytes path)) (declines true (path_bytes path)) (Err why)
      → IsNotTaken opens manner offer declines (inputs.Object path) state (Untaken (unread why))
  Plain : (path : Path) (state : State) (file : List ℕ) (why : NotTaken Error Growth)
      → opens ≡ true → offer (path_bytes path) (Ok file) → is_archive file ≡ false
      → AreRefused offer declines file state why
      → IsNotTaken opens manner offer declines (inputs.Object path) state (Untaken why)
  Archive : (path : Path) (state : State) (file : List ℕ) (cause : Cause) → opens ≡ true
      → offer (path_bytes path) (Ok file) → is_archive file ≡ true
      → StopsIn offer declines manner file state cause
      → IsNotTaken opens manner offer declines (inputs.Object path) state cause

-- an input or content isn't taken, for a reason of these
pub record IsUntaken (Reason : NotTaken Error Growth → Type 0) (cause : Cause) : Type 0 where
  pub why : NotTaken Error Growth
  pub is : cause ≡ Untaken why
  pub reason : Reason why

-- the members of an archive can't be told, for an error that isn't want of memory
pub record IsMalformed (error : ArchiveError) (cause : Cause) : Type 0 where
  pub is : cause ≡ Malformed error
  pub no_memory : error ≢ archive_errors.Memory

-- of inputs the first that isn't taken: what those before it stand for was taken
pub record StopsAt (opens : Bool) (manner : Manner) (offer : Offer) (declines : Reasons)
    (list : List Input) (old : State) (cause : Cause) : Type 0 where
  pub front : List Input
  pub input : Input
  pub rest : List Input
  pub list_is : list ≡ front ++ input ∷ rest
  pub state : State
  pub took : TookInputs opens manner offer front old state
  pub refused : IsNotTaken opens manner offer declines input state cause

-- a package can't be finished, or be a file: its first error, want of memory aside
pub record IsUnfinished (state : State) (cause : Cause) : Type 0 where
  pub error : Error
  pub is : cause ≡ Unfinished error
  pub refuses : MemoryAside error (RefusesToWrite state (error_of error))

-- why there is no package of inputs: the first of them that isn't taken; or all were, and it can't
-- be finished once missing units were left out where that is asked for
pub data IsCauseOf (partial opens : Bool) (manner : Manner) (offer : Offer) (declines : Reasons)
    (list : List Input) (cause : Cause) : Type 0 where
  Taking : StopsAt opens manner offer declines list start cause
      → IsCauseOf partial opens manner offer declines list cause
  Finishing : (state : State) → TookInputs opens manner offer list start state
      → IsUnfinished (left partial state) cause
      → IsCauseOf partial opens manner offer declines list cause

-- the same of just the inputs that were asked for
pub record IsCauseFor (offer : Offer) (declines : Reasons) (packing : Packing) (cause : Cause)
    : Type 0 where
  pub list : List Input
  pub are : AreAsked packing list
  pub is : IsCauseOf packing.partial packing.opens_archives (manner_of packing) offer declines list
      cause

-- ---- what is told

-- a cause of these was told
pub record Told {W : Type 0} (contents : W → Option (List ℕ)) (writer : W)
    (Causes : Cause → Type 0) : Type 0 where
  pub cause : Cause
  pub is : Causes cause
  pub line : Tells contents writer (text_of cause)

-- why packing stopped before anything was written: a line wasn't taken, or memory ran out; or no
-- input began a package, and an executable couldn't be read a second time
abbrev pub Stops : (failed unsplit : Type 0) → Failure → Type 0
Stops failed unsplit failures.Line = failed
Stops failed unsplit failures.Memory = Unit {0}
Stops failed unsplit failures.Input = unsplit
Stops failed unsplit _ = ⊥

-- what is known of a refusal: a cause was told; or no input began a package, which isn't told yet;
-- or a step failed
abbrev pub Ends : (told unsplit : Type 0) → (Why : Failure → Type 0) → NoPackage → Type 0
Ends told unsplit Why refusals.Told = told
Ends told unsplit Why refusals.Empty = unsplit
Ends told unsplit Why (refusals.Command failure) = Why failure

-- before anything was written, by the causes that there may be
abbrev pub Refuses : {W : Type 0} → (contents : W → Option (List ℕ)) → (failed : W → Type 0) → W
    → (Cause → Type 0) → NoPackage → Type 0
Refuses contents failed writer Causes refusal = Ends (Told contents writer Causes)
    (Causes (Unfinished errors.NoOutputObjectCreated)) (Stops (failed writer)
    (Causes (Unfinished errors.NoOutputObjectCreated))) refusal
