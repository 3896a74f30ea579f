-- The files that the program begins, and what it hands to them.
use Rattle.std.specs.Prelude.{◌≡◌, ℕ, Bool, true, false, List, [], ◌∷◌, ◌++◌, take, codes, Option}
use Rattle.std.specs.Prelude.{Some, None, ◌⊎◌}
use Rattle.std.specs.Io.KnownBytes.{Appends}
use Rattle.std.specs.Str.{bytes_eq}
use Rattle.thorin_print.specs.declared.output.Failure.{Failure}
use Rattle.thorin_print.specs.declared.output.Failure.TheVariants as failures

-- a file that was begun: its name, with all its bytes where it was written to its end
abbrev pub Begun : Type 0
Begun = List ℕ × Option (List ℕ)

-- where the files that were begun are known, one more was
abbrev pub Adds : Option (List Begun) → Option (List Begun) → Begun → Type 0
Adds None new file = Unit {0}
Adds (Some files) None file = ⊥
Adds (Some files) (Some more) file = more ≡ files ++ file ∷ []

-- where a writer's bytes are known, a beginning of some bytes was added, or all of them
unfoldable pub HasBeginning : Option (List ℕ) → Option (List ℕ) → List ℕ → Type 0
HasBeginning old new bytes = (count : ℕ) × Appends old new (take count bytes)

-- what a write may fail by
abbrev pub IsOfWriting : Failure → Type 0
IsOfWriting failures.Output = Unit {0}
IsOfWriting failures.Line = Unit {0}
IsOfWriting failures.Memory = Unit {0}
IsOfWriting _ = ⊥

-- what writing a file may fail by
abbrev pub IsOfFile : Failure → Type 0
IsOfFile failures.Output = Unit {0}
IsOfFile failures.Memory = Unit {0}
IsOfFile _ = ⊥

-- `-` names a stream, and anything else a file
abbrev pub is_stream : List ℕ → Bool
is_stream name = bytes_eq name (codes "-")

-- a text was put under a name: the stream has it behind what it had, and nothing else was written;
-- or a file of that name has it and nothing else, and the stream is as it was
abbrev pub PutIn : {F O : Type 0} → (F → Option (List Begun)) → (O → Option (List ℕ))
    → (files files' : F) (out out' : O) → Bool → (name text : List ℕ) → Type 0
PutIn begun contents files files' out out' true name text =
    (files' ≡ files) × Appends (contents out) (contents out') text
PutIn begun contents files files' out out' false name text =
    Adds (begun files) (begun files') (name, Some text) × (out' ≡ out)

unfoldable pub Put : {F O : Type 0} → (F → Option (List Begun)) → (O → Option (List ℕ))
    → (files files' : F) (out out' : O) → (name text : List ℕ) → Type 0
Put begun contents files files' out out' name text =
    PutIn begun contents files files' out out' (is_stream name) name text

-- that was begun: the stream has a beginning of the text; or the file may not have all of it
abbrev pub BeginsIn : {F O : Type 0} → (F → Option (List Begun)) → (O → Option (List ℕ))
    → (files files' : F) (out out' : O) → Bool → (name text : List ℕ) → Type 0
BeginsIn begun contents files files' out out' true name text =
    (files' ≡ files) × HasBeginning (contents out) (contents out') text
BeginsIn begun contents files files' out out' false name text =
    (Adds (begun files) (begun files') (name, Some text)
    ⊎ Adds (begun files) (begun files') (name, None)) × (out' ≡ out)

unfoldable pub Begins : {F O : Type 0} → (F → Option (List Begun)) → (O → Option (List ℕ))
    → (files files' : F) (out out' : O) → (name text : List ℕ) → Type 0
Begins begun contents files files' out out' name text =
    BeginsIn begun contents files files' out out' (is_stream name) name text

-- ---- why that failed

-- a file of a name was begun, and not written to its end
pub record IsUnwritten {F O : Type 0} (begun : F → Option (List Begun)) (files files' : F)
    (out out' : O) (name : List ℕ) : Type 0 where
  pub a_file : is_stream name ≡ false
  pub added : Adds (begun files) (begun files') (name, None)
  pub same : out' ≡ out

-- the stream didn't take all of a text
pub record IsCutShort {F O : Type 0} (contents : O → Option (List ℕ)) (files files' : F)
    (out out' : O) (name text : List ℕ) : Type 0 where
  pub a_stream : is_stream name ≡ true
  pub begun : HasBeginning (contents out) (contents out') text
  pub same : files' ≡ files

-- the file wasn't written to its end; the stream didn't take all, or a line behind it wasn't taken;
-- or memory ran out
abbrev pub IsWhyUnwritten : (unwritten cut_short failed : Type 0) → Failure → Type 0
IsWhyUnwritten unwritten cut_short failed failures.Output = unwritten
IsWhyUnwritten unwritten cut_short failed failures.Line = cut_short ⊎ failed
IsWhyUnwritten unwritten cut_short failed failures.Memory = Unit {0}
IsWhyUnwritten unwritten cut_short failed _ = ⊥
