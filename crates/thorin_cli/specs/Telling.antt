-- What comes of telling an error.
use Rattle.std.specs.Prelude.{◌⊎◌, ◌++◌, ℕ, List, Option, codes, string_bytes}
use Rattle.std.specs.Io.KnownBytes.{Appends}
use Rattle.thorin_words.specs.Printed.{printed}
use Rattle.thorin_words.specs.declared.responses.ResponseError.{ResponseError}
use Rattle.thorin_words.specs.declared.responses.ResponseError.TheVariants as errors
use Rattle.thorin_print.specs.Answers.{Grows}
use Rattle.thorin_print.specs.Failures.{Reports, error_line}
use Rattle.thorin_print.specs.Watching.{LacksLine}
use Rattle.thorin_print.specs.declared.line_output.WatchedLines.{WatchedLines}
use Rattle.thorin_print.specs.declared.output.Failure.{Failure}

-- the line of an error was printed, or a line couldn't be
abbrev pub HasTried : {E : Type 0} → (old : Option (List ℕ)) → (err : WatchedLines E)
    → (new : Option (List ℕ)) → (text : List ℕ) → Type 0
HasTried old err new text = Appends old new (error_line text) ⊎ LacksLine err

-- the same of one of two texts
abbrev pub HasTriedOr : {E : Type 0} → (other : List ℕ) → (old : Option (List ℕ))
    → (err : WatchedLines E) → (new : Option (List ℕ)) → (text : List ℕ) → Type 0
HasTriedOr other old err new text = HasTried old err new text ⊎ HasTried old err new other

-- a failure was told, and notes may stand behind it
abbrev pub ReportsFirst : Failure → (old new : Option (List ℕ)) → (failed : Type 0) → (status : ℕ)
    → Type 0
ReportsFirst failure old new failed status = (middle : Option (List ℕ))
    × Reports failure old middle failed status × Grows middle new

-- ---- response files

-- what is said of a response file that is inside others
abbrev pub inside_text : (name others : List ℕ) → List ℕ
inside_text name others =
    codes "Response file " ++ (printed name ++ (codes " is inside " ++ others))

abbrev pub no_memory : List ℕ
no_memory = codes "Out of memory"

-- what is said of words that can't be told
abbrev pub response_text : ResponseError → List ℕ
response_text (errors.Inside name) = inside_text (string_bytes name) (codes "itself")
response_text (errors.TooDeep name) = inside_text (string_bytes name) (codes "64 others")
response_text errors.TooLong = codes "Response files are too long"
response_text errors.Memory = no_memory
response_text _ = codes "Failed to read response file"
