-- What is said of a failure.
use Rattle.std.specs.Prelude.{◌≡◌, ◌⊎◌, ℕ, List, ◌++◌, codes, decimal, Option}
use Rattle.std.specs.Io.KnownBytes.{Appends}
use Rattle.dwp_base.specs.Sections.{short_name}
use Rattle.thorin_print.specs.Answers.{exit_status}
use Rattle.thorin_print.specs.Lines.{hex8, line_end}
use Rattle.thorin_print.specs.declared.output.Failure.{Failure}
use Rattle.thorin_print.specs.declared.output.Failure.TheVariants as failures

abbrev pub failure_text : Failure → List ℕ
failure_text failures.Output = codes "Failed to write output file"
failure_text failures.Overwrites = codes "Output file is an input: --force overwrites it"
failure_text failures.Input = codes "Failed to read input file"
failure_text failures.Malformed = codes "Malformed package"
failure_text failures.NoIndex = codes "no index: not a package"
failure_text (failures.NoUnit id) = codes "Unit 0x" ++ (hex8 id ++ codes " is not in the package")
failure_text failures.BadKind = codes "Bad unit kind"
failure_text failures.BadIdentifier = codes "Bad identifier"
failure_text failures.BadNumber = codes "Bad number"
failure_text failures.BadSection = codes "Bad section kind"
failure_text (failures.NoString number) = codes "Unit has no string " ++ decimal number
failure_text (failures.NoRange kind) = codes "Unit has no range of " ++ short_name kind
failure_text failures.BadCommand = codes "Bad command line"
failure_text failures.Response = codes "Failed to read response file"
failure_text failures.Line = codes "Failed to write standard output"
failure_text failures.Memory = codes "Out of memory"

-- the line that tells an error of such a text
abbrev pub error_line : (text : List ℕ) → List ℕ
error_line text = codes "error: " ++ (text ++ line_end)

-- what comes of telling a failure: its line was printed, and the status is its own; or it couldn't
-- be printed, and the status is 1
abbrev pub Reports : Failure → (old new : Option (List ℕ)) → (failed : Type 0) → (status : ℕ)
    → Type 0
Reports failure old new failed status =
    ((status ≡ exit_status failure) × Appends old new (error_line (failure_text failure)))
    ⊎ ((status ≡ 1) × failed)
