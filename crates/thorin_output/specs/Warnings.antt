-- The warnings of type units that differ from the ones kept.
use Rattle.std.specs.Prelude.{◌≡◌, ℕ, ◌==◌, List, [], ◌∷◌, ◌++◌, length, flat_map, Option, Some}
use Rattle.std.specs.Prelude.{None, codes, decimal, if◌then◌else◌}
use Rattle.std.specs.Io.KnownBytes.{Appends}
use Rattle.std.specs.Str.{bytes_eq}
use Rattle.dwp_table.specs.declared.object.DebugTypeSignature.{DebugTypeSignature}
use Rattle.thorin_errors.specs.Text.{hex8}
use Rattle.thorin_print.specs.Lines.{line_end}
use Rattle.thorin_output.specs.declared.warnings.Warned.{Warned}
use Rattle.thorin_output.specs.declared.warnings.Warnings.{Warnings}
use Rattle.thorin_output.specs.declared.warnings.Warnings.TheVariants.{Each, Once, Never}

-- the words that say which are printed
unfoldable pub warnings_of : List ℕ → Option Warnings
warnings_of word =
    if bytes_eq word (codes "each") then Some Each
    else if bytes_eq word (codes "once") then Some Once
    else if bytes_eq word (codes "none") then Some Never
    else None

-- a line of one of them
abbrev pub differing_line : DebugTypeSignature → List ℕ
differing_line signature = codes "warning: type unit 0x"
    ++ (hex8 signature.0 ++ (codes " differs from the one kept" ++ line_end))

-- a line of so many, and in how many copies
unfoldable pub count_line : (units copies : ℕ) → List ℕ
count_line units copies = if units == 1
    then codes "warning: 1 type unit differs from the one kept, copies: "
    ++ (decimal copies ++ line_end)
    else codes "warning: " ++ (decimal units
    ++ (codes " type units differ from the ones kept, copies: " ++ (decimal copies ++ line_end)))

-- the lines that are asked for; of how many units one tells that is for all isn't said
abbrev pub AreLines : Warnings → List DebugTypeSignature → (text : List ℕ) → Type 0
AreLines Each differing text = text ≡ flat_map differing_line differing
AreLines Once [] text = text ≡ []
AreLines Once differing text = (units : ℕ) × (text ≡ count_line units (length differing))
AreLines Never differing text = text ≡ []

-- what is printed behind a package: lines that are given, and those
pub record IsWarning (warned : Warned) (text : List ℕ) : Type 0 where
  pub lines : List ℕ
  pub are : AreLines warned.warnings warned.differing.now lines
  pub text_is : text ≡ warned.lines.now ++ lines

-- where the bytes of what lines are printed to are known, a text of these was added
pub record IsPrinted (old new : Option (List ℕ)) (Texts : List ℕ → Type 0) : Type 0 where
  pub text : List ℕ
  pub is : Texts text
  pub added : Appends old new text
