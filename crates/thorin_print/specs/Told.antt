-- What is told of an input that was taken.
use Rattle.std.specs.Prelude.{ℕ, ◌==◌, ◌-◌, List, [], ◌++◌, codes, decimal, Option, Some, None}
use Rattle.std.specs.Prelude.{if◌then◌else◌}
use Rattle.thorin_words.specs.Printed.{printed}
use Rattle.thorin_print.specs.Lines.{line_end}

-- `1 unit`, `2 units`
unfoldable pub units : ℕ → List ℕ
units count = if count == 1 then codes "1 unit" else decimal count ++ codes " units"

-- how many units were passed over, where it is known how many there are
abbrev pub passed_over : (added : ℕ) → (all : Option ℕ) → List ℕ
passed_over added None = []
passed_over added (Some all) = codes ", " ++ (decimal (all - added) ++ codes " passed over")

-- `a.dwo: 2 units, 1 passed over`
abbrev pub taken_line : (name : List ℕ) → (added : ℕ) → (all : Option ℕ) → List ℕ
taken_line name added all =
    printed name ++ (codes ": " ++ (units added ++ (passed_over added all ++ line_end)))
