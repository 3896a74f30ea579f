-- Looking up step by step: the row of an identifier in an index, then its ranges, then the encoding
-- in its unit's header.
use Rattle.std.specs.Prelude.{ℕ, ℤ, pos, Option, Some, None, is_some, Result, Ok, Err}
use Rattle.std.specs.Prelude.{if◌then◌else◌}
use Rattle.dwp_base.specs.Reading.{◌>>=◌}
use Rattle.dwp_table.specs.Objects.{identifier_of}
use Rattle.dwp_table.specs.Probing.{found_row, look_count}
use Rattle.dwp_table.specs.declared.object.DwarfObject.{DwarfObject}
use Rattle.dwp_index.specs.Finding.{own_place, own_bytes, unit_of}
use Rattle.dwp_index.specs.Index.{Index, Ranges, row_in}
use Rattle.dwp_index.specs.Package.{Package, FoundUnit, as_error, first_outside, encoding_in}
use Rattle.dwp_index.specs.declared.error.PackageError.TheVariants as errors
use Rattle.thorin_c.specs.Finding.{as_status}

-- a row with its number, and how many slots were looked at
abbrev pub Listed : Type 0
Listed = (ℕ × Ranges) × ℕ

-- the row of a number; status 1 where there is none
abbrev pub row_numbered : Index → Option ℕ → ℕ → Result Listed ℤ
row_numbered index None slots = Err (pos 1)
row_numbered index (Some number) slots =
    as_status (as_error errors.Index (row_in index number)) >>= λ row. Ok ((number, row), slots)

-- the row of an object by the index of its kind
abbrev pub row_listed : DwarfObject → Option Index → Result Listed ℤ
row_listed object None = Err (pos 1)
row_listed object (Some index) =
    row_numbered index (found_row index.signatures index.rows (identifier_of object))
    (look_count index.signatures index.rows (identifier_of object))

-- a row whose ranges lie inside their sections; else status 5
abbrev pub inside : Package → Listed → Result Listed ℤ
inside pack row = if is_some (first_outside pack.contents row.0.1) then Err (pos 5) else Ok row

-- the unit of a row, by what its header says
abbrev pub with_header : Package → DwarfObject → Listed → Result (FoundUnit × ℕ) ℤ
with_header pack object row =
    as_status (as_error errors.Unit (encoding_in pack.order (own_place object row.0.1)
    (own_bytes pack.contents object row.0.1))) >>= λ encoding.
    Ok (unit_of pack object row.0.0 row.0.1 encoding, row.1)
