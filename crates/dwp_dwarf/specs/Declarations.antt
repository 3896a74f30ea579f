-- What the readers of abbreviations show.
use Rattle.std.specs.Prelude.{ℕ, Option, Some, None}
use Rattle.dwp_bytes.specs.Input.{Input}
use Rattle.dwp_dwarf.specs.Abbreviations.{Specification, Declaration, pairs_in}
use Rattle.dwp_dwarf.specs.declared.abbrev.Abbreviation.{Abbreviation}
use Rattle.dwp_dwarf.specs.declared.abbrev.Abbreviations.{Abbreviations}
use Rattle.dwp_dwarf.specs.declared.abbrev.AttributeSpecification.{AttributeSpecification}

-- an attribute and its form
abbrev pub specification_of : AttributeSpecification → Specification
specification_of s = record { name = s.name; form = s.form }

-- a declaration as it was read from an input
abbrev pub declaration_of : {R : Type 0} → (R → Input) → Abbreviation R → Declaration
declaration_of input a = record {
  tag = a.tag;
  children = a.has_children;
  specifications = pairs_in (input a.specifications);
}

-- the bytes of a table
abbrev pub table_of : {R : Type 0} → (R → Input) → Abbreviations R → Input
table_of input t = input t.table

-- the declaration that a look-up found
abbrev pub found_of : {R : Type 0} → (R → Input) → Option (Abbreviation R) → Option Declaration
found_of input (Some a) = Some (declaration_of input a)
found_of input None = None

-- the next declaration with its code, as it was read from an input, and what is left
abbrev pub next_of : {R : Type 0} → (R → Input) → Option (ℕ × Abbreviation R × R)
    → Option ((ℕ × Declaration) × Input)
next_of input (Some x) = Some ((x.0, declaration_of input x.1), input x.2)
next_of input None = None
