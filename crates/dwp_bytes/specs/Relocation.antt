-- What a section's relocations make of the numbers stored in it (ELF gABI, "Relocation"): the
-- addend, which the symbol's value was added to, or the stored number plus it.
use Rattle.std.specs.Prelude.{ℕ, ◌+◌, ◌-◌, ◌%◌, ◌^◌, ◌==◌, ◌&&◌, Bool, true, List, [], ◌∷◌, Option}
use Rattle.std.specs.Prelude.{Some, None, nat_lt, if◌then◌else◌}
use Rattle.std.specs.Option.{option_map_or}
use Rattle.dwp_bytes.specs.Input.{Input}
use Rattle.dwp_bytes.specs.declared.relocation.Relocation.{Relocation}
use Rattle.dwp_bytes.specs.declared.relocation.RelocationEntry.{RelocationEntry}

-- what a relocation makes of a stored number
abbrev pub value_of : Relocation → ℕ → ℕ
value_of relocation stored =
    if relocation.implicit_addend then (stored + relocation.addend) % 2 ^ 64 else relocation.addend

-- the relocation at an offset of the section
abbrev pub relocation_at : List RelocationEntry → ℕ → Option Relocation
relocation_at [] offset = None
relocation_at (entry ∷ rest) offset =
    if entry.offset == offset then Some entry.relocation else relocation_at rest offset

-- what stands for a number stored at an offset of the section
unfoldable pub relocated_by : List RelocationEntry → ℕ → ℕ → ℕ
relocated_by entries offset stored =
    option_map_or (λ relocation. value_of relocation stored) (relocation_at entries offset) stored

-- an input whose section starts at a place, relocated: a relocation's offset is counted from the
-- section's start
abbrev pub relocated_input : List RelocationEntry → ℕ → Input → Input
relocated_input entries start i = record i {
  relocated = λ place stored.
      relocated_by entries (place - start) (i.relocated place stored);
}

-- the first offset is past that one
abbrev pub begins_past : ℕ → List RelocationEntry → Bool
begins_past offset [] = true
begins_past offset (entry ∷ rest) = nat_lt offset entry.offset

-- each offset is below the next
abbrev pub ascends : List RelocationEntry → Bool
ascends [] = true
ascends (entry ∷ rest) = begins_past entry.offset rest && ascends rest
