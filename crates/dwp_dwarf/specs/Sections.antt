-- The sections of strings, as readers show them.
use Rattle.dwp_bytes.specs.Input.{Input}
use Rattle.dwp_dwarf.specs.Strings.{Strings}
use Rattle.dwp_dwarf.specs.declared.value.StringSections.{StringSections}

abbrev pub strings_of : {R : Type 0} → (R → Input) → StringSections R → Strings
strings_of input s = record {
  debug_str = input s.debug_str;
  debug_line_str = input s.debug_line_str;
  debug_str_offsets = input s.debug_str_offsets;
}
