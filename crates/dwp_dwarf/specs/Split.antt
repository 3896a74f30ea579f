-- The attributes of an entry that name its split object (DWARF 5, 3.1.2 and 7.5.4; the GNU page
-- DebugFission).
use Rattle.std.specs.Prelude.{ℕ, List, [], ◌∷◌, Bool, ◌==◌, if◌then◌else◌, Option, Some, None}
use Rattle.std.specs.Prelude.{Result, Ok, Err, find, option_map}
use Rattle.std.specs.Option.{option_or}
use Rattle.dwp_base.specs.Reading.{◌>>=◌}
use Rattle.dwp_bytes.specs.Input.{Input}
use Rattle.dwp_bytes.specs.declared.encoding.Format.{Format}
use Rattle.dwp_bytes.specs.declared.encoding.Encoding.{Encoding}
use Rattle.dwp_bytes.specs.declared.error.ReadError.{ReadError}
use Rattle.dwp_dwarf.specs.Abbreviations.{Declaration, declaration}
use Rattle.dwp_dwarf.specs.Attributes.{attribute_of}
use Rattle.dwp_dwarf.specs.Entries.{DebugAttribute, entry, place_of}
use Rattle.dwp_dwarf.specs.declared.split.SplitAttributes.{SplitAttributes as Attributes}

-- DW_AT_comp_dir, DW_AT_str_offsets_base, DW_AT_dwo_name and DW_AT_GNU_dwo_name
abbrev pub DW_AT_comp_dir : ℕ
DW_AT_comp_dir = 0x1b

abbrev pub DW_AT_str_offsets_base : ℕ
DW_AT_str_offsets_base = 0x72

abbrev pub DW_AT_dwo_name : ℕ
DW_AT_dwo_name = 0x76

abbrev pub DW_AT_GNU_dwo_name : ℕ
DW_AT_GNU_dwo_name = 0x2130

-- all attributes, or the first error
abbrev pub all_read : List (Result DebugAttribute ReadError)
    → Result (List DebugAttribute) ReadError
all_read [] = Ok []
all_read (Ok a ∷ rest) = all_read rest >>= λ others. Ok (a ∷ others)
all_read (Err e ∷ rest) = Err e

-- an attribute has a name
abbrev pub is_attribute : ℕ → DebugAttribute → Bool
is_attribute name a = a.name == name

-- the place that an attribute names as the base of string offsets
abbrev pub base_in : Format → DebugAttribute → Option ℕ
base_in format a = if a.name == DW_AT_str_offsets_base then place_of format a else None

-- the first such place
abbrev pub first_base : Format → List DebugAttribute → Option ℕ
first_base format [] = None
first_base format (a ∷ rest) = option_or (base_in format a) (first_base format rest)

-- of each name the first attribute
pub record SplitAttributes : Type 0 where
  pub dwo_name : Option DebugAttribute
  pub gnu_dwo_name : Option DebugAttribute
  pub comp_dir : Option DebugAttribute
  pub str_offsets_base : Option ℕ

-- before any attribute
abbrev pub none_found : SplitAttributes
none_found = record {
  dwo_name = None;
  gnu_dwo_name = None;
  comp_dir = None;
  str_offsets_base = None;
}

-- one more attribute behind those before
abbrev pub with_attribute : Format → SplitAttributes → DebugAttribute → SplitAttributes
with_attribute format before a = record {
  dwo_name = option_or before.dwo_name (find (is_attribute DW_AT_dwo_name) (a ∷ []));
  gnu_dwo_name = option_or before.gnu_dwo_name (find (is_attribute DW_AT_GNU_dwo_name) (a ∷ []));
  comp_dir = option_or before.comp_dir (find (is_attribute DW_AT_comp_dir) (a ∷ []));
  str_offsets_base = option_or before.str_offsets_base (base_in format a);
}

-- those of some attributes
abbrev pub split_attributes : Format → List DebugAttribute → SplitAttributes
split_attributes format attributes = record {
  dwo_name = find (is_attribute DW_AT_dwo_name) attributes;
  gnu_dwo_name = find (is_attribute DW_AT_GNU_dwo_name) attributes;
  comp_dir = find (is_attribute DW_AT_comp_dir) attributes;
  str_offsets_base = first_base format attributes;
}

-- those of an entry's attributes, all of which can be read
unfoldable pub split_in : Format → List (Result DebugAttribute ReadError)
    → Result SplitAttributes ReadError
split_in format read = all_read read >>= λ attributes. Ok (split_attributes format attributes)

-- those of an entry that there is
abbrev pub some_split : Result SplitAttributes ReadError
    → Result (Option SplitAttributes) ReadError
some_split read = read >>= λ split. Ok (Some split)

-- those of the entry of a declaration that was found, whose values stand there
abbrev pub split_found : Encoding → Input → Option Declaration
    → Result (Option SplitAttributes) ReadError
split_found encoding values None = Ok None
split_found encoding values (Some d) =
    some_split (split_in encoding.format (entry encoding d values).attributes)

-- those of the entry of a code in a table; None where the table doesn't have the code
abbrev pub split_at : Encoding → Input → ℕ → Input → Result (Option SplitAttributes) ReadError
split_at encoding values code table = declaration code table >>= split_found encoding values

-- the attribute that names the split object
abbrev pub object_name : SplitAttributes → Option DebugAttribute
object_name split = option_or split.dwo_name split.gnu_dwo_name

-- such attributes as they were read from an input
abbrev pub attributes_of : {R : Type 0} → (R → Input) → Attributes R → SplitAttributes
attributes_of input a = record {
  dwo_name = option_map (attribute_of input) a.dwo_name;
  gnu_dwo_name = option_map (attribute_of input) a.gnu_dwo_name;
  comp_dir = option_map (attribute_of input) a.comp_dir;
  str_offsets_base = a.str_offsets_base;
}
