-- What `find` prints.
use Rattle.std.specs.Prelude.{◌≡◌, ◌≢◌, ◌⊎◌, ◌<◌, ◌*◌, ◌^◌, ◌==◌, ℕ, List, [], ◌++◌, codes, length}
use Rattle.std.specs.Prelude.{Option, Some, None, Result, Ok, Err, if◌then◌else◌}
use Rattle.std.specs.Fmt.{decimal}
use Rattle.std.specs.List.{flat_map}
use Rattle.std.specs.Option.{option_copied}
use Rattle.std.specs.Str.Parse.{digits_value, IsNumeral}
use Rattle.std.specs.Io.KnownBytes.{Keeps}
use Rattle.dwp_base.specs.declared.section.SectionKind.{SectionKind}
use Rattle.dwp_base.specs.Sections.{short_name}
use Rattle.dwp_base.specs.declared.section.SectionKind.TheVariants.{StrOffsets, Str}
use Rattle.dwp_base.specs.declared.section.Contribution.{Contribution}
use Rattle.dwp_bytes.specs.Encoding.{offset_size}
use Rattle.dwp_bytes.specs.StringOffsets.{entry_count, string_in}
use Rattle.dwp_bytes.specs.declared.encoding.Encoding.{Encoding}
use Rattle.dwp_bytes.specs.declared.error.ReadError.{ReadError}
use Rattle.dwp_index.specs.Index.{range_in}
use Rattle.dwp_index.specs.Package.{Package, FoundUnit, package_of, found_counted, row_bytes}
use Rattle.dwp_index.specs.declared.error.PackageError.{PackageError}
use Rattle.dwp_table.specs.Columns.{contribution_kinds}
use Rattle.dwp_table.specs.Objects.{identifier_of}
use Rattle.dwp_table.specs.declared.object.DwarfObject.{DwarfObject}
use Rattle.dwp_table.specs.declared.object.DwarfObject.TheVariants.{Compilation, TypeUnit}
use Rattle.thorin_words.specs.Identifiers.{IsIdentifier}
use Rattle.thorin_print.specs.Answers.{Answer, refused}
use Rattle.thorin_find.specs.Files.{Offer, Reads}
use Rattle.thorin_print.specs.Lines.{hex, hex16, line_end}
use Rattle.thorin_find.specs.Lines.{short_kind, json_unit}
use Rattle.thorin_print.specs.declared.form.Form.{Form}
use Rattle.thorin_print.specs.declared.form.Form.TheVariants.{Lines, Json}
use Rattle.thorin_print.specs.Spelled.{spelled, spelled_or}
use Rattle.thorin_find.specs.declared.finding.FindWords.{FindWords}
use Rattle.thorin_find.specs.declared.finding.Wanted.{Wanted}
use Rattle.thorin_find.specs.declared.finding.Wanted.TheVariants.{AllOf, StringOf, Bytes}
use Rattle.thorin_print.specs.declared.output.Failure.{Failure}
use Rattle.thorin_print.specs.declared.output.Failure.TheVariants as failures
use Rattle.dwp_index.specs.Contents.{content}

-- ---- the unit that is asked for

-- the digits of an identifier: what stands behind `0x`, or all of it where it doesn't begin so
abbrev pub HasDigits : (text digits : List ℕ) → Type 0
HasDigits text digits = (text ≡ codes "0x" ++ digits)
    ⊎ (((rest : List ℕ) → text ≢ codes "0x" ++ rest) × (digits ≡ text))

-- a text writes an identifier
pub record Writes (text : List ℕ) (n : ℕ) : Type 0 where
  pub digits : List ℕ
  pub has : HasDigits text digits
  pub is : IsIdentifier digits
  pub value : n ≡ digits_value 16 digits

-- it writes none
pub record WritesNone (text : List ℕ) : Type 0 where
  pub digits : List ℕ
  pub has : HasDigits text digits
  pub is_none : ¬ (IsIdentifier digits)

-- which unit a kind and an identifier ask for; the kind is tested first
abbrev pub Asks : (kind id : List ℕ) → Result DwarfObject Failure → Type 0
Asks kind id (Ok (Compilation n)) = (kind ≡ codes "cu") × Writes id n.0
Asks kind id (Ok (TypeUnit n)) = (kind ≡ codes "tu") × Writes id n.0
Asks kind id (Err failures.BadKind) = (kind ≢ codes "cu") × (kind ≢ codes "tu")
Asks kind id (Err failures.BadIdentifier) =
    ((kind ≡ codes "cu") ⊎ (kind ≡ codes "tu")) × WritesNone id
Asks kind id (Err _) = ⊥

-- ---- what is asked of it

-- a text writes the number of a string: decimal digits of a number of 64 bits
abbrev pub IsNumber : List ℕ → Type 0
IsNumber text = IsNumeral 10 text × (digits_value 10 text < 2 ^ 64)

abbrev pub AsksString : List ℕ → Result Wanted Failure → Type 0
AsksString text (Ok (StringOf n)) = IsNumber text × (n ≡ digits_value 10 text)
AsksString text (Err failures.BadNumber) = ¬ (IsNumber text)
AsksString text _ = ⊥

-- a text is the short name of a kind of section
abbrev pub AsksSection : List ℕ → Result Wanted Failure → Type 0
AsksSection text (Ok (Bytes kind)) = text ≡ short_name kind
AsksSection text (Err failures.BadSection) = (kind : SectionKind) → text ≢ short_name kind
AsksSection text _ = ⊥

-- what is asked for: a string, a section's bytes, or all that is told of a unit
abbrev pub AsksFor : (string section : Option (List ℕ)) → Result Wanted Failure → Type 0
AsksFor (Some text) section wanted = AsksString text wanted
AsksFor None (Some text) wanted = AsksSection text wanted
AsksFor None None wanted = wanted ≡ Ok AllOf

-- ---- what is printed of it

-- the line of a unit's encoding
unfoldable pub encoding_line : DwarfObject → Encoding → List ℕ
encoding_line object encoding =
    short_kind object ++ (codes " 0x" ++ (hex16 (identifier_of object)
    ++ (codes " version " ++ (decimal encoding.version
    ++ (codes " format " ++ (decimal (8 * offset_size encoding.format)
    ++ (codes " address " ++ (decimal encoding.address_size ++ line_end))))))))

-- a range, where it begins in its section, and its size: on a line, or in JSON (RFC 8259) by the
-- short name of its section
abbrev pub range_text : Form → SectionKind → Option Contribution → List ℕ
range_text form kind None = []
range_text Lines kind (Some range) =
    short_name kind ++ (codes " 0x" ++ (hex range.offset.0
    ++ (codes " 0x" ++ (hex range.size ++ line_end))))
range_text Json kind (Some range) = codes ",\"" ++ (short_name kind ++ (codes "\":{\"offset\":"
    ++ (decimal range.offset.0 ++ (codes ",\"size\":" ++ (decimal range.size ++ codes "}")))))

-- a unit's ranges, in the order of columns
unfoldable pub range_texts : Form → FoundUnit → List ℕ
range_texts form unit =
    flat_map (λ kind. range_text form kind (range_in unit.row kind)) contribution_kinds

-- how many strings a unit has, by its string offsets
unfoldable pub string_count : FoundUnit → ℕ
string_count unit =
    entry_count unit.encoding (length (row_bytes unit.contents unit.row StrOffsets))

-- a unit's string of a number
abbrev pub string_of : FoundUnit → ℕ → Result (Option (List ℕ)) ReadError
string_of unit i = string_in unit.order unit.encoding (content unit.contents Str)
    (row_bytes unit.contents unit.row StrOffsets) i

-- the numbers of a unit's strings and of slots: on lines, or as the end of an object
abbrev pub counts_text : Form → (strings slots : ℕ) → List ℕ
counts_text Lines strings slots = codes "strings " ++ (decimal strings
    ++ (codes "\nslots " ++ (decimal slots ++ line_end)))
counts_text Json strings slots = codes ",\"strings\":" ++ (decimal strings
    ++ (codes ",\"slots\":" ++ (decimal slots ++ (codes "}" ++ line_end))))

-- the beginning of a JSON object, up to the unit's encoding
unfoldable pub json_encoding : DwarfObject → Encoding → List ℕ
json_encoding object encoding =
    json_unit object ++ (codes "\",\"version\":" ++ (decimal encoding.version
    ++ (codes ",\"format\":" ++ (decimal (8 * offset_size encoding.format)
    ++ (codes ",\"address\":" ++ decimal encoding.address_size)))))

abbrev pub encoding_text : Form → DwarfObject → Encoding → List ℕ
encoding_text Lines = encoding_line
encoding_text Json = json_encoding

-- all that is printed of a unit for which so many slots were looked at
unfoldable pub all_text : Form → DwarfObject → FoundUnit → (slots : ℕ) → List ℕ
all_text form object unit slots = encoding_text form object unit.encoding
    ++ range_texts form unit ++ counts_text form (string_count unit) slots

-- the line of a string
abbrev pub string_line : Form → List ℕ → List ℕ
string_line Lines string = spelled Lines string ++ line_end
string_line Json string =
    codes "{\"string\":" ++ (spelled_or Json (Some string) ++ (codes "}" ++ line_end))

-- ---- what comes of it

-- a string that can be read; past the last there is none
abbrev pub string_answer : Form → ℕ → Result (Option (List ℕ)) ReadError → Answer
string_answer form i (Ok (Some string)) =
    record { printed = string_line form string; answer = Ok 0 }
string_answer form i (Ok None) = refused (failures.NoString i)
string_answer form i (Err cause) = refused failures.Malformed

-- the bytes of a section as they are, where there are any
abbrev pub bytes_answer : SectionKind → List ℕ → Answer
bytes_answer kind bytes = if length bytes == 0 then refused (failures.NoRange kind)
    else record { printed = bytes; answer = Ok 0 }

-- what is wanted of a unit
abbrev pub wanted_answer : Form → Wanted → DwarfObject → FoundUnit → (slots : ℕ)
    → Answer
wanted_answer form AllOf object unit slots =
    record { printed = all_text form object unit slots; answer = Ok 0 }
wanted_answer form (StringOf i) object unit slots =
    string_answer form i (string_of unit i)
wanted_answer form (Bytes kind) object unit slots =
    bytes_answer kind (row_bytes unit.contents unit.row kind)

abbrev pub found_answer : Form → Wanted → DwarfObject
    → Result (Option FoundUnit × ℕ) PackageError → Answer
found_answer form wanted object (Err cause) = refused failures.Malformed
found_answer form wanted object (Ok (None, slots)) =
    refused (failures.NoUnit (identifier_of object))
found_answer form wanted object (Ok (Some unit, slots)) =
    wanted_answer form wanted object unit slots

abbrev pub answer_in : Form → Wanted → DwarfObject → Result Package PackageError
    → Answer
answer_in form wanted object (Err cause) = refused failures.Malformed
answer_in form wanted object (Ok pack) =
    found_answer form wanted object (found_counted pack object)

-- what `find` comes to for a unit, over the bytes of a file
unfoldable pub find_answer : Form → Wanted → DwarfObject → List ℕ → Answer
find_answer form wanted object bytes = answer_in form wanted object (package_of bytes)

abbrev pub FindsWanted : Offer → (path : List ℕ) → Form
    → (old new : Option (List ℕ)) → DwarfObject → Result Wanted Failure → Result ℕ Failure → Type 0
FindsWanted offer path form old new object (Ok wanted) result =
    Reads offer path (find_answer form wanted object) old new result
FindsWanted offer path form old new object (Err failure) result =
    (result ≡ Err failure) × Keeps old new

abbrev pub FindsAsked : Offer → (path : List ℕ) → Form
    → (old new : Option (List ℕ)) → Result DwarfObject Failure → Result Wanted Failure
    → Result ℕ Failure → Type 0
FindsAsked offer path form old new (Ok object) wanted result =
    FindsWanted offer path form old new object wanted result
FindsAsked offer path form old new (Err failure) wanted result =
    (result ≡ Err failure) × Keeps old new

-- the words that ask for a unit, and for something of it
pub record Words : Type 0 where
  pub kind : List ℕ
  pub id : List ℕ
  pub string : Option (List ℕ)
  pub section : Option (List ℕ)
  pub form : Form

-- those at hand
abbrev pub words_of : FindWords → Words
words_of asked = record {
  kind = asked.kind.now;
  id = asked.id.now;
  string = option_copied asked.form.string;
  section = option_copied asked.form.section;
  form = asked.form.form;
}

-- `find`: the words ask for a unit, and for something of it, and the file at the path is read for
-- it; or they ask for none, the unit's words tested first, and nothing is printed
pub record Finds (offer : Offer) (path : List ℕ) (words : Words) (old new : Option (List ℕ))
    (result : Result ℕ Failure) : Type 0 where
  pub asked : Result DwarfObject Failure
  pub asks : Asks words.kind words.id asked
  pub wanted : Result Wanted Failure
  pub wants : AsksFor words.string words.section wanted
  pub finds : FindsAsked offer path words.form old new asked wanted result
