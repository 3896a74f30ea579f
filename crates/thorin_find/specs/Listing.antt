-- What `list` prints.
use Rattle.std.specs.Prelude.{◌≡◌, ◌⊎◌, ℕ, ◌+◌, ◌^◌, Bool, true, false, List, [], ◌∷◌, ◌++◌, codes}
use Rattle.std.specs.Prelude.{length, Option, Some, None, Result, Ok, Err, ◌==◌, if◌then◌else◌}
use Rattle.std.specs.Prelude.{◌&&◌, not, is_none}
use Rattle.std.specs.Fmt.{decimal}
use Rattle.std.specs.List.{flat_map}
use Rattle.std.specs.List.Sorted.{IsPermutation, IsSortedByKey, IsStableByKey}
use Rattle.std.specs.Ordering.{nat_cmp}
use Rattle.std.specs.Io.KnownBytes.{Appends, Keeps}
use Rattle.dwp_base.specs.declared.endian.Endianness.{Endianness}
use Rattle.dwp_base.specs.Sections.{short_name}
use Rattle.dwp_base.specs.declared.section.SectionKind.{SectionKind}
use Rattle.dwp_base.specs.declared.section.Contribution.{Contribution}
use Rattle.dwp_index.specs.Entries.{entries_from}
use Rattle.dwp_index.specs.Index.{range_in}
use Rattle.dwp_index.specs.Package.{Package, FoundUnit, package_of, found}
use Rattle.dwp_index.specs.declared.error.PackageError.{PackageError}
use Rattle.dwp_index.specs.declared.units.UnitEntry.{UnitEntry}
use Rattle.dwp_table.specs.Columns.{contribution_kinds}
use Rattle.dwp_table.specs.Objects.{identifier_of}
use Rattle.dwp_table.specs.declared.object.DwarfObject.{DwarfObject}
use Rattle.dwp_table.specs.declared.object.DwarfObject.TheVariants.{Compilation, TypeUnit}
use Rattle.thorin_print.specs.Answers.{Answer, refused, Comes, HasBeginning, IsOfPrinting}
use Rattle.thorin_find.specs.Files.{Offer, RefusesFile}
use Rattle.thorin_find.specs.Names.{source_name, object_name}
use Rattle.thorin_print.specs.declared.form.Form.{Form}
use Rattle.thorin_print.specs.declared.form.Form.TheVariants.{Lines, Json}
use Rattle.thorin_print.specs.Spelled.{spelled_or}
use Rattle.thorin_find.specs.declared.files.PackageKind.{PackageKind}
use Rattle.thorin_find.specs.declared.files.PackageKind.TheVariants as files
use Rattle.thorin_find.specs.declared.listing.ListForm.{ListForm}
use Rattle.thorin_print.specs.Lines.{hex16, line_end}
use Rattle.thorin_find.specs.Lines.{short_kind}
use Rattle.thorin_print.specs.declared.output.Failure.{Failure}
use Rattle.thorin_print.specs.declared.output.Failure.TheVariants as failures
use Rattle.dwp_index.specs.Contents.{content}
use Rattle.dwp_base.specs.declared.section.SectionKind.TheVariants.{Info, Str}

-- ---- indexes

-- a package has no index of either kind
abbrev pub has_no_index : Package → Bool
has_no_index pack = is_none pack.compilations && is_none pack.types

-- what a file is that can be read: without an index it is an object where it has split units
abbrev pub kind_in : Package → PackageKind
kind_in pack = if not (has_no_index pack) then files.Package
    else if length (content pack.contents Info) == 0 then files.NoIndex else files.Object

-- what any is
abbrev pub kind_of : Result Package PackageError → PackageKind
kind_of (Ok pack) = kind_in pack
kind_of (Err error) = files.Malformed error

-- ---- the order of lines

-- compilation units by row, then type units by row
abbrev pub place_by : DwarfObject → ℕ → ℕ
place_by (Compilation id) row = row
place_by (TypeUnit signature) row = 2 ^ 32 + row

abbrev pub place_of_line : UnitEntry → ℕ
place_of_line entry = place_by entry.object entry.row

-- what the slots of a package name, in the order of lines; those of one row in order of slot
pub record AreByRow (pack : Package) (entries : List UnitEntry) : Type 0 where
  pub all : IsPermutation (entries_from pack.compilations pack.types 0 0) entries
  pub by_row : IsSortedByKey place_of_line nat_cmp entries
  pub by_slot : IsStableByKey place_of_line nat_cmp (entries_from pack.compilations pack.types 0 0)
      entries

-- ---- the line of a unit

-- what lines are made from: what they are to have, and a package's byte order and strings
pub record ListView : Type 0 where
  pub form : ListForm
  pub order : Endianness
  pub strings : List ℕ

-- the strings that a package has
abbrev pub view_of : ListForm → Package → ListView
view_of form pack =
    record { form = form; order = pack.order; strings = content pack.contents Str }

-- the size of a range, behind the short name of its section
abbrev pub range_size : Form → SectionKind → Option Contribution → List ℕ
range_size form kind None = []
range_size Lines kind (Some range) =
    codes " " ++ (short_name kind ++ (codes " " ++ decimal range.size))
range_size Json kind (Some range) =
    codes ",\"" ++ (short_name kind ++ (codes "\":" ++ decimal range.size))

unfoldable pub range_sizes : Form → FoundUnit → List ℕ
range_sizes form unit =
    flat_map (λ kind. range_size form kind (range_in unit.row kind)) contribution_kinds

-- a unit's kind, its identifier and the size of its bytes
unfoldable pub unit_front : DwarfObject → FoundUnit → List ℕ
unit_front object unit =
    short_kind object ++ (codes " 0x" ++ (hex16 (identifier_of object)
    ++ (codes " " ++ decimal (length unit.bytes))))

-- the same as the beginning of a JSON object (RFC 8259)
unfoldable pub json_front : DwarfObject → FoundUnit → List ℕ
json_front object unit =
    codes "{\"kind\":\"" ++ (short_kind object ++ (codes "\",\"id\":\"0x"
    ++ (hex16 (identifier_of object) ++ (codes "\",\"size\":" ++ decimal (length unit.bytes)))))

abbrev pub front_of : Form → DwarfObject → FoundUnit → List ℕ
front_of Lines object unit = unit_front object unit
front_of Json object unit = json_front object unit

-- the names of a unit's source and of its object; plain ones stand behind tabs, which no name has
-- as it is spelled
abbrev pub named_by : Form → (source object : Option (List ℕ)) → List ℕ
named_by Lines source object =
    codes "\t" ++ (spelled_or Lines source ++ (codes "\t" ++ spelled_or Lines object))
named_by Json source object = codes ",\"name\":" ++ (spelled_or Json source
    ++ (codes ",\"dwo_name\":" ++ spelled_or Json object))

unfoldable pub unit_names : ListView → DwarfObject → FoundUnit → List ℕ
unit_names view object unit =
    named_by view.form.form (source_name view.order view.strings object unit)
    (object_name view.order view.strings object unit)

abbrev pub end_of : Form → List ℕ
end_of Lines = line_end
end_of Json = codes "}" ++ line_end

-- the line of a unit; the sizes of its ranges and its names stand in it where these are asked for.
-- In columns there is none
unfoldable pub unit_line : ListView → DwarfObject → FoundUnit → List ℕ
unit_line view object unit = if view.form.columns then [] else
    front_of view.form.form object unit
    ++ (if view.form.sizes then range_sizes view.form.form unit else [])
    ++ (if view.form.names then unit_names view object unit else []) ++ end_of view.form.form

-- the line for a slot: that of the unit which is found under its identifier, if that is the one of
-- the slot's row; no line, if another or none is found
abbrev pub slot_line : (view : ListView) → UnitEntry → Option FoundUnit → List ℕ
slot_line view entry None = []
slot_line view entry (Some unit) =
    if unit.number == entry.row then unit_line view entry.object unit else []

-- ---- all lines

-- the lines of these slots, up to the first whose unit can't be looked up; and whether there is
-- none such
pub record UnitLines : Type 0 where
  pub printed : List ℕ
  pub is_all : Bool

abbrev pub behind_line : (view : ListView) → UnitEntry → Result (Option FoundUnit) PackageError
    → UnitLines → UnitLines
behind_line view entry (Err cause) lines = record { printed = []; is_all = false }
behind_line view entry (Ok unit) lines = record {
  printed = slot_line view entry unit ++ lines.printed;
  is_all = lines.is_all;
}

abbrev pub lines_of : (view : ListView) → Package → List UnitEntry → UnitLines
lines_of view pack [] = record { printed = []; is_all = true }
lines_of view pack (entry ∷ entries) =
    behind_line view entry (found pack entry.object) (lines_of view pack entries)

-- where a unit was looked up, its line is added, and else nothing
abbrev pub AddsLine : (view : ListView) → UnitEntry → Result (Option FoundUnit) PackageError
    → (old new : List ℕ) → Bool → Type 0
AddsLine view entry (Err cause) old new is_found = (is_found ≡ false) × (new ≡ old)
AddsLine view entry (Ok unit) old new is_found =
    (is_found ≡ true) × (new ≡ old ++ slot_line view entry unit)

-- ---- printing them in pieces

-- where a writer's bytes are known, the front of a text was added, and the rest of it waits
pub record PrintsFront (old new : Option (List ℕ)) (all waiting : List ℕ) : Type 0 where
  pub front : List ℕ
  pub split : all ≡ front ++ waiting
  pub printed : Appends old new front

-- the front of such lines was printed, and the rest waits
pub record PrintsLines (lines : UnitLines) (is_all : Bool) (old new : Option (List ℕ))
    (waiting : List ℕ) : Type 0 where
  pub all : is_all ≡ lines.is_all
  pub front : PrintsFront old new lines.printed waiting

-- a line couldn't be written or memory ran out, and a text was begun
pub record Begins (failure : Failure) (text : List ℕ) (old new : Option (List ℕ)) : Type 0 where
  pub cause : IsOfPrinting failure
  pub begun : HasBeginning old new text

-- ---- what comes of it

-- what is answered, where all units could be looked up or not
abbrev pub answer_of : (is_all : Bool) → Result ℕ Failure
answer_of is_all = if is_all then Ok 0 else Err failures.Malformed

-- the answer once such lines are printed; totals stand behind them, where sizes are asked for
abbrev pub after_lines : UnitLines → (totals : List ℕ) → Answer
after_lines lines totals = if lines.is_all
    then record { printed = lines.printed ++ totals; answer = Ok 0 }
    else record { printed = lines.printed; answer = Err failures.Malformed }

-- that is meant, with some totals; there are none where sizes aren't asked for
pub record IsListed (form : ListForm) (lines : UnitLines) (meant : Answer) : Type 0 where
  pub totals : List ℕ
  pub no_totals : form.sizes ≡ false → totals ≡ []
  pub is : after_lines lines totals ≡ meant

-- the same, or columns, with the answer that lines have
abbrev pub IsListedIn : (columns : Bool) → ListForm → UnitLines → Answer → Type 0
IsListedIn false form lines meant = IsListed form lines meant
IsListedIn true form lines meant = meant.answer ≡ answer_of lines.is_all

-- `list`, where the bytes of a file are a package
pub record ListsPackage (form : ListForm) (pack : Package) (old new : Option (List ℕ))
    (result : Result ℕ Failure) : Type 0 where
  pub entries : List UnitEntry
  pub by_row : AreByRow pack entries
  pub meant : Answer
  pub listed : IsListedIn form.columns form (lines_of (view_of form pack) pack entries) meant
  pub comes : Comes result meant old new

-- the same for what the bytes are: where they are no package, that is answered
abbrev pub ListsBytes : (form : ListForm) → Result Package PackageError
    → (old new : Option (List ℕ)) → Result ℕ Failure → Type 0
ListsBytes form (Err cause) old new result = Comes result (refused failures.Malformed) old new
ListsBytes form (Ok pack) old new result = ListsPackage form pack old new result

-- `list`: the file at the path was read and listed; or it can't be read, or there is no memory to
-- do so, and nothing was printed
unfoldable pub Lists : Offer → (path : List ℕ) → (form : ListForm)
    → (old new : Option (List ℕ)) → Result ℕ Failure → Type 0
Lists offer path form old new result =
    ((bytes : List ℕ) × offer path (Ok bytes)
    × ListsBytes form (package_of bytes) old new result)
    ⊎ (RefusesFile offer path result × Keeps old new)
