-- What a package builder does with each input, from its bytes on, with the first error; and what is
-- written of the package (DWARF 5, 7.3.5; the GNU page DebugFissionDWP).
use Rattle.std.specs.Prelude.{◌≡◌, ℕ, ◌<◌, ◌^◌, Bool, true, false, not, List, [], ◌∷◌, Option, Some}
use Rattle.std.specs.Prelude.{None, Result, Ok, Err, unwrap_or, filter, find, length, nat_lt}
use Rattle.std.specs.Prelude.{if◌then◌else◌}
use Rattle.std.specs.List.{list_any}
use Rattle.std.specs.Option.{ok_or}
use Rattle.dwp_base.specs.Reading.{◌>>=◌}
use Rattle.dwp_base.specs.declared.endian.Endianness.{Endianness}
use Rattle.dwp_base.specs.declared.endian.Endianness.TheVariants.{Little, Big}
use Rattle.dwp_base.specs.declared.section.SectionKind.TheVariants.{Str, CuIndex, TuIndex}
use Rattle.dwp_elf.specs.FileText.{Object as File}
use Rattle.dwp_elf_read.specs.Elf.{Elf}
use Rattle.dwp_bytes.specs.declared.encoding.Encoding.{Encoding}
use Rattle.dwp_table.specs.Objects.{identifier_of}
use Rattle.dwp_table.specs.declared.object.DwarfObject.{DwarfObject}
use Rattle.dwp_strings.specs.Strings.{data_of}
use Rattle.thorin_index.specs.declared.entry.IndexEntry.{IndexEntry}
use Rattle.thorin_index.specs.EntryTests.{index_tests}
use Rattle.thorin_index.specs.IndexText.{IsIndexOf}
use Rattle.thorin_errors.specs.Errors.{ErrorValue, MixedInputEncodings, MissingReferencedUnit}
use Rattle.thorin_errors.specs.Errors.{NoOutputObjectCreated}
use Rattle.thorin_input.specs.Encodings.{encoding_of, own_encoding, common}
use Rattle.dwp_elf.specs.Growing.{with_bytes}
use Rattle.thorin_input.specs.Indexes.{Source, indexes_of}
use Rattle.thorin_input.specs.Names.{same_name, is_compilation}
use Rattle.thorin_join.specs.State.{InProgress, empty, names_of, with_source}
use Rattle.thorin_input.specs.Used.{InputFile, opened, has_info, input_file_of}

-- a builder: the package, where an input has begun one, the units that executables refer to, and
-- the one encoding of all units of the accepted inputs, those passed over too, where there is one
-- and each input was a plain object that added a unit
pub record State : Type 0 where
  pub begun : Option InProgress
  pub targets : List DwarfObject
  pub own : Option Encoding

-- nothing has begun
abbrev pub start : State
start = record { begun = None; targets = []; own = None }

-- the package that a file begins
abbrev pub begun_by : Elf → InProgress
begun_by file = empty file.class file.machine file.order

abbrev pub package_or_new : Elf → Option InProgress → InProgress
package_or_new file begun = unwrap_or begun (begun_by file)

abbrev pub same_order : Endianness → Endianness → Bool
same_order Little Little = true
same_order Big Big = true
same_order _ _ = false

-- the byte order of the package, where one is begun, else that of an input
abbrev pub order_of : Option InProgress → Endianness → Endianness
order_of None order = order
order_of (Some made) order = made.file.order

-- an input has the byte order of the package
unfoldable pub order_test : (held order : Endianness) → Result (Unit {0}) ErrorValue
order_test held order = if same_order held order then Ok tt else Err MixedInputEncodings

-- an input's sections with its encoding and its indexes, for a package of this byte order
unfoldable pub source_for : Endianness → InputFile → Result Source ErrorValue
source_for held object = do
  encoding ← encoding_of object
  _ ← order_test held object.order
  indexes ← indexes_of object encoding
  Ok (record { object = object; encoding = encoding; indexes = indexes })

-- the package with the units of an input, which it may begin
unfoldable pub with_source_or_new : Elf → Source → Option InProgress
    → Result (Option InProgress) ErrorValue
with_source_or_new file source begun = do
  made ← with_source source (package_or_new file begun)
  Ok (Some made)

-- what an input with units makes of a package
unfoldable pub with_units : Elf → Option InProgress → Result (Option InProgress) ErrorValue
with_units file begun = do
  object ← input_file_of file
  source ← source_for (order_of begun object.order) object
  with_source_or_new file source begun

-- what an object's bytes make of a package, or the first error; without an info section they only
-- begin it
unfoldable pub with_input : List ℕ → Option InProgress → Result (Option InProgress) ErrorValue
with_input bytes begun = do
  file ← opened bytes
  if has_info file then with_units file begun else Ok (Some (package_or_new file begun))

-- the names of a package's units, in order of acceptance
abbrev pub names_in : Option InProgress → List DwarfObject
names_in None = []
names_in (Some made) = names_of made

-- the signatures of type units that were passed over and differ from those kept
abbrev pub differing_begun : Option InProgress → List ℕ
differing_begun None = []
differing_begun (Some made) = made.differing

abbrev pub differing_in : State → List ℕ
differing_in state = differing_begun state.begun

-- the one encoding after an object, which has this one for its units
abbrev pub with_own : Option InProgress → Option Encoding → Option Encoding → Option Encoding
with_own None own encoding = encoding
with_own (Some made) own encoding = common own encoding

-- an object that added no unit leaves none
abbrev pub own_after : State → Option InProgress → Option Encoding → Option Encoding
own_after state begun encoding =
    if nat_lt (length (names_in state.begun)) (length (names_in begun))
    then with_own state.begun state.own encoding else None

-- the state once an object was taken
unfoldable pub taken : List ℕ → State → Result State ErrorValue
taken bytes state = do
  begun ← with_input bytes state.begun
  encoding ← own_encoding bytes
  Ok (record state { begun = begun; own = own_after state begun encoding })

-- the rows of compilation units, and those of type units
abbrev pub compilations : List IndexEntry → List IndexEntry
compilations rows = filter (λ row. is_compilation row.id) rows

abbrev pub type_units : List IndexEntry → List IndexEntry
type_units rows = filter (λ row. not (is_compilation row.id)) rows

-- the identifiers of rows have 64 bits (DWARF 5, 7.3.5.3)
abbrev pub IdentifiersFit : List IndexEntry → Type 0
IdentifiersFit [] = Unit {0}
IdentifiersFit (row ∷ rows) = (identifier_of row.id < 2 ^ 64) × IdentifiersFit rows

-- a unit that executables refer to isn't there
abbrev pub is_missing : List DwarfObject → DwarfObject → Bool
is_missing names target = not (list_any (same_name target) names)

abbrev pub none_missing : Option DwarfObject → Result (Unit {0}) ErrorValue
none_missing None = Ok tt
none_missing (Some target) = Err (MissingReferencedUnit (identifier_of target))

-- each unit that executables refer to is there; the first that isn't is named
unfoldable pub targets_test : List DwarfObject → List DwarfObject → Result (Unit {0}) ErrorValue
targets_test names targets = none_missing (find (is_missing names) targets)

-- the tests of both indexes, the compilation index first
unfoldable pub indexes_test : InProgress → Result (Unit {0}) ErrorValue
indexes_test made = do
  _ ← index_tests (compilations made.rows)
  index_tests (type_units made.rows)

-- what is tested before a package is finished
unfoldable pub finish_test : State → Result (Unit {0}) ErrorValue
finish_test state = do
  _ ← targets_test (names_in state.begun) state.targets
  made ← ok_or state.begun NoOutputObjectCreated
  indexes_test made

-- the contents with the strings and both indexes, each where it isn't empty
pub record IsFinished (made : InProgress) (file : File) : Type 0 where
  pub compilation_index : List ℕ
  pub type_index : List ℕ
  pub compilations : IsIndexOf made.file.order (compilations made.rows) compilation_index
  pub types : IsIndexOf made.file.order (type_units made.rows) type_index
  pub contents : file ≡ record made.file {
    contents = with_bytes TuIndex type_index (with_bytes CuIndex compilation_index
        (with_bytes Str (data_of made.strings) made.file.contents));
  }

-- the package of a state, finished
pub record IsFinishedState (state : State) (file : File) : Type 0 where
  pub made : InProgress
  pub begun : state.begun ≡ Some made
  pub finished : IsFinished made file
  pub identifiers : IdentifiersFit made.rows
