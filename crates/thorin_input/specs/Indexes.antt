-- The indexes of an input: a finished package has at least one, a plain object none (DWARF 5,
-- 7.3.5.3; the GNU page DebugFissionDWP).
use Rattle.std.specs.Prelude.{ℕ, Bool, ◌||◌, ◌==◌, List, length, Option, Some, None, Result, Ok}
use Rattle.std.specs.Prelude.{Err, is_some, if◌then◌else◌}
use Rattle.dwp_base.specs.declared.endian.Endianness.{Endianness}
use Rattle.dwp_base.specs.declared.section.SectionKind.{SectionKind}
use Rattle.dwp_base.specs.declared.section.SectionKind.TheVariants.{CuIndex, TuIndex}
use Rattle.dwp_base.specs.Reading.{◌>>=◌}
use Rattle.dwp_base.specs.Sections.{name_of}
use Rattle.dwp_bytes.specs.declared.encoding.Encoding.{Encoding}
use Rattle.dwp_bytes.specs.Encoding.{index_version_of, is_compatible}
use Rattle.dwp_index.specs.Index.{Index}
use Rattle.dwp_index.specs.IndexBytes.{index_of}
use Rattle.dwp_table.specs.declared.object.DwarfObject.{DwarfObject}
use Rattle.dwp_table.specs.declared.object.DwarfObject.TheVariants.{Compilation, TypeUnit}
use Rattle.thorin_errors.specs.Errors.{ErrorValue, ParseIndex, IncompatibleIndexVersion}
use Rattle.thorin_errors.specs.Answers.{as_error}
pub use Rattle.thorin_input.specs.Adjusting.{looked_up}
use Rattle.thorin_input.specs.Used.{InputFile, first}

-- both indexes, those that there are
pub record Indexes : Type 0 where
  pub compilations : Option Index
  pub types : Option Index

-- an input whose sections, encoding and indexes are known
pub record Source : Type 0 where
  pub object : InputFile
  pub encoding : Encoding
  pub indexes : Indexes

-- the input is a finished package: it has an index
abbrev pub is_package : Indexes → Bool
is_package indexes = is_some indexes.compilations || is_some indexes.types

-- the index that bytes are; no bytes are none
unfoldable pub index_in : Endianness → SectionKind → List ℕ → Result (Option Index) ErrorValue
index_in order kind bytes =
    if length bytes == 0 then Ok None
    else (as_error (λ e. ParseIndex e (name_of kind)) (index_of order bytes) >>=
    λ index. Ok (Some index))

-- an index has a version that goes with the input's encoding
abbrev pub version_test : Encoding → SectionKind → Option Index → Result (Unit {0}) ErrorValue
version_test encoding kind None = Ok tt
version_test encoding kind (Some index) =
    if is_compatible encoding.version index.version then Ok tt
    else Err
    (IncompatibleIndexVersion (name_of kind) (index_version_of encoding.version) index.version)

-- the indexes of an input; both are read before either's version is tested
unfoldable pub indexes_of : InputFile → Encoding → Result Indexes ErrorValue
indexes_of object encoding = do
  compilations ← index_in object.order CuIndex (first CuIndex object.sections)
  types ← index_in object.order TuIndex (first TuIndex object.sections)
  _ ← version_test encoding CuIndex compilations
  _ ← version_test encoding TuIndex types
  Ok (record { compilations = compilations; types = types })

-- the index of the units of a name's kind
abbrev pub index_for : Indexes → DwarfObject → Option Index
index_for indexes (Compilation id) = indexes.compilations
index_for indexes (TypeUnit signature) = indexes.types
