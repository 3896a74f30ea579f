-- What the values of this crate stand for.
use Rattle.std.specs.Prelude.{ℕ, List, map}
use Rattle.dwp_base.specs.declared.endian.Endianness.{Endianness}
use Rattle.dwp_base.specs.declared.section.SectionKind.{SectionKind}
use Rattle.dwp_base.specs.declared.section.SectionKind.TheVariants.{Abbrev}
use Rattle.thorin_input.specs.declared.object.UsedSection.{UsedSection}
use Rattle.thorin_input.specs.declared.object.InputObject.{InputObject}
use Rattle.thorin_input.specs.declared.source.Indexes.{Indexes}
use Rattle.thorin_input.specs.declared.source.Source.{Source}
use Rattle.thorin_input.specs.declared.parts.Part.{Part}
use Rattle.thorin_input.specs.declared.parts.PartBytes.{PartBytes}
use Rattle.thorin_input.specs.declared.parts.PartBytes.TheVariants.{Copied, Rewritten}
use Rattle.thorin_input.specs.Indexes as spec
use Rattle.thorin_input.specs.Used.{Used, InputFile, first}

-- a section that is used
abbrev pub used : UsedSection → Used
used s = record { kind = s.kind; bytes = s.bytes.now; address = s.address }

-- an input whose sections are known
abbrev pub object : InputObject → InputFile
object o = record {
  order = o.order;
  sections = map used o.sections.items;
  has_strings = o.has_strings;
  has_abbreviations = o.has_abbreviations;
}

-- the indexes of an input
abbrev pub indexes : Indexes → spec.Indexes
indexes i = record { compilations = i.compilations; types = i.types }

-- an input with its encoding and its indexes
abbrev pub source : Source → spec.Source
source s = record { object = object s.object; encoding = s.encoding; indexes = indexes s.indexes }

-- the bytes of a part, and the part with its kind
abbrev pub part_bytes : PartBytes → List ℕ
part_bytes (Copied bytes) = bytes.now
part_bytes (Rewritten bytes) = bytes.items

abbrev pub part : Part → SectionKind × List ℕ
part p = (p.kind, part_bytes p.bytes)

-- the byte order and the abbreviations that an input's units are named with
abbrev pub tables_in : InputFile → Endianness × List ℕ
tables_in object = (object.order, first Abbrev object.sections)
