-- What a caller sees of an object that is being made.
use Rattle.dwp_elf.specs.declared.object.WritableObject.TheInside.{Inside}
use Rattle.dwp_elf.specs.Contents.{contents_of}
use Rattle.dwp_elf.specs.FileText.{Object}

-- the class, machine and byte order of the file, and the contents so far
abbrev pub object_of : Inside → Object
object_of w = record {
  class = w.class;
  machine = w.machine;
  order = w.endianness;
  contents = contents_of w.sections.items;
}
