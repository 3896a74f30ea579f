-- The unit that the fields of a `PackagedUnit` hold.
use Rattle.dwp_index.specs.declared.unit.PackagedUnit.TheInside.{Inside}
use Rattle.dwp_index.specs.ContentFields.{contents_in}
use Rattle.dwp_index.specs.Package.{FoundUnit}

abbrev pub unit_in_fields : Inside → FoundUnit
unit_in_fields u = record {
  order = u.order;
  contents = contents_in u.contents;
  number = u.number;
  row = u.row;
  bytes = u.bytes.now;
  encoding = u.encoding;
}
