-- The package that the fields of a `PackageFile` hold.
use Rattle.dwp_index.specs.declared.package.PackageFile.TheInside.{Inside}
use Rattle.dwp_index.specs.ContentFields.{contents_in}
use Rattle.dwp_index.specs.Package.{Package}

abbrev pub package_in : Inside → Package
package_in p = record {
  order = p.order;
  contents = contents_in p.contents;
  compilations = p.compilations;
  types = p.types;
}
