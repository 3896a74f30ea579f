use Rattle.dwp_index.proofs.Packages.{another_kind, empty, foreign, index_there, package_is}
use Rattle.dwp_index.proofs.Packages.{held_content, held_in_order, index_missing}
use Rattle.dwp_index.proofs.laws.contents_are_read.Goals as goal

pub returns : goal.returns
returns c = record {
  «package» = λ bytes file held compilations types is. package_is bytes file held compilations types
      is.file_is is.contents is.compilations_are is.types_are;
  held = held_content;
  index = index_there;
  no_index = index_missing;
  in_order = held_in_order;
  other = another_kind;
  foreign = foreign;
  empty = empty;
}
