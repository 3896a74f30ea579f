-- The contents that a `Contents` holds.
use Rattle.std.specs.Prelude.{map}
use Rattle.dwp_base.specs.ByKind.{values_of}
use Rattle.dwp_index.specs.declared.contents.Contents.{Contents}
use Rattle.dwp_index.specs.Contents.{Sections}

abbrev pub contents_in : Contents → Sections
contents_in c = map (λ bytes. bytes.now) (values_of c.by_kind)
