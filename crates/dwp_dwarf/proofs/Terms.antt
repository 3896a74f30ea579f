-- The names that proofs of this crate cite most, passed on from one place. Declares nothing.
pub use Rattle.dwp_base.{proofs.Bools.by-bool, proofs.Bools.neither, specs.Reading.◌>>=◌}
pub use Rattle.dwp_bytes.specs.Input.{front, Goes, Input}
pub use Rattle.dwp_bytes.specs.declared.error.ReadError.TheVariants.{OffsetOutOfRange, UnknownCode}
pub use Rattle.dwp_bytes.specs.declared.error.ReadError.TheVariants.{UnexpectedEof, UnknownForm}
pub use Rattle.dwp_bytes.specs.declared.{encoding.Encoding.Encoding, error.ReadError.ReadError}
pub use Rattle.dwp_dwarf.specs.Abbreviations.{Declaration, past_specifications, Specification}
pub use Rattle.dwp_dwarf.specs.Attributes.{attribute_of, attributes_left, entry_of}
pub use Rattle.dwp_dwarf.specs.Declarations.{declaration_of, specification_of}
pub use Rattle.dwp_dwarf.specs.Entries.{attributes, DebugAttribute, DebugEntry}
pub use Rattle.dwp_dwarf.specs.Needed.{is_needed, is_unmet, ListsNeeded, met, needed, none_met}
pub use Rattle.dwp_dwarf.specs.declared.{value.FormLayout.TheVariants.Fixed, versions.Node.Node}
pub use Rattle.dwp_dwarf.specs.{Chains.RemembersPlaces, Split.attributes_of, Split.SplitAttributes}
pub use Rattle.dwp_dwarf.specs.{Forms.layout_of, Numbers.first_number, Numbers.has_bytes}
pub use Rattle.std.proofs.Common.{Bool, cond, drop, false, List, None, refl, Some, take, true, zero}
pub use Rattle.std.proofs.Common.{IfSome, is_none, leb-true, length-append, nat_cmp, Option, Result}
pub use Rattle.std.proofs.Common.{add-zero, BTreeMap, eqb-true, length-drop, length-take, ltb-false}
pub use Rattle.std.proofs.Common.{ap, Ok, [], ℕ, ◌<◌, ◌↔◌, ◌∙◌, ◌∷◌, ◌≡◌, ◌≢◌, ◌≤◌}
pub use Rattle.std.proofs.Common.{arith, eq-eqb, le-ltb, length, lt-ltb, ne_eqb, slice_get, vec_len}
pub use Rattle.std.proofs.Common.{eqb, Err, ltb, map, ok_or, rules, subst, suc, sym, ◌++◌, ◌+◌, ◌-◌}
pub use Rattle.std.proofs.lemmas.{List.drop-take, List.drop_more, Result.err_from_is_err_and}
pub use Rattle.{dwp_bytes.specs.declared.encoding.Format.Format, std.proofs.lemmas.Bool.eqb-false}
pub use Rattle.{dwp_units.specs.Units.Unit, std.specs.BTreeMap.get}
unfoldable pub use Rattle.dwp_bytes.specs.{Input.byte_at, Input.skip_at, Input.split_at, Leb.leb_at}
unfoldable pub use Rattle.dwp_dwarf.specs.Abbreviations.{declaration, declaration_at, pairs_in}
unfoldable pub use Rattle.dwp_dwarf.specs.Forms.{named_form_at, past_value, value_at}
unfoldable pub use Rattle.dwp_dwarf.specs.{Entries.attribute_at, Grammar.next_at, Offsets.from_at}
unfoldable pub use Rattle.{dwp_bytes.specs.Leb.uleb_at, dwp_dwarf.specs.Split.split_in}
