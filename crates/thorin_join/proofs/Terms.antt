-- The names that proofs of this crate cite most, passed on from one place; and the rows of
-- compilation units or those of type units, for proofs that go by which.
use Rattle.std.proofs.Common
pub use Common.{All, ap, append-nil, append_assoc, arith, Bool, codes, cond, drop, eqb, Err, false}
pub use Common.{Ok, Option, refl, Result, slice_get, slice_index, slice_range, Some, subst, suc}
pub use Common.{filter, inl, inr, is_none, is_some, le-leb, leb-true, length, length-append}
pub use Common.{length-drop, length-take, List, map, MatchOption, nat_eq, nat_le, ne_eqb, None, not}
pub use Common.{sym, take, take-append-drop, true, zero, [], ℕ, ◌&&◌, ◌*◌, ◌++◌, ◌+◌, ◌-◌, ◌<◌, ◌^◌}
pub use Common.{◌||◌, ◌∙◌, ◌∷◌, ◌≡◌, ◌≤◌, ◌⊎◌}
pub use Rattle.dwp_table.specs.declared.object.DwarfObject.TheVariants.{Compilation, TypeUnit}
pub use Rattle.dwp_base.specs.declared.section.SectionKind.TheVariants.{Str, StrOffsets}
pub use Rattle.dwp_units.specs.Units.{Unit as Header, unit_bytes as bytes_of_unit}
pub use Rattle.std.proofs.lemmas.List.Elements.{filter-append, filter_passes}
pub use Rattle.dwp_base.specs.declared.section.{Contribution.Contribution, SectionKind.SectionKind}
pub use Rattle.dwp_table.specs.{declared.object.DwarfObject.DwarfObject, Objects.identifier_of}
pub use Rattle.thorin_index.specs.{declared.entry.IndexEntry.IndexEntry, EntryTests.index_tests}
pub use Rattle.dwp_bytes.specs.Encoding.{index_version_of, offset_size}
pub use Rattle.thorin_strings.proofs.Remapping.{kept_more, range_named}
pub use Rattle.dwp_units.{proofs.Units.units_whole, specs.declared.unit.UnitSection.UnitSection}
pub use Rattle.thorin_index.specs.Entries.{contribution_to, entry_by}
pub use Rattle.dwp_base.{proofs.Bools.by-bool, specs.declared.endian.Endianness.Endianness}
pub use Rattle.dwp_bytes.specs.declared.{encoding.Encoding.Encoding, error.ReadError.ReadError}
pub use Rattle.thorin_index.specs.IndexText.{entry_ids, IsIndexOf}
pub use Rattle.{std.proofs.Math.Seq.take-length, thorin_package_input.specs.ReadStrings.ReadsAlike}
pub use Rattle.dwp_elf.specs.FileText.{file_text, Object as File}
pub use Rattle.{std.specs.Result.result_unwrap_or, thorin_identity.specs.Identity.first_identifier}
pub use Rattle.{dwp_bytes.specs.declared.encoding.Format.Format, dwp_table.specs.Table.AreDistinct}
pub use Rattle.{dwp_elf.proofs.Changes.length-KindsDiffer, thorin_errors.specs.Errors.ErrorValue}
pub use Rattle.dwp_base.specs.Reading.{read_each, ◌>>=◌}
pub use Rattle.{thorin_errors.specs.Answers.as_error, thorin_join.specs.Strings.strings_of}
pub use Rattle.thorin_package_input.proofs.ReadAlike.{no_header, number_front, strings_again}
pub use Rattle.dwp_bytes.specs.StringOffsets.{entry_count, header_size, string_for}
pub use Rattle.thorin_join.specs.Meaning.{source_units, UnitRead, whole_entries}
pub use Rattle.thorin_join.specs.Laid.{IsWhole, name_signature, type_signature}
pub use Rattle.std.proofs.lemmas.List.{Folds.list_any-append, Folds.list_any_at, take-append-le}
pub use Rattle.dwp_elf.specs.Contents.{content_of, count_of, KindsDiffer}
pub use Rattle.dwp_strings.specs.Strings.{data_of, IsTable, with_string}
pub use Rattle.dwp_base.specs.Sections.{all_kinds, name_of, same_kind}
pub use Rattle.thorin_input.specs.{Names.is_compilation, Names.same_name, NewUnits.unit_section}
pub use Rattle.dwp_base.proofs.Steps.{bind-ok, bind-was, same-ok}
pub use Rattle.thorin_input.specs.{Format.is_copied, Format.is_shared, Held.unit_bytes}
pub use Rattle.std.proofs.{ByRecursion.All-append, ByRecursion.All-weaker, lemmas.Simd.map-map}
pub use Rattle.std.proofs.lemmas.{Bool.Decides.nat_tests, Option.none-some, Option.same_Some}
pub use Rattle.dwp_bytes.specs.Input.{after, Input, section}
pub use Rattle.thorin_join.specs.{Join.GivesNone, Join.Joins, Represents.units_of}
pub use Rattle.{dwp_elf_read.specs.Elf.Elf, dwp_elf_read.specs.Elf.elf_of, std.specs.Map.lookup}
pub use Rattle.std.proofs.lemmas.List.{drop-append-le, length-map, map-append, nil_from_length}
pub use Rattle.thorin_join.specs.Builder.{begun_by, IdentifiersFit, IsFinished, package_or_new}
pub use Rattle.dwp_elf.specs.Growing.{Contents, contribution_put, HasFront, with_bytes}
pub use Rattle.thorin_input.specs.Indexes.{Indexes, indexes_of, is_package, Source}
pub use Rattle.dwp_base.proofs.EveryKind.{every, is-same, same-each, same-self}
pub use Rattle.dwp_index.specs.{Holding.sections_of, Index.column_place, Index.Index, Index.Ranges}
pub use Rattle.thorin_join.specs.Represents.{AreApart, AreRowsOf, IsRowOf, IsSound, IsSoundBegun}
pub use Rattle.thorin_join.specs.Represents.{LieInside, meaning_at, Shares, units_begun, units_in}
pub use Rattle.thorin_input.specs.NewUnits.{Adding, kept_bytes, New, NewUnit, place_for}
pub use Rattle.std.specs.List.{AllByRecursion as Each, list_all, list_any, position_or_len, sum_by}
pub use Rattle.thorin_join.specs.State.{adding, InProgress, names_of, row_at, with_unit_added}
pub use Rattle.thorin_input.specs.Parts.{has_part, joined_parts, Parts, parts_of, stands_once}
pub use Rattle.thorin_input.specs.Used.{first, has_info, InputFile, opened, Used}
pub use Rattle.thorin_join.specs.Meaning.{can_join, joined_content, joining, keys, Meaning, Members}
pub use Rattle.dwp_index.specs.Package.{index_for, is_outside, kind_of, Package, part_of, place_of}
unfoldable pub use Rattle.thorin_package_input.specs.PackagedOffsets.{packaged_offsets}
unfoldable pub use Rattle.{dwp_index.specs.Package.row_bytes, thorin_input.specs.Parts.with_parts}
unfoldable pub use Rattle.thorin_join.specs.Builder.{order_test, with_input}
unfoldable pub use Rattle.thorin_input.specs.{InputStrings.rewritten, Used.input_file_of}
unfoldable pub use Rattle.dwp_index.specs.{Index.range_in, Index.row_in, Package.encoding_in}
unfoldable pub use Rattle.thorin_input.specs.Parts.{with_each_part, with_offsets, with_part}
unfoldable pub use Rattle.thorin_identity.specs.Identity.{entry_identity, identity, root_identity}
unfoldable pub use Rattle.thorin_strings.specs.StringOffsets.{fitting_offset, named_at, remapped}
unfoldable pub use Rattle.thorin_join.specs.State.{with_new_unit, with_new_units, with_source}
unfoldable pub use Rattle.dwp_bytes.specs.StringOffsets.{entry_in, string_at, string_in}
unfoldable pub use Rattle.thorin_input.specs.NewUnits.{name_for, new_units, with_unit}

-- whether a row is one of them
abbrev pub is_chosen : Bool → IndexEntry → Bool
is_chosen true row = is_compilation row.id
is_chosen false row = not (is_compilation row.id)

-- `compilations` of a package's rows where this is true, else `type_units`
abbrev pub rows_of : Bool → List IndexEntry → List IndexEntry
rows_of are_compilations rows = filter (is_chosen are_compilations) rows
