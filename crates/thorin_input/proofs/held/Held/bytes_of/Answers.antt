use Rattle.std.proofs.Common.{[], ap, Option, ℕ, ◌∙◌, ◌∷◌, ◌≡◌}
use Rattle.std.proofs.Common.{get_or, List, map, None, option_map, position, refl, rules, Some, sym}
use Rattle.thorin_input.specs.{Held.held_units, Held.unit_bytes, Names.same_name}
use Rattle.{dwp_elf.specs.Growing.Contents, thorin_index.specs.declared.entry.IndexEntry.IndexEntry}
use Rattle.{dwp_table.specs.declared.object.DwarfObject.DwarfObject, thorin_index.specs.Rows.blank}
use Rattle.{std.specs.Map.lookup, thorin_input.proofs.NewUnitLemmas.same_name-is}
use Rattle.dwp_table.specs.contracts.object.DwarfObjectPartialEq.TheImpl as derived
use Rattle.thorin_input.proofs.held.Held.bytes_of.Goals as goal

-- where a name stands among those of a package, its row's bytes are found
held-at : (contents : Contents) (rows : List IndexEntry) (keys : List DwarfObject)
    (name : DwarfObject) → keys ≡ map (λ row. row.id) rows → (d : IndexEntry) (at : Option ℕ)
    → at ≡ position (derived.eq-value.it name) keys → option_map (λ n.
    unit_bytes contents (get_or rows n d)) at ≡ lookup (same_name name) (held_units contents rows)
held-at contents rows keys name named d at is =
    rw (is ∙ ap (λ test. position test keys) (same_name-is name), named) (found rows)
  where
    found : (rows : List IndexEntry) → option_map (λ n. unit_bytes contents (get_or rows n d))
        (position (same_name name) (map (λ row. row.id) rows))
        ≡ lookup (same_name name) (held_units contents rows)
    found [] = refl
    found (row ∷ rows) = grind (rules, found rows)

pub returns-in_default : goal.returns-in_default
returns-in_default c =
    let held = c.args.self.now in
    let none : c.get_index_of.result ≡ None = search (rules, c.in_default) in
    held-at held.object.now.contents held.rows.now _ c.args.name held.named blank None
    (sym none ∙ c.get_index_of.ensures.index)

pub returns : goal.returns
returns c =
    let held = c.args.self.now in
    let row = c.entry-row.result in
    let bytes : c.part_of.result.now ≡ unit_bytes held.object.now.contents row = search (
      rules,
      c.part_of.ensures,
      c.content.ensures,
      c.contribution.ensures,
      c.kind_of-kind.ensures,
      c.place_of.ensures,
    ) in
    ap Some (bytes ∙ ap (unit_bytes held.object.now.contents) c.entry-row.ensures)
    ∙ held-at held.object.now.contents held.rows.now _ c.args.name held.named row
    (Some c.in-Some.position) c.in-Some.ensures.index
