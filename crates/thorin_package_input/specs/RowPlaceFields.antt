-- What the fields of a `RowPlaces` hold.
use Rattle.std.specs.Prelude.{◌≡◌, ℕ}
use Rattle.std.specs.Option.{option_copied}
use Rattle.std.specs.BTreeMap.{get}
use Rattle.std.specs.Ordering.{nat_cmp, ordering_then}
use Rattle.std.specs.declared.cmp.Ordering.{Ordering}
use Rattle.dwp_base.specs.declared.section.Contribution.{Contribution}
use Rattle.thorin_package_input.specs.declared.row_places.RowPlaces.TheInside.{Inside}
use Rattle.thorin_package_input.specs.RowPlaces.{Places, row_by_place}

abbrev pub places_in : Inside → Places
places_in p = record { index = option_copied p.index; section = p.section }

-- an order of place and size
abbrev pub pair_cmp : (ℕ × ℕ) → (ℕ × ℕ) → Ordering
pair_cmp x y = ordering_then (nat_cmp x.0 y.0) (nat_cmp x.1 y.1)

-- the map has for each range the lowest row that has it
pub record IsRowPlaces (p : Inside) : Type 0 where
  pub each : (range : Contribution) → get pair_cmp p.rows (range.offset.0, range.size)
      ≡ row_by_place (option_copied p.index) p.section range
