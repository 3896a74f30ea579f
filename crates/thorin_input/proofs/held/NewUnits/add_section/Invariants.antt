use Rattle.std.proofs.Common.{Some, ◌&&◌, ◌≡◌}
use Rattle.thorin_input.specs.UnitView.{adding_of, left_in, met_of, new_of}
use Rattle.thorin_input.specs.{Encodings.all_have, Encodings.has_encoding, NewUnits.with_each_read}
use Rattle.{dwp_bytes.specs.Input.section, thorin_input.specs.View.used}
use Rattle.{dwp_units.specs.Units.units, dwp_units.specs.Units.units_left, std.specs.List.list_all}
use Rattle.thorin_input.proofs.held.NewUnits.add_section.Given as goal

-- what the units that are left add to those so far is what all add; and all have the input's
-- encoding where those so far have it, and those that are left
abbrev pub invariant-loop-read : goal.invariant-loop-read
invariant-loop-read l = (with_each_read (adding_of l.adding) (used l.section)
    (new_of l.self) (units_left left_in l.read-iterator) ≡ with_each_read (adding_of l.adding)
    (used l.section) (new_of l.fn.self) (units l.place (section l.adding.source.now.object.order
    l.section.bytes.now))) × (l.met.tables ≡ l.fn.met.tables) × (met_of l.met ≡ met_of l.fn.met)
    × ((l.self.alike && list_all (has_encoding l.adding.source.now.encoding) (units_left
    left_in l.read-iterator)) ≡ (l.fn.self.alike && all_have l.adding.source.now.encoding
    l.adding.source.now.object.order l.section.bytes.now (Some l.place)))
