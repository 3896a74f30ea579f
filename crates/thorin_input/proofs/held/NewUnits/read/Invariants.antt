use Rattle.std.proofs.Common.{drop, map, [], ◌&&◌, ◌≡◌}
use Rattle.std.specs.List.{list_all}
use Rattle.thorin_input.specs.{Encodings.section_has, NewUnits.none_met, NewUnits.with_each_section}
use Rattle.thorin_input.specs.{Encodings.are_alike, View.source, View.tables_in, View.used}
use Rattle.thorin_input.specs.UnitView.{adding_of, met_of, new_of}
use Rattle.thorin_input.proofs.held.NewUnits.read.Given as goal

-- what the sections that are left add to the units so far is what all add; and all have the input's
-- encoding where those so far have it, and those that are left
abbrev pub invariant-loop-section : goal.invariant-loop-section
invariant-loop-section l = (with_each_section (adding_of l.adding) (met_of l.met, new_of l.new)
    (map used (drop l.section-index l.adding.source.now.object.sections.items))
    ≡ with_each_section (adding_of l.adding) (none_met, record { units = []; differing = [] })
    (map used l.adding.source.now.object.sections.items)) × (l.met.tables
    ≡ tables_in (source l.adding.source.now).object) × ((l.new.alike && list_all (section_has
    l.adding.source.now.encoding l.adding.source.now.object.order) (map used (drop l.section-index
    l.adding.source.now.object.sections.items))) ≡ are_alike (source l.adding.source.now))
