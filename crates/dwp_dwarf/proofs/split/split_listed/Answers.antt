use Rattle.dwp_dwarf.proofs.Terms.{SplitAttributes, attribute_of, attributes_of, specification_of}
use Rattle.dwp_dwarf.specs.declared.abbrev.AttributeSpecification.{AttributeSpecification}
use Rattle.dwp_dwarf.proofs.Terms.{ap, attributes, drop, drop_more, map, sym, ◌+◌, ◌∙◌}
use Rattle.dwp_dwarf.proofs.Values.{after_first, joined_rest}
use Rattle.dwp_dwarf.proofs.split.split_listed.Goals as goal

pub loop-specification-preserved : goal.loop-specification-preserved
loop-specification-preserved g c =
    let input = g.R.Reader.input in
    let format = c.args.encoding.format in
    let k = c.loop-specification.specification-index in
    let none : AttributeSpecification = record { name = 0; form = 0 } in
    let dropped = drop_more c.args.list.now k none c.loop-specification-test.true in
    let rest = attributes c.args.encoding (map specification_of (drop (k + 1) c.args.list.now))
    (input c.read_attribute.new.values) in
    ap (λ (b : SplitAttributes). joined_rest format b rest) c.add.ensures
    ∙ sym (after_first format (attributes_of input c.loop-specification.found)
    (attribute_of input c.in_ok-attribute.attribute) rest)
    ∙ (rw (dropped, c.in_ok-attribute.ensures) at c.loop-specification.invariant)
