use Rattle.std.proofs.Common.{ap, arith, length, min, Ok, rules, Some, sym, ◌+◌, ◌∙◌, ◌≡◌}
use Rattle.dwp_units.specs.{AbbreviationCodes.root_code_at, Units.unit_of}
use Rattle.thorin_identity.specs.Identity.{part_between, root_identity}
use Rattle.thorin_identity.proofs.Parts.{part_min, root_within}
use Rattle.thorin_identity.proofs.identity.offset_within.Goals as goal

pub returns-then-declares_within-clause-same : goal.returns-then-declares_within-clause-same
returns-then-declares_within-clause-same g c =
    let input = g.R.Reader.input in
    let whole = input c.args.debug_abbrev.now in
    let unit = unit_of input c.args.header.now in
    let values = input c.in_ok-code.field-0-1 in
    let len : c.len.result ≡ length whole.bytes = cc (c.section.ensures, c.len.ensures) in
    let end : c.min-end.result ≡ min c.args.end (length whole.bytes) =
    omega (arith, c.min-end.ensures, len) in
    let at : c.in_ok-offset.offset ≡ c.args.start + unit.abbrev_offset =
    omega (arith, c.in_ok-offset.ensures, c.abbrev_offset.ensures) in
    let root : root_code_at unit.entries ≡ Ok (Some (c.in_ok-code.code, values)) =
    search (rules, c.root_code.ensures, c.in_ok-code.is) in
    ap (λ part. root_identity part unit) (sym (part_min c.args.start c.args.end whole)
    ∙ ap (λ end. part_between c.args.start end whole) (sym end))
    ∙ root_within c.args.start c.min-end.result c.in_ok-offset.offset c.in_ok-code.code whole values
    unit at (omega (arith, c.if-offset-end.true)) (omega (arith, end)) root
    (c.declares_within.ensures.same c.if-declares_within.true)
