use Rattle.dwp_dwarf.proofs.Terms.{from_at, Ok, rules, Some, subst, sym, ◌≡◌}
use Rattle.dwp_dwarf.specs.Numbers.{numbered_at, numbered_of}
use Rattle.thorin_identity.specs.Identity.{DW_AT_GNU_dwo_id, with_offset}
use Rattle.{dwp_units.specs.AbbreviationCodes.root_code_at, thorin_identity.proofs.Parts.root_is}
use Rattle.{dwp_units.specs.Units.unit_of, thorin_errors.specs.Answers.Gives}
use Rattle.thorin_identity.proofs.identity.root_identifier_at.Goals as goal

pub returns-clause-meaning : goal.returns-clause-meaning
returns-clause-meaning g c =
    let input = g.R.Reader.input in
    let unit = with_offset c.args.offset (unit_of input c.args.header.now) in
    let section = input c.args.debug_abbrev.now in
    let table = input c.in_ok-_table._table.table in
    let values = input c.in_ok-code.values in
    let at : from_at unit.abbrev_offset section ≡ Ok table =
    search (rules, c.in_ok-_table.ensures.cases) in
    let root : root_code_at unit.entries ≡ Ok (Some (c.in_ok-code.code, values)) =
    search (rules, c.in_ok-code.ensures.value) in
    let said : numbered_at DW_AT_GNU_dwo_id unit.encoding values c.in_ok-code.code table
    ≡ Ok (Some (numbered_of c.in_ok-found.found)) =
    search (rules, at, c.in_ok-map_err.ensures.cases, c.in_ok-found.ensures.value) in
    subst (Gives (λ name. name) c.numbered_identifier.result)
    (sym (root_is section unit table values c.in_ok-code.code (numbered_of c.in_ok-found.found)
    at root said)) c.numbered_identifier.ensures.meaning
