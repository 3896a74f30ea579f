use Rattle.dwp_dwarf.proofs.Terms.{ap, attribute_of, attributes_of, rules, Some, ◌≡◌}
use Rattle.std.proofs.Common.{option_map}
use Rattle.thorin_executable.{proofs.SamePaths.path_with, specs.Paths.base_of}
use Rattle.thorin_executable.proofs.paths.path_places.Goals as goal

pub returns-in_ok-string_place-in-Some : goal.returns-in_ok-string_place-in-Some
returns-in_ok-string_place-in-Some g c =
    let input = g.R.Reader.input in
    let root = attributes_of input c.args.root.now in
    let base : c.unwrap_or-base.result ≡ base_of root = search (rules, c.unwrap_or-base.ensures) in
    let some : c.args.root.now.comp_dir ≡ Some c.in-Some.directory =
    search (rules, c.in-Some.is) in
    λ strings. path_with strings c.args.format root (attribute_of input c.args.name.now)
    c.in_ok-name.name (attribute_of input c.in-Some.directory)
    c.in_ok-string_place-in-Some.field-0 (ap (option_map (attribute_of input)) some)
    (rw base at c.in_ok-name.ensures) (rw base at c.in_ok-string_place-in-Some.ensures)
