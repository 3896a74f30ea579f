use Rattle.dwp_elf_read.specs.{View.bytes_of, View.elf, View.section}
use Rattle.dwp_index.specs.{Contents.content_among, Contents.is_of_kind, Firsts.found_in}
use Rattle.std.proofs.Common.{arith, find, None, refl, Some, [], ◌∙◌, ◌≡◌}
use Rattle.thorin_c.specs.Opening.{bytes_at, nowhere}
use Rattle.thorin_c.proofs.opening.place.Goals as goal

pub returns-in_default-clause-content : goal.returns-in_default-clause-content
unfolding content_among
returns-in_default-clause-content c =
    let met : found_in c.args.firsts.now c.args.kind ≡ None =
    c.get.ensures.value None ∙ c.in_default.is in
    let none : bytes_at (bytes_of c.args.file.now) nowhere ≡ [] = grind arith in
    rw (← (rw met at c.requires.first), none) refl

-- the content of a kind is that of the section of the number that was met first
pub returns-in-Some-section-clause-content : goal.returns-in-Some-section-clause-content
unfolding content_among
returns-in-Some-section-clause-content c =
    let met : found_in c.args.firsts.now c.args.kind
    ≡ Some (c.in-Some.number, c.in-Some.field-0-1) =
    c.get.ensures.value None ∙ c.in-Some.is in
    let among : Some (section c.in-Some-section.used)
    ≡ find (is_of_kind c.args.kind) (elf c.args.file.now).sections =
    (rw c.in-Some-section.is at c.section.ensures.found) ∙ (rw met at c.requires.there)
    ∙ (rw met at c.requires.first) in
    rw (← among, ← c.in-Some-section.ensures.in_bytes) c.used_place.ensures.content
