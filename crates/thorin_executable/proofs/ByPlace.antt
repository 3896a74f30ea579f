-- Relocations whose places are in strict order, and what there is to read of a section by them.
use Rattle.dwp_bytes.specs.{declared.relocation.RelocationEntry.RelocationEntry, Relocation.ascends}
use Rattle.dwp_elf_read.specs.{Elf.Elf, Elf.SectionMeaning, Relocation.relocations_of}
use Rattle.std.proofs.Common.{arith, IsTrue, List, lt-ltb, map, map-id, nat_cmp, sym, ◌∙◌, ◌∷◌, ◌≡◌}
use Rattle.std.proofs.lemmas.{Map.Keys.below_from_sorted, Map.Keys.sorted_tail, Simd.map-map}
use Rattle.std.{proofs.Common.Ok, proofs.Common.refl, specs.List.Sorted.IsStrictlySortedBy}
use Rattle.thorin_executable.specs.Relocations.{pair_of, with_relocations}
use Rattle.thorin_executable.specs.Sections.{debug_content, entry_of, loaded}
use Rattle.{dwp_bytes.specs.declared.relocation.Relocation.Relocation, std.proofs.Common.[]}
use Rattle.{thorin_executable.specs.declared.loading.DebugSection.DebugSection, std.proofs.Common.ℕ}
use Rattle.dwp_bytes.specs.{Input.section as input_section, Relocation.relocated_input}

abbrev places : List RelocationEntry → List ℕ
places es = map (λ (e : RelocationEntry). e.offset) es

pub ascends-sorted : (es : List RelocationEntry) → IsStrictlySortedBy nat_cmp (places es)
    → IsTrue (ascends es)
ascends-sorted [] sorted = refl
ascends-sorted (e ∷ []) sorted = refl
ascends-sorted (e ∷ f ∷ es) sorted =
    let below = below_from_sorted (places (e ∷ f ∷ es)) 0 1 0 sorted (omega arith) (omega arith) in
    let rest = sorted_tail nat_cmp e.offset (places (f ∷ es)) sorted in
    rw (lt-ltb e.offset f.offset below, ascends-sorted (f ∷ es) rest) refl

-- a list of the pairs of a map in order of their places
pub ascends_pairs : (es : List RelocationEntry) (pairs : List (ℕ × Relocation))
    → map pair_of es ≡ pairs → IsStrictlySortedBy nat_cmp (map (λ (p : ℕ × Relocation). p.0) pairs)
    → IsTrue (ascends es)
ascends_pairs es pairs same sorted =
    let firsts : map (λ (p : ℕ × Relocation). p.0) (map pair_of es) ≡ places es =
    map-map (λ (p : ℕ × Relocation). p.0) pair_of es in
    ascends-sorted es (rw (← firsts, same) sorted)

pub entries-again : (entries : List RelocationEntry) → map entry_of (map pair_of entries) ≡ entries
entries-again entries = map-map entry_of pair_of entries ∙ map-id entries

pub loaded_is : (file target : Elf) (kind : DebugSection) (section : SectionMeaning)
    (bytes : List ℕ) (entries placed : List RelocationEntry) → target ≡ file
    → debug_content kind section ≡ Ok bytes
    → with_relocations file section.name (relocations_of target section.number) [] ≡ Ok
    (map pair_of entries) → placed ≡ entries
    → loaded file kind section ≡ Ok (relocated_input placed 0 (input_section file.order bytes))
unfolding loaded
loaded_is file target kind section bytes entries placed same content found is =
    let here = rw same at found in rw (content, here, entries-again entries, sym is)
