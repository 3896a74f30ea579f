-- The sections of a file by number, and the entries of a table.
use Rattle.dwp_elf_read.specs.Elf.{SectionMeaning, sections_from}
use Rattle.dwp_elf_read.specs.Relocation.{entries_from, entries_then, relocation_at, relocations_in}
use Rattle.dwp_elf_read.specs.Relocation.{relocates, relocation_size, table_of}
use Rattle.dwp_elf_read.specs.View.{elf, file, nth, placed, section, sections_left}
use Rattle.dwp_elf_read.specs.View.{entries_left, placed_sections, relocations_left, sections_after}
use Rattle.dwp_elf_read.specs.declared.relocation.{RawRelocation.RawRelocation, Table.Table}
use Rattle.dwp_elf_read.specs.declared.{error.ReadError.ReadError, file.ElfFile.ElfFile}
use Rattle.dwp_elf_read.specs.declared.{relocation.Relocations.Relocations, section.Section.Section}
use Rattle.std.proofs.Common.{arith, Bool, false, find, length, List, None, Result, slice_get, Some}
use Rattle.std.proofs.Common.{map, Ok, refl, suc, sym, true, ◌*◌, ◌+◌, ◌-◌, ◌<◌, ◌∙◌, ◌∷◌, ◌≡◌, ◌≤◌}
use Rattle.std.proofs.lemmas.List.FromFn.{get_or-map-range_with_len, length-map-range_with_len}
use Rattle.std.proofs.lemmas.{List.length-map, Option.slice_get_past, Option.slice_get_read}
use Rattle.std.{proofs.Common.ap, specs.List.range_with_len, proofs.Common.[], proofs.Common.ℕ}

-- ---- a list made from the numbers of a range: its first item, its end, an item by its number

range-more : (i n : ℕ) → i < n → range_with_len i (n - i) ≡ i ∷ range_with_len (i + 1) (n - (i + 1))
range-more i n h = let e : n - i ≡ suc (n - (i + 1)) = omega arith in ap (range_with_len i) e

range-done : (i n : ℕ) → n ≤ i → range_with_len i (n - i) ≡ []
range-done i n h = let e : n - i ≡ 0 = omega arith in ap (range_with_len i) e

-- ---- the sections by number

pub length_sections : (f : ElfFile) → length (elf f).sections ≡ f.count
unfolding elf sections_after sections_from
length_sections f = length-map-range_with_len (nth f) 0 (f.count - 0) ∙ omega arith

pub sections_more : (f : ElfFile) (i : ℕ) → i < f.count → sections_after f i ≡ nth f i ∷
    sections_after f (i + 1)
unfolding sections_after sections_from
sections_more f i h = ap (map (nth f)) (range-more i f.count h)

pub sections_done : (f : ElfFile) (i : ℕ) → f.count ≤ i → sections_after f i ≡ []
unfolding sections_after sections_from
sections_done f i h = ap (map (nth f)) (range-done i f.count h)

pub slice_get_sections : (f : ElfFile) (i : ℕ) → i < f.count → slice_get (elf f).sections i
    ≡ Some (nth f i)
unfolding elf sections_after sections_from
slice_get_sections f i h =
    slice_get_read (elf f).sections f.count i (nth f i) (sym (length_sections f)) h
    (sym (get_or-map-range_with_len (nth f) 0 (f.count - 0) i i (nth f i) (omega arith)
    (omega arith)))

pub slice_get_sections_past : (f : ElfFile) (i : ℕ) → f.count ≤ i
    → slice_get (elf f).sections i ≡ None
slice_get_sections_past f i h = slice_get_past (elf f).sections i (omega (arith, length_sections f))

-- the first section from i on that passes is the one at i, or it is further on
pub find_hit : (p : SectionMeaning → Bool) (f : ElfFile) (i : ℕ) → i < f.count → p (nth f i) ≡ true
    → find p (sections_after f i) ≡ Some (nth f i)
find_hit p f i h e = rw (sections_more f i h, e) refl

pub find_miss : (p : SectionMeaning → Bool) (f : ElfFile) (i : ℕ) → i < f.count
    → p (nth f i) ≡ false → find p (sections_after f i) ≡ find p (sections_after f (i + 1))
find_miss p f i h e = rw (sections_more f i h, e) refl

pub find_end : (p : SectionMeaning → Bool) (f : ElfFile) (i : ℕ) → f.count ≤ i
    → find p (sections_after f i) ≡ None
find_end p f i h = ap (find p) (sections_done f i h)

-- the iterator over sections gives the one that it stands at
pub sections_left_more : (f : ElfFile) (i : ℕ) (s : Section) → i < f.count → section s ≡ nth f i
    → file s ≡ elf f → sections_left (record { file = f; next = i }) ≡ placed s ∷ sections_left
    (record { file = f; next = i + 1 })
unfolding sections_left
sections_left_more f i s h here in_file = rw (sections_more f i h, in_file, here) refl

pub sections_left_done : (f : ElfFile) (i : ℕ) → f.count ≤ i
    → sections_left (record { file = f; next = i }) ≡ []
unfolding sections_left
sections_left_done f i h = ap (placed_sections (elf f)) (sections_done f i h)

pub length_sections_left : (f : ElfFile)
    → length (sections_left (record { file = f; next = 0 })) ≡ f.count
unfolding sections_left elf
length_sections_left f = length-map (sections_after f 0) _ ∙ length_sections f

-- the entry of a table that comes next
pub entries_more : (t : Table) → t.next < t.count → entries_left t ≡ Ok
    (relocation_at t.entries.class t.entries.order t.explicit t.link t.entries.bytes.now
    (t.next * relocation_size t.entries.class t.explicit)) ∷ entries_left
    (record t { next = t.next + 1 })
unfolding entries_left entries_from
entries_more t h = rw (range-more t.next t.count h) refl

pub entries_done : (t : Table) → t.count ≤ t.next → entries_left t ≡ []
unfolding entries_left entries_from
entries_done t h = rw (range-done t.next t.count h) refl

-- what is left once the entries of the table are given
abbrev pub others : Relocations → ℕ → List (Result RawRelocation ReadError)
others it i = relocations_in it.file.image.class it.file.image.order it.target
    (sections_after it.file i)

pub left_done : (it : Relocations) → entries_left it.table ≡ [] → it.file.count ≤ it.section
    → relocations_left it ≡ []
unfolding relocations_left relocations_in
left_done it none h = rw (none, sections_done it.file it.section h) refl

left_more : (it : Relocations) (s : SectionMeaning) → entries_left it.table ≡ []
    → it.section < it.file.count → s ≡ nth it.file it.section → relocations_left it ≡ relocations_in
    it.file.image.class it.file.image.order it.target (s ∷ sections_after it.file (it.section + 1))
unfolding relocations_left
left_more it s none h here = rw (none, sections_more it.file it.section h, ← here) refl

-- a section that has no relocations of the target is passed over
pub left_passed : (it : Relocations) (s : SectionMeaning) → entries_left it.table ≡ []
    → it.section < it.file.count → s ≡ nth it.file it.section → relocates it.target s ≡ false
    → relocations_left it ≡ others it (it.section + 1)
unfolding relocations_in
left_passed it s none h here passes = rw (left_more it s none h here, passes) refl

-- one that has some gives them first
pub left_entered : (it : Relocations) (s : SectionMeaning) → entries_left it.table ≡ []
    → it.section < it.file.count → s ≡ nth it.file it.section → relocates it.target s ≡ true
    → relocations_left it ≡ entries_then it.file.image.class it.file.image.order s
    (table_of it.file.image.class s) (others it (it.section + 1))
unfolding relocations_in
left_entered it s none h here enters = rw (left_more it s none h here, enters) refl

-- one table that is at its end is as good as another
pub left_same : (it : Relocations) (t : Table) → entries_left it.table ≡ [] → entries_left t ≡ []
    → relocations_left it ≡ relocations_left (record it { table = t })
unfolding relocations_left
left_same it t old new = rw (old, new) refl
