-- Sections and files that are compared.
use Rattle.std.proofs.Common.{List, Option, refl, ℕ, ◌∙◌, ◌≡◌}
use Rattle.dwp_elf_read.specs.{Compared.with_own, Elf.Elf, Elf.SectionMeaning}

-- a section whose other numbers are those of another
pub is_own : (new old : SectionMeaning) (name : Option (List ℕ)) (flags size : ℕ)
    (content : Option (List ℕ)) → new ≡ with_own new old → new.name ≡ name → new.flags ≡ flags
    → new.size ≡ size → new.content ≡ content
    → new ≡ record old { name = name; flags = flags; size = size; content = content }
unfolding with_own
is_own new old name flags size content e n f s c = e ∙ rw (n, f, s, c) refl

-- all is that of the other
pub is_other : (new old : SectionMeaning) → new ≡ with_own new old → new.name ≡ old.name
    → new.flags ≡ old.flags → new.size ≡ old.size → new.content ≡ old.content → new ≡ old
is_other new old = is_own new old old.name old.flags old.size old.content

-- and then the other numbers are
pub own_of : (new old : SectionMeaning) → new ≡ old → new ≡ with_own new old
unfolding with_own
own_of new old e = rw e refl

-- a file of the class, byte order and machine of another
pub same_file : (new old : Elf) (sections : List SectionMeaning) → new.class ≡ old.class
    → new.order ≡ old.order → new.machine ≡ old.machine → new.sections ≡ sections
    → new ≡ record old { sections = sections }
same_file new old sections c o m s = rw (← c, ← o, ← m, ← s) refl
