-- How an object grows: what bytes add to its contents, and what of it stays as it was.
use Rattle.std.specs.Prelude.{◌≡◌, ℕ, List, [], ◌∷◌, ◌++◌, map, length, Option, Some, None, ◌==◌}
use Rattle.std.specs.Prelude.{if◌then◌else◌}
use Rattle.dwp_base.specs.declared.section.SectionKind.{SectionKind}
use Rattle.dwp_base.specs.declared.section.Contribution.{Contribution}
use Rattle.dwp_elf.specs.Contents.{content_of, appended}
use Rattle.dwp_elf.specs.FileText.{Object}

-- the contents of sections, in order
abbrev pub Contents : Type 0
Contents = List (SectionKind × List ℕ)

-- the contents once bytes were added to a section's; no bytes make no section
abbrev pub with_bytes : SectionKind → List ℕ → Contents → Contents
with_bytes kind bytes contents =
    if length bytes == 0 then contents else appended kind bytes contents

-- the contribution of bytes that are appended to a section's content; none of no bytes
abbrev pub contribution_put : SectionKind → List ℕ → Contents → Option Contribution
contribution_put kind bytes contents =
    if length bytes == 0 then None
    else Some (record {
      offset = record { 0 = length (content_of kind contents) };
      size = length bytes;
    })

-- a list has another at its front
pub record HasFront (front whole : List ℕ) : Type 0 where
  pub rest : List ℕ
  pub is : whole ≡ front ++ rest

-- each of the contents has at its front the one that stood there, and further ones may follow
abbrev pub Begins : Contents → Contents → Type 0
Begins [] now = Unit {0}
Begins (c ∷ cs) [] = ⊥
Begins (c ∷ cs) (d ∷ ds) = (d.0 ≡ c.0) × HasFront c.1 d.1 × Begins cs ds

-- an object that grew
pub record IsGrown (before now : Object) : Type 0 where
  pub class : now.class ≡ before.class
  pub machine : now.machine ≡ before.machine
  pub order : now.order ≡ before.order
  pub contents : Begins before.contents now.contents

-- the lengths of contents
abbrev pub lengths : Contents → List ℕ
lengths contents = map (λ c. length c.1) contents
