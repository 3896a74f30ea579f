-- The contents of an object: what is written under the name of each kind of section, in order of
-- first append.
use Rattle.std.specs.Prelude.{ℕ, ◌+◌, ◌≤◌, if◌then◌else◌, List, [], ◌∷◌, ◌++◌, take, map}
use Rattle.std.specs.Global.{Vec}
use Rattle.dwp_base.specs.declared.section.SectionKind.{SectionKind}
use Rattle.dwp_base.specs.Sections.{same_kind}

-- how many contents are of a kind
abbrev pub count_of : SectionKind → List (SectionKind × List ℕ) → ℕ
count_of kind [] = 0
count_of kind (c ∷ cs) = (if same_kind c.0 kind then 1 else 0) + count_of kind cs

-- no two contents are of one kind
abbrev pub KindsDiffer : List (SectionKind × List ℕ) → Type 0
KindsDiffer contents = (kind : SectionKind) → count_of kind contents ≤ 1

-- the content of a kind, no bytes where there is none
abbrev pub content_of : SectionKind → List (SectionKind × List ℕ) → List ℕ
content_of kind [] = []
content_of kind (c ∷ cs) = if same_kind c.0 kind then c.1 else content_of kind cs

-- the contents once bytes were added at the end of a kind's, or as a new last content where there
-- is none
abbrev pub appended : SectionKind → List ℕ → List (SectionKind × List ℕ)
    → List (SectionKind × List ℕ)
appended kind bytes [] = (kind, bytes) ∷ []
appended kind bytes (c ∷ cs) =
    if same_kind c.0 kind then (c.0, c.1 ++ bytes) ∷ cs else c ∷ appended kind bytes cs

-- the first contents, at most as many as there are sizes, each that is longer cut to its size; one
-- that is cut to 0 stays, without bytes
abbrev pub truncated : List (SectionKind × List ℕ) → List ℕ → List (SectionKind × List ℕ)
truncated [] sizes = []
truncated (c ∷ cs) [] = []
truncated (c ∷ cs) (n ∷ ns) = (c.0, take n c.1) ∷ truncated cs ns

-- the contents in a list of sections
abbrev pub contents_of : List (SectionKind × Vec ℕ) → List (SectionKind × List ℕ)
contents_of sections = map (λ s. (s.0, s.1.items)) sections
