-- What the entries of an archive are (ar(5), the variants of System V, GNU and BSD): members, the
-- table of long names, and tables of symbols.
use Rattle.std.specs.Prelude.{ℕ, ◌%◌, ◌||◌, Bool, nat_lt, nat_eq, List, [], ◌∷◌, length, take, drop}
use Rattle.std.specs.Prelude.{codes, if◌then◌else◌, Result, Ok, Err}
use Rattle.std.specs.List.{starts_with}
use Rattle.std.specs.Option.{ok_or}
use Rattle.dwp_base.specs.Reading.{◌>>=◌}
use Rattle.dwp_archive.specs.declared.error.ArchiveError.{ArchiveError}
use Rattle.dwp_archive.specs.declared.error.ArchiveError.TheVariants.{Name, PastNames, NameTooLong}
use Rattle.dwp_archive.specs.Headers.{decimal, is_padded, size_at}
use Rattle.dwp_archive.specs.Names.{short_name, long_name, own_name}

pub record Member : Type 0 where
  pub name : List ℕ
  pub content : List ℕ

-- what an entry is: the table of names from there on, the member if it is one, and the bytes behind
pub record Entry : Type 0 where
  pub names : List ℕ
  pub members : List Member
  pub rest : List ℕ

-- BSD names a table of symbols like a member
unfoldable pub is_symbols : List ℕ → Bool
is_symbols name = starts_with nat_eq name (codes "__.SYMDEF")

unfoldable pub member_named : List ℕ → List ℕ → List Member
member_named name content =
    if is_symbols name then [] else record { name = name; content = content } ∷ []

-- `/` and digits: the name stands at that place of the table
unfoldable pub long_at : List ℕ → List ℕ → List ℕ → Result (List Member) ArchiveError
long_at names digits content = do
  place ← ok_or (decimal digits) Name
  if nat_lt (length names) place then Err PastNames
      else Ok (record { name = long_name (drop place names); content = content } ∷ [])

-- `#1/` and digits: so many bytes in front of the content are the name
unfoldable pub own_at : List ℕ → List ℕ → Result (List Member) ArchiveError
own_at digits content = do
  size ← ok_or (decimal digits) Name
  if nat_lt (length content) size then Err NameTooLong
      else Ok (member_named (own_name (take size content)) (drop size content))

-- what an entry with a content is, by its name: `//` is the table of names, `/` and `/SYM64/` are
-- tables of symbols
unfoldable pub members_at : List ℕ → List ℕ → List ℕ → Result (List Member) ArchiveError
members_at names field content =
    if is_padded (codes "/") field || is_padded (codes "/SYM64/") field then Ok []
    else (if starts_with nat_eq field (codes "/") then long_at names (drop 1 field) content
    else (if starts_with nat_eq field (codes "#1/") then own_at (drop 3 field) content
    else Ok (member_named (short_name field) content)))

unfoldable pub content_at : List ℕ → List ℕ → List ℕ → Result (List ℕ × List Member) ArchiveError
content_at names field content =
    if is_padded (codes "//") field then Ok (content, []) else (do
      members ← members_at names field content
      Ok (names, members))

-- an entry: a header, its content, and a byte more where the size is odd, which may be missing at
-- the end
unfoldable pub entry_at : List ℕ → List ℕ → Result Entry ArchiveError
entry_at names bytes = do
  size ← size_at bytes
  found ← content_at names (take 16 bytes) (take size (drop 60 bytes))
  Ok (record {
    names = found.0;
    members = found.1;
    rest = drop (size % 2) (drop size (drop 60 bytes));
  })
