-- The members of an archive, in order (ar(5)).
use Rattle.std.specs.Prelude.{ℕ, zero, suc, List, [], ◌∷◌, ◌++◌, length, drop, codes, nat_eq}
use Rattle.std.specs.Prelude.{if◌then◌else◌, Result, Ok, Err}
use Rattle.std.specs.List.{starts_with}
use Rattle.dwp_base.specs.Reading.{◌>>=◌}
use Rattle.dwp_archive.specs.declared.error.ArchiveError.{ArchiveError}
use Rattle.dwp_archive.specs.declared.error.ArchiveError.TheVariants.{NotArchive, Thin}
use Rattle.dwp_archive.specs.Entries.{Member, entry_at}

-- the first line of an archive, and of a thin one
abbrev pub archive_magic : List ℕ
archive_magic = codes "!<arch>" ++ 10 ∷ []

abbrev pub thin_magic : List ℕ
thin_magic = codes "!<thin>" ++ 10 ∷ []

-- what stands behind the first line
unfoldable pub entries_of : List ℕ → Result (List ℕ) ArchiveError
entries_of bytes =
    if starts_with nat_eq bytes archive_magic then Ok (drop 8 bytes)
    else (if starts_with nat_eq bytes thin_magic then Err Thin else Err NotArchive)

-- the members of the entries that are left, by the table of names so far. There are at most n
-- entries: each has bytes
unfoldable pub members_from : ℕ → List ℕ → List ℕ → Result (List Member) ArchiveError
members_from zero names bytes = Ok []
members_from (suc n) names [] = Ok []
members_from (suc n) names (b ∷ bytes) = do
  entry ← entry_at names (b ∷ bytes)
  members ← members_from n entry.names entry.rest
  Ok (entry.members ++ members)

-- the members of an archive, or its first error
unfoldable pub members_of : List ℕ → Result (List Member) ArchiveError
members_of bytes = do
  entries ← entries_of bytes
  members_from (length bytes) [] entries
