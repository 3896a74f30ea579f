-- What is said of an archive that can't be read.
use Rattle.std.specs.Prelude.{ℕ, List, codes}
use Rattle.dwp_archive.specs.declared.error.ArchiveError.{ArchiveError}
use Rattle.dwp_archive.specs.declared.error.ArchiveError.TheVariants as errors

abbrev pub archive_text : ArchiveError → List ℕ
archive_text errors.NotArchive = codes "File is not an archive"
archive_text errors.Thin = codes "Archive is thin"
archive_text errors.HeaderTooShort = codes "Header of a member is cut short"
archive_text errors.HeaderEnd = codes "Header of a member has a bad end"
archive_text errors.Size = codes "Size of a member is not a number"
archive_text errors.PastEnd = codes "Member reaches past the end of the archive"
archive_text errors.Name = codes "Name of a member can't be read"
archive_text errors.PastNames = codes "Name of a member is past the table of names"
archive_text errors.NameTooLong = codes "Name of a member is longer than the member"
archive_text errors.Memory = codes "Out of memory"
