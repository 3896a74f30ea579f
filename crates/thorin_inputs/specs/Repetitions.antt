-- What the objects that an input names add once more, and how often files are read again: both by
-- how many bytes were read.
use Rattle.std.specs.Prelude.{ℕ, ◌+◌, ◌-◌, ◌*◌, ◌/◌, ◌^◌, min, nat_le, ◌==◌, ◌&&◌, ◌||◌, Bool}
use Rattle.std.specs.Prelude.{true, if◌then◌else◌, Option, Some, None, List}
use Rattle.std.specs.Map.{lookup}

-- a file: the device that it stands on, its number there, and its size, since not every file system
-- numbers its files
abbrev pub File : Type 0
File = ℕ × ℕ × ℕ

-- how many bytes were read of the present input, and how many its objects add once more; how many
-- of all inputs were read for the first time, and how many again
pub record Counts : Type 0 where
  pub read : ℕ
  pub added : ℕ
  pub first : ℕ
  pub again : ℕ

-- the number of the present input, each file with that of the input for which it was read last, and
-- the counts
pub record Reads : Type 0 where
  pub input : ℕ
  pub files : List (File × ℕ)
  pub counts : Counts

-- nothing was read
abbrev pub none_read : Counts
none_read = record { read = 0; added = 0; first = 0; again = 0 }

-- ---- what is allowed

-- how many bytes an input may bring in any case that its files don't have
abbrev pub LEAST_ROOM : ℕ
LEAST_ROOM = 4096

-- how often files may be read again, all together
abbrev pub READ_AGAIN : ℕ
READ_AGAIN = 16

-- how many bytes a type unit counts that differs from the one kept: a line warns of it
abbrev pub DIFFERING_SIZE : ℕ
DIFFERING_SIZE = 64

-- what is added once more has no more bytes than were read of the input, or than it may in any case
abbrev pub is_added_within : Counts → Bool
is_added_within counts = nat_le counts.added LEAST_ROOM || nat_le counts.added counts.read

-- what is read again has no more bytes than so many times what was read first
abbrev pub is_again_within : Counts → Bool
is_again_within counts = nat_le (counts.again / READ_AGAIN) counts.first

-- ---- what is counted

-- sums stop at the largest number
abbrev pub plus : ℕ → ℕ → ℕ
plus a b = min (a + b) (2 ^ 64 - 1)

-- an input begins
abbrev pub begun : Counts → Counts
begun counts = record counts { read = 0; added = 0 }

-- its bytes are read
abbrev pub with_read : Counts → ℕ → Counts
with_read counts size = record counts { read = plus counts.read size }

-- for the first time, of any input
abbrev pub with_first : Counts → ℕ → Counts
with_first counts size =
    record counts { read = plus counts.read size; first = plus counts.first size }

-- again
abbrev pub with_again : Counts → ℕ → Counts
with_again counts size = record counts { again = plus counts.again size }

-- bytes are added once more
abbrev pub with_added : Counts → ℕ → Counts
with_added counts size = record counts { added = plus counts.added size }

-- how many an object that isn't read again adds: those of its sections, and for each type unit that
-- differs
abbrev pub bytes_more : (bytes differing : ℕ) → ℕ
bytes_more bytes differing = plus bytes (min (differing * DIFFERING_SIZE) (2 ^ 64 - 1))

-- the input's own file was read: again too, where it was read before
abbrev pub own_counted : Counts → (before : Option ℕ) → (size : ℕ) → Counts
own_counted counts None size = with_first counts size
own_counted counts (Some input) size = with_read counts size

-- an object was read: of one that was read before for the same input the bytes are added once more,
-- of one that was for another they are read again
abbrev pub object_counted : Counts → (input : ℕ) → (before : Option ℕ) → (size : ℕ) → Counts
object_counted counts input None size = with_first counts size
object_counted counts input (Some before) size =
    let again = with_again counts size in
    if is_again_within again
    then (if before == input then with_added again size else with_read again size)
    else again

-- whether it may be added
abbrev pub is_admitted : Counts → (input : ℕ) → (before : Option ℕ) → (size : ℕ) → Bool
is_admitted counts input None size = true
is_admitted counts input (Some before) size =
    let again = with_again counts size in
    is_again_within again
    && (if before == input then is_added_within (with_added again size) else true)

-- ---- which files were read

abbrev pub is_file : File → File → Bool
is_file x y = x.0 == y.0 && x.1 == y.1 && x.2 == y.2

abbrev pub file_of : ℕ × ℕ → (size : ℕ) → File
file_of identity size = (identity.0, identity.1, size)

-- the input for which a file was read last
abbrev pub last : Reads → File → Option ℕ
last reads file = lookup (is_file file) reads.files

-- the same by its identity; none without one
abbrev pub last_of : Reads → (identity : Option (ℕ × ℕ)) → (size : ℕ) → Option ℕ
last_of reads None size = None
last_of reads (Some identity) size = last reads (file_of identity size)

-- once it is read for the present input: that of other files is as before
abbrev pub noted : Reads → (identity : Option (ℕ × ℕ)) → (size : ℕ) → File → Option ℕ
noted reads None size file = last reads file
noted reads (Some identity) size file =
    if is_file (file_of identity size) file then Some reads.input else last reads file
