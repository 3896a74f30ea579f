-- What the export that decompresses answers.
use Rattle.std.specs.Prelude.{◌≡◌, ◌<◌, ◌≤◌, ℕ, ℤ, pos, List, take, drop, length, Some, Ok, Err}
use Rattle.std.specs.Prelude.{◌⊎◌}
use Rattle.dwp_elf_read.specs.Elf.{elf_of}
use Rattle.dwp_decompress.specs.Result.{decompressed_of, plain_length_of}
use Rattle.dwp_decompress.specs.declared.asked.Asked.TheVariants.{All}
use Rattle.dwp_decompress.specs.declared.error.DecompressError.{DecompressError}
use Rattle.dwp_decompress.specs.declared.error.DecompressError.TheVariants as errors

-- the file with plain sections stands at the beginning of the room, the rest of which is as it was;
-- its size is the one that the headers told
pub record Decompresses (bytes : List ℕ) (size : ℕ) (old new : List ℕ) : Type 0 where
  pub fits : size ≤ length new
  pub told : plain_length_of All bytes ≡ Ok (Some size)
  pub plain : decompressed_of All bytes ≡ Ok (Some (elf_of (take size new)))
  pub rest : drop size new ≡ drop size old

-- by what the headers tell it has a size past the room
pub record NeedsRoom (bytes : List ℕ) (size room : ℕ) : Type 0 where
  pub told : plain_length_of All bytes ≡ Ok (Some size)
  pub past : room < size

-- the status of a file that isn't decompressed: it can't be read; one of its compressed sections
-- has a damaged header, a damaged stream of zlib's or of zstd's, or a type that isn't read; it
-- can't be written, or memory ran out
abbrev pub status_of : DecompressError → ℤ
status_of (errors.Read e) = pos 3
status_of errors.Header = pos 15
status_of (errors.Zlib e) = pos 15
status_of (errors.Zstd e) = pos 18
status_of (errors.UnknownType type) = pos 16
status_of errors.Unrepresentable = pos 17
status_of errors.Memory = pos 13

-- the error of such a file
pub record IsError (bytes : List ℕ) (status : ℤ) : Type 0 where
  pub error : DecompressError
  pub is : decompressed_of All bytes ≡ Err error
  pub status_is : status ≡ status_of error

-- the statuses under which an error is told
abbrev pub TellsError : ℤ → Type 0
TellsError status = (status ≡ pos 3) ⊎ ((status ≡ pos 15) ⊎ ((status ≡ pos 16)
    ⊎ (status ≡ pos 18)))

abbrev pub IsPlainStatus : ℤ → Type 0
IsPlainStatus status = (status ≡ pos 0) ⊎ ((status ≡ pos 10) ⊎ ((status ≡ pos 14)
    ⊎ (TellsError status ⊎ ((status ≡ pos 17) ⊎ (status ≡ pos 13)))))
