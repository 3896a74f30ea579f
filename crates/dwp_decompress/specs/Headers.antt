-- The content of a compressed section: a header, and a stream behind it (ELF gABI, "Section
-- Compression", Elf32_Chdr and Elf64_Chdr; GNU binutils, `--compress-debug-sections=zlib-gnu`).
use Rattle.std.specs.Prelude.{ℕ, ◌*◌, List, drop, length, nat_lt, nat_eq, ◌==◌, codes}
use Rattle.std.specs.Prelude.{if◌then◌else◌, Result, Ok, Err, Option, Some, None, [], ◌∷◌, ◌+◌}
use Rattle.std.specs.List.{starts_with}
use Rattle.std.specs.Option.{ok_or}
use Rattle.dwp_base.specs.Reading.{◌>>=◌}
use Rattle.dwp_base.specs.declared.class.Class.{Class}
use Rattle.dwp_base.specs.declared.endian.Endianness.{Endianness}
use Rattle.dwp_base.specs.declared.endian.Endianness.TheVariants.{Big}
use Rattle.dwp_elf_read.specs.declared.error.ReadError.TheVariants.{SectionRange}
use Rattle.dwp_elf_read.specs.Layout.{word_size, number_at}
use Rattle.dwp_elf_read.specs.Elf.{SectionMeaning, has_compressed_flag}
use Rattle.dwp_inflate.specs.Streams.{inflated}
use Rattle.dwp_inflate.specs.declared.error.InflateError.TheVariants as inflating
use Rattle.dwp_zstd.specs.Frames as zstd
use Rattle.dwp_zstd.specs.declared.error.ZstdError.TheVariants as decoding
use Rattle.dwp_decompress.specs.declared.error.DecompressError.{DecompressError}
use Rattle.dwp_decompress.specs.declared.error.DecompressError.TheVariants as errors
use Rattle.dwp_decompress.specs.declared.error.DecompressError.TheVariants.{Header, UnknownType}
use Rattle.dwp_decompress.specs.declared.asked.Asked.{Asked}
use Rattle.dwp_decompress.specs.declared.stream.Kind.{Kind}
use Rattle.dwp_decompress.specs.declared.stream.Kind.TheVariants.{Zlib, Zstd}
use Rattle.dwp_decompress.specs.declared.stream.CompressedStream as declared
use Rattle.dwp_decompress.specs.Answers.{reading, inflated_as, decoded_as}
use Rattle.dwp_decompress.specs.Compressed.{is_compressed}

-- a stream of a kind, and the size of what it writes
pub record CompressedStream : Type 0 where
  pub kind : Kind
  pub size : ℕ
  pub bytes : List ℕ

abbrev pub packed : declared.CompressedStream → CompressedStream
packed stream = record { kind = stream.kind; size = stream.size; bytes = stream.bytes.now }

-- the kind of a type: ELFCOMPRESS_ZLIB is 1, ELFCOMPRESS_ZSTD 2
unfoldable pub kind_of : ℕ → Result Kind DecompressError
kind_of type =
    if type == 1 then Ok Zlib else (if type == 2 then Ok Zstd else Err (UnknownType type))

-- behind a header of three words: a type of four bytes, and in the second word the size
unfoldable pub headed : Class → Endianness → List ℕ → Result CompressedStream DecompressError
headed class order content =
    if nat_lt (length content) (3 * word_size class) then Err Header else (do
      kind ← kind_of (number_at order 4 content 0)
      Ok (record {
        kind = kind;
        size = number_at order (word_size class) content (word_size class);
        bytes = drop (3 * word_size class) content;
      }))

-- by the older convention zlib's: behind `ZLIB` and eight bytes of size, the highest first
unfoldable pub older : List ℕ → Result CompressedStream DecompressError
older content =
    if nat_lt (length content) 12 then Err Header
    else (if starts_with nat_eq content (codes "ZLIB")
    then Ok (record { kind = Zlib; size = number_at Big 8 content 4; bytes = drop 12 content })
    else Err Header)

-- the stream of a section with that content; where both forms are said, the flag counts
unfoldable pub packed_in : Class → Endianness → SectionMeaning → List ℕ
    → Result CompressedStream DecompressError
packed_in class order section content =
    if has_compressed_flag section then headed class order content else older content

-- how many bytes one byte of a stream writes at most
abbrev pub reach_of : Kind → ℕ
reach_of Zlib = 1032
reach_of Zstd = 32768

-- the error where so few bytes cannot write so many
abbrev pub unreachable : Kind → DecompressError
unreachable Zlib = errors.Zlib inflating.Unreachable
unreachable Zstd = errors.Zstd decoding.Unreachable

-- how many bytes a stream is said to write, if so few bytes can write so many
unfoldable pub told_by : CompressedStream → Result ℕ DecompressError
told_by packed =
    if nat_lt (reach_of packed.kind * length packed.bytes) packed.size
    then Err (unreachable packed.kind) else Ok packed.size

-- what a stream of a kind writes, if it has that size
unfoldable pub written_by : Kind → List ℕ → ℕ → Result (List ℕ) DecompressError
written_by Zlib bytes size = inflated_as (inflated bytes size)
written_by Zstd bytes size = decoded_as (zstd.decompressed bytes size)

-- how many bytes the plain content of a section is said to have; 0 where it isn't compressed
unfoldable pub told_size : Asked → Class → Endianness → SectionMeaning → Result ℕ DecompressError
told_size asked class order section =
    if is_compressed asked section then (do
      content ← reading (ok_or section.content SectionRange)
      packed ← packed_in class order section content
      told_by packed)
    else Ok 0

-- those of all sections have together, up to the first error
unfoldable pub told_sizes : Asked → Class → Endianness → List SectionMeaning
    → Result ℕ DecompressError
told_sizes asked class order [] = Ok 0
told_sizes asked class order (section ∷ sections) = do
  size ← told_size asked class order section
  sizes ← told_sizes asked class order sections
  Ok (size + sizes)

-- what a compressed section's stream writes
unfoldable pub plain_of : Class → Endianness → SectionMeaning → Result (List ℕ) DecompressError
plain_of class order section = do
  content ← reading (ok_or section.content SectionRange)
  packed ← packed_in class order section content
  written_by packed.kind packed.bytes packed.size

-- that of any section, if it is compressed
unfoldable pub content_of : Asked → Class → Endianness → SectionMeaning
    → Result (Option (List ℕ)) DecompressError
content_of asked class order section =
    if is_compressed asked section then (do
      plain ← plain_of class order section
      Ok (Some plain))
    else Ok None
