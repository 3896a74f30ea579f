-- What a call answers, beside what its definition says.
use Rattle.std.specs.Prelude.{◌≡◌, ◌≢◌, Result, Ok, Err}
use Rattle.dwp_elf_read.specs.declared.error.ReadError.{ReadError}
use Rattle.dwp_inflate.specs.declared.error.InflateError.{InflateError}
use Rattle.dwp_inflate.specs.declared.error.InflateError.TheVariants as inflating
use Rattle.dwp_zstd.specs.declared.error.ZstdError.{ZstdError}
use Rattle.dwp_zstd.specs.declared.error.ZstdError.TheVariants as decoding
use Rattle.dwp_decompress.specs.declared.error.DecompressError.{DecompressError}
use Rattle.dwp_decompress.specs.declared.error.DecompressError.TheVariants.{Read, Zlib, Zstd}
use Rattle.dwp_decompress.specs.declared.error.DecompressError.TheVariants.{Unrepresentable, Memory}

-- what a call answered, seen by view, is what the definition says; memory may run out besides
abbrev pub Gives : {X Y : Type 0} → (X → Y) → Result X DecompressError → Result Y DecompressError
    → Type 0
Gives view (Ok x) meaning = meaning ≡ Ok (view x)
Gives view (Err e) meaning = e ≢ Memory → meaning ≡ Err e

-- the same of a call that may besides find no room for the result in a file of the class
abbrev pub GivesFile : {X Y : Type 0} → (X → Y) → Result X DecompressError
    → Result Y DecompressError → Type 0
GivesFile view (Ok x) meaning = meaning ≡ Ok (view x)
GivesFile view (Err e) meaning = e ≢ Memory → e ≢ Unrepresentable → meaning ≡ Err e

-- what the ELF reader found, with its error as ours
abbrev pub reading : {X : Type 0} → Result X ReadError → Result X DecompressError
reading (Ok x) = Ok x
reading (Err e) = Err (Read e)

-- the error of a stream of zlib's as ours
abbrev pub inflate_error : InflateError → DecompressError
inflate_error inflating.Memory = Memory
inflate_error e = Zlib e

-- what it writes, with its error as ours
abbrev pub inflated_as : {X : Type 0} → Result X InflateError → Result X DecompressError
inflated_as (Ok x) = Ok x
inflated_as (Err e) = Err (inflate_error e)

-- the error of a stream of zstd's as ours
abbrev pub zstd_error : ZstdError → DecompressError
zstd_error decoding.Memory = Memory
zstd_error e = Zstd e

-- what it writes, with its error as ours
abbrev pub decoded_as : {X : Type 0} → Result X ZstdError → Result X DecompressError
decoded_as (Ok x) = Ok x
decoded_as (Err e) = Err (zstd_error e)
