-- What a call of the package builder answers, beside what its definition says.
use Rattle.std.specs.Prelude.{◌≡◌, ◌≢◌, Result, Ok, Err}
use Rattle.thorin_errors.specs.declared.error.Error.{Error}
use Rattle.thorin_errors.specs.declared.error.Error.TheVariants as error
use Rattle.thorin_errors.specs.Errors.{ErrorValue, error_of}
use Rattle.dwp_elf_read.specs.declared.error.WriteError.{WriteError}
use Rattle.dwp_elf_read.specs.declared.error.WriteError.TheVariants as writer

-- an error of writing an ELF file, as one of packaging: want of memory is that of packaging
abbrev pub written_error : WriteError → Error
written_error writer.Memory = error.Memory
written_error writer.NumberTooLarge = error.ObjectWrite writer.NumberTooLarge
written_error (writer.Io cause) = error.ObjectWrite (writer.Io cause)

-- memory may run out at any growth; any other error is the one that the fact is about
abbrev pub MemoryAside : Error → Type 0 → Type 0
MemoryAside e P = e ≢ error.Memory → P

-- what a call answered, seen by view, is what the definition says, want of memory aside
abbrev pub Gives : {X Y : Type 0} → (X → Y) → Result X Error → Result Y ErrorValue → Type 0
Gives view (Ok x) meaning = meaning ≡ Ok (view x)
Gives view (Err e) meaning = MemoryAside e (meaning ≡ Err (error_of e))

-- an error of a part, as the error of packaging that names it
abbrev pub as_error : {A E : Type 0} → (E → ErrorValue) → Result A E → Result A ErrorValue
as_error named (Ok x) = Ok x
as_error named (Err e) = Err (named e)
