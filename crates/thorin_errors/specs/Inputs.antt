-- The errors of inputs that can't be read.
use Rattle.std.specs.IoError.{error_kind}
use Rattle.std.specs.declared.io.Error.{Error as IoError}
use Rattle.std.specs.declared.io.ErrorKind.{ErrorKind}
use Rattle.std.specs.declared.io.ErrorKind.TheVariants.{OutOfMemory}
use Rattle.thorin_errors.specs.declared.error.Error.{Error}
use Rattle.thorin_errors.specs.declared.error.Error.TheVariants as error
use Rattle.thorin_errors.specs.declared.error.InputError.{InputError}
use Rattle.thorin_errors.specs.declared.error.InputError.TheVariants as input

-- a failed read: want of memory is told apart by its kind
abbrev pub input_error_at : ErrorKind → IoError → InputError
input_error_at OutOfMemory cause = input.Memory
input_error_at _ cause = input.Io cause

abbrev pub input_error_of : IoError → InputError
input_error_of cause = input_error_at (error_kind cause) cause

-- the error of packaging for an input that can't be read
abbrev pub input_error : InputError → Error
input_error (input.Io cause) = error.ReadInput cause
input_error input.Memory = error.Memory
