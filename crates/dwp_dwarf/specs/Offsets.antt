-- Offsets into a section.
use Rattle.std.specs.Prelude.{ℕ, length, Result, Ok, Err, nat_lt, if◌then◌else◌}
use Rattle.dwp_base.specs.Reading.{◌>>=◌}
use Rattle.dwp_bytes.specs.Input.{Input, skip_at}
use Rattle.dwp_bytes.specs.declared.error.ReadError.{ReadError}
use Rattle.dwp_bytes.specs.declared.error.ReadError.TheVariants.{OffsetOutOfRange}

-- what stands from an offset of a section on; nothing stands past the end
unfoldable pub from_at : ℕ → Input → Result Input ReadError
from_at offset section = if nat_lt (length section.bytes) offset then Err OffsetOutOfRange else (do
  rest ← skip_at offset section
  Ok rest.1)
