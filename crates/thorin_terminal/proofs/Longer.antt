-- A text that is longer than a limit, where any may have been read.
use Rattle.std.proofs.Common.{◌<◌, ◌+◌, ℕ, List, length, replicate, arith}
use Rattle.std.proofs.lemmas.List.{length-replicate}

pub longer : (most : ℕ) → (bytes : List ℕ) × Unit {0} × (most < length bytes)
longer most = (replicate (most + 1) 0, tt, rw length-replicate (omega arith))
