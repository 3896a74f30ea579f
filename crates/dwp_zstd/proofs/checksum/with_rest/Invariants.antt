use Rattle.dwp_zstd.specs.Checksum.{with_bytes, with_rest}
use Rattle.std.proofs.Common.{drop, ◌≡◌}
use Rattle.dwp_zstd.proofs.checksum.with_rest.Given as goal

abbrev pub invariant-loop-byte : goal.invariant-loop-byte
invariant-loop-byte l = with_rest l.h l.bytes ≡ with_bytes l.sum (drop l.byte-index l.byte-items)
