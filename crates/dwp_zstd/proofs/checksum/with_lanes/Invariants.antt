use Rattle.std.proofs.Common.{length, ◌*◌, ◌+◌, ◌-◌, ◌/◌, ◌≡◌}
use Rattle.dwp_zstd.specs.Checksum.{with_lanes}
use Rattle.dwp_zstd.proofs.checksum.with_lanes.Given as goal

abbrev pub invariant-loop : goal.invariant-loop
invariant-loop l = record {
  size : length l.rest + 8 * l.counter ≡ length l.bytes;
  whole : with_lanes (length l.bytes / 8) l.h l.bytes ≡
      with_lanes (length l.bytes / 8 - l.counter) l.sum l.rest;
}
