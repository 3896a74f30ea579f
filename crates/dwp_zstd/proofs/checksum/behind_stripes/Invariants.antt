use Rattle.std.proofs.Common.{length, ◌*◌, ◌+◌, ◌-◌, ◌/◌, ◌≡◌}
use Rattle.dwp_zstd.specs.Checksum.{behind_stripes}
use Rattle.dwp_zstd.proofs.checksum.behind_stripes.Given as goal

abbrev pub invariant-loop : goal.invariant-loop
invariant-loop l = record {
  size : length l.rest + 32 * l.counter ≡ length l.bytes;
  whole : behind_stripes (length l.bytes / 32) l.fn.four l.bytes ≡
      behind_stripes (length l.bytes / 32 - l.counter) l.all l.rest;
}
