use Rattle.std.proofs.Common.{◌≡◌, ◌^◌, ◌<◌, drop}
use Rattle.dwp_archive.specs.Headers.{decimal, decimal_from}
use Rattle.dwp_archive.proofs.reading.decimal.Given as goal

-- the digits so far write n
abbrev pub invariant-loop-i : goal.invariant-loop-i
invariant-loop-i l = record {
  value : decimal_from l.n (drop l.i l.field) ≡ decimal l.field;
  small : l.n < 10 ^ l.i;
}
