use Rattle.dwp_bytes.{proofs.Reading.signed, proofs.Reading.SoFar, specs.Leb.signed_leb_at}
use Rattle.std.proofs.Common.{◌≡◌}
use Rattle.dwp_bytes.proofs.reader.Reader.read_sleb128.Given as goal

abbrev pub invariant-loop : goal.invariant-loop
invariant-loop g l = (l.self ≡ l.fn.self) × SoFar signed_leb_at signed
    (g.Self.Reader.input l.fn.self) (g.Self.Reader.input l.at) l.counter l.value l.scale
