use Rattle.dwp_bytes.{proofs.Reading.SoFar, proofs.Reading.unsigned, specs.Leb.leb_at}
use Rattle.std.proofs.Common.{◌≡◌}
use Rattle.dwp_bytes.proofs.reader.Reader.read_uleb128.Given as goal

abbrev pub invariant-loop : goal.invariant-loop
invariant-loop g l = (l.self ≡ l.fn.self) × SoFar leb_at unsigned (g.Self.Reader.input l.fn.self)
    (g.Self.Reader.input l.at) l.counter l.value l.scale
