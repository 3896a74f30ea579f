use Rattle.dwp_bytes.proofs.Reading.{found_is}
use Rattle.dwp_bytes.proofs.reader.Reader.find.Goals as goal

pub returns : goal.returns
returns g c = found_is c.args.byte c.to_slice.result.now _ c.memchr.result c.ok_or.result
    c.to_slice.ensures c.memchr.ensures c.ok_or.ensures.value
