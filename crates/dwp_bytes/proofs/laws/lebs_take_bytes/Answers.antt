use Rattle.dwp_bytes.proofs.Reading.{goes, reads_sleb, reads_uleb}
use Rattle.dwp_bytes.proofs.laws.lebs_take_bytes.Goals as goal

pub returns : goal.returns
returns c = record {
  unsigned = λ i. (goes reads_uleb i).gives;
  signed = λ i. (goes reads_sleb i).gives;
}
