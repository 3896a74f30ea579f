use Rattle.dwp_units.proofs.Units.{unit_taken, units_whole, units_error, lie_read, read_lie}
use Rattle.dwp_units.proofs.laws.units_have_all_bytes.Goals as goal

pub returns : goal.returns
returns c = record {
  taken = unit_taken;
  whole = units_whole;
  error = units_error;
  one = λ section i us. (lie_read section us i, read_lie section us i);
}
