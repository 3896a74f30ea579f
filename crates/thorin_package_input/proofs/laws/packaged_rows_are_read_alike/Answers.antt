use Rattle.thorin_package_input.proofs.ReadAlike.{package_reads_alike}
use Rattle.thorin_package_input.proofs.laws.packaged_rows_are_read_alike.Goals as goal

pub returns : goal.returns
returns c = λ order encoding compilations types section bytes.
    package_reads_alike order encoding section bytes compilations types
