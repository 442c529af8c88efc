use Rattle.law_legal.proofs.VolumesAreIdeal.{run_volumes}
use Rattle.law_legal.proofs.laws.volumes_are_told.Goals as goal

pub returns : goal.returns
returns c = run_volumes
