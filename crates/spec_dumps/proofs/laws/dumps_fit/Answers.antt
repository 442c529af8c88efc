use Rattle.spec_dumps.proofs.Dumpable.{dump_fits}
use Rattle.spec_dumps.proofs.laws.dumps_fit.Goals as goal

pub returns : goal.returns
returns c = dump_fits
