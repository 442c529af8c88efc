use Rattle.spec_dumps.proofs.Dumpable.{dump_finishes}
use Rattle.spec_dumps.proofs.laws.dumps_finish.Goals as goal

pub returns : goal.returns
returns c = dump_finishes
