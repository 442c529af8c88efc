use Rattle.spec_dumps.proofs.Streams.{dump_again}
use Rattle.spec_dumps.proofs.laws.dumps_are_read_again.Goals as goal

pub returns : goal.returns
returns c = dump_again
