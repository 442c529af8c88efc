use Rattle.spec_dumps.proofs.Streams.{dump_spelled}
use Rattle.spec_dumps.proofs.laws.read_dumps_are_spelled.Goals as goal

pub returns : goal.returns
returns c = dump_spelled
