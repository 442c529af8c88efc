use Rattle.spec_dumps.proofs.Feeding.{readers_read_on}
use Rattle.spec_dumps.proofs.laws.readers_read_on.Goals as goal

pub returns : goal.returns
returns c = readers_read_on
