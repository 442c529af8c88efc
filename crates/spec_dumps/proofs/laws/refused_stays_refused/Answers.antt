use Rattle.spec_dumps.proofs.Streams.{refused_stays}
use Rattle.spec_dumps.proofs.laws.refused_stays_refused.Goals as goal

pub returns : goal.returns
returns c = refused_stays
