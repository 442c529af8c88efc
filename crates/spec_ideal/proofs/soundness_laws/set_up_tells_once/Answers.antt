use Rattle.spec_ideal.proofs.Laid.{set_up}
use Rattle.spec_ideal.proofs.soundness_laws.set_up_tells_once.Goals as goal

pub returns : goal.returns
returns c = set_up
