use Rattle.spec_ideal.proofs.Preserved as proved
use Rattle.spec_ideal.proofs.soundness_laws.operations_leave_sound.Goals as goal

pub returns : goal.returns
returns c = proved.operations_leave_sound
