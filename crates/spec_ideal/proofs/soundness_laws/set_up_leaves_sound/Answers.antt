use Rattle.spec_ideal.proofs.Laid.{names_sound, lists_sound}
use Rattle.spec_ideal.proofs.soundness_laws.set_up_leaves_sound.Goals as goal

pub returns : goal.returns
returns c = record { names = names_sound; lists = lists_sound }
