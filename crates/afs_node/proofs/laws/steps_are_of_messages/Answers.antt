use Rattle.afs_node.proofs.Sides.{steps_same}
use Rattle.afs_node.proofs.laws.steps_are_of_messages.Goals as goal

pub returns : goal.returns
returns c me s clock bytes are = steps_same me s clock bytes are
