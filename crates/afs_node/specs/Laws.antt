-- What holds of a server node's steps, whatever its state is.
use Rattle.std.specs.Prelude.{ℕ, List}
use Rattle.afs_num.specs.declared.types.Node.{Node}
use Rattle.afs_xdr.specs.Words.{IsBytes}
use Rattle.spec_volrows.specs.VolStates.{NodeState}
use Rattle.afs_node.specs.Handling.{AreSameSteps}

-- at bytes that are a message, the step over what is found in them is that of the message
abbrev pub StepsAreOfMessages : Type 0
StepsAreOfMessages = (me : Node) (s : NodeState) (clock : ℕ) (bytes : List ℕ) → IsBytes bytes → AreSameSteps me s clock bytes
