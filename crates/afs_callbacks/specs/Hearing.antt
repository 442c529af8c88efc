-- The call of a server to which a reply or a notice is.
use Rattle.std.specs.Prelude.{ℕ, Bool, ◌&&◌, Option, Some, None, if◌then◌else◌}
use Rattle.afs_num.specs.Nodes.{same_node}
use Rattle.afs_num.specs.declared.types.Head.{Head}
use Rattle.afs_num.specs.declared.types.Node.{Node}
use Rattle.spec_rows.specs.Callbacks.{is_back_awaited}
use Rattle.spec_rows.specs.States.{BackCall}

-- the message is for this server, and is to this call
abbrev pub is_heard : Node → ℕ → Head → BackCall → Bool
is_heard me boot head c = same_node head.to me && is_back_awaited boot c head

-- the unanswered call of the message's sender, if the message is to that
abbrev pub heard_by : Node → ℕ → Head → Option BackCall → Option BackCall
heard_by me boot head None = None
heard_by me boot head (Some c) = if is_heard me boot head c then Some c else None
