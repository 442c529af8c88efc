use Rattle.std.proofs.Common.{◌≡◌, take}
use Rattle.afs_server_parts.proofs.held.copy_replies.Given as goal

abbrev pub invariant-loop-one : goal.invariant-loop-one
invariant-loop-one l = l.copies ≡ take l.one-index l.replies
