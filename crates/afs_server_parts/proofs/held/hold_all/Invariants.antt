use Rattle.std.proofs.Common.{◌≡◌, ◌++◌}
use Rattle.std.specs.Vec.Iter.{into_iter_items}
use Rattle.afs_server_parts.proofs.held.hold_all.Given as goal

abbrev pub invariant-loop-one : goal.invariant-loop-one
invariant-loop-one l = l.held ++ into_iter_items l.one-iterator ≡ l.fn.held ++ l.fn.replies
