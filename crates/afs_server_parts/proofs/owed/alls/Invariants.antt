use Rattle.std.proofs.Common.{◌≡◌, ◌++◌, drop}
use Rattle.spec_rows.specs.Callbacks.{alls}
use Rattle.afs_server_parts.proofs.owed.alls.Given as goal

abbrev pub invariant-loop-one : goal.invariant-loop-one
invariant-loop-one l = l.numbers ++ alls (drop l.one-index l.owed) ≡ alls l.owed
