use Rattle.std.proofs.Common.{◌≡◌, ◌++◌, drop}
use Rattle.spec_rows.specs.Callbacks.{alls}
use Rattle.afs_callbacks.proofs.saving.add_alls.Given as goal

abbrev pub invariant-loop-one : goal.invariant-loop-one
invariant-loop-one l = l.waits ++ alls (drop l.one-index l.owed) ≡ l.fn.waits ++ alls l.owed
