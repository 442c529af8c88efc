use Rattle.std.proofs.Common.{◌≡◌, ◌++◌, drop}
use Rattle.afs_callbacks.specs.Saving.{fids_granted}
use Rattle.afs_callbacks.proofs.saving.fids_granted.Given as goal

abbrev pub invariant-loop-grant : goal.invariant-loop-grant
invariant-loop-grant l = l.fids ++ fids_granted (drop l.grant-index l.grants) ≡ fids_granted l.fn.grants
