use Rattle.std.proofs.Common.{◌≡◌, ◌++◌, drop}
use Rattle.afs_callbacks.specs.Saving.{fids_changed}
use Rattle.afs_callbacks.proofs.saving.fids_changed.Given as goal

abbrev pub invariant-loop-version : goal.invariant-loop-version
invariant-loop-version l = l.fids ++ fids_changed (drop l.version-index l.versions) ≡ fids_changed l.fn.versions
