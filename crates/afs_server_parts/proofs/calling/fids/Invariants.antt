use Rattle.std.proofs.Common.{◌≡◌, ◌++◌, drop}
use Rattle.spec_rows.specs.Callbacks.{fids_of}
use Rattle.afs_server_parts.proofs.calling.fids.Given as goal

abbrev pub invariant-loop-owed : goal.invariant-loop-owed
invariant-loop-owed l = l.fids ++ fids_of (drop l.owed-index l.breaks) ≡ fids_of l.breaks
