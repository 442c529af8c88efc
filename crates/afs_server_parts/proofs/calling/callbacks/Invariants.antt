use Rattle.std.proofs.Common.{◌≡◌, map, take}
use Rattle.spec_rows.specs.Callbacks.{broken_until}
use Rattle.afs_server_parts.proofs.calling.callbacks.Given as goal

abbrev pub invariant-loop-owed : goal.invariant-loop-owed
invariant-loop-owed l = l.callbacks ≡ map broken_until (take l.owed-index l.breaks)
