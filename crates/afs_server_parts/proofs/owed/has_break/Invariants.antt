use Rattle.std.proofs.Common.{◌≡◌, drop}
use Rattle.spec_breaks.specs.Promises.{has_break}
use Rattle.afs_server_parts.proofs.owed.has_break.Given as goal

abbrev pub invariant-loop-one : goal.invariant-loop-one
invariant-loop-one l = has_break l.number (drop l.one-index l.owed) ≡ has_break l.number l.owed
