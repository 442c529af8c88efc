use Rattle.std.proofs.Common.{◌≡◌, ◌+◌, ◌-◌, ◌++◌}
use Rattle.spec_adminrows.specs.Asks.{from_to}
use Rattle.afs_adminparts.proofs.surveying.all_servers.Given as goal

abbrev pub invariant-loop-before : goal.invariant-loop-before
invariant-loop-before l = l.all ++ from_to (l.before + 1) (l.servers - l.before) ≡ from_to 1 l.servers
