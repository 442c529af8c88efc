use Rattle.std.proofs.Common.{◌≡◌, ◌++◌, drop, filter}
use Rattle.spec_adminrows.specs.Recovering.{has_copy}
use Rattle.afs_adminvolumes.proofs.recovering.copies_among.Given as goal

abbrev pub invariant-loop-server : goal.invariant-loop-server
invariant-loop-server l = l.copies ++ filter (has_copy l.volume l.named l.seen) (drop l.server-index l.servers) ≡ filter (has_copy l.volume l.named l.seen) l.servers
