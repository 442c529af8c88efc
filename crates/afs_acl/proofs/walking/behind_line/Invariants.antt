use Rattle.std.proofs.Common.{◌≡◌, length}
use Rattle.afs_acl.specs.Walks.{behind_line}
use Rattle.afs_acl.proofs.walking.behind_line.Given as goal

abbrev pub invariant-loop-byte : goal.invariant-loop-byte
invariant-loop-byte l = behind_line l.rest ≡ behind_line l.bytes

abbrev pub decreases-loop-byte : goal.decreases-loop-byte
decreases-loop-byte l = length l.rest
