use Rattle.std.proofs.Common.{◌≡◌, length}
use Rattle.spec_ideal.specs.AccessLists.{digits_at}
use Rattle.afs_acl.proofs.reading.digits.Given as goal

abbrev pub invariant-loop-byte : goal.invariant-loop-byte
invariant-loop-byte l = digits_at l.most l.n l.rest ≡ digits_at l.most l.first l.bytes

abbrev pub decreases-loop-byte : goal.decreases-loop-byte
decreases-loop-byte l = length l.rest
