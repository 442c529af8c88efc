use Rattle.afs_acl.proofs.Walked.{IsWalked}
use Rattle.afs_acl.proofs.walking.both_among.Given as goal

abbrev pub invariant-loop-before : goal.invariant-loop-before
invariant-loop-before l = IsWalked l.user l.bytes l.rest l.count l.before l.both
