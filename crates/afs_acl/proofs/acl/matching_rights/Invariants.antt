use Rattle.std.proofs.Common.{◌≡◌, drop}
use Rattle.spec_ideal.specs.AccessLists.{matching_rights}
use Rattle.afs_acl.proofs.acl.matching_rights.Given as goal

abbrev pub invariant-loop-entry : goal.invariant-loop-entry
invariant-loop-entry l = matching_rights l.user l.rights (drop l.entry-index l.entries) ≡ matching_rights l.user 0 l.entries
