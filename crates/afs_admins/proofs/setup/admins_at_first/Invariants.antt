use Rattle.std.proofs.Common.{◌≡◌, length}
use Rattle.afs_admins.specs.Seating.{AreFirstAdmins}
use Rattle.afs_admins.proofs.setup.admins_at_first.Given as goal

abbrev pub invariant-loop-before : goal.invariant-loop-before
invariant-loop-before l = record {
  first : AreFirstAdmins l.script 1 l.admins.items;
  count : length l.admins.items ≡ l.before;
}
