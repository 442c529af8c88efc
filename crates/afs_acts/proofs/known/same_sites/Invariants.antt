use Rattle.std.proofs.Common.{◌≡◌, length}
use Rattle.spec_records.specs.Entries.{same_sites}
use Rattle.afs_acts.proofs.known.same_sites.Given as goal

abbrev pub invariant-loop-site : goal.invariant-loop-site
invariant-loop-site l = same_sites l.left l.right ≡ same_sites l.sites l.others

abbrev pub decreases-loop-site : goal.decreases-loop-site
decreases-loop-site l = length l.left
