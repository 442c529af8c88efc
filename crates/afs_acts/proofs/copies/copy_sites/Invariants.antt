use Rattle.std.proofs.Common.{◌≡◌, take}
use Rattle.afs_acts.proofs.copies.copy_sites.Given as goal

abbrev pub invariant-loop-site : goal.invariant-loop-site
invariant-loop-site l = l.copy ≡ take l.site-index l.sites
