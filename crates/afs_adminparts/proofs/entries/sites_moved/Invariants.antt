use Rattle.std.proofs.Common.{◌≡◌, take, map}
use Rattle.spec_adminrows.specs.Entries.{site_moved}
use Rattle.afs_adminparts.proofs.entries.sites_moved.Given as goal

abbrev pub invariant-loop-site : goal.invariant-loop-site
invariant-loop-site l = l.moved ≡ map (site_moved l.target) (take l.site-index l.sites)
