use Rattle.std.proofs.Common.{◌≡◌, take, map}
use Rattle.spec_adminrows.specs.Entries.{site_released}
use Rattle.afs_adminparts.proofs.entries.sites_released.Given as goal

abbrev pub invariant-loop-site : goal.invariant-loop-site
invariant-loop-site l = l.released ≡ map (site_released l.reached) (take l.site-index l.sites)
