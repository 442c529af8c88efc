use Rattle.std.proofs.Common.{◌≡◌, filter, map, take}
use Rattle.spec_adminrows.specs.Entries.{is_read_only_site}
use Rattle.spec_adminrows.specs.Releasing.{server_of}
use Rattle.afs_adminacts.proofs.releasing.sites_of.Given as goal

abbrev pub invariant-loop-site : goal.invariant-loop-site
invariant-loop-site l = l.servers ≡ map server_of (filter is_read_only_site (take l.site-index l.sites))
