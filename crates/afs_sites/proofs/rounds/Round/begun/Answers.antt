use Rattle.std.proofs.Common.{sym, subst, ◌∙◌, ap, ℕ, List, map, filter}
use Rattle.std.specs.List.{AllByRecursion}
use Rattle.afs_num.specs.declared.location_calls.LocSite.{LocSite}
use Rattle.spec_adminrows.specs.Entries.{is_read_only_site}
use Rattle.spec_adminrows.specs.Releasing.{server_of}
use Rattle.spec_shape.specs.Tables.{IsServer}
use Rattle.afs_sites.proofs.Servers.{servers_are}
use Rattle.afs_sites.proofs.rounds.Round.begun.Goals as goal

pub invariant_of-result : goal.invariant_of-result
invariant_of-result c = subst (AllByRecursion IsServer) (sym c.in_ok-read_only_servers.ensures) (servers_are c.sites.result.now c.sites.ensures.servers)
