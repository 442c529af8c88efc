use Rattle.std.proofs.Common.{sym, subst}
use Rattle.std.specs.List.{AllByRecursion}
use Rattle.spec_shape.specs.Tables.{IsServer}
use Rattle.afs_sites.proofs.Servers.{servers_behind}
use Rattle.afs_sites.proofs.rounds.Round.leave.Goals as goal

pub invariant_of-self : goal.invariant_of-self
invariant_of-self c = subst (AllByRecursion IsServer) (sym c.leave_first.ensures) (servers_behind c.self.inside.sites.items c.self.invariant)
