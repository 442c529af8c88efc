use Rattle.std.proofs.Common.{sym, subst}
use Rattle.law_legal.specs.Database.{AreKeyed}
use Rattle.afs_locstore.specs.Kept.{AreOfNodes}
use Rattle.spec_records.specs.LocDurable.{LocDurable}
use Rattle.afs_locdb.proofs.Keyed.{keyed}
use Rattle.afs_locdb.proofs.database.LocDb.is_in_order.Goals as goal

pub returns-clause-keyed : goal.returns-clause-keyed
returns-clause-keyed g c = subst (λ (d : LocDurable). AreKeyed d.entries) (sym c.held-state.ensures) (keyed 0 c.held-state.result.now.entries.table c.are_keyed.ensures.ordered c.are_keyed.ensures.keyed)

pub returns-clause-nodes : goal.returns-clause-nodes
returns-clause-nodes g c = subst (λ (d : LocDurable). AreOfNodes d.kept) (sym c.held-state.ensures) c.are_of_nodes.ensures.nodes
