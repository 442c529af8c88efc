use Rattle.std.proofs.Common.{subst}
use Rattle.spec_ideal.specs.Tables.{AscendsFrom}
use Rattle.spec_records.specs.Durable.{Kept}
use Rattle.afs_seats.proofs.Seen.{seen_up}
use Rattle.afs_seats.specs.Seated.{Seated}
use Rattle.afs_locstore.specs.Kept.{kept_seen, AreOfNodes}
use Rattle.afs_locstore.proofs.Replies.{all_nodes}
use Rattle.afs_locstore.proofs.kept.KeptReplies.are_of_nodes.Goals as goal

pub returns-clause-nodes : goal.returns-clause-nodes
returns-clause-nodes c = subst (λ (v : Seated Kept). AreOfNodes v.table) c.self.view_is (all_nodes c.self.inside.seats.table c.self.invariant)

pub returns-clause-ordered : goal.returns-clause-ordered
returns-clause-ordered c = subst (λ (v : Seated Kept). AscendsFrom 0 v.table) c.self.view_is (seen_up kept_seen 0 c.self.inside.seats.table c.len.ensures.ascends)
