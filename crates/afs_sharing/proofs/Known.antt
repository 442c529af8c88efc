-- Replies that a store keeps are of nodes of the cell.
use Rattle.std.proofs.Common.{[], ◌∷◌}
use Rattle.spec_ideal.specs.Tables.{Table}
use Rattle.afs_memory.specs.Called.{AreKnown}
use Rattle.spec_records.specs.Durable.{Kept}
use Rattle.afs_saving.specs.Kept.{AreToNodes}
use Rattle.afs_saving.proofs.Kept.{known_to_node}

pub known_to_nodes : (t : Table Kept) → AreKnown t → AreToNodes t
known_to_nodes [] are = tt
known_to_nodes (p ∷ t) are = (known_to_node p are.0, known_to_nodes t are.1)
