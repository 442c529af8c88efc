-- The replies that a store keeps for callers, and the callers that a node has by them after a restart.
use Rattle.std.specs.Prelude.{◌≡◌, ℕ, List, [], ◌∷◌, ◌++◌, Option, Some, None, IsSome}
use Rattle.std.specs.Borrow.{Bor}
use Rattle.afs_num.specs.Nodes.{node_number, node_of}
use Rattle.afs_num.specs.declared.types.Key.{Key}
use Rattle.afs_num.specs.declared.types.Node.{Node}
use Rattle.afs_num.specs.declared.types.Node.TheVariants.{Loc}
use Rattle.spec_ideal.specs.Tables.{Table}
use Rattle.spec_model.specs.Calls.{call_seat}
use Rattle.spec_records.specs.Durable.{Kept}
use Rattle.spec_rows.specs.States.{Seat}
use Rattle.afs_message.specs.Spelled.{reply_in}

abbrev pub or_loc : Option Node → Node
or_loc None = Loc
or_loc (Some n) = n

-- a kept reply's bytes as the message that is read in them
abbrev pub seat_kept : ℕ × Kept → Seat
seat_kept p = record { caller = or_loc (node_of p.0); epoch = p.1.epoch; number = p.1.number; reply = reply_in (Some p.1.reply) }

-- a kept reply is one to a node of the cell
pub record IsToNode (p : ℕ × Kept) : Type 0 where
  pub caller : Node
  pub numbered : node_of p.0 ≡ Some caller

abbrev pub AreToNodes : Table Kept → Type 0
AreToNodes [] = Unit {0}
AreToNodes (p ∷ ps) = IsToNode p × AreToNodes ps

-- ---- a caller's kept reply, by its key and its bytes, as it is found

abbrev pub kept_found : Key × Bor (List ℕ) → ℕ × Kept
kept_found k = (node_number k.0.node, record { epoch = k.0.epoch; number = k.0.number; reply = k.1.now })

-- its caller has no seat yet
abbrev pub CanFollow : List Seat → Option (Key × Bor (List ℕ)) → Type 0
CanFollow seats None = Unit {0}
CanFollow seats (Some k) = IsSome (node_of (node_number k.0.node)) × (call_seat (or_loc (node_of (node_number k.0.node))) seats ≡ None)

abbrev pub seats_after : List Seat → Option (Key × Bor (List ℕ)) → List Seat
seats_after seats None = seats
seats_after seats (Some k) = seats ++ seat_kept (kept_found k) ∷ []
