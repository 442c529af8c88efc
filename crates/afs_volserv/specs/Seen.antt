-- A volume server in memory, and the state of its row that it stands for.
use Rattle.std.specs.Prelude.{◌≡◌, ◌<◌, ◌≤◌, ◌+◌, ℕ, List, Option, false, length}
use Rattle.std.specs.List.{All, AllByRecursion}
use Rattle.std.specs.Option.{option_map}
use Rattle.afs_num.specs.Nodes.{IsNode}
use Rattle.afs_num.specs.declared.types.Key.{Key}
use Rattle.afs_num.specs.declared.types.Node.{Node}
use Rattle.spec_ideal.specs.Tables.{Table}
use Rattle.spec_model.specs.Heads.{IsSoundHead}
use Rattle.spec_records.specs.Durable.{Durable}
use Rattle.spec_rows.specs.States.{durable_of, Held, Seat}
use Rattle.afs_callees.specs.Called.{call_to, known_to, Callee}
use Rattle.spec_volrows.specs.VolLaws.{AreApart}
use Rattle.spec_volrows.specs.VolRow.{holds_of}
use Rattle.spec_volrows.specs.VolStates.{Sending, Transaction, VolState}
use Rattle.afs_sendings.specs.Pieces.{calls_in, sendings_in, AreTo, Piece}
use Rattle.afs_callbacks.specs.States.{CallbackState, IsPromiseToNode, IsToNodes}
use Rattle.afs_volstore.specs.Stores.{Store}
use Rattle.afs_sharing.specs.Lasting.{lasting_of, KeepsForNodes}
use Rattle.afs_volanswers.specs.Flagged.{AreFlagged}

-- its boot number and its callers; its transactions by their numbers, and the last number; the servers to which dumps go; the replies
-- that wait; and for how many of these there is room, to wait, to go out and to wait on
pub record VolMemory : Type 0 where
  pub boot : ℕ
  pub seats : List Seat
  pub transactions : Table Transaction
  pub last : ℕ
  pub callees : List (Callee (List Sending))
  pub held : List Held
  pub room : ℕ

abbrev pub vol_seen : VolMemory → VolState
vol_seen m = record {
  seats = m.seats;
  transactions = m.transactions;
  last_transaction = m.last;
  sendings = sendings_in (call_to m.callees);
  calls = calls_in (call_to m.callees);
  known = known_to m.callees;
  held = m.held;
}

-- What the row has of the store's disk. A kept reply stands there as the message that is read in it.
abbrev pub durable_seen : {D : Type 0} → Store D → Durable
durable_seen {D} s = durable_of (lasting_of s.durable)

-- the key of its unanswered call to this node
abbrev pub key_called : Node → ℕ → Piece → Key
key_called me boot c = record { node = me; epoch = boot; number = c.number }

abbrev pub waits_by : Node → VolMemory → Node → Option Key
waits_by me m n = option_map (key_called me m.boot) (call_to m.callees n)

-- ---- what it keeps in order

-- a dump that is sent was asked for by a Forward of a node of the cell
pub record IsAskedByForward (x : Sending) : Type 0 where
  pub head : IsSoundHead x.head
  pub forward : x.head.opcode ≡ 103

abbrev pub AreAskedByForward : (Node → Option Piece) → Type 0
AreAskedByForward calls = (n : Node) → AllByRecursion IsAskedByForward (sendings_in calls n)

-- What a volume server and its store keep together: the boot; that its calls go to servers of the cell, with dumps that Forwards asked for;
-- that each transaction is on a volume of the disk, no two on one, and that the store holds these volumes.
pub record ServesVolumes {D : Type 0} (m : VolMemory) (s : Store D) : Type 0 where
  pub node : IsNode s.node
  pub boot : m.boot ≡ s.durable.boot
  pub kept : KeepsForNodes s.durable
  pub calls : AreTo (call_to m.callees)
  pub asked : AreAskedByForward (call_to m.callees)
  pub apart : AreApart s.durable.volumes m.last m.transactions
  pub flagged : AreFlagged m.transactions
  pub holds : s.holds.table ≡ holds_of m.transactions

-- ---- what the file server beside it keeps in order, of what both share

-- what it promised, owes and calls is of nodes of the cell
pub record StandsBeside {D : Type 0} (k : CallbackState) (s : Store D) : Type 0 where
  pub nodes : IsToNodes s.node k
  pub promises : All IsPromiseToNode k.lists.promises

-- The numbers of owed breaks stand below four billion, with the promises that are held added to them.
pub record CanDraw (k : CallbackState) : Type 0 where
  pub breaks : k.lists.last_owed + length k.lists.promises < 4000000000

-- ---- room that is there before a step

-- replies that wait go out without memory
abbrev pub CanRelease : VolMemory → Type 0
CanRelease m = length m.held ≤ m.room

-- and so waits one more, and one more volume is held
abbrev pub HasRoom : {D : Type 0} → VolMemory → Store D → Type 0
HasRoom {D} m s = (length m.held < m.room) × (0 < s.holds.room)

-- ---- a node can make a step over an open store: its servers keep what they should, few numbers were drawn, and there is room

pub record CanStep {D : Type 0} (m : VolMemory) (k : CallbackState) (s : Store D) : Type 0 where
  pub serves : ServesVolumes m s
  pub beside : StandsBeside k s
  pub draws : CanDraw k
  pub room : HasRoom m s
  pub up : s.closed ≡ false
