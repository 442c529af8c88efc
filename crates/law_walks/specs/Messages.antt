-- What holds of every message that a cell ever sends, where it holds of what each kind of node makes.
use Rattle.std.specs.Prelude.{◌≡◌, ⊤, ℕ, List, [], ◌∷◌, Option, Some, None}
use Rattle.std.specs.List.{AllByRecursion}
use Rattle.afs_num.specs.declared.histories.Actor.TheVariants as actors
use Rattle.afs_num.specs.declared.messages.Message.{Message}
use Rattle.afs_num.specs.declared.messages.Received.TheVariants.{Whole}
use Rattle.afs_num.specs.declared.types.Node.{Node}
use Rattle.afs_num.specs.declared.types.Node.TheVariants.{Admin, Client, Loc, Server}
use Rattle.spec_history.specs.declared.scripts.Script.{Script}
use Rattle.spec_adminrows.specs.AdminRow.{AdminState}
use Rattle.spec_records.specs.Durable.{Durable}
use Rattle.spec_rows.specs.Hosts.{at_rest, in_boot, in_step, Fall}
use Rattle.spec_rows.specs.LocRow.{loc_decides, LocState}
use Rattle.spec_rows.specs.Runs.{Entry}
use Rattle.spec_volrows.specs.VolStates.{Sending, VolState}
use Rattle.spec_volrows.specs.VolSteps.{vol_decides}
use Rattle.spec_runs.specs.NodeRuns.{node_moved, node_start, CellInput, NodeCell, NodeLeads}
use Rattle.law_walks.specs.Sends.{AnswersAre, AsksIs, CellIs, ClientMakes, LocMakes, SentIs, ServerMakes, VolMakes}

-- What a node makes of messages that are Q is P, and what is P of a node is Q. S is asked of the dumps that servers send on.
pub record Rules (P : Node → Message → Type 0) (S : Node → Sending → Type 0) (Q : Message → Type 0) : Type 0 where
  pub said : (n : Node) (m : Message) → P n m → Q m
  pub servers : (i boot : ℕ) → ServerMakes (P (Server i)) (S (Server i)) (Server i) boot
  pub volumes : (i : ℕ) (d : Durable) (v : VolState) (m : Message) → Q m → VolMakes (P (Server i)) (S (Server i)) (vol_decides (Server i) d v (Whole m))
  pub database : (boot : ℕ) → AnswersAre (P Loc) Loc boot
  pub locations : (s : LocState) (m : Message) → Q m → LocMakes (P Loc) s.lasting.boot (loc_decides s (Whole m))
  pub clients : (n : ℕ) → ClientMakes (P (Client n)) (Client n)
  pub admins : (n boot : ℕ) → AnswersAre (P (Admin n)) (Admin n) boot
  pub asks : (n : ℕ) (a : AdminState) → AsksIs (P (Admin n)) (Admin n) a

-- the message of an interrupted step
abbrev pub FallIs : (Message → Type 0) → Option Fall → Type 0
FallIs Q None = ⊤
FallIs Q (Some at_rest) = ⊤
FallIs Q (Some (in_step m clock b)) = Q m
FallIs Q (Some in_boot) = ⊤

-- then all that the cell sent is Q, and what its nodes keep is P
pub record AllAre (P : Node → Message → Type 0) (S : Node → Sending → Type 0) (Q : Message → Type 0) (c : NodeCell) : Type 0 where
  pub nodes : CellIs P S c
  pub falls : (i : ℕ) → FallIs Q (c.hosts i).down
  pub loc_fall : FallIs Q c.loc.down
  pub sent : AllByRecursion Q c.sent

-- the cell behind these inputs
abbrev pub cell_after : NodeCell → List CellInput → NodeCell
cell_after c [] = c
cell_after c (x ∷ xs) = cell_after (node_moved c x).cell xs

-- each message of these entries is one of its node's
abbrev pub AreSent : (Node → Message → Type 0) → List Entry → Type 0
AreSent P [] = ⊤
AreSent P (e ∷ es) = SentIs P e × AreSent P es

-- ---- the law

-- the message says of itself that it is of this node
abbrev pub IsOf : Node → Message → Type 0
IsOf n m = m.head.from ≡ n

abbrev pub HaveSenders : List Entry → Type 0
HaveSenders [] = ⊤
HaveSenders (e ∷ es) = ((n : Node) → e.actor ≡ actors.Node n → AllByRecursion (IsOf n) e.sent) × HaveSenders es

-- Each message of a history says of itself that it is of the node that sent it.
abbrev pub SendersAreTold : Type 0
SendersAreTold = (s : Script) (inputs : List CellInput) (history : List Entry) (end : NodeCell) → NodeLeads (node_start s) inputs history end → HaveSenders history
