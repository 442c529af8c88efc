-- What nodes send, keep and hold: P is asked of each message of a node, and S of each dump that a server sends on.
use Rattle.std.specs.Prelude.{◌≡◌, ⊤, ℕ, ℤ, List, [], true, Option, Some, None}
use Rattle.std.specs.List.{AllByRecursion}
use Rattle.afs_num.specs.Nodes.{same_node}
use Rattle.afs_num.specs.declared.calls.FsCall.{FsCall}
use Rattle.afs_num.specs.declared.calls.FsReply.{FsReply}
use Rattle.afs_num.specs.declared.histories.Actor.{Actor}
use Rattle.afs_num.specs.declared.histories.Actor.TheVariants as actors
use Rattle.afs_num.specs.declared.messages.Call.TheVariants as ask
use Rattle.afs_num.specs.declared.messages.Carried.TheVariants as carried
use Rattle.afs_num.specs.declared.messages.Message.{Message}
use Rattle.afs_num.specs.declared.messages.Reply.TheVariants as tell
use Rattle.afs_num.specs.declared.types.Head.{Head}
use Rattle.afs_num.specs.declared.types.Node.{Node}
use Rattle.afs_num.specs.declared.types.Node.TheVariants.{Admin, Client, Loc, Server}
use Rattle.spec_adminrows.specs.AdminRow.{ask_message, ask_of, AdminState}
use Rattle.spec_adminrows.specs.declared.turns.Running.{Running}
use Rattle.spec_model.specs.Calls.{Admitted}
use Rattle.spec_model.specs.Calls as pairs
use Rattle.spec_rows.specs.Callbacks.{break_message}
use Rattle.spec_rows.specs.ClientRow.{question}
use Rattle.spec_history.specs.declared.acts.Operand.{Operand}
use Rattle.spec_rows.specs.LocRow as loc
use Rattle.spec_rows.specs.LocRow.{reply_to, LocDecision, LocState}
use Rattle.spec_rows.specs.Runs.{Entry}
use Rattle.spec_rows.specs.ServerRow.{boot_told, refusal, replied}
use Rattle.spec_rows.specs.States.{BackCall, Held, Seat, ServerState}
use Rattle.spec_volrows.specs.VolStates.{NodeState, Sending}
use Rattle.spec_volrows.specs.VolSteps.{dispatches, drops, forward_reply, piece_gone, piece_message, repeats, replies_to, saves, sending_of, tells_boot, VolDecision}
use Rattle.spec_runs.specs.NodeRuns.{NodeCell}

-- ---- kept replies, and replies that wait

abbrev pub KeptIs : (Message → Type 0) → Option Message → Type 0
KeptIs P None = ⊤
KeptIs P (Some m) = P m

abbrev pub SeatIs : (Message → Type 0) → Seat → Type 0
SeatIs P seat = KeptIs P seat.reply

abbrev pub SeatsAre : (Message → Type 0) → List Seat → Type 0
SeatsAre P seats = AllByRecursion (SeatIs P) seats

abbrev pub HeldIs : (Message → Type 0) → Held → Type 0
HeldIs P h = P h.reply

abbrev pub HeldAre : (Message → Type 0) → List Held → Type 0
HeldAre P hs = AllByRecursion (HeldIs P) hs

-- a kept reply that is sent again
abbrev pub AdmittedIs : (Message → Type 0) → Admitted Message → Type 0
AdmittedIs P (pairs.kept reply) = P reply
AdmittedIs P pairs.runs = ⊤
AdmittedIs P pairs.in_progress = ⊤
AdmittedIs P pairs.older = ⊤
AdmittedIs P (pairs.wrong_boot boot) = ⊤

-- ---- what a node has

pub record FileIs (P : Message → Type 0) (s : ServerState) : Type 0 where
  pub seats : SeatsAre P s.seats
  pub kept : SeatsAre P s.lasting.kept
  pub held : HeldAre P s.backs.held

pub record NodeIs (P : Message → Type 0) (S : Sending → Type 0) (s : NodeState) : Type 0 where
  pub file : FileIs P s.file
  pub seats : SeatsAre P s.vol.seats
  pub held : HeldAre P s.vol.held
  pub sendings : (n : Node) → AllByRecursion S (s.vol.sendings n)

pub record LocIs (P : Message → Type 0) (s : LocState) : Type 0 where
  pub seats : SeatsAre P s.seats
  pub kept : SeatsAre P s.lasting.kept

-- of each node, by who it is
pub record CellIs (P : Node → Message → Type 0) (S : Node → Sending → Type 0) (c : NodeCell) : Type 0 where
  pub hosts : (i : ℕ) → NodeIs (P (Server i)) (S (Server i)) (c.hosts i).state
  pub clients : (n : ℕ) → SeatsAre (P (Client n)) (c.clients n).client.seats
  pub admins : (n : ℕ) → SeatsAre (P (Admin n)) (c.admins n).seats
  pub loc : LocIs (P Loc) c.loc.state

-- the messages of an entry are those of its node; what isn't of a node sends none
abbrev pub SentBy : (Node → Message → Type 0) → List Message → Actor → Type 0
SentBy P ms (actors.Node n) = AllByRecursion (P n) ms
SentBy P ms who = ms ≡ []

abbrev pub SentIs : (Node → Message → Type 0) → Entry → Type 0
SentIs P e = SentBy P e.sent e.actor

-- ---- what a node makes whoever asks it, in this boot

-- the call is to this node
abbrev pub IsTo : Node → Head → Type 0
IsTo me head = same_node head.to me ≡ true

pub record AnswersAre (P : Message → Type 0) (me : Node) (boot : ℕ) : Type 0 where
  pub notice : (head : Head) → IsTo me head → P (boot_told boot head)
  pub refusal : (head : Head) (code : ℤ) → IsTo me head → P (refusal boot head code)

-- a file server: to clients, and of clients
pub record FileMakes (P : Message → Type 0) (me : Node) (boot : ℕ) : Type 0 where
  pub answers : AnswersAre P me boot
  pub reply : (head : Head) (reply : FsReply) → IsTo me head → P (replied boot head (carried.Reply (tell.File reply)))
  pub breaks : (n : Node) (known : ℕ) (c : BackCall) → P (break_message me boot n known c)

-- a volume server, of the dumps that it sends on
pub record ServerMakes (P : Message → Type 0) (S : Sending → Type 0) (me : Node) (boot : ℕ) : Type 0 where
  pub file : FileMakes P me boot
  pub piece : (n : Node) (known number : ℕ) (x : Sending) → S x → P (piece_message me boot n known number x)
  pub forward : (x : Sending) (code : ℤ) → S x → P (forward_reply boot x.head code)
  pub moved : (x : Sending) → S x → S (piece_gone x)

-- a client: its calls have no stamp
pub record ClientMakes (P : Message → Type 0) (me : Node) : Type 0 where
  pub answers : (boot : ℕ) → AnswersAre P me boot
  pub reply : (boot : ℕ) (head : Head) (reply : FsReply) → IsTo me head → P (replied boot head (carried.Reply (tell.File reply)))
  pub call : (head : Head) (user : List ℕ) (call : FsCall) → head.from ≡ me → head.stamp ≡ 0 → P (record { head = head; carried = carried.Call user (ask.File call) })
  pub look : (head : Head) (user : List ℕ) (o : Operand) → head.from ≡ me → head.stamp ≡ 0 → P (record { head = head; carried = carried.Call user (ask.Location (question o)) })

-- ---- what it decides on a message

-- A volume server's decision: what it makes for this call, and what it keeps of an earlier one.
abbrev pub VolIs : (N K : Message → Type 0) → (Sending → Type 0) → Node → VolDecision → Type 0
VolIs N K S me drops = ⊤
VolIs N K S me (tells_boot head) = IsTo me head
VolIs N K S me (repeats reply) = K reply
VolIs N K S me (replies_to head reply ts last) = N reply
VolIs N K S me (dispatches head x) = S (sending_of head x)
VolIs N K S me (saves head x) = N x.reply

-- what it makes for this call
abbrev pub VolMakes : (Message → Type 0) → (Sending → Type 0) → VolDecision → Type 0
VolMakes P S drops = ⊤
VolMakes P S (tells_boot head) = ⊤
VolMakes P S (repeats reply) = ⊤
VolMakes P S (replies_to head reply ts last) = P reply
VolMakes P S (dispatches head x) = S (sending_of head x)
VolMakes P S (saves head x) = P x.reply

-- the database's, in this boot
abbrev pub LocMakes : (Message → Type 0) → ℕ → LocDecision → Type 0
LocMakes P boot loc.drops = ⊤
LocMakes P boot (loc.tells_boot head) = ⊤
LocMakes P boot (loc.repeats reply) = ⊤
LocMakes P boot (loc.refuses head code) = ⊤
LocMakes P boot (loc.shows head reply) = P (reply_to boot head reply)
LocMakes P boot (loc.saves head c) = P (reply_to boot head c.reply)

-- what an administrator asks behind a step: the question of the place where its act then is
abbrev pub AsksIs : (Message → Type 0) → Node → AdminState → Type 0
AsksIs P me a = (r : Running) → a.running ≡ Some r → P (ask_message me a (ask_of a r))
