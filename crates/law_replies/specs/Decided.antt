-- Replies of file servers to clients: each is what its server decided on that very call.
use Rattle.std.specs.Prelude.{◌≡◌, ⊤, ℕ, ◌+◌, List, ◌∷◌, ◌++◌, Bool, true, false, ◌&&◌, Option, Some, None}
use Rattle.std.specs.List.{AllByRecursion}
use Rattle.afs_num.specs.declared.messages.Carried.{Carried}
use Rattle.afs_num.specs.declared.messages.Carried.TheVariants as carried
use Rattle.afs_num.specs.declared.messages.Message.{Message}
use Rattle.afs_num.specs.declared.messages.Received.TheVariants.{Whole}
use Rattle.afs_num.specs.declared.types.Node.{Node}
use Rattle.afs_num.specs.declared.types.Node.TheVariants.{Server}
use Rattle.spec_history.specs.declared.scripts.Script.{Script}
use Rattle.spec_rows.specs.Hosts.{served, Luck}
use Rattle.spec_rows.specs.ServerRow as file
use Rattle.spec_rows.specs.ServerRow.{change_reply_to, is_client, promise_ticks, read_reply_to, refusal, Decision}
use Rattle.spec_volrows.specs.NodeHosts.{node_kind}
use Rattle.spec_volrows.specs.VolStates.{Sending}
use Rattle.spec_volrows.specs.VolSteps.{node_file_decides}
use Rattle.spec_runs.specs.NodeRuns.{node_moved, node_start, server_stepped, CellInput, NodeCell, NodeMoved}
use Rattle.law_walks.specs.Kinds.{IsGiven, IsUp}
use Rattle.law_walks.specs.Sends.{NodeIs}
use Rattle.law_places.specs.Accepting.{cell_behind}

-- ---- which messages are meant

abbrev pub is_server : Node → Bool
is_server (Server i) = true
is_server n = false

-- what a reply carries, be it a refusal or what was asked for; a call and a notice carry no answer
abbrev pub carries_answer : Carried → Bool
carries_answer (carried.Refusal code) = true
carries_answer (carried.Reply reply) = true
carries_answer c = false

-- it says of itself that it is a server's reply to a client
abbrev pub answers_client : Message → Bool
answers_client m = is_server m.head.from && (is_client m.head.to && carries_answer m.carried)

-- ---- what a server decides

-- The reply that a decision makes, in this boot and at this clock: a refusal, what was read, or what a change made. A call that is dropped, that is
-- told another boot number, or that is answered by the kept reply, doesn't run, and so nothing is decided on it.
abbrev pub answer_decided : ℕ → ℕ → Decision → Option Message
answer_decided boot clock (file.refuses head code) = Some (refusal boot head code)
answer_decided boot clock (file.shows head r) = Some (read_reply_to boot head (clock + promise_ticks) r)
answer_decided boot clock (file.saves head c) = Some (change_reply_to boot head clock c)
answer_decided boot clock file.drops = None
answer_decided boot clock (file.tells_boot head) = None
answer_decided boot clock (file.repeats reply) = None

-- This step of the cell gives a client's call to a server that is up, and by the server's row the call is decided so: with this reply, to the byte.
-- The disk may still end the step. Then the reply is made only where a restart finds the change.
pub record DecidesAnswer (c : NodeCell) (m : NodeMoved) (reply : Message) : Type 0 where
  pub server : ℕ
  pub place : ℕ
  pub luck : Luck
  pub call : Message
  pub up : IsUp c server
  pub given : IsGiven c place call (Server server)
  pub step : m ≡ server_stepped c server (served (node_kind (Server server)) (c.hosts server) c.clock place luck call)
  pub client : is_client call.head.from ≡ true
  pub answer : answer_decided (c.hosts server).state.file.lasting.boot c.clock (node_file_decides (Server server) (c.hosts server).state c.clock (Whole call)) ≡ Some reply

-- it was decided in one of the steps that these inputs make of the cell
pub record WasDecided (c : NodeCell) (inputs : List CellInput) (reply : Message) : Type 0 where
  pub before : List CellInput
  pub input : CellInput
  pub after : List CellInput
  pub split : inputs ≡ before ++ input ∷ after
  pub decides : DecidesAnswer (cell_behind c before) (node_moved (cell_behind c before) input) reply

-- ---- the law

-- of each message that was sent, and of each that a server keeps, in memory or on its disk, or holds until breaks end
pub record OfMessages (P : Message → Type 0) (c : NodeCell) : Type 0 where
  pub sent : AllByRecursion P c.sent
  pub servers : (i : ℕ) → NodeIs P (λ (x : Sending). ⊤) (c.hosts i).state

abbrev pub IsAsDecided : NodeCell → List CellInput → Message → Type 0
IsAsDecided c inputs m = answers_client m ≡ true → WasDecided c inputs m

abbrev pub AreAsDecided : Script → List CellInput → Type 0
AreAsDecided s inputs = OfMessages (IsAsDecided (node_start s) inputs) (cell_behind (node_start s) inputs)

-- A reply of a server to a client, be it in flight, late, kept, held or sent again, is what that server decided before on a call of a client.
abbrev pub RepliesAreDecided : Type 0
RepliesAreDecided = (s : Script) (inputs : List CellInput) → AreAsDecided s inputs
