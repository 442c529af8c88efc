-- What an administrator may claim of a transaction: it was told a number for a volume that it asked for, and its next call names that number.
use Rattle.std.specs.Prelude.{◌≡◌, ◌⊎◌, ◌+◌, ⊤, ℕ, List, Option, Some, None}
use Rattle.afs_num.specs.declared.messages.Call.TheVariants as ask
use Rattle.afs_num.specs.declared.messages.Carried.{Carried}
use Rattle.afs_num.specs.declared.messages.Carried.TheVariants as carried
use Rattle.afs_num.specs.declared.messages.Message.{Message}
use Rattle.afs_num.specs.declared.messages.Reply.TheVariants as tell
use Rattle.afs_num.specs.declared.types.Node.TheVariants.{Admin, Server}
use Rattle.afs_num.specs.declared.volume_calls.VolCall.{VolCall}
use Rattle.afs_num.specs.declared.volume_calls.VolReply.TheVariants as volumes
use Rattle.spec_history.specs.declared.scripts.Script.{Script}
use Rattle.spec_model.specs.Calls.{admitted}
use Rattle.spec_model.specs.Calls as pairs
use Rattle.spec_rows.specs.Hosts.{at_rest, in_boot, in_step, Fall}
use Rattle.spec_rows.specs.Runs.{message_at}
use Rattle.spec_volrows.specs.VolRow.{found}
use Rattle.spec_volrows.specs.VolStates.{Transaction}
use Rattle.spec_runs.specs.NodeRuns.{node_start, CellInput, NodeCell}
use Rattle.law_places.specs.Accepting.{cell_behind}
use Rattle.law_stamps.specs.Stamps.{stored_stamp}
use Rattle.law_transactions.specs.Begun.{AsksFor}
use Rattle.law_transactions.specs.Numbers.{boot_at}

-- ---- servers whose memory counts

-- It is up, or it went down in the step of a message: then a restart decides on that message by what the server had.
abbrev pub Counts : Option Fall → Type 0
Counts None = ⊤
Counts (Some (in_step m clock b)) = ⊤
Counts (Some at_rest) = ⊥
Counts (Some in_boot) = ⊥

abbrev pub IsLive : NodeCell → ℕ → Type 0
IsLive c server = Counts (c.hosts server).down

-- ---- what was told

-- the call was sent by this administrator to this server, under this epoch and number, and with this stamp
pub record WasSent (c : NodeCell) (admin server epoch number stamp : ℕ) (m : Message) : Type 0 where
  pub place : ℕ
  pub at : message_at c.sent place ≡ Some m
  pub from : m.head.from ≡ Admin admin
  pub to : m.head.to ≡ Server server
  pub in_epoch : m.head.epoch ≡ epoch
  pub of_number : m.head.number ≡ number
  pub under : m.head.stamp ≡ stamp

-- it asks for a transaction on this volume of this family
pub record IsForOne (volume family : ℕ) (c : Carried) : Type 0 where
  pub user : List ℕ
  pub call : VolCall
  pub asks : c ≡ carried.Call user (ask.Volume call)
  pub begins : AsksFor volume family call

-- it tells the number of one
abbrev pub TellsOf : ℕ → Carried → Type 0
TellsOf transaction c = (c ≡ carried.Reply (tell.Volume (volumes.TransCreate transaction))) ⊎ (c ≡ carried.Reply (tell.Volume (volumes.CreateVolume transaction)))

-- The administrator asked the server for a transaction, under this number of its calls; and a reply to that, which tells this number of a
-- transaction, was sent to it.
pub record WasTold (c : NodeCell) (admin server epoch number transaction volume family stamp : ℕ) : Type 0 where
  pub call : Message
  pub asked : WasSent c admin server epoch number stamp call
  pub for_one : IsForOne volume family call.carried
  pub place : ℕ
  pub reply : Message
  pub at : message_at c.sent place ≡ Some reply
  pub from : reply.head.from ≡ Server server
  pub to : reply.head.to ≡ Admin admin
  pub in_epoch : reply.head.epoch ≡ epoch
  pub of_number : reply.head.number ≡ number
  pub tells : TellsOf transaction reply.carried

-- ---- what is found

-- The message is a volume call that the server would run now; and a transaction of this number is there in the family, whose stored stamp is
-- the call's.
pub record Finds (c : NodeCell) (server family transaction : ℕ) (m : Message) (t : Transaction) : Type 0 where
  pub user : List ℕ
  pub call : VolCall
  pub is_call : m.carried ≡ carried.Call user (ask.Volume call)
  pub live : IsLive c server
  pub runs : admitted (boot_at c server) (c.hosts server).state.vol.seats m.head ≡ pairs.runs
  pub stored : stored_stamp c server family ≡ m.head.stamp
  pub there : found family transaction (c.hosts server).state.vol.transactions ≡ Some t

-- In every run of every script: where the administrator's next call is to that server, too, under the same stamp, and finds a transaction under
-- the number that was told, then that is on the volume that was asked for. So it is, however late the call comes, and however often the server
-- began again in between.
abbrev pub ClaimsAreTrue : Type 0
ClaimsAreTrue = (s : Script) (inputs : List CellInput) (admin server epoch number transaction volume family stamp : ℕ) (m : Message) (t : Transaction) → (stamp ≡ 0 → ⊥) →
    WasTold (cell_behind (node_start s) inputs) admin server epoch number transaction volume family stamp → WasSent (cell_behind (node_start s) inputs) admin server epoch (number + 1) stamp m →
    Finds (cell_behind (node_start s) inputs) server family transaction m t → t.volume ≡ volume
