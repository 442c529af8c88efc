-- Where transactions come from: each was asked for, by a call that was sent to its server.
use Rattle.std.specs.Prelude.{◌≡◌, ℕ, List, Some, None}
use Rattle.afs_num.specs.declared.messages.Call.TheVariants as ask
use Rattle.afs_num.specs.declared.messages.Carried.TheVariants as carried
use Rattle.afs_num.specs.declared.messages.Message.{Message}
use Rattle.afs_num.specs.declared.types.Node.TheVariants.{Server}
use Rattle.afs_num.specs.declared.volume_calls.VolCall.{VolCall}
use Rattle.afs_num.specs.declared.volume_calls.VolCall.TheVariants as calls
use Rattle.spec_history.specs.declared.scripts.Script.{Script}
use Rattle.spec_ideal.specs.Tables.{get}
use Rattle.spec_rows.specs.Runs.{message_at}
use Rattle.spec_volrows.specs.VolStates.{Transaction}
use Rattle.spec_runs.specs.NodeRuns.{node_start, CellInput, NodeCell}
use Rattle.law_places.specs.Accepting.{cell_behind}

-- The call asks for a transaction on this volume of this family: on one that is there, or on one that is made by it.
abbrev pub AsksFor : ℕ → ℕ → VolCall → Type 0
AsksFor volume family (calls.TransCreate f id flags) = (id ≡ volume) × (f ≡ family)
AsksFor volume family (calls.CreateVolume f id name kind flags quota) = (id ≡ volume) × (f ≡ family)
AsksFor volume family call = ⊥

-- The message was sent to the server in its boot as it is, and asks for a transaction on this volume of this family under this stamp.
pub record IsAskedFor (c : NodeCell) (server volume family stamp : ℕ) : Type 0 where
  pub place : ℕ
  pub m : Message
  pub user : List ℕ
  pub call : VolCall
  pub sent : message_at c.sent place ≡ Some m
  pub to : m.head.to ≡ Server server
  pub in_boot : m.head.boot ≡ (c.hosts server).state.file.lasting.boot
  pub under : m.head.stamp ≡ stamp
  pub asks : m.carried ≡ carried.Call user (ask.Volume call)
  pub begins : AsksFor volume family call

-- In every run of every script: whatever transaction a server has while it is up, such a call was sent to it.
abbrev pub TransactionsAreAskedFor : Type 0
TransactionsAreAskedFor = (s : Script) (inputs : List CellInput) (server number : ℕ) (t : Transaction) → ((cell_behind (node_start s) inputs).hosts server).down ≡ None →
    get number ((cell_behind (node_start s) inputs).hosts server).state.vol.transactions ≡ Some t → IsAskedFor (cell_behind (node_start s) inputs) server t.volume t.family t.stamp
