-- How a read-write volume comes into service: by a call that sets its flags to 0, and by nothing else.
use Rattle.std.specs.Prelude.{◌≡◌, ◌⊎◌, ℕ, List, true, false, Some, None}
use Rattle.afs_num.specs.declared.messages.Call.TheVariants as ask
use Rattle.afs_num.specs.declared.messages.Carried.TheVariants as carried
use Rattle.afs_num.specs.declared.messages.Message.{Message}
use Rattle.afs_num.specs.declared.types.Node.TheVariants.{Server}
use Rattle.afs_num.specs.declared.volume_calls.VolCall.TheVariants as calls
use Rattle.spec_history.specs.declared.scripts.Script.{Script}
use Rattle.spec_model.specs.Calls.{admitted}
use Rattle.spec_model.specs.Calls as pairs
use Rattle.spec_rows.specs.Hosts.{in_step, Blow}
use Rattle.spec_rows.specs.Runs.{message_at}
use Rattle.spec_volrows.specs.VolLaws.{stamp_at}
use Rattle.spec_volrows.specs.VolRow.{found}
use Rattle.spec_volrows.specs.VolStates.{Transaction}
use Rattle.spec_runs.specs.NodeRuns.{has_host, node_moved, node_start, CellInput, NodeCell}
use Rattle.law_places.specs.Accepting.{cell_behind, serves_at}

-- the server went down in the step of this message
pub record IsCutIn (c : NodeCell) (server : ℕ) (m : Message) : Type 0 where
  pub clock : ℕ
  pub blow : Blow
  pub down : (c.hosts server).down ≡ Some (in_step m clock blow)

-- A message that was sent to the server asks to set the flags of this volume to 0. It would run there now: the server is up, or begins again
-- behind this very message. It finds the transaction that it names on the volume, in the family of the volume's number, and its stamp is the
-- one that the server has stored for that.
pub record IsEnable (c : NodeCell) (server volume : ℕ) : Type 0 where
  pub host : has_host c server ≡ true
  pub place : ℕ
  pub m : Message
  pub sent : message_at c.sent place ≡ Some m
  pub to : m.head.to ≡ Server server
  pub user : List ℕ
  pub number : ℕ
  pub asks : m.carried ≡ carried.Call user (ask.Volume (calls.SetFlags volume number 0))
  pub live : ((c.hosts server).down ≡ None) ⊎ IsCutIn c server m
  pub runs : admitted (c.hosts server).state.file.lasting.boot (c.hosts server).state.vol.seats m.head ≡ pairs.runs
  pub t : Transaction
  pub there : found volume number (c.hosts server).state.vol.transactions ≡ Some t
  pub on : t.volume ≡ volume
  pub stored : stamp_at (c.hosts server).state.file volume ≡ m.head.stamp

-- In every run of every script: where an input brings a read-write volume into service at a server, that is such a message.
abbrev pub EnablesAreAsked : Type 0
EnablesAreAsked = (s : Script) (inputs : List CellInput) (x : CellInput) (server volume : ℕ) → serves_at (cell_behind (node_start s) inputs) volume server ≡ false →
    serves_at (node_moved (cell_behind (node_start s) inputs) x).cell volume server ≡ true → IsEnable (cell_behind (node_start s) inputs) server volume
