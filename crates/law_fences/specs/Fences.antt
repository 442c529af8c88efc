-- A fence: the call that takes a volume out of service, in the transaction that the administrator has just begun on it.
use Rattle.std.specs.Prelude.{◌≡◌, ◌+◌, ℕ, List, false}
use Rattle.afs_num.specs.declared.messages.Call.TheVariants as ask
use Rattle.afs_num.specs.declared.messages.Carried.TheVariants as carried
use Rattle.afs_num.specs.declared.messages.Message.{Message}
use Rattle.afs_num.specs.declared.messages.Received.TheVariants.{Whole}
use Rattle.afs_num.specs.declared.messages.Reply.TheVariants as tell
use Rattle.afs_num.specs.declared.types.Head.{Head}
use Rattle.afs_num.specs.declared.types.Node.TheVariants.{Server}
use Rattle.afs_num.specs.declared.volume_calls.VolCall.TheVariants as calls
use Rattle.afs_num.specs.declared.volume_calls.VolReply.TheVariants as volumes
use Rattle.spec_history.specs.declared.scripts.Script.{Script}
use Rattle.spec_fold.specs.Deeds.{done_by}
use Rattle.spec_records.specs.Durable.{Durable}
use Rattle.spec_rows.specs.States.{durable_of}
use Rattle.spec_volrows.specs.VolSteps.{saves, vol_decides, Deed}
use Rattle.spec_runs.specs.NodeRuns.{node_start, CellInput, NodeCell}
use Rattle.law_places.specs.Accepting.{cell_behind, has_in_service}
use Rattle.law_fences.specs.Claims.{IsLive, WasSent, WasTold}

-- what the server has on its disk
abbrev pub disk_at : NodeCell → ℕ → Durable
disk_at c server = durable_of (c.hosts server).state.file.lasting

-- The server, whose memory counts, decides to do what the message asks: it writes this, and its reply says that the flags are set.
pub record SetsFlags (c : NodeCell) (server : ℕ) (m : Message) (x : Deed) : Type 0 where
  pub live : IsLive c server
  pub head : Head
  pub decides : vol_decides (Server server) (disk_at c server) (c.hosts server).state.vol (Whole m) ≡ saves head x
  pub says : x.reply.carried ≡ carried.Reply (tell.Volume volumes.SetFlags)

-- The administrator asked for a transaction on the volume that has its family's number, and was told one. Under its next number it asks to set
-- the flags in that transaction.
pub record IsFence (c : NodeCell) (admin server epoch number family flags : ℕ) (m : Message) : Type 0 where
  pub stamp : ℕ
  pub transaction : ℕ
  pub some : stamp ≡ 0 → ⊥
  pub told : WasTold c admin server epoch number transaction family family stamp
  pub sent : WasSent c admin server epoch (number + 1) stamp m
  pub user : List ℕ
  pub asks : m.carried ≡ carried.Call user (ask.Volume (calls.SetFlags family transaction flags))

-- So it is in every run of every script: where a server does what such a call asks, with other flags than 0, the family's own volume isn't in
-- service there by what is written. It is no other volume, such as the copy of it that the administrator made before.
abbrev pub FencesClose : Type 0
FencesClose = (s : Script) (inputs : List CellInput) (admin server epoch number family flags : ℕ) (m : Message) (x : Deed) → (flags ≡ 0 → ⊥) → IsFence (cell_behind (node_start s) inputs) admin server epoch number family flags m →
    SetsFlags (cell_behind (node_start s) inputs) server m x → has_in_service (done_by x.body (disk_at (cell_behind (node_start s) inputs) server)).volumes family ≡ false
