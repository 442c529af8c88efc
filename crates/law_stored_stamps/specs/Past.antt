-- Calls under stamps that are past: a server has stored a higher one of the family, so it refuses them for good.
use Rattle.std.specs.Prelude.{◌≡◌, ◌<◌, ◌≤◌, ◌⊎◌, ℕ, suc, List, [], ◌∷◌, take, slice_get, Option, Some}
use Rattle.afs_num.specs.declared.messages.Call.TheVariants as ask
use Rattle.afs_num.specs.declared.messages.Carried.TheVariants as carried
use Rattle.afs_num.specs.declared.messages.Message.{Message}
use Rattle.afs_num.specs.declared.types.Node.TheVariants.{Server}
use Rattle.afs_num.specs.declared.volume_calls.VolCall.{VolCall}
use Rattle.spec_history.specs.declared.lines.Line.{Line}
use Rattle.spec_history.specs.declared.lines.Line.TheVariants as lines
use Rattle.spec_history.specs.declared.scripts.Script.{Script}
use Rattle.spec_rows.specs.Hosts.{Luck}
use Rattle.spec_rows.specs.Runs.{gives, message_at, Entry}
use Rattle.spec_volrows.specs.NodeHosts.{NodeHost}
use Rattle.spec_volrows.specs.VolRow.{family_of}
use Rattle.spec_runs.specs.NodeRuns.{node_start, usual, CellInput, NodeCell, NodeLeads}
use Rattle.law_places.specs.Accepting.{cell_behind}
use Rattle.law_stamps.specs.Stamps.{stored_stamp}

-- The message is a call of a volume server, to the server of this number, in this family, and under a lower stamp than this.
pub record IsOlder (server family stamp : ℕ) (m : Message) : Type 0 where
  pub to : m.head.to ≡ Server server
  pub user : List ℕ
  pub call : VolCall
  pub asks : m.carried ≡ carried.Call user (ask.Volume call)
  pub in_it : family_of call ≡ family
  pub older : m.head.stamp < stamp

-- The server has just what it had: all that outlives a crash, with the volumes and the stamps, and the transactions. It is up where it was.
pub record HasTheSame (a b : NodeHost) : Type 0 where
  pub lasting : b.state.file.lasting ≡ a.state.file.lasting
  pub transactions : b.state.vol.transactions ≡ a.state.vol.transactions
  pub down : b.down ≡ a.down

-- It tells at most that the message of this place was given.
abbrev pub TellsNothing : ℕ → List Line → Type 0
TellsNothing place ls = (ls ≡ lines.Given place ∷ []) ⊎ (ls ≡ lines.Void ∷ [])

-- from the first cell to the second, by these lines
pub record IsVain (server place : ℕ) (c d : NodeCell) (ls : List Line) : Type 0 where
  pub same : HasTheSame (c.hosts server) (d.hosts server)
  pub told : TellsNothing place ls

-- the cell behind so many entries of a run with these inputs
abbrev pub cell_after : Script → List CellInput → ℕ → NodeCell
cell_after s inputs n = cell_behind (node_start s) (take n inputs)

-- Where a server has stored a stamp of a family behind some entries, each call in the family under a lower one is in vain there from then on,
-- whenever it comes and whatever came between. So once all servers have stored a stamp, no call under a lower one changes the family.
abbrev pub AreVainOncePast : Script → List CellInput → List Entry → Type 0
AreVainOncePast s inputs history = (n k server family place : ℕ) (luck : Luck) (m : Message) (e : Entry) → n ≤ k → slice_get inputs k ≡ Some (usual (gives place luck)) → slice_get history k ≡ Some e →
    message_at (cell_after s inputs k).sent place ≡ Some m → IsOlder server family (stored_stamp (cell_after s inputs n) server family) m →
    IsVain server place (cell_after s inputs k) (cell_after s inputs (suc k)) e.lines

-- So it is in every run of every script, whatever its administrators do.
abbrev pub PastCallsAreVain : Type 0
PastCallsAreVain = (s : Script) (inputs : List CellInput) (history : List Entry) (end : NodeCell) → NodeLeads (node_start s) inputs history end → AreVainOncePast s inputs history
