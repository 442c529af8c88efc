-- What the cell of nodes of two halves has to do with that of file servers alone, where it has no administrators: its servers' callers are
-- clients then, and no volume is read-only.
use Rattle.std.specs.Prelude.{◌≡◌, ℕ, List, map}
use Rattle.spec_history.specs.declared.scripts.Script.{Script}
use Rattle.spec_copyrows.specs.Sites.{new_copies}
use Rattle.law_legal.specs.Cells.{IsOfCell}
use Rattle.law_legal.specs.Laws.{EndsWell}
use Rattle.law_legal.specs.Legal.{Legal}
use Rattle.spec_rows.specs.Runs.{nothing, Cell, Entry, Input, Leads}
use Rattle.spec_rows.specs.Runs as files
use Rattle.spec_rows.specs.ServerHosts.{ServerHost}
use Rattle.spec_rows.specs.States.{Seat}
use Rattle.spec_volrows.specs.NodeHosts.{NodeHost}
use Rattle.spec_volrows.specs.RestingHosts.{resting_host}
use Rattle.spec_runs.specs.NodeRuns.{bare_entry, node_start, usual, CellInput, NodeCell, NodeLeads, NodeRunsTo}

-- the file server of a node, as a host by itself
abbrev pub file_host : NodeHost → ServerHost
file_host n = record { state = n.state.file; down = n.down; armed = n.armed }

-- the cell of its file servers, with clients that know no read-only volumes
abbrev pub file_cell : NodeCell → Cell
file_cell c = record {
  loc = c.loc;
  host_count = c.host_count;
  hosts = λ i. file_host (c.hosts i);
  count = c.count;
  clients = λ i. (c.clients i).client;
  away = c.away;
  handed = c.handed;
  sent = c.sent;
  clock = c.clock;
}

-- a node whose volume server rests, with some callers
abbrev pub Rests : NodeHost → Type 0
Rests n = (callers : List Seat) × (n ≡ resting_host callers (file_host n))

-- what that cell is given when this one is given this: what an administrator is given comes to nothing
abbrev pub plain_input : CellInput → Input
plain_input (usual x) = x
plain_input x = nothing

-- A run of it is a run of the cell of file servers, by these inputs and with the same history. All its volume servers rest, and its clients have
-- seen no release, and are in no round.
pub record IsFileRun (s : Script) (inputs : List CellInput) (history : List Entry) (end : NodeCell) : Type 0 where
  pub leads : Leads (files.start s) (map plain_input inputs) history (file_cell end)
  pub rests : (i : ℕ) → Rests (end.hosts i)
  pub plain : (i : ℕ) → end.clients i ≡ new_copies (end.clients i).client

abbrev pub PlainRunsAreFileRuns : Type 0
PlainRunsAreFileRuns = (s : Script) (inputs : List CellInput) (history : List Entry) (end : NodeCell) → s.admins ≡ 0 → NodeLeads (node_start s) inputs history end → IsFileRun s inputs history end

-- no entry of it brings a volume
abbrev pub PlainRunsBringNothing : Type 0
PlainRunsBringNothing = (s : Script) (inputs : List CellInput) (history : List Entry) (end : NodeCell) → s.admins ≡ 0 → NodeLeads (node_start s) inputs history end → map bare_entry history ≡ history

-- So its history is legal, and at its end its servers' volumes are as they should be.
abbrev pub NodeRunsAreLegal : Type 0
NodeRunsAreLegal = (s : Script) (history : List Entry) (end : NodeCell) → IsOfCell s → s.admins ≡ 0 → NodeRunsTo history s end → Legal history s

abbrev pub NodeRunsEndWell : Type 0
NodeRunsEndWell = (s : Script) (history : List Entry) (end : NodeCell) → IsOfCell s → s.admins ≡ 0 → NodeRunsTo history s end → EndsWell s history (file_cell end)
