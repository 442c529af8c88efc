-- The stamps under which administrators act, in the runs of a cell of nodes.
use Rattle.std.specs.Prelude.{◌≡◌, ◌≤◌, ◌<◌, ℕ, List, ◌++◌, Some, None}
use Rattle.spec_history.specs.declared.scripts.Script.{Script}
use Rattle.spec_ideal.specs.Tables.{get}
use Rattle.spec_records.specs.LocRecords.{Listed, Lock}
use Rattle.spec_runs.specs.NodeRuns.{node_start, CellInput, NodeCell}
use Rattle.spec_volrows.specs.VolLaws.{stamp_at, IsApart, IsStamped}
use Rattle.law_places.specs.Accepting.{cell_behind}

-- ---- at the servers

-- what the server of this number has stored as the stamp of a family: 0 where it has none
abbrev pub stored_stamp : NodeCell → ℕ → ℕ → ℕ
stored_stamp c server family = stamp_at (c.hosts server).state.file family

-- A server refuses calls under a lower stamp than the stored one. A stored stamp never falls, whatever comes: so what is refused so is refused
-- for good.
abbrev pub StampsNeverFall : Type 0
StampsNeverFall = (s : Script) (inputs later : List CellInput) (server family : ℕ) → stored_stamp (cell_behind (node_start s) inputs) server family ≤ stored_stamp (cell_behind (node_start s) (inputs ++ later)) server family

-- Each transaction has the stamp that is stored for its family; it is on a volume that is there, and no other is on that.
pub record HasTransactions (c : NodeCell) (server : ℕ) : Type 0 where
  pub stamped : IsStamped (c.hosts server).state
  pub apart : IsApart (c.hosts server).state

-- So it is at each server that is up.
abbrev pub TransactionsStand : Type 0
TransactionsStand = (s : Script) (inputs : List CellInput) (server : ℕ) → ((cell_behind (node_start s) inputs).hosts server).down ≡ None → HasTransactions (cell_behind (node_start s) inputs) server

-- ---- at the location database

-- the stamp that it draws next
abbrev pub next_stamp : NodeCell → ℕ
next_stamp c = c.loc.state.lasting.next_stamp

-- Each lock has a stamp that was drawn before, and the next one never falls. So no lock that is taken later has one of these.
pub record LocksAreDrawn : Type 0 where
  pub drawn : (s : Script) (inputs : List CellInput) (volume : ℕ) (l : Listed) (k : Lock) → get volume (cell_behind (node_start s) inputs).loc.state.lasting.entries ≡ Some l → l.lock ≡ Some k → k.stamp < next_stamp (cell_behind (node_start s) inputs)
  pub rises : (s : Script) (inputs later : List CellInput) → next_stamp (cell_behind (node_start s) inputs) ≤ next_stamp (cell_behind (node_start s) (inputs ++ later))
