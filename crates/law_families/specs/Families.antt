-- The families of volumes: that of a read-write volume has the volume's own number, and that of a transaction is its volume's.
use Rattle.std.specs.Prelude.{◌≡◌, ℕ, List, Some, None}
use Rattle.spec_history.specs.declared.scripts.Script.{Script}
use Rattle.spec_ideal.specs.Tables.{get, Table}
use Rattle.spec_records.specs.Durable.{Stored}
use Rattle.spec_volrows.specs.VolStates.{Transaction}
use Rattle.spec_runs.specs.NodeRuns.{node_start, CellInput, NodeCell}
use Rattle.law_places.specs.Accepting.{cell_behind}

-- the volumes that the server of this number has, or its disk has, while it is down
abbrev pub volumes_in : NodeCell → ℕ → Table Stored
volumes_in c server = (c.hosts server).state.file.lasting.volumes

-- In every run of every script: whatever read-write volume a server has, its family has its number. So no two read-write volumes that differ
-- in their numbers are of one family.
abbrev pub ReadWriteIsFamily : Type 0
ReadWriteIsFamily = (s : Script) (inputs : List CellInput) (server volume : ℕ) (x : Stored) →
    get volume (volumes_in (cell_behind (node_start s) inputs) server) ≡ Some x → x.volume.kind ≡ 0 → x.volume.family ≡ volume

-- the server has the volume, and it is of this family
pub record IsOfFamily (volumes : Table Stored) (volume family : ℕ) : Type 0 where
  pub stored : Stored
  pub there : get volume volumes ≡ Some stored
  pub its : stored.volume.family ≡ family

-- In every run of every script: each transaction of a server that is up is on a volume that is there, and its family is that volume's.
abbrev pub TransactionsAreOfFamilies : Type 0
TransactionsAreOfFamilies = (s : Script) (inputs : List CellInput) (server number : ℕ) (t : Transaction) → ((cell_behind (node_start s) inputs).hosts server).down ≡ None →
    get number ((cell_behind (node_start s) inputs).hosts server).state.vol.transactions ≡ Some t → IsOfFamily (volumes_in (cell_behind (node_start s) inputs) server) t.volume t.family
