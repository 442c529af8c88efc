-- The end of a recovery: where it asks to release the lock that it holds, one server accepts stores of the volume, the one that the location database
-- names.
use Rattle.std.specs.Prelude.{◌≡◌, ◌≤◌, ℕ, List, slice_get, take, true, Some}
use Rattle.std.specs.List.{list_any}
use Rattle.afs_num.specs.declared.types.Node.TheVariants.{Server}
use Rattle.spec_history.specs.declared.scripts.Script.{Script}
use Rattle.spec_adminrows.specs.declared.places.Mend.{Mend}
use Rattle.spec_rows.specs.Runs.{Entry}
use Rattle.spec_runs.specs.NodeRuns.{has_host, node_start, CellInput, NodeCell, NodeLeads}
use Rattle.law_places.specs.Accepting.{accepts, serves_at}
use Rattle.law_stamps.specs.Told.{is_database, place_by_lines}
use Rattle.law_stored_stamps.specs.Past.{cell_after}
use Rattle.law_numbers.specs.Numbers.{IsNumbered}
use Rattle.law_one_server.specs.Knows.{listed_site}
use Rattle.law_recovered.specs.Copies.{has_copy_at}
use Rattle.law_recovered.specs.Ends.{recovers, IsEnding}

-- ---- by what the servers have

-- The database names this server, which has the volume in service. No other server has a copy of it, in service or not.
pub record ServesAlone (c : NodeCell) (volume server : ℕ) : Type 0 where
  pub named : listed_site c volume ≡ Some server
  pub serves : serves_at c volume server ≡ true
  pub alone : (i : ℕ) → has_host c i ≡ true → has_copy_at c volume i ≡ true → i ≡ server

-- So it is behind each entry, and before the first, of each recovery that ends there, with the server by which it went.
abbrev pub EndInService : Script → List CellInput → Type 0
EndInService s inputs = (k : ℕ) (m : Mend) → IsEnding s (take k inputs) m → ServesAlone (cell_after s inputs k) m.volume m.named

-- So it is in every run of every script that has a server, and whose volumes are numbered one after the other.
abbrev pub RecoveriesEndInService : Type 0
RecoveriesEndInService = (s : Script) (inputs : List CellInput) → IsNumbered s → 1 ≤ s.servers → EndInService s inputs

-- ---- as the history tells it

-- As these entries tell it, this server accepts stores of the volume, and no other does; and it is the one that was told last to be the volume's.
pub record AcceptsAlone (s : Script) (history : List Entry) (volume server : ℕ) : Type 0 where
  pub accepted : accepts s history volume server ≡ true
  pub one : (i : ℕ) → accepts s history volume i ≡ true → i ≡ server
  pub located : place_by_lines s history volume ≡ Some (Server server)

-- of one server both are so: as it was told, and as it is
pub record IsRecovered (s : Script) (inputs : List CellInput) (history : List Entry) (k volume : ℕ) : Type 0 where
  pub server : ℕ
  pub told : AcceptsAlone s (take k history) volume server
  pub stands : ServesAlone (cell_after s inputs k) volume server

-- So it is where an entry of the database tells `recovered`, behind the entries before.
abbrev pub AreRecovered : Script → List CellInput → List Entry → Type 0
AreRecovered s inputs history = (k volume : ℕ) (e : Entry) → slice_get history k ≡ Some e → is_database e.actor ≡ true → list_any (recovers volume) e.lines ≡ true → IsRecovered s inputs history k volume

abbrev pub VolumesAreRecovered : Type 0
VolumesAreRecovered = (s : Script) (inputs : List CellInput) (history : List Entry) (end : NodeCell) → IsNumbered s → 1 ≤ s.servers → NodeLeads (node_start s) inputs history end → AreRecovered s inputs history
