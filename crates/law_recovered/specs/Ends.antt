-- The end of a recovery: where it asks to release the lock that it holds, the volume has no copy but at the server that the location database names.
use Rattle.std.specs.Prelude.{◌≡◌, ◌≤◌, ℕ, Bool, List, slice_get, take, true, false, nat_eq, Some}
use Rattle.std.specs.List.{list_any}
use Rattle.spec_history.specs.declared.lines.Line.{Line}
use Rattle.spec_history.specs.declared.lines.Line.TheVariants as lines
use Rattle.spec_history.specs.declared.scripts.Script.{Script}
use Rattle.spec_adminrows.specs.declared.places.Mend.{Mend}
use Rattle.spec_adminrows.specs.declared.places.Mending.TheVariants as mending
use Rattle.spec_adminrows.specs.declared.places.Place.TheVariants as places
use Rattle.spec_rows.specs.Runs.{Entry}
use Rattle.spec_runs.specs.NodeRuns.{has_host, node_start, CellInput, NodeCell, NodeLeads}
use Rattle.law_places.specs.Accepting.{cell_behind}
use Rattle.law_stored_stamps.specs.Past.{cell_after}
use Rattle.law_stamps.specs.Told.{is_database}
use Rattle.law_courses.specs.Courses.{course_in}
use Rattle.law_numbers.specs.Numbers.{IsNumbered}
use Rattle.law_one_server.specs.Knows.{lock_at, listed_site}
use Rattle.law_recovered.specs.Copies.{has_copy_at}

-- The recovery asked to release its lock, under this number of its administrator's calls, and the lock is still its own: so it isn't released yet,
-- and no other act has taken it.
pub record IsEnding (s : Script) (inputs : List CellInput) (m : Mend) : Type 0 where
  pub n : ℕ
  pub epoch : ℕ
  pub number : ℕ
  pub asks : (course_in s inputs n epoch number).place ≡ places.Mends m mending.Frees
  pub locked : lock_at (cell_behind (node_start s) inputs) m.volume ≡ Some m.stamp

-- the database names this server, and no other has a copy
pub record IsAlone (c : NodeCell) (volume server : ℕ) : Type 0 where
  pub named : listed_site c volume ≡ Some server
  pub alone : (i : ℕ) → has_host c i ≡ true → has_copy_at c volume i ≡ true → i ≡ server

-- So it is behind each entry, and before the first, of each recovery that ends there.
abbrev pub EndAlone : Script → List CellInput → Type 0
EndAlone s inputs = (k : ℕ) (m : Mend) → IsEnding s (take k inputs) m → IsAlone (cell_after s inputs k) m.volume m.named

-- So it is in every run of every script that has a server, and whose volumes are numbered one after the other.
abbrev pub RecoveriesEndAlone : Type 0
RecoveriesEndAlone = (s : Script) (inputs : List CellInput) → IsNumbered s → 1 ≤ s.servers → EndAlone s inputs

-- ---- as the database tells it

-- the line tells that this volume is in order again
abbrev pub recovers : ℕ → Line → Bool
recovers volume (lines.Recovered v) = nat_eq v volume
recovers volume l = false

-- one server alone has it
pub record StandsAlone (c : NodeCell) (volume : ℕ) : Type 0 where
  pub server : ℕ
  pub stands : IsAlone c volume server

-- So it is where an entry of the database tells `recovered`, in the cell behind the entries before.
abbrev pub AreRecoveredAlone : Script → List CellInput → List Entry → Type 0
AreRecoveredAlone s inputs history = (k volume : ℕ) (e : Entry) → slice_get history k ≡ Some e → is_database e.actor ≡ true → list_any (recovers volume) e.lines ≡ true → StandsAlone (cell_after s inputs k) volume

abbrev pub RecoveriesAreTold : Type 0
RecoveriesAreTold = (s : Script) (inputs : List CellInput) (history : List Entry) (end : NodeCell) → IsNumbered s → 1 ≤ s.servers → NodeLeads (node_start s) inputs history end → AreRecoveredAlone s inputs history
