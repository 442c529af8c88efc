-- The law: whatever administrators do, a volume accepts stores at one server at most, and that is where the location database puts it.
use Rattle.std.specs.Prelude.{◌≡◌, ◌≤◌, ℕ, List, Some, take, true}
use Rattle.afs_num.specs.declared.types.Node.TheVariants.{Server}
use Rattle.spec_history.specs.declared.scripts.Script.{Script}
use Rattle.law_places.specs.Accepting.{accepts}
use Rattle.law_numbers.specs.Numbers.{IsNumbered}
use Rattle.spec_rows.specs.Runs.{Entry}
use Rattle.spec_runs.specs.NodeRuns.{node_start, CellInput, NodeCell, NodeLeads}
use Rattle.law_stamps.specs.Told.{place_by_lines}

-- Behind each entry of the history, and before the first: where a volume accepts stores, as `enable`, `fence` and `vanish` tell, is the server
-- that `place_by_lines` told last of it. So it accepts them nowhere else.
pub record AcceptsAtOne (s : Script) (history : List Entry) : Type 0 where
  pub located : (n volume server : ℕ) → accepts s (take n history) volume server ≡ true → place_by_lines s (take n history) volume ≡ Some (Server server)
  pub one : (n volume i j : ℕ) → accepts s (take n history) volume i ≡ true → accepts s (take n history) volume j ≡ true → i ≡ j

-- So it is in every run of every script that has a server, and whose volumes are numbered one after the other.
abbrev pub VolumesAcceptAtOne : Type 0
VolumesAcceptAtOne = (s : Script) (inputs : List CellInput) (history : List Entry) (end : NodeCell) → IsNumbered s → 1 ≤ s.servers → NodeLeads (node_start s) inputs history end → AcceptsAtOne s history
