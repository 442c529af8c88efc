-- The law, line by line: whatever administrators do, a volume comes into service only where the location database puts it, and while no server
-- accepts its stores.
use Rattle.std.specs.Prelude.{◌≡◌, ◌≤◌, ℕ, zero, suc, List, [], ◌∷◌, false, true, Option, Some, None, slice_get, take}
use Rattle.afs_num.specs.declared.types.Node.{Node}
use Rattle.spec_history.specs.declared.lines.Line.{Line}
use Rattle.spec_history.specs.declared.lines.Line.TheVariants as lines
use Rattle.spec_history.specs.declared.scripts.Script.{Script}
use Rattle.spec_ideal.specs.Tables.{get}
use Rattle.law_places.specs.Accepting.{accepts, cell_behind}
use Rattle.law_numbers.specs.Numbers.{IsNumbered}
use Rattle.spec_rows.specs.Runs.{Entry}
use Rattle.spec_runs.specs.NodeRuns.{node_start, CellInput, NodeCell, NodeLeads}
use Rattle.law_stamps.specs.Told.{entries_in, home_listed, place_by_lines}

-- ---- the lines of a history, one after the other

-- The history as it was behind its first n entries and, of the entry that comes next, the first k lines.
abbrev pub cut_at : ℕ → ℕ → List Entry → List Entry
cut_at n k [] = []
cut_at zero k (e ∷ es) = record e { lines = take k e.lines } ∷ []
cut_at (suc n) k (e ∷ es) = e ∷ cut_at n k es

-- the line that comes next there, if that entry has one more
abbrev pub line_behind : ℕ → ℕ → List Entry → Option Line
line_behind n k [] = None
line_behind zero k (e ∷ es) = slice_get e.lines k
line_behind (suc n) k (e ∷ es) = line_behind n k es

-- ---- the law

-- The volume may come into service at this server, behind what the history told so far and in this cell: it accepts stores nowhere, and belongs
-- there. `place_by_lines` told that last, or the script where no `place_by_lines` told of it, and the location database has an entry of it, which says so.
pub record MayComeIn (s : Script) (past : List Entry) (c : NodeCell) (volume : ℕ) (server : Node) : Type 0 where
  pub nowhere : (i : ℕ) → accepts s past volume i ≡ false
  pub told : place_by_lines s past volume ≡ Some server
  pub listed : home_listed (get volume (entries_in c)) ≡ Some server

-- At each `enable` of the history the volume may come in: behind all lines before it, also those of its own entry, and in the cell behind all
-- entries before. So behind each line, and not only behind each entry, a volume accepts stores at one server at most.
pub record EnablesStandAlone (s : Script) (inputs : List CellInput) (history : List Entry) : Type 0 where
  pub free : (n k volume : ℕ) (server : Node) → line_behind n k history ≡ Some (lines.Enable volume server) → MayComeIn s (cut_at n k history) (cell_behind (node_start s) (take n inputs)) volume server
  pub one : (n k volume i j : ℕ) → accepts s (cut_at n k history) volume i ≡ true → accepts s (cut_at n k history) volume j ≡ true → i ≡ j

-- So it is in every run of every script that has a server, and whose volumes are numbered one after the other.
abbrev pub VolumesAreEnabledAlone : Type 0
VolumesAreEnabledAlone = (s : Script) (inputs : List CellInput) (history : List Entry) (end : NodeCell) → IsNumbered s → 1 ≤ s.servers → NodeLeads (node_start s) inputs history end → EnablesStandAlone s inputs history
