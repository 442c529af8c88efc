-- The law: over the whole cell no key changes anything twice, also where its volume went from one server to another in between.
use Rattle.std.specs.Prelude.{List}
use Rattle.spec_history.specs.declared.scripts.Script.{Script}
use Rattle.law_legal.specs.Once.{ChangesOnce}
use Rattle.spec_rows.specs.Runs.{Entry}
use Rattle.spec_runs.specs.NodeRuns.{node_start, CellInput, NodeCell, NodeLeads}

-- So it is in every run of every script, whatever its administrators do.
abbrev pub ChangesAreOnce : Type 0
ChangesAreOnce = (s : Script) (inputs : List CellInput) (history : List Entry) (end : NodeCell) → NodeLeads (node_start s) inputs history end → ChangesOnce history
