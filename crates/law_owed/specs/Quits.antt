-- The law: a server gives a break up only where a call that carries it was timed out three times.
use Rattle.std.specs.Prelude.{⊤, ℕ, List, [], ◌∷◌}
use Rattle.afs_num.specs.declared.histories.Actor.{Actor}
use Rattle.afs_num.specs.declared.types.Node.{Node}
use Rattle.spec_history.specs.declared.lines.Line.{Line}
use Rattle.spec_history.specs.declared.lines.Line.TheVariants as lines
use Rattle.spec_history.specs.declared.scripts.Script.{Script}
use Rattle.law_legal.specs.Breaks.{GoodQuit, HasTimeout}
use Rattle.law_legal.specs.Ideal.{set_up_entry}
use Rattle.law_legal.specs.Legal.{IsOfServer}
use Rattle.law_legal.specs.Past.{lines_of}
use Rattle.spec_rows.specs.Runs.{Entry}
use Rattle.spec_runs.specs.NodeRuns.{node_start, CellInput, NodeCell, NodeLeads}

-- It stands in an entry of its server, and is good in the sense of the law: a call to the client that carries the break is timed out for the third
-- time in this entry, behind the lines before this one. Its first and its second timeout stand in entries before.
pub record IsLateQuit (who : Actor) (server c : Node) (n : ℕ) (past : List Entry) (own : List Line) : Type 0 where
  pub own_entry : IsOfServer who server
  pub quit : GoodQuit server c n past own
  pub first : HasTimeout server c quit.epoch quit.number 1 (lines_of past)
  pub second : HasTimeout server c quit.epoch quit.number 2 (lines_of past)

-- nothing is asked of other lines
abbrev pub IsLate : Actor → Line → List Entry → List Line → Type 0
IsLate who (lines.Quit server c n) past own = IsLateQuit who server c n past own
IsLate who l past own = ⊤

-- each of these lines of an entry, behind its lines before them, the newest first
abbrev pub AreLate : Actor → List Entry → List Line → List Line → Type 0
AreLate who past own [] = ⊤
AreLate who past own (l ∷ next) = IsLate who l past own × AreLate who past (l ∷ own) next

-- and of each of these entries, behind those before them, the newest first
abbrev pub GiveUpLate : List Entry → List Entry → Type 0
GiveUpLate past [] = ⊤
GiveUpLate past (e ∷ es) = AreLate e.actor past [] e.lines × GiveUpLate (e ∷ past) es

-- So are all breaks of the history given up that are.
abbrev pub QuitLate : Script → List Entry → Type 0
QuitLate s history = GiveUpLate (set_up_entry s ∷ []) history

-- So it is in every run of every script, whatever its administrators do.
abbrev pub QuitsAreLate : Type 0
QuitsAreLate = (s : Script) (inputs : List CellInput) (history : List Entry) (end : NodeCell) → NodeLeads (node_start s) inputs history end → QuitLate s history
