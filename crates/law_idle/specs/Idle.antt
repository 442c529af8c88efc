-- Histories in which administrators do nothing but stop and begin again: they are legal as those of cells without administrators are.
use Rattle.std.specs.Prelude.{◌≡◌, ⊤, List, [], ◌∷◌, Bool, true, false, map, if◌then◌else◌}
use Rattle.spec_history.specs.declared.lines.Line.{Line}
use Rattle.spec_history.specs.declared.lines.Line.TheVariants as lines
use Rattle.spec_history.specs.declared.scripts.Script.{Script}
use Rattle.law_legal.specs.Cells.{IsOfCell}
use Rattle.law_legal.specs.Laws.{EndsWell}
use Rattle.law_legal.specs.Legal.{Legal}
use Rattle.afs_num.specs.declared.histories.Actor.{Actor}
use Rattle.afs_num.specs.declared.histories.Actor.TheVariants as actors
use Rattle.afs_num.specs.declared.types.Node.TheVariants.{Admin}
use Rattle.spec_rows.specs.Runs.{Entry}
use Rattle.spec_runs.specs.NodeRuns.{NodeCell, NodeRunsTo}
use Rattle.spec_runs.specs.PlainRuns.{file_cell}

abbrev pub is_of_admin : Actor → Bool
is_of_admin (actors.Node (Admin n)) = true
is_of_admin a = false

-- it stops, or begins again, and nothing else
abbrev pub is_stop : List Line → Bool
is_stop (lines.Crash n ∷ []) = true
is_stop (lines.Restart n boot ∷ []) = true
is_stop ls = false

-- an entry of an administrator tells just that: no act begins, and nothing is given to it
abbrev pub IsIdle : Entry → Type 0
IsIdle e = is_of_admin e.actor ≡ true → is_stop e.lines ≡ true

abbrev pub AreIdle : List Entry → Type 0
AreIdle [] = ⊤
AreIdle (e ∷ es) = IsIdle e × AreIdle es

-- what nobody does
abbrev pub void_entry : Entry
void_entry = record { actor = actors.Nobody; lines = lines.Void ∷ []; sent = []; volumes = [] }

-- the entry, or a void one where it is an administrator's
abbrev pub but_for_admins : Entry → Entry
but_for_admins e = if is_of_admin e.actor then void_entry else e

-- With void entries in place of those of administrators the history is legal.
abbrev pub IdleRunsAreLegal : Type 0
IdleRunsAreLegal = (s : Script) (history : List Entry) (end : NodeCell) → IsOfCell s → AreIdle history → NodeRunsTo history s end → Legal (map but_for_admins history) s

abbrev pub IdleRunsEndWell : Type 0
IdleRunsEndWell = (s : Script) (history : List Entry) (end : NodeCell) → IsOfCell s → AreIdle history → NodeRunsTo history s end → EndsWell s (map but_for_admins history) (file_cell end)
