-- The law: a server tells its changes in the order of their keys, one in an entry at most.
use Rattle.std.specs.Prelude.{◌≡◌, ⊤, List, [], ◌∷◌, ◌++◌, None}
use Rattle.afs_num.specs.declared.histories.Actor.{Actor}
use Rattle.afs_num.specs.declared.types.Key.{Key}
use Rattle.afs_num.specs.declared.types.Node.{Node}
use Rattle.spec_history.specs.declared.lines.Line.{Line}
use Rattle.spec_history.specs.declared.lines.Line.TheVariants as lines
use Rattle.spec_history.specs.declared.scripts.Script.{Script}
use Rattle.law_legal.specs.Ideal.{change_key, set_up_entry}
use Rattle.law_legal.specs.Legal.{IsOfServer}
use Rattle.law_legal.specs.Past.{lines_of, IsLatest}
use Rattle.spec_rows.specs.Runs.{Entry}
use Rattle.spec_runs.specs.NodeRuns.{node_start, CellInput, NodeCell, NodeLeads}

-- A change stands in an entry of its server, behind no other change there. Each key of the same node under which that server changed something
-- before, in whichever boot, is earlier. So no earlier change of the server has this key.
pub record IsLatestChange (who : Actor) (server : Node) (k : Key) (past : List Entry) (own : List Line) : Type 0 where
  pub own_entry : IsOfServer who server
  pub only : change_key own ≡ None
  pub latest : IsLatest server k (own ++ lines_of past)

-- nothing is asked of other lines
abbrev pub StandsInOrder : Actor → Line → List Entry → List Line → Type 0
StandsInOrder who (lines.Change server k count) past own = IsLatestChange who server k past own
StandsInOrder who l past own = ⊤

-- each of these lines of an entry, behind its lines before them, the newest first
abbrev pub StandInOrder : Actor → List Entry → List Line → List Line → Type 0
StandInOrder who past own [] = ⊤
StandInOrder who past own (l ∷ next) = StandsInOrder who l past own × StandInOrder who past (l ∷ own) next

-- and of each of these entries, behind those before them, the newest first
abbrev pub FollowInOrder : List Entry → List Entry → Type 0
FollowInOrder past [] = ⊤
FollowInOrder past (e ∷ es) = StandInOrder e.actor past [] e.lines × FollowInOrder (e ∷ past) es

-- So stand all changes of the history.
abbrev pub ChangeInOrder : Script → List Entry → Type 0
ChangeInOrder s history = FollowInOrder (set_up_entry s ∷ []) history

-- So it is in every run of every script, whatever its administrators do.
abbrev pub ChangesAreLater : Type 0
ChangesAreLater = (s : Script) (inputs : List CellInput) (history : List Entry) (end : NodeCell) → NodeLeads (node_start s) inputs history end → ChangeInOrder s history
