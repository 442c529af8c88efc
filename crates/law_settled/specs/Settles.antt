-- The law: a server settles a break only where the client dropped what it is on since it became owed.
use Rattle.std.specs.Prelude.{◌≡◌, ⊤, ℕ, List, [], ◌∷◌, ◌++◌, Option}
use Rattle.afs_num.specs.declared.histories.Actor.{Actor}
use Rattle.afs_num.specs.declared.types.Fid.{Fid}
use Rattle.afs_num.specs.declared.types.Node.{Node}
use Rattle.spec_history.specs.declared.lines.Line.{Line}
use Rattle.spec_history.specs.declared.lines.Line.TheVariants as lines
use Rattle.spec_history.specs.declared.scripts.Script.{Script}
use Rattle.law_legal.specs.Breaks.{GoodSettle, HasDrop, HasStopped}
use Rattle.law_legal.specs.Ideal.{set_up_entry}
use Rattle.law_legal.specs.Legal.{IsOfServer}
use Rattle.law_legal.specs.Past.{lines_of}
use Rattle.spec_rows.specs.Runs.{Entry}
use Rattle.spec_runs.specs.NodeRuns.{node_start, CellInput, NodeCell, NodeLeads}

-- These lines, the newest first, split at the one in which the server owes the client its break of this number. Behind that line the server
-- hasn't stopped, and the client dropped the fid that the break is on, or all that the server granted it. A break on all asks for the latter.
pub record HasDropSince (server c : Node) (n : ℕ) (ls : List Line) : Type 0 where
  pub what : Option Fid
  pub newer : List Line
  pub base : List Line
  pub split : ls ≡ newer ++ (lines.Owe server c what n ∷ base)
  pub up : HasStopped server newer → ⊥
  pub dropped : HasDrop server c what newer

-- It stands in an entry of its server. Between the line by which the break became owed and this one stands the client's drop. And it is good in
-- the sense of the law: the entry was given the client's answer to a call that carries the break, and since that call was first sent the client
-- dropped what the break is on.
pub record IsSettledBehindDrop (who : Actor) (server c : Node) (n : ℕ) (past : List Entry) (own : List Line) : Type 0 where
  pub own_entry : IsOfServer who server
  pub drop : HasDropSince server c n (own ++ lines_of past)
  pub settle : GoodSettle server c n past own

-- nothing is asked of other lines
abbrev pub FollowsDrop : Actor → Line → List Entry → List Line → Type 0
FollowsDrop who (lines.Settle server c n) past own = IsSettledBehindDrop who server c n past own
FollowsDrop who l past own = ⊤

-- each of these lines of an entry, behind its lines before them, the newest first
abbrev pub FollowDrop : Actor → List Entry → List Line → List Line → Type 0
FollowDrop who past own [] = ⊤
FollowDrop who past own (l ∷ next) = FollowsDrop who l past own × FollowDrop who past (l ∷ own) next

-- and of each of these entries, behind those before them, the newest first
abbrev pub SettleBehindDrops : List Entry → List Entry → Type 0
SettleBehindDrops past [] = ⊤
SettleBehindDrops past (e ∷ es) = FollowDrop e.actor past [] e.lines × SettleBehindDrops (e ∷ past) es

-- So are all breaks of the history settled that are.
abbrev pub AreSettledBehindDrops : Script → List Entry → Type 0
AreSettledBehindDrops s history = SettleBehindDrops (set_up_entry s ∷ []) history

-- So it is in every run of every script, whatever its administrators do.
abbrev pub SettlesFollowDrops : Type 0
SettlesFollowDrops = (s : Script) (inputs : List CellInput) (history : List Entry) (end : NodeCell) → NodeLeads (node_start s) inputs history end → AreSettledBehindDrops s history
