-- The entries of the location database as its lines tell them: which are locked, and where volumes are.
use Rattle.std.specs.Prelude.{◌≡◌, ℕ, List, [], ◌∷◌, Bool, true, false, Option, Some, None, nat_eq, take, if◌then◌else◌}
use Rattle.afs_num.specs.declared.histories.Actor.{Actor}
use Rattle.afs_num.specs.declared.histories.Actor.TheVariants as actors
use Rattle.afs_num.specs.declared.types.Node.{Node}
use Rattle.afs_num.specs.declared.types.Node.TheVariants.{Loc, Server}
use Rattle.spec_history.specs.declared.lines.Line.{Line}
use Rattle.spec_history.specs.declared.lines.Line.TheVariants as lines
use Rattle.spec_history.specs.declared.scripts.Script.{Script}
use Rattle.spec_ideal.specs.Tables.{get, Table}
use Rattle.spec_records.specs.Entries.{site_of}
use Rattle.spec_records.specs.LocRecords.{Listed, Lock}
use Rattle.spec_rows.specs.Runs.{first_entries, Entry}
use Rattle.spec_runs.specs.NodeRuns.{node_start, CellInput, NodeCell, NodeLeads}
use Rattle.law_places.specs.Accepting.{cell_behind}

-- ---- by its lines

-- the stamp of the lock of a volume's entry, if it is locked
abbrev pub lock_turned : ℕ → Option ℕ → Line → Option ℕ
lock_turned volume was (lines.Locked v stamp operation) = if nat_eq v volume then Some stamp else was
lock_turned volume was (lines.Unlocked v) = if nat_eq v volume then None else was
lock_turned volume was l = was

-- the server of a volume
abbrev pub site_turned : ℕ → Option Node → Line → Option Node
site_turned volume was (lines.Located v server) = if nat_eq v volume then Some server else was
site_turned volume was l = was

abbrev pub lines_turned : {A : Type 0} → (A → Line → A) → A → List Line → A
lines_turned {A} turn was [] = was
lines_turned {A} turn was (l ∷ ls) = lines_turned turn (turn was l) ls

-- it is an entry of the database
abbrev pub is_database : Actor → Bool
is_database (actors.Node Loc) = true
is_database who = false

abbrev pub entry_turned : {A : Type 0} → (A → Line → A) → A → Entry → A
entry_turned {A} turn was e = if is_database e.actor then lines_turned turn was e.lines else was

-- behind the database's entries of a history
abbrev pub turned_behind : {A : Type 0} → (A → Line → A) → A → List Entry → A
turned_behind {A} turn was [] = was
turned_behind {A} turn was (e ∷ es) = turned_behind turn (entry_turned turn was e) es

-- ---- by what it has

abbrev pub stamp_by : Option Lock → Option ℕ
stamp_by None = None
stamp_by (Some k) = Some k.stamp

abbrev pub stamp_in : Option Listed → Option ℕ
stamp_in None = None
stamp_in (Some l) = stamp_by l.lock

abbrev pub home_by : Option ℕ → Option Node
home_by None = None
home_by (Some i) = Some (Server i)

abbrev pub home_listed : Option Listed → Option Node
home_listed None = None
home_listed (Some l) = home_by (site_of l.entry)

abbrev pub entries_in : NodeCell → Table Listed
entries_in c = c.loc.state.lasting.entries

-- ---- the laws

-- at set-up no entry is locked
abbrev pub lock_by_lines : List Entry → ℕ → Option ℕ
lock_by_lines history volume = turned_behind (lock_turned volume) None history

-- and each volume is where the script puts it
abbrev pub place_by_lines : Script → List Entry → ℕ → Option Node
place_by_lines s history volume = turned_behind (site_turned volume) (home_listed (get volume (first_entries s.volumes))) history

-- After each entry of the history the database's entry of a volume is locked just as was told: under the stamp that `lock_by_lines` told last, or not.
abbrev pub AreLockedAsTold : Script → List CellInput → List Entry → Type 0
AreLockedAsTold s inputs history =
    (n volume : ℕ) → lock_by_lines (take n history) volume ≡ stamp_in (get volume (entries_in (cell_behind (node_start s) (take n inputs))))

-- And where it has an entry that names a server, that is the one that `place_by_lines` told last.
abbrev pub AreLocatedAsTold : Script → List CellInput → List Entry → Type 0
AreLocatedAsTold s inputs history =
    (n volume : ℕ) (server : Node) → home_listed (get volume (entries_in (cell_behind (node_start s) (take n inputs)))) ≡ Some server → place_by_lines s (take n history) volume ≡ Some server

-- So it is in every run of every script.
pub record EntriesAsTold : Type 0 where
  pub locks : (s : Script) (inputs : List CellInput) (history : List Entry) (end : NodeCell) → NodeLeads (node_start s) inputs history end → AreLockedAsTold s inputs history
  pub sites : (s : Script) (inputs : List CellInput) (history : List Entry) (end : NodeCell) → NodeLeads (node_start s) inputs history end → AreLocatedAsTold s inputs history
