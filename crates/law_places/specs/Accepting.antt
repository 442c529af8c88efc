-- Where a volume accepts stores, as the lines of a history tell it, and at which servers it does.
use Rattle.std.specs.Prelude.{◌≡◌, ℕ, List, [], ◌∷◌, Bool, true, false, ◌&&◌, Option, Some, None, is_some, nat_eq, take, if◌then◌else◌}
use Rattle.afs_num.specs.Nodes.{same_node}
use Rattle.afs_num.specs.declared.types.Node.{Node}
use Rattle.afs_num.specs.declared.types.Node.TheVariants.{Server}
use Rattle.spec_history.specs.declared.lines.Line.{Line}
use Rattle.spec_history.specs.declared.lines.Line.TheVariants as lines
use Rattle.spec_history.specs.declared.scripts.Script.{Script}
use Rattle.spec_ideal.specs.Tables.{get, Table}
use Rattle.spec_records.specs.Durable.{Stored}
use Rattle.spec_rows.specs.Runs.{first_volumes_at, Entry}
use Rattle.spec_runs.specs.NodeRuns.{node_moved, node_start, CellInput, NodeCell, NodeLeads}

-- ---- by the lines

-- the line speaks of this volume at this server
abbrev pub speaks_of : ℕ → Node → ℕ → Node → Bool
speaks_of id server v n = nat_eq v id && same_node n server

-- Whether the volume accepts stores at the server behind a line, where it did or didn't before: from `enable` on it does, and from `fence` or
-- `vanish` on it doesn't.
abbrev pub accepts_behind_line : ℕ → Node → Bool → Line → Bool
accepts_behind_line id server was (lines.Enable v n) = if speaks_of id server v n then true else was
accepts_behind_line id server was (lines.Fence v n) = if speaks_of id server v n then false else was
accepts_behind_line id server was (lines.Vanish v n) = if speaks_of id server v n then false else was
accepts_behind_line id server was l = was

-- behind some lines, the first of them first
abbrev pub accepts_behind_lines : ℕ → Node → Bool → List Line → Bool
accepts_behind_lines id server was [] = was
accepts_behind_lines id server was (l ∷ ls) = accepts_behind_lines id server (accepts_behind_line id server was l) ls

-- behind some entries
abbrev pub accepts_behind : ℕ → Node → Bool → List Entry → Bool
accepts_behind id server was [] = was
accepts_behind id server was (e ∷ es) = accepts_behind id server (accepts_behind_lines id server was e.lines) es

-- set-up lays the volume at this server, where it accepts stores from the first
abbrev pub is_laid_at : Script → ℕ → ℕ → Bool
is_laid_at s id server = is_some (get id (first_volumes_at server s.volumes))

-- as the history of the script tells it: the volume of this number accepts stores at the server of this number
abbrev pub accepts : Script → List Entry → ℕ → ℕ → Bool
accepts s history id server = accepts_behind id (Server server) (is_laid_at s id server) history

-- ---- by what the servers have

-- a read-write volume in service: its kind is 0, and its flags are 0
abbrev pub is_in_service : Option Stored → Bool
is_in_service None = false
is_in_service (Some s) = nat_eq s.volume.kind 0 && nat_eq s.volume.flags 0

abbrev pub has_in_service : Table Stored → ℕ → Bool
has_in_service volumes id = is_in_service (get id volumes)

-- the server of this number has the volume so, or its disk has, while it is down
abbrev pub serves_at : NodeCell → ℕ → ℕ → Bool
serves_at c id server = has_in_service (c.hosts server).state.file.lasting.volumes id

-- ---- the law

-- the cell behind these inputs
abbrev pub cell_behind : NodeCell → List CellInput → NodeCell
cell_behind c [] = c
cell_behind c (x ∷ xs) = cell_behind (node_moved c x).cell xs

-- Behind each entry of the history, and before the first, a server has a volume in service exactly where what was told so far says that the
-- volume accepts stores there.
abbrev pub AreAcceptedAsTold : Script → List CellInput → List Entry → Type 0
AreAcceptedAsTold s inputs history =
    (n id server : ℕ) → accepts s (take n history) id server ≡ serves_at (cell_behind (node_start s) (take n inputs)) id server

-- So it is in every run of every script, whatever its administrators do.
abbrev pub AcceptsAsTold : Type 0
AcceptsAsTold = (s : Script) (inputs : List CellInput) (history : List Entry) (end : NodeCell) → NodeLeads (node_start s) inputs history end → AreAcceptedAsTold s inputs history
