-- Lines that stand where they may: a change in a volume where its stores are accepted, `enable` where they aren't, and `fence` where they are.
use Rattle.std.specs.Prelude.{◌≡◌, ⊤, ℕ, List, [], ◌∷◌, Bool, true, false, ◌&&◌, nat_eq}
use Rattle.afs_num.specs.Nodes.{same_node}
use Rattle.afs_num.specs.declared.types.Node.{Node}
use Rattle.afs_num.specs.declared.types.Node.TheVariants.{Server}
use Rattle.spec_history.specs.declared.lines.Line.{Line}
use Rattle.spec_history.specs.declared.lines.Line.TheVariants as lines
use Rattle.spec_history.specs.declared.scripts.Script.{Script}
use Rattle.spec_rows.specs.Runs.{Entry}
use Rattle.spec_runs.specs.NodeRuns.{node_start, CellInput, NodeCell, NodeLeads}
use Rattle.law_places.specs.Accepting.{speaks_of, is_laid_at, accepts_behind_line, accepts_behind_lines}

-- whether the versions that come next are those of a change of this server
abbrev pub changing : Node → Bool → Line → Bool
changing server under (lines.Change n key count) = same_node n server
changing server under (lines.Version v) = under
changing server under l = false

-- The volume accepts stores at the server, or doesn't, before this line; and the versions of a change of the server come here, or not.
abbrev pub IsGoodAt : ℕ → Node → Bool → Bool → Line → Type 0
IsGoodAt id server was under (lines.Version v) = (under && nat_eq v.fid.volume id) ≡ true → was ≡ true
IsGoodAt id server was under (lines.Enable v n) = speaks_of id server v n ≡ true → was ≡ false
IsGoodAt id server was under (lines.Fence v n) = speaks_of id server v n ≡ true → was ≡ true
IsGoodAt id server was under l = ⊤

-- each of these lines, one after the other
abbrev pub AreGoodAt : ℕ → Node → Bool → Bool → List Line → Type 0
AreGoodAt id server was under [] = ⊤
AreGoodAt id server was under (l ∷ ls) = IsGoodAt id server was under l × AreGoodAt id server (accepts_behind_line id server was l) (changing server under l) ls

-- and of these entries
abbrev pub AreGoodIn : ℕ → Node → Bool → List Entry → Type 0
AreGoodIn id server was [] = ⊤
AreGoodIn id server was (e ∷ es) = AreGoodAt id server was false e.lines × AreGoodIn id server (accepts_behind_lines id server was e.lines) es

-- So stand all lines of the history, whichever volume and server they speak of.
abbrev pub StandWell : Script → List Entry → Type 0
StandWell s history = (id server : ℕ) → AreGoodIn id (Server server) (is_laid_at s id server) history

-- So it is in every run of every script, whatever its administrators do.
abbrev pub LinesStandWell : Type 0
LinesStandWell = (s : Script) (inputs : List CellInput) (history : List Entry) (end : NodeCell) → NodeLeads (node_start s) inputs history end → StandWell s history
