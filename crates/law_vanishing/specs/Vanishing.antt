-- Where read-write volumes vanish, as the lines of a history tell it: not where the location database has them.
use Rattle.std.specs.Prelude.{◌≡◌, ◌⊎◌, ◌≤◌, ℕ, List, [], ◌∷◌, Bool, ◌&&◌, ◌||◌, Some, true, false, nat_eq, slice_get, take}
use Rattle.std.specs.List.{list_any}
use Rattle.afs_num.specs.declared.histories.Actor.TheVariants as actors
use Rattle.afs_num.specs.declared.types.Node.{Node}
use Rattle.afs_num.specs.declared.types.Node.TheVariants.{Server}
use Rattle.spec_history.specs.declared.lines.Line.{Line}
use Rattle.spec_history.specs.declared.lines.Line.TheVariants as lines
use Rattle.spec_history.specs.declared.scripts.Script.{Script}
use Rattle.spec_ideal.specs.Tables.{Table}
use Rattle.spec_records.specs.Durable.{is_flagged, Stored}
use Rattle.spec_rows.specs.Hosts.{begun_from, Fall}
use Rattle.spec_rows.specs.Runs.{Entry}
use Rattle.spec_volrows.specs.NodeHosts.{node_kind}
use Rattle.spec_runs.specs.NodeRuns.{node_start, CellInput, NodeCell, NodeLeads}
use Rattle.law_places.specs.Accepting.{cell_behind, speaks_of}
use Rattle.law_numbers.specs.Numbers.{IsNumbered}
use Rattle.law_one_server.specs.Knows.{listed_site}
use Rattle.law_vanishing.specs.Deletions.{IsDelete, IsLetGo}

-- ---- by the lines

-- the line tells that the volume is deleted at the server
abbrev pub is_vanish : ℕ → Node → Line → Bool
is_vanish volume server (lines.Vanish v n) = speaks_of volume server v n
is_vanish volume server l = false

-- one of them does
abbrev pub tells_vanish : ℕ → Node → List Line → Bool
tells_vanish volume server [] = false
tells_vanish volume server (l ∷ ls) = is_vanish volume server l || tells_vanish volume server ls

-- ---- the law

-- Behind these inputs a call that was sent asks the server to delete the volume, and would run there. The database doesn't put the volume there,
-- unless the act that asks lets its volume go.
pub record IsAskedWell (s : Script) (inputs : List CellInput) (server volume : ℕ) : Type 0 where
  pub asked : IsDelete (cell_behind (node_start s) inputs) server volume
  pub elsewhere : IsLetGo s inputs asked.m ⊎ (listed_site (cell_behind (node_start s) inputs) volume ≡ Some server → ⊥)

-- a read-write volume of this number that goes as the server begins again: it has the flag for that, as one has that was made and isn't filled yet
abbrev pub goes_at_start : ℕ → ℕ × Stored → Bool
goes_at_start volume p = nat_eq p.0 volume && (is_flagged p.1 && nat_eq p.1.volume.kind 0)

abbrev pub has_flagged : ℕ → Table Stored → Bool
has_flagged volume volumes = list_any (goes_at_start volume) volumes

-- The server is down, and has such a volume: before the step that was interrupted, or behind it, as its disk may be found.
pub record IsUnfilled (c : NodeCell) (server volume : ℕ) : Type 0 where
  pub after : Bool
  pub fall : Fall
  pub down : (c.hosts server).down ≡ Some fall
  pub flagged : (has_flagged volume (c.hosts server).state.file.lasting.volumes ≡ true) ⊎ (has_flagged volume (begun_from (node_kind (Server server)) (c.hosts server).state after fall).state.file.lasting.volumes ≡ true)

-- Wherever a server tells that a read-write volume vanishes there, it is so before the entry: a call asked for it, as above, or the server begins
-- again with the volume so flagged.
abbrev pub VanishElsewhere : Script → List CellInput → List Entry → Type 0
VanishElsewhere s inputs history = (k volume server : ℕ) (e : Entry) → slice_get history k ≡ Some e → e.actor ≡ actors.Node (Server server) → tells_vanish volume (Server server) e.lines ≡ true →
    IsAskedWell s (take k inputs) server volume ⊎ IsUnfilled (cell_behind (node_start s) (take k inputs)) server volume

-- So it is in every run of every script that has a server, and whose volumes are numbered one after the other.
abbrev pub VolumesVanishElsewhere : Type 0
VolumesVanishElsewhere = (s : Script) (inputs : List CellInput) (history : List Entry) (end : NodeCell) → IsNumbered s → 1 ≤ s.servers → NodeLeads (node_start s) inputs history end → VanishElsewhere s inputs history
