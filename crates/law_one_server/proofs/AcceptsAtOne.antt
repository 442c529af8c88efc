-- Where volumes are in service only where the database puts them, they accept stores at one server at most, as the lines of a history tell it.
use Rattle.std.proofs.Common.{◌≡◌, ◌≤◌, ℕ, List, Option, Some, None, true, take, refl, sym, ap, subst, ◌∙◌}
use Rattle.afs_num.specs.declared.types.Node.{Node}
use Rattle.afs_num.specs.declared.types.Node.TheVariants.{Server}
use Rattle.spec_history.specs.declared.scripts.Script.{Script}
use Rattle.spec_ideal.specs.Tables.{get}
use Rattle.spec_records.specs.LocRecords.{Listed}
use Rattle.spec_rows.specs.Runs.{Entry}
use Rattle.spec_runs.specs.NodeRuns.{node_start, CellInput, NodeCell, NodeLeads}
use Rattle.law_places.specs.Accepting.{accepts, cell_behind}
use Rattle.law_places.proofs.Walk.{accepted_as_told}
use Rattle.law_stamps.specs.Told.{entries_in, home_by, home_listed, place_by_lines}
use Rattle.law_stamps.proofs.ToldWalk.{entries_are_told}
use Rattle.law_families.proofs.FirstEntries.{first_entered, IsEntered}
use Rattle.law_numbers.specs.Numbers.{IsNumbered}
use Rattle.law_one_server.specs.Accepts.{AcceptsAtOne, VolumesAcceptAtOne}
use Rattle.law_one_server.specs.Knows.{site_by, AreClosed}

home_is : (o : Option Listed) (i : ℕ) → site_by o ≡ Some i → home_listed o ≡ Some (Server i)
home_is None i is = absurd cc
home_is (Some l) i is = ap home_by is

server_is : (i j : ℕ) → Some (Server i) ≡ Some (Server j) → i ≡ j
server_is i j e = cc

pub accepts_at_one : ((s : Script) (inputs : List CellInput) → IsNumbered s → 1 ≤ s.servers → AreClosed (cell_behind (node_start s) inputs)) → VolumesAcceptAtOne
accepts_at_one closed s inputs history end numbered servers leads =
    let named : (n volume server : ℕ) → accepts s (take n history) volume server ≡ true → place_by_lines s (take n history) volume ≡ Some (Server server) =
    λ n volume server is.
    let c : NodeCell = cell_behind (node_start s) (take n inputs) in
    entries_are_told.sites s inputs history end leads n volume (Server server)
    (home_is (get volume (entries_in c)) server (closed s (take n inputs) numbered servers volume server (sym (accepted_as_told s inputs history end leads n volume server) ∙ is))) in
    record { located = named; one = λ n volume i j at_i at_j. server_is i j (sym (named n volume i at_i) ∙ named n volume j at_j) }

-- ---- at first

-- a script's last line of a volume is the one that counts, for servers and for the database
pub first_closed : (s : Script) → AreClosed (node_start s)
first_closed s volume server is = let e : IsEntered (entries_in (node_start s)) volume server = first_entered s volume server is in ap site_by e.there ∙ e.names
