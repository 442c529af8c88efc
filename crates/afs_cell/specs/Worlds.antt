-- The program's cell, and the cell of the definitions that it stands for.
use Rattle.std.specs.Prelude.{◌≡◌, ◌≤◌, ◌⊎◌, ◌+◌, ◌-◌, ◌^◌, ℕ, List, ◌∷◌, Bool, false, not, nat_eq, if◌then◌else◌, Option, length, map, IsSome}
use Rattle.afs_num.specs.declared.histories.Actor.{Actor}
use Rattle.afs_num.specs.declared.histories.Actor.TheVariants as actors
use Rattle.afs_num.specs.declared.types.Node.TheVariants.{Loc, Server}
use Rattle.afs_num.specs.declared.types.Parcel.{Parcel}
use Rattle.spec_history.specs.declared.lines.Entry as kept
use Rattle.spec_history.specs.declared.scripts.Script.{Script}
use Rattle.afs_grammar.specs.CellScripts.{IsCellScript}
use Rattle.spec_model.specs.Messages.{messages_spelled, parcels_read}
use Rattle.spec_copyrows.specs.Sites.{CopyState}
use Rattle.spec_adminrows.specs.AdminRow.{AdminState}
use Rattle.spec_rows.specs.Runs.{gives, starts_again, Entry, locations}
use Rattle.spec_runs.specs.NodeRuns.{bare_entry, node_start, usual, CellInput, NodeCell, NodeLeads}
use Rattle.spec_rows.specs.Hosts.{fails_early, fails_midway, gives_out}
use Rattle.afs_host.specs.LocSeated.{loc_seat_disk, DatabaseSeat, IsLocHost, IsLocReadySeat}
use Rattle.afs_serverhost.specs.Seated.{seat_disk, IsHost, IsReadySeat, ServerSeat}
use Rattle.afs_clients.specs.Places.{Each}
use Rattle.afs_text.specs.Telling.{entries_as_told, sent_by, AreRead}
use Rattle.afs_clients.specs.declared.clients.ClientSeat.{ClientSeat}
use Rattle.afs_clients.specs.Seating.{IsHanded}
use Rattle.afs_admins.specs.Seating.{IsSeated}
use Rattle.afs_admins.specs.declared.admins.AdminSeat.{AdminSeat}

-- What was told and let go: so many entries, which sent so many messages; and of the messages so many, as nothing delivers them any more.
pub record LetGo : Type 0 where
  pub entries : ℕ
  pub sent : ℕ
  pub messages : ℕ

abbrev pub none_gone : LetGo
none_gone = record { entries = 0; sent = 0; messages = 0 }

-- The script; the location database; the servers, the clients and the administrators in order of number; the messages that were sent and
-- the entries of the history, but for those that were let go; the clock; and whether memory was wanting behind a node's step, so that the cell can't go on.
pub record WorldState (D : Type 0) : Type 0 where
  pub script : Script
  pub database : DatabaseSeat D
  pub servers : List (ServerSeat D)
  pub clients : List ClientSeat
  pub admins : List AdminSeat
  pub wire : List Parcel
  pub history : List kept.Entry
  pub gone : LetGo
  pub clock : ℕ
  pub is_lost : Bool

-- the messages that were sent, and the entries of the history
pub record HistoryTold : Type 0 where
  pub wire : List Parcel
  pub history : List kept.Entry

-- ---- the cell

-- a client's seat has the state that the cell has, and is away where the cell has it away
pub record IsClient (s : ClientSeat) (state : CopyState) (away : Bool) : Type 0 where
  pub state_is : s.client.state ≡ state
  pub away_is : s.is_away ≡ away

-- and an administrator's
pub record IsAdmin (s : AdminSeat) (state : AdminState) (gone : Bool) : Type 0 where
  pub state_is : s.mover.state ≡ state
  pub gone_is : s.is_away ≡ gone

-- The cell that the world stands for.
pub record IsCell {D : Type 0} (seen : D → Option (List ℕ)) (may_leave : D → List ℕ → Type 0) (limit : D → ℕ) (w : WorldState D) (c : NodeCell) : Type 0 where
  pub loc : IsLocHost seen may_leave limit w.database c.loc
  pub host_count : c.host_count ≡ length w.servers
  pub hosts : Each (λ (i : ℕ) (s : ServerSeat D). IsHost seen may_leave limit (Server i) s (c.hosts i)) w.servers
  pub count : c.count ≡ length w.clients
  pub clients : Each (λ (n : ℕ) (s : ClientSeat). IsClient s (c.clients n) (c.away n)) w.clients
  pub sent : parcels_read w.wire ≡ messages_spelled c.sent
  pub clock : c.clock ≡ w.clock
  pub handed : c.handed ≡ locations w.script
  pub admin_count : c.admin_count ≡ length w.admins
  pub admins : Each (λ (n : ℕ) (s : AdminSeat). IsAdmin s (c.admins n) (c.gone n)) w.admins

-- ---- what the next input may rely on

-- A client can be given what comes next, too: no step makes more than one call, or begins more than one epoch.
pub record IsReadyClient (s : Script) (n entries : ℕ) (seat : ClientSeat) : Type 0 where
  pub handed : IsHanded s n seat
  pub epoch : seat.epoch ≤ entries + 1
  pub last : seat.client.state.client.last ≤ entries

-- and an administrator
pub record IsReadyAdmin (s : Script) (n entries : ℕ) (seat : AdminSeat) : Type 0 where
  pub seated : IsSeated s n seat
  pub epoch : seat.epoch ≤ entries + 1
  pub last : seat.mover.state.last ≤ entries

-- ---- disks

-- the database's disk tells its bytes, and so does each server's
abbrev pub AllTell : {D : Type 0} → (D → Option (List ℕ)) → WorldState D → Type 0
AllTell {D} seen w = IsSome (seen (loc_seat_disk w.database)) × Each (λ (i : ℕ) (s : ServerSeat D). IsSome (seen (seat_disk s))) w.servers

-- each has room for so many bytes
abbrev pub AllHold : {D : Type 0} → (D → ℕ) → ℕ → WorldState D → Type 0
AllHold {D} limit capacity w = (limit (loc_seat_disk w.database) ≡ capacity) × Each (λ (i : ℕ) (s : ServerSeat D). limit (seat_disk s) ≡ capacity) w.servers

-- so many, as far as a counter can count
abbrev pub IsCounted : ℕ → ℕ → Type 0
IsCounted n count = (n ≤ count) ⊎ (2 ^ 64 - 1 ≤ count)

-- each disk counts so many faults as are its own here: the database's has number 0, the servers' have theirs
abbrev pub Counts : {D : Type 0} → (D → ℕ) → (ℕ → ℕ) → WorldState D → Type 0
Counts {D} faults own w = IsCounted (own 0) (faults (loc_seat_disk w.database)) × Each (λ (i : ℕ) (s : ServerSeat D). IsCounted (own i) (faults (seat_disk s))) w.servers

-- the disk of a node fails by itself with this input
abbrev pub own_failures : CellInput → ℕ
own_failures (usual (gives place (gives_out call))) = 1
own_failures (usual (starts_again i after fails_early)) = 1
own_failures (usual (starts_again i after fails_midway)) = 1
own_failures x = 0

-- Whether this is a node with a disk, and another than that of this number. The database has number 0.
abbrev pub is_other_node : ℕ → Actor → Bool
is_other_node i (actors.Node Loc) = not (nat_eq 0 i)
is_other_node i (actors.Node (Server j)) = not (nat_eq j i)
is_other_node i actor = false

-- The disk of the node of this number fails by itself with this input, which made this entry. Where the entry is of no node with a disk,
-- such a failure counts for each.
abbrev pub falls_at : ℕ → CellInput → Entry → ℕ
falls_at i x e = if is_other_node i e.actor then 0 else own_failures x

-- how often it failed by itself with these inputs, each of which made an entry
abbrev pub own_falls : ℕ → List CellInput → List Entry → ℕ
own_falls i (x ∷ xs) (e ∷ es) = falls_at i x e + own_falls i xs es
own_falls i xs es = 0

-- ---- what every world is, between any two of its steps

abbrev pub most_history_entries : ℕ
most_history_entries = 4194304

abbrev pub most_ticks : ℕ
most_ticks = 1000000000

-- whatever its disks tell
pub record IsSafe {D : Type 0} (limit : D → ℕ) (s : Script) (w : WorldState D) : Type 0 where
  pub script : w.script ≡ s
  pub cell_script : IsCellScript s
  pub admin_count : length w.admins ≡ s.admins
  pub server_count : length w.servers ≡ s.servers
  pub client_count : length w.clients ≡ s.clients
  pub database : w.is_lost ≡ false → IsLocReadySeat (length w.history) w.database
  pub servers : w.is_lost ≡ false → Each (λ (i : ℕ) (seat : ServerSeat D). IsReadySeat (Server i) (length w.history) seat) w.servers
  pub clients : w.is_lost ≡ false → Each (λ (n : ℕ) (seat : ClientSeat). IsReadyClient s n (length w.history) seat) w.clients
  pub admins : w.is_lost ≡ false → Each (λ (n : ℕ) (seat : AdminSeat). IsReadyAdmin s n (length w.history) seat) w.admins
  pub disks : AllHold limit s.capacity w
  pub sent : sent_by w.history ≡ length w.wire
  pub entries : length w.history ≤ most_history_entries
  pub ticks : w.clock ≤ most_ticks

-- These inputs lead from the script's set-up through a history to this cell, and the world stands for it. What the world tells is that
-- history but for volumes that a step brings. Each time that a disk failed by itself is counted by that disk.
pub record Runs {D : Type 0} (seen : D → Option (List ℕ)) (may_leave : D → List ℕ → Type 0) (faults limit : D → ℕ) (s : Script) (w : WorldState D) (inputs : List CellInput) (cell : NodeCell) : Type 0 where
  pub history : List Entry
  pub leads : NodeLeads (node_start s) inputs history cell
  pub tells : map bare_entry history ≡ entries_as_told w.wire w.history
  pub read : AreRead w.wire
  pub cell_is : w.is_lost ≡ false → IsCell seen may_leave limit w cell
  pub counts : Counts faults (λ (i : ℕ). own_falls i inputs (entries_as_told w.wire w.history)) w

pub record HasRun {D : Type 0} (seen : D → Option (List ℕ)) (may_leave : D → List ℕ → Type 0) (faults limit : D → ℕ) (s : Script) (w : WorldState D) : Type 0 where
  pub inputs : List CellInput
  pub cell : NodeCell
  pub runs : Runs seen may_leave faults limit s w inputs cell

-- Where the disks tell, what the world tells is a run of its script.
pub record IsWorld {D : Type 0} (seen : D → Option (List ℕ)) (may_leave : D → List ℕ → Type 0) (faults limit : D → ℕ) (s : Script) (w : WorldState D) : Type 0 where
  pub safe : IsSafe limit s w
  pub run : AllTell seen w → HasRun seen may_leave faults limit s w
