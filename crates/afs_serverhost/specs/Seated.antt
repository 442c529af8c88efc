-- The place of a server node: the host that it is, up or down, its disk, and what the next input may rely on.
use Rattle.std.specs.Prelude.{◌≡◌, ◌≤◌, ◌+◌, ◌*◌, ℕ, List, Option, length}
use Rattle.afs_num.specs.declared.types.Node.{Node}
use Rattle.spec_volrows.specs.NodeHosts.{NodeHost}
use Rattle.afs_host.specs.Seats.{Resting}
use Rattle.afs_serverhost.specs.Seats.{CanRun, IsDown, IsUp, ServerRunning}
use Rattle.afs_host.specs.declared.seats.Seat.{Seat}
use Rattle.afs_host.specs.declared.seats.Seat.TheVariants.{Up, Down}

abbrev pub ServerSeat : Type 0 → Type 0
ServerSeat D = Seat (ServerRunning D) (Resting D)

-- the server that is this node is the host, up or down
abbrev pub IsHost : {D : Type 0} → (D → Option (List ℕ)) → (D → List ℕ → Type 0) → (D → ℕ) → Node → ServerSeat D → NodeHost → Type 0
IsHost {D} seen may_leave limit me (Up r) h = IsUp r h
IsHost {D} seen may_leave limit me (Down s) h = IsDown seen may_leave limit me s h

-- A server can be given what comes next, in a history of so many entries: no step draws more than so many numbers, nor makes more
-- than four device calls; setting up makes at most twelve, a restart ten.
pub record IsReady {D : Type 0} (me : Node) (entries : ℕ) (r : ServerRunning D) : Type 0 where
  pub node : r.store.node ≡ me
  pub can_run : CanRun r
  pub calls_drawn : r.store.drawn ≤ 204 * (entries + 1)
  pub breaks_drawn : r.memory.file.lists.last_owed + length r.memory.file.lists.promises ≤ 50 * (entries + 1)
  pub device_calls : r.store.disk.calls ≤ 12 + 4 * entries

abbrev pub IsReadySeat : {D : Type 0} → Node → ℕ → ServerSeat D → Type 0
IsReadySeat {D} me entries (Up r) = IsReady me entries r
IsReadySeat {D} me entries (Down s) = Unit {0}

abbrev pub seat_disk : {D : Type 0} → ServerSeat D → D
seat_disk {D} (Up r) = r.store.disk.disk
seat_disk {D} (Down s) = s.disk
