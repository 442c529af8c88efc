-- The location database and the servers of a cell at set-up, and the disks that a refused set-up hands back.
use Rattle.std.specs.Prelude.{◌≡◌, ◌≤◌, ◌+◌, ℕ, List, [], ◌∷◌, false, None, Option}
use Rattle.afs_num.specs.declared.types.Node.TheVariants.{Server}
use Rattle.spec_history.specs.declared.scripts.Script.{Script}
use Rattle.afs_disk.specs.Disk.{Rose}
use Rattle.afs_disk.specs.Fuses.{Fused}
use Rattle.afs_disk.specs.declared.disks.Lent.{Lent}
use Rattle.spec_rows.specs.Runs.{first_lasting, first_stored, first_volumes_at}
use Rattle.spec_runs.specs.NodeRuns.{first_node}
use Rattle.spec_rows.specs.States.{durable_of}
use Rattle.afs_volstore.specs.Stores.{IsKept, Store}
use Rattle.afs_locstore.specs.LocFold.{loc_fold}
use Rattle.afs_store.specs.Stores as kept
use Rattle.afs_host.specs.LocSeated.{DatabaseSeat}
use Rattle.afs_host.specs.LocSeats.{loc_disk_of, DatabaseRunning}
use Rattle.afs_serverhost.specs.Seats.{disk_of, IsUp, ServerRunning}
use Rattle.afs_host.specs.declared.seats.Seat.TheVariants.{Down, Up}
use Rattle.afs_cell.specs.Ends.{IsLeftAt}
use Rattle.afs_cell.specs.Founding.{IsFirstDatabase}
use Rattle.afs_serverhost.specs.Seated.{IsReady, ServerSeat}
use Rattle.afs_cell.specs.declared.faults.SetupFault.{SetupFault}
use Rattle.afs_cell.specs.declared.faults.SetupFault.TheVariants as setup

-- ---- one server

-- A server's store at set-up, over the disk that was lent for it.
pub record IsFirstStore {D : Type 0} (seen : D → Option (List ℕ)) (may_leave : D → List ℕ → Type 0) (faults limit : D → ℕ) (s : Script) (i : ℕ) (old : D) (t : Store (Fused D)) : Type 0 where
  pub durable_is : t.durable ≡ durable_of (first_lasting s.capacity (first_stored (first_volumes_at i s.volumes)))
  pub rest : t ≡ record { durable = t.durable; disk = t.disk; node = Server i; prepared = None; closed = false; count = 1; drawn = 0; holds = t.holds }
  pub free : t.holds.table ≡ []
  pub unset : (t.disk.stop ≡ None) × (t.disk.fail ≡ None)
  pub few : t.disk.calls ≤ 12
  pub same_limit : limit t.disk.disk ≡ limit old
  pub quiet : faults t.disk.disk ≡ faults old
  pub left : IsLeftAt seen may_leave s i old t.disk.disk

-- A server at set-up, over that disk.
pub record IsFirstServer {D : Type 0} (seen : D → Option (List ℕ)) (may_leave : D → List ℕ → Type 0) (faults limit : D → ℕ) (s : Script) (i : ℕ) (old : D) (r : ServerRunning D) : Type 0 where
  pub ready : IsReady (Server i) 0 r
  pub host : IsUp r (first_node s i)
  pub same_limit : limit (disk_of r) ≡ limit old
  pub quiet : faults (disk_of r) ≡ faults old
  pub left : IsLeftAt seen may_leave s i old (disk_of r)

-- why a server's disk couldn't be set up: it failed; or memory ran out, and it didn't
abbrev pub IsCausedAt : {D : Type 0} → (D → ℕ) → ℕ → SetupFault → D → D → Type 0
IsCausedAt {D} faults i (setup.Disk n) old new = (n ≡ Server i) × Rose (faults old) (faults new)
IsCausedAt {D} faults i setup.OutOfMemory old new = faults new ≡ faults old

-- a disk that is handed back
pub record IsBack {D : Type 0} (seen : D → Option (List ℕ)) (may_leave : D → List ℕ → Type 0) (faults limit : D → ℕ) (s : Script) (i : ℕ) (old new : D) : Type 0 where
  pub same_limit : limit new ≡ limit old
  pub no_fewer : faults old ≤ faults new
  pub left : IsLeftAt seen may_leave s i old new

pub record IsRefusedAt {D : Type 0} (seen : D → Option (List ℕ)) (may_leave : D → List ℕ → Type 0) (faults limit : D → ℕ) (s : Script) (i : ℕ) (old : D) (e : SetupFault × D) : Type 0 where
  pub cause : IsCausedAt faults i e.0 old e.1
  pub back : IsBack seen may_leave faults limit s i old e.1

-- ---- all servers

abbrev pub IsFirstSeat : {D : Type 0} → (D → Option (List ℕ)) → (D → List ℕ → Type 0) → (D → ℕ) → (D → ℕ) → Script → ℕ → D → ServerSeat D → Type 0
IsFirstSeat {D} seen may_leave faults limit s i old (Up r) = IsFirstServer seen may_leave faults limit s i old r
IsFirstSeat {D} seen may_leave faults limit s i old (Down r) = ⊥

-- these seats are those over the first of the disks, from this number on, and the rest of these are to come
abbrev pub AreFirstSeats : {D : Type 0} → (D → Option (List ℕ)) → (D → List ℕ → Type 0) → (D → ℕ) → (D → ℕ) → Script → ℕ → List (Lent D) → List (ServerSeat D) → List (Lent D) → Type 0
AreFirstSeats {D} seen may_leave faults limit s i ls [] rest = ls ≡ rest
AreFirstSeats {D} seen may_leave faults limit s i [] (seat ∷ seats) rest = ⊥
AreFirstSeats {D} seen may_leave faults limit s i (l ∷ ls) (seat ∷ seats) rest = IsFirstSeat seen may_leave faults limit s i l.disk seat × AreFirstSeats seen may_leave faults limit s (i + 1) ls seats rest

-- these are the database and the seats of the servers over these disks, of which the first is the database's
abbrev pub AreFirstHosts : {D : Type 0} → (D → Option (List ℕ)) → (D → List ℕ → Type 0) → (D → ℕ) → (D → ℕ) → Script → List (Lent D) → DatabaseRunning D → List (ServerSeat D) → Type 0
AreFirstHosts {D} seen may_leave faults limit s [] database seats = ⊥
AreFirstHosts {D} seen may_leave faults limit s (l ∷ ls) database seats = IsFirstDatabase seen may_leave faults limit s l.disk database × AreFirstSeats seen may_leave faults limit s 1 ls seats []

-- each server's disk is handed back, in order of number from this one on
abbrev pub AreBack : {D : Type 0} → (D → Option (List ℕ)) → (D → List ℕ → Type 0) → (D → ℕ) → (D → ℕ) → Script → ℕ → List (Lent D) → List (Lent D) → Type 0
AreBack {D} seen may_leave faults limit s i [] [] = Unit {0}
AreBack {D} seen may_leave faults limit s i (a ∷ olds) (b ∷ news) = (b.node ≡ a.node) × (IsBack seen may_leave faults limit s i a.disk b.disk × AreBack seen may_leave faults limit s (i + 1) olds news)
AreBack {D} seen may_leave faults limit s i olds news = ⊥

-- ---- what a server's place holds

-- The disk of a server that is up stands for what its store keeps, of the capacity that it has.
abbrev pub IsKeptSeat : {D : Type 0} → (D → Option (List ℕ)) → (D → List ℕ → Type 0) → (D → ℕ) → ServerSeat D → Type 0
IsKeptSeat {D} seen may_leave limit (Up r) = (r.store.closed ≡ false → IsKept r.store.durable (seen (disk_of r)) (may_leave (disk_of r))) × (r.store.durable.capacity ≡ limit (disk_of r))
IsKeptSeat {D} seen may_leave limit (Down r) = Unit {0}

abbrev pub AreKeptSeats : {D : Type 0} → (D → Option (List ℕ)) → (D → List ℕ → Type 0) → (D → ℕ) → List (ServerSeat D) → Type 0
AreKeptSeats {D} seen may_leave limit [] = Unit {0}
AreKeptSeats {D} seen may_leave limit (s ∷ ss) = IsKeptSeat seen may_leave limit s × AreKeptSeats seen may_leave limit ss

-- so it is of the location database
abbrev pub IsLocKeptSeat : {D : Type 0} → (D → Option (List ℕ)) → (D → List ℕ → Type 0) → (D → ℕ) → DatabaseSeat D → Type 0
IsLocKeptSeat {D} seen may_leave limit (Up r) = (r.store.store.closed ≡ false → kept.IsKept loc_fold r.store.store.durable (seen (loc_disk_of r)) (may_leave (loc_disk_of r))) × (r.store.store.durable.capacity ≡ limit (loc_disk_of r))
IsLocKeptSeat {D} seen may_leave limit (Down s) = Unit {0}
