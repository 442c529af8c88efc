-- What comes of an input at the location database.
use Rattle.std.specs.Prelude.{◌≡◌, ◌<◌, ◌^◌, ℕ, List, Option, Some, None}
use Rattle.afs_num.specs.declared.messages.Message.{Message}
use Rattle.afs_num.specs.declared.messages.Received.TheVariants.{Whole}
use Rattle.spec_history.specs.declared.lines.Line.{Line}
use Rattle.spec_model.specs.Messages.{received}
use Rattle.spec_rows.specs.Hosts.{Fall, crashed, set_to_fail, set_to_stop, HostStep}
use Rattle.spec_rows.specs.LocRow.{LocState}
use Rattle.spec_rows.specs.LocSteps.{loc_kind, LocHost}
use Rattle.afs_host.specs.LocSeated.{loc_seat_disk, DatabaseSeat, IsLocHost, IsLocReadySeat}
use Rattle.afs_host.specs.LocSeats.{LocCanRun}
use Rattle.afs_host.specs.Serving.{HasServed}
use Rattle.afs_host.specs.Starting.{HasStarted}
use Rattle.afs_host.specs.declared.seats.Seat.TheVariants.{Down, Up}
use Rattle.afs_clients.specs.declared.happening.DatabaseInput.{DatabaseInput}
use Rattle.afs_clients.specs.declared.happening.DatabaseInput.TheVariants as database
use Rattle.afs_clients.specs.declared.happening.Happened.{Happened}
use Rattle.afs_cell.specs.SeatSteps.{DiskKeeps, Goes, Happens, SeatKind, Takes}

abbrev pub database_seat : {D : Type 0} → (D → Option (List ℕ)) → (D → List ℕ → Type 0) → (D → ℕ) → SeatKind D (DatabaseSeat D) LocState
database_seat {D} seen may_leave limit = record { disk = λ s. loc_seat_disk s; is = λ s h. IsLocHost seen may_leave limit s h; ready = λ n s. IsLocReadySeat n s }

-- the database is down
abbrev pub IsLocFallen : LocHost → Type 0
IsLocFallen h = (fall : Fall) × (h.down ≡ Some fall)

-- nothing comes of this at it
abbrev pub IsVoidAtLoc : DatabaseInput → LocHost → Type 0
IsVoidAtLoc database.Restart h = h.down ≡ None
IsVoidAtLoc input h = IsLocFallen h

-- What it makes of this, at this time in a cell of so many clients, has a step that `Is` tells of. Where its disk fails by itself, the
-- disk's count rose.
abbrev pub HasLocStep : ℕ → ℕ → DatabaseInput → LocHost → (HostStep LocState → Type 0) → Type 0 → Type 0
HasLocStep clock count (database.Crash pick) h Is rose = (h.down ≡ None) × Is (crashed loc_kind h)
HasLocStep clock count database.Restart h Is rose = (fall : Fall) × ((h.down ≡ Some fall) × HasStarted loc_kind h clock count fall Is rose)
HasLocStep clock count (database.Stop calls pick) h Is rose = (h.down ≡ None) × Is (set_to_stop loc_kind h calls pick)
HasLocStep clock count (database.Fail call) h Is rose = (h.down ≡ None) × Is (set_to_fail loc_kind h call)

-- the message of a place, by its bytes
abbrev pub HasLocHeard : ℕ → ℕ → List ℕ → LocHost → (HostStep LocState → Type 0) → Type 0 → Type 0
HasLocHeard clock place bytes h Is rose = (h.down ≡ None) × ((m : Message) → received bytes ≡ Whole m → HasServed loc_kind h clock place m Is rose)

abbrev pub LocHappens : {D : Type 0} → (D → Option (List ℕ)) → (D → List ℕ → Type 0) → (D → ℕ) → (D → ℕ) → List Line → (LocHost → Type 0) → (LocHost → (HostStep LocState → Type 0) → Type 0 → Type 0) →
    DatabaseSeat D → DatabaseSeat D → Happened → Type 0
LocHappens {D} seen may_leave faults limit front IsVoid Has old new what = Happens (database_seat seen may_leave limit) seen faults front IsVoid Has old new what

abbrev pub LocGoes : {D : Type 0} → DatabaseSeat D → DatabaseSeat D → Happened → Type 0
LocGoes {D} old new what = Goes (λ n s. IsLocReadySeat n s) old new what

abbrev pub LocKeeps : {D : Type 0} → (D → Option (List ℕ)) → (D → ℕ) → (D → ℕ) → DatabaseSeat D → DatabaseSeat D → Type 0
LocKeeps {D} seen faults limit old new = DiskKeeps seen faults limit (loc_seat_disk old) (loc_seat_disk new)

-- it can be given something
abbrev pub LocCanStep : {D : Type 0} → DatabaseSeat D → Type 0
LocCanStep {D} (Up r) = LocCanRun r × (r.store.store.disk.calls < 2 ^ 63)
LocCanStep {D} (Down s) = Unit {0}

-- it took it
abbrev pub LocTakes : {D : Type 0} → (D → Option (List ℕ)) → (D → List ℕ → Type 0) → (D → ℕ) → (D → ℕ) → List Line → (LocHost → Type 0) → (LocHost → (HostStep LocState → Type 0) → Type 0 → Type 0) →
    DatabaseSeat D → DatabaseSeat D → Happened → Type 0
LocTakes {D} seen may_leave faults limit front IsVoid Has old new what = Takes (database_seat seen may_leave limit) seen faults limit front IsVoid Has old new what
