-- What becomes of a location database that was down and begins again.
use Rattle.std.specs.Prelude.{◌≡◌, ◌≤◌, ◌⊎◌, ◌+◌, ℕ, List, [], ◌∷◌, ◌++◌}
use Rattle.afs_num.specs.declared.records.Mark.{Mark}
use Rattle.afs_num.specs.declared.types.Node.TheVariants.{Loc}
use Rattle.spec_history.specs.declared.lines.Line.{Line}
use Rattle.spec_history.specs.declared.lines.Line.TheVariants as lines
use Rattle.spec_history.specs.declared.lines.Outs.{Outs}
use Rattle.afs_disk.specs.Disk.{Rose}
use Rattle.afs_disk.specs.Fuses.{Fused}
use Rattle.afs_disk.specs.declared.disk.Disk.{Ghosts}
use Rattle.spec_records.specs.LocDurable.{LocDurable}
use Rattle.spec_rows.specs.Hosts.{unarmed}
use Rattle.spec_rows.specs.LocRow.{LocState}
use Rattle.spec_rows.specs.LocSteps.{loc_kind, loc_start_row, LocHost}
use Rattle.spec_rows.specs.Steps.{Begun}
use Rattle.afs_locdb.specs.Seen.{loc_seen, Database}
use Rattle.afs_host.specs.LocSeats.{loc_disk_of, DatabaseRunning, IsLocDown, IsLocStepDown, IsLocStepUp, LocCanRun}
use Rattle.afs_host.specs.LocStanding.{loc_keeping}
use Rattle.afs_host.specs.Seats.{Resting}
use Rattle.afs_host.specs.Starting.{BootsBy, BootsOverBy, HasFoundOver, HasStarted, IsRefusedOver, Sight}
use Rattle.afs_host.specs.Views.{shown_database}
use Rattle.afs_host.specs.declared.starting.Start.{Start}
use Rattle.afs_host.specs.declared.starting.Start.TheVariants as starts

abbrev pub LocStart : Type 0 → Type 0
LocStart D = Start (DatabaseRunning D) (Resting D)

-- the disk, whatever became of the database
abbrev pub loc_disk_started : {D : Type 0} → LocStart D → D
loc_disk_started {D} (starts.Up r outs) = loc_disk_of r
loc_disk_started {D} (starts.Down s ls) = s.disk
loc_disk_started {D} (starts.Unchanged s) = s.disk
loc_disk_started {D} (starts.Lost s) = s.disk

-- The database is up, and gave this out; or it stays down, and told this. Or memory ran out, and it is what it was. Memory for all that it
-- tells is taken before the record of its boot is begun, so it is never lost behind that.
abbrev pub IsLocStarted : {D : Type 0} → Ghosts D → Resting D → LocStart D → Type 0
IsLocStarted {D} w old (starts.Up r outs) =
    (h : LocHost) (was : IsLocDown w.seen w.may_leave w.limit old h) (clock count : ℕ) → HasStarted loc_kind h clock count was.fall (IsLocStepUp r [] outs) (Rose (w.faults old.disk) (w.faults (loc_disk_of r)))
IsLocStarted {D} w old (starts.Down s ls) =
    (h : LocHost) (was : IsLocDown w.seen w.may_leave w.limit old h) (clock count : ℕ) → HasStarted loc_kind h clock count was.fall (IsLocStepDown w.seen w.may_leave w.limit s ls) (Rose (w.faults old.disk) (w.faults s.disk))
IsLocStarted {D} w old (starts.Unchanged s) =
    (h : LocHost) → IsLocDown w.seen w.may_leave w.limit old h → IsLocDown w.seen w.may_leave w.limit s h
IsLocStarted {D} w old (starts.Lost s) = ⊥

-- ---- whatever the disk tells

-- it is never lost behind the record of its boot
abbrev pub loc_sight : {D : Type 0} → Sight (Unit {0}) (Database (Fused D)) D LocState
loc_sight {D} = record { state = λ none b. loc_seen b; shown = λ b. shown_database b; Lost = λ s. ⊥ }

-- so it boots over what was found
abbrev pub LocBootsOver : {D : Type 0} → Ghosts D → LocDurable → List Line → ℕ → LocStart D → Type 0
LocBootsOver {D} w d front before result = BootsOverBy loc_keeping loc_sight w loc_start_row d front before result

abbrev pub LocHasFoundOver : {D : Type 0} → Ghosts D → Resting D → LocStart D → Type 0
LocHasFoundOver {D} w old result = HasFoundOver loc_keeping loc_sight w loc_start_row old result

-- So it is also of a disk that doesn't tell its bytes. Of such a one nothing else is said of what was found on it.
abbrev pub LocStartsOver : {D : Type 0} → Ghosts D → Resting D → LocStart D → Type 0
LocStartsOver {D} w old (starts.Up r outs) = LocHasFoundOver w old (starts.Up r outs)
LocStartsOver {D} w old (starts.Down s ls) = IsRefusedOver loc_keeping w old s ls ⊎ LocHasFoundOver w old (starts.Down s ls)
LocStartsOver {D} w old (starts.Unchanged s) = w.faults s.disk ≡ w.faults old.disk
LocStartsOver {D} w old (starts.Lost s) = ⊥

-- ---- what comes next

-- it made at most ten device calls
pub record IsLocFresh {D : Type 0} (r : DatabaseRunning D) : Type 0 where
  pub can_run : LocCanRun r
  pub device_calls : r.store.store.disk.calls ≤ 10

-- a database that is up can be given what comes next, whatever its disk tells
abbrev pub LocGoesOnStarted : {D : Type 0} → Resting D → LocStart D → Type 0
LocGoesOnStarted {D} old (starts.Up r outs) = IsLocFresh r
LocGoesOnStarted {D} old (starts.Down s ls) = Unit {0}
LocGoesOnStarted {D} old (starts.Unchanged s) = s.mark ≡ old.mark
LocGoesOnStarted {D} old (starts.Lost s) = ⊥

-- ---- the parts of a restart

-- The database is up over its store, whose boot has begun: it tells these lines first and then that it is up.
pub record LocHasRisen {D : Type 0} (b : Database (Fused D)) (front : List Line) (r : DatabaseRunning D) (outs : Outs) : Type 0 where
  pub store : r.store ≡ b
  pub armed : r.armed ≡ unarmed
  pub can_run : LocCanRun r
  pub lines_are : outs.lines ≡ front ++ lines.Restart Loc b.store.durable.boot ∷ []
  pub sent : outs.parcels ≡ []

abbrev pub LocRises : {D : Type 0} → Database (Fused D) → List Line → LocStart D → Type 0
LocRises {D} b front (starts.Up r outs) = LocHasRisen b front r outs
LocRises {D} b front (starts.Down d ls) = ⊥
LocRises {D} b front (starts.Unchanged d) = ⊥
LocRises {D} b front (starts.Lost d) = ⊥

-- The record of the boot was put on the disk, or the database stays down, over a store that was made of its disk.
abbrev pub LocBootsFrom : {D : Type 0} → Ghosts D → Begun LocState → List (List ℕ) → D → LocStart D → Type 0
LocBootsFrom {D} w begun records disk result = BootsBy loc_keeping loc_sight w loc_start_row begun records disk result

-- whatever the disk tells
abbrev pub LocGoesOnBooted : {D : Type 0} → Database (Fused D) → Mark → LocStart D → Type 0
LocGoesOnBooted {D} b told (starts.Up r outs) = LocCanRun r × (r.store.store.disk.calls ≤ b.store.disk.calls + 4)
LocGoesOnBooted {D} b told (starts.Down d ls) = Unit {0}
LocGoesOnBooted {D} b told (starts.Unchanged d) = d.mark ≡ told
LocGoesOnBooted {D} b told (starts.Lost d) = ⊥
