-- The location database as a node with its disk, up or down, and the host of the cell that it stands for.
use Rattle.std.specs.Prelude.{◌≡◌, ◌≤◌, ◌+◌, ℕ, List, false, Option}
use Rattle.spec_history.specs.declared.lines.Line.{Line}
use Rattle.spec_history.specs.declared.lines.Outs.{Outs}
use Rattle.afs_disk.specs.Fuses.{Fused}
use Rattle.afs_disk.specs.Words.{SameDiskBy}
use Rattle.afs_disk.specs.declared.disk.Disk.{Ghosts}
use Rattle.spec_rows.specs.Hosts.{HostStep}
use Rattle.spec_rows.specs.LocRow.{LocState}
use Rattle.spec_rows.specs.LocSteps.{LocHost}
use Rattle.afs_locdb.specs.Handling.{IsUntouched}
use Rattle.afs_locdb.specs.Seen.{loc_seen, Database, Serves}
use Rattle.afs_host.specs.LocStanding.{loc_keeping}
use Rattle.afs_host.specs.Seats.{IsHostDown, IsHostStepDown, IsHostStepUp, IsHostUp, Resting, Running}
use Rattle.afs_host.specs.Setting.{IsSet}

-- all that it has in memory is in its store
abbrev pub DatabaseRunning : Type 0 → Type 0
DatabaseRunning D = Running (Unit {0}) (Database (Fused D))

-- the disk behind the fuse
abbrev pub loc_disk_of : {D : Type 0} → DatabaseRunning D → D
loc_disk_of {D} r = r.store.store.disk.disk

-- ---- its host

abbrev pub IsLocUp : {D : Type 0} → DatabaseRunning D → LocHost → Type 0
IsLocUp {D} r h = IsHostUp (λ (none : Unit {0}) (b : Database (Fused D)). loc_seen b) r h

abbrev pub IsLocDown : {D : Type 0} → (D → Option (List ℕ)) → (D → List ℕ → Type 0) → (D → ℕ) → Resting D → LocHost → Type 0
IsLocDown {D} seen may_leave limit s h = IsHostDown seen may_leave limit loc_keeping s h

abbrev pub IsLocStepUp : {D : Type 0} → DatabaseRunning D → List Line → Outs → HostStep LocState → Type 0
IsLocStepUp {D} r before outs s = IsHostStepUp (λ (none : Unit {0}) (b : Database (Fused D)). loc_seen b) r before outs s

abbrev pub IsLocStepDown : {D : Type 0} → (D → Option (List ℕ)) → (D → List ℕ → Type 0) → (D → ℕ) → Resting D → List Line → HostStep LocState → Type 0
IsLocStepDown {D} seen may_leave limit r told s = IsHostStepDown seen may_leave limit loc_keeping r told s

-- ---- what its next call relies on

pub record LocCanRun {D : Type 0} (r : DatabaseRunning D) : Type 0 where
  pub up : r.store.store.closed ≡ false
  pub serves : Serves r.store
  pub set : IsSet r.armed r.store.store.disk

-- it goes on, and made at most so many device calls
pub record LocGoesOn {D : Type 0} (calls : ℕ) (old new : DatabaseRunning D) : Type 0 where
  pub can_run : LocCanRun new
  pub device_calls : new.store.store.disk.calls ≤ old.store.store.disk.calls + calls

-- nothing changed but a record that was prepared and the room of the disk, to which no device call came
pub record IsLocSame {D : Type 0} (w : Ghosts D) (old new : DatabaseRunning D) : Type 0 where
  pub armed : new.armed ≡ old.armed
  pub store : IsUntouched old.store new.store
  pub calls : new.store.store.disk.calls ≡ old.store.store.disk.calls
  pub disk : SameDiskBy w (loc_disk_of old) (loc_disk_of new)
