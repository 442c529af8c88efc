-- The location database at set-up.
use Rattle.std.specs.Prelude.{◌≡◌, ◌≤◌, ◌↔◌, ℕ, List, [], Option, Some, IsSome}
use Rattle.afs_num.specs.declared.types.Node.TheVariants.{Loc}
use Rattle.spec_history.specs.declared.scripts.Script.{Script}
use Rattle.afs_disk.specs.Disk.{LeavesJust, Rose}
use Rattle.spec_runs.specs.NodeRuns.{node_start}
use Rattle.afs_locdb.specs.Creating.{IsSetUpSoFar}
use Rattle.afs_host.specs.LocSeated.{IsLocReady}
use Rattle.afs_host.specs.LocSeats.{loc_disk_of, DatabaseRunning, IsLocUp}
use Rattle.afs_cell.specs.declared.faults.SetupFault.{SetupFault}
use Rattle.afs_cell.specs.declared.faults.SetupFault.TheVariants as setup

-- Its disk, which set-up was given, tells as before. Where it was empty, it holds no record, or just that of the set-up.
pub record IsLocLeft {D : Type 0} (seen : D → Option (List ℕ)) (may_leave : D → List ℕ → Type 0) (s : Script) (old new : D) : Type 0 where
  pub told : IsSome (seen new) ↔ IsSome (seen old)
  pub holds : seen old ≡ Some [] → LeavesJust [] (may_leave old) → (bytes : List ℕ) → seen new ≡ Some bytes → IsSetUpSoFar s.capacity s.volumes bytes

-- the database at set-up, over that disk
pub record IsFirstDatabase {D : Type 0} (seen : D → Option (List ℕ)) (may_leave : D → List ℕ → Type 0) (faults limit : D → ℕ) (s : Script) (old : D) (r : DatabaseRunning D) : Type 0 where
  pub ready : IsLocReady 0 r
  pub host : IsLocUp r (node_start s).loc
  pub same_limit : limit (loc_disk_of r) ≡ limit old
  pub quiet : faults (loc_disk_of r) ≡ faults old
  pub left : IsLocLeft seen may_leave s old (loc_disk_of r)

-- why it couldn't be set up: its disk failed; or memory ran out, and the disk didn't
abbrev pub IsLocCaused : {D : Type 0} → (D → ℕ) → SetupFault → D → D → Type 0
IsLocCaused {D} faults (setup.Disk n) old new = (n ≡ Loc) × Rose (faults old) (faults new)
IsLocCaused {D} faults setup.OutOfMemory old new = faults new ≡ faults old

-- its disk is handed back
pub record IsLocBack {D : Type 0} (seen : D → Option (List ℕ)) (may_leave : D → List ℕ → Type 0) (faults limit : D → ℕ) (s : Script) (old new : D) : Type 0 where
  pub same_limit : limit new ≡ limit old
  pub no_fewer : faults old ≤ faults new
  pub left : IsLocLeft seen may_leave s old new

pub record IsLocRefused {D : Type 0} (seen : D → Option (List ℕ)) (may_leave : D → List ℕ → Type 0) (faults limit : D → ℕ) (s : Script) (old : D) (e : SetupFault × D) : Type 0 where
  pub cause : IsLocCaused faults e.0 old e.1
  pub back : IsLocBack seen may_leave faults limit s old e.1
