-- What the calls of an administrator's seat promise.
use Rattle.std.specs.Prelude.{◌≡◌, ◌≤◌, ◌+◌, ℕ, false, List, [], ◌∷◌}
use Rattle.std.specs.List.{All}
use Rattle.afs_num.specs.declared.types.Node.TheVariants.{Admin}
use Rattle.spec_history.specs.declared.scripts.Script.{Script}
use Rattle.spec_history.specs.declared.scripts.Task.{Task}
use Rattle.spec_history.specs.declared.scripts.Task.TheVariants as tasks
use Rattle.afs_adminparts.specs.Fitting.{IsShortAdminAct}
use Rattle.spec_adminrows.specs.AdminRow.{new_admin}
use Rattle.afs_mover.specs.Steps.{lasting}
use Rattle.afs_schedule.specs.Schedules.{tasks_of}
use Rattle.afs_admins.specs.declared.admins.AdminSeat.{AdminSeat}

-- an act of an administrator is within its limits
abbrev pub IsShortOrder : Task → Type 0
IsShortOrder (tasks.Admin n act) = IsShortAdminAct act
IsShortOrder (tasks.Client n act) = Unit {0}

-- An administrator is the one of this number; it knows how many servers the script names, and its seat knows its epoch. The acts that it has
-- not begun are within their limits.
pub record IsSeated (s : Script) (n : ℕ) (seat : AdminSeat) : Type 0 where
  pub node : seat.mover.node ≡ Admin n
  pub epoch : seat.mover.state.epoch ≡ seat.epoch
  pub servers : seat.mover.state.servers ≡ s.servers
  pub acts : All IsShortOrder seat.plan

-- what a step leaves as it is: who it is, and its epoch; it makes one call at most
pub record GoesOn (old new : AdminSeat) : Type 0 where
  pub node : new.mover.node ≡ old.mover.node
  pub kept : lasting new.mover.state ≡ lasting old.mover.state
  pub epoch : new.epoch ≡ old.epoch
  pub last : new.mover.state.last ≤ old.mover.state.last + 1
  pub acts : All IsShortOrder old.plan → All IsShortOrder new.plan

-- an administrator at set-up
pub record IsFirstAdmin (s : Script) (n : ℕ) (seat : AdminSeat) : Type 0 where
  pub state : seat.mover.state ≡ new_admin s.servers 1
  pub up : seat.is_away ≡ false
  pub plan : seat.plan ≡ tasks_of (Admin n) s.tasks
  pub epoch : seat.epoch ≡ 1
  pub seated : IsSeated s n seat

-- administrators at set-up, in order of number from this one on
abbrev pub AreFirstAdmins : Script → ℕ → List AdminSeat → Type 0
AreFirstAdmins s n [] = Unit {0}
AreFirstAdmins s n (a ∷ more) = IsFirstAdmin s n a × AreFirstAdmins s (n + 1) more
