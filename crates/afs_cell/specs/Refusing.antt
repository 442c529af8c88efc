-- How set-up begins, and how it is refused.
use Rattle.std.specs.Prelude.{◌≡◌, ◌≤◌, ◌+◌, ℕ, []}
use Rattle.std.specs.Vec.{vec_capacity}
use Rattle.afs_num.specs.declared.faults.StoreFault.{StoreFault}
use Rattle.afs_num.specs.declared.faults.StoreFault.TheVariants as store
use Rattle.afs_num.specs.declared.types.Node.{Node}
use Rattle.afs_cell.specs.declared.faults.SetupFault.{SetupFault}
use Rattle.afs_cell.specs.declared.faults.SetupFault.TheVariants as setup
use Rattle.afs_cell.specs.declared.seating.Rooms.{Rooms}
use Rattle.afs_command.specs.declared.statuses.Status.{Status}
use Rattle.afs_command.specs.declared.statuses.Status.TheVariants as statuses

-- want of memory, or the disk of this node
abbrev pub refused_as : StoreFault → Node → SetupFault
refused_as store.OutOfMemory node = setup.OutOfMemory
refused_as fault node = setup.Disk node

-- there is room for the seats of so many servers, and for their disks and the location database's
pub record HaveRoom {D : Type 0} (n : ℕ) (r : Rooms D) : Type 0 where
  pub no_seats : r.seats.items ≡ []
  pub none_back : r.back.items ≡ []
  pub for_seats : n ≤ vec_capacity r.seats
  pub for_back : n + 1 ≤ vec_capacity r.back

-- the status of the program then
abbrev pub set_up_status : SetupFault → Status
set_up_status (setup.Disk n) = statuses.BankFault
set_up_status setup.OutOfMemory = statuses.OutOfMemory
