-- The location database, and the state of its row that it stands for.
use Rattle.std.specs.Prelude.{◌≡◌, ℕ, List, map}
use Rattle.afs_num.specs.declared.types.Node.TheVariants.{Loc}
use Rattle.spec_records.specs.LocDurable.{LocDurable}
use Rattle.spec_records.specs.LocRecords.{LocRecord}
use Rattle.spec_rows.specs.LocRow.{LocLasting, LocState}
use Rattle.spec_rows.specs.States.{Seat}
use Rattle.afs_store.specs.Stores.{StoreOf}
use Rattle.law_legal.specs.DatabaseRuns.{CallersAreSettled}
use Rattle.afs_saving.specs.Kept.{seat_kept}

-- what it keeps, with its disk, and its callers in this boot
pub record Database (D : Type 0) : Type 0 where
  pub store : StoreOf D LocRecord LocDurable
  pub boot : ℕ
  pub seats : List Seat

-- ---- what the disk keeps

-- a kept reply's bytes as the message that is read in them
abbrev pub lasting_of : LocDurable → LocLasting
lasting_of d = record { boot = d.boot; entries = d.entries; next_id = d.next_id; next_stamp = d.next_stamp; kept = map seat_kept d.kept; journal = d.journal; capacity = d.capacity }

abbrev pub loc_seen : {D : Type 0} → Database D → LocState
loc_seen {D} b = record { lasting = lasting_of b.store.durable; seats = b.seats }

-- ---- what it keeps together

-- It is in the boot that its disk keeps, and the disk is the database's.
pub record IsInBoot {D : Type 0} (b : Database D) : Type 0 where
  pub boot : b.boot ≡ b.store.durable.boot
  pub node : b.store.node ≡ Loc

-- It can be given messages: no call is admitted again that changed something, in whichever boot.
pub record Serves {D : Type 0} (b : Database D) : Type 0 where
  pub here : IsInBoot b
  pub settled : CallersAreSettled (loc_seen b)

-- with this in the place of its disk
abbrev pub over : {D : Type 0} → D → Database D → Database D
over {D} disk b = record b { store = record b.store { disk = disk } }

-- nothing but the room of the disk is another
abbrev pub SameBut : {D : Type 0} → Database D → Database D → Type 0
SameBut {D} old new = new ≡ over new.store.disk old
