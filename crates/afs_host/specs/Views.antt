-- What a host sees of its node's store, whatever node that is.
use Rattle.std.specs.Prelude.{ℕ, Bool}
use Rattle.afs_num.specs.declared.records.Mark.{Mark}
use Rattle.afs_num.specs.declared.types.Node.{Node}
use Rattle.afs_disk.specs.Fuses.{Fused}
use Rattle.afs_store.specs.Folding.{Folding}
use Rattle.afs_store.specs.Stores.{StoreOf}
use Rattle.afs_volstore.specs.Stores.{recorded, Store}
use Rattle.afs_volstore.specs.VolumeFold.{volume_fold}
use Rattle.afs_locstore.specs.LocFold.{loc_fold}
use Rattle.afs_locdb.specs.Seen.{Database}

-- so many records, as a mark
abbrev pub count_mark : ℕ → Mark
count_mark n = record { generation = 0; records = n }

-- The disk behind its fuse; the node; whether a device call failed since the disk was taken up; how many records stand on it; and for
-- how many bytes it has room.
pub record StoreView (D : Type 0) : Type 0 where
  pub fuse : Fused D
  pub node : Node
  pub closed : Bool
  pub count : ℕ
  pub capacity : ℕ

-- so a store of any records is seen
abbrev pub shown_by : {R T M P D : Type 0} → Folding R T M P → StoreOf (Fused D) R T → StoreView D
shown_by k s = record { fuse = s.disk; node = s.node; closed = s.closed; count = s.count; capacity = k.capacity s.durable }

-- a file server's
abbrev pub shown_store : {D : Type 0} → Store (Fused D) → StoreView D
shown_store {D} s = shown_by volume_fold (recorded s)

-- and the location database's
abbrev pub shown_database : {D : Type 0} → Database (Fused D) → StoreView D
shown_database {D} b = shown_by loc_fold b.store
