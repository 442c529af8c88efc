-- The volumes of a server in memory, as its disk keeps them.
use Rattle.std.specs.Prelude.{◌≡◌, ◌<◌, ℕ, Bool, false, Some}
use Rattle.std.specs.Option.{option_map_or}
use Rattle.afs_num.specs.Nodes.{node_number}
use Rattle.afs_num.specs.declared.types.Node.{Node}
use Rattle.spec_ideal.specs.Tables.{Table, get, set}
use Rattle.spec_records.specs.Durable.{Durable, Stored, nothing_on}
use Rattle.afs_seats.specs.Seated.{seen_as}
use Rattle.afs_volume.specs.Taking.{stored_of}
use Rattle.afs_volume.specs.declared.volume.Volume.{Volume}
use Rattle.afs_shelves.specs.declared.shelf.Shelf.{Shelf}
use Rattle.afs_shelves.specs.declared.shelves.Shelves.{Shelves}

-- a volume, which is new or isn't
abbrev pub stored_as : Bool → Volume → Stored
stored_as is_new v = record (stored_of v) { is_new = is_new }

abbrev pub shelved : Shelf → Stored
shelved s = stored_as s.is_new s.volume

-- with these volumes and forwardings
abbrev pub keeping : Durable → Table Shelf → Table Node → Durable
keeping d volumes forwardings = record d { volumes = seen_as shelved volumes; forwardings = seen_as node_number forwardings }

abbrev pub with_shelves : Durable → Shelves → Durable
with_shelves d s = keeping d s.volumes.table s.forwardings.table

-- and nothing else
abbrev pub kept_on : Shelves → Durable
kept_on s = with_shelves (nothing_on 0) s

-- whether the volume of this number is there and new
abbrev pub is_new_in : ℕ → Table Stored → Bool
is_new_in id t = option_map_or (λ (s : Stored). s.is_new) (get id t) false

-- memory for one volume more, and for one forwarding more
pub record HasSeats (s : Shelves) : Type 0 where
  pub volumes : 0 < s.volumes.room
  pub forwardings : 0 < s.forwardings.room

-- The volume of this number is another after this: it stands in the place of the one before.
pub record IsAltered (id : ℕ) (change : Stored → Stored) (old new : Table Shelf) : Type 0 where
  pub before : Shelf
  pub there : get id old ≡ Some before
  pub after : Shelf
  pub put : new ≡ set id after old
  pub altered : shelved after ≡ change (shelved before)

-- This volume stands in the place of the one with its number, and is new where that was.
pub record IsReplaced (v : Volume) (old new : Table Shelf) : Type 0 where
  pub before : Shelf
  pub there : get v.head.id old ≡ Some before
  pub put : new ≡ set v.head.id (record { volume = v; is_new = before.is_new }) old
