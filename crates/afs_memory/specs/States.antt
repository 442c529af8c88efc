-- What a disk keeps, as it stands in memory.
use Rattle.std.specs.Prelude.{◌≡◌, ◌<◌, ◌≤◌, ℕ, List, length, Option, Some, None}
use Rattle.afs_num.specs.Nodes.{node_number}
use Rattle.afs_num.specs.declared.types.Node.{Node}
use Rattle.afs_num.specs.declared.volumes.Change.{Change}
use Rattle.spec_ideal.specs.Tables.{Table, get, set}
use Rattle.afs_volume.specs.Taking as taking
use Rattle.spec_records.specs.Durable.{Durable, Kept}
use Rattle.afs_seats.specs.Seated.{seen_as}
use Rattle.afs_shelves.specs.Shelving.{shelved, HasSeats}
use Rattle.afs_shelves.specs.declared.shelf.Shelf.{Shelf}
use Rattle.afs_memory.specs.declared.memory.KeptReply.{KeptReply}
use Rattle.afs_memory.specs.declared.memory.State.{State}
use Rattle.afs_memory.specs.declared.redo.Redo.{Redo}
use Rattle.afs_memory.specs.declared.redo.Redo.TheVariants as redos

abbrev pub kept_seen : KeptReply → Kept
kept_seen k = record { epoch = k.epoch; number = k.number; reply = k.reply }

-- the replies with one more, where it has a caller
abbrev pub kept_in : Option Node → ℕ → ℕ → List ℕ → Table KeptReply → Table KeptReply
kept_in None epoch number reply t = t
kept_in (Some caller) epoch number reply t = set (node_number caller) (record { caller = caller; epoch = epoch; number = number; reply = reply }) t

-- The journal's length and the disk's capacity stand elsewhere.
abbrev pub parts_seen : ℕ → Table Shelf → Table Node → Table ℕ → Table KeptReply → Durable
parts_seen boot volumes forwardings stamps kept = record {
  boot = boot;
  volumes = seen_as shelved volumes;
  stamps = stamps;
  forwardings = seen_as node_number forwardings;
  kept = seen_as kept_seen kept;
  journal = 0;
  capacity = 0;
}

abbrev pub parts_of : State → Durable
parts_of s = parts_seen s.boot s.shelves.volumes.table s.shelves.forwardings.table s.stamps.table s.kept.table

-- on a disk of this capacity, with a journal of this length
abbrev pub on_disk : ℕ → ℕ → Durable → Durable
on_disk journal capacity d = record d { journal = journal; capacity = capacity }

-- there is room for a change in the volume of this number, if there is one
abbrev pub HasRoomIn : Table Shelf → ℕ → Change → Type 0
HasRoomIn t id c = (s : Shelf) → get id t ≡ Some s → taking.HasRoom s.volume c

-- room for what a record says
abbrev pub HasPlace : Redo → State → Type 0
HasPlace (redos.Volumes vs) s = length vs ≤ s.shelves.volumes.room
HasPlace (redos.Change id c) s = HasRoomIn s.shelves.volumes.table id c
HasPlace (redos.Start boot) s = Unit {0}
HasPlace (redos.Deed deed) s = HasSeats s.shelves

-- and for its stamp and its reply
pub record HasRoomFor (redo : Redo) (s : State) : Type 0 where
  pub stamps : 0 < s.stamps.room
  pub kept : 0 < s.kept.room
  pub place : HasPlace redo s
