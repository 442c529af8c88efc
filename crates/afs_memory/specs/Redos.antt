-- What a record says, ready to be done, and the record that says it.
use Rattle.std.specs.Prelude.{◌≡◌, ℕ, map, Some}
use Rattle.std.specs.List.{AllByRecursion}
use Rattle.afs_num.specs.declared.vnodes.Vnode as image
use Rattle.afs_num.specs.declared.records.RecordBody.{RecordBody}
use Rattle.afs_num.specs.declared.records.RecordBody.TheVariants as bodies
use Rattle.afs_num.specs.declared.records.RecordHead.{RecordHead}
use Rattle.afs_num.specs.declared.records.StoredVolume.{StoredVolume}
use Rattle.afs_num.specs.declared.records.StoreRecord.{StoreRecord}
use Rattle.afs_volume.specs.Seen.{IsReadable}
use Rattle.afs_volume.specs.Taking.{stored_of}
use Rattle.afs_volume.specs.declared.volume.Volume.{Volume}
use Rattle.spec_records.specs.Durable as durable
use Rattle.spec_records.specs.Durable.{Durable}
use Rattle.afs_shelves.specs.Deeds.{deed_body, SuitsDeed}
use Rattle.afs_memory.specs.declared.redo.Redo.{Redo}
use Rattle.afs_memory.specs.declared.redo.Redo.TheVariants as redos

-- a volume, as the first record tells it
abbrev pub told : Volume → StoredVolume
told v = record { head = v.head; vnodes = map (λ (p : ℕ × image.Vnode). p.1) v.vnodes.table }

abbrev pub body_of : Redo → RecordBody
body_of (redos.Volumes vs) = bodies.First (map told vs)
body_of (redos.Change id c) = bodies.Change id c.counter c.unique c.vnodes c.removed
body_of (redos.Start boot) = bodies.Boot boot
body_of (redos.Deed deed) = deed_body deed

abbrev pub record_of : RecordHead → Redo → StoreRecord
record_of head redo = record { head = head; body = body_of redo }

-- the fold makes just this volume of what is told of it
abbrev pub IsMadeAgain : Volume → Type 0
IsMadeAgain v = durable.stored_of (told v) ≡ Some (stored_of v)

-- the volumes are made, the images have been read
abbrev pub IsReady : Redo → Type 0
IsReady (redos.Volumes vs) = AllByRecursion IsMadeAgain vs
IsReady (redos.Change id c) = AllByRecursion IsReadable c.vnodes
IsReady (redos.Start boot) = Unit {0}
IsReady (redos.Deed deed) = Unit {0}

-- it is none of a change
abbrev pub IsNoChange : Redo → Type 0
IsNoChange (redos.Change id c) = ⊥
IsNoChange redo = Unit {0}

-- What a volume server did can be taken here, and what was made for it beforehand is what it makes here.
abbrev pub Suits : Redo → Durable → Type 0
Suits (redos.Deed deed) d = SuitsDeed deed d
Suits redo d = Unit {0}
