-- A server's store, as its callers see it.
use Rattle.std.specs.Prelude.{◌≡◌, ◌⊎◌, ℕ, List, Bool, false, Option, Some, if◌then◌else◌}
use Rattle.afs_num.specs.declared.records.RecordBody.{RecordBody}
use Rattle.afs_num.specs.declared.records.RecordBody.TheVariants as bodies
use Rattle.afs_num.specs.declared.records.StoreRecord.{StoreRecord}
use Rattle.afs_num.specs.declared.types.Node.{Node}
use Rattle.afs_journal.specs.Records.{IsBeforeOrAfter}
use Rattle.spec_records.specs.Durable.{has_room, Durable}
use Rattle.spec_records.specs.Records.{record_bytes}
use Rattle.spec_fold.specs.Fold.{folded}
use Rattle.afs_seats.specs.Seated.{seen_as, Seated}
use Rattle.afs_store.specs.Stores.{Keeps, StoreOf}
use Rattle.afs_volstore.specs.Stands.{StandsForVolumes}
pub use Rattle.afs_store.specs.Stores.{IsCaused, IsCounted, IsEarly, Served}
pub use Rattle.afs_store.specs.Words.{IsCausedBy, MovedBy}

-- A store of a server's records, which keeps the durable part of the server, and in memory alone which volumes its transactions hold, by
-- the volumes' numbers: 1 where one is offline, 2 where it is busy.
pub record Store (D : Type 0) : Type 0 where
  pub durable : Durable
  pub disk : D
  pub node : Node
  pub prepared : Option StoreRecord
  pub closed : Bool
  pub count : ℕ
  pub drawn : ℕ
  pub holds : Seated ℕ

-- nothing but the disk is another; of that `prepare` and `boot` say that its room alone is
abbrev pub SameBut : {D : Type 0} → Store D → Store D → Type 0
SameBut {D} old new = new ≡ record old { disk = new.disk }

-- the record of anything but a change that a file server's call makes
abbrev pub IsNoChange : RecordBody → Type 0
IsNoChange (bodies.Change id counter unique vnodes removed) = ⊥
IsNoChange body = Unit {0}

-- ---- its two parts

-- the word of a volume that is held: whether it is busy
abbrev pub hold_word : Bool → ℕ
hold_word busy = if busy then 2 else 1

abbrev pub holds_seen : Seated Bool → Seated ℕ
holds_seen s = record { table = seen_as hold_word s.table; room = s.room }

abbrev pub store_of : {D : Type 0} → StoreOf D StoreRecord Durable → Seated Bool → Store D
store_of {D} s holds = record {
  durable = s.durable;
  disk = s.disk;
  node = s.node;
  prepared = s.prepared;
  closed = s.closed;
  count = s.count;
  drawn = s.drawn;
  holds = holds_seen holds;
}

-- without what is held
abbrev pub recorded : {D : Type 0} → Store D → StoreOf D StoreRecord Durable
recorded {D} s = record {
  durable = s.durable;
  disk = s.disk;
  node = s.node;
  prepared = s.prepared;
  closed = s.closed;
  count = s.count;
  drawn = s.drawn;
}

-- ---- what a crash leaves

-- the disk stands for what the store keeps, and no crash leaves another
abbrev pub IsKept : Durable → Option (List ℕ) → (List ℕ → Type 0) → Type 0
IsKept d seen may_leave = Keeps (λ bytes. StandsForVolumes bytes d) seen may_leave

-- the bytes stand for what was kept before this record, or for what is kept with it
abbrev pub StandsAround : StoreRecord → Durable → List ℕ → Type 0
StandsAround r d bytes = StandsForVolumes bytes d ⊎ ((e : Durable) × ((folded r d ≡ Some e) × StandsForVolumes bytes e))

-- these records, with this one or without it, and what they stand for
abbrev pub LeftAround : List (List ℕ) → StoreRecord → Durable → List ℕ → Type 0
LeftAround records r d bytes = IsBeforeOrAfter records (record_bytes r) bytes × StandsAround r d bytes

-- ---- refusals

-- the record doesn't fit behind a journal of this length, on a disk of this capacity
pub record IsFull (d : Durable) (r : StoreRecord) (used capacity : ℕ) : Type 0 where
  pub used_up : used ≡ d.journal
  pub limit : capacity ≡ d.capacity
  pub none : has_room d r ≡ false
