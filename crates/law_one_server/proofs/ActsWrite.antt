-- Which acts ask to write or to delete an entry: a removal deletes that of its volume, a move writes the new server into it, and all others
-- leave its server.
use Rattle.std.proofs.Common.{◌≡◌, ◌⊎◌, inl, inr, ℕ, List, Option, Some, None, refl}
use Rattle.std.specs.Prelude.{⊤}
use Rattle.afs_num.specs.declared.location_calls.LocCall.{LocCall}
use Rattle.afs_num.specs.declared.location_calls.LocCall.TheVariants as loc
use Rattle.afs_num.specs.declared.location_calls.LocEntry.{LocEntry}
use Rattle.afs_num.specs.declared.messages.Call.{Call}
use Rattle.afs_num.specs.declared.messages.Call.TheVariants as ask
use Rattle.spec_adminrows.specs.Acts.{asks_at}
use Rattle.spec_adminrows.specs.Asks.{family}
use Rattle.spec_adminrows.specs.Copying.{backup_asks, dump_asks}
use Rattle.spec_adminrows.specs.Creating.{create_asks}
use Rattle.spec_adminrows.specs.Entries.{entry_moved}
use Rattle.spec_adminrows.specs.Moving.{move_asks}
use Rattle.spec_adminrows.specs.Recovering.{mend_asks}
use Rattle.spec_adminrows.specs.Releasing.{release_asks, tour_asks, visit_asks}
use Rattle.spec_adminrows.specs.Removing.{remove_asks, sweep_asks}
use Rattle.spec_adminrows.specs.declared.places.Backing.{Backing}
use Rattle.spec_adminrows.specs.declared.places.Backing.TheVariants as backing
use Rattle.spec_adminrows.specs.declared.places.Creating.{Creating}
use Rattle.spec_adminrows.specs.declared.places.Creating.TheVariants as creating
use Rattle.spec_adminrows.specs.declared.places.Dumping.{Dumping}
use Rattle.spec_adminrows.specs.declared.places.Dumping.TheVariants as dumping
use Rattle.spec_adminrows.specs.declared.places.Fresh.{Fresh}
use Rattle.spec_adminrows.specs.declared.places.Hold.{Hold}
use Rattle.spec_adminrows.specs.declared.places.Mend.{Mend}
use Rattle.spec_adminrows.specs.declared.places.Mending.{Mending}
use Rattle.spec_adminrows.specs.declared.places.Mending.TheVariants as mending
use Rattle.spec_adminrows.specs.declared.places.Moving.{Moving}
use Rattle.spec_adminrows.specs.declared.places.Moving.TheVariants as moving
use Rattle.spec_adminrows.specs.declared.places.Place.{Place}
use Rattle.spec_adminrows.specs.declared.places.Place.TheVariants as places
use Rattle.spec_adminrows.specs.declared.places.Releasing.{Releasing}
use Rattle.spec_adminrows.specs.declared.places.Releasing.TheVariants as releasing
use Rattle.spec_adminrows.specs.declared.places.Removing.{Removing}
use Rattle.spec_adminrows.specs.declared.places.Removing.TheVariants as removing
use Rattle.spec_adminrows.specs.declared.places.Saving.{Saving}
use Rattle.spec_adminrows.specs.declared.places.Seen.{Seen}
use Rattle.spec_adminrows.specs.declared.places.Spot.{Spot}
use Rattle.spec_adminrows.specs.declared.places.Sweeping.{Sweeping}
use Rattle.spec_adminrows.specs.declared.places.Sweeping.TheVariants as sweeping
use Rattle.spec_adminrows.specs.declared.places.Tour.{Tour}
use Rattle.spec_adminrows.specs.declared.places.Touring.{Touring}
use Rattle.spec_adminrows.specs.declared.places.Touring.TheVariants as touring
use Rattle.spec_adminrows.specs.declared.places.Trip.{Trip}
use Rattle.spec_adminrows.specs.declared.places.Visiting.{Visiting}
use Rattle.spec_adminrows.specs.declared.places.Visiting.TheVariants as visiting
use Rattle.spec_adminrows.specs.declared.turns.Ask.{Ask}
use Rattle.spec_adminrows.specs.declared.turns.Errand.{Errand}
use Rattle.law_locks.specs.Grips.{grip_at, grip_of}
use Rattle.spec_records.specs.Entries.{site_of}
use Rattle.spec_runs.specs.NodeRuns.{NodeCell}
use Rattle.law_families.proofs.Sites.{added_site, backed_site, released_site}
use Rattle.law_one_server.specs.Knows.{IsHome, Knows}
use Rattle.law_one_server.proofs.EntriesName.{IsUsable, UsableAt}

-- ---- what is written

-- the entry of the volume that is locked goes on with the same server, by an act that knows its home
pub record IsWork (p : Place) (id : ℕ) (e : LocEntry) : Type 0 where
  pub hold : Hold
  pub grip : grip_at p ≡ grip_of hold
  pub knows : (c : NodeCell) → Knows c p → IsHome c hold
  pub usable : UsableAt p → IsUsable hold.entry
  pub site : site_of e ≡ site_of hold.entry
  pub key : e.read_write ≡ family hold
  pub its : id ≡ family hold

-- a move decides
pub record IsMoving (p : Place) (id : ℕ) (e : LocEntry) : Type 0 where
  pub trip : Trip
  pub new : ℕ
  pub old : ℕ
  pub place : p ≡ places.Moves trip (moving.Decides new old)
  pub moved : e ≡ entry_moved trip.target trip.hold.entry
  pub its : id ≡ family trip.hold

-- a removal decides
pub record IsRemoving (p : Place) (id : ℕ) : Type 0 where
  pub hold : Hold
  pub seen : List Seen
  pub transaction : ℕ
  pub place : p ≡ places.Removes hold seen (removing.Decides transaction)
  pub its : id ≡ family hold

abbrev pub LocWrites : Place → LocCall → Type 0
LocWrites p (loc.ReplaceEntry id e) = IsWork p id e ⊎ IsMoving p id e
LocWrites p (loc.DeleteEntry id) = IsRemoving p id
LocWrites p call = ⊤

abbrev pub Writes : Place → Call → Type 0
Writes p (ask.Location call) = LocWrites p call
Writes p call = ⊤

create_writes : (name : List ℕ) (f : Fresh) (step : Creating) → Writes (places.Creates f step) (create_asks name f step).call
create_writes name f creating.Numbers = tt
create_writes name f (creating.Makes v) = tt
create_writes name f (creating.Fills v t offset) = tt
create_writes name f (creating.Closes v t) = tt
create_writes name f (creating.Ends v t) = tt
create_writes name f (creating.Enters v) = tt
create_writes name f (creating.Checks v code) = tt
create_writes name f (creating.Scraps v code) = tt
create_writes name f (creating.Scrapped v code t) = tt
create_writes name f (creating.Begins v stamp) = tt
create_writes name f (creating.Opens v stamp t) = tt
create_writes name f (creating.Opened v stamp t) = tt
create_writes name f (creating.Frees v stamp) = tt

backup_writes : (name : List ℕ) (h : Hold) (step : Backing) → Writes (places.Backs h step) (backup_asks name h step).call
backup_writes name h (backing.Writes id) = inl (record { hold = h; grip = refl; knows = λ c k. k; usable = λ u. u; site = backed_site id h.entry; key = refl; its = refl })
backup_writes name h backing.Stamps = tt
backup_writes name h backing.Begins = tt
backup_writes name h (backing.Numbers t) = tt
backup_writes name h (backing.Clones t id) = tt
backup_writes name h (backing.Renews t id) = tt
backup_writes name h (backing.Ends t id) = tt

dump_writes : (s : Saving) (step : Dumping) → Writes (places.Dumps s step) (dump_asks s step).call
dump_writes s dumping.Stamps = tt
dump_writes s dumping.Begins = tt
dump_writes s (dumping.Reads t) = tt
dump_writes s (dumping.Ends t) = tt

release_writes : (h : Hold) (step : Releasing) → Writes (places.Releases h step) (release_asks h step).call
release_writes h releasing.Stamps = tt
release_writes h releasing.Numbers = tt
release_writes h (releasing.NumbersClone ro) = tt

tour_writes : (name : List ℕ) (r : Tour) (step : Touring) → Writes (places.Tours r step) (tour_asks name r step).call
tour_writes name r touring.Writes = inl (record { hold = r.hold; grip = refl; knows = λ c k. k; usable = λ u. u; site = released_site r.read_only r.reached r.hold.entry; key = refl; its = refl })
tour_writes name r touring.Begins = tt
tour_writes name r (touring.Clones t) = tt
tour_writes name r (touring.Cloned t) = tt
tour_writes name r touring.Drops = tt
tour_writes name r (touring.Dropped t) = tt

visit_writes : (name : List ℕ) (r : Tour) (s : ℕ) (step : Visiting) → Writes (places.Visits r s step) (visit_asks name r s step).call
visit_writes name r s visiting.Stamps = tt
visit_writes name r s visiting.Takes = tt
visit_writes name r s visiting.Makes = tt
visit_writes name r s (visiting.Opens t) = tt
visit_writes name r s (visiting.Sends t x) = tt
visit_writes name r s (visiting.Closes t x) = tt
visit_writes name r s (visiting.Sets t) = tt
visit_writes name r s (visiting.Ends t) = tt
visit_writes name r s (visiting.Leaves code x) = tt

move_writes : (name : List ℕ) (m : Trip) (step : Moving) → Writes (places.Moves m step) (move_asks name m step).call
move_writes name m (moving.Decides new old) = inr (record { trip = m; new = new; old = old; place = refl; moved = refl; its = refl })
move_writes name m moving.Begins = tt
move_writes name m (moving.Clones t) = tt
move_writes name m (moving.Cloned counter t) = tt
move_writes name m (moving.Makes counter) = tt
move_writes name m (moving.Opens counter new) = tt
move_writes name m (moving.Sends counter new t) = tt
move_writes name m (moving.Sent counter new t) = tt
move_writes name m (moving.Holds counter new) = tt
move_writes name m (moving.Fences counter new old) = tt
move_writes name m (moving.Fills counter new old) = tt
move_writes name m (moving.Clears new old) = tt
move_writes name m (moving.Starts new old) = tt
move_writes name m (moving.Started new old) = tt
move_writes name m (moving.Points old) = tt
move_writes name m (moving.Deletes old) = tt
move_writes name m moving.Drops = tt
move_writes name m (moving.Dropped t) = tt
move_writes name m moving.DropsBackup = tt
move_writes name m (moving.DroppedBackup t) = tt

remove_writes : (h : Hold) (seen : List Seen) (step : Removing) → Writes (places.Removes h seen step) (remove_asks h step).call
remove_writes h seen removing.Begins = tt
remove_writes h seen (removing.Fences t) = tt
remove_writes h seen (removing.Decides t) = record { hold = h; seen = seen; transaction = t; place = refl; its = refl }
remove_writes h seen (removing.Deletes t) = tt

sweep_writes : (h : Hold) (spot : Spot) (left : List Spot) (step : Sweeping) → Writes (places.Sweeps h spot left step) (sweep_asks h spot step).call
sweep_writes h spot left sweeping.Begins = tt
sweep_writes h spot left (sweeping.Deletes t) = tt

mend_writes : (m : Mend) (step : Mending) → Writes (places.Mends m step) (mend_asks m step).call
mend_writes m (mending.Takes s) = tt
mend_writes m (mending.Points s t) = tt
mend_writes m (mending.Deletes s t) = tt
mend_writes m (mending.Drops spot) = tt
mend_writes m (mending.Dropped spot t) = tt
mend_writes m mending.Begins = tt
mend_writes m (mending.Opens t) = tt
mend_writes m (mending.Ends t) = tt
mend_writes m mending.Frees = tt

pub asked_writes : (e : Errand) (p : Place) → Writes (p) (asks_at e p).call
asked_writes e (places.Seeks c) = tt
asked_writes e (places.Locks c v) = tt
asked_writes e (places.Frees h code first) = tt
asked_writes e (places.Creates f step) = create_writes _ f step
asked_writes e (places.Adds h server) = inl (record { hold = h; grip = refl; knows = λ c k. k; usable = λ u. u; site = added_site server h.entry; key = refl; its = refl })
asked_writes e (places.Backs h step) = backup_writes _ h step
asked_writes e (places.Dumps s step) = dump_writes s step
asked_writes e (places.Releases h step) = release_writes h step
asked_writes e (places.Tours r step) = tour_writes _ r step
asked_writes e (places.Visits r s step) = visit_writes _ r s step
asked_writes e (places.Surveys h why s left seen) = tt
asked_writes e (places.Plans h target) = tt
asked_writes e (places.Moves m step) = move_writes _ m step
asked_writes e (places.Removes h seen step) = remove_writes h seen step
asked_writes e (places.Sweeps h spot left step) = sweep_writes h spot left step
asked_writes e (places.Asks c h seen) = tt
asked_writes e (places.Mends m step) = mend_writes m step
