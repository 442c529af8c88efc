-- The numbers of volumes: those of families were drawn before, and a read-only volume, a new backup and the clone of a move have other numbers than
-- their families.
use Rattle.std.specs.Prelude.{◌≡◌, ◌≤◌, ◌<◌, ⊤, ℕ, ◌+◌, List, [], ◌∷◌, Some}
use Rattle.afs_num.specs.declared.location_calls.LocCall.{LocCall}
use Rattle.afs_num.specs.declared.location_calls.LocCall.TheVariants as calls
use Rattle.afs_num.specs.declared.location_calls.LocEntry.{LocEntry}
use Rattle.afs_num.specs.declared.messages.Call.TheVariants as ask
use Rattle.afs_num.specs.declared.messages.Carried.TheVariants as carried
use Rattle.afs_num.specs.declared.messages.Message.{Message}
use Rattle.spec_history.specs.declared.scripts.Script.{Script}
use Rattle.spec_history.specs.declared.scripts.VolumeLine.{VolumeLine}
use Rattle.spec_ideal.specs.Tables.{get}
use Rattle.spec_records.specs.LocDurable.{first_id}
use Rattle.spec_records.specs.LocRecords.{Listed}
use Rattle.spec_adminrows.specs.Asks.{family}
use Rattle.spec_adminrows.specs.declared.places.Backing.{Backing}
use Rattle.spec_adminrows.specs.declared.places.Backing.TheVariants as backing
use Rattle.spec_adminrows.specs.declared.places.Creating.{Creating}
use Rattle.spec_adminrows.specs.declared.places.Creating.TheVariants as creating
use Rattle.spec_adminrows.specs.declared.places.Hold.{Hold}
use Rattle.spec_adminrows.specs.declared.places.Place.{Place}
use Rattle.spec_adminrows.specs.declared.places.Place.TheVariants as places
use Rattle.spec_adminrows.specs.declared.places.Releasing.{Releasing}
use Rattle.spec_adminrows.specs.declared.places.Releasing.TheVariants as releasing
use Rattle.spec_adminrows.specs.declared.places.Tour.{Tour}
use Rattle.spec_adminrows.specs.declared.turns.Running.{Running}
use Rattle.spec_rows.specs.Runs.{message_at}
use Rattle.spec_runs.specs.NodeRuns.{node_start, CellInput, NodeCell}
use Rattle.law_places.specs.Accepting.{cell_behind}

-- ---- scripts

-- the volumes are numbered one after the other, from this number on
abbrev pub AreNumberedFrom : ℕ → List VolumeLine → Type 0
AreNumberedFrom n [] = ⊤
AreNumberedFrom n (v ∷ vs) = (v.id ≡ n) × AreNumberedFrom (n + 1) vs

-- So are those of a script that was read: from the first number on that volumes have.
abbrev pub IsNumbered : Script → Type 0
IsNumbered s = AreNumberedFrom first_id s.volumes

-- ---- numbers

-- the volume number that the location database draws next
abbrev pub next_volume : NodeCell → ℕ
next_volume c = c.loc.state.lasting.next_id

-- the number of a volume, drawn before this one; 0 is the number of none
abbrev pub IsDrawn : ℕ → ℕ → Type 0
IsDrawn next n = (1 ≤ n) × (n < next)

-- the number of the family was drawn, and its read-only volume has another, or none
abbrev pub IsSound : ℕ → LocEntry → Type 0
IsSound next e = IsDrawn next e.read_write × (e.read_only ≡ e.read_write → ⊥)

abbrev pub HoldIsSound : ℕ → Hold → Type 0
HoldIsSound next h = IsSound next h.entry

-- the number of another volume of the family isn't the family's: of the read-only volume of a release, of a new backup, of a move's clone
abbrev pub IsOther : ℕ → Hold → Type 0
IsOther other h = other ≡ family h → ⊥

abbrev pub TourIsSound : ℕ → Tour → Type 0
TourIsSound next r = HoldIsSound next r.hold × IsOther r.read_only r.hold

-- ---- by the places of an act

-- of a backup that is made anew nothing is asked
abbrev pub BackupIsOther : Hold → Backing → Type 0
BackupIsOther h (backing.Clones t id) = IsOther id h
BackupIsOther h step = ⊤

abbrev pub ReleaseIsSound : ℕ → Hold → Releasing → Type 0
ReleaseIsSound next h (releasing.NumbersClone read_only) = HoldIsSound next h × IsOther read_only h
ReleaseIsSound next h releasing.Stamps = HoldIsSound next h
ReleaseIsSound next h releasing.Numbers = HoldIsSound next h

-- the number of the new volume
abbrev pub CreationIsSound : ℕ → Creating → Type 0
CreationIsSound next creating.Numbers = ⊤
CreationIsSound next (creating.Makes v) = IsDrawn next v
CreationIsSound next (creating.Fills v t offset) = IsDrawn next v
CreationIsSound next (creating.Closes v t) = IsDrawn next v
CreationIsSound next (creating.Ends v t) = IsDrawn next v
CreationIsSound next (creating.Enters v) = IsDrawn next v
CreationIsSound next (creating.Checks v code) = IsDrawn next v
CreationIsSound next (creating.Scraps v code) = IsDrawn next v
CreationIsSound next (creating.Scrapped v code t) = IsDrawn next v
CreationIsSound next (creating.Begins v stamp) = IsDrawn next v
CreationIsSound next (creating.Opens v stamp t) = IsDrawn next v
CreationIsSound next (creating.Opened v stamp t) = IsDrawn next v
CreationIsSound next (creating.Frees v stamp) = IsDrawn next v

-- Of the places of a recovery, of those that only look an entry up or free it, nothing is said.
abbrev pub PlaceIsSound : ℕ → Place → Type 0
PlaceIsSound next (places.Creates f step) = CreationIsSound next step
PlaceIsSound next (places.Adds h server) = HoldIsSound next h
PlaceIsSound next (places.Backs h step) = HoldIsSound next h × BackupIsOther h step
PlaceIsSound next (places.Dumps s step) = HoldIsSound next s.hold
PlaceIsSound next (places.Releases h step) = ReleaseIsSound next h step
PlaceIsSound next (places.Tours r step) = TourIsSound next r
PlaceIsSound next (places.Visits r s step) = TourIsSound next r
PlaceIsSound next (places.Surveys h why s left seen) = HoldIsSound next h
PlaceIsSound next (places.Plans h target) = HoldIsSound next h
PlaceIsSound next (places.Moves m step) = HoldIsSound next m.hold × IsOther m.clone m.hold
PlaceIsSound next (places.Removes h seen step) = HoldIsSound next h
PlaceIsSound next (places.Sweeps h spot left step) = HoldIsSound next h
PlaceIsSound next (places.Asks cause h seen) = HoldIsSound next h
PlaceIsSound next place = ⊤

-- ---- the law

-- an entry that a call writes
abbrev pub WritesSound : ℕ → LocCall → Type 0
WritesSound next (calls.CreateEntry e) = IsSound next e
WritesSound next (calls.ReplaceEntry id e) = IsSound next e × (e.read_write ≡ id)
WritesSound next call = ⊤

-- So it is of the acts that run, of the calls that were ever sent, and of the database's entries.
pub record AreSound (c : NodeCell) : Type 0 where
  pub acts : (n : ℕ) (r : Running) → (c.admins n).running ≡ Some r → PlaceIsSound (next_volume c) r.place
  pub calls : (place : ℕ) (m : Message) (user : List ℕ) (call : LocCall) → message_at c.sent place ≡ Some m → m.carried ≡ carried.Call user (ask.Location call) → WritesSound (next_volume c) call
  pub entries : (k : ℕ) (l : Listed) → get k c.loc.state.lasting.entries ≡ Some l → IsSound (next_volume c) l.entry

-- So it is in every run of every script whose volumes are numbered so. In others a volume might be released under its own number.
abbrev pub NumbersAreApart : Type 0
NumbersAreApart = (s : Script) (inputs : List CellInput) → IsNumbered s → AreSound (cell_behind (node_start s) inputs)
