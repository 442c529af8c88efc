-- What an act of an administrator knows of its volume, by the place where it is: where the location database puts the volume, and that it is
-- out of service at its old server. And what follows from it at every moment: the volume is in service nowhere but where the database says.
use Rattle.std.specs.Prelude.{◌≡◌, ◌⊎◌, ◌<◌, ⊤, ℕ, List, Bool, true, false, Option, Some, None, is_some}
use Rattle.spec_history.specs.declared.scripts.Script.{Script}
use Rattle.spec_ideal.specs.Tables.{get}
use Rattle.spec_records.specs.Entries.{site_of}
use Rattle.spec_records.specs.LocRecords.{Listed}
use Rattle.spec_runs.specs.NodeRuns.{has_host, node_start, CellInput, NodeCell}
use Rattle.law_places.specs.Accepting.{cell_behind, serves_at}
use Rattle.law_stamps.specs.Stamps.{stored_stamp}
use Rattle.law_stamps.specs.Told.{entries_in, stamp_in}
use Rattle.spec_adminrows.specs.Asks.{family, home}
use Rattle.spec_adminrows.specs.declared.places.Creating.{Creating}
use Rattle.spec_adminrows.specs.declared.places.Creating.TheVariants as creating
use Rattle.spec_adminrows.specs.declared.places.Hold.{Hold}
use Rattle.spec_adminrows.specs.declared.places.Mending.{Mending}
use Rattle.spec_adminrows.specs.declared.places.Moving.{Moving}
use Rattle.spec_adminrows.specs.declared.places.Moving.TheVariants as moving
use Rattle.spec_adminrows.specs.declared.places.Place.{Place}
use Rattle.spec_adminrows.specs.declared.places.Place.TheVariants as places
use Rattle.spec_adminrows.specs.declared.places.Purpose.{Purpose}
use Rattle.spec_adminrows.specs.declared.places.Purpose.TheVariants as purposes
use Rattle.spec_adminrows.specs.declared.places.Removing.{Removing}
use Rattle.spec_adminrows.specs.declared.places.Removing.TheVariants as removing

-- ---- the cell, as they look at it

-- the server that the database's entry of the volume names
abbrev pub site_by : Option Listed → Option ℕ
site_by None = None
site_by (Some l) = site_of l.entry

abbrev pub listed_site : NodeCell → ℕ → Option ℕ
listed_site c volume = site_by (get volume (entries_in c))

-- the stamp under which the entry is locked
abbrev pub lock_at : NodeCell → ℕ → Option ℕ
lock_at c volume = stamp_in (get volume (entries_in c))

-- Every server of the cell has stored a higher stamp than this of the family that has the volume's number. So no volume call in that family, under
-- this stamp or a lower one, changes anything at a server any more. Of calls to the location database nothing is said.
abbrev pub IsOver : NodeCell → ℕ → ℕ → Type 0
IsOver c volume stamp = (i : ℕ) → has_host c i ≡ true → stamp < stored_stamp c i volume

-- ---- what is known of the site

-- the database names this server as the volume's, or the stamp is over
abbrev pub IsAt : NodeCell → ℕ → ℕ → ℕ → Type 0
IsAt c volume stamp server = (listed_site c volume ≡ Some server) ⊎ IsOver c volume stamp

-- it names the server that it named when it was locked, unless the act is over
abbrev pub IsHome : NodeCell → Hold → Type 0
IsHome c h = IsAt c (family h) h.stamp (home h)

-- or, in a move, the new one
abbrev pub IsHomeOr : NodeCell → Hold → ℕ → Type 0
IsHomeOr c h target = (listed_site c (family h) ≡ Some target) ⊎ IsHome c h

-- the lock was lost, or given back
abbrev pub HasLost : NodeCell → ℕ → ℕ → Type 0
HasLost c volume stamp = lock_at c volume ≡ Some stamp → ⊥

-- the volume is out of service at this server, as long as the lock is held
abbrev pub IsShutAt : NodeCell → ℕ → ℕ → ℕ → Type 0
IsShutAt c volume stamp server = (serves_at c volume server ≡ false) ⊎ HasLost c volume stamp

abbrev pub IsShut : NodeCell → Hold → Type 0
IsShut c h = IsShutAt c (family h) h.stamp (home h)

-- A move behind its fence: the database names the new server by now, or else the old one, and there the volume is out of service.
abbrev pub IsMovedOr : NodeCell → ℕ → ℕ → ℕ → ℕ → Type 0
IsMovedOr c volume stamp target server = (listed_site c volume ≡ Some target) ⊎ (IsAt c volume stamp server × IsShutAt c volume stamp server)

-- the database has an entry of it, unless the act is over
abbrev pub IsListedOr : NodeCell → ℕ → ℕ → Type 0
IsListedOr c volume stamp = (is_some (get volume (entries_in c)) ≡ true) ⊎ IsOver c volume stamp

-- ---- by the places

abbrev pub KnowsInSurvey : NodeCell → Hold → Purpose → Type 0
KnowsInSurvey c h (purposes.Moves target) = IsHomeOr c h target
KnowsInSurvey c h purposes.Removes = HasLost c (family h) h.stamp ⊎ IsHome c h
KnowsInSurvey c h (purposes.Mends cause) = IsListedOr c (family h) h.stamp

-- A move: from the fence on the volume is shut, and once it is decided the database names the new server.
abbrev pub KnowsInMove : NodeCell → Hold → ℕ → Moving → Type 0
KnowsInMove c h target (moving.Fills counter new old) = IsMovedOr c (family h) h.stamp target (home h)
KnowsInMove c h target (moving.Clears new old) = IsMovedOr c (family h) h.stamp target (home h)
KnowsInMove c h target (moving.Decides new old) = IsMovedOr c (family h) h.stamp target (home h)
KnowsInMove c h target (moving.Starts new old) = IsAt c (family h) h.stamp target
KnowsInMove c h target (moving.Started new old) = IsAt c (family h) h.stamp target
KnowsInMove c h target (moving.Points old) = IsAt c (family h) h.stamp target
KnowsInMove c h target (moving.Deletes old) = IsAt c (family h) h.stamp target
KnowsInMove c h target step = IsHomeOr c h target

abbrev pub KnowsInRemoval : NodeCell → Hold → Removing → Type 0
KnowsInRemoval c h (removing.Decides t) = (HasLost c (family h) h.stamp ⊎ IsHome c h) × IsShut c h
KnowsInRemoval c h step = HasLost c (family h) h.stamp ⊎ IsHome c h

-- a new volume, behind its entry
abbrev pub KnowsInCreation : NodeCell → ℕ → Creating → Type 0
KnowsInCreation c server (creating.Begins v stamp) = IsAt c v stamp server
KnowsInCreation c server (creating.Opens v stamp t) = IsAt c v stamp server
KnowsInCreation c server (creating.Opened v stamp t) = IsAt c v stamp server
KnowsInCreation c server (creating.Frees v stamp) = IsAt c v stamp server
KnowsInCreation c server step = ⊤

-- Where nothing is locked nothing is known, nor where nothing is left but to free the lock.
abbrev pub Knows : NodeCell → Place → Type 0
Knows c (places.Seeks cause) = ⊤
Knows c (places.Locks cause v) = ⊤
Knows c (places.Frees h code first) = ⊤
Knows c (places.Creates f step) = KnowsInCreation c f.server step
Knows c (places.Adds h server) = IsHome c h
Knows c (places.Backs h step) = IsHome c h
Knows c (places.Dumps s step) = IsHome c s.hold
Knows c (places.Releases h step) = IsHome c h
Knows c (places.Tours r step) = IsHome c r.hold
Knows c (places.Visits r s step) = IsHome c r.hold
Knows c (places.Surveys h why s left seen) = KnowsInSurvey c h why
Knows c (places.Plans h target) = IsHomeOr c h target
Knows c (places.Moves m step) = KnowsInMove c m.hold m.target step
Knows c (places.Removes h seen step) = KnowsInRemoval c h step
Knows c (places.Sweeps h spot left step) = ⊤
Knows c (places.Asks cause h seen) = IsListedOr c (family h) h.stamp
Knows c (places.Mends m step) = IsAt c m.volume m.stamp m.named

-- ---- what follows

-- Wherever a read-write volume is in service, the database names that server.
abbrev pub AreClosed : NodeCell → Type 0
AreClosed c = (volume server : ℕ) → serves_at c volume server ≡ true → listed_site c volume ≡ Some server
