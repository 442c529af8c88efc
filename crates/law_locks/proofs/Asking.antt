-- What an administrator asks under its stamp fits it: a call that writes an entry writes that of the stamp.
use Rattle.std.proofs.Common.{ℕ, List, refl}
use Rattle.std.specs.Prelude.{⊤}
use Rattle.afs_num.specs.declared.messages.Call.{Call}
use Rattle.afs_num.specs.declared.messages.Call.TheVariants as ask
use Rattle.spec_adminrows.specs.Acts.{asks_at}
use Rattle.spec_adminrows.specs.Asks.{family}
use Rattle.spec_adminrows.specs.Copying.{backup_asks, dump_asks}
use Rattle.spec_adminrows.specs.Creating.{create_asks}
use Rattle.spec_adminrows.specs.Moving.{move_asks}
use Rattle.spec_adminrows.specs.Recovering.{mend_asks}
use Rattle.spec_adminrows.specs.Releasing.{release_asks, tour_asks, visit_asks}
use Rattle.spec_adminrows.specs.Removing.{remove_asks, sweep_asks}
use Rattle.spec_adminrows.specs.declared.places.Backing.{Backing}
use Rattle.spec_adminrows.specs.declared.places.Backing.TheVariants as backing
use Rattle.spec_adminrows.specs.declared.places.Creating.{Creating}
use Rattle.spec_adminrows.specs.declared.places.Creating.TheVariants as creating
use Rattle.spec_adminrows.specs.declared.places.Dumping.{Dumping}
use Rattle.spec_adminrows.specs.declared.places.Dumping.TheVariants as dumping
use Rattle.spec_adminrows.specs.declared.places.Fresh.{Fresh}
use Rattle.spec_adminrows.specs.declared.places.Hold.{Hold}
use Rattle.spec_adminrows.specs.declared.places.Mend.{Mend}
use Rattle.spec_adminrows.specs.declared.places.Mending.{Mending}
use Rattle.spec_adminrows.specs.declared.places.Mending.TheVariants as mending
use Rattle.spec_adminrows.specs.declared.places.Moving.{Moving}
use Rattle.spec_adminrows.specs.declared.places.Moving.TheVariants as moving
use Rattle.spec_adminrows.specs.declared.places.Place.{Place}
use Rattle.spec_adminrows.specs.declared.places.Place.TheVariants as places
use Rattle.spec_adminrows.specs.declared.places.Releasing.{Releasing}
use Rattle.spec_adminrows.specs.declared.places.Releasing.TheVariants as releasing
use Rattle.spec_adminrows.specs.declared.places.Removing.{Removing}
use Rattle.spec_adminrows.specs.declared.places.Removing.TheVariants as removing
use Rattle.spec_adminrows.specs.declared.places.Saving.{Saving}
use Rattle.spec_adminrows.specs.declared.places.Spot.{Spot}
use Rattle.spec_adminrows.specs.declared.places.Sweeping.{Sweeping}
use Rattle.spec_adminrows.specs.declared.places.Sweeping.TheVariants as sweeping
use Rattle.spec_adminrows.specs.declared.places.Tour.{Tour}
use Rattle.spec_adminrows.specs.declared.places.Touring.{Touring}
use Rattle.spec_adminrows.specs.declared.places.Touring.TheVariants as touring
use Rattle.spec_adminrows.specs.declared.places.Trip.{Trip}
use Rattle.spec_adminrows.specs.declared.places.Visiting.{Visiting}
use Rattle.spec_adminrows.specs.declared.places.Visiting.TheVariants as visiting
use Rattle.spec_adminrows.specs.declared.turns.Ask.{Ask}
use Rattle.spec_adminrows.specs.declared.turns.Errand.{Errand}
use Rattle.law_locks.specs.Grips.{grip_at, GripIs}
use Rattle.law_locks.specs.Lines.{IsDrawnFor}
use Rattle.law_locks.proofs.Drawing.{CallFits}

abbrev pub Fits : (ℕ → ℕ) → ℕ → Call → Type 0
Fits entry_of stamp (ask.Location call) = CallFits entry_of stamp call
Fits entry_of stamp call = ⊤

module _ (entry_of : ℕ → ℕ) (next : ℕ) where
  abbrev AskFits : Ask → Type 0
  AskFits q = Fits entry_of q.stamp q.call

  abbrev Drawn : Hold → Type 0
  Drawn h = IsDrawnFor entry_of next (family h) h.stamp

  create_fits : (name : List ℕ) (f : Fresh) (step : Creating) → AskFits (create_asks name f step)
  create_fits name f creating.Numbers = tt
  create_fits name f (creating.Makes v) = tt
  create_fits name f (creating.Fills v t offset) = tt
  create_fits name f (creating.Closes v t) = tt
  create_fits name f (creating.Ends v t) = tt
  create_fits name f (creating.Enters v) = tt
  create_fits name f (creating.Checks v code) = tt
  create_fits name f (creating.Scraps v code) = tt
  create_fits name f (creating.Scrapped v code t) = tt
  create_fits name f (creating.Begins v stamp) = tt
  create_fits name f (creating.Opens v stamp t) = tt
  create_fits name f (creating.Opened v stamp t) = tt
  create_fits name f (creating.Frees v stamp) = tt

  backup_fits : (name : List ℕ) (h : Hold) (step : Backing) → Drawn h → AskFits (backup_asks name h step)
  backup_fits name h (backing.Writes id) d = (refl, d.1)
  backup_fits name h step d = tt

  dump_fits : (s : Saving) (step : Dumping) → AskFits (dump_asks s step)
  dump_fits s dumping.Stamps = tt
  dump_fits s dumping.Begins = tt
  dump_fits s (dumping.Reads t) = tt
  dump_fits s (dumping.Ends t) = tt

  release_fits : (h : Hold) (step : Releasing) → AskFits (release_asks h step)
  release_fits h releasing.Stamps = tt
  release_fits h releasing.Numbers = tt
  release_fits h (releasing.NumbersClone ro) = tt

  tour_fits : (name : List ℕ) (r : Tour) (step : Touring) → Drawn r.hold → AskFits (tour_asks name r step)
  tour_fits name r touring.Writes d = (refl, d.1)
  tour_fits name r step d = tt

  visit_fits : (name : List ℕ) (r : Tour) (s : ℕ) (step : Visiting) → AskFits (visit_asks name r s step)
  visit_fits name r s visiting.Stamps = tt
  visit_fits name r s visiting.Takes = tt
  visit_fits name r s visiting.Makes = tt
  visit_fits name r s (visiting.Opens t) = tt
  visit_fits name r s (visiting.Sends t x) = tt
  visit_fits name r s (visiting.Closes t x) = tt
  visit_fits name r s (visiting.Sets t) = tt
  visit_fits name r s (visiting.Ends t) = tt
  visit_fits name r s (visiting.Leaves code x) = tt

  move_fits : (name : List ℕ) (m : Trip) (step : Moving) → Drawn m.hold → AskFits (move_asks name m step)
  move_fits name m (moving.Decides new old) d = (refl, d.1)
  move_fits name m step d = tt

  remove_fits : (h : Hold) (step : Removing) → AskFits (remove_asks h step)
  remove_fits h removing.Begins = tt
  remove_fits h (removing.Fences t) = tt
  remove_fits h (removing.Decides t) = tt
  remove_fits h (removing.Deletes t) = tt

  sweep_fits : (h : Hold) (spot : Spot) (step : Sweeping) → AskFits (sweep_asks h spot step)
  sweep_fits h spot sweeping.Begins = tt
  sweep_fits h spot (sweeping.Deletes t) = tt

  mend_fits : (m : Mend) (step : Mending) → AskFits (mend_asks m step)
  mend_fits m (mending.Takes s) = tt
  mend_fits m (mending.Points s t) = tt
  mend_fits m (mending.Deletes s t) = tt
  mend_fits m (mending.Drops spot) = tt
  mend_fits m (mending.Dropped spot t) = tt
  mend_fits m mending.Begins = tt
  mend_fits m (mending.Opens t) = tt
  mend_fits m (mending.Ends t) = tt
  mend_fits m mending.Frees = tt

  pub asked_fits : (e : Errand) (p : Place) → GripIs (IsDrawnFor entry_of next) (grip_at p) → AskFits (asks_at e p)
  asked_fits e (places.Seeks c) d = tt
  asked_fits e (places.Locks c v) d = tt
  asked_fits e (places.Frees h code first) d = tt
  asked_fits e (places.Creates f step) d = create_fits _ f step
  asked_fits e (places.Adds h server) d = (refl, d.1)
  asked_fits e (places.Backs h step) d = backup_fits _ h step d
  asked_fits e (places.Dumps s step) d = dump_fits s step
  asked_fits e (places.Releases h step) d = release_fits h step
  asked_fits e (places.Tours r step) d = tour_fits _ r step d
  asked_fits e (places.Visits r s step) d = visit_fits _ r s step
  asked_fits e (places.Surveys h why s left seen) d = tt
  asked_fits e (places.Plans h target) d = tt
  asked_fits e (places.Moves m step) d = move_fits _ m step d
  asked_fits e (places.Removes h seen step) d = remove_fits h step
  asked_fits e (places.Sweeps h spot left step) d = sweep_fits h spot step
  asked_fits e (places.Asks c h seen) d = tt
  asked_fits e (places.Mends m step) d = mend_fits m step
