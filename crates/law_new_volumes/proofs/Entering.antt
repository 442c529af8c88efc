-- A creation goes on with the number that it was given, up to the question that asks for its entry; and never comes back to that question.
use Rattle.std.proofs.Common.{◌≡◌, ◌⊎◌, inl, inr, ℕ, List, Option, Some, None, refl, sym, ◌∙◌}
use Rattle.std.specs.Prelude.{⊤}
use Rattle.afs_num.specs.declared.location_calls.LocCall.{LocCall}
use Rattle.afs_num.specs.declared.location_calls.LocCall.TheVariants as calls
use Rattle.afs_num.specs.declared.location_calls.LocReply.TheVariants as entries
use Rattle.afs_num.specs.declared.messages.Call.{Call}
use Rattle.afs_num.specs.declared.messages.Call.TheVariants as ask
use Rattle.afs_num.specs.declared.messages.Carried.TheVariants as carried
use Rattle.afs_num.specs.declared.messages.Reply.{Reply}
use Rattle.afs_num.specs.declared.messages.Reply.TheVariants as tell
use Rattle.afs_num.specs.declared.types.Code.{Code}
use Rattle.afs_num.specs.declared.volume_calls.VolReply.TheVariants as volumes
use Rattle.spec_history.specs.declared.scripts.AdminAct.{AdminAct}
use Rattle.spec_dumps.specs.Streams.{is_last_at}
use Rattle.spec_volrows.specs.VolRow.{most_piece}
use Rattle.spec_adminrows.specs.Acts.{answered, asks_at, begins_with, refused}
use Rattle.spec_adminrows.specs.Copying.{backup_asks, dump_asks}
use Rattle.spec_adminrows.specs.Creating.{create_answered, create_asks, dump_in, fills_or_closes}
use Rattle.spec_adminrows.specs.Moving.{move_asks}
use Rattle.spec_adminrows.specs.Recovering.{mend_asks}
use Rattle.spec_adminrows.specs.Releasing.{release_asks, tour_asks, visit_asks}
use Rattle.spec_adminrows.specs.Removing.{remove_asks, sweep_asks}
use Rattle.spec_adminrows.specs.declared.places.Backing.{Backing}
use Rattle.spec_adminrows.specs.declared.places.Backing.TheVariants as backing
use Rattle.spec_adminrows.specs.declared.places.Creating.{Creating}
use Rattle.spec_adminrows.specs.declared.places.Creating.TheVariants as creating
use Rattle.spec_adminrows.specs.declared.places.Dumping.{Dumping}
use Rattle.spec_adminrows.specs.declared.places.Dumping.TheVariants as dumping
use Rattle.spec_adminrows.specs.declared.places.Fresh.{Fresh}
use Rattle.spec_adminrows.specs.declared.places.Hold.{Hold}
use Rattle.spec_adminrows.specs.declared.places.Mend.{Mend}
use Rattle.spec_adminrows.specs.declared.places.Mending.{Mending}
use Rattle.spec_adminrows.specs.declared.places.Mending.TheVariants as mending
use Rattle.spec_adminrows.specs.declared.places.Moving.{Moving}
use Rattle.spec_adminrows.specs.declared.places.Moving.TheVariants as moving
use Rattle.spec_adminrows.specs.declared.places.Place.{Place}
use Rattle.spec_adminrows.specs.declared.places.Place.TheVariants as places
use Rattle.spec_adminrows.specs.declared.places.Releasing.{Releasing}
use Rattle.spec_adminrows.specs.declared.places.Releasing.TheVariants as releasing
use Rattle.spec_adminrows.specs.declared.places.Removing.{Removing}
use Rattle.spec_adminrows.specs.declared.places.Removing.TheVariants as removing
use Rattle.spec_adminrows.specs.declared.places.Saving.{Saving}
use Rattle.spec_adminrows.specs.declared.places.Spot.{Spot}
use Rattle.spec_adminrows.specs.declared.places.Sweeping.{Sweeping}
use Rattle.spec_adminrows.specs.declared.places.Sweeping.TheVariants as sweeping
use Rattle.spec_adminrows.specs.declared.places.Tour.{Tour}
use Rattle.spec_adminrows.specs.declared.places.Touring.{Touring}
use Rattle.spec_adminrows.specs.declared.places.Touring.TheVariants as touring
use Rattle.spec_adminrows.specs.declared.places.Trip.{Trip}
use Rattle.spec_adminrows.specs.declared.places.Visiting.{Visiting}
use Rattle.spec_adminrows.specs.declared.places.Visiting.TheVariants as visiting
use Rattle.spec_adminrows.specs.declared.turns.Errand.{Errand}
use Rattle.law_walks.proofs.Places.{remove_is, sweep_is, TurnIs}
use Rattle.law_new_volumes.specs.GivenNumbers.{volume_number_in}
use Rattle.law_new_volumes.proofs.Plain.{answered_out, either, first_out, new_at, refused_out, IsPlain}

abbrev EntersIn : Creating → Type 0
EntersIn (creating.Enters v) = ⊤
EntersIn step = ⊥

-- it is the question that asks for the entry
abbrev pub IsEntering : Place → Type 0
IsEntering (places.Creates f step) = EntersIn step
IsEntering p = ⊥

-- Of a place behind one: it has the same number, and the one before didn't ask for the entry; or New is so of its number.
abbrev pub GoesOn : (ℕ → Type 0) → Place → Place → Type 0
GoesOn New p q = (v : ℕ) → new_at q ≡ Some v → New v ⊎ ((new_at p ≡ Some v) × (IsEntering p → ⊥))

module _ (New : ℕ → Type 0) where
  abbrev IsGiven : Reply → Type 0
  IsGiven reply = (id : ℕ) → volume_number_in (carried.Reply reply) ≡ Some id → New id

  none : (p q : Place) → new_at q ≡ None → GoesOn New p q
  none p q is v e = let no : None ≡ Some v = sym is ∙ e in absurd cc

  plain : (p q : Place) → IsPlain q → GoesOn New p q
  plain p q is = none p q is.not_new

  pub refused_goes : (p : Place) (code : Code) → TurnIs (GoesOn New p) (refused p code)
  refused_goes p code = refused_out (GoesOn New p) (plain p) p code

  pub first_goes : (p : Place) (act : AdminAct) (held : Option (List ℕ)) → TurnIs (GoesOn New p) (begins_with act held)
  first_goes p act held = first_out (GoesOn New p) (plain p) act held

  -- ---- a creation

  fills_goes : (f : Fresh) (v t : ℕ) (o : Option (List ℕ)) → TurnIs (GoesOn New (places.Creates f (creating.Makes v))) (fills_or_closes f v t o)
  fills_goes f v t None = λ w e. inr (e, λ x. x)
  fills_goes f v t (Some bytes) = λ w e. inr (e, λ x. x)

  create_goes : (f : Fresh) (step : Creating) (reply : Reply) → IsGiven reply → TurnIs (GoesOn New (places.Creates f step)) (create_answered f step reply)
  create_goes f creating.Numbers (tell.Location (entries.GetNewVolumeId v)) given = λ w e. inl (given w e)
  create_goes f (creating.Makes v) (tell.Volume (volumes.CreateVolume t)) given = fills_goes f v t f.dump
  create_goes f (creating.Fills v t offset) (tell.Volume volumes.Restore) given = either (GoesOn New (places.Creates f (creating.Fills v t offset))) (plain (places.Creates f (creating.Fills v t offset))) (is_last_at most_piece offset (dump_in f)) _ _ (λ w e. inr (e, λ x. x)) (λ w e. inr (e, λ x. x))
  create_goes f (creating.Closes v t) (tell.Volume volumes.SetFlags) given = λ w e. inr (e, λ x. x)
  create_goes f (creating.Ends v t) (tell.Volume volumes.EndTrans) given = λ w e. inr (e, λ x. x)
  create_goes f (creating.Enters v) (tell.Location (entries.CreateEntry stamp)) given = none (places.Creates f (creating.Enters v)) (places.Creates f (creating.Begins v stamp)) refl
  create_goes f (creating.Checks v code) (tell.Location (entries.GetEntryById n)) given = tt
  create_goes f (creating.Scraps v code) (tell.Volume (volumes.TransCreate t)) given = none (places.Creates f (creating.Scraps v code)) (places.Creates f (creating.Scrapped v code t)) refl
  create_goes f (creating.Scrapped v code t) (tell.Volume volumes.DeleteVolume) given = tt
  create_goes f (creating.Begins v stamp) (tell.Volume (volumes.TransCreate t)) given = none (places.Creates f (creating.Begins v stamp)) (places.Creates f (creating.Opens v stamp t)) refl
  create_goes f (creating.Opens v stamp t) (tell.Volume volumes.SetFlags) given = none (places.Creates f (creating.Opens v stamp t)) (places.Creates f (creating.Opened v stamp t)) refl
  create_goes f (creating.Opened v stamp t) (tell.Volume volumes.EndTrans) given = none (places.Creates f (creating.Opened v stamp t)) (places.Creates f (creating.Frees v stamp)) refl
  create_goes f (creating.Frees v stamp) (tell.Location entries.ReleaseLock) given = tt
  create_goes f step reply given = tt

  -- ---- a removal makes none

  -- behind every answer
  pub answered_goes : (e : Errand) (p : Place) (reply : Reply) → IsGiven reply → TurnIs (GoesOn New p) (answered e p reply)
  answered_goes e (places.Creates f step) reply given = create_goes f step reply given
  answered_goes e (places.Removes h seen step) reply given = remove_is (GoesOn New (places.Removes h seen step)) h seen step reply (λ at. none (places.Removes h seen step) (places.Removes h seen at) refl) (λ spot left at. none (places.Removes h seen step) (places.Sweeps h spot left at) refl)
  answered_goes e (places.Sweeps h one rest step) reply given = sweep_is (GoesOn New (places.Sweeps h one rest step)) h one rest step reply (λ spot left at. none (places.Sweeps h one rest step) (places.Sweeps h spot left at) refl)
  answered_goes e (places.Seeks cause) reply given = answered_out (GoesOn New (places.Seeks cause)) (plain (places.Seeks cause)) e (places.Seeks cause) reply tt
  answered_goes e (places.Locks cause v) reply given = answered_out (GoesOn New (places.Locks cause v)) (plain (places.Locks cause v)) e (places.Locks cause v) reply tt
  answered_goes e (places.Frees h code first) reply given = answered_out (GoesOn New (places.Frees h code first)) (plain (places.Frees h code first)) e (places.Frees h code first) reply tt
  answered_goes e (places.Adds h server) reply given = answered_out (GoesOn New (places.Adds h server)) (plain (places.Adds h server)) e (places.Adds h server) reply tt
  answered_goes e (places.Backs h step) reply given = answered_out (GoesOn New (places.Backs h step)) (plain (places.Backs h step)) e (places.Backs h step) reply tt
  answered_goes e (places.Dumps s step) reply given = answered_out (GoesOn New (places.Dumps s step)) (plain (places.Dumps s step)) e (places.Dumps s step) reply tt
  answered_goes e (places.Releases h step) reply given = answered_out (GoesOn New (places.Releases h step)) (plain (places.Releases h step)) e (places.Releases h step) reply tt
  answered_goes e (places.Tours r step) reply given = answered_out (GoesOn New (places.Tours r step)) (plain (places.Tours r step)) e (places.Tours r step) reply tt
  answered_goes e (places.Visits r s step) reply given = answered_out (GoesOn New (places.Visits r s step)) (plain (places.Visits r s step)) e (places.Visits r s step) reply tt
  answered_goes e (places.Surveys h why s left seen) reply given = answered_out (GoesOn New (places.Surveys h why s left seen)) (plain (places.Surveys h why s left seen)) e (places.Surveys h why s left seen) reply tt
  answered_goes e (places.Plans h target) reply given = answered_out (GoesOn New (places.Plans h target)) (plain (places.Plans h target)) e (places.Plans h target) reply tt
  answered_goes e (places.Moves m step) reply given = answered_out (GoesOn New (places.Moves m step)) (plain (places.Moves m step)) e (places.Moves m step) reply tt
  answered_goes e (places.Asks cause h seen) reply given = answered_out (GoesOn New (places.Asks cause h seen)) (plain (places.Asks cause h seen)) e (places.Asks cause h seen) reply tt
  answered_goes e (places.Mends m step) reply given = answered_out (GoesOn New (places.Mends m step)) (plain (places.Mends m step)) e (places.Mends m step) reply tt

-- ---- who asks for an entry: a creation, of its own number

abbrev MakesEntryAt : Place → LocCall → Type 0
MakesEntryAt p (calls.CreateEntry e) = (f : Fresh) × (p ≡ places.Creates f (creating.Enters e.read_write))
MakesEntryAt p call = ⊤

abbrev pub MakesAt : Place → Call → Type 0
MakesAt p (ask.Location call) = MakesEntryAt p call
MakesAt p (ask.File call) = ⊤
MakesAt p (ask.Volume call) = ⊤

create_asked : (name : List ℕ) (f : Fresh) (at : Creating) → MakesAt (places.Creates f at) (create_asks name f at).call
create_asked name f (creating.Enters v) = (f, refl)
create_asked name f creating.Numbers = tt
create_asked name f at = tt

backup_asked : (p : Place) (name : List ℕ) (h : Hold) (at : Backing) → MakesAt p (backup_asks name h at).call
backup_asked p name h backing.Stamps = tt
backup_asked p name h at = tt

dump_asked : (p : Place) (s : Saving) (at : Dumping) → MakesAt p (dump_asks s at).call
dump_asked p s dumping.Stamps = tt
dump_asked p s at = tt

release_asked : (p : Place) (h : Hold) (at : Releasing) → MakesAt p (release_asks h at).call
release_asked p h releasing.Stamps = tt
release_asked p h at = tt

tour_asked : (p : Place) (name : List ℕ) (r : Tour) (at : Touring) → MakesAt p (tour_asks name r at).call
tour_asked p name r touring.Begins = tt
tour_asked p name r at = tt

visit_asked : (p : Place) (name : List ℕ) (r : Tour) (s : ℕ) (at : Visiting) → MakesAt p (visit_asks name r s at).call
visit_asked p name r s visiting.Stamps = tt
visit_asked p name r s at = tt

move_asked : (p : Place) (name : List ℕ) (m : Trip) (at : Moving) → MakesAt p (move_asks name m at).call
move_asked p name m moving.Begins = tt
move_asked p name m at = tt

remove_asked : (p : Place) (h : Hold) (at : Removing) → MakesAt p (remove_asks h at).call
remove_asked p h removing.Begins = tt
remove_asked p h at = tt

sweep_asked : (p : Place) (h : Hold) (spot : Spot) (at : Sweeping) → MakesAt p (sweep_asks h spot at).call
sweep_asked p h spot sweeping.Begins = tt
sweep_asked p h spot at = tt

mend_asked : (p : Place) (m : Mend) (at : Mending) → MakesAt p (mend_asks m at).call
mend_asked p m mending.Begins = tt
mend_asked p m at = tt

pub asked_makes : (e : Errand) (p : Place) → MakesAt p (asks_at e p).call
asked_makes e (places.Seeks c) = tt
asked_makes e (places.Locks c v) = tt
asked_makes e (places.Frees h code first) = tt
asked_makes e (places.Creates f at) = create_asked _ f at
asked_makes e (places.Adds h server) = tt
asked_makes e (places.Backs h at) = backup_asked (places.Backs h at) _ h at
asked_makes e (places.Dumps s at) = dump_asked (places.Dumps s at) s at
asked_makes e (places.Releases h at) = release_asked (places.Releases h at) h at
asked_makes e (places.Tours r at) = tour_asked (places.Tours r at) _ r at
asked_makes e (places.Visits r s at) = visit_asked (places.Visits r s at) _ r s at
asked_makes e (places.Surveys h why s left seen) = tt
asked_makes e (places.Plans h target) = tt
asked_makes e (places.Moves m at) = move_asked (places.Moves m at) _ m at
asked_makes e (places.Removes h seen at) = remove_asked (places.Removes h seen at) h at
asked_makes e (places.Sweeps h spot left at) = sweep_asked (places.Sweeps h spot left at) h spot at
asked_makes e (places.Asks c h seen) = tt
asked_makes e (places.Mends m at) = mend_asked (places.Mends m at) m at
