-- From place to place the numbers of an act stay sound, where replies tell sound entries and new numbers.
use Rattle.std.proofs.Common.{◌≡◌, ◌≤◌, ◌<◌, ℕ, Bool, true, false, cond, List, [], ◌∷◌, ◌++◌, map, Option, Some, None, refl, arith}
use Rattle.std.specs.Prelude.{⊤, nat_eq}
use Rattle.afs_num.specs.declared.location_calls.LocReply.{LocReply}
use Rattle.afs_num.specs.declared.location_calls.LocReply.TheVariants as entries
use Rattle.afs_num.specs.declared.messages.Call.{Call}
use Rattle.afs_num.specs.declared.messages.Call.TheVariants as ask
use Rattle.afs_num.specs.declared.messages.Reply.{Reply}
use Rattle.afs_num.specs.declared.messages.Reply.TheVariants as tell
use Rattle.afs_num.specs.declared.types.Code.{Code}
use Rattle.afs_num.specs.declared.volume_calls.VolReply.TheVariants as volumes
use Rattle.spec_history.specs.declared.scripts.AdminAct.{AdminAct}
use Rattle.spec_history.specs.declared.scripts.AdminAct.TheVariants as acts
use Rattle.spec_dumps.specs.Streams.{is_last_at}
use Rattle.spec_volrows.specs.VolRow.{most_piece}
use Rattle.spec_adminrows.specs.Acts.{answered, asks_at, begins_with, can_go_on, creates_from, free_answered, goes_on_locked, lock_answered, locked, refused, seek_answered}
use Rattle.spec_adminrows.specs.Asks.{all_servers, home}
use Rattle.spec_adminrows.specs.Copying.{add_answered, backup_answered, backup_asks, dump_asks}
use Rattle.spec_adminrows.specs.Creating.{create_answered, create_asks, create_refused, dump_in, fills_or_closes}
use Rattle.spec_adminrows.specs.Entries.{has_read_only_at, is_usable}
use Rattle.spec_adminrows.specs.Moving.{move_asks, plan_answered}
use Rattle.spec_adminrows.specs.Recovering.{entry_answered, mend_asks, mend_of}
use Rattle.spec_adminrows.specs.Releasing.{goes_to, is_listed, release_answered, release_asks, skips, tour_answered, tour_asks, visit_answered, visit_asks, visit_refused}
use Rattle.std.specs.List.{list_any}
use Rattle.spec_adminrows.specs.Removing.{remove_asks, sweep_asks}
use Rattle.spec_adminrows.specs.Surveying.{seen_by, survey_answered, surveyed, surveys}
use Rattle.spec_adminrows.specs.Turns.{code_or, is_dead, is_superseded, is_unlisted}
use Rattle.spec_adminrows.specs.declared.places.Backing.{Backing}
use Rattle.spec_adminrows.specs.declared.places.Backing.TheVariants as backing
use Rattle.spec_adminrows.specs.declared.places.Cause.{Cause}
use Rattle.spec_adminrows.specs.declared.places.Cause.TheVariants as causes
use Rattle.spec_adminrows.specs.declared.places.Creating.{Creating}
use Rattle.spec_adminrows.specs.declared.places.Creating.TheVariants as creating
use Rattle.spec_adminrows.specs.declared.places.Dumping.{Dumping}
use Rattle.spec_adminrows.specs.declared.places.Dumping.TheVariants as dumping
use Rattle.spec_adminrows.specs.declared.places.Fresh.{Fresh}
use Rattle.spec_adminrows.specs.declared.places.Hold.{Hold}
use Rattle.spec_adminrows.specs.declared.places.Mend.{Mend}
use Rattle.spec_adminrows.specs.declared.places.Mending.{Mending}
use Rattle.spec_adminrows.specs.declared.places.Mending.TheVariants as mending
use Rattle.spec_adminrows.specs.declared.places.Moving.{Moving}
use Rattle.spec_adminrows.specs.declared.places.Moving.TheVariants as moving
use Rattle.spec_adminrows.specs.declared.places.Place.{Place}
use Rattle.spec_adminrows.specs.declared.places.Place.TheVariants as places
use Rattle.spec_adminrows.specs.declared.places.Purpose.{Purpose}
use Rattle.spec_adminrows.specs.declared.places.Purpose.TheVariants as purposes
use Rattle.spec_adminrows.specs.declared.places.Releasing.{Releasing}
use Rattle.spec_adminrows.specs.declared.places.Releasing.TheVariants as releasing
use Rattle.spec_adminrows.specs.declared.places.Removing.{Removing}
use Rattle.spec_adminrows.specs.declared.places.Removing.TheVariants as removing
use Rattle.spec_adminrows.specs.declared.places.Saving.{Saving}
use Rattle.spec_adminrows.specs.declared.places.Seen.{Seen}
use Rattle.spec_adminrows.specs.declared.places.Spot.{Spot}
use Rattle.spec_adminrows.specs.declared.places.Sweeping.{Sweeping}
use Rattle.spec_adminrows.specs.declared.places.Sweeping.TheVariants as sweeping
use Rattle.spec_adminrows.specs.declared.places.Tour.{Tour}
use Rattle.spec_adminrows.specs.declared.places.Touring.{Touring}
use Rattle.spec_adminrows.specs.declared.places.Touring.TheVariants as touring
use Rattle.spec_adminrows.specs.declared.places.Trip.{Trip}
use Rattle.spec_adminrows.specs.declared.places.Visiting.{Visiting}
use Rattle.spec_adminrows.specs.declared.places.Visiting.TheVariants as visiting
use Rattle.spec_adminrows.specs.declared.turns.Errand.{Errand}
use Rattle.spec_adminrows.specs.declared.turns.Turn.{Turn}
use Rattle.spec_adminrows.specs.declared.turns.Turn.TheVariants as turns
use Rattle.law_walks.proofs.Places.{dump_is, ends_is, fails_is, mend_is, move_is, remove_is, seek_fails_is, survey_refused_is, sweep_is, takes_is, TurnIs}
use Rattle.law_numbers.specs.Numbers.{CreationIsSound, HoldIsSound, IsDrawn, IsOther, IsSound, PlaceIsSound, ReleaseIsSound, TourIsSound, WritesSound}
use Rattle.law_numbers.proofs.Drawing.{still_drawn, still_sound}

-- ---- further numbers are drawn

module _ (n m : ℕ) (le : n ≤ m) where
  still_created : (step : Creating) → CreationIsSound n step → CreationIsSound m step
  still_created creating.Numbers h = tt
  still_created (creating.Makes v) h = still_drawn n m v le h
  still_created (creating.Fills v t offset) h = still_drawn n m v le h
  still_created (creating.Closes v t) h = still_drawn n m v le h
  still_created (creating.Ends v t) h = still_drawn n m v le h
  still_created (creating.Enters v) h = still_drawn n m v le h
  still_created (creating.Checks v code) h = still_drawn n m v le h
  still_created (creating.Scraps v code) h = still_drawn n m v le h
  still_created (creating.Scrapped v code t) h = still_drawn n m v le h
  still_created (creating.Begins v stamp) h = still_drawn n m v le h
  still_created (creating.Opens v stamp t) h = still_drawn n m v le h
  still_created (creating.Opened v stamp t) h = still_drawn n m v le h
  still_created (creating.Frees v stamp) h = still_drawn n m v le h

  still_released : (h : Hold) (step : Releasing) → ReleaseIsSound n h step → ReleaseIsSound m h step
  still_released h releasing.Stamps k = still_sound n m h.entry le k
  still_released h releasing.Numbers k = still_sound n m h.entry le k
  still_released h (releasing.NumbersClone read_only) k = (still_sound n m h.entry le k.0, k.1)

  pub still_place : (p : Place) → PlaceIsSound n p → PlaceIsSound m p
  still_place (places.Creates f step) k = still_created step k
  still_place (places.Adds h server) k = still_sound n m h.entry le k
  still_place (places.Backs h step) k = (still_sound n m h.entry le k.0, k.1)
  still_place (places.Dumps s step) k = still_sound n m s.hold.entry le k
  still_place (places.Releases h step) k = still_released h step k
  still_place (places.Tours r step) k = (still_sound n m r.hold.entry le k.0, k.1)
  still_place (places.Visits r s step) k = (still_sound n m r.hold.entry le k.0, k.1)
  still_place (places.Surveys h why s left seen) k = still_sound n m h.entry le k
  still_place (places.Plans h target) k = still_sound n m h.entry le k
  still_place (places.Moves x step) k = (still_sound n m x.hold.entry le k.0, k.1)
  still_place (places.Removes h seen step) k = still_sound n m h.entry le k
  still_place (places.Sweeps h spot left step) k = still_sound n m h.entry le k
  still_place (places.Asks cause h seen) k = still_sound n m h.entry le k
  still_place p k = tt

-- a number that a release may take for its read-only volume, a backup for the new one, and a move for its clone
abbrev pub IsNewAt : ℕ → Place → Type 0
IsNewAt k (places.Backs h step) = IsOther k h
IsNewAt k (places.Releases h step) = IsOther k h
IsNewAt k (places.Plans h target) = IsOther k h
IsNewAt k p = ⊤

-- the next one is such a number
new_by : (n k : ℕ) (h : Hold) → k ≡ n → HoldIsSound n h → IsOther k h
new_by n k h is sound e = let low : h.entry.read_write < n = sound.0.1 in omega (arith, is, low, e)

pub new_at : (n k : ℕ) (p : Place) → k ≡ n → PlaceIsSound n p → IsNewAt k p
new_at n k (places.Backs h step) is sound = new_by n k h is sound.0
new_at n k (places.Plans h target) is sound = new_by n k h is sound
new_at n k (places.Releases h releasing.Stamps) is sound = new_by n k h is sound
new_at n k (places.Releases h releasing.Numbers) is sound = new_by n k h is sound
new_at n k (places.Releases h (releasing.NumbersClone read_only)) is sound = new_by n k h is sound.0
new_at n k p is sound = tt

-- ---- what is asked

module _ (n : ℕ) where
  -- what a call carries
  abbrev pub AsksSound : Call → Type 0
  AsksSound (ask.Location call) = WritesSound n call
  AsksSound (ask.File call) = ⊤
  AsksSound (ask.Volume call) = ⊤

  -- 0 is no number of a family
  none_is : (v : ℕ) → IsDrawn n v → 0 ≡ v → ⊥
  none_is v h e = let low : 1 ≤ v = h.0 in omega (arith, low, e)

  create_asked : (name : List ℕ) (f : Fresh) (step : Creating) → CreationIsSound n step → AsksSound (create_asks name f step).call
  create_asked name f creating.Numbers h = tt
  create_asked name f (creating.Enters v) h = (h, none_is v h)
  create_asked name f (creating.Checks v code) h = tt
  create_asked name f (creating.Frees v stamp) h = tt
  create_asked name f step h = tt

  backup_asked : (name : List ℕ) (h : Hold) (step : Backing) → HoldIsSound n h → AsksSound (backup_asks name h step).call
  backup_asked name h (backing.Numbers t) k = tt
  backup_asked name h (backing.Writes id) k = (k, refl)
  backup_asked name h step k = tt

  dump_asked : (s : Saving) (step : Dumping) → AsksSound (dump_asks s step).call
  dump_asked s dumping.Stamps = tt
  dump_asked s step = tt

  release_asked : (h : Hold) (step : Releasing) → AsksSound (release_asks h step).call
  release_asked h releasing.Stamps = tt
  release_asked h releasing.Numbers = tt
  release_asked h (releasing.NumbersClone read_only) = tt

  tour_asked : (name : List ℕ) (r : Tour) (step : Touring) → TourIsSound n r → AsksSound (tour_asks name r step).call
  tour_asked name r touring.Writes k = ((k.0.0, k.1), refl)
  tour_asked name r step k = tt

  visit_asked : (name : List ℕ) (r : Tour) (s : ℕ) (step : Visiting) → AsksSound (visit_asks name r s step).call
  visit_asked name r s visiting.Stamps = tt
  visit_asked name r s step = tt

  move_asked : (name : List ℕ) (m : Trip) (step : Moving) → HoldIsSound n m.hold → AsksSound (move_asks name m step).call
  move_asked name m (moving.Decides new old) k = (k, refl)
  move_asked name m step k = tt

  remove_asked : (h : Hold) (step : Removing) → AsksSound (remove_asks h step).call
  remove_asked h (removing.Decides t) = tt
  remove_asked h step = tt

  sweep_asked : (h : Hold) (spot : Spot) (step : Sweeping) → AsksSound (sweep_asks h spot step).call
  sweep_asked h spot sweeping.Begins = tt
  sweep_asked h spot step = tt

  mend_asked : (m : Mend) (step : Mending) → AsksSound (mend_asks m step).call
  mend_asked m mending.Frees = tt
  mend_asked m step = tt

  pub asked : (e : Errand) (p : Place) → PlaceIsSound n p → AsksSound (asks_at e p).call
  asked e (places.Seeks c) k = tt
  asked e (places.Locks c v) k = tt
  asked e (places.Frees h code first) k = tt
  asked e (places.Creates f step) k = create_asked _ f step k
  asked e (places.Adds h server) k = (k, refl)
  asked e (places.Backs h step) k = backup_asked _ h step k.0
  asked e (places.Dumps s step) k = dump_asked s step
  asked e (places.Releases h step) k = release_asked h step
  asked e (places.Tours r step) k = tour_asked _ r step k
  asked e (places.Visits r s step) k = visit_asked _ r s step
  asked e (places.Surveys h why s left seen) k = tt
  asked e (places.Plans h target) k = tt
  asked e (places.Moves m step) k = move_asked _ m step k.0
  asked e (places.Removes h seen step) k = remove_asked h step
  asked e (places.Sweeps h spot left step) k = sweep_asked h spot step
  asked e (places.Asks c h seen) k = tt
  asked e (places.Mends m step) k = mend_asked m step

  -- ---- where answers lead

  abbrev F : Place → Type 0
  F p = PlaceIsSound n p

  -- what a reply that counts tells
  abbrev pub TellsAt : Place → LocReply → Type 0
  TellsAt p (entries.SetLock stamp e) = IsSound n e
  TellsAt p (entries.GetNewVolumeId k) = IsDrawn n k × IsNewAt k p
  TellsAt p reply = ⊤

  abbrev pub RepliesAt : Place → Reply → Type 0
  RepliesAt p (tell.Location reply) = TellsAt p reply
  RepliesAt p (tell.File reply) = ⊤
  RepliesAt p (tell.Volume reply) = ⊤

  either : (b : Bool) (x y : Turn) → TurnIs F x → TurnIs F y → TurnIs F (cond b x y)
  either true x y h k = h
  either false x y h k = k

  surveyed_is : (h : Hold) (why : Purpose) (seen : List Seen) → HoldIsSound n h → TurnIs F (surveyed h why seen)
  surveyed_is h (purposes.Moves target) seen k = k
  surveyed_is h purposes.Removes seen k = k
  surveyed_is h (purposes.Mends cause) seen k = k

  surveys_is : (h : Hold) (why : Purpose) (left : List ℕ) (seen : List Seen) → HoldIsSound n h → TurnIs F (surveys h why left seen)
  surveys_is h why [] seen k = surveyed_is h why seen k
  surveys_is h why (s ∷ left) seen k = k

  survey_is : (h : Hold) (why : Purpose) (s : ℕ) (left : List ℕ) (seen : List Seen) (reply : Reply) → HoldIsSound n h → TurnIs F (survey_answered h why s left seen reply)
  survey_is h why s left seen (tell.Volume (volumes.ListVols ls)) k = surveys_is h why left (seen ++ map (seen_by s) ls) k
  survey_is h why s left seen reply k = tt

  goes_is : (e : Errand) (h : Hold) (act : AdminAct) → HoldIsSound n h → TurnIs F (goes_on_locked e h act)
  goes_is e h (acts.Create name server quota) k = tt
  goes_is e h (acts.Restore name server label) k = tt
  goes_is e h (acts.AddSite name server) k = either (has_read_only_at server h.entry) _ _ tt k
  goes_is e h (acts.Backup name) k = (k, tt)
  goes_is e h (acts.Release name) k = k
  goes_is e h (acts.Move name server) k = either (nat_eq server (home h)) _ _ tt (surveys_is h (purposes.Moves server) (all_servers e) [] k)
  goes_is e h (acts.Dump name label from) k = k
  goes_is e h (acts.Remove name) k = surveys_is h purposes.Removes (all_servers e) [] k
  goes_is e h (acts.Recover name) k = surveys_is h (purposes.Mends causes.Asked) (all_servers e) [] k

  locked_is : (e : Errand) (h : Hold) (cause : Cause) → HoldIsSound n h → TurnIs F (locked e h cause)
  locked_is e h causes.Asked k = goes_is e h e.act k
  locked_is e h (causes.After code) k = surveys_is h (purposes.Mends (causes.After code)) (all_servers e) [] k

  lock_is : (e : Errand) (cause : Cause) (v : ℕ) (reply : Reply) → RepliesAt (places.Locks cause v) reply → TurnIs F (lock_answered e cause reply)
  lock_is e cause v (tell.Location (entries.SetLock stamp x)) told = either (can_go_on e x) _ turns.Passes (locked_is e (record { entry = x; stamp = stamp }) cause told) tt
  lock_is e cause v reply told = tt

  seek_is : (cause : Cause) (reply : Reply) → TurnIs F (seek_answered cause reply)
  seek_is cause (tell.Location (entries.GetEntryByName x)) = tt
  seek_is cause reply = tt

  free_is : (code : Code) (reply : Reply) → TurnIs F (free_answered code reply)
  free_is code (tell.Location entries.ReleaseLock) = tt
  free_is code reply = tt

  add_is : (h : Hold) (reply : Reply) → TurnIs F (add_answered h reply)
  add_is h (tell.Location entries.ReplaceEntry) = tt
  add_is h reply = tt

  -- a new backup, and a move's clone, have numbers of their own
  backup_is : (h : Hold) (step : Backing) (reply : Reply) → HoldIsSound n h → RepliesAt (places.Backs h step) reply → TurnIs F (backup_answered h step reply)
  backup_is h backing.Stamps (tell.Volume (volumes.ListVols ls)) k told = (k, tt)
  backup_is h backing.Begins (tell.Volume (volumes.TransCreate t)) k told = either (nat_eq h.entry.backup 0) _ _ (k, tt) (k, tt)
  backup_is h (backing.Numbers t) (tell.Location (entries.GetNewVolumeId id)) k told = (k, told.1)
  backup_is h (backing.Clones t id) (tell.Volume (volumes.Clone counter release)) k told = (k, tt)
  backup_is h (backing.Renews t id) (tell.Volume (volumes.ReClone counter release)) k told = (k, tt)
  backup_is h (backing.Ends t id) (tell.Volume volumes.EndTrans) k told = (k, tt)
  backup_is h (backing.Writes id) (tell.Location entries.ReplaceEntry) k told = tt
  backup_is h step reply k told = tt

  plan_is : (h : Hold) (target : ℕ) (reply : Reply) → HoldIsSound n h → RepliesAt (places.Plans h target) reply → TurnIs F (plan_answered h target reply)
  plan_is h target (tell.Location (entries.GetNewVolumeId x)) k told = (k, told.1)
  plan_is h target reply k told = tt

  entry_is : (e : Errand) (cause : Cause) (h : Hold) (seen : List Seen) (reply : Reply) → TurnIs F (entry_answered e cause h seen reply)
  entry_is e cause h seen (tell.Location (entries.GetEntryById x)) =
      let m : Mend = mend_of e cause h seen x in either (is_usable x) _ turns.Passes (takes_is F m m.copies (λ copies others step. tt)) tt
  entry_is e cause h seen reply = tt

  -- a new volume has the number that was drawn
  filled_is : (f : Fresh) (v t : ℕ) (o : Option (List ℕ)) → IsDrawn n v → TurnIs F (fills_or_closes f v t o)
  filled_is f v t None k = k
  filled_is f v t (Some bytes) k = k

  create_is : (f : Fresh) (step : Creating) (reply : Reply) → CreationIsSound n step → RepliesAt (places.Creates f step) reply → TurnIs F (create_answered f step reply)
  create_is f creating.Numbers (tell.Location (entries.GetNewVolumeId v)) k told = told.0
  create_is f (creating.Makes v) (tell.Volume (volumes.CreateVolume t)) k told = filled_is f v t f.dump k
  create_is f (creating.Fills v t offset) (tell.Volume volumes.Restore) k told = either (is_last_at most_piece offset (dump_in f)) _ _ k k
  create_is f (creating.Closes v t) (tell.Volume volumes.SetFlags) k told = k
  create_is f (creating.Ends v t) (tell.Volume volumes.EndTrans) k told = k
  create_is f (creating.Enters v) (tell.Location (entries.CreateEntry stamp)) k told = k
  create_is f (creating.Checks v code) (tell.Location (entries.GetEntryById x)) k told = tt
  create_is f (creating.Scraps v code) (tell.Volume (volumes.TransCreate t)) k told = k
  create_is f (creating.Scrapped v code t) (tell.Volume volumes.DeleteVolume) k told = tt
  create_is f (creating.Begins v stamp) (tell.Volume (volumes.TransCreate t)) k told = k
  create_is f (creating.Opens v stamp t) (tell.Volume volumes.SetFlags) k told = k
  create_is f (creating.Opened v stamp t) (tell.Volume volumes.EndTrans) k told = k
  create_is f (creating.Frees v stamp) (tell.Location entries.ReleaseLock) k told = tt
  create_is f step reply k told = tt

  create_refused_is : (f : Fresh) (step : Creating) (code : Code) → CreationIsSound n step → TurnIs F (create_refused f step code)
  create_refused_is f (creating.Enters v) code k = either (is_dead code) (turns.Ends code) _ tt k
  create_refused_is f (creating.Checks v first) code k = either (is_unlisted code) _ (turns.Ends first) k tt
  create_refused_is f (creating.Scraps v first) code k = tt
  create_refused_is f (creating.Scrapped v first t) code k = tt
  create_refused_is f (creating.Begins v stamp) code k = fails_is F None code (λ cause. tt)
  create_refused_is f (creating.Opens v stamp t) code k = fails_is F None code (λ cause. tt)
  create_refused_is f (creating.Opened v stamp t) code k = fails_is F None code (λ cause. tt)
  create_refused_is f (creating.Frees v stamp) code k = fails_is F None code (λ cause. tt)
  create_refused_is f step code k = tt

  -- a release's read-only volume has a number of its own
  release_is : (h : Hold) (step : Releasing) (reply : Reply) → ReleaseIsSound n h step → RepliesAt (places.Releases h step) reply → TurnIs F (release_answered h step reply)
  release_is h releasing.Stamps (tell.Volume (volumes.ListVols ls)) k told = either (nat_eq h.entry.read_only 0) _ _ k (k, k.1)
  release_is h releasing.Numbers (tell.Location (entries.GetNewVolumeId x)) k told = (k, told.1)
  release_is h (releasing.NumbersClone read_only) (tell.Location (entries.GetNewVolumeId x)) k told = k
  release_is h step reply k told = tt

  to_is : (r : Tour) (left : List ℕ) → TourIsSound n r → TurnIs F (goes_to r left)
  to_is r [] k = k
  to_is r (s ∷ left) k = k

  tour_is : (r : Tour) (step : Touring) (reply : Reply) → TourIsSound n r → TurnIs F (tour_answered r step reply)
  tour_is r touring.Begins (tell.Volume (volumes.TransCreate t)) k = k
  tour_is r (touring.Clones t) (tell.Volume (volumes.Clone counter release)) k = k
  tour_is r (touring.Cloned t) (tell.Volume volumes.EndTrans) k = to_is r r.left k
  tour_is r touring.Drops (tell.Volume (volumes.TransCreate t)) k = k
  tour_is r (touring.Dropped t) (tell.Volume volumes.DeleteVolume) k = k
  tour_is r touring.Writes (tell.Location entries.ReplaceEntry) k = tt
  tour_is r step reply k = tt

  skips_is : (r : Tour) (code : Code) → TourIsSound n r → TurnIs F (skips r code)
  skips_is r code k = to_is (record r { first = Some (code_or code r.first) }) r.left k

  visit_is : (r : Tour) (s : ℕ) (step : Visiting) (reply : Reply) → TourIsSound n r → TurnIs F (visit_answered r s step reply)
  visit_is r s visiting.Stamps (tell.Volume (volumes.ListVols ls)) k = either (list_any (is_listed r.read_only) ls) _ _ k k
  visit_is r s visiting.Takes (tell.Volume (volumes.TransCreate t)) k = k
  visit_is r s visiting.Makes (tell.Volume (volumes.CreateVolume t)) k = k
  visit_is r s (visiting.Opens t) (tell.Volume (volumes.TransCreate x)) k = k
  visit_is r s (visiting.Sends t x) (tell.Volume volumes.Forward) k = k
  visit_is r s (visiting.Closes t x) (tell.Volume volumes.EndTrans) k = k
  visit_is r s (visiting.Sets t) (tell.Volume volumes.SetFlags) k = k
  visit_is r s (visiting.Ends t) (tell.Volume volumes.EndTrans) k = to_is (record r { reached = r.reached ++ s ∷ [] }) r.left k
  visit_is r s (visiting.Leaves code x) (tell.Volume volumes.EndTrans) k = skips_is r code k
  visit_is r s step reply k = tt

  visit_refused_is : (r : Tour) (s : ℕ) (step : Visiting) (code : Code) → TourIsSound n r → TurnIs F (visit_refused r s step code)
  visit_refused_is r s (visiting.Sends t x) code k = either (is_superseded code) (turns.Ends code) _ tt k
  visit_refused_is r s (visiting.Leaves first x) code k = either (is_superseded code) (turns.Ends code) _ tt (skips_is r first k)
  visit_refused_is r s step code k = either (is_superseded code) (turns.Ends code) _ tt (skips_is r code k)

  -- ---- behind a reply, behind a refusal, and at first

  pub answered_is : (e : Errand) (p : Place) (reply : Reply) → PlaceIsSound n p → RepliesAt p reply → TurnIs F (answered e p reply)
  answered_is e (places.Seeks cause) reply k told = seek_is cause reply
  answered_is e (places.Locks cause v) reply k told = lock_is e cause v reply told
  answered_is e (places.Frees h code first) reply k told = free_is code reply
  answered_is e (places.Creates f step) reply k told = create_is f step reply k told
  answered_is e (places.Adds h server) reply k told = add_is h reply
  answered_is e (places.Backs h step) reply k told = backup_is h step reply k.0 told
  answered_is e (places.Dumps s step) reply k told = dump_is F s step reply (λ bytes step. k) tt
  answered_is e (places.Releases h step) reply k told = release_is h step reply k told
  answered_is e (places.Tours r step) reply k told = tour_is r step reply k
  answered_is e (places.Visits r s step) reply k told = visit_is r s step reply k
  answered_is e (places.Surveys h why s left seen) reply k told = survey_is h why s left seen reply k
  answered_is e (places.Plans h target) reply k told = plan_is h target reply k told
  answered_is e (places.Moves m step) reply k told = move_is F m step reply (λ step. k) tt
  answered_is e (places.Removes h seen step) reply k told = remove_is F h seen step reply (λ step. k) (λ spot left step. k)
  answered_is e (places.Sweeps h spot left step) reply k told = sweep_is F h spot left step reply (λ spot left step. k)
  answered_is e (places.Asks cause h seen) reply k told = entry_is e cause h seen reply
  answered_is e (places.Mends m step) reply k told = mend_is F m step reply (λ copies others step. tt)

  pub refused_is : (p : Place) (code : Code) → PlaceIsSound n p → TurnIs F (refused p code)
  refused_is (places.Seeks cause) code k = seek_fails_is F cause code
  refused_is (places.Locks cause v) code k = seek_fails_is F cause code
  refused_is (places.Frees h ending first) code k = fails_is F first code (λ cause. tt)
  refused_is (places.Creates f step) code k = create_refused_is f step code k
  refused_is (places.Adds h server) code k = fails_is F None code (λ cause. tt)
  refused_is (places.Backs h step) code k = fails_is F None code (λ cause. tt)
  refused_is (places.Dumps s step) code k = fails_is F None code (λ cause. tt)
  refused_is (places.Releases h step) code k = fails_is F None code (λ cause. tt)
  refused_is (places.Tours r step) code k = fails_is F r.first code (λ cause. tt)
  refused_is (places.Visits r s step) code k = visit_refused_is r s step code k
  refused_is (places.Surveys h why s left seen) code k = survey_refused_is F why code (λ cause. tt)
  refused_is (places.Plans h target) code k = fails_is F None code (λ cause. tt)
  refused_is (places.Moves m step) code k = fails_is F None code (λ cause. tt)
  refused_is (places.Removes h seen step) code k = fails_is F None code (λ cause. tt)
  refused_is (places.Sweeps h spot left step) code k = fails_is F None code (λ cause. tt)
  refused_is (places.Asks cause h seen) code k = ends_is F cause code
  refused_is (places.Mends m step) code k = ends_is F m.cause code

  creates_is : (server : ℕ) (o : Option (List ℕ)) → TurnIs F (creates_from server o)
  creates_is server None = tt
  creates_is server (Some bytes) = tt

  pub first_is : (act : AdminAct) (held : Option (List ℕ)) → TurnIs F (begins_with act held)
  first_is (acts.Create name server quota) held = tt
  first_is (acts.Restore name server label) held = creates_is server held
  first_is act held = tt
