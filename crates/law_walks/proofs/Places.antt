-- Where the answers lead an act: from each place to those that may come behind it. What holds of all these holds behind every answer.
use Rattle.std.proofs.Common.{◌≡◌, refl, ℕ, Bool, true, false, cond, zero, suc, List, [], ◌∷◌, Option, Some, None}
use Rattle.std.specs.Prelude.{⊤, nat_eq, ◌++◌}
use Rattle.std.specs.List.{list_any}
use Rattle.afs_num.specs.declared.location_calls.LocReply.TheVariants as entries
use Rattle.afs_num.specs.declared.messages.Reply.{Reply}
use Rattle.afs_num.specs.declared.messages.Reply.TheVariants as tell
use Rattle.afs_num.specs.declared.types.Code.{Code}
use Rattle.afs_num.specs.declared.volume_calls.VolReply.TheVariants as volumes
use Rattle.spec_adminrows.specs.Copying.{backup_answered, dump_answered, has_offset}
use Rattle.spec_adminrows.specs.Creating.{create_answered, create_refused, dump_in, fills_or_closes}
use Rattle.spec_adminrows.specs.Moving.{move_answered}
use Rattle.spec_adminrows.specs.Recovering.{drops_others, mend_answered, mended, opens_or_frees, takes_copies}
use Rattle.spec_adminrows.specs.Releasing.{goes_to, is_listed, release_answered, skips, tour_answered, visit_answered, visit_refused}
use Rattle.spec_adminrows.specs.Removing.{others_of, remove_answered, sweep_answered, sweeps}
use Rattle.spec_adminrows.specs.Surveying.{survey_refused}
use Rattle.spec_adminrows.specs.Turns.{code_or, fails, fine, is_dead, not_there, is_superseded, is_unlisted, mend_fails, seek_fails}
use Rattle.spec_dumps.specs.Streams.{is_last_at}
use Rattle.spec_volrows.specs.VolRow.{most_piece}
use Rattle.spec_adminrows.specs.declared.places.Backing.{Backing}
use Rattle.spec_adminrows.specs.declared.places.Backing.TheVariants as backing
use Rattle.spec_adminrows.specs.declared.places.Cause.{Cause}
use Rattle.spec_adminrows.specs.declared.places.Cause.TheVariants as causes
use Rattle.spec_adminrows.specs.declared.places.Creating.{Creating}
use Rattle.spec_adminrows.specs.declared.places.Creating.TheVariants as creating
use Rattle.spec_adminrows.specs.declared.places.Dumping.{Dumping}
use Rattle.spec_adminrows.specs.declared.places.Dumping.TheVariants as dumping
use Rattle.spec_adminrows.specs.declared.places.Fresh.{Fresh}
use Rattle.spec_adminrows.specs.declared.places.Hold.{Hold}
use Rattle.spec_adminrows.specs.declared.places.Mend.{Mend}
use Rattle.spec_adminrows.specs.declared.places.Mending.{Mending}
use Rattle.spec_adminrows.specs.declared.places.Mending.TheVariants as mending
use Rattle.spec_adminrows.specs.declared.places.Moving.{Moving}
use Rattle.spec_adminrows.specs.declared.places.Moving.TheVariants as moving
use Rattle.spec_adminrows.specs.declared.places.Place.{Place}
use Rattle.spec_adminrows.specs.declared.places.Place.TheVariants as places
use Rattle.spec_adminrows.specs.declared.places.Purpose.{Purpose}
use Rattle.spec_adminrows.specs.declared.places.Purpose.TheVariants as purposes
use Rattle.spec_adminrows.specs.declared.places.Releasing.{Releasing}
use Rattle.spec_adminrows.specs.declared.places.Releasing.TheVariants as releasing
use Rattle.spec_adminrows.specs.declared.places.Removing.{Removing}
use Rattle.spec_adminrows.specs.declared.places.Removing.TheVariants as removing
use Rattle.spec_adminrows.specs.declared.places.Saving.{Saving}
use Rattle.spec_adminrows.specs.declared.places.Seen.{Seen}
use Rattle.spec_adminrows.specs.declared.places.Spot.{Spot}
use Rattle.spec_adminrows.specs.declared.places.Sweeping.{Sweeping}
use Rattle.spec_adminrows.specs.declared.places.Sweeping.TheVariants as sweeping
use Rattle.spec_adminrows.specs.declared.places.Tour.{Tour}
use Rattle.spec_adminrows.specs.declared.places.Touring.{Touring}
use Rattle.spec_adminrows.specs.declared.places.Touring.TheVariants as touring
use Rattle.spec_adminrows.specs.declared.places.Trip.{Trip}
use Rattle.spec_adminrows.specs.declared.places.Visiting.{Visiting}
use Rattle.spec_adminrows.specs.declared.places.Visiting.TheVariants as visiting
use Rattle.spec_adminrows.specs.declared.turns.Turn.{Turn}
use Rattle.spec_adminrows.specs.declared.turns.Turn.TheVariants as turns

-- it holds of the place where a turn leads, if it leads to one
abbrev pub TurnIs : (Place → Type 0) → Turn → Type 0
TurnIs F (turns.Goes p) = F p
TurnIs F (turns.Keeps label bytes p) = F p
TurnIs F (turns.Ends code) = ⊤
TurnIs F (turns.Sticks code) = ⊤
TurnIs F turns.Passes = ⊤

module _ (F : Place → Type 0) where
  either : (b : Bool) (x y : Turn) → TurnIs F x → TurnIs F y → TurnIs F (cond b x y)
  either true x y h k = h
  either false x y h k = k

  -- ---- a move

  pub move_is : (m : Trip) (step : Moving) (reply : Reply) → ((step : Moving) → F (places.Moves m step)) → F (places.Frees m.hold fine None) → TurnIs F (move_answered m step reply)
  move_is m moving.Begins (tell.Volume (volumes.TransCreate t)) on free = on _
  move_is m (moving.Clones t) (tell.Volume (volumes.Clone counter release)) on free = on _
  move_is m (moving.Cloned counter t) (tell.Volume volumes.EndTrans) on free = on _
  move_is m (moving.Makes counter) (tell.Volume (volumes.CreateVolume new)) on free = on _
  move_is m (moving.Opens counter new) (tell.Volume (volumes.TransCreate t)) on free = on _
  move_is m (moving.Sends counter new t) (tell.Volume volumes.Forward) on free = on _
  move_is m (moving.Sent counter new t) (tell.Volume volumes.EndTrans) on free = on _
  move_is m (moving.Holds counter new) (tell.Volume (volumes.TransCreate old)) on free = on _
  move_is m (moving.Fences counter new old) (tell.Volume volumes.SetFlags) on free = on _
  move_is m (moving.Fills counter new old) (tell.Volume volumes.Forward) on free = on _
  move_is m (moving.Clears new old) (tell.Volume volumes.SetFlags) on free = on _
  move_is m (moving.Decides new old) (tell.Location entries.ReplaceEntry) on free = on _
  move_is m (moving.Starts new old) (tell.Volume volumes.SetFlags) on free = on _
  move_is m (moving.Started new old) (tell.Volume volumes.EndTrans) on free = on _
  move_is m (moving.Points old) (tell.Volume volumes.SetForwarding) on free = on _
  move_is m (moving.Deletes old) (tell.Volume volumes.DeleteVolume) on free = on _
  move_is m moving.Drops (tell.Volume (volumes.TransCreate t)) on free = on _
  move_is m (moving.Dropped t) (tell.Volume volumes.DeleteVolume) on free = either (nat_eq m.hold.entry.backup 0) _ _ free (on _)
  move_is m moving.DropsBackup (tell.Volume (volumes.TransCreate t)) on free = on _
  move_is m (moving.DroppedBackup t) (tell.Volume volumes.DeleteVolume) on free = free
  move_is m step reply on free = tt

  -- ---- a removal

  sweeps_is : (h : Hold) (spots : List Spot) → ((spot : Spot) (left : List Spot) (step : Sweeping) → F (places.Sweeps h spot left step)) → TurnIs F (sweeps h spots)
  sweeps_is h [] sweep = tt
  sweeps_is h (spot ∷ left) sweep = sweep spot left sweeping.Begins

  pub remove_is : (h : Hold) (seen : List Seen) (step : Removing) (reply : Reply) → ((step : Removing) → F (places.Removes h seen step)) → ((spot : Spot) (left : List Spot) (step : Sweeping) → F (places.Sweeps h spot left step)) → TurnIs F (remove_answered h seen step reply)
  remove_is h seen removing.Begins (tell.Volume (volumes.TransCreate t)) on sweep = on _
  remove_is h seen (removing.Fences t) (tell.Volume volumes.SetFlags) on sweep = on _
  remove_is h seen (removing.Decides t) (tell.Location entries.DeleteEntry) on sweep = on _
  remove_is h seen (removing.Deletes t) (tell.Volume volumes.DeleteVolume) on sweep = sweeps_is h (others_of h seen) sweep
  remove_is h seen step reply on sweep = tt

  pub sweep_is : (h : Hold) (spot : Spot) (left : List Spot) (step : Sweeping) (reply : Reply) → ((spot : Spot) (left : List Spot) (step : Sweeping) → F (places.Sweeps h spot left step)) → TurnIs F (sweep_answered h spot left step reply)
  sweep_is h spot left sweeping.Begins (tell.Volume (volumes.TransCreate t)) sweep = sweep _ _ _
  sweep_is h spot left (sweeping.Deletes t) (tell.Volume volumes.DeleteVolume) sweep = sweeps_is h left sweep
  sweep_is h spot left step reply sweep = tt

  -- ---- a recovery

  pub ends_is : (c : Cause) (code : Code) → TurnIs F (mend_fails c code)
  ends_is causes.Asked code = either (is_superseded code) (turns.Ends code) _ tt tt
  ends_is (causes.After first) code = either (is_superseded code) (turns.Ends code) _ tt tt

  mended_is : (c : Cause) → TurnIs F (mended c)
  mended_is causes.Asked = tt
  mended_is (causes.After code) = tt

  opens_is : (m : Mend) (o : Option ℕ) → ((step : Mending) → F (places.Mends m step)) → TurnIs F (opens_or_frees m o)
  opens_is m None on = ends_is m.cause not_there
  opens_is m (Some zero) on = on mending.Frees
  opens_is m (Some (suc n)) on = on mending.Begins

  drops_is : (m : Mend) (spots : List Spot) → ((others : List Spot) (step : Mending) → F (places.Mends (record m { others = others }) step)) → TurnIs F (drops_others m spots)
  drops_is m [] on = opens_is m m.flags (on m.others)
  drops_is m (spot ∷ left) on = on left (mending.Drops spot)

  pub takes_is : (m : Mend) (copies : List ℕ) → ((copies : List ℕ) (others : List Spot) (step : Mending) → F (places.Mends (record m { copies = copies; others = others }) step)) → TurnIs F (takes_copies m copies)
  takes_is m [] on = drops_is m m.others (on m.copies)
  takes_is m (s ∷ left) on = on left m.others (mending.Takes s)

  pub mend_is : (m : Mend) (step : Mending) (reply : Reply) → ((copies : List ℕ) (others : List Spot) (step : Mending) → F (places.Mends (record m { copies = copies; others = others }) step)) → TurnIs F (mend_answered m step reply)
  mend_is m (mending.Takes s) (tell.Volume (volumes.TransCreate t)) on = on m.copies m.others _
  mend_is m (mending.Points s t) (tell.Volume volumes.SetForwarding) on = on m.copies m.others _
  mend_is m (mending.Deletes s t) (tell.Volume volumes.DeleteVolume) on = takes_is m m.copies on
  mend_is m (mending.Drops spot) (tell.Volume (volumes.TransCreate t)) on = on m.copies m.others _
  mend_is m (mending.Dropped spot t) (tell.Volume volumes.DeleteVolume) on = takes_is m m.copies on
  mend_is m mending.Begins (tell.Volume (volumes.TransCreate t)) on = on m.copies m.others _
  mend_is m (mending.Opens t) (tell.Volume volumes.SetFlags) on = on m.copies m.others _
  mend_is m (mending.Ends t) (tell.Volume volumes.EndTrans) on = on m.copies m.others _
  mend_is m mending.Frees (tell.Location entries.ReleaseLock) on = mended_is m.cause
  mend_is m step reply on = tt

  -- ---- a new volume

  filled_is : (f : Fresh) (v t : ℕ) (o : Option (List ℕ)) → ((step : Creating) → F (places.Creates f step)) → TurnIs F (fills_or_closes f v t o)
  filled_is f v t None on = on _
  filled_is f v t (Some bytes) on = on _

  pub create_is : (f : Fresh) (step : Creating) (reply : Reply) → ((step : Creating) → F (places.Creates f step)) → TurnIs F (create_answered f step reply)
  create_is f creating.Numbers (tell.Location (entries.GetNewVolumeId v)) on = on _
  create_is f (creating.Makes v) (tell.Volume (volumes.CreateVolume t)) on = filled_is f v t f.dump on
  create_is f (creating.Fills v t offset) (tell.Volume volumes.Restore) on = either (is_last_at most_piece offset (dump_in f)) _ _ (on _) (on _)
  create_is f (creating.Closes v t) (tell.Volume volumes.SetFlags) on = on _
  create_is f (creating.Ends v t) (tell.Volume volumes.EndTrans) on = on _
  create_is f (creating.Enters v) (tell.Location (entries.CreateEntry stamp)) on = on _
  create_is f (creating.Checks v code) (tell.Location (entries.GetEntryById n)) on = tt
  create_is f (creating.Scraps v code) (tell.Volume (volumes.TransCreate t)) on = on _
  create_is f (creating.Scrapped v code t) (tell.Volume volumes.DeleteVolume) on = tt
  create_is f (creating.Begins v stamp) (tell.Volume (volumes.TransCreate t)) on = on _
  create_is f (creating.Opens v stamp t) (tell.Volume volumes.SetFlags) on = on _
  create_is f (creating.Opened v stamp t) (tell.Volume volumes.EndTrans) on = on _
  create_is f (creating.Frees v stamp) (tell.Location entries.ReleaseLock) on = tt
  create_is f step r on = tt

  pub fails_is : (first : Option Code) (code : Code) → ((c : Cause) → F (places.Seeks c)) → TurnIs F (fails first code)
  fails_is first code seek = either (is_superseded code) (turns.Ends code) _ tt (seek _)

  pub create_refused_is : (f : Fresh) (step : Creating) (code : Code) → ((step : Creating) → F (places.Creates f step)) → ((c : Cause) → F (places.Seeks c)) → TurnIs F (create_refused f step code)
  create_refused_is f (creating.Enters v) code on seek = either (is_dead code) (turns.Ends code) _ tt (on _)
  create_refused_is f (creating.Checks v first) code on seek = either (is_unlisted code) _ (turns.Ends first) (on _) tt
  create_refused_is f (creating.Scraps v first) code on seek = tt
  create_refused_is f (creating.Scrapped v first t) code on seek = tt
  create_refused_is f (creating.Begins v stamp) code on seek = fails_is None code seek
  create_refused_is f (creating.Opens v stamp t) code on seek = fails_is None code seek
  create_refused_is f (creating.Opened v stamp t) code on seek = fails_is None code seek
  create_refused_is f (creating.Frees v stamp) code on seek = fails_is None code seek
  create_refused_is f step code on seek = tt

  -- ---- a backup, a dump

  pub backup_is : (h : Hold) (step : Backing) (reply : Reply) → ((step : Backing) → F (places.Backs h step)) → F (places.Frees h fine None) → TurnIs F (backup_answered h step reply)
  backup_is h backing.Stamps (tell.Volume (volumes.ListVols ls)) on free = on _
  backup_is h backing.Begins (tell.Volume (volumes.TransCreate t)) on free = either (nat_eq h.entry.backup 0) _ _ (on _) (on _)
  backup_is h (backing.Numbers t) (tell.Location (entries.GetNewVolumeId id)) on free = on _
  backup_is h (backing.Clones t id) (tell.Volume (volumes.Clone counter release)) on free = on _
  backup_is h (backing.Renews t id) (tell.Volume (volumes.ReClone counter release)) on free = on _
  backup_is h (backing.Ends t id) (tell.Volume volumes.EndTrans) on free = on _
  backup_is h (backing.Writes id) (tell.Location entries.ReplaceEntry) on free = free
  backup_is h step r on free = tt

  pub dump_is : (s : Saving) (step : Dumping) (reply : Reply) → ((bytes : List ℕ) (step : Dumping) → F (places.Dumps (record s { bytes = bytes }) step)) → F (places.Frees s.hold fine None) → TurnIs F (dump_answered s step reply)
  dump_is s dumping.Stamps (tell.Volume (volumes.ListVols ls)) on free = on _ _
  dump_is s dumping.Begins (tell.Volume (volumes.TransCreate t)) on free = on _ _
  dump_is s (dumping.Reads t) (tell.Volume (volumes.Dump last piece)) on free = either (has_offset s piece) _ turns.Passes (either (nat_eq last 0) _ _ (on _ _) (on _ _)) tt
  dump_is s (dumping.Ends t) (tell.Volume volumes.EndTrans) on free = free
  dump_is s step r on free = tt

  -- ---- a release

  pub release_is : (h : Hold) (step : Releasing) (reply : Reply) → ((step : Releasing) → F (places.Releases h step)) → ((r : Tour) (step : Touring) → F (places.Tours r step)) → TurnIs F (release_answered h step reply)
  release_is h releasing.Stamps (tell.Volume (volumes.ListVols ls)) on tour = either (nat_eq h.entry.read_only 0) _ _ (on _) (on _)
  release_is h releasing.Numbers (tell.Location (entries.GetNewVolumeId ro)) on tour = on _
  release_is h (releasing.NumbersClone ro) (tell.Location (entries.GetNewVolumeId x)) on tour = tour _ _
  release_is h step r on tour = tt

  -- of a tour of this hold
  abbrev pub OfTours : Hold → Type 0
  OfTours h = (r : Tour) → r.hold ≡ h → (step : Touring) → F (places.Tours r step)

  abbrev pub OfVisits : Hold → Type 0
  OfVisits h = (r : Tour) → r.hold ≡ h → (s : ℕ) (step : Visiting) → F (places.Visits r s step)

  goes_is : (h : Hold) (r : Tour) (left : List ℕ) → r.hold ≡ h → OfTours h → OfVisits h → TurnIs F (goes_to r left)
  goes_is h r [] same tour visit = tour r same touring.Drops
  goes_is h r (s ∷ left) same tour visit = visit (record r { left = left }) same s visiting.Stamps

  pub tour_is : (r : Tour) (step : Touring) (reply : Reply) → OfTours r.hold → OfVisits r.hold → ((code : Code) (first : Option Code) → F (places.Frees r.hold code first)) → TurnIs F (tour_answered r step reply)
  tour_is r touring.Begins (tell.Volume (volumes.TransCreate t)) tour visit free = tour r refl _
  tour_is r (touring.Clones t) (tell.Volume (volumes.Clone counter release)) tour visit free = tour r refl _
  tour_is r (touring.Cloned t) (tell.Volume volumes.EndTrans) tour visit free = goes_is r.hold r r.left refl tour visit
  tour_is r touring.Drops (tell.Volume (volumes.TransCreate t)) tour visit free = tour r refl _
  tour_is r (touring.Dropped t) (tell.Volume volumes.DeleteVolume) tour visit free = tour r refl _
  tour_is r touring.Writes (tell.Location entries.ReplaceEntry) tour visit free = free _ _
  tour_is r step reply tour visit free = tt

  skips_is : (r : Tour) (code : Code) → OfTours r.hold → OfVisits r.hold → TurnIs F (skips r code)
  skips_is r code tour visit = goes_is r.hold (record r { first = Some (code_or code r.first) }) r.left refl tour visit

  pub visit_is : (r : Tour) (s : ℕ) (step : Visiting) (reply : Reply) → OfTours r.hold → OfVisits r.hold → TurnIs F (visit_answered r s step reply)
  visit_is r s visiting.Stamps (tell.Volume (volumes.ListVols ls)) tour visit = either (list_any (is_listed r.read_only) ls) _ _ (visit r refl s visiting.Takes) (visit r refl s visiting.Makes)
  visit_is r s visiting.Takes (tell.Volume (volumes.TransCreate t)) tour visit = visit r refl s _
  visit_is r s visiting.Makes (tell.Volume (volumes.CreateVolume t)) tour visit = visit r refl s _
  visit_is r s (visiting.Opens t) (tell.Volume (volumes.TransCreate x)) tour visit = visit r refl s _
  visit_is r s (visiting.Sends t x) (tell.Volume volumes.Forward) tour visit = visit r refl s _
  visit_is r s (visiting.Closes t x) (tell.Volume volumes.EndTrans) tour visit = visit r refl s _
  visit_is r s (visiting.Sets t) (tell.Volume volumes.SetFlags) tour visit = visit r refl s _
  visit_is r s (visiting.Ends t) (tell.Volume volumes.EndTrans) tour visit = goes_is r.hold (record r { reached = r.reached ++ s ∷ [] }) r.left refl tour visit
  visit_is r s (visiting.Leaves code x) (tell.Volume volumes.EndTrans) tour visit = skips_is r code tour visit
  visit_is r s step reply tour visit = tt

  pub visit_refused_is : (r : Tour) (s : ℕ) (step : Visiting) (code : Code) → OfTours r.hold → OfVisits r.hold → TurnIs F (visit_refused r s step code)
  visit_refused_is r s (visiting.Sends t x) code tour visit = either (is_superseded code) (turns.Ends code) _ tt (visit r refl s _)
  visit_refused_is r s (visiting.Leaves first x) code tour visit = either (is_superseded code) (turns.Ends code) _ tt (skips_is r first tour visit)
  visit_refused_is r s step code tour visit = either (is_superseded code) (turns.Ends code) _ tt (skips_is r code tour visit)

  -- ---- a refusal, or a call that was given up

  pub seek_fails_is : (c : Cause) (code : Code) → TurnIs F (seek_fails c code)
  seek_fails_is causes.Asked code = tt
  seek_fails_is (causes.After first) code = ends_is (causes.After first) code

  pub survey_refused_is : (why : Purpose) (code : Code) → ((c : Cause) → F (places.Seeks c)) → TurnIs F (survey_refused why code)
  survey_refused_is (purposes.Moves target) code seek = fails_is None code seek
  survey_refused_is purposes.Removes code seek = fails_is None code seek
  survey_refused_is (purposes.Mends c) code seek = ends_is c code
