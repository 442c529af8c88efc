-- Where a call is answered, an act goes on at a place as the history has it, or ends with the code that this gives.
use Rattle.std.proofs.Common.{◌≡◌, ℕ, zero, suc, Bool, true, false, cond, List, [], ◌∷◌, ◌++◌, Option, Some, None, refl, subst, sym, ap, ◌∙◌, nat_eq, map}
use Rattle.std.specs.List.{list_any}
use Rattle.std.specs.Prelude.{not, is_some}
use Rattle.spec_dumps.specs.Streams.{is_last_at}
use Rattle.spec_volrows.specs.VolRow.{most_piece}
use Rattle.spec_history.specs.declared.scripts.AdminAct.{AdminAct}
use Rattle.spec_history.specs.declared.scripts.AdminAct.TheVariants as acts
use Rattle.afs_num.specs.declared.location_calls.LocReply.TheVariants as entries
use Rattle.afs_num.specs.declared.messages.Call.{Call}
use Rattle.afs_num.specs.declared.messages.Reply.{Reply}
use Rattle.afs_num.specs.declared.messages.Reply.TheVariants as tell
use Rattle.afs_num.specs.declared.types.Code.{Code}
use Rattle.afs_num.specs.declared.volume_calls.VolReply.TheVariants as volumes
use Rattle.spec_adminrows.specs.Acts.{answered, asks_at, can_go_on, goes_on_locked}
use Rattle.spec_adminrows.specs.Asks.{all_servers, family, home, name_in_act}
use Rattle.spec_adminrows.specs.Copying.{add_answered, add_asks, backup_answered, backup_asks, dump_answered, dump_asks, dumps_on, has_offset}
use Rattle.spec_adminrows.specs.Creating.{create_answered, create_asks, dump_in, fills_or_closes}
use Rattle.spec_adminrows.specs.Entries.{has_read_only_at, home_in, is_usable}
use Rattle.spec_adminrows.specs.Moving.{move_answered, move_asks, plan_answered, plan_asks}
use Rattle.spec_adminrows.specs.Recovering.{drops_others, flags_at, mend_answered, mend_asks, mend_of, mended, mends_on, opens_or_frees, takes_copies}
use Rattle.spec_adminrows.specs.Releasing.{goes_to, is_listed, release_answered, release_asks, tour_answered, tour_asks, visit_answered, visit_asks}
use Rattle.spec_adminrows.specs.Removing.{others_of, remove_answered, remove_asks, sweep_answered, sweep_asks, sweeps}
use Rattle.spec_adminrows.specs.Surveying.{seen_by, survey_asks, surveys}
use Rattle.spec_adminrows.specs.Turns.{code_or, fine, frees, mend_fails, not_there, same_place}
use Rattle.spec_adminrows.specs.declared.places.Backing.{Backing}
use Rattle.spec_adminrows.specs.declared.places.Backing.TheVariants as backing
use Rattle.spec_adminrows.specs.declared.places.Cause.{Cause}
use Rattle.spec_adminrows.specs.declared.places.Cause.TheVariants as causes
use Rattle.spec_adminrows.specs.declared.places.Creating.{Creating}
use Rattle.spec_adminrows.specs.declared.places.Creating.TheVariants as creating
use Rattle.spec_adminrows.specs.declared.places.Dumping.{Dumping}
use Rattle.spec_adminrows.specs.declared.places.Dumping.TheVariants as dumping
use Rattle.spec_adminrows.specs.declared.places.Fresh.{Fresh}
use Rattle.spec_adminrows.specs.declared.places.Hold.{Hold}
use Rattle.spec_adminrows.specs.declared.places.Mend.{Mend}
use Rattle.spec_adminrows.specs.declared.places.Mending.{Mending}
use Rattle.spec_adminrows.specs.declared.places.Mending.TheVariants as mending
use Rattle.spec_adminrows.specs.declared.places.Moving.{Moving}
use Rattle.spec_adminrows.specs.declared.places.Moving.TheVariants as moving
use Rattle.spec_adminrows.specs.declared.places.Place.{Place}
use Rattle.spec_adminrows.specs.declared.places.Place.TheVariants as places
use Rattle.spec_adminrows.specs.declared.places.Purpose.{Purpose}
use Rattle.spec_adminrows.specs.declared.places.Purpose.TheVariants as purposes
use Rattle.spec_adminrows.specs.declared.places.Releasing.{Releasing}
use Rattle.spec_adminrows.specs.declared.places.Releasing.TheVariants as releasing
use Rattle.spec_adminrows.specs.declared.places.Removing.{Removing}
use Rattle.spec_adminrows.specs.declared.places.Removing.TheVariants as removing
use Rattle.spec_adminrows.specs.declared.places.Saving.{Saving}
use Rattle.spec_adminrows.specs.declared.places.Seen.{Seen}
use Rattle.spec_adminrows.specs.declared.places.Spot.{Spot}
use Rattle.spec_adminrows.specs.declared.places.Sweeping.{Sweeping}
use Rattle.spec_adminrows.specs.declared.places.Sweeping.TheVariants as sweeping
use Rattle.spec_adminrows.specs.declared.places.Tour.{Tour}
use Rattle.spec_adminrows.specs.declared.places.Touring.{Touring}
use Rattle.spec_adminrows.specs.declared.places.Touring.TheVariants as touring
use Rattle.spec_adminrows.specs.declared.places.Trip.{Trip}
use Rattle.spec_adminrows.specs.declared.places.Visiting.{Visiting}
use Rattle.spec_adminrows.specs.declared.places.Visiting.TheVariants as visiting
use Rattle.spec_adminrows.specs.declared.turns.Errand.{Errand}
use Rattle.spec_adminrows.specs.declared.turns.Turn.{Turn}
use Rattle.spec_adminrows.specs.declared.turns.Turn.TheVariants as turns
use Rattle.law_answers.specs.Answers.{counts_as_answer, is_last, is_removal}
use Rattle.law_answers.specs.Courses.{ending_by, found_by, locked, locked_for, nothing_found, recovering, stage_answered, unlocked, Asked, Findings, Stage}
use Rattle.law_answers.proofs.Places.{first_at, first_by, first_creating, first_visiting, stage_at, stage_creating, Answers, EndsWell, FoundAt, FoundBy, FoundSurveying, HasListed}

either : (b : Bool) (e : Errand) (call : Call) (reply : Reply) (first : Option Code) (stage : Stage) (x : Findings) (t u : Turn) → Answers e call reply first stage x t → Answers e call reply first stage x u → Answers e call reply first stage x (cond b t u)
either true e call reply first stage x t u h k = h
either false e call reply first stage x t u h k = k

-- while the lock is held, and no call failed
abbrev Holds : Errand → Call → Reply → Turn → Type 0
Holds e call reply t = Answers e call reply None locked nothing_found t

-- ---- a new volume

fill_right : (e : Errand) (call : Call) (reply : Reply) (f : Fresh) (v t : ℕ) (o : Option (List ℕ)) → Answers e call reply None unlocked nothing_found (fills_or_closes f v t o)
fill_right e call reply f v t None = (refl, (refl, refl))
fill_right e call reply f v t (Some bytes) = (refl, (refl, refl))

create_right : (e : Errand) (q : Asked) (name : List ℕ) (f : Fresh) (step : Creating) (reply : Reply) →
    Answers e (create_asks name f step).call reply (first_creating step) (stage_answered e.act (stage_creating step) (create_asks name f step).call) (found_by e.act (stage_creating step) q nothing_found reply) (create_answered f step reply)
create_right e q name f creating.Numbers (tell.Location (entries.GetNewVolumeId v)) = (refl, (refl, refl))
create_right e q name f (creating.Makes v) (tell.Volume (volumes.CreateVolume t)) = fill_right e (create_asks name f (creating.Makes v)).call (tell.Volume (volumes.CreateVolume t)) f v t f.dump
create_right e q name f (creating.Fills v t offset) (tell.Volume volumes.Restore) = either (is_last_at most_piece offset (dump_in f)) e (create_asks name f (creating.Fills v t offset)).call (tell.Volume volumes.Restore) None unlocked nothing_found _ _ (refl, (refl, refl)) (refl, (refl, refl))
create_right e q name f (creating.Closes v t) (tell.Volume volumes.SetFlags) = (refl, (refl, refl))
create_right e q name f (creating.Ends v t) (tell.Volume volumes.EndTrans) = (refl, (refl, refl))
create_right e q name f (creating.Enters v) (tell.Location (entries.CreateEntry stamp)) = (refl, (refl, refl))
create_right e q name f (creating.Checks v code) (tell.Location (entries.GetEntryById n)) = (refl, (refl, refl))
create_right e q name f (creating.Scraps v code) (tell.Volume (volumes.TransCreate t)) = (refl, (refl, refl))
create_right e q name f (creating.Scrapped v code t) (tell.Volume volumes.DeleteVolume) = (refl, (refl, refl))
create_right e q name f (creating.Begins v stamp) (tell.Volume (volumes.TransCreate t)) = (refl, (refl, refl))
create_right e q name f (creating.Opens v stamp t) (tell.Volume volumes.SetFlags) = (refl, (refl, refl))
create_right e q name f (creating.Opened v stamp t) (tell.Volume volumes.EndTrans) = (refl, (refl, refl))
create_right e q name f (creating.Frees v stamp) (tell.Location entries.ReleaseLock) = (refl, (refl, refl))
create_right e q name f step reply = refl

-- ---- a further site, a backup, a dump

frees_right : (e : Errand) (call : Call) (reply : Reply) (h : Hold) → Holds e call reply (frees h fine)
frees_right e call reply h = (refl, (refl, (refl, (refl, refl))))

add_right : (e : Errand) (h : Hold) (server : ℕ) (reply : Reply) → Holds e (add_asks h server).call reply (add_answered h reply)
add_right e h server (tell.Location entries.ReplaceEntry) = frees_right e (add_asks h server).call (tell.Location entries.ReplaceEntry) h
add_right e h server reply = refl

backup_right : (e : Errand) (name : List ℕ) (h : Hold) (step : Backing) (reply : Reply) → Holds e (backup_asks name h step).call reply (backup_answered h step reply)
backup_right e name h backing.Stamps (tell.Volume (volumes.ListVols ls)) = (refl, (refl, refl))
backup_right e name h backing.Begins (tell.Volume (volumes.TransCreate t)) = either (nat_eq h.entry.backup 0) e (backup_asks name h backing.Begins).call (tell.Volume (volumes.TransCreate t)) None locked nothing_found _ _ (refl, (refl, refl)) (refl, (refl, refl))
backup_right e name h (backing.Numbers t) (tell.Location (entries.GetNewVolumeId id)) = (refl, (refl, refl))
backup_right e name h (backing.Clones t id) (tell.Volume (volumes.Clone counter release)) = (refl, (refl, refl))
backup_right e name h (backing.Renews t id) (tell.Volume (volumes.ReClone counter release)) = (refl, (refl, refl))
backup_right e name h (backing.Ends t id) (tell.Volume volumes.EndTrans) = (refl, (refl, refl))
backup_right e name h (backing.Writes id) (tell.Location entries.ReplaceEntry) = frees_right e (backup_asks name h (backing.Writes id)).call (tell.Location entries.ReplaceEntry) h
backup_right e name h step reply = refl

piece_right : (e : Errand) (call : Call) (reply : Reply) (s : Saving) (t last : ℕ) → Holds e call reply (dumps_on s t last)
piece_right e call reply s t last = either (nat_eq last 0) e call reply None locked nothing_found _ _ (refl, (refl, refl)) (refl, (refl, refl))

dump_right : (e : Errand) (s : Saving) (step : Dumping) (reply : Reply) → Holds e (dump_asks s step).call reply (dump_answered s step reply)
dump_right e s dumping.Stamps (tell.Volume (volumes.ListVols ls)) = (refl, (refl, refl))
dump_right e s dumping.Begins (tell.Volume (volumes.TransCreate t)) = (refl, (refl, refl))
dump_right e s (dumping.Reads t) (tell.Volume (volumes.Dump last piece)) = either (has_offset s piece) e (dump_asks s (dumping.Reads t)).call (tell.Volume (volumes.Dump last piece)) None locked nothing_found _ turns.Passes (piece_right e (dump_asks s (dumping.Reads t)).call (tell.Volume (volumes.Dump last piece)) (record s { bytes = s.bytes ++ piece }) t last) refl
dump_right e s (dumping.Ends t) (tell.Volume volumes.EndTrans) = frees_right e (dump_asks s (dumping.Ends t)).call (tell.Volume volumes.EndTrans) s.hold
dump_right e s step reply = refl

-- ---- a release

release_right : (e : Errand) (h : Hold) (step : Releasing) (reply : Reply) → Holds e (release_asks h step).call reply (release_answered h step reply)
release_right e h releasing.Stamps (tell.Volume (volumes.ListVols ls)) = either (nat_eq h.entry.read_only 0) e (release_asks h releasing.Stamps).call (tell.Volume (volumes.ListVols ls)) None locked nothing_found _ _ (refl, (refl, refl)) (refl, (refl, refl))
release_right e h releasing.Numbers (tell.Location (entries.GetNewVolumeId ro)) = (refl, (refl, refl))
release_right e h (releasing.NumbersClone ro) (tell.Location (entries.GetNewVolumeId x)) = (refl, (refl, refl))
release_right e h step reply = refl

on_right : (e : Errand) (call : Call) (reply : Reply) (r : Tour) (left : List ℕ) → Answers e call reply r.first locked nothing_found (goes_to r left)
on_right e call reply r [] = (refl, (refl, refl))
on_right e call reply r (s ∷ left) = (refl, (refl, refl))

tour_right : (e : Errand) (name : List ℕ) (r : Tour) (step : Touring) (reply : Reply) → Answers e (tour_asks name r step).call reply r.first locked nothing_found (tour_answered r step reply)
tour_right e name r touring.Begins (tell.Volume (volumes.TransCreate t)) = (refl, (refl, refl))
tour_right e name r (touring.Clones t) (tell.Volume (volumes.Clone counter release)) = (refl, (refl, refl))
tour_right e name r (touring.Cloned t) (tell.Volume volumes.EndTrans) = on_right e (tour_asks name r (touring.Cloned t)).call (tell.Volume volumes.EndTrans) r r.left
tour_right e name r touring.Drops (tell.Volume (volumes.TransCreate t)) = (refl, (refl, refl))
tour_right e name r (touring.Dropped t) (tell.Volume volumes.DeleteVolume) = (refl, (refl, refl))
tour_right e name r touring.Writes (tell.Location entries.ReplaceEntry) = (refl, (refl, (refl, (refl, refl))))
tour_right e name r step reply = refl

visit_right : (e : Errand) (name : List ℕ) (r : Tour) (s : ℕ) (step : Visiting) (reply : Reply) → Answers e (visit_asks name r s step).call reply (first_visiting r step) locked nothing_found (visit_answered r s step reply)
visit_right e name r s visiting.Stamps (tell.Volume (volumes.ListVols ls)) = either (list_any (is_listed r.read_only) ls) e (visit_asks name r s visiting.Stamps).call (tell.Volume (volumes.ListVols ls)) r.first locked nothing_found _ _ (refl, (refl, refl)) (refl, (refl, refl))
visit_right e name r s visiting.Takes (tell.Volume (volumes.TransCreate t)) = (refl, (refl, refl))
visit_right e name r s visiting.Makes (tell.Volume (volumes.CreateVolume t)) = (refl, (refl, refl))
visit_right e name r s (visiting.Opens t) (tell.Volume (volumes.TransCreate x)) = (refl, (refl, refl))
visit_right e name r s (visiting.Sends t x) (tell.Volume volumes.Forward) = (refl, (refl, refl))
visit_right e name r s (visiting.Closes t x) (tell.Volume volumes.EndTrans) = (refl, (refl, refl))
visit_right e name r s (visiting.Sets t) (tell.Volume volumes.SetFlags) = (refl, (refl, refl))
visit_right e name r s (visiting.Ends t) (tell.Volume volumes.EndTrans) = on_right e (visit_asks name r s (visiting.Ends t)).call (tell.Volume volumes.EndTrans) (record r { reached = r.reached ++ s ∷ [] }) r.left
visit_right e name r s (visiting.Leaves code x) (tell.Volume volumes.EndTrans) = on_right e (visit_asks name r s (visiting.Leaves code x)).call (tell.Volume volumes.EndTrans) (record r { first = Some (code_or code r.first) }) r.left
visit_right e name r s step reply = refl

-- ---- a move, a removal

plan_right : (e : Errand) (h : Hold) (target : ℕ) (reply : Reply) → Holds e (plan_asks h).call reply (plan_answered h target reply)
plan_right e h target (tell.Location (entries.GetNewVolumeId x)) = (refl, (refl, refl))
plan_right e h target reply = refl

move_right : (e : Errand) (name : List ℕ) (m : Trip) (step : Moving) (reply : Reply) → Holds e (move_asks name m step).call reply (move_answered m step reply)
move_right e name m moving.Begins (tell.Volume (volumes.TransCreate t)) = (refl, (refl, refl))
move_right e name m (moving.Clones t) (tell.Volume (volumes.Clone counter release)) = (refl, (refl, refl))
move_right e name m (moving.Cloned counter t) (tell.Volume volumes.EndTrans) = (refl, (refl, refl))
move_right e name m (moving.Makes counter) (tell.Volume (volumes.CreateVolume new)) = (refl, (refl, refl))
move_right e name m (moving.Opens counter new) (tell.Volume (volumes.TransCreate t)) = (refl, (refl, refl))
move_right e name m (moving.Sends counter new t) (tell.Volume volumes.Forward) = (refl, (refl, refl))
move_right e name m (moving.Sent counter new t) (tell.Volume volumes.EndTrans) = (refl, (refl, refl))
move_right e name m (moving.Holds counter new) (tell.Volume (volumes.TransCreate old)) = (refl, (refl, refl))
move_right e name m (moving.Fences counter new old) (tell.Volume volumes.SetFlags) = (refl, (refl, refl))
move_right e name m (moving.Fills counter new old) (tell.Volume volumes.Forward) = (refl, (refl, refl))
move_right e name m (moving.Clears new old) (tell.Volume volumes.SetFlags) = (refl, (refl, refl))
move_right e name m (moving.Decides new old) (tell.Location entries.ReplaceEntry) = (refl, (refl, refl))
move_right e name m (moving.Starts new old) (tell.Volume volumes.SetFlags) = (refl, (refl, refl))
move_right e name m (moving.Started new old) (tell.Volume volumes.EndTrans) = (refl, (refl, refl))
move_right e name m (moving.Points old) (tell.Volume volumes.SetForwarding) = (refl, (refl, refl))
move_right e name m (moving.Deletes old) (tell.Volume volumes.DeleteVolume) = (refl, (refl, refl))
move_right e name m moving.Drops (tell.Volume (volumes.TransCreate t)) = (refl, (refl, refl))
move_right e name m (moving.Dropped t) (tell.Volume volumes.DeleteVolume) = either (nat_eq m.hold.entry.backup 0) e (move_asks name m (moving.Dropped t)).call (tell.Volume volumes.DeleteVolume) None locked nothing_found _ _ (frees_right e (move_asks name m (moving.Dropped t)).call (tell.Volume volumes.DeleteVolume) m.hold) (refl, (refl, refl))
move_right e name m moving.DropsBackup (tell.Volume (volumes.TransCreate t)) = (refl, (refl, refl))
move_right e name m (moving.DroppedBackup t) (tell.Volume volumes.DeleteVolume) = frees_right e (move_asks name m (moving.DroppedBackup t)).call (tell.Volume volumes.DeleteVolume) m.hold
move_right e name m step reply = refl

sweeps_right : (e : Errand) (call : Call) (reply : Reply) (h : Hold) (spots : List Spot) → is_removal e.act ≡ true → is_last None e.act locked call ≡ true → Holds e call reply (sweeps h spots)
sweeps_right e call reply h [] removal last = (refl, (refl, last))
sweeps_right e call reply h (spot ∷ left) removal last = (refl, (refl, (refl, removal)))

remove_right : (e : Errand) (h : Hold) (seen : List Seen) (step : Removing) (reply : Reply) → is_removal e.act ≡ true → Holds e (remove_asks h step).call reply (remove_answered h seen step reply)
remove_right e h seen removing.Begins (tell.Volume (volumes.TransCreate t)) removal = (refl, (refl, (refl, removal)))
remove_right e h seen (removing.Fences t) (tell.Volume volumes.SetFlags) removal = (refl, (refl, (refl, removal)))
remove_right e h seen (removing.Decides t) (tell.Location entries.DeleteEntry) removal = (refl, (refl, (refl, removal)))
remove_right e h seen (removing.Deletes t) (tell.Volume volumes.DeleteVolume) removal = sweeps_right e (remove_asks h (removing.Deletes t)).call (tell.Volume volumes.DeleteVolume) h (others_of h seen) removal removal
remove_right e h seen step reply removal = refl

sweep_right : (e : Errand) (h : Hold) (spot : Spot) (left : List Spot) (step : Sweeping) (reply : Reply) → is_removal e.act ≡ true → Holds e (sweep_asks h spot step).call reply (sweep_answered h spot left step reply)
sweep_right e h spot left sweeping.Begins (tell.Volume (volumes.TransCreate t)) removal = (refl, (refl, (refl, removal)))
sweep_right e h spot left (sweeping.Deletes t) (tell.Volume volumes.DeleteVolume) removal = sweeps_right e (sweep_asks h spot (sweeping.Deletes t)).call (tell.Volume volumes.DeleteVolume) h left removal removal
sweep_right e h spot left step reply removal = refl

-- ---- the servers are asked what they have

moves_survey : (e : Errand) (call : Call) (reply : Reply) (h : Hold) (target : ℕ) (left : List ℕ) (seen : List Seen) → Holds e call reply (surveys h (purposes.Moves target) left seen)
moves_survey e call reply h target [] seen = (refl, (refl, refl))
moves_survey e call reply h target (s ∷ left) seen = (refl, (refl, refl))

removes_survey : (e : Errand) (call : Call) (reply : Reply) (h : Hold) (left : List ℕ) (seen : List Seen) → is_removal e.act ≡ true → Holds e call reply (surveys h purposes.Removes left seen)
removes_survey e call reply h [] seen removal = (refl, (refl, (refl, removal)))
removes_survey e call reply h (s ∷ left) seen removal = (refl, (refl, (refl, removal)))

mends_survey : (e : Errand) (call : Call) (reply : Reply) (h : Hold) (c : Cause) (left : List ℕ) (seen : List Seen) (x : Findings) → HasListed c seen x → Answers e call reply (first_by c) recovering x (surveys h (purposes.Mends c) left seen)
mends_survey e call reply h c [] seen x k = (refl, (refl, k))
mends_survey e call reply h c (s ∷ left) seen x k = (refl, (refl, k))

-- ---- a recovery

opens_right : (e : Errand) (call : Call) (reply : Reply) (m : Mend) (o : Option ℕ) (x : Findings) → EndsWell m.cause x.ending → x.misses ≡ not (is_some o) → m.flags ≡ o → Answers e call reply (first_by m.cause) recovering x (opens_or_frees m o)
opens_right e call reply m None x ends misses is = by m.cause
  where
    by : (c : Cause) → Answers e call reply (first_by c) recovering x (mend_fails c not_there)
    by causes.Asked = (refl, (misses, refl))
    by (causes.After code) = (refl, (misses, refl))
opens_right e call reply m (Some zero) x ends misses is = (refl, (refl, (ends, (misses ∙ ap (λ (o : Option ℕ). not (is_some o)) (sym is), ap (λ (o : Option ℕ). is_some o) is))))
opens_right e call reply m (Some (suc n)) x ends misses is = (refl, (refl, (ends, (misses ∙ ap (λ (o : Option ℕ). not (is_some o)) (sym is), ap (λ (o : Option ℕ). is_some o) is))))

drops_right : (e : Errand) (call : Call) (reply : Reply) (m : Mend) (spots : List Spot) (x : Findings) → EndsWell m.cause x.ending → x.misses ≡ not (is_some m.flags) → Answers e call reply (first_by m.cause) recovering x (drops_others m spots)
drops_right e call reply m [] x ends misses = opens_right e call reply m m.flags x ends misses refl
drops_right e call reply m (spot ∷ left) x ends misses = (refl, (refl, (ends, (misses, tt))))

takes_right : (e : Errand) (call : Call) (reply : Reply) (m : Mend) (servers : List ℕ) (x : Findings) → EndsWell m.cause x.ending → x.misses ≡ not (is_some m.flags) → Answers e call reply (first_by m.cause) recovering x (takes_copies m servers)
takes_right e call reply m [] x ends misses = drops_right e call reply m m.others x ends misses
takes_right e call reply m (s ∷ left) x ends misses = (refl, (refl, (ends, (misses, tt))))

mended_right : (e : Errand) (call : Call) (reply : Reply) (c : Cause) (x : Findings) → EndsWell c x.ending → x.misses ≡ false → is_last (first_by c) e.act recovering call ≡ true → Answers e call reply (first_by c) recovering x (mended c)
mended_right e call reply causes.Asked x ends misses last = (sym ends, (misses, last))
mended_right e call reply (causes.After code) x ends misses last = (refl, (misses, last))

mend_right : (e : Errand) (q : Asked) (m : Mend) (step : Mending) (x : Findings) (reply : Reply) → FoundAt e.act (places.Mends m step) x → Answers e (mend_asks m step).call reply (first_by m.cause) recovering (found_by e.act recovering q x reply) (mend_answered m step reply)
mend_right e q m (mending.Takes s) x (tell.Volume (volumes.TransCreate t)) k = (refl, (refl, k))
mend_right e q m (mending.Points s t) x (tell.Volume volumes.SetForwarding) k = (refl, (refl, k))
mend_right e q m (mending.Deletes s t) x (tell.Volume volumes.DeleteVolume) k = takes_right e (mend_asks m (mending.Deletes s t)).call (tell.Volume volumes.DeleteVolume) m m.copies x k.0 k.1.0
mend_right e q m (mending.Drops spot) x (tell.Volume (volumes.TransCreate t)) k = (refl, (refl, k))
mend_right e q m (mending.Dropped spot t) x (tell.Volume volumes.DeleteVolume) k = takes_right e (mend_asks m (mending.Dropped spot t)).call (tell.Volume volumes.DeleteVolume) m m.copies x k.0 k.1.0
mend_right e q m mending.Begins x (tell.Volume (volumes.TransCreate t)) k = (refl, (refl, k))
mend_right e q m (mending.Opens t) x (tell.Volume volumes.SetFlags) k = (refl, (refl, k))
mend_right e q m (mending.Ends t) x (tell.Volume volumes.EndTrans) k = (refl, (refl, k))
mend_right e q m mending.Frees x (tell.Location entries.ReleaseLock) k = mended_right e (mend_asks m mending.Frees).call (tell.Location entries.ReleaseLock) m.cause x k.0 (k.1.0 ∙ ap not k.1.1) refl
mend_right e q m step x reply k = refl

-- ---- the entry is looked up, and locked

site_by : (e : Errand) (call : Call) (reply : Reply) (h : Hold) (server : ℕ) (b : Bool) → Answers e call reply None locked (record nothing_found { ending = cond b same_place fine }) (cond b (frees h same_place) (turns.Goes (places.Adds h server)))
site_by e call reply h server true = (refl, (refl, (refl, (refl, refl))))
site_by e call reply h server false = (refl, (refl, refl))

move_by : (e : Errand) (call : Call) (reply : Reply) (h : Hold) (target : ℕ) (b : Bool) → Answers e call reply None locked (record nothing_found { ending = cond b same_place fine }) (cond b (frees h same_place) (surveys h (purposes.Moves target) (all_servers e) []))
move_by e call reply h target true = (refl, (refl, (refl, (refl, refl))))
move_by e call reply h target false = moves_survey e call reply h target (all_servers e) []

goes_right : (e : Errand) (call : Call) (reply : Reply) (h : Hold) (act : AdminAct) → e.act ≡ act → counts_as_answer call reply ≡ false → Answers e call reply None (locked_for act) (record nothing_found { ending = ending_by act h.entry }) (goes_on_locked e h act)
goes_right e call reply h (acts.Create name server quota) is none = none
goes_right e call reply h (acts.Restore name server label) is none = none
goes_right e call reply h (acts.AddSite name server) is none = site_by e call reply h server (has_read_only_at server h.entry)
goes_right e call reply h (acts.Backup name) is none = (refl, (refl, refl))
goes_right e call reply h (acts.Release name) is none = (refl, (refl, refl))
goes_right e call reply h (acts.Move name server) is none = move_by e call reply h server (nat_eq server (home h))
goes_right e call reply h (acts.Dump name label from) is none = (refl, (refl, refl))
goes_right e call reply h (acts.Remove name) is none = removes_survey e call reply h (all_servers e) [] (ap is_removal is)
goes_right e call reply h (acts.Recover name) is none = mends_survey e call reply h causes.Asked (all_servers e) [] nothing_found (refl, (refl, refl))

-- ---- each place

-- the call that is unanswered there, in any epoch and under any number
abbrev pub ask_at : Errand → Place → ℕ → ℕ → Asked
ask_at e p epoch number = record { callee = (asks_at e p).callee; epoch = epoch; number = number; call = (asks_at e p).call }

abbrev pub AnswersAt : Errand → ℕ → ℕ → Place → Findings → Reply → Type 0
AnswersAt e epoch number p x reply = Answers e (asks_at e p).call reply (first_at p) (stage_answered e.act (stage_at p) (asks_at e p).call) (found_by e.act (stage_at p) (ask_at e p epoch number) x reply) (answered e p reply)

seek_right : (e : Errand) (n k : ℕ) (c : Cause) (x : Findings) (reply : Reply) → FoundBy c x → AnswersAt e n k (places.Seeks c) x reply
seek_right e n k causes.Asked x (tell.Location (entries.GetEntryByName entry)) h = (refl, (refl, h))
seek_right e n k (causes.After code) x (tell.Location (entries.GetEntryByName entry)) h = (refl, (refl, h))
seek_right e n k c x reply h = refl

lock_right : (e : Errand) (n k : ℕ) (c : Cause) (v : ℕ) (x : Findings) (reply : Reply) → FoundBy c x → AnswersAt e n k (places.Locks c v) x reply
lock_right e n k causes.Asked v x (tell.Location (entries.SetLock stamp entry)) h =
    subst (λ (y : Findings). AnswersAt e n k (places.Locks causes.Asked v) y (tell.Location (entries.SetLock stamp entry))) (sym h)
    (either (can_go_on e entry) e (asks_at e (places.Locks causes.Asked v)).call (tell.Location (entries.SetLock stamp entry)) None (locked_for e.act) (record nothing_found { ending = ending_by e.act entry }) _ turns.Passes (goes_right e (asks_at e (places.Locks causes.Asked v)).call (tell.Location (entries.SetLock stamp entry)) (record { entry = entry; stamp = stamp }) e.act refl refl) refl)
lock_right e n k (causes.After code) v x (tell.Location (entries.SetLock stamp entry)) h =
    either (can_go_on e entry) e (asks_at e (places.Locks (causes.After code) v)).call (tell.Location (entries.SetLock stamp entry)) (Some code) recovering x _ turns.Passes (mends_survey e (asks_at e (places.Locks (causes.After code) v)).call (tell.Location (entries.SetLock stamp entry)) (record { entry = entry; stamp = stamp }) (causes.After code) (all_servers e) [] x (tt, h)) refl
lock_right e n k c v x reply h = refl

free_right : (e : Errand) (n k : ℕ) (h : Hold) (code : Code) (first : Option Code) (x : Findings) (reply : Reply) → FoundAt e.act (places.Frees h code first) x → AnswersAt e n k (places.Frees h code first) x reply
free_right e n k h code first x (tell.Location entries.ReleaseLock) f = (f.0, (f.1.1, refl))
free_right e n k h code first x reply f = refl

survey_right : (e : Errand) (n k : ℕ) (h : Hold) (why : Purpose) (s : ℕ) (left : List ℕ) (seen : List Seen) (x : Findings) (reply : Reply) → FoundSurveying e.act why seen x → AnswersAt e n k (places.Surveys h why s left seen) x reply
survey_right e n k h (purposes.Moves target) s left seen x (tell.Volume (volumes.ListVols ls)) f = subst (λ (y : Findings). Answers e (survey_asks h s).call (tell.Volume (volumes.ListVols ls)) None locked y (surveys h (purposes.Moves target) left (seen ++ map (seen_by s) ls))) (sym f) (moves_survey e (survey_asks h s).call (tell.Volume (volumes.ListVols ls)) h target left _)
survey_right e n k h purposes.Removes s left seen x (tell.Volume (volumes.ListVols ls)) f = subst (λ (y : Findings). Answers e (survey_asks h s).call (tell.Volume (volumes.ListVols ls)) None locked y (surveys h purposes.Removes left (seen ++ map (seen_by s) ls))) (sym f.0) (removes_survey e (survey_asks h s).call (tell.Volume (volumes.ListVols ls)) h left _ f.1)
survey_right e n k h (purposes.Mends c) s left seen x (tell.Volume (volumes.ListVols ls)) f =
    mends_survey e (survey_asks h s).call (tell.Volume (volumes.ListVols ls)) h c left (seen ++ map (seen_by s) ls) (record x { listed = x.listed ++ map (seen_by s) ls }) (f.0, (ap (λ (ys : List Seen). ys ++ map (seen_by s) ls) f.1.0, f.1.1))
survey_right e n k h why s left seen x reply f = refl

entry_right : (e : Errand) (n k : ℕ) (c : Cause) (h : Hold) (seen : List Seen) (x : Findings) (reply : Reply) → HasListed c seen x → AnswersAt e n k (places.Asks c h seen) x reply
entry_right e n k c h seen x (tell.Location (entries.GetEntryById entry)) f =
    let m : Mend = mend_of e c h seen entry in
    let y : Findings = record x { misses = not (is_some (flags_at (home_in entry) (family h) x.listed)) } in
    either (is_usable entry) e (asks_at e (places.Asks c h seen)).call (tell.Location (entries.GetEntryById entry)) (first_by c) recovering y (mends_on m) turns.Passes
    (takes_right e (asks_at e (places.Asks c h seen)).call (tell.Location (entries.GetEntryById entry)) m m.copies y f.0 (ap (λ (zs : List Seen). not (is_some (flags_at (home_in entry) (family h) zs))) f.1.0)) refl
entry_right e n k c h seen x reply f = refl

-- a place where nothing was found
plain : (e : Errand) (call : Call) (reply : Reply) (t : Turn) (x : Findings) → x ≡ nothing_found → Holds e call reply t → Answers e call reply None locked x t
plain e call reply t x h k = subst (λ (y : Findings). Answers e call reply None locked y t) (sym h) k

pub answered_at : (e : Errand) (n k : ℕ) (p : Place) (x : Findings) (reply : Reply) → FoundAt e.act p x → AnswersAt e n k p x reply
answered_at e n k (places.Seeks c) x reply f = seek_right e n k c x reply f
answered_at e n k (places.Locks c v) x reply f = lock_right e n k c v x reply f
answered_at e n k (places.Frees h code first) x reply f = free_right e n k h code first x reply f
answered_at e n k (places.Creates fresh step) x reply f = subst (λ (y : Findings). AnswersAt e n k (places.Creates fresh step) y reply) (sym f) (create_right e (ask_at e (places.Creates fresh step) n k) (name_in_act e.act) fresh step reply)
answered_at e n k (places.Adds h server) x reply f = plain e (asks_at e (places.Adds h server)).call reply (answered e (places.Adds h server) reply) x f (add_right e h server reply)
answered_at e n k (places.Backs h step) x reply f = plain e (asks_at e (places.Backs h step)).call reply (answered e (places.Backs h step) reply) x f (backup_right e (name_in_act e.act) h step reply)
answered_at e n k (places.Dumps s step) x reply f = plain e (asks_at e (places.Dumps s step)).call reply (answered e (places.Dumps s step) reply) x f (dump_right e s step reply)
answered_at e n k (places.Releases h step) x reply f = plain e (asks_at e (places.Releases h step)).call reply (answered e (places.Releases h step) reply) x f (release_right e h step reply)
answered_at e n k (places.Tours r step) x reply f = subst (λ (y : Findings). AnswersAt e n k (places.Tours r step) y reply) (sym f) (tour_right e (name_in_act e.act) r step reply)
answered_at e n k (places.Visits r s step) x reply f = subst (λ (y : Findings). AnswersAt e n k (places.Visits r s step) y reply) (sym f) (visit_right e (name_in_act e.act) r s step reply)
answered_at e n k (places.Surveys h why s left seen) x reply f = survey_right e n k h why s left seen x reply f
answered_at e n k (places.Plans h target) x reply f = plain e (asks_at e (places.Plans h target)).call reply (answered e (places.Plans h target) reply) x f (plan_right e h target reply)
answered_at e n k (places.Moves m step) x reply f = plain e (asks_at e (places.Moves m step)).call reply (answered e (places.Moves m step) reply) x f (move_right e (name_in_act e.act) m step reply)
answered_at e n k (places.Removes h seen step) x reply f = plain e (asks_at e (places.Removes h seen step)).call reply (answered e (places.Removes h seen step) reply) x f.0 (remove_right e h seen step reply f.1)
answered_at e n k (places.Sweeps h spot left step) x reply f = plain e (asks_at e (places.Sweeps h spot left step)).call reply (answered e (places.Sweeps h spot left step) reply) x f.0 (sweep_right e h spot left step reply f.1)
answered_at e n k (places.Asks c h seen) x reply f = entry_right e n k c h seen x reply f
answered_at e n k (places.Mends m step) x reply f = mend_right e (ask_at e (places.Mends m step) n k) m step x reply f
