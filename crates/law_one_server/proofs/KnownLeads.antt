-- Where answers and refusals lead, what an act knows goes on; and what it learns from the answer.
use Rattle.std.proofs.Common.{◌≡◌, ◌⊎◌, inl, inr, ℕ, zero, suc, Bool, true, false, cond, List, [], ◌∷◌, Option, Some, None, refl, sym, subst, nat_eq}
use Rattle.std.specs.Prelude.{⊤, ◌&&◌}
use Rattle.afs_num.specs.Names.{volume_name_ok}
use Rattle.afs_num.specs.declared.location_calls.LocEntry.{LocEntry}
use Rattle.afs_num.specs.declared.location_calls.LocReply.TheVariants as entries
use Rattle.afs_num.specs.declared.messages.Reply.{Reply}
use Rattle.afs_num.specs.declared.messages.Reply.TheVariants as tell
use Rattle.afs_num.specs.declared.types.Code.{Code}
use Rattle.afs_num.specs.declared.volume_calls.VolReply.TheVariants as volumes
use Rattle.spec_dumps.specs.Streams.{is_last_at}
use Rattle.spec_history.specs.declared.scripts.AdminAct.{AdminAct}
use Rattle.spec_history.specs.declared.scripts.AdminAct.TheVariants as acts
use Rattle.spec_volrows.specs.VolRow.{most_piece}
use Rattle.spec_runs.specs.NodeRuns.{NodeCell}
use Rattle.spec_adminrows.specs.Acts.{answered, begins_with, can_go_on, creates_from, free_answered, goes_on_locked, lock_answered, locked, refused, seek_answered}
use Rattle.spec_adminrows.specs.Asks.{all_servers, family, home, name_in_act}
use Rattle.spec_adminrows.specs.Copying.{add_answered}
use Rattle.spec_adminrows.specs.Creating.{create_answered, dump_in, fills_or_closes}
use Rattle.spec_adminrows.specs.Entries.{has_read_only_at, home_in, is_usable}
use Rattle.spec_adminrows.specs.Moving.{move_answered, moved_off, plan_answered}
use Rattle.spec_adminrows.specs.Recovering.{entry_answered, mend_of, takes_copies}
use Rattle.spec_adminrows.specs.Releasing.{release_answered}
use Rattle.spec_adminrows.specs.Removing.{others_of, remove_answered, sweeps}
use Rattle.spec_adminrows.specs.Surveying.{survey_answered, surveys}
use Rattle.spec_adminrows.specs.Turns.{is_dead, is_unlisted}
use Rattle.spec_adminrows.specs.declared.places.Cause.{Cause}
use Rattle.spec_adminrows.specs.declared.places.Cause.TheVariants as causes
use Rattle.spec_adminrows.specs.declared.places.Creating.{Creating}
use Rattle.spec_adminrows.specs.declared.places.Creating.TheVariants as creating
use Rattle.spec_adminrows.specs.declared.places.Fresh.{Fresh}
use Rattle.spec_adminrows.specs.declared.places.Hold.{Hold}
use Rattle.spec_adminrows.specs.declared.places.Mend.{Mend}
use Rattle.spec_adminrows.specs.declared.places.Moving.{Moving}
use Rattle.spec_adminrows.specs.declared.places.Moving.TheVariants as moving
use Rattle.spec_adminrows.specs.declared.places.Place.{Place}
use Rattle.spec_adminrows.specs.declared.places.Place.TheVariants as places
use Rattle.spec_adminrows.specs.declared.places.Purpose.{Purpose}
use Rattle.spec_adminrows.specs.declared.places.Purpose.TheVariants as purposes
use Rattle.spec_adminrows.specs.declared.places.Releasing.{Releasing}
use Rattle.spec_adminrows.specs.declared.places.Releasing.TheVariants as releasing
use Rattle.spec_adminrows.specs.declared.places.Removing.{Removing}
use Rattle.spec_adminrows.specs.declared.places.Removing.TheVariants as removing
use Rattle.spec_adminrows.specs.declared.places.Seen.{Seen}
use Rattle.spec_adminrows.specs.declared.places.Spot.{Spot}
use Rattle.spec_adminrows.specs.declared.places.Tour.{Tour}
use Rattle.spec_adminrows.specs.declared.places.Trip.{Trip}
use Rattle.spec_adminrows.specs.declared.turns.Errand.{Errand}
use Rattle.spec_adminrows.specs.declared.turns.Turn.{Turn}
use Rattle.spec_adminrows.specs.declared.turns.Turn.TheVariants as turns
use Rattle.law_walks.proofs.Places.{backup_is, dump_is, ends_is, fails_is, mend_is, seek_fails_is, survey_refused_is, sweep_is, takes_is, tour_is, visit_is, visit_refused_is, TurnIs}
use Rattle.law_one_server.specs.Knows.{HasLost, IsAt, IsHome, IsHomeOr, IsListedOr, IsMovedOr, Knows, KnowsInCreation, KnowsInMove, KnowsInRemoval, KnowsInSurvey}

-- What an answer tells: of a lock, where the volume is; of the entry that was read under it, the same; of the fence, that the volume is out of
-- service; of the deciding write, that the database names the new server.
abbrev pub LockNews : NodeCell → ℕ → LocEntry → Place → Type 0
LockNews c stamp n (places.Locks cause v) = is_usable n ≡ true → IsAt c n.read_write stamp (home_in n) × IsListedOr c n.read_write stamp
LockNews c stamp n p = ⊤

abbrev pub MadeNews : NodeCell → ℕ → Place → Type 0
MadeNews c stamp (places.Creates f (creating.Enters v)) = IsAt c v stamp f.server
MadeNews c stamp p = ⊤

abbrev pub WrittenNews : NodeCell → Place → Type 0
WrittenNews c (places.Moves m (moving.Decides new old)) = IsAt c (family m.hold) m.hold.stamp m.target
WrittenNews c p = ⊤

abbrev pub ReadNews : NodeCell → LocEntry → Place → Type 0
ReadNews c n (places.Asks cause h seen) = is_usable n ≡ true → IsAt c (family h) h.stamp (home_in n)
ReadNews c n p = ⊤

abbrev pub FenceNews : NodeCell → Place → Type 0
FenceNews c (places.Moves m (moving.Fences counter new old)) = IsMovedOr c (family m.hold) m.hold.stamp m.target (home m.hold)
FenceNews c (places.Removes h seen (removing.Fences t)) = KnowsInRemoval c h (removing.Decides t)
FenceNews c p = ⊤

abbrev pub News : NodeCell → Place → Reply → Type 0
News c p (tell.Location (entries.SetLock stamp n)) = LockNews c stamp n p
News c p (tell.Location (entries.CreateEntry stamp)) = MadeNews c stamp p
News c p (tell.Location entries.ReplaceEntry) = WrittenNews c p
News c p (tell.Location (entries.GetEntryById n)) = ReadNews c n p
News c p (tell.Volume volumes.SetFlags) = FenceNews c p
News c p reply = ⊤

-- at the places of other questions no answer tells anything
abbrev pub IsQuiet : Place → Type 0
IsQuiet (places.Locks cause v) = ⊥
IsQuiet (places.Creates f (creating.Enters v)) = ⊥
IsQuiet (places.Moves m (moving.Fences counter new old)) = ⊥
IsQuiet (places.Moves m (moving.Decides new old)) = ⊥
IsQuiet (places.Removes h seen (removing.Fences t)) = ⊥
IsQuiet (places.Asks cause h seen) = ⊥
IsQuiet p = ⊤

lock_quiet : (c : NodeCell) (stamp : ℕ) (n : LocEntry) (p : Place) → IsQuiet p → LockNews c stamp n p
lock_quiet c stamp n (places.Locks cause v) k = absurd k
lock_quiet c stamp n p k = tt

made_quiet : (c : NodeCell) (stamp : ℕ) (p : Place) → IsQuiet p → MadeNews c stamp p
made_quiet c stamp (places.Creates f (creating.Enters v)) k = absurd k
made_quiet c stamp p k = tt

written_quiet : (c : NodeCell) (p : Place) → IsQuiet p → WrittenNews c p
written_quiet c (places.Moves m (moving.Decides new old)) k = absurd k
written_quiet c p k = tt

read_quiet : (c : NodeCell) (n : LocEntry) (p : Place) → IsQuiet p → ReadNews c n p
read_quiet c n (places.Asks cause h seen) k = absurd k
read_quiet c n p k = tt

fence_quiet : (c : NodeCell) (p : Place) → IsQuiet p → FenceNews c p
fence_quiet c (places.Moves m (moving.Fences counter new old)) k = absurd k
fence_quiet c (places.Removes h seen (removing.Fences t)) k = absurd k
fence_quiet c p k = tt

pub quiet_news : (c : NodeCell) (p : Place) (reply : Reply) → IsQuiet p → News c p reply
quiet_news c p (tell.Location (entries.SetLock stamp n)) k = lock_quiet c stamp n p k
quiet_news c p (tell.Location (entries.CreateEntry stamp)) k = made_quiet c stamp p k
quiet_news c p (tell.Location entries.ReplaceEntry) k = written_quiet c p k
quiet_news c p (tell.Location (entries.GetEntryById n)) k = read_quiet c n p k
quiet_news c p (tell.Volume volumes.SetFlags) k = fence_quiet c p k
quiet_news c p reply k = tt

module _ (c : NodeCell) where
  abbrev Led : Turn → Type 0
  Led t = TurnIs (Knows c) t

  either : (b : Bool) (x y : Turn) → Led x → Led y → Led (cond b x y)
  either true x y h k = h
  either false x y h k = k

  when : (b : Bool) (x : Turn) → (b ≡ true → Led x) → Led (cond b x turns.Passes)
  when true x h = h refl
  when false x h = tt

  -- ---- the first place behind the lock

  surveys_led : (h : Hold) (why : Purpose) (left : List ℕ) (seen : List Seen) → KnowsInSurvey c h why → Led (surveys h why left seen)
  surveys_led h (purposes.Moves target) [] seen k = k
  surveys_led h purposes.Removes [] seen k = k
  surveys_led h (purposes.Mends cause) [] seen k = k
  surveys_led h why (s ∷ left) seen k = k

  goes_led : (e : Errand) (h : Hold) (act : AdminAct) → IsHome c h → IsListedOr c (family h) h.stamp → Led (goes_on_locked e h act)
  goes_led e h (acts.Create name server quota) k listed = tt
  goes_led e h (acts.Restore name server label) k listed = tt
  goes_led e h (acts.AddSite name server) k listed = either (has_read_only_at server h.entry) _ _ tt k
  goes_led e h (acts.Backup name) k listed = k
  goes_led e h (acts.Release name) k listed = k
  goes_led e h (acts.Move name server) k listed = either (nat_eq server (home h)) _ _ tt (surveys_led h (purposes.Moves server) (all_servers e) [] (inr k))
  goes_led e h (acts.Dump name label from) k listed = k
  goes_led e h (acts.Remove name) k listed = surveys_led h purposes.Removes (all_servers e) [] (inr k)
  goes_led e h (acts.Recover name) k listed = surveys_led h (purposes.Mends causes.Asked) (all_servers e) [] listed

  locked_led : (e : Errand) (h : Hold) (cause : Cause) → IsHome c h → IsListedOr c (family h) h.stamp → Led (locked e h cause)
  locked_led e h causes.Asked k listed = goes_led e h e.act k listed
  locked_led e h (causes.After code) k listed = surveys_led h (purposes.Mends (causes.After code)) (all_servers e) [] listed

  second : (a b : Bool) → (a && b) ≡ true → b ≡ true
  second true b e = e
  second false b e = absurd cc

  lock_led : (e : Errand) (cause : Cause) (v : ℕ) (reply : Reply) → News c (places.Locks cause v) reply → Led (lock_answered e cause reply)
  lock_led e cause v (tell.Location (entries.SetLock stamp n)) news = when (can_go_on e n) _ (λ can. let known = news (second (volume_name_ok (name_in_act e.act)) (is_usable n) can) in locked_led e (record { entry = n; stamp = stamp }) cause known.0 known.1)
  lock_led e cause v reply news = tt

  seek_led : (cause : Cause) (reply : Reply) → Led (seek_answered cause reply)
  seek_led cause (tell.Location (entries.GetEntryByName n)) = tt
  seek_led cause reply = tt

  free_led : (code : Code) (reply : Reply) → Led (free_answered code reply)
  free_led code (tell.Location entries.ReleaseLock) = tt
  free_led code reply = tt

  -- ---- the creation of a volume

  filled_led : (f : Fresh) (v t : ℕ) (o : Option (List ℕ)) → Led (fills_or_closes f v t o)
  filled_led f v t None = tt
  filled_led f v t (Some bytes) = tt

  create_led : (f : Fresh) (step : Creating) (reply : Reply) → KnowsInCreation c f.server step → News c (places.Creates f step) reply → Led (create_answered f step reply)
  create_led f creating.Numbers (tell.Location (entries.GetNewVolumeId v)) k news = tt
  create_led f (creating.Makes v) (tell.Volume (volumes.CreateVolume t)) k news = filled_led f v t f.dump
  create_led f (creating.Fills v t offset) (tell.Volume volumes.Restore) k news = either (is_last_at most_piece offset (dump_in f)) _ _ tt tt
  create_led f (creating.Closes v t) (tell.Volume volumes.SetFlags) k news = tt
  create_led f (creating.Ends v t) (tell.Volume volumes.EndTrans) k news = tt
  create_led f (creating.Enters v) (tell.Location (entries.CreateEntry stamp)) k news = news
  create_led f (creating.Checks v code) (tell.Location (entries.GetEntryById n)) k news = tt
  create_led f (creating.Scraps v code) (tell.Volume (volumes.TransCreate t)) k news = tt
  create_led f (creating.Scrapped v code t) (tell.Volume volumes.DeleteVolume) k news = tt
  create_led f (creating.Begins v stamp) (tell.Volume (volumes.TransCreate t)) k news = k
  create_led f (creating.Opens v stamp t) (tell.Volume volumes.SetFlags) k news = k
  create_led f (creating.Opened v stamp t) (tell.Volume volumes.EndTrans) k news = k
  create_led f (creating.Frees v stamp) (tell.Location entries.ReleaseLock) k news = tt
  create_led f step reply k news = tt

  create_refused_led : (f : Fresh) (step : Creating) (code : Code) → Led (refused (places.Creates f step) code)
  create_refused_led f (creating.Enters v) code = either (is_dead code) (turns.Ends code) _ tt tt
  create_refused_led f (creating.Checks v first) code = either (is_unlisted code) _ (turns.Ends first) tt tt
  create_refused_led f (creating.Scraps v first) code = tt
  create_refused_led f (creating.Scrapped v first t) code = tt
  create_refused_led f (creating.Begins v stamp) code = fails_is (Knows c) None code (λ x. tt)
  create_refused_led f (creating.Opens v stamp t) code = fails_is (Knows c) None code (λ x. tt)
  create_refused_led f (creating.Opened v stamp t) code = fails_is (Knows c) None code (λ x. tt)
  create_refused_led f (creating.Frees v stamp) code = fails_is (Knows c) None code (λ x. tt)
  create_refused_led f step code = tt

  -- ---- works, which leave the volume where it is

  add_led : (h : Hold) (reply : Reply) → Led (add_answered h reply)
  add_led h (tell.Location entries.ReplaceEntry) = tt
  add_led h reply = tt

  release_led : (h : Hold) (step : Releasing) (reply : Reply) → IsHome c h → Led (release_answered h step reply)
  release_led h releasing.Stamps (tell.Volume (volumes.ListVols ls)) k = either (nat_eq h.entry.read_only 0) _ _ k k
  release_led h releasing.Numbers (tell.Location (entries.GetNewVolumeId ro)) k = k
  release_led h (releasing.NumbersClone ro) (tell.Location (entries.GetNewVolumeId x)) k = k
  release_led h step r k = tt

  of_tour : (r q : Tour) → q.hold ≡ r.hold → IsHome c r.hold → IsHome c q.hold
  of_tour r q same k = subst (IsHome c) (sym same) k

  -- ---- moves

  survey_led : (h : Hold) (why : Purpose) (s : ℕ) (left : List ℕ) (seen : List Seen) (reply : Reply) → KnowsInSurvey c h why → Led (survey_answered h why s left seen reply)
  survey_led h why s left seen (tell.Volume (volumes.ListVols ls)) k = surveys_led h why left _ k
  survey_led h why s left seen reply k = tt

  plan_led : (h : Hold) (target : ℕ) (reply : Reply) → IsHomeOr c h target → Led (plan_answered h target reply)
  plan_led h target (tell.Location (entries.GetNewVolumeId x)) k = k
  plan_led h target reply k = tt

  moved_home : (h : Hold) (target : ℕ) → IsAt c (family h) h.stamp target → IsHomeOr c h target
  moved_home h target (inl named) = inl named
  moved_home h target (inr over) = inr (inr over)

  move_led : (m : Trip) (step : Moving) (reply : Reply) → KnowsInMove c m.hold m.target step → News c (places.Moves m step) reply → Led (move_answered m step reply)
  move_led m moving.Begins (tell.Volume (volumes.TransCreate t)) k news = k
  move_led m (moving.Clones t) (tell.Volume (volumes.Clone counter release)) k news = k
  move_led m (moving.Cloned counter t) (tell.Volume volumes.EndTrans) k news = k
  move_led m (moving.Makes counter) (tell.Volume (volumes.CreateVolume new)) k news = k
  move_led m (moving.Opens counter new) (tell.Volume (volumes.TransCreate t)) k news = k
  move_led m (moving.Sends counter new t) (tell.Volume volumes.Forward) k news = k
  move_led m (moving.Sent counter new t) (tell.Volume volumes.EndTrans) k news = k
  move_led m (moving.Holds counter new) (tell.Volume (volumes.TransCreate old)) k news = k
  move_led m (moving.Fences counter new old) (tell.Volume volumes.SetFlags) k news = news
  move_led m (moving.Fills counter new old) (tell.Volume volumes.Forward) k news = k
  move_led m (moving.Clears new old) (tell.Volume volumes.SetFlags) k news = k
  move_led m (moving.Decides new old) (tell.Location entries.ReplaceEntry) k news = news
  move_led m (moving.Starts new old) (tell.Volume volumes.SetFlags) k news = k
  move_led m (moving.Started new old) (tell.Volume volumes.EndTrans) k news = k
  move_led m (moving.Points old) (tell.Volume volumes.SetForwarding) k news = k
  move_led m (moving.Deletes old) (tell.Volume volumes.DeleteVolume) k news = moved_home m.hold m.target k
  move_led m moving.Drops (tell.Volume (volumes.TransCreate t)) k news = k
  move_led m (moving.Dropped t) (tell.Volume volumes.DeleteVolume) k news = either (nat_eq m.hold.entry.backup 0) _ _ tt k
  move_led m moving.DropsBackup (tell.Volume (volumes.TransCreate t)) k news = k
  move_led m (moving.DroppedBackup t) (tell.Volume volumes.DeleteVolume) k news = tt
  move_led m step reply k news = tt

  -- ---- removals and recoveries

  sweeps_led : (h : Hold) (spots : List Spot) → Led (sweeps h spots)
  sweeps_led h [] = tt
  sweeps_led h (spot ∷ left) = tt

  remove_led : (h : Hold) (seen : List Seen) (step : Removing) (reply : Reply) → KnowsInRemoval c h step → News c (places.Removes h seen step) reply → Led (remove_answered h seen step reply)
  remove_led h seen removing.Begins (tell.Volume (volumes.TransCreate t)) k news = k
  remove_led h seen (removing.Fences t) (tell.Volume volumes.SetFlags) k news = news
  remove_led h seen (removing.Decides t) (tell.Location entries.DeleteEntry) k news = k.0
  remove_led h seen (removing.Deletes t) (tell.Volume volumes.DeleteVolume) k news = sweeps_led h (others_of h seen)
  remove_led h seen step reply k news = tt

  entry_led : (e : Errand) (cause : Cause) (h : Hold) (seen : List Seen) (reply : Reply) → News c (places.Asks cause h seen) reply → Led (entry_answered e cause h seen reply)
  entry_led e cause h seen (tell.Location (entries.GetEntryById n)) news = when (is_usable n) _ (λ usable. let m : Mend = mend_of e cause h seen n in takes_is (Knows c) m m.copies (λ copies others step. news usable))
  entry_led e cause h seen reply news = tt

  -- ---- every answer, every refusal, and the first question of an act

  pub answered_knows : (e : Errand) (p : Place) (reply : Reply) → Knows c p → News c p reply → TurnIs (Knows c) (answered e p reply)
  answered_knows e (places.Seeks cause) reply k news = seek_led cause reply
  answered_knows e (places.Locks cause v) reply k news = lock_led e cause v reply news
  answered_knows e (places.Frees h code first) reply k news = free_led code reply
  answered_knows e (places.Creates f step) reply k news = create_led f step reply k news
  answered_knows e (places.Adds h server) reply k news = add_led h reply
  answered_knows e (places.Backs h step) reply k news = backup_is (Knows c) h step reply (λ step. k) tt
  answered_knows e (places.Dumps s step) reply k news = dump_is (Knows c) s step reply (λ bytes step. k) tt
  answered_knows e (places.Releases h step) reply k news = release_led h step reply k
  answered_knows e (places.Tours r step) reply k news = tour_is (Knows c) r step reply (λ q same step. of_tour r q same k) (λ q same s step. of_tour r q same k) (λ code first. tt)
  answered_knows e (places.Visits r s step) reply k news = visit_is (Knows c) r s step reply (λ q same step. of_tour r q same k) (λ q same s step. of_tour r q same k)
  answered_knows e (places.Surveys h why s left seen) reply k news = survey_led h why s left seen reply k
  answered_knows e (places.Plans h target) reply k news = plan_led h target reply k
  answered_knows e (places.Moves m step) reply k news = move_led m step reply k news
  answered_knows e (places.Removes h seen step) reply k news = remove_led h seen step reply k news
  answered_knows e (places.Sweeps h spot left step) reply k news = sweep_is (Knows c) h spot left step reply (λ spot left step. tt)
  answered_knows e (places.Asks cause h seen) reply k news = entry_led e cause h seen reply news
  answered_knows e (places.Mends m step) reply k news = mend_is (Knows c) m step reply (λ copies others step. k)

  pub refused_knows : (p : Place) (code : Code) → Knows c p → TurnIs (Knows c) (refused p code)
  refused_knows (places.Seeks cause) code k = seek_fails_is (Knows c) cause code
  refused_knows (places.Locks cause v) code k = seek_fails_is (Knows c) cause code
  refused_knows (places.Frees h ending first) code k = fails_is (Knows c) first code (λ x. tt)
  refused_knows (places.Creates f step) code k = create_refused_led f step code
  refused_knows (places.Adds h server) code k = fails_is (Knows c) None code (λ x. tt)
  refused_knows (places.Backs h step) code k = fails_is (Knows c) None code (λ x. tt)
  refused_knows (places.Dumps s step) code k = fails_is (Knows c) None code (λ x. tt)
  refused_knows (places.Releases h step) code k = fails_is (Knows c) None code (λ x. tt)
  refused_knows (places.Tours r step) code k = fails_is (Knows c) r.first code (λ x. tt)
  refused_knows (places.Visits r s step) code k = visit_refused_is (Knows c) r s step code (λ q same step. of_tour r q same k) (λ q same s step. of_tour r q same k)
  refused_knows (places.Surveys h why s left seen) code k = survey_refused_is (Knows c) why code (λ x. tt)
  refused_knows (places.Plans h target) code k = fails_is (Knows c) None code (λ x. tt)
  refused_knows (places.Moves m step) code k = fails_is (Knows c) None code (λ x. tt)
  refused_knows (places.Removes h seen step) code k = fails_is (Knows c) None code (λ x. tt)
  refused_knows (places.Sweeps h spot left step) code k = fails_is (Knows c) None code (λ x. tt)
  refused_knows (places.Asks cause h seen) code k = ends_is (Knows c) cause code
  refused_knows (places.Mends m step) code k = ends_is (Knows c) m.cause code

  creates_led : (server : ℕ) (o : Option (List ℕ)) → Led (creates_from server o)
  creates_led server None = tt
  creates_led server (Some bytes) = tt

  pub first_knows : (act : AdminAct) (held : Option (List ℕ)) → TurnIs (Knows c) (begins_with act held)
  first_knows (acts.Create name server quota) held = tt
  first_knows (acts.Restore name server label) held = creates_led server held
  first_knows act held = tt
