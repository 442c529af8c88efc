-- A move that has deleted the volume at its old server knows what it knew then: the database names the new one, or the act is over.
use Rattle.std.proofs.Common.{◌≡◌, inl, inr, ℕ, zero, suc, Bool, true, false, cond, List, [], ◌∷◌, ◌++◌, Option, Some, None, sym, subst, nat_eq}
use Rattle.std.specs.Prelude.{⊤, map}
use Rattle.afs_num.specs.declared.location_calls.LocReply.TheVariants as entries
use Rattle.afs_num.specs.declared.messages.Message.{Message}
use Rattle.afs_num.specs.declared.messages.Reply.{Reply}
use Rattle.afs_num.specs.declared.messages.Reply.TheVariants as tell
use Rattle.afs_num.specs.declared.types.Code.{Code}
use Rattle.afs_num.specs.declared.volume_calls.VolReply.TheVariants as volumes
use Rattle.spec_history.specs.declared.scripts.AdminAct.{AdminAct}
use Rattle.spec_history.specs.declared.scripts.AdminAct.TheVariants as acts
use Rattle.spec_adminrows.specs.Acts.{answered, begins_with, can_go_on, creates_from, free_answered, goes_on_locked, lock_answered, locked, refused, seek_answered}
use Rattle.spec_adminrows.specs.Asks.{all_servers, family, home}
use Rattle.spec_adminrows.specs.Copying.{add_answered}
use Rattle.spec_adminrows.specs.Entries.{has_read_only_at, is_usable}
use Rattle.spec_adminrows.specs.Moving.{move_answered, plan_answered}
use Rattle.spec_adminrows.specs.Recovering.{entry_answered, mend_of, takes_copies}
use Rattle.spec_adminrows.specs.Surveying.{seen_by, survey_answered, surveys}
use Rattle.spec_adminrows.specs.declared.places.Cause.{Cause}
use Rattle.spec_adminrows.specs.declared.places.Cause.TheVariants as causes
use Rattle.spec_adminrows.specs.declared.places.Hold.{Hold}
use Rattle.spec_adminrows.specs.declared.places.Mend.{Mend}
use Rattle.spec_adminrows.specs.declared.places.Moving.{Moving}
use Rattle.spec_adminrows.specs.declared.places.Moving.TheVariants as moving
use Rattle.spec_adminrows.specs.declared.places.Place.{Place}
use Rattle.spec_adminrows.specs.declared.places.Place.TheVariants as places
use Rattle.spec_adminrows.specs.declared.places.Purpose.{Purpose}
use Rattle.spec_adminrows.specs.declared.places.Purpose.TheVariants as purposes
use Rattle.spec_adminrows.specs.declared.places.Seen.{Seen}
use Rattle.spec_adminrows.specs.declared.places.Trip.{Trip}
use Rattle.spec_adminrows.specs.declared.turns.Errand.{Errand}
use Rattle.spec_adminrows.specs.declared.turns.Turn.{Turn}
use Rattle.spec_adminrows.specs.declared.turns.Turn.TheVariants as turns
use Rattle.spec_runs.specs.NodeRuns.{NodeCell}
use Rattle.law_walks.proofs.Places.{backup_is, create_is, create_refused_is, dump_is, ends_is, fails_is, mend_is, release_is, remove_is, seek_fails_is, survey_refused_is, sweep_is, takes_is, tour_is, visit_is, visit_refused_is, TurnIs}
use Rattle.law_courses.specs.Courses.{no_course, Course, Follows, Question, Way}
use Rattle.law_courses.proofs.Continuing.{leads_is}
use Rattle.law_one_server.specs.Knows.{IsAt, Knows}

module _ (c : NodeCell) where
  -- the places behind the deletion at the old server
  abbrev pub KnowsLater : Place → Type 0
  KnowsLater (places.Moves m moving.Drops) = IsAt c (family m.hold) m.hold.stamp m.target
  KnowsLater (places.Moves m (moving.Dropped t)) = IsAt c (family m.hold) m.hold.stamp m.target
  KnowsLater (places.Moves m moving.DropsBackup) = IsAt c (family m.hold) m.hold.stamp m.target
  KnowsLater (places.Moves m (moving.DroppedBackup t)) = IsAt c (family m.hold) m.hold.stamp m.target
  KnowsLater p = ⊤

  either : (b : Bool) (x y : Turn) → TurnIs KnowsLater x → TurnIs KnowsLater y → TurnIs KnowsLater (cond b x y)
  either true x y h k = h
  either false x y h k = k

  move_later : (m : Trip) (step : Moving) (reply : Reply) → Knows c (places.Moves m step) → KnowsLater (places.Moves m step) → TurnIs KnowsLater (move_answered m step reply)
  move_later m moving.Begins (tell.Volume (volumes.TransCreate t)) k later = tt
  move_later m (moving.Clones t) (tell.Volume (volumes.Clone counter release)) k later = tt
  move_later m (moving.Cloned counter t) (tell.Volume volumes.EndTrans) k later = tt
  move_later m (moving.Makes counter) (tell.Volume (volumes.CreateVolume new)) k later = tt
  move_later m (moving.Opens counter new) (tell.Volume (volumes.TransCreate t)) k later = tt
  move_later m (moving.Sends counter new t) (tell.Volume volumes.Forward) k later = tt
  move_later m (moving.Sent counter new t) (tell.Volume volumes.EndTrans) k later = tt
  move_later m (moving.Holds counter new) (tell.Volume (volumes.TransCreate old)) k later = tt
  move_later m (moving.Fences counter new old) (tell.Volume volumes.SetFlags) k later = tt
  move_later m (moving.Fills counter new old) (tell.Volume volumes.Forward) k later = tt
  move_later m (moving.Clears new old) (tell.Volume volumes.SetFlags) k later = tt
  move_later m (moving.Decides new old) (tell.Location entries.ReplaceEntry) k later = tt
  move_later m (moving.Starts new old) (tell.Volume volumes.SetFlags) k later = tt
  move_later m (moving.Started new old) (tell.Volume volumes.EndTrans) k later = tt
  move_later m (moving.Points old) (tell.Volume volumes.SetForwarding) k later = tt
  move_later m (moving.Deletes old) (tell.Volume volumes.DeleteVolume) k later = k
  move_later m moving.Drops (tell.Volume (volumes.TransCreate t)) k later = later
  move_later m (moving.Dropped t) (tell.Volume volumes.DeleteVolume) k later = either (nat_eq m.hold.entry.backup 0) _ _ tt later
  move_later m moving.DropsBackup (tell.Volume (volumes.TransCreate t)) k later = later
  move_later m (moving.DroppedBackup t) (tell.Volume volumes.DeleteVolume) k later = tt
  move_later m step reply k later = tt

  -- ---- no other place leads there

  survey_on : (h : Hold) (why : Purpose) (left : List ℕ) (seen : List Seen) → TurnIs KnowsLater (surveys h why left seen)
  survey_on h (purposes.Moves target) [] seen = tt
  survey_on h purposes.Removes [] seen = tt
  survey_on h (purposes.Mends cause) [] seen = tt
  survey_on h why (s ∷ left) seen = tt

  goes_later : (e : Errand) (h : Hold) (act : AdminAct) → TurnIs KnowsLater (goes_on_locked e h act)
  goes_later e h (acts.Create name server quota) = tt
  goes_later e h (acts.Restore name server label) = tt
  goes_later e h (acts.AddSite name server) = either (has_read_only_at server h.entry) _ _ tt tt
  goes_later e h (acts.Backup name) = tt
  goes_later e h (acts.Release name) = tt
  goes_later e h (acts.Move name server) = either (nat_eq server (home h)) _ _ tt (survey_on h (purposes.Moves server) (all_servers e) [])
  goes_later e h (acts.Dump name label from) = tt
  goes_later e h (acts.Remove name) = survey_on h purposes.Removes (all_servers e) []
  goes_later e h (acts.Recover name) = survey_on h (purposes.Mends causes.Asked) (all_servers e) []

  locked_later : (e : Errand) (h : Hold) (cause : Cause) → TurnIs KnowsLater (locked e h cause)
  locked_later e h causes.Asked = goes_later e h e.act
  locked_later e h (causes.After code) = survey_on h (purposes.Mends (causes.After code)) (all_servers e) []

  lock_later : (e : Errand) (cause : Cause) (reply : Reply) → TurnIs KnowsLater (lock_answered e cause reply)
  lock_later e cause (tell.Location (entries.SetLock stamp n)) = either (can_go_on e n) _ turns.Passes (locked_later e (record { entry = n; stamp = stamp }) cause) tt
  lock_later e cause reply = tt

  seek_later : (cause : Cause) (reply : Reply) → TurnIs KnowsLater (seek_answered cause reply)
  seek_later cause (tell.Location (entries.GetEntryByName n)) = tt
  seek_later cause reply = tt

  free_later : (code : Code) (reply : Reply) → TurnIs KnowsLater (free_answered code reply)
  free_later code (tell.Location entries.ReleaseLock) = tt
  free_later code reply = tt

  add_later : (h : Hold) (reply : Reply) → TurnIs KnowsLater (add_answered h reply)
  add_later h (tell.Location entries.ReplaceEntry) = tt
  add_later h reply = tt

  plan_later : (h : Hold) (target : ℕ) (reply : Reply) → TurnIs KnowsLater (plan_answered h target reply)
  plan_later h target (tell.Location (entries.GetNewVolumeId x)) = tt
  plan_later h target reply = tt

  survey_later : (h : Hold) (why : Purpose) (s : ℕ) (left : List ℕ) (seen : List Seen) (reply : Reply) → TurnIs KnowsLater (survey_answered h why s left seen reply)
  survey_later h why s left seen (tell.Volume (volumes.ListVols ls)) = survey_on h why left (seen ++ map (seen_by s) ls)
  survey_later h why s left seen reply = tt

  entry_later : (e : Errand) (cause : Cause) (h : Hold) (seen : List Seen) (reply : Reply) → TurnIs KnowsLater (entry_answered e cause h seen reply)
  entry_later e cause h seen (tell.Location (entries.GetEntryById n)) =
      let m : Mend = mend_of e cause h seen n in either (is_usable n) (takes_copies m m.copies) turns.Passes (takes_is KnowsLater m m.copies (λ copies others step. tt)) tt
  entry_later e cause h seen reply = tt

  creates_later : (server : ℕ) (o : Option (List ℕ)) → TurnIs KnowsLater (creates_from server o)
  creates_later server None = tt
  creates_later server (Some bytes) = tt

  first_later : (act : AdminAct) (held : Option (List ℕ)) → TurnIs KnowsLater (begins_with act held)
  first_later (acts.Create name server quota) held = tt
  first_later (acts.Restore name server label) held = creates_later server held
  first_later act held = tt

  refused_later : (p : Place) (code : Code) → TurnIs KnowsLater (refused p code)
  refused_later (places.Seeks cause) code = seek_fails_is KnowsLater cause code
  refused_later (places.Locks cause v) code = seek_fails_is KnowsLater cause code
  refused_later (places.Frees h ending first) code = fails_is KnowsLater first code (λ x. tt)
  refused_later (places.Creates f step) code = create_refused_is KnowsLater f step code (λ step. tt) (λ x. tt)
  refused_later (places.Adds h server) code = fails_is KnowsLater None code (λ x. tt)
  refused_later (places.Backs h step) code = fails_is KnowsLater None code (λ x. tt)
  refused_later (places.Dumps s step) code = fails_is KnowsLater None code (λ x. tt)
  refused_later (places.Releases h step) code = fails_is KnowsLater None code (λ x. tt)
  refused_later (places.Tours r step) code = fails_is KnowsLater r.first code (λ x. tt)
  refused_later (places.Visits r s step) code = visit_refused_is KnowsLater r s step code (λ q same step. tt) (λ q same s step. tt)
  refused_later (places.Surveys h why s left seen) code = survey_refused_is KnowsLater why code (λ x. tt)
  refused_later (places.Plans h target) code = fails_is KnowsLater None code (λ x. tt)
  refused_later (places.Moves m step) code = fails_is KnowsLater None code (λ x. tt)
  refused_later (places.Removes h seen step) code = fails_is KnowsLater None code (λ x. tt)
  refused_later (places.Sweeps h spot left step) code = fails_is KnowsLater None code (λ x. tt)
  refused_later (places.Asks cause h seen) code = ends_is KnowsLater cause code
  refused_later (places.Mends m step) code = ends_is KnowsLater m.cause code

  answered_later : (e : Errand) (p : Place) (reply : Reply) → Knows c p → KnowsLater p → TurnIs KnowsLater (answered e p reply)
  answered_later e (places.Seeks cause) reply k later = seek_later cause reply
  answered_later e (places.Locks cause v) reply k later = lock_later e cause reply
  answered_later e (places.Frees h code first) reply k later = free_later code reply
  answered_later e (places.Creates f step) reply k later = create_is KnowsLater f step reply (λ step. tt)
  answered_later e (places.Adds h server) reply k later = add_later h reply
  answered_later e (places.Backs h step) reply k later = backup_is KnowsLater h step reply (λ step. tt) tt
  answered_later e (places.Dumps s step) reply k later = dump_is KnowsLater s step reply (λ bytes step. tt) tt
  answered_later e (places.Releases h step) reply k later = release_is KnowsLater h step reply (λ step. tt) (λ r step. tt)
  answered_later e (places.Tours r step) reply k later = tour_is KnowsLater r step reply (λ q same step. tt) (λ q same s step. tt) (λ code first. tt)
  answered_later e (places.Visits r s step) reply k later = visit_is KnowsLater r s step reply (λ q same step. tt) (λ q same s step. tt)
  answered_later e (places.Surveys h why s left seen) reply k later = survey_later h why s left seen reply
  answered_later e (places.Plans h target) reply k later = plan_later h target reply
  answered_later e (places.Moves m step) reply k later = move_later m step reply k later
  answered_later e (places.Removes h seen step) reply k later = remove_is KnowsLater h seen step reply (λ step. tt) (λ spot left step. tt)
  answered_later e (places.Sweeps h spot left step) reply k later = sweep_is KnowsLater h spot left step reply (λ spot left step. tt)
  answered_later e (places.Asks cause h seen) reply k later = entry_later e cause h seen reply
  answered_later e (places.Mends m step) reply k later = mend_is KnowsLater m step reply (λ copies others step. tt)

  -- ---- on its course

  module _ (course : Course) (sent : List Message) (n e : ℕ) (zero_asks : course n e 0 ≡ no_course n e 0) (knows : (k : ℕ) → Knows c (course n e k).place) where
    follows_later : (k : ℕ) (q : Question) → Follows sent n e k (course n e k) q → KnowsLater (course n e k).place → KnowsLater q.place
    follows_later k q (inl begun) later = leads_is KnowsLater q.place _ (first_later q.errand.act begun.0) begun.1
    follows_later k q (inr (inl w)) later = leads_is KnowsLater q.place _ (answered_later (course n e k).errand (course n e k).place w.reply (knows k) later) w.leads
    follows_later k q (inr (inr w)) later = leads_is KnowsLater q.place _ (refused_later (course n e k).place w.code) w.leads

    pub knows_later : (k : ℕ) → Way course sent n e k → KnowsLater (course n e k).place
    knows_later zero way = subst (λ (q : Question). KnowsLater q.place) (sym zero_asks) tt
    knows_later (suc k) way = follows_later k (course n e (suc k)) way.0 (knows_later k way.1)
