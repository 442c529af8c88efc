-- What stood before the places of a recovery in which a copy of the volume goes: the transaction was told, and it was pointed away.
use Rattle.std.proofs.Common.{◌≡◌, ◌⊎◌, ◌≤◌, ◌<◌, ◌+◌, inl, inr, ℕ, zero, suc, Bool, true, false, cond, List, [], ◌∷◌, ◌++◌, Option, Some, None, is_some, refl, sym, ap, subst, ◌∙◌, arith, nat_lt, eqb-true, eq-eqb}
use Rattle.std.proofs.lemmas.Bool.Decides.{nat_tests}
use Rattle.std.specs.Prelude.{⊤, ◌&&◌, ◌||◌, nat_eq, not, map, filter}
use Rattle.std.specs.List.{list_any}
use Rattle.afs_num.specs.declared.location_calls.LocEntry.{LocEntry}
use Rattle.afs_num.specs.declared.volume_calls.ListedVolume.{ListedVolume}
use Rattle.spec_adminrows.specs.Asks.{from_to}
use Rattle.spec_adminrows.specs.Entries.{home_in}
use Rattle.spec_adminrows.specs.Recovering.{copies_of, drops_others, is_listed_at, mend_answered, mends_on, must_go, opens_or_frees}
use Rattle.spec_adminrows.specs.Recovering as recovering
use Rattle.spec_adminrows.specs.Removing.{spot_of}
use Rattle.spec_adminrows.specs.declared.places.Mending.{Mending}
use Rattle.spec_adminrows.specs.declared.places.Mending.TheVariants as mending
use Rattle.spec_adminrows.specs.declared.places.Spot.{Spot}
use Rattle.spec_runs.specs.NodeRuns.{has_host, NodeCell}
use Rattle.law_courses.specs.Courses.{Course, Follows, Question, WasAnswered, Way}
use Rattle.law_courses.proofs.Continuing.{leads_is}
use Rattle.law_stamps.specs.Stamps.{stored_stamp}
use Rattle.law_one_server.specs.Knows.{lock_at}
use Rattle.law_recovered.specs.Copies.{has_copy_at}
use Rattle.afs_num.specs.declared.location_calls.LocReply.TheVariants as entries
use Rattle.afs_num.specs.declared.messages.Reply.{Reply}
use Rattle.afs_num.specs.declared.messages.Reply.TheVariants as tell
use Rattle.afs_num.specs.declared.types.Code.{Code}
use Rattle.afs_num.specs.declared.volume_calls.VolReply.TheVariants as volumes
use Rattle.spec_dumps.specs.Streams.{is_last_at}
use Rattle.spec_history.specs.declared.scripts.AdminAct.{AdminAct}
use Rattle.spec_history.specs.declared.scripts.AdminAct.TheVariants as acts
use Rattle.spec_volrows.specs.VolRow.{most_piece}
use Rattle.spec_adminrows.specs.Acts.{answered, begins_with, can_go_on, creates_from, free_answered, goes_on_locked, lock_answered, locked, refused, seek_answered}
use Rattle.spec_adminrows.specs.Asks.{all_servers, family, home}
use Rattle.spec_adminrows.specs.Copying.{add_answered}
use Rattle.spec_adminrows.specs.Creating.{create_answered, dump_in, fills_or_closes}
use Rattle.spec_adminrows.specs.Entries.{has_read_only_at, is_usable}
use Rattle.spec_adminrows.specs.Moving.{plan_answered}
use Rattle.spec_adminrows.specs.Recovering.{entry_answered, mend_of, takes_copies}
use Rattle.spec_adminrows.specs.Releasing.{release_answered}
use Rattle.spec_adminrows.specs.Surveying.{seen_by, survey_answered, surveys, surveys_all}
use Rattle.spec_adminrows.specs.Turns.{not_there}
use Rattle.spec_adminrows.specs.declared.places.Cause.{Cause}
use Rattle.spec_adminrows.specs.declared.places.Cause.TheVariants as causes
use Rattle.spec_adminrows.specs.declared.places.Creating.{Creating}
use Rattle.spec_adminrows.specs.declared.places.Creating.TheVariants as creating
use Rattle.spec_adminrows.specs.declared.places.Fresh.{Fresh}
use Rattle.spec_adminrows.specs.declared.places.Hold.{Hold}
use Rattle.spec_adminrows.specs.declared.places.Mend.{Mend}
use Rattle.spec_adminrows.specs.declared.places.Place.{Place}
use Rattle.spec_adminrows.specs.declared.places.Place.TheVariants as places
use Rattle.spec_adminrows.specs.declared.places.Purpose.{Purpose}
use Rattle.spec_adminrows.specs.declared.places.Purpose.TheVariants as purposes
use Rattle.spec_adminrows.specs.declared.places.Releasing.{Releasing}
use Rattle.spec_adminrows.specs.declared.places.Releasing.TheVariants as releasing
use Rattle.spec_adminrows.specs.declared.places.Seen.{Seen}
use Rattle.spec_adminrows.specs.declared.turns.Errand.{Errand}
use Rattle.afs_num.specs.declared.messages.Message.{Message}
use Rattle.spec_adminrows.specs.declared.turns.Turn.{Turn}
use Rattle.spec_adminrows.specs.declared.turns.Turn.TheVariants as turns
use Rattle.law_walks.proofs.Places.{backup_is, create_is, create_refused_is, dump_is, ends_is, fails_is, move_is, remove_is, seek_fails_is, survey_refused_is, sweep_is, tour_is, visit_is, visit_refused_is, TurnIs}
use Rattle.afs_num.specs.Names.{volume_name_ok}
use Rattle.spec_adminrows.specs.Asks.{name_in_act}
use Rattle.spec_history.specs.declared.scripts.Script.{Script}
use Rattle.law_places.specs.Accepting.{cell_behind}

-- what stood before a place of a recovery in which a copy goes, or the volume comes into service
abbrev pub Prior : Place → Place → Reply → Type 0
Prior (places.Mends m (mending.Deletes s t)) p reply = (p ≡ places.Mends m (mending.Points s t)) × (reply ≡ tell.Volume volumes.SetForwarding)
Prior (places.Mends m (mending.Points s t)) p reply = (p ≡ places.Mends m (mending.Takes s)) × (reply ≡ tell.Volume (volumes.TransCreate t))
Prior (places.Mends m (mending.Opens t)) p reply = (p ≡ places.Mends m mending.Begins) × (reply ≡ tell.Volume (volumes.TransCreate t))
Prior q p reply = ⊤

-- it isn't one that needs an answer before it
abbrev pub IsEarly : Place → Type 0
IsEarly (places.Mends m (mending.Deletes s t)) = ⊥
IsEarly (places.Mends m (mending.Points s t)) = ⊥
IsEarly (places.Mends m (mending.Opens t)) = ⊥
IsEarly q = ⊤

module _ (F : Place → Type 0) (early : (q : Place) → IsEarly q → F q) where
  abbrev Led : Turn → Type 0
  Led t = TurnIs F t

  when : (b : Bool) (x : Turn) → Led x → Led (cond b x turns.Passes)
  when true x h = h
  when false x h = tt

  either : (b : Bool) (x y : Turn) → Led x → Led y → Led (cond b x y)
  either true x y h k = h
  either false x y h k = k

  surveys_led : (h : Hold) (why : Purpose) (left : List ℕ) (seen : List Seen) → Led (surveys h why left seen)
  surveys_led h (purposes.Moves target) [] seen = early _ tt
  surveys_led h purposes.Removes [] seen = early _ tt
  surveys_led h (purposes.Mends cause) [] seen = early _ tt
  surveys_led h why (s ∷ left) seen = early _ tt

  goes_led : (e : Errand) (h : Hold) (act : AdminAct) → Led (goes_on_locked e h act)
  goes_led e h (acts.Create name server quota) = tt
  goes_led e h (acts.Restore name server label) = tt
  goes_led e h (acts.AddSite name server) = either (has_read_only_at server h.entry) _ _ (early _ tt) (early _ tt)
  goes_led e h (acts.Backup name) = early _ tt
  goes_led e h (acts.Release name) = early _ tt
  goes_led e h (acts.Move name server) = either (nat_eq server (home h)) _ _ (early _ tt) (surveys_led h (purposes.Moves server) (all_servers e) [])
  goes_led e h (acts.Dump name label from) = early _ tt
  goes_led e h (acts.Remove name) = surveys_led h purposes.Removes (all_servers e) []
  goes_led e h (acts.Recover name) = surveys_led h (purposes.Mends causes.Asked) (all_servers e) []

  locked_led : (e : Errand) (h : Hold) (cause : Cause) → Led (locked e h cause)
  locked_led e h causes.Asked = goes_led e h e.act
  locked_led e h (causes.After code) = surveys_led h (purposes.Mends (causes.After code)) (all_servers e) []

  lock_led : (e : Errand) (cause : Cause) (reply : Reply) → Led (lock_answered e cause reply)
  lock_led e cause (tell.Location (entries.SetLock stamp n)) = when (can_go_on e n) _ (locked_led e (record { entry = n; stamp = stamp }) cause)
  lock_led e cause reply = tt

  seek_led : (cause : Cause) (reply : Reply) → Led (seek_answered cause reply)
  seek_led cause (tell.Location (entries.GetEntryByName n)) = early _ tt
  seek_led cause reply = tt

  free_led : (code : Code) (reply : Reply) → Led (free_answered code reply)
  free_led code (tell.Location entries.ReleaseLock) = tt
  free_led code reply = tt

  add_led : (h : Hold) (reply : Reply) → Led (add_answered h reply)
  add_led h (tell.Location entries.ReplaceEntry) = early _ tt
  add_led h reply = tt

  plan_led : (h : Hold) (target : ℕ) (reply : Reply) → Led (plan_answered h target reply)
  plan_led h target (tell.Location (entries.GetNewVolumeId x)) = early _ tt
  plan_led h target reply = tt

  survey_led : (h : Hold) (why : Purpose) (s : ℕ) (left : List ℕ) (seen : List Seen) (reply : Reply) → Led (survey_answered h why s left seen reply)
  survey_led h why s left seen (tell.Volume (volumes.ListVols ls)) = surveys_led h why left _
  survey_led h why s left seen reply = tt

  opens_led : (m : Mend) (o : Option ℕ) → Led (opens_or_frees m o)
  opens_led m None = ends_is F m.cause not_there
  opens_led m (Some zero) = early _ tt
  opens_led m (Some (suc n)) = early _ tt

  drops_led : (m : Mend) (spots : List Spot) → Led (drops_others m spots)
  drops_led m [] = opens_led m m.flags
  drops_led m (spot ∷ left) = early _ tt

  takes_led : (m : Mend) (copies : List ℕ) → Led (takes_copies m copies)
  takes_led m [] = drops_led m m.others
  takes_led m (s ∷ left) = early _ tt

  mended_led : (cause : Cause) → Led (recovering.mended cause)
  mended_led causes.Asked = tt
  mended_led (causes.After code) = tt

  entry_led : (e : Errand) (cause : Cause) (h : Hold) (seen : List Seen) (reply : Reply) → Led (entry_answered e cause h seen reply)
  entry_led e cause h seen (tell.Location (entries.GetEntryById n)) = let m : Mend = mend_of e cause h seen n in when (is_usable n) (mends_on m) (takes_led m m.copies)
  entry_led e cause h seen reply = tt

  release_led : (h : Hold) (step : Releasing) (reply : Reply) → Led (release_answered h step reply)
  release_led h releasing.Stamps (tell.Volume (volumes.ListVols ls)) = either (nat_eq h.entry.read_only 0) _ _ (early _ tt) (early _ tt)
  release_led h releasing.Numbers (tell.Location (entries.GetNewVolumeId ro)) = early _ tt
  release_led h (releasing.NumbersClone ro) (tell.Location (entries.GetNewVolumeId x)) = early _ tt
  release_led h step r = tt

  -- of all places but those of a recovery itself
  pub other_led : (e : Errand) (p : Place) (reply : Reply) → ((m : Mend) (step : Mending) → p ≡ places.Mends m step → Led (answered e p reply)) → Led (answered e p reply)
  other_led e (places.Seeks cause) reply own = seek_led cause reply
  other_led e (places.Locks cause v) reply own = lock_led e cause reply
  other_led e (places.Frees h code first) reply own = free_led code reply
  other_led e (places.Creates f step) reply own = create_is F f step reply (λ step. early _ tt)
  other_led e (places.Adds h server) reply own = add_led h reply
  other_led e (places.Backs h step) reply own = backup_is F h step reply (λ step. early _ tt) (early _ tt)
  other_led e (places.Dumps s step) reply own = dump_is F s step reply (λ bytes step. early _ tt) (early _ tt)
  other_led e (places.Releases h step) reply own = release_led h step reply
  other_led e (places.Tours r step) reply own = tour_is F r step reply (λ q same step. early _ tt) (λ q same s step. early _ tt) (λ code first. early _ tt)
  other_led e (places.Visits r s step) reply own = visit_is F r s step reply (λ q same step. early _ tt) (λ q same s step. early _ tt)
  other_led e (places.Surveys h why s left seen) reply own = survey_led h why s left seen reply
  other_led e (places.Plans h target) reply own = plan_led h target reply
  other_led e (places.Moves m step) reply own = move_is F m step reply (λ step. early _ tt) (early _ tt)
  other_led e (places.Removes h seen step) reply own = remove_is F h seen step reply (λ step. early _ tt) (λ spot left step. early _ tt)
  other_led e (places.Sweeps h spot left step) reply own = sweep_is F h spot left step reply (λ spot left step. early _ tt)
  other_led e (places.Asks cause h seen) reply own = entry_led e cause h seen reply
  other_led e (places.Mends m step) reply own = own m step refl

  pub refused_led : (p : Place) (code : Code) → Led (refused p code)
  refused_led (places.Seeks cause) code = seek_fails_is F cause code
  refused_led (places.Locks cause v) code = seek_fails_is F cause code
  refused_led (places.Frees h ending first) code = fails_is F first code (λ c. early _ tt)
  refused_led (places.Creates f step) code = create_refused_is F f step code (λ step. early _ tt) (λ c. early _ tt)
  refused_led (places.Adds h server) code = fails_is F None code (λ c. early _ tt)
  refused_led (places.Backs h step) code = fails_is F None code (λ c. early _ tt)
  refused_led (places.Dumps s step) code = fails_is F None code (λ c. early _ tt)
  refused_led (places.Releases h step) code = fails_is F None code (λ c. early _ tt)
  refused_led (places.Tours r step) code = fails_is F r.first code (λ c. early _ tt)
  refused_led (places.Visits r s step) code = visit_refused_is F r s step code (λ q same step. early _ tt) (λ q same s step. early _ tt)
  refused_led (places.Surveys h why s left seen) code = survey_refused_is F why code (λ c. early _ tt)
  refused_led (places.Plans h target) code = fails_is F None code (λ c. early _ tt)
  refused_led (places.Moves m step) code = fails_is F None code (λ c. early _ tt)
  refused_led (places.Removes h seen step) code = fails_is F None code (λ c. early _ tt)
  refused_led (places.Sweeps h spot left step) code = fails_is F None code (λ c. early _ tt)
  refused_led (places.Asks cause h seen) code = ends_is F cause code
  refused_led (places.Mends m step) code = ends_is F m.cause code

  creates_led : (server : ℕ) (o : Option (List ℕ)) → Led (creates_from server o)
  creates_led server None = tt
  creates_led server (Some bytes) = early _ tt

  pub first_led : (act : AdminAct) (held : Option (List ℕ)) → Led (begins_with act held)
  first_led (acts.Create name server quota) held = early _ tt
  first_led (acts.Restore name server label) held = creates_led server held
  first_led act held = early _ tt

-- ---- what stood before

early_prior : (p : Place) (reply : Reply) (q : Place) → IsEarly q → Prior q p reply
early_prior p reply (places.Mends m (mending.Deletes s t)) k = absurd k
early_prior p reply (places.Mends m (mending.Points s t)) k = absurd k
early_prior p reply (places.Mends m (mending.Opens t)) k = absurd k
early_prior p reply q k = tt

mend_prior : (m : Mend) (step : Mending) (reply : Reply) → TurnIs (λ (q : Place). Prior q (places.Mends m step) reply) (mend_answered m step reply)
mend_prior m (mending.Takes s) (tell.Volume (volumes.TransCreate t)) = (refl, refl)
mend_prior m (mending.Points s t) (tell.Volume volumes.SetForwarding) = (refl, refl)
mend_prior m (mending.Deletes s t) (tell.Volume volumes.DeleteVolume) = takes_led (λ (q : Place). Prior q (places.Mends m (mending.Deletes s t)) (tell.Volume volumes.DeleteVolume)) (early_prior _ _) m m.copies
mend_prior m (mending.Drops spot) (tell.Volume (volumes.TransCreate t)) = tt
mend_prior m (mending.Dropped spot t) (tell.Volume volumes.DeleteVolume) = takes_led (λ (q : Place). Prior q (places.Mends m (mending.Dropped spot t)) (tell.Volume volumes.DeleteVolume)) (early_prior _ _) m m.copies
mend_prior m mending.Begins (tell.Volume (volumes.TransCreate t)) = (refl, refl)
mend_prior m (mending.Opens t) (tell.Volume volumes.SetFlags) = tt
mend_prior m (mending.Ends t) (tell.Volume volumes.EndTrans) = tt
mend_prior m mending.Frees (tell.Location entries.ReleaseLock) = mended_led (λ (q : Place). Prior q (places.Mends m mending.Frees) (tell.Location entries.ReleaseLock)) (early_prior _ _) m.cause
mend_prior m step reply = tt

answered_prior : (e : Errand) (p : Place) (reply : Reply) → TurnIs (λ (q : Place). Prior q p reply) (answered e p reply)
answered_prior e p reply = other_led (λ (q : Place). Prior q p reply) (early_prior p reply) e p reply (λ m step is. subst (λ (z : Place). TurnIs (λ (q : Place). Prior q z reply) (answered e z reply)) (sym is) (mend_prior m step reply))

-- the question before it was answered so; or it is none that needs that
pub record WasPrior (sent : List Message) (n e k : ℕ) (before q : Question) : Type 0 where
  pub answered' : WasAnswered sent n e k before q
  pub prior : Prior q.place before.place answered'.reply

pub before_it : (sent : List Message) (n e k : ℕ) (before q : Question) → Follows sent n e k before q → IsEarly q.place ⊎ WasPrior sent n e k before q
before_it sent n e k before q (inl b) = inl (leads_is IsEarly q.place (begins_with q.errand.act b.0) (first_led IsEarly (λ p x. x) q.errand.act b.0) b.1)
before_it sent n e k before q (inr (inl w)) = inr (record { answered' = w; prior = leads_is (λ (p : Place). Prior p before.place w.reply) q.place (answered before.errand before.place w.reply) (answered_prior before.errand before.place w.reply) w.leads })
before_it sent n e k before q (inr (inr r)) = inl (leads_is IsEarly q.place (refused before.place r.code) (refused_led IsEarly (λ p x. x) before.place r.code) r.leads)
