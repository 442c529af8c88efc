-- What an act does goes on under its stamp: behind an answer it has the same task under the same stamp, or the next place has no stamp, or a
-- new one.
use Rattle.std.proofs.Common.{◌≡◌, ℕ, Bool, true, false, cond, List, [], ◌∷◌, Option, Some, None, refl, ap, subst, nat_eq, inl, inr, ◌⊎◌}
use Rattle.afs_num.specs.declared.location_calls.LocReply.TheVariants as entries
use Rattle.afs_num.specs.declared.messages.Carried.TheVariants as carried
use Rattle.afs_num.specs.declared.messages.Reply.{Reply}
use Rattle.afs_num.specs.declared.messages.Reply.TheVariants as tell
use Rattle.afs_num.specs.declared.types.Code.{Code}
use Rattle.afs_num.specs.declared.volume_calls.VolReply.TheVariants as volumes
use Rattle.spec_history.specs.declared.scripts.AdminAct.TheVariants as acts
use Rattle.spec_adminrows.specs.Acts.{answered, free_answered, refused}
use Rattle.spec_adminrows.specs.Copying.{add_answered}
use Rattle.spec_adminrows.specs.Creating.{create_answered}
use Rattle.spec_adminrows.specs.Entries.{is_usable}
use Rattle.spec_adminrows.specs.Moving.{plan_answered}
use Rattle.spec_adminrows.specs.Recovering.{entry_answered, mend_of, takes_copies}
use Rattle.spec_adminrows.specs.Releasing.{release_answered}
use Rattle.spec_adminrows.specs.Surveying.{survey_answered, surveys}
use Rattle.spec_adminrows.specs.Turns.{is_dead, is_unlisted}
use Rattle.spec_adminrows.specs.declared.places.Cause.{Cause}
use Rattle.spec_adminrows.specs.declared.places.Creating.{Creating}
use Rattle.spec_adminrows.specs.declared.places.Creating.TheVariants as creating
use Rattle.spec_adminrows.specs.declared.places.Fresh.{Fresh}
use Rattle.spec_adminrows.specs.declared.places.Hold.{Hold}
use Rattle.spec_adminrows.specs.declared.places.Mend.{Mend}
use Rattle.spec_adminrows.specs.declared.places.Place.{Place}
use Rattle.spec_adminrows.specs.declared.places.Place.TheVariants as places
use Rattle.spec_adminrows.specs.declared.places.Purpose.{Purpose}
use Rattle.spec_adminrows.specs.declared.places.Purpose.TheVariants as purposes
use Rattle.spec_adminrows.specs.declared.places.Releasing.{Releasing}
use Rattle.spec_adminrows.specs.declared.places.Releasing.TheVariants as releasing
use Rattle.spec_adminrows.specs.declared.places.Seen.{Seen}
use Rattle.spec_adminrows.specs.declared.places.Tour.{Tour}
use Rattle.spec_adminrows.specs.declared.places.Touring.{Touring}
use Rattle.spec_adminrows.specs.declared.places.Visiting.{Visiting}
use Rattle.spec_adminrows.specs.declared.turns.Errand.{Errand}
use Rattle.spec_adminrows.specs.declared.turns.Turn.{Turn}
use Rattle.spec_adminrows.specs.declared.turns.Turn.TheVariants as turns
use Rattle.law_stamps.specs.Given.{given_in}
use Rattle.law_walks.proofs.Places.{backup_is, dump_is, ends_is, fails_is, mend_is, move_is, remove_is, seek_fails_is, survey_refused_is, sweep_is, takes_is, tour_is, visit_is, visit_refused_is, TurnIs}
use Rattle.law_stamp_owners.proofs.PlaceStamps.{create_stamp, stamp_at_place, AtPlace}
use Rattle.law_stamp_owners.proofs.PlaceStamps as stamps
use Rattle.law_courses.specs.Courses.{LeadsTo}
use Rattle.law_courses.specs.Tasks.{mends, moves, removes, task_at, task_for, task_in_creation, works, Task}

-- Of the places behind one with this stamp and this task. New is asked of a stamp that the answer gives.
abbrev pub Keeps : ℕ → Option Task → (ℕ → Type 0) → Place → Type 0
Keeps stamp task New p = (stamp_at_place p ≡ 0) ⊎ (((stamp_at_place p ≡ stamp) × ((task_at p ≡ task) ⊎ (task_at p ≡ None))) ⊎ New (stamp_at_place p))

-- what holds of places more weakly holds of where a turn leads
weaker_turn : (F K : Place → Type 0) (t : Turn) → ((p : Place) → F p → K p) → TurnIs F t → TurnIs K t
weaker_turn F K (turns.Goes p) more h = more p h
weaker_turn F K (turns.Keeps label bytes p) more h = more p h
weaker_turn F K (turns.Ends code) more h = tt
weaker_turn F K (turns.Sticks code) more h = tt
weaker_turn F K turns.Passes more h = tt

pub leads_is : (F : Place → Type 0) (p : Place) (t : Turn) → TurnIs F t → LeadsTo p t → F p
leads_is F p (turns.Goes q) h l = subst F l h
leads_is F p (turns.Keeps label bytes q) h l = subst F l h
leads_is F p (turns.Ends code) h l = absurd l
leads_is F p (turns.Sticks code) h l = absurd l
leads_is F p turns.Passes h l = absurd l

module _ (New : ℕ → Type 0) where
  abbrev IsGiven : Reply → Type 0
  IsGiven reply = (stamp : ℕ) → given_in (carried.Reply reply) ≡ Some stamp → New stamp

  turn_by : (stamp : ℕ) (task : Option Task) (b : Bool) (x y : Turn) → TurnIs (Keeps stamp task New) x → TurnIs (Keeps stamp task New) y → TurnIs (Keeps stamp task New) (cond b x y)
  turn_by stamp task true x y j k = j
  turn_by stamp task false x y j k = k

  -- where nothing is locked yet: of each stamp, that it is none or new
  abbrev NoneOrNew : ℕ → Type 0
  NoneOrNew stamp = (stamp ≡ 0) ⊎ New stamp

  fresh_keeps : (stamp : ℕ) (task : Option Task) (p : Place) → NoneOrNew (stamp_at_place p) → Keeps stamp task New p
  fresh_keeps stamp task p (inl none) = inl none
  fresh_keeps stamp task p (inr new) = inr (inr new)

  unlocked_keeps : (e : Errand) (p : Place) (reply : Reply) (stamp : ℕ) (task : Option Task) → stamp_at_place p ≡ 0 → IsGiven reply → TurnIs (Keeps stamp task New) (answered e p reply)
  unlocked_keeps e p reply stamp task unlocked given =
      weaker_turn (AtPlace NoneOrNew (inl refl)) (Keeps stamp task New) (answered e p reply) (fresh_keeps stamp task) (stamps.answered_is NoneOrNew (inl refl) e p reply (inl unlocked) (λ s is. inr (given s is)))

  module _ (h : Hold) (task : Task) where
    abbrev Own : Place → Type 0
    Own p = Keeps h.stamp (Some task) New p

    either : (b : Bool) (x y : Turn) → TurnIs Own x → TurnIs Own y → TurnIs Own (cond b x y)
    either true x y j k = j
    either false x y j k = k

  survey_on : (h : Hold) (why : Purpose) (left : List ℕ) (seen : List Seen) → TurnIs (Own h (task_for why)) (surveys h why left seen)
  survey_on h (purposes.Moves target) [] seen = inr (inl (refl, inl refl))
  survey_on h purposes.Removes [] seen = inr (inl (refl, inl refl))
  survey_on h (purposes.Mends c) [] seen = inr (inl (refl, inl refl))
  survey_on h why (s ∷ left) seen = inr (inl (refl, inl refl))

  survey_keeps : (h : Hold) (why : Purpose) (s : ℕ) (left : List ℕ) (seen : List Seen) (reply : Reply) → TurnIs (Own h (task_for why)) (survey_answered h why s left seen reply)
  survey_keeps h why s left seen (tell.Volume (volumes.ListVols ls)) = survey_on h why left _
  survey_keeps h why s left seen reply = tt

  free_keeps : (stamp : ℕ) (task : Option Task) (code : Code) (reply : Reply) → TurnIs (Keeps stamp task New) (free_answered code reply)
  free_keeps stamp task code (tell.Location entries.ReleaseLock) = tt
  free_keeps stamp task code reply = tt

  add_keeps : (h : Hold) (reply : Reply) → TurnIs (Own h works) (add_answered h reply)
  add_keeps h (tell.Location entries.ReplaceEntry) = inr (inl (refl, inr refl))
  add_keeps h reply = tt

  plan_keeps : (h : Hold) (target : ℕ) (reply : Reply) → TurnIs (Own h (moves target)) (plan_answered h target reply)
  plan_keeps h target (tell.Location (entries.GetNewVolumeId x)) = inr (inl (refl, inl refl))
  plan_keeps h target reply = tt

  release_keeps : (h : Hold) (step : Releasing) (reply : Reply) → TurnIs (Own h works) (release_answered h step reply)
  release_keeps h releasing.Stamps (tell.Volume (volumes.ListVols ls)) = either h works (nat_eq h.entry.read_only 0) _ _ (inr (inl (refl, inl refl))) (inr (inl (refl, inl refl)))
  release_keeps h releasing.Numbers (tell.Location (entries.GetNewVolumeId ro)) = inr (inl (refl, inl refl))
  release_keeps h (releasing.NumbersClone ro) (tell.Location (entries.GetNewVolumeId x)) = inr (inl (refl, inl refl))
  release_keeps h step r = tt

  entry_keeps : (e : Errand) (c : Cause) (h : Hold) (seen : List Seen) (reply : Reply) → TurnIs (Own h mends) (entry_answered e c h seen reply)
  entry_keeps e c h seen (tell.Location (entries.GetEntryById n)) =
      let m : Mend = mend_of e c h seen n in either h mends (is_usable n) (takes_copies m m.copies) turns.Passes (takes_is (Own h mends) m m.copies (λ copies others step. inr (inl (refl, inl refl)))) tt
  entry_keeps e c h seen reply = tt

  -- a tour and its visits, of the same hold
  of_tour : (h : Hold) (r : Tour) (step : Touring) → r.hold ≡ h → Own h works (places.Tours r step)
  of_tour h r step is = inr (inl (ap (λ (x : Hold). x.stamp) is, inl refl))

  of_visit : (h : Hold) (r : Tour) (s : ℕ) (step : Visiting) → r.hold ≡ h → Own h works (places.Visits r s step)
  of_visit h r s step is = inr (inl (ap (λ (x : Hold). x.stamp) is, inl refl))

  -- behind the entry of a new volume
  create_keeps : (f : Fresh) (step : Creating) (reply : Reply) → IsGiven reply → TurnIs (Keeps (create_stamp step) (task_in_creation step) New) (create_answered f step reply)
  create_keeps f (creating.Begins v stamp) (tell.Volume (volumes.TransCreate t)) given = inr (inl (refl, inl refl))
  create_keeps f (creating.Opens v stamp t) (tell.Volume volumes.SetFlags) given = inr (inl (refl, inl refl))
  create_keeps f (creating.Opened v stamp t) (tell.Volume volumes.EndTrans) given = inr (inl (refl, inl refl))
  create_keeps f (creating.Frees v stamp) (tell.Location entries.ReleaseLock) given = tt
  create_keeps f creating.Numbers reply given = unlocked_keeps (record { act = acts.Recover []; servers = 0 }) (places.Creates f creating.Numbers) reply 0 None refl given
  create_keeps f (creating.Makes v) reply given = unlocked_keeps (record { act = acts.Recover []; servers = 0 }) (places.Creates f (creating.Makes v)) reply 0 None refl given
  create_keeps f (creating.Fills v t offset) reply given = unlocked_keeps (record { act = acts.Recover []; servers = 0 }) (places.Creates f (creating.Fills v t offset)) reply 0 None refl given
  create_keeps f (creating.Closes v t) reply given = unlocked_keeps (record { act = acts.Recover []; servers = 0 }) (places.Creates f (creating.Closes v t)) reply 0 None refl given
  create_keeps f (creating.Ends v t) reply given = unlocked_keeps (record { act = acts.Recover []; servers = 0 }) (places.Creates f (creating.Ends v t)) reply 0 None refl given
  create_keeps f (creating.Enters v) reply given = unlocked_keeps (record { act = acts.Recover []; servers = 0 }) (places.Creates f (creating.Enters v)) reply 0 None refl given
  create_keeps f (creating.Checks v code) reply given = unlocked_keeps (record { act = acts.Recover []; servers = 0 }) (places.Creates f (creating.Checks v code)) reply 0 None refl given
  create_keeps f (creating.Scraps v code) reply given = unlocked_keeps (record { act = acts.Recover []; servers = 0 }) (places.Creates f (creating.Scraps v code)) reply 0 None refl given
  create_keeps f (creating.Scrapped v code t) reply given = unlocked_keeps (record { act = acts.Recover []; servers = 0 }) (places.Creates f (creating.Scrapped v code t)) reply 0 None refl given
  create_keeps f step reply given = tt

  pub answered_keeps : (e : Errand) (p : Place) (reply : Reply) → IsGiven reply → TurnIs (Keeps (stamp_at_place p) (task_at p) New) (answered e p reply)
  answered_keeps e (places.Seeks c) reply given = unlocked_keeps e (places.Seeks c) reply 0 None refl given
  answered_keeps e (places.Locks c v) reply given = unlocked_keeps e (places.Locks c v) reply 0 None refl given
  answered_keeps e (places.Frees h code first) reply given = free_keeps h.stamp None code reply
  answered_keeps e (places.Creates f step) reply given = create_keeps f step reply given
  answered_keeps e (places.Adds h server) reply given = add_keeps h reply
  answered_keeps e (places.Backs h step) reply given = backup_is (Own h works) h step reply (λ step. inr (inl (refl, inl refl))) (inr (inl (refl, inr refl)))
  answered_keeps e (places.Dumps s step) reply given = dump_is (Own s.hold works) s step reply (λ bytes step. inr (inl (refl, inl refl))) (inr (inl (refl, inr refl)))
  answered_keeps e (places.Releases h step) reply given = release_keeps h step reply
  answered_keeps e (places.Tours r step) reply given = tour_is (Own r.hold works) r step reply (λ q is step. of_tour r.hold q step is) (λ q is s step. of_visit r.hold q s step is) (λ code first. inr (inl (refl, inr refl)))
  answered_keeps e (places.Visits r s step) reply given = visit_is (Own r.hold works) r s step reply (λ q is step. of_tour r.hold q step is) (λ q is s step. of_visit r.hold q s step is)
  answered_keeps e (places.Surveys h why s left seen) reply given = survey_keeps h why s left seen reply
  answered_keeps e (places.Plans h target) reply given = plan_keeps h target reply
  answered_keeps e (places.Moves m step) reply given = move_is (Own m.hold (moves m.target)) m step reply (λ step. inr (inl (refl, inl refl))) (inr (inl (refl, inr refl)))
  answered_keeps e (places.Removes h seen step) reply given = remove_is (Own h removes) h seen step reply (λ step. inr (inl (refl, inl refl))) (λ spot left step. inr (inl (refl, inl refl)))
  answered_keeps e (places.Sweeps h spot left step) reply given = sweep_is (Own h removes) h spot left step reply (λ spot left step. inr (inl (refl, inl refl)))
  answered_keeps e (places.Asks c h seen) reply given = entry_keeps e c h seen reply
  answered_keeps e (places.Mends m step) reply given = mend_is (Keeps m.stamp (Some mends) New) m step reply (λ copies others step. inr (inl (refl, inl refl)))

  refused_creation : (stamp : ℕ) (task : Option Task) (f : Fresh) (step : Creating) (code : Code) → TurnIs (Keeps stamp task New) (refused (places.Creates f step) code)
  refused_creation stamp task f (creating.Enters v) code = turn_by stamp task (is_dead code) (turns.Ends code) _ tt (inl refl)
  refused_creation stamp task f (creating.Checks v first) code = turn_by stamp task (is_unlisted code) _ (turns.Ends first) (inl refl) tt
  refused_creation stamp task f (creating.Scraps v first) code = tt
  refused_creation stamp task f (creating.Scrapped v first t) code = tt
  refused_creation stamp task f (creating.Begins v s) code = fails_is (Keeps stamp task New) None code (λ c. inl refl)
  refused_creation stamp task f (creating.Opens v s t) code = fails_is (Keeps stamp task New) None code (λ c. inl refl)
  refused_creation stamp task f (creating.Opened v s t) code = fails_is (Keeps stamp task New) None code (λ c. inl refl)
  refused_creation stamp task f (creating.Frees v s) code = fails_is (Keeps stamp task New) None code (λ c. inl refl)
  refused_creation stamp task f step code = tt

  -- ---- a refusal, or that it is given up: mostly no stamp comes behind it

  pub refused_keeps : (p : Place) (code : Code) → TurnIs (Keeps (stamp_at_place p) (task_at p) New) (refused p code)
  refused_keeps (places.Visits r s step) code = visit_refused_is (Own r.hold works) r s step code (λ q is step. of_tour r.hold q step is) (λ q is s step. of_visit r.hold q s step is)
  refused_keeps (places.Seeks c) code = seek_fails_is (Keeps 0 None New) c code
  refused_keeps (places.Locks c v) code = seek_fails_is (Keeps 0 None New) c code
  refused_keeps (places.Frees h ending first) code = fails_is (Keeps h.stamp None New) first code (λ c. inl refl)
  refused_keeps (places.Creates f step) code = refused_creation (create_stamp step) (task_in_creation step) f step code
  refused_keeps (places.Adds h server) code = fails_is (Own h works) None code (λ c. inl refl)
  refused_keeps (places.Backs h step) code = fails_is (Own h works) None code (λ c. inl refl)
  refused_keeps (places.Dumps s step) code = fails_is (Own s.hold works) None code (λ c. inl refl)
  refused_keeps (places.Releases h step) code = fails_is (Own h works) None code (λ c. inl refl)
  refused_keeps (places.Tours r step) code = fails_is (Own r.hold works) r.first code (λ c. inl refl)
  refused_keeps (places.Surveys h why s left seen) code = survey_refused_is (Own h (task_for why)) why code (λ c. inl refl)
  refused_keeps (places.Plans h target) code = fails_is (Own h (moves target)) None code (λ c. inl refl)
  refused_keeps (places.Moves m step) code = fails_is (Own m.hold (moves m.target)) None code (λ c. inl refl)
  refused_keeps (places.Removes h seen step) code = fails_is (Own h removes) None code (λ c. inl refl)
  refused_keeps (places.Sweeps h spot left step) code = fails_is (Own h removes) None code (λ c. inl refl)
  refused_keeps (places.Asks c h seen) code = ends_is (Own h mends) c code
  refused_keeps (places.Mends m step) code = ends_is (Keeps m.stamp (Some mends) New) m.cause code
