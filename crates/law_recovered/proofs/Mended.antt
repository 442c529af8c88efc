-- What a recovery knows of the copies of its volume, by the place where it is, while it holds the lock: those that the servers listed are all that
-- there are, and of those at other servers than the named one each that is left is still to go.
use Rattle.std.proofs.Common.{◌≡◌, ◌⊎◌, ◌≤◌, ◌<◌, ◌+◌, inl, inr, ℕ, zero, suc, Bool, true, false, cond, List, [], ◌∷◌, ◌++◌, Option, Some, None, is_some, refl, sym, ap, subst, ◌∙◌, arith, nat_lt, eqb-true, eq-eqb}
use Rattle.std.proofs.lemmas.Bool.Decides.{nat_tests}
use Rattle.std.specs.Prelude.{⊤, ◌&&◌, ◌||◌, nat_eq, not, map, filter}
use Rattle.std.specs.List.{list_any}
use Rattle.afs_num.specs.declared.location_calls.LocEntry.{LocEntry}
use Rattle.afs_num.specs.declared.volume_calls.ListedVolume.{ListedVolume}
use Rattle.spec_adminrows.specs.Asks.{from_to}
use Rattle.spec_adminrows.specs.Entries.{home_in}
use Rattle.spec_adminrows.specs.Recovering.{copies_of, drops_others, is_listed_at, mend_answered, mends_on, must_go, opens_or_frees}
use Rattle.spec_adminrows.specs.Recovering as recovering
use Rattle.spec_adminrows.specs.Removing.{spot_of}
use Rattle.spec_adminrows.specs.declared.places.Mending.{Mending}
use Rattle.spec_adminrows.specs.declared.places.Mending.TheVariants as mending
use Rattle.spec_adminrows.specs.declared.places.Spot.{Spot}
use Rattle.spec_runs.specs.NodeRuns.{has_host, NodeCell}
use Rattle.law_courses.specs.Courses.{Course, Follows, Question, WasAnswered, Way}
use Rattle.law_courses.proofs.Continuing.{leads_is}
use Rattle.law_stamps.specs.Stamps.{stored_stamp}
use Rattle.law_one_server.specs.Knows.{lock_at}
use Rattle.law_recovered.specs.Copies.{has_copy_at}
use Rattle.afs_num.specs.declared.location_calls.LocReply.TheVariants as entries
use Rattle.afs_num.specs.declared.messages.Reply.{Reply}
use Rattle.afs_num.specs.declared.messages.Reply.TheVariants as tell
use Rattle.afs_num.specs.declared.types.Code.{Code}
use Rattle.afs_num.specs.declared.volume_calls.VolReply.TheVariants as volumes
use Rattle.spec_dumps.specs.Streams.{is_last_at}
use Rattle.spec_history.specs.declared.scripts.AdminAct.{AdminAct}
use Rattle.spec_history.specs.declared.scripts.AdminAct.TheVariants as acts
use Rattle.spec_volrows.specs.VolRow.{most_piece}
use Rattle.spec_adminrows.specs.Acts.{answered, begins_with, can_go_on, creates_from, free_answered, goes_on_locked, lock_answered, locked, refused, seek_answered}
use Rattle.spec_adminrows.specs.Asks.{all_servers, family, home}
use Rattle.spec_adminrows.specs.Copying.{add_answered}
use Rattle.spec_adminrows.specs.Creating.{create_answered, dump_in, fills_or_closes}
use Rattle.spec_adminrows.specs.Entries.{has_read_only_at, is_usable}
use Rattle.spec_adminrows.specs.Moving.{plan_answered}
use Rattle.spec_adminrows.specs.Recovering.{entry_answered, mend_of, takes_copies}
use Rattle.spec_adminrows.specs.Releasing.{release_answered}
use Rattle.spec_adminrows.specs.Surveying.{seen_by, survey_answered, surveys, surveys_all}
use Rattle.spec_adminrows.specs.Turns.{not_there}
use Rattle.spec_adminrows.specs.declared.places.Cause.{Cause}
use Rattle.spec_adminrows.specs.declared.places.Cause.TheVariants as causes
use Rattle.spec_adminrows.specs.declared.places.Creating.{Creating}
use Rattle.spec_adminrows.specs.declared.places.Creating.TheVariants as creating
use Rattle.spec_adminrows.specs.declared.places.Fresh.{Fresh}
use Rattle.spec_adminrows.specs.declared.places.Hold.{Hold}
use Rattle.spec_adminrows.specs.declared.places.Mend.{Mend}
use Rattle.spec_adminrows.specs.declared.places.Place.{Place}
use Rattle.spec_adminrows.specs.declared.places.Place.TheVariants as places
use Rattle.spec_adminrows.specs.declared.places.Purpose.{Purpose}
use Rattle.spec_adminrows.specs.declared.places.Purpose.TheVariants as purposes
use Rattle.spec_adminrows.specs.declared.places.Releasing.{Releasing}
use Rattle.spec_adminrows.specs.declared.places.Releasing.TheVariants as releasing
use Rattle.spec_adminrows.specs.declared.places.Seen.{Seen}
use Rattle.spec_adminrows.specs.declared.turns.Errand.{Errand}
use Rattle.afs_num.specs.declared.messages.Message.{Message}
use Rattle.spec_adminrows.specs.declared.turns.Turn.{Turn}
use Rattle.spec_adminrows.specs.declared.turns.Turn.TheVariants as turns
use Rattle.law_walks.proofs.Places.{backup_is, create_is, create_refused_is, dump_is, ends_is, fails_is, move_is, remove_is, seek_fails_is, survey_refused_is, sweep_is, tour_is, visit_is, visit_refused_is, TurnIs}
use Rattle.afs_num.specs.Names.{volume_name_ok}
use Rattle.spec_adminrows.specs.Asks.{name_in_act}
use Rattle.spec_history.specs.declared.scripts.Script.{Script}
use Rattle.law_places.specs.Accepting.{cell_behind}

-- ---- what is known

-- a copy at this server was listed
abbrev pub IsSeen : NodeCell → ℕ → ℕ → List Seen → Type 0
IsSeen c volume i seen = has_copy_at c volume i ≡ true → list_any (is_listed_at i volume) seen ≡ true

-- while the lock is held: at each server that isn't to be asked any more
abbrev pub AreSeen : NodeCell → ℕ → ℕ → List ℕ → List Seen → Type 0
AreSeen c volume stamp left seen = lock_at c volume ≡ Some stamp → (i : ℕ) → has_host c i ≡ true → list_any (nat_eq i) left ≡ false → IsSeen c volume i seen

abbrev pub InSurvey : NodeCell → Hold → Purpose → List ℕ → List Seen → Type 0
InSurvey c h (purposes.Mends cause) left seen = AreSeen c (family h) h.stamp left seen
InSurvey c h (purposes.Moves target) left seen = ⊤
InSurvey c h purposes.Removes left seen = ⊤

-- the copy that it deletes now; none behind the last
abbrev pub goes_now : Mending → ℕ → Bool
goes_now (mending.Takes s) i = nat_eq i s
goes_now (mending.Points s t) i = nat_eq i s
goes_now (mending.Deletes s t) i = nat_eq i s
goes_now step i = false

-- behind the last copy there is none to go
abbrev pub NoneLeft : Mend → Mending → Type 0
NoneLeft m (mending.Takes s) = ⊤
NoneLeft m (mending.Points s t) = ⊤
NoneLeft m (mending.Deletes s t) = ⊤
NoneLeft m step = m.copies ≡ []

-- each copy elsewhere is still to go
abbrev pub AreToGo : NodeCell → Mend → Mending → Type 0
AreToGo c m step = lock_at c m.volume ≡ Some m.stamp → (i : ℕ) → has_host c i ≡ true → nat_eq i m.named ≡ false → has_copy_at c m.volume i ≡ true → (goes_now step i || list_any (nat_eq i) m.copies) ≡ true

abbrev pub InMend : NodeCell → Mend → Mending → Type 0
InMend c m step = NoneLeft m step × AreToGo c m step

abbrev pub Mended : NodeCell → Place → Type 0
Mended c (places.Surveys h why s left seen) = InSurvey c h why (s ∷ left) seen
Mended c (places.Asks cause h seen) = AreSeen c (family h) h.stamp [] seen
Mended c (places.Mends m step) = InMend c m step
Mended c p = ⊤

-- what answers tell
abbrev pub is_listed : ℕ → ListedVolume → Bool
is_listed volume l = nat_eq l.volume volume

abbrev pub Tells : NodeCell → Place → Reply → Type 0
Tells c (places.Surveys h (purposes.Mends cause) s left seen) (tell.Volume (volumes.ListVols ls)) = (h.stamp ≤ stored_stamp c s (family h)) × (lock_at c (family h) ≡ Some h.stamp → has_copy_at c (family h) s ≡ true → list_any (is_listed (family h)) ls ≡ true)
Tells c (places.Mends m (mending.Deletes s t)) (tell.Volume volumes.DeleteVolume) = (m.stamp ≤ stored_stamp c s m.volume) × (lock_at c m.volume ≡ Some m.stamp → has_copy_at c m.volume s ≡ false)
Tells c p reply = ⊤

-- ---- lists

or_right : (a b : Bool) → b ≡ true → (a || b) ≡ true
or_right true b e = refl
or_right false b e = e

or_left : (a b : Bool) → a ≡ true → (a || b) ≡ true
or_left true b e = refl
or_left false b e = absurd cc

seen_more : (i volume : ℕ) (xs ys : List Seen) → list_any (is_listed_at i volume) xs ≡ true → list_any (is_listed_at i volume) (xs ++ ys) ≡ true
seen_more i volume [] ys e = absurd cc
seen_more i volume (x ∷ xs) ys e = by (is_listed_at i volume x) refl e (seen_more i volume xs ys)
  where
    by : (b : Bool) → is_listed_at i volume x ≡ b → (b || list_any (is_listed_at i volume) xs) ≡ true → (list_any (is_listed_at i volume) xs ≡ true → list_any (is_listed_at i volume) (xs ++ ys) ≡ true) → (is_listed_at i volume x || list_any (is_listed_at i volume) (xs ++ ys)) ≡ true
    by true is e' later = or_left (is_listed_at i volume x) _ is
    by false is e' later = or_right (is_listed_at i volume x) _ (later e')

seen_new : (i volume : ℕ) (xs ys : List Seen) → list_any (is_listed_at i volume) ys ≡ true → list_any (is_listed_at i volume) (xs ++ ys) ≡ true
seen_new i volume [] ys e = e
seen_new i volume (x ∷ xs) ys e = or_right (is_listed_at i volume x) _ (seen_new i volume xs ys e)

listed_seen : (i volume : ℕ) (ls : List ListedVolume) → list_any (is_listed volume) ls ≡ true → list_any (is_listed_at i volume) (map (seen_by i) ls) ≡ true
listed_seen i volume [] e = absurd cc
listed_seen i volume (l ∷ ls) e = by (is_listed volume l) refl e (listed_seen i volume ls)
  where
    here : (b : Bool) → nat_eq i i ≡ true → is_listed volume l ≡ b → (nat_eq i i && is_listed volume l) ≡ b
    here b same is = ap (λ (x : Bool). x && is_listed volume l) same ∙ is

    by : (b : Bool) → is_listed volume l ≡ b → (b || list_any (is_listed volume) ls) ≡ true → (list_any (is_listed volume) ls ≡ true → list_any (is_listed_at i volume) (map (seen_by i) ls) ≡ true) → (is_listed_at i volume (seen_by i l) || list_any (is_listed_at i volume) (map (seen_by i) ls)) ≡ true
    by true is e' later = or_left (is_listed_at i volume (seen_by i l)) _ (here true (eq-eqb i i refl) is)
    by false is e' later = or_right (is_listed_at i volume (seen_by i l)) _ (later e')

among : (b : Bool) (n i : ℕ) (rest : List ℕ) → nat_eq i n ≡ b → (b ≡ false → list_any (nat_eq i) rest ≡ true) → list_any (nat_eq i) (n ∷ rest) ≡ true
among true n i rest is k = rw is refl
among false n i rest is k = rw is (k refl)

above : (n i : ℕ) → n ≤ i → nat_eq i n ≡ false → n + 1 ≤ i
above n i low other = grind (arith, nat_tests, low, other)

in_range : (n k i : ℕ) → n ≤ i → i < n + k → list_any (nat_eq i) (from_to n k) ≡ true
in_range n zero i low high = absurd (let no : n < n = omega (arith, low, high) in omega (arith, no))
in_range n (suc k) i low high = among (nat_eq i n) n i (from_to (n + 1) k) refl (λ no. in_range (n + 1) k i (above n i low no) (omega (arith, high)))

-- all servers of the cell are asked
asked_all : (c : NodeCell) (e : Errand) (i : ℕ) → e.servers ≡ c.host_count → has_host c i ≡ true → list_any (nat_eq i) (all_servers e) ≡ true
asked_all c e zero count there = absurd cc
asked_all c e (suc i) count there = let high : suc i < 1 + e.servers = grind (arith, nat_tests, count, there) in in_range 1 e.servers (suc i) (omega (arith)) high

-- what passes the test is among those that were chosen
chosen_by : (keep : ℕ → Bool) (i n : ℕ) (rest chosen : List ℕ) (same k : Bool) → nat_eq i n ≡ same → keep n ≡ k → keep i ≡ true → (list_any (nat_eq i) rest ≡ true → list_any (nat_eq i) chosen ≡ true) → (same || list_any (nat_eq i) rest) ≡ true → list_any (nat_eq i) (cond k (n ∷ chosen) chosen) ≡ true
chosen_by keep i n rest chosen true true is passes own later e = or_left (nat_eq i n) _ is
chosen_by keep i n rest chosen true false is passes own later e = let no : true ≡ false = sym own ∙ (ap keep (eqb-true i n is) ∙ passes) in absurd cc
chosen_by keep i n rest chosen false true is passes own later e = or_right (nat_eq i n) _ (later e)
chosen_by keep i n rest chosen false false is passes own later e = later e

chosen : (keep : ℕ → Bool) (i : ℕ) (ns : List ℕ) → keep i ≡ true → list_any (nat_eq i) ns ≡ true → list_any (nat_eq i) (filter keep ns) ≡ true
chosen keep i [] own e = absurd cc
chosen keep i (n ∷ ns) own e = chosen_by keep i n ns (filter keep ns) (nat_eq i n) (keep n) refl refl own (chosen keep i ns own) e

module _ (c : NodeCell) where
  abbrev At : Place → Type 0
  At p = Mended c p

  when : (b : Bool) (x : Turn) → (b ≡ true → TurnIs At x) → TurnIs At (cond b x turns.Passes)
  when true x h = h refl
  when false x h = tt

  either : (b : Bool) (x y : Turn) → TurnIs At x → TurnIs At y → TurnIs At (cond b x y)
  either true x y h k = h
  either false x y h k = k

  -- ---- a survey

  surveys_is : (h : Hold) (why : Purpose) (left : List ℕ) (seen : List Seen) → InSurvey c h why left seen → TurnIs At (surveys h why left seen)
  surveys_is h (purposes.Moves target) [] seen g = tt
  surveys_is h purposes.Removes [] seen g = tt
  surveys_is h (purposes.Mends cause) [] seen g = g
  surveys_is h (purposes.Moves target) (s ∷ left) seen g = g
  surveys_is h purposes.Removes (s ∷ left) seen g = g
  surveys_is h (purposes.Mends cause) (s ∷ left) seen g = g

  begins_is : (e : Errand) (h : Hold) (cause : Cause) → e.servers ≡ c.host_count → TurnIs At (surveys_all e h (purposes.Mends cause))
  begins_is e h cause count = surveys_is h (purposes.Mends cause) (all_servers e) [] (λ locked i there none. let no : true ≡ false = sym (asked_all c e i count there) ∙ none in absurd cc)

  goes_is : (e : Errand) (h : Hold) (act : AdminAct) → e.servers ≡ c.host_count → TurnIs At (goes_on_locked e h act)
  goes_is e h (acts.Create name server quota) count = tt
  goes_is e h (acts.Restore name server label) count = tt
  goes_is e h (acts.AddSite name server) count = either (has_read_only_at server h.entry) _ _ tt tt
  goes_is e h (acts.Backup name) count = tt
  goes_is e h (acts.Release name) count = tt
  goes_is e h (acts.Move name server) count = either (nat_eq server (home h)) _ _ tt (surveys_is h (purposes.Moves server) (all_servers e) [] tt)
  goes_is e h (acts.Dump name label from) count = tt
  goes_is e h (acts.Remove name) count = surveys_is h purposes.Removes (all_servers e) [] tt
  goes_is e h (acts.Recover name) count = begins_is e h causes.Asked count

  locked_is : (e : Errand) (h : Hold) (cause : Cause) → e.servers ≡ c.host_count → TurnIs At (locked e h cause)
  locked_is e h causes.Asked count = goes_is e h e.act count
  locked_is e h (causes.After code) count = begins_is e h (causes.After code) count

  lock_is : (e : Errand) (cause : Cause) (reply : Reply) → e.servers ≡ c.host_count → TurnIs At (lock_answered e cause reply)
  lock_is e cause (tell.Location (entries.SetLock stamp n)) count = when (can_go_on e n) _ (λ can. locked_is e (record { entry = n; stamp = stamp }) cause count)
  lock_is e cause reply count = tt

  seek_is : (cause : Cause) (reply : Reply) → TurnIs At (seek_answered cause reply)
  seek_is cause (tell.Location (entries.GetEntryByName n)) = tt
  seek_is cause reply = tt

  free_is : (code : Code) (reply : Reply) → TurnIs At (free_answered code reply)
  free_is code (tell.Location entries.ReleaseLock) = tt
  free_is code reply = tt

  add_is : (h : Hold) (reply : Reply) → TurnIs At (add_answered h reply)
  add_is h (tell.Location entries.ReplaceEntry) = tt
  add_is h reply = tt

  plan_is : (h : Hold) (target : ℕ) (reply : Reply) → TurnIs At (plan_answered h target reply)
  plan_is h target (tell.Location (entries.GetNewVolumeId x)) = tt
  plan_is h target reply = tt

  -- what one more server listed
  seen_by_all : (h : Hold) (cause : Cause) (s : ℕ) (left : List ℕ) (seen : List Seen) (ls : List ListedVolume) → InSurvey c h (purposes.Mends cause) (s ∷ left) seen → Tells c (places.Surveys h (purposes.Mends cause) s left seen) (tell.Volume (volumes.ListVols ls)) → InSurvey c h (purposes.Mends cause) left (seen ++ map (seen_by s) ls)
  seen_by_all h cause s left seen ls g told locked i there none has = by (nat_eq i s) refl
    where
      by : (b : Bool) → nat_eq i s ≡ b → list_any (is_listed_at i (family h)) (seen ++ map (seen_by s) ls) ≡ true
      by true is =
          let same : i ≡ s = eqb-true i s is in
          let its : list_any (is_listed (family h)) ls ≡ true = told.1 locked (subst (λ (k : ℕ). has_copy_at c (family h) k ≡ true) same has) in
          seen_new i (family h) seen (map (seen_by s) ls) (subst (λ (k : ℕ). list_any (is_listed_at k (family h)) (map (seen_by s) ls) ≡ true) (sym same) (listed_seen s (family h) ls its))
      by false is = seen_more i (family h) seen (map (seen_by s) ls) (g locked i there (rw is none) has)

  survey_is : (h : Hold) (why : Purpose) (s : ℕ) (left : List ℕ) (seen : List Seen) (reply : Reply) → InSurvey c h why (s ∷ left) seen → Tells c (places.Surveys h why s left seen) reply → TurnIs At (survey_answered h why s left seen reply)
  survey_is h (purposes.Mends cause) s left seen (tell.Volume (volumes.ListVols ls)) g told = surveys_is h (purposes.Mends cause) left _ (seen_by_all h cause s left seen ls g told)
  survey_is h (purposes.Moves target) s left seen (tell.Volume (volumes.ListVols ls)) g told = surveys_is h (purposes.Moves target) left _ tt
  survey_is h purposes.Removes s left seen (tell.Volume (volumes.ListVols ls)) g told = surveys_is h purposes.Removes left _ tt
  survey_is h why s left seen reply g told = tt

  -- ---- the recovery itself

  opens_is : (m : Mend) (o : Option ℕ) → m.copies ≡ [] → ((step : Mending) → NoneLeft m step → InMend c m step) → TurnIs At (opens_or_frees m o)
  opens_is m None none on = ends_is At m.cause not_there
  opens_is m (Some zero) none on = on mending.Frees none
  opens_is m (Some (suc n)) none on = on mending.Begins none

  -- with no copy left at another server
  abbrev IsClear : Mend → Type 0
  IsClear m = lock_at c m.volume ≡ Some m.stamp → (i : ℕ) → has_host c i ≡ true → nat_eq i m.named ≡ false → has_copy_at c m.volume i ≡ true → list_any (nat_eq i) m.copies ≡ true

  clear_in : (m : Mend) (step : Mending) → IsClear m → NoneLeft m step → InMend c m step
  clear_in m step clear none = (none, λ locked i there other has. or_right (goes_now step i) _ (clear locked i there other has))

  drops_is : (m : Mend) (spots : List Spot) → m.copies ≡ [] → IsClear m → TurnIs At (drops_others m spots)
  drops_is m [] none clear = opens_is m m.flags none (λ step left. clear_in m step clear left)
  drops_is m (spot ∷ left) none clear = clear_in (record m { others = left }) (mending.Drops spot) clear none

  takes_is' : (m : Mend) (copies : List ℕ) → m.copies ≡ copies → IsClear m → TurnIs At (takes_copies m copies)
  takes_is' m [] is clear = drops_is m m.others is clear
  takes_is' m (s ∷ left) is clear = (tt, λ locked i there other has. ap (list_any (nat_eq i)) (sym is) ∙ clear locked i there other has)

  deleted : (m : Mend) (s t : ℕ) → AreToGo c m (mending.Deletes s t) → (lock_at c m.volume ≡ Some m.stamp → has_copy_at c m.volume s ≡ false) → IsClear m
  deleted m s t to_go gone locked i there other has = by (nat_eq i s) refl (to_go locked i there other has)
    where
      by : (b : Bool) → nat_eq i s ≡ b → (nat_eq i s || list_any (nat_eq i) m.copies) ≡ true → list_any (nat_eq i) m.copies ≡ true
      by true is e = let none : has_copy_at c m.volume i ≡ false = ap (has_copy_at c m.volume) (eqb-true i s is) ∙ gone locked in let no : true ≡ false = sym has ∙ none in absurd cc
      by false is e = subst (λ (b : Bool). (b || list_any (nat_eq i) m.copies) ≡ true) is e

  -- nothing goes now, and none is left
  still_clear : (m : Mend) (step : Mending) → goes_now step ≡ (λ (i : ℕ). false) → AreToGo c m step → IsClear m
  still_clear m step none to_go locked i there other has = subst (λ (f : ℕ → Bool). (f i || list_any (nat_eq i) m.copies) ≡ true) none (to_go locked i there other has)

  mended_is : (cause : Cause) → TurnIs At (recovering.mended cause)
  mended_is causes.Asked = tt
  mended_is (causes.After code) = tt

  mend_led : (m : Mend) (step : Mending) (reply : Reply) → InMend c m step → Tells c (places.Mends m step) reply → TurnIs At (mend_answered m step reply)
  mend_led m (mending.Takes s) (tell.Volume (volumes.TransCreate t)) g told = (tt, g.1)
  mend_led m (mending.Points s t) (tell.Volume volumes.SetForwarding) g told = (tt, g.1)
  mend_led m (mending.Deletes s t) (tell.Volume volumes.DeleteVolume) g told = takes_is' m m.copies refl (deleted m s t g.1 told.1)
  mend_led m (mending.Drops spot) (tell.Volume (volumes.TransCreate t)) g told = (g.0, g.1)
  mend_led m (mending.Dropped spot t) (tell.Volume volumes.DeleteVolume) g told = takes_is' m m.copies refl (still_clear m (mending.Dropped spot t) refl g.1)
  mend_led m mending.Begins (tell.Volume (volumes.TransCreate t)) g told = (g.0, g.1)
  mend_led m (mending.Opens t) (tell.Volume volumes.SetFlags) g told = (g.0, g.1)
  mend_led m (mending.Ends t) (tell.Volume volumes.EndTrans) g told = (g.0, g.1)
  mend_led m mending.Frees (tell.Location entries.ReleaseLock) g told = mended_is m.cause
  mend_led m step reply g told = tt

  -- the copies that go are all that are elsewhere
  to_go : (e : Errand) (cause : Cause) (h : Hold) (seen : List Seen) (n : LocEntry) → e.servers ≡ c.host_count → AreSeen c (family h) h.stamp [] seen → IsClear (mend_of e cause h seen n)
  to_go e cause h seen n count seen_all locked i there other has =
      chosen (recovering.has_copy (family h) (home_in n) seen) i (all_servers e) (both (nat_eq i (home_in n)) (list_any (is_listed_at i (family h)) seen) other (seen_all locked i there refl has)) (asked_all c e i count there)
    where
      both : (a b : Bool) → a ≡ false → b ≡ true → (not a && b) ≡ true
      both true b x y = absurd cc
      both false b x y = y

  entry_is : (e : Errand) (cause : Cause) (h : Hold) (seen : List Seen) (reply : Reply) → e.servers ≡ c.host_count → AreSeen c (family h) h.stamp [] seen → TurnIs At (entry_answered e cause h seen reply)
  entry_is e cause h seen (tell.Location (entries.GetEntryById n)) count g =
      let m : Mend = mend_of e cause h seen n in either (is_usable n) (mends_on m) turns.Passes (takes_is' m m.copies refl (to_go e cause h seen n count g)) tt
  entry_is e cause h seen reply count g = tt

  release_on : (h : Hold) (step : Releasing) (reply : Reply) → TurnIs At (release_answered h step reply)
  release_on h releasing.Stamps (tell.Volume (volumes.ListVols ls)) = either (nat_eq h.entry.read_only 0) _ _ tt tt
  release_on h releasing.Numbers (tell.Location (entries.GetNewVolumeId ro)) = tt
  release_on h (releasing.NumbersClone ro) (tell.Location (entries.GetNewVolumeId x)) = tt
  release_on h step r = tt

  -- ---- every answer, every refusal, and the first question of an act

  abbrev pub Asks : Errand → Place → Type 0
  Asks e (places.Locks cause v) = e.servers ≡ c.host_count
  Asks e (places.Asks cause h seen) = e.servers ≡ c.host_count
  Asks e p = ⊤

  pub answered_is : (e : Errand) (p : Place) (reply : Reply) → Asks e p → Mended c p → Tells c p reply → TurnIs At (answered e p reply)
  answered_is e (places.Seeks cause) reply count g told = seek_is cause reply
  answered_is e (places.Locks cause v) reply count g told = lock_is e cause reply count
  answered_is e (places.Frees h code first) reply count g told = free_is code reply
  answered_is e (places.Creates f step) reply count g told = create_is At f step reply (λ step. tt)
  answered_is e (places.Adds h server) reply count g told = add_is h reply
  answered_is e (places.Backs h step) reply count g told = backup_is At h step reply (λ step. tt) tt
  answered_is e (places.Dumps s step) reply count g told = dump_is At s step reply (λ bytes step. tt) tt
  answered_is e (places.Releases h step) reply count g told = release_on h step reply
  answered_is e (places.Tours r step) reply count g told = tour_is At r step reply (λ q same step. tt) (λ q same s step. tt) (λ code first. tt)
  answered_is e (places.Visits r s step) reply count g told = visit_is At r s step reply (λ q same step. tt) (λ q same s step. tt)
  answered_is e (places.Surveys h why s left seen) reply count g told = survey_is h why s left seen reply g told
  answered_is e (places.Plans h target) reply count g told = plan_is h target reply
  answered_is e (places.Moves m step) reply count g told = move_is At m step reply (λ step. tt) tt
  answered_is e (places.Removes h seen step) reply count g told = remove_is At h seen step reply (λ step. tt) (λ spot left step. tt)
  answered_is e (places.Sweeps h spot left step) reply count g told = sweep_is At h spot left step reply (λ spot left step. tt)
  answered_is e (places.Asks cause h seen) reply count g told = entry_is e cause h seen reply count g
  answered_is e (places.Mends m step) reply count g told = mend_led m step reply g told

  pub refused_is : (p : Place) (code : Code) → TurnIs At (refused p code)
  refused_is (places.Seeks cause) code = seek_fails_is At cause code
  refused_is (places.Locks cause v) code = seek_fails_is At cause code
  refused_is (places.Frees h ending first) code = fails_is At first code (λ c. tt)
  refused_is (places.Creates f step) code = create_refused_is At f step code (λ step. tt) (λ c. tt)
  refused_is (places.Adds h server) code = fails_is At None code (λ c. tt)
  refused_is (places.Backs h step) code = fails_is At None code (λ c. tt)
  refused_is (places.Dumps s step) code = fails_is At None code (λ c. tt)
  refused_is (places.Releases h step) code = fails_is At None code (λ c. tt)
  refused_is (places.Tours r step) code = fails_is At r.first code (λ c. tt)
  refused_is (places.Visits r s step) code = visit_refused_is At r s step code (λ q same step. tt) (λ q same s step. tt)
  refused_is (places.Surveys h why s left seen) code = survey_refused_is At why code (λ c. tt)
  refused_is (places.Plans h target) code = fails_is At None code (λ c. tt)
  refused_is (places.Moves m step) code = fails_is At None code (λ c. tt)
  refused_is (places.Removes h seen step) code = fails_is At None code (λ c. tt)
  refused_is (places.Sweeps h spot left step) code = fails_is At None code (λ c. tt)
  refused_is (places.Asks cause h seen) code = ends_is At cause code
  refused_is (places.Mends m step) code = ends_is At m.cause code

  creates_is : (server : ℕ) (o : Option (List ℕ)) → TurnIs At (creates_from server o)
  creates_is server None = tt
  creates_is server (Some bytes) = tt

  pub first_is : (act : AdminAct) (held : Option (List ℕ)) → TurnIs At (begins_with act held)
  first_is (acts.Create name server quota) held = tt
  first_is (acts.Restore name server label) held = creates_is server held
  first_is act held = tt

  -- ---- at each question of an act, where answers tell what is so

  module _ (course : Course) (sent : List Message) (n e : ℕ) (counts : (k : ℕ) → Asks (course n e k).errand (course n e k).place) (first : At (course n e zero).place)
      (tells : (k : ℕ) (q : Question) (w : WasAnswered sent n e k (course n e k) q) → Tells c (course n e k).place w.reply) where
    follows_is : (k : ℕ) (q : Question) → At (course n e k).place → Follows sent n e k (course n e k) q → At q.place
    follows_is k q g (inl b) = leads_is At q.place (begins_with q.errand.act b.0) (first_is q.errand.act b.0) b.1
    follows_is k q g (inr (inl w)) = leads_is At q.place (answered (course n e k).errand (course n e k).place w.reply) (answered_is (course n e k).errand (course n e k).place w.reply (counts k) g (tells k q w)) w.leads
    follows_is k q g (inr (inr r)) = leads_is At q.place (refused (course n e k).place r.code) (refused_is (course n e k).place r.code) r.leads

    pub each_mended : (k : ℕ) → Way course sent n e k → At (course n e k).place
    each_mended zero way = first
    each_mended (suc k) way = follows_is k (course n e (suc k)) (each_mended k way.1) way.0
