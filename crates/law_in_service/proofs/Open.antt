-- What a recovery knows of its volume at the server by which it goes, while it holds the lock: the volume is in service there, if the server listed it
-- so, and from where its flags were set on.
use Rattle.std.proofs.Common.{◌≡◌, ◌⊎◌, ◌≤◌, inl, inr, ℕ, zero, suc, Bool, true, false, cond, List, [], ◌∷◌, ◌++◌, Option, Some, None, refl, subst, eqb-true, eq-eqb}
use Rattle.std.specs.Prelude.{⊤, ◌&&◌, ◌||◌, nat_eq, map, find}
use Rattle.std.specs.List.{list_any}
use Rattle.std.specs.Option.{option_map}
use Rattle.afs_num.specs.declared.location_calls.LocReply.TheVariants as entries
use Rattle.afs_num.specs.declared.messages.Message.{Message}
use Rattle.afs_num.specs.declared.messages.Reply.{Reply}
use Rattle.afs_num.specs.declared.messages.Reply.TheVariants as tell
use Rattle.afs_num.specs.declared.types.Code.{Code}
use Rattle.afs_num.specs.declared.volume_calls.ListedVolume.{ListedVolume}
use Rattle.afs_num.specs.declared.volume_calls.VolReply.TheVariants as volumes
use Rattle.spec_history.specs.declared.scripts.AdminAct.{AdminAct}
use Rattle.spec_history.specs.declared.scripts.AdminAct.TheVariants as acts
use Rattle.spec_adminrows.specs.Acts.{answered, begins_with, can_go_on, creates_from, free_answered, goes_on_locked, lock_answered, locked, refused, seek_answered}
use Rattle.spec_adminrows.specs.Asks.{all_servers, family, home}
use Rattle.spec_adminrows.specs.Copying.{add_answered}
use Rattle.spec_adminrows.specs.Entries.{has_read_only_at, home_in, is_usable}
use Rattle.spec_adminrows.specs.Moving.{plan_answered}
use Rattle.spec_adminrows.specs.Recovering.{drops_others, entry_answered, flags_at, is_listed_at, mend_answered, mend_of, mended, opens_or_frees, takes_copies}
use Rattle.spec_adminrows.specs.Releasing.{release_answered}
use Rattle.spec_adminrows.specs.Surveying.{seen_by, survey_answered, surveys, surveys_all}
use Rattle.spec_adminrows.specs.Turns.{not_there}
use Rattle.spec_adminrows.specs.declared.places.Cause.{Cause}
use Rattle.spec_adminrows.specs.declared.places.Cause.TheVariants as causes
use Rattle.spec_adminrows.specs.declared.places.Hold.{Hold}
use Rattle.spec_adminrows.specs.declared.places.Mend.{Mend}
use Rattle.spec_adminrows.specs.declared.places.Mending.{Mending}
use Rattle.spec_adminrows.specs.declared.places.Mending.TheVariants as mending
use Rattle.spec_adminrows.specs.declared.places.Place.{Place}
use Rattle.spec_adminrows.specs.declared.places.Place.TheVariants as places
use Rattle.spec_adminrows.specs.declared.places.Purpose.{Purpose}
use Rattle.spec_adminrows.specs.declared.places.Purpose.TheVariants as purposes
use Rattle.spec_adminrows.specs.declared.places.Releasing.{Releasing}
use Rattle.spec_adminrows.specs.declared.places.Releasing.TheVariants as releasing
use Rattle.spec_adminrows.specs.declared.places.Seen.{Seen}
use Rattle.spec_adminrows.specs.declared.places.Spot.{Spot}
use Rattle.spec_adminrows.specs.declared.turns.Errand.{Errand}
use Rattle.spec_adminrows.specs.declared.turns.Turn.{Turn}
use Rattle.spec_adminrows.specs.declared.turns.Turn.TheVariants as turns
use Rattle.spec_runs.specs.NodeRuns.{NodeCell}
use Rattle.law_walks.proofs.Places.{backup_is, create_is, create_refused_is, dump_is, ends_is, fails_is, move_is, remove_is, seek_fails_is, survey_refused_is, sweep_is, tour_is, visit_is, visit_refused_is, TurnIs}
use Rattle.law_places.specs.Accepting.{serves_at}
use Rattle.law_courses.specs.Courses.{Course, Follows, IsUpTo, Question, WasAnswered, Way}
use Rattle.law_courses.proofs.Continuing.{leads_is}
use Rattle.law_stamps.specs.Stamps.{stored_stamp}
use Rattle.law_one_server.specs.Knows.{lock_at}

-- ---- what is known

-- A question of a recovery under this stamp goes by another server. Such a one may have asked this server to delete the volume.
pub record IsElsewhere (course : Course) (c : NodeCell) (volume stamp server : ℕ) : Type 0 where
  pub n : ℕ
  pub e : ℕ
  pub k : ℕ
  pub up_to : IsUpTo e k (c.admins n)
  pub m : Mend
  pub step : Mending
  pub at : (course n e k).place ≡ places.Mends m step
  pub of : m.volume ≡ volume
  pub under : m.stamp ≡ stamp
  pub other : server ≡ m.named → ⊥

abbrev pub IsOpen : Course → NodeCell → ℕ → ℕ → ℕ → Type 0
IsOpen course c volume stamp server = (serves_at c volume server ≡ true) ⊎ IsElsewhere course c volume stamp server

-- while the lock is held
abbrev pub StandsOpen : Course → NodeCell → Mend → Type 0
StandsOpen course c m = lock_at c m.volume ≡ Some m.stamp → IsOpen course c m.volume m.stamp m.named

-- it is listed, with flags 0
abbrev pub is_open_in : ℕ → ListedVolume → Bool
is_open_in volume l = nat_eq l.volume volume && nat_eq l.flags 0

abbrev pub is_open_at : ℕ → ℕ → Seen → Bool
is_open_at s volume x = nat_eq x.server s && is_open_in volume x.volume

abbrev pub AreOpen : Course → NodeCell → ℕ → ℕ → List Seen → Type 0
AreOpen course c volume stamp seen = lock_at c volume ≡ Some stamp → (i : ℕ) → list_any (is_open_at i volume) seen ≡ true → IsOpen course c volume stamp i

abbrev pub InSurvey : Course → NodeCell → Hold → Purpose → List Seen → Type 0
InSurvey course c h (purposes.Mends cause) seen = AreOpen course c (family h) h.stamp seen
InSurvey course c h (purposes.Moves target) seen = ⊤
InSurvey course c h purposes.Removes seen = ⊤

-- where it was listed so nothing more is done for it
abbrev pub InMend : Course → NodeCell → Mend → Mending → Type 0
InMend course c m (mending.Ends t) = StandsOpen course c m
InMend course c m mending.Frees = StandsOpen course c m
InMend course c m step = m.flags ≡ Some 0 → StandsOpen course c m

abbrev pub Stands : Course → NodeCell → Place → Type 0
Stands course c (places.Surveys h why s left seen) = InSurvey course c h why seen
Stands course c (places.Asks cause h seen) = AreOpen course c (family h) h.stamp seen
Stands course c (places.Mends m step) = InMend course c m step
Stands course c p = ⊤

-- what answers tell
abbrev pub Tells : Course → NodeCell → Place → Reply → Type 0
Tells course c (places.Surveys h (purposes.Mends cause) s left seen) (tell.Volume (volumes.ListVols ls)) =
    (h.stamp ≤ stored_stamp c s (family h)) × (lock_at c (family h) ≡ Some h.stamp → list_any (is_open_in (family h)) ls ≡ true → IsOpen course c (family h) h.stamp s)
Tells course c (places.Mends m (mending.Opens t)) (tell.Volume volumes.SetFlags) = (m.stamp ≤ stored_stamp c m.named m.volume) × StandsOpen course c m
Tells course c p reply = ⊤

-- ---- lists

or_right : (a b : Bool) → b ≡ true → (a || b) ≡ true
or_right true b e = refl
or_right false b e = e

or_left : (a b : Bool) → a ≡ true → (a || b) ≡ true
or_left true b e = refl
or_left false b e = absurd cc

all_three : (a b c : Bool) → (a && b) ≡ true → c ≡ true → (a && (b && c)) ≡ true
all_three true true c e f = f
all_three true false c e f = absurd cc
all_three false b c e f = absurd cc

found_open : (s volume : ℕ) (seen : List Seen) → flags_at s volume seen ≡ Some 0 → list_any (is_open_at s volume) seen ≡ true
found_open s volume [] e = absurd cc
found_open s volume (x ∷ xs) e = by (is_listed_at s volume x) refl e (found_open s volume xs)
  where
    by : (b : Bool) → is_listed_at s volume x ≡ b → option_map (λ (y : Seen). y.volume.flags) (cond b (Some x) (find (is_listed_at s volume) xs)) ≡ Some 0 → (flags_at s volume xs ≡ Some 0 → list_any (is_open_at s volume) xs ≡ true) →
        (is_open_at s volume x || list_any (is_open_at s volume) xs) ≡ true
    by true is e' later =
        let none : x.volume.flags ≡ 0 = cc in
        or_left (is_open_at s volume x) _ (all_three (nat_eq x.server s) (nat_eq x.volume.volume volume) (nat_eq x.volume.flags 0) is (eq-eqb x.volume.flags 0 none))
    by false is e' later = or_right (is_open_at s volume x) _ (later e')

either_list : (test : Seen → Bool) (xs ys : List Seen) → list_any test (xs ++ ys) ≡ true → (list_any test xs ≡ true) ⊎ (list_any test ys ≡ true)
either_list test [] ys e = inr e
either_list test (x ∷ xs) ys e = by (test x) refl e (either_list test xs ys)
  where
    by : (b : Bool) → test x ≡ b → (b || list_any test (xs ++ ys)) ≡ true → (list_any test (xs ++ ys) ≡ true → (list_any test xs ≡ true) ⊎ (list_any test ys ≡ true)) → ((test x || list_any test xs) ≡ true) ⊎ (list_any test ys ≡ true)
    by true is e' later = inl (or_left (test x) _ is)
    by false is e' later = elim (later e') [ inl h ↦ inl (or_right (test x) _ h) | inr h ↦ inr h ]

listed_open : (i s volume : ℕ) (ls : List ListedVolume) → list_any (is_open_at i volume) (map (seen_by s) ls) ≡ true → (s ≡ i) × (list_any (is_open_in volume) ls ≡ true)
listed_open i s volume [] e = absurd cc
listed_open i s volume (l ∷ ls) e = by (nat_eq s i) (is_open_in volume l) refl refl e (listed_open i s volume ls)
  where
    by : (a b : Bool) → nat_eq s i ≡ a → is_open_in volume l ≡ b → ((a && b) || list_any (is_open_at i volume) (map (seen_by s) ls)) ≡ true → (list_any (is_open_at i volume) (map (seen_by s) ls) ≡ true → (s ≡ i) × (list_any (is_open_in volume) ls ≡ true)) →
        (s ≡ i) × ((is_open_in volume l || list_any (is_open_in volume) ls) ≡ true)
    by true true same is e' later = (eqb-true s i same, or_left (is_open_in volume l) _ is)
    by true false same is e' later = let z = later e' in (z.0, or_right (is_open_in volume l) _ z.1)
    by false b same is e' later = let z = later e' in (z.0, or_right (is_open_in volume l) _ z.1)

-- ---- where answers lead

module _ (course : Course) (c : NodeCell) where
  abbrev At : Place → Type 0
  At p = Stands course c p

  when : (b : Bool) (x : Turn) → TurnIs At x → TurnIs At (cond b x turns.Passes)
  when true x h = h
  when false x h = tt

  either : (b : Bool) (x y : Turn) → TurnIs At x → TurnIs At y → TurnIs At (cond b x y)
  either true x y h k = h
  either false x y h k = k

  surveys_on : (h : Hold) (why : Purpose) (left : List ℕ) (seen : List Seen) → InSurvey course c h why seen → TurnIs At (surveys h why left seen)
  surveys_on h (purposes.Moves target) [] seen g = tt
  surveys_on h purposes.Removes [] seen g = tt
  surveys_on h (purposes.Mends cause) [] seen g = g
  surveys_on h why (s ∷ left) seen g = g

  begins_on : (e : Errand) (h : Hold) (cause : Cause) → TurnIs At (surveys_all e h (purposes.Mends cause))
  begins_on e h cause = surveys_on h (purposes.Mends cause) (all_servers e) [] (λ held i none. absurd cc)

  goes_on : (e : Errand) (h : Hold) (act : AdminAct) → TurnIs At (goes_on_locked e h act)
  goes_on e h (acts.Create name server quota) = tt
  goes_on e h (acts.Restore name server label) = tt
  goes_on e h (acts.AddSite name server) = either (has_read_only_at server h.entry) _ _ tt tt
  goes_on e h (acts.Backup name) = tt
  goes_on e h (acts.Release name) = tt
  goes_on e h (acts.Move name server) = either (nat_eq server (home h)) _ _ tt (surveys_on h (purposes.Moves server) (all_servers e) [] tt)
  goes_on e h (acts.Dump name label from) = tt
  goes_on e h (acts.Remove name) = surveys_on h purposes.Removes (all_servers e) [] tt
  goes_on e h (acts.Recover name) = begins_on e h causes.Asked

  locked_on : (e : Errand) (h : Hold) (cause : Cause) → TurnIs At (locked e h cause)
  locked_on e h causes.Asked = goes_on e h e.act
  locked_on e h (causes.After code) = begins_on e h (causes.After code)

  lock_on : (e : Errand) (cause : Cause) (reply : Reply) → TurnIs At (lock_answered e cause reply)
  lock_on e cause (tell.Location (entries.SetLock stamp n)) = when (can_go_on e n) _ (locked_on e (record { entry = n; stamp = stamp }) cause)
  lock_on e cause reply = tt

  seek_on : (cause : Cause) (reply : Reply) → TurnIs At (seek_answered cause reply)
  seek_on cause (tell.Location (entries.GetEntryByName n)) = tt
  seek_on cause reply = tt

  free_on : (code : Code) (reply : Reply) → TurnIs At (free_answered code reply)
  free_on code (tell.Location entries.ReleaseLock) = tt
  free_on code reply = tt

  add_on : (h : Hold) (reply : Reply) → TurnIs At (add_answered h reply)
  add_on h (tell.Location entries.ReplaceEntry) = tt
  add_on h reply = tt

  plan_on : (h : Hold) (target : ℕ) (reply : Reply) → TurnIs At (plan_answered h target reply)
  plan_on h target (tell.Location (entries.GetNewVolumeId x)) = tt
  plan_on h target reply = tt

  release_on : (h : Hold) (step : Releasing) (reply : Reply) → TurnIs At (release_answered h step reply)
  release_on h releasing.Stamps (tell.Volume (volumes.ListVols ls)) = either (nat_eq h.entry.read_only 0) _ _ tt tt
  release_on h releasing.Numbers (tell.Location (entries.GetNewVolumeId ro)) = tt
  release_on h (releasing.NumbersClone ro) (tell.Location (entries.GetNewVolumeId x)) = tt
  release_on h step r = tt

  -- what one more server listed
  seen_more : (h : Hold) (cause : Cause) (s : ℕ) (left : List ℕ) (seen : List Seen) (ls : List ListedVolume) → InSurvey course c h (purposes.Mends cause) seen → Tells course c (places.Surveys h (purposes.Mends cause) s left seen) (tell.Volume (volumes.ListVols ls)) →
      InSurvey course c h (purposes.Mends cause) (seen ++ map (seen_by s) ls)
  seen_more h cause s left seen ls g told held i e = by (either_list (is_open_at i (family h)) seen (map (seen_by s) ls) e)
    where
      by : (list_any (is_open_at i (family h)) seen ≡ true) ⊎ (list_any (is_open_at i (family h)) (map (seen_by s) ls) ≡ true) → IsOpen course c (family h) h.stamp i
      by (inl before) = g held i before
      by (inr now) = let z = listed_open i s (family h) ls now in subst (IsOpen course c (family h) h.stamp) z.0 (told.1 held z.1)

  survey_on : (h : Hold) (why : Purpose) (s : ℕ) (left : List ℕ) (seen : List Seen) (reply : Reply) → InSurvey course c h why seen → Tells course c (places.Surveys h why s left seen) reply → TurnIs At (survey_answered h why s left seen reply)
  survey_on h (purposes.Mends cause) s left seen (tell.Volume (volumes.ListVols ls)) g told = surveys_on h (purposes.Mends cause) left _ (seen_more h cause s left seen ls g told)
  survey_on h (purposes.Moves target) s left seen (tell.Volume (volumes.ListVols ls)) g told = surveys_on h (purposes.Moves target) left _ tt
  survey_on h purposes.Removes s left seen (tell.Volume (volumes.ListVols ls)) g told = surveys_on h purposes.Removes left _ tt
  survey_on h why s left seen reply g told = tt

  -- ---- the recovery itself

  abbrev ByFlags : Mend → Type 0
  ByFlags m = m.flags ≡ Some 0 → StandsOpen course c m

  opens_on : (m : Mend) (o : Option ℕ) → m.flags ≡ o → ByFlags m → TurnIs At (opens_or_frees m o)
  opens_on m None is k = ends_is At m.cause not_there
  opens_on m (Some zero) is k = k is
  opens_on m (Some (suc n)) is k = k

  drops_on : (m : Mend) (spots : List Spot) → ByFlags m → TurnIs At (drops_others m spots)
  drops_on m [] k = opens_on m m.flags refl k
  drops_on m (spot ∷ left) k = k

  takes_on : (m : Mend) (copies : List ℕ) → ByFlags m → TurnIs At (takes_copies m copies)
  takes_on m [] k = drops_on m m.others k
  takes_on m (s ∷ left) k = k

  mended_on : (cause : Cause) → TurnIs At (mended cause)
  mended_on causes.Asked = tt
  mended_on (causes.After code) = tt

  mend_on : (m : Mend) (step : Mending) (reply : Reply) → InMend course c m step → Tells course c (places.Mends m step) reply → TurnIs At (mend_answered m step reply)
  mend_on m (mending.Takes s) (tell.Volume (volumes.TransCreate t)) g told = g
  mend_on m (mending.Points s t) (tell.Volume volumes.SetForwarding) g told = g
  mend_on m (mending.Deletes s t) (tell.Volume volumes.DeleteVolume) g told = takes_on m m.copies g
  mend_on m (mending.Drops spot) (tell.Volume (volumes.TransCreate t)) g told = g
  mend_on m (mending.Dropped spot t) (tell.Volume volumes.DeleteVolume) g told = takes_on m m.copies g
  mend_on m mending.Begins (tell.Volume (volumes.TransCreate t)) g told = g
  mend_on m (mending.Opens t) (tell.Volume volumes.SetFlags) g told = told.1
  mend_on m (mending.Ends t) (tell.Volume volumes.EndTrans) g told = g
  mend_on m mending.Frees (tell.Location entries.ReleaseLock) g told = mended_on m.cause
  mend_on m step reply g told = tt

  entry_on : (e : Errand) (cause : Cause) (h : Hold) (seen : List Seen) (reply : Reply) → AreOpen course c (family h) h.stamp seen → TurnIs At (entry_answered e cause h seen reply)
  entry_on e cause h seen (tell.Location (entries.GetEntryById n)) g =
      let m : Mend = mend_of e cause h seen n in when (is_usable n) (takes_copies m m.copies) (takes_on m m.copies (λ is held. g held (home_in n) (found_open (home_in n) (family h) seen is)))
  entry_on e cause h seen reply g = tt

  -- ---- every answer, every refusal, and the first question of an act

  answered_on : (e : Errand) (p : Place) (reply : Reply) → Stands course c p → Tells course c p reply → TurnIs At (answered e p reply)
  answered_on e (places.Seeks cause) reply g told = seek_on cause reply
  answered_on e (places.Locks cause v) reply g told = lock_on e cause reply
  answered_on e (places.Frees h code first) reply g told = free_on code reply
  answered_on e (places.Creates f step) reply g told = create_is At f step reply (λ step. tt)
  answered_on e (places.Adds h server) reply g told = add_on h reply
  answered_on e (places.Backs h step) reply g told = backup_is At h step reply (λ step. tt) tt
  answered_on e (places.Dumps s step) reply g told = dump_is At s step reply (λ bytes step. tt) tt
  answered_on e (places.Releases h step) reply g told = release_on h step reply
  answered_on e (places.Tours r step) reply g told = tour_is At r step reply (λ q same step. tt) (λ q same s step. tt) (λ code first. tt)
  answered_on e (places.Visits r s step) reply g told = visit_is At r s step reply (λ q same step. tt) (λ q same s step. tt)
  answered_on e (places.Surveys h why s left seen) reply g told = survey_on h why s left seen reply g told
  answered_on e (places.Plans h target) reply g told = plan_on h target reply
  answered_on e (places.Moves m step) reply g told = move_is At m step reply (λ step. tt) tt
  answered_on e (places.Removes h seen step) reply g told = remove_is At h seen step reply (λ step. tt) (λ spot left step. tt)
  answered_on e (places.Sweeps h spot left step) reply g told = sweep_is At h spot left step reply (λ spot left step. tt)
  answered_on e (places.Asks cause h seen) reply g told = entry_on e cause h seen reply g
  answered_on e (places.Mends m step) reply g told = mend_on m step reply g told

  refused_on : (p : Place) (code : Code) → TurnIs At (refused p code)
  refused_on (places.Seeks cause) code = seek_fails_is At cause code
  refused_on (places.Locks cause v) code = seek_fails_is At cause code
  refused_on (places.Frees h ending first) code = fails_is At first code (λ c. tt)
  refused_on (places.Creates f step) code = create_refused_is At f step code (λ step. tt) (λ c. tt)
  refused_on (places.Adds h server) code = fails_is At None code (λ c. tt)
  refused_on (places.Backs h step) code = fails_is At None code (λ c. tt)
  refused_on (places.Dumps s step) code = fails_is At None code (λ c. tt)
  refused_on (places.Releases h step) code = fails_is At None code (λ c. tt)
  refused_on (places.Tours r step) code = fails_is At r.first code (λ c. tt)
  refused_on (places.Visits r s step) code = visit_refused_is At r s step code (λ q same step. tt) (λ q same s step. tt)
  refused_on (places.Surveys h why s left seen) code = survey_refused_is At why code (λ c. tt)
  refused_on (places.Plans h target) code = fails_is At None code (λ c. tt)
  refused_on (places.Moves m step) code = fails_is At None code (λ c. tt)
  refused_on (places.Removes h seen step) code = fails_is At None code (λ c. tt)
  refused_on (places.Sweeps h spot left step) code = fails_is At None code (λ c. tt)
  refused_on (places.Asks cause h seen) code = ends_is At cause code
  refused_on (places.Mends m step) code = ends_is At m.cause code

  creates_on : (server : ℕ) (o : Option (List ℕ)) → TurnIs At (creates_from server o)
  creates_on server None = tt
  creates_on server (Some bytes) = tt

  first_on : (act : AdminAct) (held : Option (List ℕ)) → TurnIs At (begins_with act held)
  first_on (acts.Create name server quota) held = tt
  first_on (acts.Restore name server label) held = creates_on server held
  first_on act held = tt

  -- ---- at each question of an act, where answers tell what is so

  module _ (sent : List Message) (n e : ℕ) (first : At (course n e zero).place) (tells : (k : ℕ) (q : Question) (w : WasAnswered sent n e k (course n e k) q) → Tells course c (course n e k).place w.reply) where
    follows_on : (k : ℕ) (q : Question) → At (course n e k).place → Follows sent n e k (course n e k) q → At q.place
    follows_on k q g (inl b) = leads_is At q.place (begins_with q.errand.act b.0) (first_on q.errand.act b.0) b.1
    follows_on k q g (inr (inl w)) = leads_is At q.place (answered (course n e k).errand (course n e k).place w.reply) (answered_on (course n e k).errand (course n e k).place w.reply g (tells k q w)) w.leads
    follows_on k q g (inr (inr r)) = leads_is At q.place (refused (course n e k).place r.code) (refused_on (course n e k).place r.code) r.leads

    pub each_stands : (k : ℕ) → Way course sent n e k → At (course n e k).place
    each_stands zero way = first
    each_stands (suc k) way = follows_on k (course n e (suc k)) (each_stands k way.1) way.0
