-- What is so of the places of acts by themselves: a move goes to another server; a recovery deletes the volume where the entry doesn't put it, and
-- else other volumes; and the clone of a release has another number than its volume.
use Rattle.std.proofs.Common.{◌≡◌, ℕ, zero, suc, Bool, true, false, cond, List, [], ◌∷◌, ◌++◌, Option, Some, None, refl, sym, ◌∙◌, nat_eq, eq-eqb}
use Rattle.std.specs.Prelude.{⊤, ◌&&◌, ◌||◌, not, filter, map}
use Rattle.std.specs.List.{list_any, AllByRecursion}
use Rattle.afs_num.specs.declared.location_calls.LocEntry.{LocEntry}
use Rattle.afs_num.specs.declared.location_calls.LocReply.TheVariants as entries
use Rattle.afs_num.specs.declared.messages.Reply.{Reply}
use Rattle.afs_num.specs.declared.messages.Reply.TheVariants as tell
use Rattle.afs_num.specs.declared.types.Code.{Code}
use Rattle.afs_num.specs.declared.volume_calls.VolReply.TheVariants as volumes
use Rattle.spec_history.specs.declared.scripts.AdminAct.{AdminAct}
use Rattle.spec_history.specs.declared.scripts.AdminAct.TheVariants as acts
use Rattle.spec_adminrows.specs.Acts.{answered, begins_with, can_go_on, creates_from, free_answered, goes_on_locked, lock_answered, locked, refused, seek_answered}
use Rattle.spec_adminrows.specs.Asks.{all_servers, family, home}
use Rattle.spec_adminrows.specs.Copying.{add_answered}
use Rattle.spec_adminrows.specs.Entries.{has_read_only_at, home_in, is_usable}
use Rattle.spec_adminrows.specs.Moving.{plan_answered}
use Rattle.spec_adminrows.specs.Recovering.{drops_others, entry_answered, has_copy, is_listed_at, is_kept_backup, is_kept_read_only, mend_answered, mend_of, mended, must_go, opens_or_frees, takes_copies}
use Rattle.spec_adminrows.specs.Releasing.{goes_to, is_listed, release_answered, skips, tour_answered, visit_answered, visit_refused}
use Rattle.spec_adminrows.specs.Removing.{spot_of}
use Rattle.spec_adminrows.specs.Surveying.{seen_by, survey_answered, surveys}
use Rattle.spec_adminrows.specs.Turns.{code_or, is_superseded, not_there}
use Rattle.spec_adminrows.specs.declared.places.Cause.{Cause}
use Rattle.spec_adminrows.specs.declared.places.Cause.TheVariants as causes
use Rattle.spec_adminrows.specs.declared.places.Hold.{Hold}
use Rattle.spec_adminrows.specs.declared.places.Mend.{Mend}
use Rattle.spec_adminrows.specs.declared.places.Mending.{Mending}
use Rattle.spec_adminrows.specs.declared.places.Mending.TheVariants as mending
use Rattle.spec_adminrows.specs.declared.places.Place.{Place}
use Rattle.spec_adminrows.specs.declared.places.Place.TheVariants as places
use Rattle.spec_adminrows.specs.declared.places.Purpose.{Purpose}
use Rattle.spec_adminrows.specs.declared.places.Purpose.TheVariants as purposes
use Rattle.spec_adminrows.specs.declared.places.Releasing.{Releasing}
use Rattle.spec_adminrows.specs.declared.places.Releasing.TheVariants as releasing
use Rattle.spec_adminrows.specs.declared.places.Seen.{Seen}
use Rattle.spec_adminrows.specs.declared.places.Spot.{Spot}
use Rattle.spec_adminrows.specs.declared.places.Tour.{Tour}
use Rattle.spec_adminrows.specs.declared.places.Touring.{Touring}
use Rattle.spec_adminrows.specs.declared.places.Touring.TheVariants as touring
use Rattle.spec_adminrows.specs.declared.places.Visiting.{Visiting}
use Rattle.spec_adminrows.specs.declared.places.Visiting.TheVariants as visiting
use Rattle.spec_adminrows.specs.declared.turns.Errand.{Errand}
use Rattle.spec_adminrows.specs.declared.turns.Turn.{Turn}
use Rattle.spec_adminrows.specs.declared.turns.Turn.TheVariants as turns
use Rattle.law_walks.proofs.Places.{backup_is, create_is, create_refused_is, dump_is, ends_is, fails_is, move_is, remove_is, seek_fails_is, survey_refused_is, sweep_is, TurnIs}
use Rattle.law_numbers.proofs.Leading.{RepliesAt}

-- ---- by the places

abbrev pub IsAway : Hold → ℕ → Type 0
IsAway h target = target ≡ home h → ⊥

abbrev FitsInSurvey : Hold → Purpose → Type 0
FitsInSurvey h (purposes.Moves target) = IsAway h target
FitsInSurvey h why = ⊤

-- a server that the entry doesn't name, and a volume that isn't the family's own
abbrev pub IsElsewhere : Mend → ℕ → Type 0
IsElsewhere m s = s ≡ m.named → ⊥

abbrev pub IsAnother : Mend → Spot → Type 0
IsAnother m spot = spot.volume ≡ m.volume → ⊥

pub record ListsFit (m : Mend) (copies : List ℕ) (others : List Spot) : Type 0 where
  pub copies_fit : AllByRecursion (IsElsewhere m) copies
  pub others_fit : AllByRecursion (IsAnother m) others

abbrev pub StepFits : Mend → Mending → Type 0
StepFits m (mending.Takes s) = IsElsewhere m s
StepFits m (mending.Points s t) = IsElsewhere m s
StepFits m (mending.Deletes s t) = IsElsewhere m s
StepFits m (mending.Drops spot) = IsAnother m spot
StepFits m (mending.Dropped spot t) = IsAnother m spot
StepFits m step = ⊤

abbrev pub CloneIsOther : Tour → Type 0
CloneIsOther r = r.clone ≡ family r.hold → ⊥

abbrev pub Fits : Place → Type 0
Fits (places.Surveys h why s left seen) = FitsInSurvey h why
Fits (places.Plans h target) = IsAway h target
Fits (places.Moves m step) = IsAway m.hold m.target
Fits (places.Tours r step) = CloneIsOther r
Fits (places.Visits r s step) = CloneIsOther r
Fits (places.Mends m step) = ListsFit m m.copies m.others × StepFits m step
Fits p = ⊤

-- ---- lists

kept_by : {A : Type 0} (P : A → Type 0) (b : Bool) (x : A) (xs : List A) → (b ≡ true → P x) → AllByRecursion P xs → AllByRecursion P (cond b (x ∷ xs) xs)
kept_by {A} P true x xs h k = (h refl, k)
kept_by {A} P false x xs h k = k

all_kept : {A : Type 0} (P : A → Type 0) (test : A → Bool) (xs : List A) → ((x : A) → test x ≡ true → P x) → AllByRecursion P (filter test xs)
all_kept {A} P test [] h = tt
all_kept {A} P test (x ∷ xs) h = kept_by P (test x) x (filter test xs) (h x) (all_kept P test xs h)

all_mapped : {A B : Type 0} (P : B → Type 0) (f : A → B) (xs : List A) → AllByRecursion (λ (x : A). P (f x)) xs → AllByRecursion P (map f xs)
all_mapped {A} {B} P f [] h = tt
all_mapped {A} {B} P f (x ∷ xs) h = (h.0, all_mapped P f xs h.1)

left_of : (a b : Bool) → (not a && b) ≡ true → a ≡ false
left_of true b e = absurd cc
left_of false b e = refl

none_of : (a b : Bool) → not (a || b) ≡ true → a ≡ false
none_of true b e = absurd cc
none_of false b e = refl

apart : (a b : ℕ) → nat_eq a b ≡ false → a ≡ b → ⊥
apart a b e same = let no : true ≡ false = sym (eq-eqb a b same) ∙ e in absurd cc

-- ---- where answers lead

either : (b : Bool) (x y : Turn) → TurnIs Fits x → TurnIs Fits y → TurnIs Fits (cond b x y)
either true x y h k = h
either false x y h k = k

survey_on : (h : Hold) (why : Purpose) (left : List ℕ) (seen : List Seen) → FitsInSurvey h why → TurnIs Fits (surveys h why left seen)
survey_on h (purposes.Moves target) [] seen k = k
survey_on h purposes.Removes [] seen k = tt
survey_on h (purposes.Mends cause) [] seen k = tt
survey_on h why (s ∷ left) seen k = k

-- to the server where the volume is nothing moves
moves_by : (h : Hold) (server : ℕ) (servers : List ℕ) (x : Turn) (b : Bool) → nat_eq server (home h) ≡ b → TurnIs Fits x → TurnIs Fits (cond b x (surveys h (purposes.Moves server) servers []))
moves_by h server servers x true is k = k
moves_by h server servers x false is k = survey_on h (purposes.Moves server) servers [] (apart server (home h) is)

goes_fit : (e : Errand) (h : Hold) (act : AdminAct) → TurnIs Fits (goes_on_locked e h act)
goes_fit e h (acts.Create name server quota) = tt
goes_fit e h (acts.Restore name server label) = tt
goes_fit e h (acts.AddSite name server) = either (has_read_only_at server h.entry) _ _ tt tt
goes_fit e h (acts.Backup name) = tt
goes_fit e h (acts.Release name) = tt
goes_fit e h (acts.Move name server) = moves_by h server (all_servers e) _ (nat_eq server (home h)) refl tt
goes_fit e h (acts.Dump name label from) = tt
goes_fit e h (acts.Remove name) = survey_on h purposes.Removes (all_servers e) [] tt
goes_fit e h (acts.Recover name) = survey_on h (purposes.Mends causes.Asked) (all_servers e) [] tt

locked_fit : (e : Errand) (h : Hold) (cause : Cause) → TurnIs Fits (locked e h cause)
locked_fit e h causes.Asked = goes_fit e h e.act
locked_fit e h (causes.After code) = survey_on h (purposes.Mends (causes.After code)) (all_servers e) [] tt

lock_fit : (e : Errand) (cause : Cause) (reply : Reply) → TurnIs Fits (lock_answered e cause reply)
lock_fit e cause (tell.Location (entries.SetLock stamp n)) = either (can_go_on e n) _ turns.Passes (locked_fit e (record { entry = n; stamp = stamp }) cause) tt
lock_fit e cause reply = tt

seek_fit : (cause : Cause) (reply : Reply) → TurnIs Fits (seek_answered cause reply)
seek_fit cause (tell.Location (entries.GetEntryByName n)) = tt
seek_fit cause reply = tt

free_fit : (code : Code) (reply : Reply) → TurnIs Fits (free_answered code reply)
free_fit code (tell.Location entries.ReleaseLock) = tt
free_fit code reply = tt

add_fit : (h : Hold) (reply : Reply) → TurnIs Fits (add_answered h reply)
add_fit h (tell.Location entries.ReplaceEntry) = tt
add_fit h reply = tt

plan_fit : (h : Hold) (target : ℕ) (reply : Reply) → IsAway h target → TurnIs Fits (plan_answered h target reply)
plan_fit h target (tell.Location (entries.GetNewVolumeId x)) k = k
plan_fit h target reply k = tt

survey_fit : (h : Hold) (why : Purpose) (s : ℕ) (left : List ℕ) (seen : List Seen) (reply : Reply) → FitsInSurvey h why → TurnIs Fits (survey_answered h why s left seen reply)
survey_fit h why s left seen (tell.Volume (volumes.ListVols ls)) k = survey_on h why left (seen ++ map (seen_by s) ls) k
survey_fit h why s left seen reply k = tt

-- ---- a release

release_fit : (n : ℕ) (h : Hold) (step : Releasing) (reply : Reply) → RepliesAt n (places.Releases h step) reply → TurnIs Fits (release_answered h step reply)
release_fit n h releasing.Stamps (tell.Volume (volumes.ListVols ls)) told = either (nat_eq h.entry.read_only 0) _ _ tt tt
release_fit n h releasing.Numbers (tell.Location (entries.GetNewVolumeId ro)) told = tt
release_fit n h (releasing.NumbersClone ro) (tell.Location (entries.GetNewVolumeId x)) told = told.1
release_fit n h step reply told = tt

to_fit : (r : Tour) (left : List ℕ) → CloneIsOther r → TurnIs Fits (goes_to r left)
to_fit r [] k = k
to_fit r (s ∷ left) k = k

tour_fit : (r : Tour) (step : Touring) (reply : Reply) → CloneIsOther r → TurnIs Fits (tour_answered r step reply)
tour_fit r touring.Begins (tell.Volume (volumes.TransCreate t)) k = k
tour_fit r (touring.Clones t) (tell.Volume (volumes.Clone counter release)) k = k
tour_fit r (touring.Cloned t) (tell.Volume volumes.EndTrans) k = to_fit r r.left k
tour_fit r touring.Drops (tell.Volume (volumes.TransCreate t)) k = k
tour_fit r (touring.Dropped t) (tell.Volume volumes.DeleteVolume) k = k
tour_fit r touring.Writes (tell.Location entries.ReplaceEntry) k = tt
tour_fit r step reply k = tt

skips_fit : (r : Tour) (code : Code) → CloneIsOther r → TurnIs Fits (skips r code)
skips_fit r code k = to_fit (record r { first = Some (code_or code r.first) }) r.left k

visit_fit : (r : Tour) (s : ℕ) (step : Visiting) (reply : Reply) → CloneIsOther r → TurnIs Fits (visit_answered r s step reply)
visit_fit r s visiting.Stamps (tell.Volume (volumes.ListVols ls)) k = either (list_any (is_listed r.read_only) ls) _ _ k k
visit_fit r s visiting.Takes (tell.Volume (volumes.TransCreate t)) k = k
visit_fit r s visiting.Makes (tell.Volume (volumes.CreateVolume t)) k = k
visit_fit r s (visiting.Opens t) (tell.Volume (volumes.TransCreate x)) k = k
visit_fit r s (visiting.Sends t x) (tell.Volume volumes.Forward) k = k
visit_fit r s (visiting.Closes t x) (tell.Volume volumes.EndTrans) k = k
visit_fit r s (visiting.Sets t) (tell.Volume volumes.SetFlags) k = k
visit_fit r s (visiting.Ends t) (tell.Volume volumes.EndTrans) k = to_fit (record r { reached = r.reached ++ s ∷ [] }) r.left k
visit_fit r s (visiting.Leaves code x) (tell.Volume volumes.EndTrans) k = skips_fit r code k
visit_fit r s step reply k = tt

visit_refused_fit : (r : Tour) (s : ℕ) (step : Visiting) (code : Code) → CloneIsOther r → TurnIs Fits (visit_refused r s step code)
visit_refused_fit r s (visiting.Sends t x) code k = either (is_superseded code) (turns.Ends code) _ tt k
visit_refused_fit r s (visiting.Leaves first x) code k = either (is_superseded code) (turns.Ends code) _ tt (skips_fit r first k)
visit_refused_fit r s step code k = either (is_superseded code) (turns.Ends code) _ tt (skips_fit r code k)

-- ---- a recovery

opens_fit : (m : Mend) (o : Option ℕ) → ListsFit m m.copies m.others → TurnIs Fits (opens_or_frees m o)
opens_fit m None k = ends_is Fits m.cause not_there
opens_fit m (Some zero) k = (k, tt)
opens_fit m (Some (suc n)) k = (k, tt)

drops_fit : (m : Mend) (spots : List Spot) → AllByRecursion (IsAnother m) spots → ListsFit m m.copies m.others → TurnIs Fits (drops_others m spots)
drops_fit m [] h k = opens_fit m m.flags k
drops_fit m (spot ∷ left) h k = (record { copies_fit = k.copies_fit; others_fit = h.1 }, h.0)

takes_fit : (m : Mend) (copies : List ℕ) → AllByRecursion (IsElsewhere m) copies → ListsFit m m.copies m.others → TurnIs Fits (takes_copies m copies)
takes_fit m [] h k = drops_fit m m.others k.others_fit k
takes_fit m (s ∷ left) h k = (record { copies_fit = h.1; others_fit = k.others_fit }, h.0)

mended_fit : (cause : Cause) → TurnIs Fits (mended cause)
mended_fit causes.Asked = tt
mended_fit (causes.After code) = tt

mend_fit : (m : Mend) (step : Mending) (reply : Reply) → ListsFit m m.copies m.others → StepFits m step → TurnIs Fits (mend_answered m step reply)
mend_fit m (mending.Takes s) (tell.Volume (volumes.TransCreate t)) k h = (k, h)
mend_fit m (mending.Points s t) (tell.Volume volumes.SetForwarding) k h = (k, h)
mend_fit m (mending.Deletes s t) (tell.Volume volumes.DeleteVolume) k h = takes_fit m m.copies k.copies_fit k
mend_fit m (mending.Drops spot) (tell.Volume (volumes.TransCreate t)) k h = (k, h)
mend_fit m (mending.Dropped spot t) (tell.Volume volumes.DeleteVolume) k h = takes_fit m m.copies k.copies_fit k
mend_fit m mending.Begins (tell.Volume (volumes.TransCreate t)) k h = (k, tt)
mend_fit m (mending.Opens t) (tell.Volume volumes.SetFlags) k h = (k, tt)
mend_fit m (mending.Ends t) (tell.Volume volumes.EndTrans) k h = (k, tt)
mend_fit m mending.Frees (tell.Location entries.ReleaseLock) k h = mended_fit m.cause
mend_fit m step reply k h = tt

-- what is to be done is settled so
settled_fit : (e : Errand) (cause : Cause) (h : Hold) (seen : List Seen) (n : LocEntry) → let m : Mend = mend_of e cause h seen n in ListsFit m m.copies m.others
settled_fit e cause h seen n =
    let m : Mend = mend_of e cause h seen n in
    record {
      copies_fit = all_kept (IsElsewhere m) (has_copy (family h) (home_in n) seen) (all_servers e) (λ s is. apart s (home_in n) (left_of (nat_eq s (home_in n)) (list_any (is_listed_at s (family h)) seen) is));
      others_fit = all_mapped (IsAnother m) spot_of (filter (must_go (family h) n) seen)
          (all_kept (λ (x : Seen). IsAnother m (spot_of x)) (must_go (family h) n) seen (λ x is. apart x.volume.volume (family h) (none_of (nat_eq x.volume.volume (family h)) (is_kept_read_only n x || is_kept_backup n x) is)));
    }

entry_fit : (e : Errand) (cause : Cause) (h : Hold) (seen : List Seen) (reply : Reply) → TurnIs Fits (entry_answered e cause h seen reply)
entry_fit e cause h seen (tell.Location (entries.GetEntryById n)) =
    let m : Mend = mend_of e cause h seen n in let k : ListsFit m m.copies m.others = settled_fit e cause h seen n in either (is_usable n) (takes_copies m m.copies) turns.Passes (takes_fit m m.copies k.copies_fit k) tt
entry_fit e cause h seen reply = tt

-- ---- every answer, every refusal, and the first question of an act

pub answered_fit : (n : ℕ) (e : Errand) (p : Place) (reply : Reply) → Fits p → RepliesAt n p reply → TurnIs Fits (answered e p reply)
answered_fit n e (places.Seeks cause) reply k told = seek_fit cause reply
answered_fit n e (places.Locks cause v) reply k told = lock_fit e cause reply
answered_fit n e (places.Frees h code first) reply k told = free_fit code reply
answered_fit n e (places.Creates f step) reply k told = create_is Fits f step reply (λ step. tt)
answered_fit n e (places.Adds h server) reply k told = add_fit h reply
answered_fit n e (places.Backs h step) reply k told = backup_is Fits h step reply (λ step. tt) tt
answered_fit n e (places.Dumps s step) reply k told = dump_is Fits s step reply (λ bytes step. tt) tt
answered_fit n e (places.Releases h step) reply k told = release_fit n h step reply told
answered_fit n e (places.Tours r step) reply k told = tour_fit r step reply k
answered_fit n e (places.Visits r s step) reply k told = visit_fit r s step reply k
answered_fit n e (places.Surveys h why s left seen) reply k told = survey_fit h why s left seen reply k
answered_fit n e (places.Plans h target) reply k told = plan_fit h target reply k
answered_fit n e (places.Moves m step) reply k told = move_is Fits m step reply (λ step. k) tt
answered_fit n e (places.Removes h seen step) reply k told = remove_is Fits h seen step reply (λ step. tt) (λ spot left step. tt)
answered_fit n e (places.Sweeps h spot left step) reply k told = sweep_is Fits h spot left step reply (λ spot left step. tt)
answered_fit n e (places.Asks cause h seen) reply k told = entry_fit e cause h seen reply
answered_fit n e (places.Mends m step) reply k told = mend_fit m step reply k.0 k.1

pub refused_fit : (p : Place) (code : Code) → Fits p → TurnIs Fits (refused p code)
refused_fit (places.Seeks cause) code k = seek_fails_is Fits cause code
refused_fit (places.Locks cause v) code k = seek_fails_is Fits cause code
refused_fit (places.Frees h ending first) code k = fails_is Fits first code (λ x. tt)
refused_fit (places.Creates f step) code k = create_refused_is Fits f step code (λ step. tt) (λ x. tt)
refused_fit (places.Adds h server) code k = fails_is Fits None code (λ x. tt)
refused_fit (places.Backs h step) code k = fails_is Fits None code (λ x. tt)
refused_fit (places.Dumps s step) code k = fails_is Fits None code (λ x. tt)
refused_fit (places.Releases h step) code k = fails_is Fits None code (λ x. tt)
refused_fit (places.Tours r step) code k = fails_is Fits r.first code (λ x. tt)
refused_fit (places.Visits r s step) code k = visit_refused_fit r s step code k
refused_fit (places.Surveys h why s left seen) code k = survey_refused_is Fits why code (λ x. tt)
refused_fit (places.Plans h target) code k = fails_is Fits None code (λ x. tt)
refused_fit (places.Moves m step) code k = fails_is Fits None code (λ x. tt)
refused_fit (places.Removes h seen step) code k = fails_is Fits None code (λ x. tt)
refused_fit (places.Sweeps h spot left step) code k = fails_is Fits None code (λ x. tt)
refused_fit (places.Asks cause h seen) code k = ends_is Fits cause code
refused_fit (places.Mends m step) code k = ends_is Fits m.cause code

creates_fit : (server : ℕ) (o : Option (List ℕ)) → TurnIs Fits (creates_from server o)
creates_fit server None = tt
creates_fit server (Some bytes) = tt

pub first_fit : (act : AdminAct) (held : Option (List ℕ)) → TurnIs Fits (begins_with act held)
first_fit (acts.Create name server quota) held = tt
first_fit (acts.Restore name server label) held = creates_fit server held
first_fit act held = tt
