-- Where an act asks to delete another volume than its family's own, or one that a server listed, it was told the transaction just before: for the
-- call by which it asked for one on that very volume.
use Rattle.std.proofs.Common.{◌≡◌, inl, inr, ℕ, ◌+◌, zero, suc, Bool, true, false, cond, List, [], ◌∷◌, ◌++◌, Option, Some, None, refl, sym, ap, subst, ◌∙◌, nat_eq, arith}
use Rattle.std.specs.Prelude.{map}
use Rattle.std.specs.List.{list_any}
use Rattle.afs_num.specs.declared.location_calls.LocReply.TheVariants as entries
use Rattle.afs_num.specs.declared.messages.Call.{Call}
use Rattle.afs_num.specs.declared.messages.Call.TheVariants as ask
use Rattle.afs_num.specs.declared.messages.Carried.{Carried}
use Rattle.afs_num.specs.declared.messages.Carried.TheVariants as carried
use Rattle.afs_num.specs.declared.messages.Message.{Message}
use Rattle.afs_num.specs.declared.messages.Reply.{Reply}
use Rattle.afs_num.specs.declared.messages.Reply.TheVariants as tell
use Rattle.afs_num.specs.declared.types.Code.{Code}
use Rattle.afs_num.specs.declared.types.Key.{Key}
use Rattle.afs_num.specs.declared.types.Node.TheVariants.{Admin, Server}
use Rattle.afs_num.specs.declared.volume_calls.VolCall.TheVariants as calls
use Rattle.afs_num.specs.declared.volume_calls.VolReply.TheVariants as volumes
use Rattle.spec_history.specs.declared.scripts.AdminAct.{AdminAct}
use Rattle.spec_history.specs.declared.scripts.AdminAct.TheVariants as acts
use Rattle.spec_history.specs.declared.scripts.Script.{Script}
use Rattle.spec_adminrows.specs.Acts.{answered, asks_at, begins_with, can_go_on, creates_from, free_answered, goes_on_locked, lock_answered, locked, refused, seek_answered}
use Rattle.spec_adminrows.specs.Asks.{all_servers, at_server, family, home, offline}
use Rattle.spec_adminrows.specs.Copying.{add_answered}
use Rattle.spec_adminrows.specs.Entries.{has_read_only_at, is_usable}
use Rattle.spec_adminrows.specs.Moving.{plan_answered}
use Rattle.spec_adminrows.specs.Recovering.{drops_others, entry_answered, mend_answered, mend_of, mended, opens_or_frees, takes_copies}
use Rattle.spec_adminrows.specs.Releasing.{goes_to, is_listed, release_answered, skips, tour_answered, visit_answered, visit_refused}
use Rattle.spec_adminrows.specs.Removing.{others_of, remove_answered, sweep_answered, sweeps}
use Rattle.spec_adminrows.specs.Surveying.{seen_by, survey_answered, surveys}
use Rattle.spec_adminrows.specs.Turns.{code_or, is_superseded, not_there}
use Rattle.spec_adminrows.specs.declared.places.Cause.{Cause}
use Rattle.spec_adminrows.specs.declared.places.Cause.TheVariants as causes
use Rattle.spec_adminrows.specs.declared.places.Hold.{Hold}
use Rattle.spec_adminrows.specs.declared.places.Mend.{Mend}
use Rattle.spec_adminrows.specs.declared.places.Mending.{Mending}
use Rattle.spec_adminrows.specs.declared.places.Mending.TheVariants as mending
use Rattle.spec_adminrows.specs.declared.places.Place.{Place}
use Rattle.spec_adminrows.specs.declared.places.Place.TheVariants as places
use Rattle.spec_adminrows.specs.declared.places.Purpose.{Purpose}
use Rattle.spec_adminrows.specs.declared.places.Purpose.TheVariants as purposes
use Rattle.spec_adminrows.specs.declared.places.Releasing.{Releasing}
use Rattle.spec_adminrows.specs.declared.places.Releasing.TheVariants as releasing
use Rattle.spec_adminrows.specs.declared.places.Removing.{Removing}
use Rattle.spec_adminrows.specs.declared.places.Removing.TheVariants as removing
use Rattle.spec_adminrows.specs.declared.places.Seen.{Seen}
use Rattle.spec_adminrows.specs.declared.places.Spot.{Spot}
use Rattle.spec_adminrows.specs.declared.places.Sweeping.{Sweeping}
use Rattle.spec_adminrows.specs.declared.places.Sweeping.TheVariants as sweeping
use Rattle.spec_adminrows.specs.declared.places.Tour.{Tour}
use Rattle.spec_adminrows.specs.declared.places.Touring.{Touring}
use Rattle.spec_adminrows.specs.declared.places.Touring.TheVariants as touring
use Rattle.spec_adminrows.specs.declared.places.Visiting.{Visiting}
use Rattle.spec_adminrows.specs.declared.places.Visiting.TheVariants as visiting
use Rattle.spec_adminrows.specs.declared.turns.Ask.{Ask}
use Rattle.spec_adminrows.specs.declared.turns.Errand.{Errand}
use Rattle.spec_adminrows.specs.declared.turns.Turn.{Turn}
use Rattle.spec_adminrows.specs.declared.turns.Turn.TheVariants as turns
use Rattle.spec_rows.specs.Runs.{message_at}
use Rattle.spec_runs.specs.NodeRuns.{node_start, CellInput, NodeCell}
use Rattle.law_walks.proofs.Places.{backup_is, create_is, create_refused_is, dump_is, ends_is, fails_is, move_is, seek_fails_is, survey_refused_is, TurnIs}
use Rattle.law_walks.proofs.Seats.{found_at}
use Rattle.law_places.specs.Accepting.{cell_behind}
use Rattle.law_keys.specs.Asked.{HasCall, WasAsked}
use Rattle.law_keys.specs.Replied.{is_told}
use Rattle.law_keys.proofs.Sending.{replies_called}
use Rattle.law_courses.specs.Courses.{ask_in, AreOnCourse, Course, Follows, IsOnCourse, Question, WasAnswered, Way}
use Rattle.law_courses.proofs.Continuing.{leads_is}
use Rattle.law_fences.specs.Claims.{WasSent, WasTold}
use Rattle.law_one_server.proofs.FencesOnCourse.{call_in, IsSome}

-- ---- which transaction is claimed

-- on which volume of which family, at which server, and under which stamp
pub record Claim : Type 0 where
  pub stamp : ℕ
  pub server : ℕ
  pub family : ℕ
  pub volume : ℕ
  pub transaction : ℕ

-- where a volume is deleted in the transaction that the call before asked for
abbrev pub claimed : Place → Option Claim
claimed (places.Tours r (touring.Dropped t)) = Some (record { stamp = r.hold.stamp; server = home r.hold; family = family r.hold; volume = r.clone; transaction = t })
claimed (places.Sweeps h spot left (sweeping.Deletes t)) = Some (record { stamp = h.stamp; server = spot.server; family = family h; volume = spot.volume; transaction = t })
claimed (places.Mends m (mending.Dropped spot t)) = Some (record { stamp = m.stamp; server = spot.server; family = m.volume; volume = spot.volume; transaction = t })
claimed p = None

-- what was asked for it, and what is asked in it
abbrev pub begin_ask : Claim → Ask
begin_ask x = at_server x.stamp x.server (calls.TransCreate x.family x.volume offline)

abbrev pub delete_ask : Claim → Ask
delete_ask x = at_server x.stamp x.server (calls.DeleteVolume x.family x.transaction)

some_claim : (x y : Claim) → Some x ≡ Some y → x ≡ y
some_claim x y e = cc

pub claim_asks : (e : Errand) (p : Place) (x : Claim) → claimed p ≡ Some x → asks_at e p ≡ delete_ask x
claim_asks e (places.Tours r (touring.Dropped t)) x is = ap delete_ask (some_claim _ x is)
claim_asks e (places.Sweeps h spot left (sweeping.Deletes t)) x is = ap delete_ask (some_claim _ x is)
claim_asks e (places.Mends m (mending.Dropped spot t)) x is = ap delete_ask (some_claim _ x is)
claim_asks e p x is = absurd cc

-- ---- what leads there

-- if the place claims so, then the one before asked for it, and was told it
abbrev IsBegun : Ask → Reply → Claim → Type 0
IsBegun q reply x = (q ≡ begin_ask x) × (reply ≡ tell.Volume (volumes.TransCreate x.transaction))

module _ (q : Ask) (reply : Reply) where
  abbrev Only : Place → Type 0
  Only p = (x : Claim) → claimed p ≡ Some x → IsBegun q reply x

  none_only : (x : Claim) → None ≡ Some x → IsBegun q reply x
  none_only x is = absurd cc

  either : (b : Bool) (x y : Turn) → TurnIs Only x → TurnIs Only y → TurnIs Only (cond b x y)
  either true x y j k = j
  either false x y j k = k

  survey_on : (h : Hold) (why : Purpose) (left : List ℕ) (seen : List Seen) → TurnIs Only (surveys h why left seen)
  survey_on h (purposes.Moves target) [] seen = none_only
  survey_on h purposes.Removes [] seen = none_only
  survey_on h (purposes.Mends cause) [] seen = none_only
  survey_on h why (s ∷ left) seen = none_only

  goes_only : (e : Errand) (h : Hold) (act : AdminAct) → TurnIs Only (goes_on_locked e h act)
  goes_only e h (acts.Create name server quota) = tt
  goes_only e h (acts.Restore name server label) = tt
  goes_only e h (acts.AddSite name server) = either (has_read_only_at server h.entry) _ _ none_only none_only
  goes_only e h (acts.Backup name) = none_only
  goes_only e h (acts.Release name) = none_only
  goes_only e h (acts.Move name server) = either (nat_eq server (home h)) _ _ none_only (survey_on h (purposes.Moves server) (all_servers e) [])
  goes_only e h (acts.Dump name label from) = none_only
  goes_only e h (acts.Remove name) = survey_on h purposes.Removes (all_servers e) []
  goes_only e h (acts.Recover name) = survey_on h (purposes.Mends causes.Asked) (all_servers e) []

  locked_only : (e : Errand) (h : Hold) (cause : Cause) → TurnIs Only (locked e h cause)
  locked_only e h causes.Asked = goes_only e h e.act
  locked_only e h (causes.After code) = survey_on h (purposes.Mends (causes.After code)) (all_servers e) []

  lock_only : (e : Errand) (cause : Cause) (r : Reply) → TurnIs Only (lock_answered e cause r)
  lock_only e cause (tell.Location (entries.SetLock stamp n)) = either (can_go_on e n) _ turns.Passes (locked_only e (record { entry = n; stamp = stamp }) cause) tt
  lock_only e cause r = tt

  seek_only : (cause : Cause) (r : Reply) → TurnIs Only (seek_answered cause r)
  seek_only cause (tell.Location (entries.GetEntryByName n)) = none_only
  seek_only cause r = tt

  free_only : (code : Code) (r : Reply) → TurnIs Only (free_answered code r)
  free_only code (tell.Location entries.ReleaseLock) = tt
  free_only code r = tt

  add_only : (h : Hold) (r : Reply) → TurnIs Only (add_answered h r)
  add_only h (tell.Location entries.ReplaceEntry) = none_only
  add_only h r = tt

  plan_only : (h : Hold) (target : ℕ) (r : Reply) → TurnIs Only (plan_answered h target r)
  plan_only h target (tell.Location (entries.GetNewVolumeId x)) = none_only
  plan_only h target r = tt

  survey_only : (h : Hold) (why : Purpose) (s : ℕ) (left : List ℕ) (seen : List Seen) (r : Reply) → TurnIs Only (survey_answered h why s left seen r)
  survey_only h why s left seen (tell.Volume (volumes.ListVols ls)) = survey_on h why left (seen ++ map (seen_by s) ls)
  survey_only h why s left seen r = tt

  release_only : (h : Hold) (step : Releasing) (r : Reply) → TurnIs Only (release_answered h step r)
  release_only h releasing.Stamps (tell.Volume (volumes.ListVols ls)) = either (nat_eq h.entry.read_only 0) _ _ none_only none_only
  release_only h releasing.Numbers (tell.Location (entries.GetNewVolumeId ro)) = none_only
  release_only h (releasing.NumbersClone ro) (tell.Location (entries.GetNewVolumeId x)) = none_only
  release_only h step r = tt

  to_only : (r : Tour) (left : List ℕ) → TurnIs Only (goes_to r left)
  to_only r [] = none_only
  to_only r (s ∷ left) = none_only

  skips_only : (r : Tour) (code : Code) → TurnIs Only (skips r code)
  skips_only r code = to_only (record r { first = Some (code_or code r.first) }) r.left

  visit_only : (r : Tour) (s : ℕ) (step : Visiting) (x : Reply) → TurnIs Only (visit_answered r s step x)
  visit_only r s visiting.Stamps (tell.Volume (volumes.ListVols ls)) = either (list_any (is_listed r.read_only) ls) _ _ none_only none_only
  visit_only r s visiting.Takes (tell.Volume (volumes.TransCreate t)) = none_only
  visit_only r s visiting.Makes (tell.Volume (volumes.CreateVolume t)) = none_only
  visit_only r s (visiting.Opens t) (tell.Volume (volumes.TransCreate x)) = none_only
  visit_only r s (visiting.Sends t x) (tell.Volume volumes.Forward) = none_only
  visit_only r s (visiting.Closes t x) (tell.Volume volumes.EndTrans) = none_only
  visit_only r s (visiting.Sets t) (tell.Volume volumes.SetFlags) = none_only
  visit_only r s (visiting.Ends t) (tell.Volume volumes.EndTrans) = to_only (record r { reached = r.reached ++ s ∷ [] }) r.left
  visit_only r s (visiting.Leaves code x) (tell.Volume volumes.EndTrans) = skips_only r code
  visit_only r s step x = tt

  visit_refused_only : (r : Tour) (s : ℕ) (step : Visiting) (code : Code) → TurnIs Only (visit_refused r s step code)
  visit_refused_only r s (visiting.Sends t x) code = either (is_superseded code) (turns.Ends code) _ tt none_only
  visit_refused_only r s (visiting.Leaves first x) code = either (is_superseded code) (turns.Ends code) _ tt (skips_only r first)
  visit_refused_only r s step code = either (is_superseded code) (turns.Ends code) _ tt (skips_only r code)

  sweeps_only : (h : Hold) (spots : List Spot) → TurnIs Only (sweeps h spots)
  sweeps_only h [] = tt
  sweeps_only h (spot ∷ left) = none_only

  remove_only : (h : Hold) (seen : List Seen) (step : Removing) (r : Reply) → TurnIs Only (remove_answered h seen step r)
  remove_only h seen removing.Begins (tell.Volume (volumes.TransCreate t)) = none_only
  remove_only h seen (removing.Fences t) (tell.Volume volumes.SetFlags) = none_only
  remove_only h seen (removing.Decides t) (tell.Location entries.DeleteEntry) = none_only
  remove_only h seen (removing.Deletes t) (tell.Volume volumes.DeleteVolume) = sweeps_only h (others_of h seen)
  remove_only h seen step r = tt

  opens_only : (m : Mend) (o : Option ℕ) → TurnIs Only (opens_or_frees m o)
  opens_only m None = ends_is Only m.cause not_there
  opens_only m (Some zero) = none_only
  opens_only m (Some (suc n)) = none_only

  drops_only : (m : Mend) (spots : List Spot) → TurnIs Only (drops_others m spots)
  drops_only m [] = opens_only m m.flags
  drops_only m (spot ∷ left) = none_only

  takes_only : (m : Mend) (copies : List ℕ) → TurnIs Only (takes_copies m copies)
  takes_only m [] = drops_only m m.others
  takes_only m (s ∷ left) = none_only

  mended_only : (cause : Cause) → TurnIs Only (mended cause)
  mended_only causes.Asked = tt
  mended_only (causes.After code) = tt

  entry_only : (e : Errand) (cause : Cause) (h : Hold) (seen : List Seen) (r : Reply) → TurnIs Only (entry_answered e cause h seen r)
  entry_only e cause h seen (tell.Location (entries.GetEntryById n)) = let m : Mend = mend_of e cause h seen n in either (is_usable n) (takes_copies m m.copies) turns.Passes (takes_only m m.copies) tt
  entry_only e cause h seen r = tt

  creates_only : (server : ℕ) (o : Option (List ℕ)) → TurnIs Only (creates_from server o)
  creates_only server None = tt
  creates_only server (Some bytes) = none_only

  -- no act begins there
  first_only : (act : AdminAct) (held : Option (List ℕ)) → TurnIs Only (begins_with act held)
  first_only (acts.Create name server quota) held = none_only
  first_only (acts.Restore name server label) held = creates_only server held
  first_only act held = none_only

  -- and no refusal leads there
  refused_only : (p : Place) (code : Code) → TurnIs Only (refused p code)
  refused_only (places.Seeks cause) code = seek_fails_is Only cause code
  refused_only (places.Locks cause v) code = seek_fails_is Only cause code
  refused_only (places.Frees h ending first) code = fails_is Only first code (λ c. none_only)
  refused_only (places.Creates f step) code = create_refused_is Only f step code (λ step. none_only) (λ c. none_only)
  refused_only (places.Adds h server) code = fails_is Only None code (λ c. none_only)
  refused_only (places.Backs h step) code = fails_is Only None code (λ c. none_only)
  refused_only (places.Dumps s step) code = fails_is Only None code (λ c. none_only)
  refused_only (places.Releases h step) code = fails_is Only None code (λ c. none_only)
  refused_only (places.Tours r step) code = fails_is Only r.first code (λ c. none_only)
  refused_only (places.Visits r s step) code = visit_refused_only r s step code
  refused_only (places.Surveys h why s left seen) code = survey_refused_is Only why code (λ c. none_only)
  refused_only (places.Plans h target) code = fails_is Only None code (λ c. none_only)
  refused_only (places.Moves m step) code = fails_is Only None code (λ c. none_only)
  refused_only (places.Removes h seen step) code = fails_is Only None code (λ c. none_only)
  refused_only (places.Sweeps h spot left step) code = fails_is Only None code (λ c. none_only)
  refused_only (places.Asks cause h seen) code = ends_is Only cause code
  refused_only (places.Mends m step) code = ends_is Only m.cause code

-- the three that do
its_ask : (x y : Claim) (t : ℕ) → Some x ≡ Some y → x.transaction ≡ t → IsBegun (begin_ask x) (tell.Volume (volumes.TransCreate t)) y
its_ask x y t is same =
    let one : x ≡ y = some_claim x y is in
    (ap begin_ask one, ap (λ (k : ℕ). tell.Volume (volumes.TransCreate k)) (sym same ∙ ap (λ (z : Claim). z.transaction) one))

tour_before : (e : Errand) (r : Tour) (step : Touring) (reply : Reply) → TurnIs (Only (asks_at e (places.Tours r step)) reply) (tour_answered r step reply)
tour_before e r touring.Begins (tell.Volume (volumes.TransCreate t)) = none_only _ _
tour_before e r (touring.Clones t) (tell.Volume (volumes.Clone counter release)) = none_only _ _
tour_before e r (touring.Cloned t) (tell.Volume volumes.EndTrans) = to_only _ _ r r.left
tour_before e r touring.Drops (tell.Volume (volumes.TransCreate t)) = λ x is. its_ask (record { stamp = r.hold.stamp; server = home r.hold; family = family r.hold; volume = r.clone; transaction = t }) x t is refl
tour_before e r (touring.Dropped t) (tell.Volume volumes.DeleteVolume) = none_only _ _
tour_before e r touring.Writes (tell.Location entries.ReplaceEntry) = none_only _ _
tour_before e r step reply = tt

sweep_before : (e : Errand) (h : Hold) (spot : Spot) (left : List Spot) (step : Sweeping) (reply : Reply) → TurnIs (Only (asks_at e (places.Sweeps h spot left step)) reply) (sweep_answered h spot left step reply)
sweep_before e h spot left sweeping.Begins (tell.Volume (volumes.TransCreate t)) = λ x is. its_ask (record { stamp = h.stamp; server = spot.server; family = family h; volume = spot.volume; transaction = t }) x t is refl
sweep_before e h spot left (sweeping.Deletes t) (tell.Volume volumes.DeleteVolume) = sweeps_only _ _ h left
sweep_before e h spot left step reply = tt

mend_before : (e : Errand) (m : Mend) (step : Mending) (reply : Reply) → TurnIs (Only (asks_at e (places.Mends m step)) reply) (mend_answered m step reply)
mend_before e m (mending.Takes s) (tell.Volume (volumes.TransCreate t)) = none_only _ _
mend_before e m (mending.Points s t) (tell.Volume volumes.SetForwarding) = none_only _ _
mend_before e m (mending.Deletes s t) (tell.Volume volumes.DeleteVolume) = takes_only _ _ m m.copies
mend_before e m (mending.Drops spot) (tell.Volume (volumes.TransCreate t)) = λ x is. its_ask (record { stamp = m.stamp; server = spot.server; family = m.volume; volume = spot.volume; transaction = t }) x t is refl
mend_before e m (mending.Dropped spot t) (tell.Volume volumes.DeleteVolume) = takes_only _ _ m m.copies
mend_before e m mending.Begins (tell.Volume (volumes.TransCreate t)) = none_only _ _
mend_before e m (mending.Opens t) (tell.Volume volumes.SetFlags) = none_only _ _
mend_before e m (mending.Ends t) (tell.Volume volumes.EndTrans) = none_only _ _
mend_before e m mending.Frees (tell.Location entries.ReleaseLock) = mended_only _ _ m.cause
mend_before e m step reply = tt

answered_before : (e : Errand) (p : Place) (reply : Reply) → TurnIs (Only (asks_at e p) reply) (answered e p reply)
answered_before e (places.Seeks cause) reply = seek_only _ reply cause reply
answered_before e (places.Locks cause v) reply = lock_only _ reply e cause reply
answered_before e (places.Frees h code first) reply = free_only _ reply code reply
answered_before e (places.Creates f step) reply = create_is _ f step reply (λ step. none_only _ reply)
answered_before e (places.Adds h server) reply = add_only _ reply h reply
answered_before e (places.Backs h step) reply = backup_is _ h step reply (λ step. none_only _ reply) (none_only _ reply)
answered_before e (places.Dumps s step) reply = dump_is _ s step reply (λ bytes step. none_only _ reply) (none_only _ reply)
answered_before e (places.Releases h step) reply = release_only _ reply h step reply
answered_before e (places.Tours r step) reply = tour_before e r step reply
answered_before e (places.Visits r s step) reply = visit_only _ reply r s step reply
answered_before e (places.Surveys h why s left seen) reply = survey_only _ reply h why s left seen reply
answered_before e (places.Plans h target) reply = plan_only _ reply h target reply
answered_before e (places.Moves m step) reply = move_is _ m step reply (λ step. none_only _ reply) (none_only _ reply)
answered_before e (places.Removes h seen step) reply = remove_only _ reply h seen step reply
answered_before e (places.Sweeps h spot left step) reply = sweep_before e h spot left step reply
answered_before e (places.Asks cause h seen) reply = entry_only _ reply e cause h seen reply
answered_before e (places.Mends m step) reply = mend_before e m step reply

-- ---- on its course

-- the question before it, how that was answered, and by which message
record IsBefore (sent : List Message) (n epoch number : ℕ) (x : Claim) (before q : Question) : Type 0 where
  answered' : WasAnswered sent n epoch number before q
  asked : ask_in before ≡ begin_ask x
  says : answered'.reply ≡ tell.Volume (volumes.TransCreate x.transaction)

abbrev Never : Claim → Place → Type 0
Never x p = claimed p ≡ Some x → ⊥

-- of a first question, and behind a refusal, there is no such call before: so none is claimed
not_told : (q : Ask) (x : Claim) → IsBegun q (tell.Location entries.ReleaseLock) x → ⊥
not_told q x h = let e : tell.Location entries.ReleaseLock ≡ tell.Volume (volumes.TransCreate x.transaction) = h.1 in absurd cc

before_claim : (sent : List Message) (n epoch number : ℕ) (x : Claim) (before q : Question) → Follows sent n epoch number before q → claimed q.place ≡ Some x → IsBefore sent n epoch number x before q
before_claim sent n epoch number x before q (inl begun) at =
    absurd (not_told (begin_ask x) x (leads_is (Only (begin_ask x) (tell.Location entries.ReleaseLock)) q.place (begins_with q.errand.act begun.0) (first_only (begin_ask x) (tell.Location entries.ReleaseLock) q.errand.act begun.0) begun.1 x at))
before_claim sent n epoch number x before q (inr (inl w)) at =
    let z : IsBegun (ask_in before) w.reply x = leads_is (Only (ask_in before) w.reply) q.place (answered before.errand before.place w.reply) (answered_before before.errand before.place w.reply) w.leads x at in
    record { answered' = w; asked = z.0; says = z.1 }
before_claim sent n epoch number x before q (inr (inr w)) at =
    absurd (not_told (begin_ask x) x (leads_is (Only (begin_ask x) (tell.Location entries.ReleaseLock)) q.place (refused before.place w.code) (refused_only (begin_ask x) (tell.Location entries.ReleaseLock) before.place w.code) w.leads x at))

told_so : (c : Carried) (reply : Reply) (t : ℕ) → c ≡ carried.Reply reply → reply ≡ tell.Volume (volumes.TransCreate t) → is_told c ≡ true
told_so c reply t is says = ap is_told (is ∙ ap carried.Reply says)

module _ (s : Script) (inputs : List CellInput) (course : Course) (on : AreOnCourse course (cell_behind (node_start s) inputs)) where
  abbrev c : NodeCell
  c = cell_behind (node_start s) inputs

  -- an administrator's call that is at the question of this number
  module _ (place n epoch number : ℕ) (m : Message) (user : List ℕ) (call : Call) (at : message_at c.sent place ≡ Some m) (from : m.head.from ≡ Admin n) (is : m.carried ≡ carried.Call user call) (in_epoch : m.head.epoch ≡ epoch) (of_number : m.head.number ≡ number) where
    on_course : IsOnCourse course c.sent n (c.admins n) m.head call
    on_course = on.calls place n m user call at from is

    its_question : course n m.head.epoch m.head.number ≡ course n epoch number
    its_question = ap (λ (e : ℕ). course n e m.head.number) in_epoch ∙ ap (course n epoch) of_number

    its_way : Way course c.sent n epoch number
    its_way = subst (λ (k : ℕ). Way course c.sent n epoch k) of_number (subst (λ (e : ℕ). Way course c.sent n e m.head.number) in_epoch on_course.way)

    -- where that asks so
    module _ (q : Ask) (asks : ask_in (course n epoch number) ≡ q) where
      it_asks : ask_in (course n m.head.epoch m.head.number) ≡ q
      it_asks = ap ask_in its_question ∙ asks

      its_call : q.call ≡ call
      its_call = sym (ap (λ (a : Ask). a.call) it_asks) ∙ on_course.asks

      its_stamp : m.head.stamp ≡ q.stamp
      its_stamp = on_course.stamp ∙ ap (λ (a : Ask). a.stamp) it_asks

      its_callee : m.head.to ≡ q.callee
      its_callee = on_course.callee ∙ ap (λ (a : Ask). a.callee) it_asks

  -- the call for the transaction, and its answer
  told_before : (n epoch number : ℕ) (x : Claim) (q : Question) → IsBefore c.sent n epoch number x (course n epoch number) q → WasTold c n x.server epoch number x.transaction x.volume x.family x.stamp
  told_before n epoch number x q b =
      let w = b.answered' in
      let told : is_told w.m.carried ≡ true = told_so w.m.carried w.reply x.transaction w.says b.says in
      let y : WasAsked c w.m = found_at (HasCall c) w.place c.sent w.m (replies_called s inputs).sent w.there told in
      let z : IsSome y.call.carried = call_in y.call.carried y.is_call in
      let from : y.call.head.from ≡ Admin n = ap (λ (k : Key). k.node) y.key ∙ w.to in
      let in_epoch : y.call.head.epoch ≡ epoch = ap (λ (k : Key). k.epoch) y.key ∙ w.in_epoch in
      let of_number : y.call.head.number ≡ number = ap (λ (k : Key). k.number) y.key ∙ w.of_number in
      let its : ask.Volume (calls.TransCreate x.family x.volume offline) ≡ z.call = its_call y.place n epoch number y.call z.user z.call y.at from z.is in_epoch of_number (begin_ask x) b.asked in
      let of_server : w.m.head.from ≡ Server x.server = w.callee ∙ ap (λ (a : Ask). a.callee) b.asked in
      record {
        call = y.call;
        asked = record {
          place = y.place;
          at = y.at;
          from = from;
          to = y.to ∙ of_server;
          in_epoch = in_epoch;
          of_number = of_number;
          under = its_stamp y.place n epoch number y.call z.user z.call y.at from z.is in_epoch of_number (begin_ask x) b.asked;
        };
        for_one = record { user = z.user; call = calls.TransCreate x.family x.volume offline; asks = z.is ∙ ap (carried.Call z.user) (sym its); begins = (refl, refl) };
        place = w.place;
        reply = w.m;
        at = w.there;
        from = of_server;
        to = w.to;
        in_epoch = w.in_epoch;
        of_number = w.of_number;
        tells = inl (w.says ∙ ap carried.Reply b.says);
      }

  -- A call at such a place on its course: the transaction was told, and it is the next call, under the same stamp.
  pub record IsClaim (n epoch number : ℕ) (x : Claim) (m : Message) : Type 0 where
    pub told : WasTold c n x.server epoch number x.transaction x.volume x.family x.stamp
    pub sent : WasSent c n x.server epoch (number + 1) x.stamp m

  pub claim_of : (place n number : ℕ) (x : Claim) (m : Message) (user : List ℕ) (call : Call) → message_at c.sent place ≡ Some m → m.head.from ≡ Admin n → m.carried ≡ carried.Call user call → m.head.number ≡ suc number →
      claimed (course n m.head.epoch (suc number)).place ≡ Some x → IsClaim n m.head.epoch number x m
  claim_of place n number x m user call at from is of_number claims =
      let e : ℕ = m.head.epoch in
      let q : Question = course n e (suc number) in
      let asks : ask_in q ≡ delete_ask x = claim_asks q.errand q.place x claims in
      let way : Way course c.sent n e (suc number) = its_way place n e (suc number) m user call at from is refl of_number in
      record {
        told = told_before n e number x q (before_claim c.sent n e number x (course n e number) q way.0 claims);
        sent = record {
          place = place;
          at = at;
          from = from;
          to = its_callee place n e (suc number) m user call at from is refl of_number (delete_ask x) asks;
          in_epoch = refl;
          of_number = of_number ∙ one_more number;
          under = its_stamp place n e (suc number) m user call at from is refl of_number (delete_ask x) asks;
        };
      }
    where
      one_more : (k : ℕ) → suc k ≡ k + 1
      one_more k = omega (arith)
