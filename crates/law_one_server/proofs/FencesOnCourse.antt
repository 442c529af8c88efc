-- A fence on the course of an administrator's acts: it was asked behind the answer to the call for a transaction on the family's own volume.
use Rattle.std.proofs.Common.{◌≡◌, ◌⊎◌, inl, inr, ℕ, ◌+◌, zero, suc, Bool, true, false, cond, List, [], ◌∷◌, ◌++◌, Option, Some, None, refl, sym, ap, subst, ◌∙◌, nat_eq, arith}
use Rattle.std.specs.Prelude.{⊤, map}
use Rattle.afs_num.specs.declared.location_calls.LocReply.TheVariants as entries
use Rattle.afs_num.specs.declared.messages.Call.{Call}
use Rattle.afs_num.specs.declared.messages.Call.TheVariants as ask
use Rattle.afs_num.specs.declared.messages.Carried.{Carried}
use Rattle.afs_num.specs.declared.messages.Carried.TheVariants as carried
use Rattle.afs_num.specs.declared.messages.Message.{Message}
use Rattle.afs_num.specs.declared.messages.Reply.{Reply}
use Rattle.afs_num.specs.declared.messages.Reply.TheVariants as tell
use Rattle.afs_num.specs.declared.types.Code.{Code}
use Rattle.afs_num.specs.declared.types.Key.{Key}
use Rattle.afs_num.specs.declared.types.Node.{Node}
use Rattle.afs_num.specs.declared.types.Node.TheVariants.{Admin, Server}
use Rattle.afs_num.specs.declared.volume_calls.VolCall.TheVariants as calls
use Rattle.afs_num.specs.declared.volume_calls.VolReply.TheVariants as volumes
use Rattle.spec_history.specs.declared.scripts.AdminAct.{AdminAct}
use Rattle.spec_history.specs.declared.scripts.AdminAct.TheVariants as acts
use Rattle.spec_history.specs.declared.scripts.Script.{Script}
use Rattle.spec_adminrows.specs.Acts.{answered, asks_at, begins_with, can_go_on, creates_from, free_answered, goes_on_locked, lock_answered, locked, refused, seek_answered}
use Rattle.spec_adminrows.specs.Asks.{all_servers, at_home, closed, family, home, offline}
use Rattle.spec_adminrows.specs.Copying.{add_answered}
use Rattle.spec_adminrows.specs.Entries.{has_read_only_at, is_usable}
use Rattle.spec_adminrows.specs.Moving.{move_answered, plan_answered}
use Rattle.spec_adminrows.specs.Recovering.{entry_answered, mend_of, takes_copies}
use Rattle.spec_adminrows.specs.Releasing.{release_answered}
use Rattle.spec_adminrows.specs.Removing.{others_of, remove_answered, sweeps}
use Rattle.spec_adminrows.specs.Surveying.{seen_by, survey_answered, surveyed, surveys}
use Rattle.spec_adminrows.specs.declared.places.Cause.{Cause}
use Rattle.spec_adminrows.specs.declared.places.Cause.TheVariants as causes
use Rattle.spec_adminrows.specs.declared.places.Hold.{Hold}
use Rattle.spec_adminrows.specs.declared.places.Mend.{Mend}
use Rattle.spec_adminrows.specs.declared.places.Moving.{Moving}
use Rattle.spec_adminrows.specs.declared.places.Moving.TheVariants as moving
use Rattle.spec_adminrows.specs.declared.places.Place.{Place}
use Rattle.spec_adminrows.specs.declared.places.Place.TheVariants as places
use Rattle.spec_adminrows.specs.declared.places.Purpose.{Purpose}
use Rattle.spec_adminrows.specs.declared.places.Purpose.TheVariants as purposes
use Rattle.spec_adminrows.specs.declared.places.Releasing.{Releasing}
use Rattle.spec_adminrows.specs.declared.places.Releasing.TheVariants as releasing
use Rattle.spec_adminrows.specs.declared.places.Removing.{Removing}
use Rattle.spec_adminrows.specs.declared.places.Removing.TheVariants as removing
use Rattle.spec_adminrows.specs.declared.places.Seen.{Seen}
use Rattle.spec_adminrows.specs.declared.places.Spot.{Spot}
use Rattle.spec_adminrows.specs.declared.places.Trip.{Trip}
use Rattle.spec_adminrows.specs.declared.turns.Ask.{Ask}
use Rattle.spec_adminrows.specs.declared.turns.Errand.{Errand}
use Rattle.spec_adminrows.specs.declared.turns.Turn.{Turn}
use Rattle.spec_adminrows.specs.declared.turns.Turn.TheVariants as turns
use Rattle.spec_rows.specs.Runs.{message_at}
use Rattle.spec_runs.specs.NodeRuns.{node_start, CellInput, NodeCell}
use Rattle.law_walks.proofs.Places.{backup_is, create_is, create_refused_is, dump_is, ends_is, fails_is, mend_is, seek_fails_is, survey_refused_is, sweep_is, takes_is, tour_is, visit_is, visit_refused_is, TurnIs}
use Rattle.law_walks.proofs.Seats.{found_at}
use Rattle.law_places.specs.Accepting.{cell_behind}
use Rattle.law_legal.specs.Past.{answered_key}
use Rattle.spec_model.specs.Calls.{key_of}
use Rattle.law_keys.specs.Asked.{HasCall, IsCall, WasAsked}
use Rattle.law_keys.specs.Replied.{is_told}
use Rattle.law_keys.proofs.Sending.{replies_called}
use Rattle.law_courses.specs.Courses.{ask_in, course_in, AreOnCourse, Begins, Course, Follows, IsOnCourse, LeadsTo, Question, WasAnswered, WasRefused, Way}
use Rattle.law_courses.proofs.Continuing.{leads_is}
use Rattle.law_fences.specs.Claims.{IsForOne, WasSent, WasTold}
use Rattle.law_fences.specs.Fences.{IsFence}

-- ---- at the fence, and at the call before it

-- a move or a removal with this hold is at its fence, in the transaction of this number
abbrev pub FenceAt : Hold → ℕ → Place → Type 0
FenceAt h t (places.Moves m (moving.Fences counter new old)) = (m.hold ≡ h) × (old ≡ t)
FenceAt h t (places.Removes k seen (removing.Fences old)) = (k ≡ h) × (old ≡ t)
FenceAt h t p = ⊥

-- it asks for that transaction
abbrev pub HoldsAt : Hold → Place → Type 0
HoldsAt h (places.Moves m (moving.Holds counter new)) = m.hold ≡ h
HoldsAt h (places.Removes k seen removing.Begins) = k ≡ h
HoldsAt h p = ⊥

abbrev fence_ask : Hold → ℕ → Ask
fence_ask h t = at_home h (calls.SetFlags (family h) t closed)

abbrev hold_ask : Hold → Ask
hold_ask h = at_home h (calls.TransCreate (family h) (family h) offline)

fence_asks : (e : Errand) (p : Place) (h : Hold) (t : ℕ) → FenceAt h t p → asks_at e p ≡ fence_ask h t
fence_asks e (places.Moves m (moving.Fences counter new old)) h t x = ap (λ (k : Hold). fence_ask k old) x.0 ∙ ap (fence_ask h) x.1
fence_asks e (places.Removes k seen (removing.Fences old)) h t x = ap (λ (j : Hold). fence_ask j old) x.0 ∙ ap (fence_ask h) x.1
fence_asks e p h t x = absurd x

hold_asks : (e : Errand) (p : Place) (h : Hold) → HoldsAt h p → asks_at e p ≡ hold_ask h
hold_asks e (places.Moves m (moving.Holds counter new)) h x = ap hold_ask x
hold_asks e (places.Removes k seen removing.Begins) h x = ap hold_ask x
hold_asks e p h x = absurd x

-- ---- what leads to the fence

module _ (h : Hold) (t : ℕ) (A : Type 0) where
  -- if the place is the fence, then A
  abbrev Only : Place → Type 0
  Only p = FenceAt h t p → A

  either : (b : Bool) (x y : Turn) → TurnIs Only x → TurnIs Only y → TurnIs Only (cond b x y)
  either true x y j k = j
  either false x y j k = k

  survey_on : (k : Hold) (why : Purpose) (left : List ℕ) (seen : List Seen) → TurnIs Only (surveys k why left seen)
  survey_on k (purposes.Moves target) [] seen = λ x. absurd x
  survey_on k purposes.Removes [] seen = λ x. absurd x
  survey_on k (purposes.Mends c) [] seen = λ x. absurd x
  survey_on k why (s ∷ left) seen = λ x. absurd x

  goes_only : (e : Errand) (k : Hold) (act : AdminAct) → TurnIs Only (goes_on_locked e k act)
  goes_only e k (acts.Create name server quota) = tt
  goes_only e k (acts.Restore name server label) = tt
  goes_only e k (acts.AddSite name server) = either (has_read_only_at server k.entry) _ _ (λ x. absurd x) (λ x. absurd x)
  goes_only e k (acts.Backup name) = λ x. absurd x
  goes_only e k (acts.Release name) = λ x. absurd x
  goes_only e k (acts.Move name server) = either (nat_eq server (home k)) _ _ (λ x. absurd x) (survey_on k (purposes.Moves server) (all_servers e) [])
  goes_only e k (acts.Dump name label from) = λ x. absurd x
  goes_only e k (acts.Remove name) = survey_on k purposes.Removes (all_servers e) []
  goes_only e k (acts.Recover name) = survey_on k (purposes.Mends causes.Asked) (all_servers e) []

  locked_only : (e : Errand) (k : Hold) (c : Cause) → TurnIs Only (locked e k c)
  locked_only e k causes.Asked = goes_only e k e.act
  locked_only e k (causes.After code) = survey_on k (purposes.Mends (causes.After code)) (all_servers e) []

  seek_only : (c : Cause) (reply : Reply) → TurnIs Only (seek_answered c reply)
  seek_only c (tell.Location (entries.GetEntryByName n)) = λ x. absurd x
  seek_only c reply = tt

  lock_only : (e : Errand) (c : Cause) (reply : Reply) → TurnIs Only (lock_answered e c reply)
  lock_only e c (tell.Location (entries.SetLock stamp n)) = either (can_go_on e n) (locked e (record { entry = n; stamp = stamp }) c) turns.Passes (locked_only e (record { entry = n; stamp = stamp }) c) tt
  lock_only e c reply = tt

  free_only : (code : Code) (reply : Reply) → TurnIs Only (free_answered code reply)
  free_only code (tell.Location entries.ReleaseLock) = tt
  free_only code reply = tt

  add_only : (k : Hold) (reply : Reply) → TurnIs Only (add_answered k reply)
  add_only k (tell.Location entries.ReplaceEntry) = λ x. absurd x
  add_only k reply = tt

  plan_only : (k : Hold) (target : ℕ) (reply : Reply) → TurnIs Only (plan_answered k target reply)
  plan_only k target (tell.Location (entries.GetNewVolumeId n)) = λ x. absurd x
  plan_only k target reply = tt

  release_only : (k : Hold) (step : Releasing) (reply : Reply) → TurnIs Only (release_answered k step reply)
  release_only k releasing.Stamps (tell.Volume (volumes.ListVols ls)) = either (nat_eq k.entry.read_only 0) _ _ (λ x. absurd x) (λ x. absurd x)
  release_only k releasing.Numbers (tell.Location (entries.GetNewVolumeId ro)) = λ x. absurd x
  release_only k (releasing.NumbersClone ro) (tell.Location (entries.GetNewVolumeId n)) = λ x. absurd x
  release_only k step r = tt

  survey_only : (k : Hold) (why : Purpose) (s : ℕ) (left : List ℕ) (seen : List Seen) (reply : Reply) → TurnIs Only (survey_answered k why s left seen reply)
  survey_only k why s left seen (tell.Volume (volumes.ListVols ls)) = survey_on k why left (seen ++ map (seen_by s) ls)
  survey_only k why s left seen reply = tt

  entry_only : (e : Errand) (c : Cause) (k : Hold) (seen : List Seen) (reply : Reply) → TurnIs Only (entry_answered e c k seen reply)
  entry_only e c k seen (tell.Location (entries.GetEntryById n)) =
      let m : Mend = mend_of e c k seen n in either (is_usable n) (takes_copies m m.copies) turns.Passes (takes_is Only m m.copies (λ copies others step x. absurd x)) tt
  entry_only e c k seen reply = tt

  creates_only : (server : ℕ) (o : Option (List ℕ)) → TurnIs Only (creates_from server o)
  creates_only server None = tt
  creates_only server (Some bytes) = λ x. absurd x

  -- no act begins there
  first_only : (act : AdminAct) (held : Option (List ℕ)) → TurnIs Only (begins_with act held)
  first_only (acts.Create name server quota) held = λ x. absurd x
  first_only (acts.Restore name server label) held = creates_only server held
  first_only act held = λ x. absurd x

  -- and no refusal leads there
  refused_only : (p : Place) (code : Code) → TurnIs Only (refused p code)
  refused_only (places.Seeks c) code = seek_fails_is Only c code
  refused_only (places.Locks c v) code = seek_fails_is Only c code
  refused_only (places.Frees k ending first) code = fails_is Only first code (λ c x. absurd x)
  refused_only (places.Creates f step) code = create_refused_is Only f step code (λ step x. absurd x) (λ c x. absurd x)
  refused_only (places.Adds k server) code = fails_is Only None code (λ c x. absurd x)
  refused_only (places.Backs k step) code = fails_is Only None code (λ c x. absurd x)
  refused_only (places.Dumps s step) code = fails_is Only None code (λ c x. absurd x)
  refused_only (places.Releases k step) code = fails_is Only None code (λ c x. absurd x)
  refused_only (places.Tours r step) code = fails_is Only r.first code (λ c x. absurd x)
  refused_only (places.Visits r s step) code = visit_refused_is Only r s step code (λ q same step x. absurd x) (λ q same s step x. absurd x)
  refused_only (places.Surveys k why s left seen) code = survey_refused_is Only why code (λ c x. absurd x)
  refused_only (places.Plans k target) code = fails_is Only None code (λ c x. absurd x)
  refused_only (places.Moves m step) code = fails_is Only None code (λ c x. absurd x)
  refused_only (places.Removes k seen step) code = fails_is Only None code (λ c x. absurd x)
  refused_only (places.Sweeps k spot left step) code = fails_is Only None code (λ c x. absurd x)
  refused_only (places.Asks c k seen) code = ends_is Only c code
  refused_only (places.Mends m step) code = ends_is Only m.cause code

-- what is asked before, and how it is answered
abbrev Before : Hold → ℕ → Place → Reply → Type 0
Before h t p reply = HoldsAt h p × (reply ≡ tell.Volume (volumes.TransCreate t))

its_number : (a t : ℕ) → a ≡ t → tell.Volume (volumes.TransCreate a) ≡ tell.Volume (volumes.TransCreate t)
its_number a t same = ap (λ (k : ℕ). tell.Volume (volumes.TransCreate k)) same

module _ (h : Hold) (t : ℕ) where
  move_before : (m : Trip) (step : Moving) (reply : Reply) → TurnIs (Only h t (Before h t (places.Moves m step) reply)) (move_answered m step reply)
  move_before m moving.Begins (tell.Volume (volumes.TransCreate k)) = λ x. absurd x
  move_before m (moving.Clones k) (tell.Volume (volumes.Clone counter release)) = λ x. absurd x
  move_before m (moving.Cloned counter k) (tell.Volume volumes.EndTrans) = λ x. absurd x
  move_before m (moving.Makes counter) (tell.Volume (volumes.CreateVolume new)) = λ x. absurd x
  move_before m (moving.Opens counter new) (tell.Volume (volumes.TransCreate k)) = λ x. absurd x
  move_before m (moving.Sends counter new k) (tell.Volume volumes.Forward) = λ x. absurd x
  move_before m (moving.Sent counter new k) (tell.Volume volumes.EndTrans) = λ x. absurd x
  move_before m (moving.Holds counter new) (tell.Volume (volumes.TransCreate old)) = λ x. (x.0, its_number old t x.1)
  move_before m (moving.Fences counter new old) (tell.Volume volumes.SetFlags) = λ x. absurd x
  move_before m (moving.Fills counter new old) (tell.Volume volumes.Forward) = λ x. absurd x
  move_before m (moving.Clears new old) (tell.Volume volumes.SetFlags) = λ x. absurd x
  move_before m (moving.Decides new old) (tell.Location entries.ReplaceEntry) = λ x. absurd x
  move_before m (moving.Starts new old) (tell.Volume volumes.SetFlags) = λ x. absurd x
  move_before m (moving.Started new old) (tell.Volume volumes.EndTrans) = λ x. absurd x
  move_before m (moving.Points old) (tell.Volume volumes.SetForwarding) = λ x. absurd x
  move_before m (moving.Deletes old) (tell.Volume volumes.DeleteVolume) = λ x. absurd x
  move_before m moving.Drops (tell.Volume (volumes.TransCreate k)) = λ x. absurd x
  move_before m (moving.Dropped k) (tell.Volume volumes.DeleteVolume) = either h t _ (nat_eq m.hold.entry.backup 0) _ _ (λ x. absurd x) (λ x. absurd x)
  move_before m moving.DropsBackup (tell.Volume (volumes.TransCreate k)) = λ x. absurd x
  move_before m (moving.DroppedBackup k) (tell.Volume volumes.DeleteVolume) = λ x. absurd x
  move_before m step reply = tt

  remove_before : (k : Hold) (seen : List Seen) (step : Removing) (reply : Reply) → TurnIs (Only h t (Before h t (places.Removes k seen step) reply)) (remove_answered k seen step reply)
  remove_before k seen removing.Begins (tell.Volume (volumes.TransCreate old)) = λ x. (x.0, its_number old t x.1)
  remove_before k seen (removing.Fences old) (tell.Volume volumes.SetFlags) = λ x. absurd x
  remove_before k seen (removing.Decides old) (tell.Location entries.DeleteEntry) = λ x. absurd x
  remove_before k seen (removing.Deletes old) (tell.Volume volumes.DeleteVolume) = sweeps_only k (others_of k seen)
    where
      sweeps_only : (k : Hold) (spots : List Spot) → TurnIs (Only h t (Before h t (places.Removes k seen (removing.Deletes old)) (tell.Volume volumes.DeleteVolume))) (sweeps k spots)
      sweeps_only k [] = tt
      sweeps_only k (spot ∷ left) = λ x. absurd x
  remove_before k seen step reply = tt

  answered_before : (e : Errand) (p : Place) (reply : Reply) → TurnIs (Only h t (Before h t p reply)) (answered e p reply)
  answered_before e (places.Seeks c) reply = seek_only h t _ c reply
  answered_before e (places.Locks c v) reply = lock_only h t _ e c reply
  answered_before e (places.Frees k code first) reply = free_only h t _ code reply
  answered_before e (places.Creates f step) reply = create_is _ f step reply (λ step x. absurd x)
  answered_before e (places.Adds k server) reply = add_only h t _ k reply
  answered_before e (places.Backs k step) reply = backup_is _ k step reply (λ step x. absurd x) (λ x. absurd x)
  answered_before e (places.Dumps s step) reply = dump_is _ s step reply (λ bytes step x. absurd x) (λ x. absurd x)
  answered_before e (places.Releases k step) reply = release_only h t _ k step reply
  answered_before e (places.Tours r step) reply = tour_is _ r step reply (λ q same step x. absurd x) (λ q same s step x. absurd x) (λ code first x. absurd x)
  answered_before e (places.Visits r s step) reply = visit_is _ r s step reply (λ q same step x. absurd x) (λ q same s step x. absurd x)
  answered_before e (places.Surveys k why s left seen) reply = survey_only h t _ k why s left seen reply
  answered_before e (places.Plans k target) reply = plan_only h t _ k target reply
  answered_before e (places.Moves m step) reply = move_before m step reply
  answered_before e (places.Removes k seen step) reply = remove_before k seen step reply
  answered_before e (places.Sweeps k spot left step) reply = sweep_is _ k spot left step reply (λ spot left step x. absurd x)
  answered_before e (places.Asks c k seen) reply = entry_only h t _ e c k seen reply
  answered_before e (places.Mends m step) reply = mend_is _ m step reply (λ copies others step x. absurd x)

-- ---- on its course

-- the question before it, how that was answered, and by which message
record IsBefore (sent : List Message) (n epoch number : ℕ) (h : Hold) (t : ℕ) (before q : Question) : Type 0 where
  answered' : WasAnswered sent n epoch number before q
  holds : HoldsAt h before.place
  says : answered'.reply ≡ tell.Volume (volumes.TransCreate t)

before_fence : (sent : List Message) (n epoch number : ℕ) (h : Hold) (t : ℕ) (before q : Question) → Follows sent n epoch number before q → FenceAt h t q.place → IsBefore sent n epoch number h t before q
before_fence sent n epoch number h t before q (inl begun) at =
    absurd (leads_is (Only h t ⊥) q.place (begins_with q.errand.act begun.0) (first_only h t ⊥ q.errand.act begun.0) begun.1 at)
before_fence sent n epoch number h t before q (inr (inl w)) at =
    let z : Before h t before.place w.reply = leads_is (Only h t (Before h t before.place w.reply)) q.place (answered before.errand before.place w.reply) (answered_before h t before.errand before.place w.reply) w.leads at in
    record { answered' = w; holds = z.0; says = z.1 }
before_fence sent n epoch number h t before q (inr (inr w)) at =
    absurd (leads_is (Only h t ⊥) q.place (refused before.place w.code) (refused_only h t ⊥ before.place w.code) w.leads at)

-- a call is one with some user
pub record IsSome (x : Carried) : Type 0 where
  pub user : List ℕ
  pub call : Call
  pub is : x ≡ carried.Call user call

pub call_in : (x : Carried) → IsCall x → IsSome x
call_in (carried.Call user call) h = record { user = user; call = call; is = refl }
call_in (carried.Refusal code) h = absurd h
call_in (carried.Reply reply) h = absurd h
call_in carried.Notice h = absurd h

told_so : (x : Carried) (reply : Reply) (t : ℕ) → x ≡ carried.Reply reply → reply ≡ tell.Volume (volumes.TransCreate t) → is_told x ≡ true
told_so x reply t is says = ap is_told (is ∙ ap carried.Reply says)

module _ (s : Script) (inputs : List CellInput) (course : Course) (on : AreOnCourse course (cell_behind (node_start s) inputs)) where
  abbrev c : NodeCell
  c = cell_behind (node_start s) inputs

  -- an administrator's call that is at the question of this number
  module _ (place n epoch number : ℕ) (m : Message) (user : List ℕ) (call : Call) (at : message_at c.sent place ≡ Some m) (from : m.head.from ≡ Admin n) (is : m.carried ≡ carried.Call user call) (in_epoch : m.head.epoch ≡ epoch) (of_number : m.head.number ≡ number) where
    on_course : IsOnCourse course c.sent n (c.admins n) m.head call
    on_course = on.calls place n m user call at from is

    its_question : course n m.head.epoch m.head.number ≡ course n epoch number
    its_question = ap (λ (e : ℕ). course n e m.head.number) in_epoch ∙ ap (course n epoch) of_number

    its_way : Way course c.sent n epoch number
    its_way = subst (λ (k : ℕ). Way course c.sent n epoch k) of_number (subst (λ (e : ℕ). Way course c.sent n e m.head.number) in_epoch on_course.way)

    -- where that asks so
    module _ (q : Ask) (asks : ask_in (course n epoch number) ≡ q) where
      its_ask : ask_in (course n m.head.epoch m.head.number) ≡ q
      its_ask = ap ask_in its_question ∙ asks

      its_call : q.call ≡ call
      its_call = sym (ap (λ (a : Ask). a.call) its_ask) ∙ on_course.asks

      its_stamp : m.head.stamp ≡ q.stamp
      its_stamp = on_course.stamp ∙ ap (λ (a : Ask). a.stamp) its_ask

      its_callee : m.head.to ≡ q.callee
      its_callee = on_course.callee ∙ ap (λ (a : Ask). a.callee) its_ask

  -- the call for the transaction, and its answer
  told_before : (n epoch number : ℕ) (h : Hold) (t : ℕ) (q : Question) → IsBefore c.sent n epoch number h t (course n epoch number) q → WasTold c n (home h) epoch number t (family h) (family h) h.stamp
  told_before n epoch number h t q b =
      let w = b.answered' in
      let asks : ask_in (course n epoch number) ≡ hold_ask h = hold_asks (course n epoch number).errand (course n epoch number).place h b.holds in
      let told : is_told w.m.carried ≡ true = told_so w.m.carried w.reply t w.says b.says in
      let x : WasAsked c w.m = found_at (HasCall c) w.place c.sent w.m (replies_called s inputs).sent w.there told in
      let z : IsSome x.call.carried = call_in x.call.carried x.is_call in
      let from : x.call.head.from ≡ Admin n = ap (λ (k : Key). k.node) x.key ∙ w.to in
      let in_epoch : x.call.head.epoch ≡ epoch = ap (λ (k : Key). k.epoch) x.key ∙ w.in_epoch in
      let of_number : x.call.head.number ≡ number = ap (λ (k : Key). k.number) x.key ∙ w.of_number in
      let its : ask.Volume (calls.TransCreate (family h) (family h) offline) ≡ z.call = its_call x.place n epoch number x.call z.user z.call x.at from z.is in_epoch of_number (hold_ask h) asks in
      let home' : w.m.head.from ≡ Server (home h) = w.callee ∙ ap (λ (a : Ask). a.callee) asks in
      record {
        call = x.call;
        asked = record {
          place = x.place;
          at = x.at;
          from = from;
          to = x.to ∙ home';
          in_epoch = in_epoch;
          of_number = of_number;
          under = its_stamp x.place n epoch number x.call z.user z.call x.at from z.is in_epoch of_number (hold_ask h) asks;
        };
        for_one = record { user = z.user; call = calls.TransCreate (family h) (family h) offline; asks = z.is ∙ ap (carried.Call z.user) (sym its); begins = (refl, refl) };
        place = w.place;
        reply = w.m;
        at = w.there;
        from = home';
        to = w.to;
        in_epoch = w.in_epoch;
        of_number = w.of_number;
        tells = inl (w.says ∙ ap carried.Reply b.says);
      }

  -- its stamp is the hold's
  pub fence_stamp : (place n number : ℕ) (h : Hold) (t : ℕ) (m : Message) (user : List ℕ) (call : Call) → message_at c.sent place ≡ Some m → m.head.from ≡ Admin n → m.carried ≡ carried.Call user call → m.head.number ≡ suc number →
      FenceAt h t (course n m.head.epoch (suc number)).place → m.head.stamp ≡ h.stamp
  fence_stamp place n number h t m user call at from is of_number fence =
      let q : Question = course n m.head.epoch (suc number) in
      its_stamp place n m.head.epoch (suc number) m user call at from is refl of_number (fence_ask h t) (fence_asks q.errand q.place h t fence)

  -- A call of an administrator that stands at a fence on its course is one on the family's own volume.
  pub fence_of : (place n number : ℕ) (h : Hold) (t : ℕ) (m : Message) (user : List ℕ) (call : Call) → message_at c.sent place ≡ Some m → m.head.from ≡ Admin n → m.carried ≡ carried.Call user call → m.head.number ≡ suc number →
      FenceAt h t (course n m.head.epoch (suc number)).place → (h.stamp ≡ 0 → ⊥) → IsFence c n (home h) m.head.epoch number (family h) closed m
  fence_of place n number h t m user call at from is of_number fence some =
      let e : ℕ = m.head.epoch in
      let q : Question = course n e (suc number) in
      let asks : ask_in q ≡ fence_ask h t = fence_asks q.errand q.place h t fence in
      let way : Way course c.sent n e (suc number) = its_way place n e (suc number) m user call at from is refl of_number in
      let its : ask.Volume (calls.SetFlags (family h) t closed) ≡ call = its_call place n e (suc number) m user call at from is refl of_number (fence_ask h t) asks in
      record {
        stamp = h.stamp;
        transaction = t;
        some = some;
        told = told_before n e number h t q (before_fence c.sent n e number h t (course n e number) q way.0 fence);
        sent = record {
          place = place;
          at = at;
          from = from;
          to = its_callee place n e (suc number) m user call at from is refl of_number (fence_ask h t) asks;
          in_epoch = refl;
          of_number = of_number ∙ one_more number;
          under = its_stamp place n e (suc number) m user call at from is refl of_number (fence_ask h t) asks;
        };
        user = user;
        asks = is ∙ ap (carried.Call user) (sym its);
      }
    where
      one_more : (k : ℕ) → suc k ≡ k + 1
      one_more k = omega (arith)
