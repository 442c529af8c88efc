-- Whoever was given a stamp by force is in a recovery from then on, at each question under that stamp.
use Rattle.std.proofs.Common.{◌≡◌, ◌⊎◌, inl, inr, ℕ, zero, suc, Bool, true, false, cond, List, [], ◌∷◌, refl, sym, subst, ◌∙◌}
use Rattle.afs_num.specs.declared.location_calls.LocReply.TheVariants as entries
use Rattle.afs_num.specs.declared.messages.Message.{Message}
use Rattle.afs_num.specs.declared.messages.Reply.{Reply}
use Rattle.afs_num.specs.declared.messages.Reply.TheVariants as tell
use Rattle.afs_num.specs.declared.types.Code.{Code}
use Rattle.afs_num.specs.declared.volume_calls.VolReply.TheVariants as volumes
use Rattle.spec_history.specs.declared.scripts.AdminAct.{AdminAct}
use Rattle.spec_history.specs.declared.scripts.AdminAct.TheVariants as acts
use Rattle.spec_rows.specs.LocRow.{is_force}
use Rattle.spec_adminrows.specs.Acts.{answered, begins_with, can_go_on, goes_on_locked, lock_answered, locked, refused}
use Rattle.spec_adminrows.specs.Asks.{all_servers, force_by, force_of}
use Rattle.spec_adminrows.specs.Entries.{is_usable}
use Rattle.spec_adminrows.specs.Recovering.{entry_answered, mend_of, takes_copies}
use Rattle.spec_adminrows.specs.Surveying.{survey_answered, surveys}
use Rattle.spec_adminrows.specs.declared.places.Cause.{Cause}
use Rattle.spec_adminrows.specs.declared.places.Cause.TheVariants as causes
use Rattle.spec_adminrows.specs.declared.places.Hold.{Hold}
use Rattle.spec_adminrows.specs.declared.places.Mend.{Mend}
use Rattle.spec_adminrows.specs.declared.places.Place.{Place}
use Rattle.spec_adminrows.specs.declared.places.Place.TheVariants as places
use Rattle.spec_adminrows.specs.declared.places.Purpose.TheVariants as purposes
use Rattle.spec_adminrows.specs.declared.places.Seen.{Seen}
use Rattle.spec_adminrows.specs.declared.turns.Errand.{Errand}
use Rattle.spec_adminrows.specs.declared.turns.Turn.{Turn}
use Rattle.spec_adminrows.specs.declared.turns.Turn.TheVariants as turns
use Rattle.law_walks.proofs.Places.{ends_is, mend_is, seek_fails_is, takes_is, TurnIs}
use Rattle.law_stamp_owners.proofs.PlaceStamps.{first_is, stamp_at_place, AtPlace}
use Rattle.law_courses.specs.Courses.{Course, Follows, Question, Way}
use Rattle.law_courses.specs.Tasks.{task_at}
use Rattle.law_courses.proofs.Continuing.{leads_is, Keeps}
use Rattle.law_courses.proofs.OneTask.{next_keeps, WasGiven}
use Rattle.law_recovered.proofs.Forced.{force_at, forces}
use Rattle.law_recovered.proofs.Own.{IsMending}

-- a place of a recovery, or one under no stamp
abbrev Goes : Place → Type 0
Goes p = (stamp_at_place p ≡ 0) ⊎ IsMending p

either : (b : Bool) (x y : Turn) → TurnIs Goes x → TurnIs Goes y → TurnIs Goes (cond b x y)
either true x y j k = j
either false x y j k = k

surveys_mend : (h : Hold) (c : Cause) (left : List ℕ) (seen : List Seen) → TurnIs Goes (surveys h (purposes.Mends c) left seen)
surveys_mend h c [] seen = inr tt
surveys_mend h c (s ∷ left) seen = inr tt

survey_leads : (h : Hold) (c : Cause) (s : ℕ) (left : List ℕ) (seen : List Seen) (reply : Reply) → TurnIs Goes (survey_answered h (purposes.Mends c) s left seen reply)
survey_leads h c s left seen (tell.Volume (volumes.ListVols ls)) = surveys_mend h c left _
survey_leads h c s left seen reply = tt

entry_leads : (e : Errand) (c : Cause) (h : Hold) (seen : List Seen) (reply : Reply) → TurnIs Goes (entry_answered e c h seen reply)
entry_leads e c h seen (tell.Location (entries.GetEntryById n)) =
    let m : Mend = mend_of e c h seen n in either (is_usable n) (takes_copies m m.copies) turns.Passes (takes_is Goes m m.copies (λ copies others step. inr tt)) tt
entry_leads e c h seen reply = tt

-- from a place of a recovery
mend_leads : (e : Errand) (p : Place) (reply : Reply) → IsMending p → TurnIs Goes (answered e p reply)
mend_leads e (places.Surveys h (purposes.Mends c) s left seen) reply is = survey_leads h c s left seen reply
mend_leads e (places.Asks c h seen) reply is = entry_leads e c h seen reply
mend_leads e (places.Mends m step) reply is = mend_is Goes m step reply (λ copies others step'. inr tt)
mend_leads e p reply is = absurd is

mend_refused : (p : Place) (code : Code) → IsMending p → TurnIs Goes (refused p code)
mend_refused (places.Surveys h (purposes.Mends c) s left seen) code is = ends_is Goes c code
mend_refused (places.Asks c h seen) code is = ends_is Goes c code
mend_refused (places.Mends m step) code is = ends_is Goes m.cause code
mend_refused p code is = absurd is

-- from where force is asked for
recover_goes : (e : Errand) (h : Hold) (a : AdminAct) → is_force (force_of a) ≡ true → TurnIs Goes (goes_on_locked e h a)
recover_goes e h (acts.Recover name) is = surveys_mend h causes.Asked (all_servers e) []
recover_goes e h a is = absurd cc

locked_goes : (e : Errand) (h : Hold) (c : Cause) → is_force (force_by c e.act) ≡ true → TurnIs Goes (locked e h c)
locked_goes e h causes.Asked is = recover_goes e h e.act is
locked_goes e h (causes.After code) is = surveys_mend h (causes.After code) (all_servers e) []

lock_on : (e : Errand) (c : Cause) (reply : Reply) → is_force (force_by c e.act) ≡ true → TurnIs Goes (lock_answered e c reply)
lock_on e c (tell.Location (entries.SetLock stamp n)) is = either (can_go_on e n) _ turns.Passes (locked_goes e (record { entry = n; stamp = stamp }) c is) tt
lock_on e c reply is = tt

lock_leads : (e : Errand) (p : Place) (reply : Reply) → forces e p ≡ true → TurnIs Goes (answered e p reply)
lock_leads e (places.Locks c v) reply is = lock_on e c reply is
lock_leads e p reply is = absurd cc

lock_refused : (e : Errand) (p : Place) (code : Code) → forces e p ≡ true → TurnIs Goes (refused p code)
lock_refused e (places.Locks c v) code is = seek_fails_is Goes c code
lock_refused e p code is = absurd cc

module _ (course : Course) (sent : List Message) (n epoch : ℕ) where
  abbrev at : ℕ → Place
  at k = (course n epoch k).place

  abbrev asked : ℕ → Question
  asked k = course n epoch k

  -- it was given to a question that asked for no force
  pub record IsMild (stamp : ℕ) : Type 0 where
    pub number : ℕ
    pub given : WasGiven sent n epoch number stamp
    pub mild : force_at (course n epoch number) ≡ false

  abbrev pub State : ℕ → Type 0
  State k = (stamp_at_place (at k) ≡ 0) ⊎ (IsMending (at k) ⊎ IsMild (stamp_at_place (at k)))

  goes : (k : ℕ) → Goes (at k) → State k
  goes k (inl none) = inl none
  goes k (inr mends) = inr (inl mends)

  leads_on : (k : ℕ) (b q : Question) → Follows sent n epoch k b q → ((reply : Reply) → TurnIs Goes (answered b.errand b.place reply)) → ((code : Code) → TurnIs Goes (refused b.place code)) → Goes q.place
  leads_on k b q (inl begins) answer refuse = inl (leads_is (AtPlace (λ (s : ℕ). s ≡ 0) refl) q.place (begins_with q.errand.act begins.0) (first_is (λ (s : ℕ). s ≡ 0) refl q.errand.act begins.0) begins.1)
  leads_on k b q (inr (inl a)) answer refuse = leads_is Goes q.place (answered b.errand b.place a.reply) (answer a.reply) a.leads
  leads_on k b q (inr (inr r)) answer refuse = leads_is Goes q.place (refused b.place r.code) (refuse r.code) r.leads

  pub each_state : (k : ℕ) → stamp_at_place (at 0) ≡ 0 → Way course sent n epoch k → State k
  each_state zero first way = inl first
  each_state (suc k) first way = by (next_keeps course sent n epoch k (asked k) (asked (suc k)) way.0) (each_state k first way.1)
    where
      forced : (f : Bool) → force_at (asked k) ≡ f → WasGiven sent n epoch k (stamp_at_place (at (suc k))) → State (suc k)
      forced true is new = goes (suc k) (leads_on k (asked k) (asked (suc k)) way.0 (λ reply. lock_leads (asked k).errand (asked k).place reply is) (λ code. lock_refused (asked k).errand (asked k).place code is))
      forced false is new = inr (inr (record { number = k; given = new; mild = is }))

      same_by : stamp_at_place (at (suc k)) ≡ stamp_at_place (at k) → State k → State (suc k)
      same_by same (inl none) = inl (same ∙ none)
      same_by same (inr (inl mends)) = goes (suc k) (leads_on k (asked k) (asked (suc k)) way.0 (λ reply. mend_leads (asked k).errand (asked k).place reply mends) (λ code. mend_refused (asked k).place code mends))
      same_by same (inr (inr mild)) = inr (inr (subst IsMild (sym same) mild))

      by : Keeps (stamp_at_place (at k)) (task_at (at k)) (WasGiven sent n epoch k) (at (suc k)) → State k → State (suc k)
      by (inl none) before = inl none
      by (inr (inl same)) before = same_by same.0 before
      by (inr (inr new)) before = forced (force_at (asked k)) refl new
