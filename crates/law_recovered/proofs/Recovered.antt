-- Where the location database tells that a volume is recovered, a recovery ends; so no other server has a copy of it.
use Rattle.std.proofs.Common.{◌≡◌, ◌<◌, inl, inr, ℕ, zero, suc, true, false, List, [], ◌∷◌, Option, Some, None, refl, sym, ap, subst, ◌∙◌, arith}
use Rattle.std.specs.Prelude.{slice_get, take}
use Rattle.std.specs.List.{list_any}
use Rattle.afs_num.specs.declared.location_calls.LocCall.TheVariants as calls
use Rattle.afs_num.specs.declared.messages.Call.TheVariants as ask
use Rattle.afs_num.specs.declared.types.Node.TheVariants.{Admin}
use Rattle.spec_history.specs.declared.scripts.Script.{Script}
use Rattle.spec_ideal.specs.Tables.{get}
use Rattle.spec_records.specs.LocRecords.{Listed}
use Rattle.spec_rows.specs.Runs.{Entry}
use Rattle.spec_adminrows.specs.Acts.{asks_at}
use Rattle.spec_adminrows.specs.declared.places.Creating.TheVariants as creating
use Rattle.spec_adminrows.specs.declared.places.Mend.{Mend}
use Rattle.spec_adminrows.specs.declared.places.Mending.{Mending}
use Rattle.spec_adminrows.specs.declared.places.Mending.TheVariants as mending
use Rattle.spec_adminrows.specs.declared.places.Place.{Place}
use Rattle.spec_adminrows.specs.declared.places.Place.TheVariants as places
use Rattle.spec_adminrows.specs.declared.places.Purpose.TheVariants as purposes
use Rattle.spec_adminrows.specs.declared.turns.Errand.{Errand}
use Rattle.spec_runs.specs.NodeRuns.{node_moved, node_start, CellInput, NodeCell, NodeLeads}
use Rattle.law_walks.proofs.Seats.{found_at}
use Rattle.law_places.specs.Accepting.{cell_behind}
use Rattle.law_stamps.specs.Stamps.{next_stamp}
use Rattle.law_stamps.specs.Told.{entries_in, is_database}
use Rattle.law_stamp_owners.proofs.PlaceStamps.{asked_stamp, stamp_at_place}
use Rattle.law_courses.specs.Courses.{course_in, Course, IsOnCourse, Question}
use Rattle.law_courses.proofs.Walk.{are_on_course}
use Rattle.law_locks.specs.Grips.{grip_at, AreGripped, GripIs}
use Rattle.law_locks.specs.Lines.{IsDrawnFor}
use Rattle.law_locks.proofs.Walk.{grips_are_drawn}
use Rattle.law_one_server.specs.Knows.{lock_at}
use Rattle.law_one_server.proofs.ActsNumbered.{are_numbered}
use Rattle.law_recovered.specs.Ends.{recovers, IsAlone, IsEnding, RecoveriesAreTold}
use Rattle.law_recovered.proofs.Chain.{each_state, IsMild, State}
use Rattle.law_recovered.proofs.Ending.{end_alone}
use Rattle.law_recovered.proofs.Forced.{all_gifts, force_at, GivesTo, IsGift}
use Rattle.law_recovered.proofs.Givers.{givers, releasers}
use Rattle.law_recovered.proofs.Locks.{lock_its, lock_of, stamp_of_lock}
use Rattle.law_recovered.proofs.Own.{IsMending}
use Rattle.law_recovered.proofs.Said.{said, Releases}

-- ---- where a recovery asks to release a lock

record Freeing (p : Place) : Type 0 where
  m : Mend
  is : p ≡ places.Mends m mending.Frees

step_frees : (e : Errand) (m : Mend) (step : Mending) (id : ℕ) → (asks_at e (places.Mends m step)).call ≡ ask.Location (calls.ReleaseLock id) → Freeing (places.Mends m step)
step_frees e m mending.Frees id is = record { m = m; is = refl }
step_frees e m step id is = absurd cc

frees_at : (e : Errand) (p : Place) (id : ℕ) → (asks_at e p).call ≡ ask.Location (calls.ReleaseLock id) → IsMending p → Freeing p
frees_at e (places.Surveys h (purposes.Mends c) s left seen) id is mends = absurd cc
frees_at e (places.Asks c h seen) id is mends = absurd cc
frees_at e (places.Mends m step) id is mends = step_frees e m step id is
frees_at e p id is mends = absurd mends

-- a place that asks so has a stamp
positive : (entry_of : ℕ → ℕ) (next volume stamp : ℕ) → IsDrawnFor entry_of next volume stamp → stamp ≡ 0 → ⊥
positive entry_of next volume stamp drawn none = let low : 0 < stamp = drawn.0.0 in omega (arith, low, none)

module _ (entry_of : ℕ → ℕ) (next : ℕ) (e : Errand) (id : ℕ) where
  abbrev G : ℕ → ℕ → Type 0
  G = IsDrawnFor entry_of next

  abbrev AsksIt : Place → Type 0
  AsksIt p = (asks_at e p).call ≡ ask.Location (calls.ReleaseLock id)

  release_stamped : (p : Place) → AsksIt p → GripIs G (grip_at p) → stamp_at_place p ≡ 0 → ⊥
  release_stamped (places.Seeks cause) is drawn none = absurd cc
  release_stamped (places.Locks cause v) is drawn none = absurd cc
  release_stamped (places.Creates f creating.Numbers) is drawn none = absurd cc
  release_stamped (places.Creates f (creating.Enters v)) is drawn none = absurd cc
  release_stamped (places.Creates f (creating.Begins v stamp)) is drawn none = positive entry_of next _ _ drawn none
  release_stamped (places.Creates f (creating.Opens v stamp t)) is drawn none = positive entry_of next _ _ drawn none
  release_stamped (places.Creates f (creating.Opened v stamp t)) is drawn none = positive entry_of next _ _ drawn none
  release_stamped (places.Creates f (creating.Frees v stamp)) is drawn none = positive entry_of next _ _ drawn none
  release_stamped (places.Creates f step) is drawn none = absurd cc
  release_stamped (places.Frees h code first) is drawn none = positive entry_of next _ _ drawn none
  release_stamped (places.Adds h server) is drawn none = positive entry_of next _ _ drawn none
  release_stamped (places.Backs h step) is drawn none = positive entry_of next _ _ drawn none
  release_stamped (places.Dumps s step) is drawn none = positive entry_of next _ _ drawn none
  release_stamped (places.Releases h step) is drawn none = positive entry_of next _ _ drawn none
  release_stamped (places.Tours r step) is drawn none = positive entry_of next _ _ drawn none
  release_stamped (places.Visits r s step) is drawn none = positive entry_of next _ _ drawn none
  release_stamped (places.Surveys h why s left seen) is drawn none = positive entry_of next _ _ drawn none
  release_stamped (places.Plans h target) is drawn none = positive entry_of next _ _ drawn none
  release_stamped (places.Moves m step) is drawn none = positive entry_of next _ _ drawn none
  release_stamped (places.Removes h seen step) is drawn none = positive entry_of next _ _ drawn none
  release_stamped (places.Sweeps h spot left step) is drawn none = positive entry_of next _ _ drawn none
  release_stamped (places.Asks cause h seen) is drawn none = positive entry_of next _ _ drawn none
  release_stamped (places.Mends m step) is drawn none = positive entry_of next _ _ drawn none

-- ---- whoever asked to release such a lock

-- a recovery of the volume ends
pub record HasEnded (s : Script) (inputs : List CellInput) (volume : ℕ) : Type 0 where
  pub m : Mend
  pub of : m.volume ≡ volume
  pub ending : IsEnding s inputs m

module _ (s : Script) (inputs : List CellInput) (volume : ℕ) (r : Releases (cell_behind (node_start s) inputs) volume) where
  abbrev c : NodeCell
  c = cell_behind (node_start s) inputs

  abbrev course : Course
  course = course_in s inputs

  grips : AreGripped course c
  grips = grips_are_drawn s inputs

  who : (n : ℕ) × (r.m.head.from ≡ Admin n)
  who = releasers s inputs r.sent.0 r.m r.user r.id r.sent.1 r.says

  abbrev n : ℕ
  n = who.0

  abbrev epoch : ℕ
  epoch = r.m.head.epoch

  abbrev number : ℕ
  number = r.m.head.number

  abbrev q : Question
  q = course n epoch number

  on : IsOnCourse course c.sent n (c.admins n) r.m.head (ask.Location (calls.ReleaseLock r.id))
  on = (are_on_course.on s inputs).calls r.sent.0 n r.m r.user (ask.Location (calls.ReleaseLock r.id)) r.sent.1 who.1 r.says

  under : stamp_at_place q.place ≡ r.k.stamp
  under = sym (asked_stamp q.errand q.place) ∙ (sym on.stamp ∙ sym r.under)

  drawn : GripIs (IsDrawnFor grips.entry_of (next_stamp c)) (grip_at q.place)
  drawn = grips.drawn n epoch number

  its : grips.entry_of r.k.stamp ≡ volume
  its = by (get volume (entries_in c)) refl r.locked
    where
      by : (o : Option Listed) → get volume (entries_in c) ≡ o → lock_of o ≡ Some r.k → grips.entry_of r.k.stamp ≡ volume
      by None at is = absurd cc
      by (Some l) at is = lock_its grips.entry_of (next_stamp c) volume r.k l.lock (grips.line.locks volume l at) is

  not_mild : IsMild course c.sent n epoch (stamp_at_place q.place) → ⊥
  not_mild g =
      let gift : IsGift course c g.given.m = found_at (IsGift course c) g.given.place c.sent g.given.m (all_gifts s inputs).sent g.given.there in
      let z = gift (stamp_at_place q.place) g.given.gives (givers s inputs g.given.place g.given.m (stamp_at_place q.place) g.given.there g.given.gives) in
      let so : GivesTo course c g.given.m.head (stamp_at_place q.place) (Admin n) = subst (GivesTo course c g.given.m.head (stamp_at_place q.place)) g.given.to z.1 in
      let same : r.k.forced ≡ force_at (course n g.given.m.head.epoch g.given.m.head.number) = so.1 volume r.k r.locked (sym under) in
      let no : true ≡ false = sym r.forced ∙ (same ∙ (ap (λ (e : ℕ). force_at (course n e g.given.m.head.number)) g.given.in_epoch ∙ (ap (λ (j : ℕ). force_at (course n epoch j)) g.given.of_number ∙ g.mild))) in
      absurd cc

  ends : Freeing q.place → HasEnded s inputs volume
  ends f =
      let there : IsDrawnFor grips.entry_of (next_stamp c) f.m.volume f.m.stamp = subst (λ (p : Place). GripIs (IsDrawnFor grips.entry_of (next_stamp c)) (grip_at p)) f.is drawn in
      let own : f.m.stamp ≡ r.k.stamp = sym (ap stamp_at_place f.is) ∙ under in
      let same : f.m.volume ≡ volume = sym there.1 ∙ (ap grips.entry_of own ∙ its) in
      record {
        m = f.m;
        of = same;
        ending = record {
          n = n;
          epoch = epoch;
          number = number;
          asks = f.is;
          locked = subst (λ (v : ℕ). lock_at c v ≡ Some f.m.stamp) (sym same) (stamp_of_lock (get volume (entries_in c)) r.k r.locked ∙ ap Some (sym own));
        };
      }

  pub ends_so : HasEnded s inputs volume
  ends_so = by (each_state course c.sent n epoch number (ap (λ (x : Question). stamp_at_place x.place) ((are_numbered s inputs).zero_asks n epoch)) on.way)
    where
      by : State course c.sent n epoch number → HasEnded s inputs volume
      by (inl none) = absurd (release_stamped grips.entry_of (next_stamp c) q.errand r.id q.place on.asks drawn none)
      by (inr (inl mends)) = ends (frees_at q.errand q.place r.id on.asks mends)
      by (inr (inr mild)) = absurd (not_mild mild)

-- ---- an entry that tells so

record IsAt (c : NodeCell) (inputs : List CellInput) (k : ℕ) (e : Entry) : Type 0 where
  x : CellInput
  is : e ≡ (node_moved (cell_behind c (take k inputs)) x).entry

entry_at : (c : NodeCell) (inputs : List CellInput) (history : List Entry) (end : NodeCell) → NodeLeads c inputs history end → (k : ℕ) (e : Entry) → slice_get history k ≡ Some e → IsAt c inputs k e
entry_at c [] [] end leads k e at = absurd cc
entry_at c [] (y ∷ es) end leads k e at = absurd leads
entry_at c (x ∷ xs) [] end leads k e at = absurd leads
entry_at c (x ∷ xs) (y ∷ es) end leads zero e at = let same : y ≡ e = cc in record { x = x; is = sym same ∙ leads.0 }
entry_at c (x ∷ xs) (y ∷ es) end leads (suc k) e at = let z : IsAt (node_moved c x).cell xs k e = entry_at (node_moved c x).cell xs es end leads.1 k e at in record { x = z.x; is = z.is }

-- where it is told
pub told_ends : (s : Script) (inputs : List CellInput) (history : List Entry) (end : NodeCell) → NodeLeads (node_start s) inputs history end → (k volume : ℕ) (e : Entry) → slice_get history k ≡ Some e → is_database e.actor ≡ true → list_any (recovers volume) e.lines ≡ true →
    HasEnded s (take k inputs) volume
told_ends s inputs history end leads k volume e at is tells =
    let z : IsAt (node_start s) inputs k e = entry_at (node_start s) inputs history end leads k e at in
    let r : Releases (cell_behind (node_start s) (take k inputs)) volume = said s (take k inputs) volume z.x (subst (λ (y : Entry). is_database y.actor ≡ true) z.is is) (subst (λ (y : Entry). list_any (recovers volume) y.lines ≡ true) z.is tells) in
    ends_so s (take k inputs) volume r

pub recovered_alone : RecoveriesAreTold
recovered_alone s inputs history end numbered servers leads k volume e at is tells =
    let f : HasEnded s (take k inputs) volume = told_ends s inputs history end leads k volume e at is tells in
    record { server = f.m.named; stands = subst (λ (v : ℕ). IsAlone (cell_behind (node_start s) (take k inputs)) v f.m.named) f.of (end_alone s inputs numbered servers k f.m f.ending) }
