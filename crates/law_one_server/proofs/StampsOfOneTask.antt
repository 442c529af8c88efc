-- In every run two questions under one stamp, at which an act has a task, have one task.
use Rattle.std.proofs.Common.{◌≡◌, ◌⊎◌, ◌≤◌, ◌<◌, inl, inr, ℕ, zero, suc, Bool, true, false, List, [], ◌∷◌, ◌++◌, Option, Some, None, refl, sym, ap, subst, ◌∙◌, arith, nat_eq, eqb-true}
use Rattle.std.proofs.Math.Nat.{le_refl}
use Rattle.std.specs.Prelude.{◌&&◌}
use Rattle.std.specs.List.{AllByRecursion}
use Rattle.afs_num.specs.declared.messages.Message.{Message}
use Rattle.spec_history.specs.declared.scripts.Script.{Script}
use Rattle.spec_adminrows.specs.AdminRow.{AdminState}
use Rattle.spec_adminrows.specs.declared.places.Cause.TheVariants as causes
use Rattle.spec_adminrows.specs.declared.places.Creating.TheVariants as creating
use Rattle.spec_adminrows.specs.declared.places.Place.{Place}
use Rattle.spec_adminrows.specs.declared.places.Place.TheVariants as places
use Rattle.spec_adminrows.specs.declared.turns.Running.{Running}
use Rattle.spec_runs.specs.NodeRuns.{node_moved, node_start, CellInput, NodeCell}
use Rattle.law_walks.proofs.AllMessages.{grows}
use Rattle.law_places.specs.Accepting.{cell_behind}
use Rattle.law_stamps.specs.Given.{IsTheirs}
use Rattle.law_stamps.specs.Stamps.{next_stamp}
use Rattle.law_stamp_owners.proofs.PlaceStamps.{stamp_at_place}
use Rattle.law_stamp_owners.proofs.Walk.{all_owned, AllOwned}
use Rattle.law_stored_stamps.proofs.Rising.{one_more}
use Rattle.law_courses.specs.Courses.{course_in, course_on, no_course, question_noted, question_now, AreOnCourse, Course, IsUpTo, Question, Way}
use Rattle.law_courses.specs.Tasks.{task_at, Task}
use Rattle.law_courses.proofs.Growing.{lower_up_to, still_on_way}
use Rattle.law_courses.proofs.OneTask.{up, WasGiven}
use Rattle.law_courses.proofs.Runs.{each_run, Stepped}
use Rattle.law_courses.proofs.Walk.{are_on_course, behind_more}
use Rattle.law_locks.specs.Grips.{grip_at, GripIs}
use Rattle.law_locks.specs.Lines.{IsDrawnFor}
use Rattle.law_locks.proofs.Walk.{grips_are_drawn}
use Rattle.law_one_server.proofs.ActsNumbered.{are_numbered}
use Rattle.law_one_server.proofs.StampsOfOneAct.{given_before, one_owner, task_stays, IsGivenBefore}

-- ---- where an act has a task, it has a stamp

positive : (entry_of : ℕ → ℕ) (next volume stamp : ℕ) → IsDrawnFor entry_of next volume stamp → stamp ≡ 0 → ⊥
positive entry_of next volume stamp drawn none = let low : 0 < stamp = drawn.0.0 in omega (arith, low, none)

stamped_at : (entry_of : ℕ → ℕ) (next : ℕ) (p : Place) (t : Task) → task_at p ≡ Some t → GripIs (IsDrawnFor entry_of next) (grip_at p) → stamp_at_place p ≡ 0 → ⊥
stamped_at entry_of next (places.Seeks cause) t is k = absurd cc
stamped_at entry_of next (places.Locks cause v) t is k = absurd cc
stamped_at entry_of next (places.Frees h code first) t is k = absurd cc
stamped_at entry_of next (places.Creates f (creating.Begins v stamp)) t is k = positive entry_of next _ _ k
stamped_at entry_of next (places.Creates f (creating.Opens v stamp x)) t is k = positive entry_of next _ _ k
stamped_at entry_of next (places.Creates f (creating.Opened v stamp x)) t is k = positive entry_of next _ _ k
stamped_at entry_of next (places.Creates f (creating.Frees v stamp)) t is k = positive entry_of next _ _ k
stamped_at entry_of next (places.Creates f step) t is k = absurd cc
stamped_at entry_of next (places.Adds h server) t is k = positive entry_of next _ _ k
stamped_at entry_of next (places.Backs h step) t is k = positive entry_of next _ _ k
stamped_at entry_of next (places.Dumps s step) t is k = positive entry_of next _ _ k
stamped_at entry_of next (places.Releases h step) t is k = positive entry_of next _ _ k
stamped_at entry_of next (places.Tours r step) t is k = positive entry_of next _ _ k
stamped_at entry_of next (places.Visits r s step) t is k = positive entry_of next _ _ k
stamped_at entry_of next (places.Surveys h why s left seen) t is k = positive entry_of next _ _ k
stamped_at entry_of next (places.Plans h target) t is k = positive entry_of next _ _ k
stamped_at entry_of next (places.Moves m step) t is k = positive entry_of next _ _ k
stamped_at entry_of next (places.Removes h seen step) t is k = positive entry_of next _ _ k
stamped_at entry_of next (places.Sweeps h spot left step) t is k = positive entry_of next _ _ k
stamped_at entry_of next (places.Asks cause h seen) t is k = positive entry_of next _ _ k
stamped_at entry_of next (places.Mends m step) t is k = positive entry_of next _ _ k

pub some : (s : Script) (inputs : List CellInput) (n e k : ℕ) (t : Task) → task_at (course_in s inputs n e k).place ≡ Some t → stamp_at_place (course_in s inputs n e k).place ≡ 0 → ⊥
some s inputs n e k t is =
    let g = grips_are_drawn s inputs in stamped_at g.entry_of (next_stamp (cell_behind (node_start s) inputs)) (course_in s inputs n e k).place t is (g.drawn n e k)

-- ---- a question with a task was asked, and so all before it

pub record WasAsked (course : Course) (c : NodeCell) (n e k : ℕ) : Type 0 where
  pub way : Way course c.sent n e k
  pub up_to : IsUpTo e k (c.admins n)

-- its place is one of these
abbrev Asked : (Place → Type 0) → Course → NodeCell → Type 0
Asked F course c = (n e k : ℕ) → F (course n e k).place → WasAsked course c n e k

noted_by : (e k : ℕ) (a : AdminState) (r : Running) (q : Question) (x y : Bool) → nat_eq e a.epoch ≡ x → nat_eq k a.last ≡ y → (question_noted a (Some r) e k q ≡ q) ⊎ ((e ≡ a.epoch) × (k ≡ a.last))
noted_by e k a r q true true here last = inr (eqb-true e a.epoch here, eqb-true k a.last last)
noted_by e k a r q true false here last = inl (rw (here, last) refl)
noted_by e k a r q false y here last = inl (rw here refl)

noted_or : (e k : ℕ) (a : AdminState) (o : Option Running) (q : Question) → (question_noted a o e k q ≡ q) ⊎ ((e ≡ a.epoch) × (k ≡ a.last))
noted_or e k a None q = inl refl
noted_or e k a (Some r) q = noted_by e k a r q (nat_eq e a.epoch) (nat_eq k a.last) refl refl

module _ (s : Script) (done : List CellInput) (x : CellInput) where
  abbrev c : NodeCell
  c = cell_behind (node_start s) done

  abbrev d : NodeCell
  d = (node_moved c x).cell

  abbrev course : Course
  course = course_in s done

  abbrev next : Course
  next = course_on course d.admins

  on_next : AreOnCourse next d
  on_next = subst (λ (f : Course). AreOnCourse f d) (behind_more no_course (node_start s) done (x ∷ [])) (subst (AreOnCourse (course_in s (done ++ x ∷ []))) (one_more (node_start s) done x) (are_on_course.on s (done ++ x ∷ [])))

  module _ (t : Stepped course c (node_moved c x)) where
    still_asked : (n e k : ℕ) → WasAsked course c n e k → WasAsked next d n e k
    still_asked n e k w = record {
      way = subst (λ (ms : List Message). Way next ms n e k) (sym (grows c x)) (still_on_way course next c.sent (node_moved c x).entry.sent n e k (λ j le. t.stays n e j (lower_up_to e j k (c.admins n) le w.up_to)) w.way);
      up_to = t.up n e k w.up_to;
    }

    asked_next : (F : Place → Type 0) → Asked F course c → Asked F next d
    asked_next F h n e k is = by (noted_or e k (d.admins n) (d.admins n).running (course n e k))
      where
        by : (next n e k ≡ course n e k) ⊎ ((e ≡ (d.admins n).epoch) × (k ≡ (d.admins n).last)) → WasAsked next d n e k
        by (inl same) = still_asked n e k (h n e k (subst (λ (q : Question). F q.place) same is))
        by (inr now) = record {
          way = subst (λ (j : ℕ). Way next d.sent n j k) (sym now.0) (subst (λ (j : ℕ). Way next d.sent n (d.admins n).epoch j) (sym now.1) (on_next.ways n));
          up_to = inr (now.0, subst (λ (j : ℕ). k ≤ j) now.1 (le_refl k));
        }

asked_run : (F : Place → Type 0) → (F (places.Seeks causes.Asked) → ⊥) → (s : Script) (inputs : List CellInput) → Asked F (course_in s inputs) (cell_behind (node_start s) inputs)
asked_run F never s inputs = each_run s (Asked F) (λ done x t h. asked_next s done x t F h) (λ n e k is. absurd (never is)) inputs

abbrev HasTask : Place → Type 0
HasTask p = (t : Task) × (task_at p ≡ Some t)

pub was_asked : (s : Script) (inputs : List CellInput) (n e k : ℕ) (t : Task) → task_at (course_in s inputs n e k).place ≡ Some t → WasAsked (course_in s inputs) (cell_behind (node_start s) inputs) n e k
was_asked s inputs n e k t is = asked_run HasTask (λ h. let no : None ≡ Some h.0 = h.1 in absurd cc) s inputs n e k (t, is)

-- and so was one under a stamp
abbrev HasStamp : Place → Type 0
HasStamp p = stamp_at_place p ≡ 0 → ⊥

pub stamp_asked : (s : Script) (inputs : List CellInput) (n e k : ℕ) → (stamp_at_place (course_in s inputs n e k).place ≡ 0 → ⊥) → WasAsked (course_in s inputs) (cell_behind (node_start s) inputs) n e k
stamp_asked s inputs n e k some = asked_run HasStamp (λ h. h refl) s inputs n e k some

-- ---- of one task

up_zero : (k : ℕ) → up k 0 ≡ k
up_zero zero = refl
up_zero (suc k) = ap suc (up_zero k)

up_suc : (d k : ℕ) → up d (suc k) ≡ suc (up d k)
up_suc zero k = refl
up_suc (suc d) k = ap suc (up_suc d k)

abbrev Reaches : ℕ → ℕ → Type 0
Reaches k j = (d : ℕ) × (up d k ≡ j)

next_reaches : (k j : ℕ) → Reaches k j → Reaches (suc k) (suc j)
next_reaches k j r = (r.0, up_suc r.0 k ∙ ap suc r.1)

reach : (k j : ℕ) → Reaches k j ⊎ Reaches j k
reach zero j = inl (j, up_zero j)
reach (suc k) zero = inr (suc k, up_zero (suc k))
reach (suc k) (suc j) = elim (reach k j) [ inl r ↦ inl (next_reaches k j r) | inr r ↦ inr (next_reaches j k r) ]

same_some : (a b : Option Task) (t u : Task) → a ≡ Some t → b ≡ Some u → (b ≡ a) ⊎ (b ≡ None) → t ≡ u
same_some a b t u at bt (inl same) = let e : Some t ≡ Some u = sym at ∙ (sym same ∙ bt) in cc
same_some a b t u at bt (inr none) = let no : None ≡ Some u = sym none ∙ bt in absurd cc

module _ (s : Script) (inputs : List CellInput) where
  abbrev cell : NodeCell
  cell = cell_behind (node_start s) inputs

  abbrev its : Course
  its = course_in s inputs

  abbrev stamp_of : ℕ → ℕ → ℕ → ℕ
  stamp_of n e k = stamp_at_place (its n e k).place

  owned : AllOwned cell
  owned = all_owned s inputs

  first : (n e : ℕ) → stamp_of n e 0 ≡ 0
  first n e = ap (λ (q : Question). stamp_at_place q.place) ((are_numbered s inputs).zero_asks n e)

  -- the later one of one act
  up_one : (n e k d : ℕ) (t u : Task) → stamp_of n e k ≡ stamp_of n e (up d k) → (stamp_of n e k ≡ 0 → ⊥) → task_at (its n e k).place ≡ Some t → task_at (its n e (up d k)).place ≡ Some u → t ≡ u
  up_one n e k d t u same some at_k at_up =
      same_some (task_at (its n e k).place) (task_at (its n e (up d k)).place) t u at_k at_up
      (task_stays owned.owner (next_stamp cell) cell.sent owned.theirs its n e (first n e) d k (stamp_of n e k) some (was_asked s inputs n e (up d k) u at_up).way (was_asked s inputs n e k t at_k).way refl (sym same))

  from_one : (n e k j : ℕ) (t u : Task) → Reaches k j → stamp_of n e k ≡ stamp_of n e j → (stamp_of n e k ≡ 0 → ⊥) → task_at (its n e k).place ≡ Some t → task_at (its n e j).place ≡ Some u → t ≡ u
  from_one n e k j t u r same some at_k at_j =
      up_one n e k r.0 t u (same ∙ ap (stamp_of n e) (sym r.1)) some at_k (ap (λ (i : ℕ). task_at (its n e i).place) r.1 ∙ at_j)

  in_one : (n e k j : ℕ) (t u : Task) → stamp_of n e k ≡ stamp_of n e j → (stamp_of n e k ≡ 0 → ⊥) → task_at (its n e k).place ≡ Some t → task_at (its n e j).place ≡ Some u → t ≡ u
  in_one n e k j t u same some at_k at_j = by (reach k j)
    where
      by : Reaches k j ⊎ Reaches j k → t ≡ u
      by (inl r) = from_one n e k j t u r same some at_k at_j
      by (inr r) = sym (from_one n e j k u t r (sym same) (λ none. some (same ∙ none)) at_j at_k)

  given : (n e k : ℕ) (t : Task) → task_at (its n e k).place ≡ Some t → (stamp_of n e k ≡ 0 → ⊥) → IsGivenBefore its cell.sent n e k (stamp_of n e k)
  given n e k t is some = given_before its cell.sent n e k (stamp_of n e k) some (first n e) (was_asked s inputs n e k t is).way refl

  abbrev OneAt : ℕ → ℕ → ℕ → ℕ → ℕ → ℕ → Task → Task → Type 0
  OneAt n e k i f j t u = stamp_of n e k ≡ stamp_of i f j → (stamp_of n e k ≡ 0 → ⊥) → task_at (its n e k).place ≡ Some t → task_at (its i f j).place ≡ Some u → t ≡ u

  -- under one stamp there is one administrator in one epoch
  pub one : (n e k i f j : ℕ) (t u : Task) → stamp_of n e k ≡ stamp_of i f j → (stamp_of n e k ≡ 0 → ⊥) → task_at (its n e k).place ≡ Some t → task_at (its i f j).place ≡ Some u → t ≡ u
  one n e k i f j t u same some at_k at_j =
      let a : IsGivenBefore its cell.sent n e k (stamp_of n e k) = given n e k t at_k some in
      let b : IsGivenBefore its cell.sent i f j (stamp_of i f j) = given i f j u at_j (λ none. some (same ∙ none)) in
      let o = one_owner owned.owner (next_stamp cell) cell.sent owned.theirs n e a.number i f b.number (stamp_of n e k) a.given (subst (WasGiven cell.sent i f b.number) (sym same) b.given) in
      subst (λ (m : ℕ). OneAt n e k m f j t u) o.0 (subst (λ (m : ℕ). OneAt n e k n m j t u) o.1.0 (in_one n e k j t u)) same some at_k at_j
