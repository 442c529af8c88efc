-- What goes on with the courses of acts, from one input to the next, holds behind all; and where what is known at each question comes from.
use Rattle.std.proofs.Common.{◌≡◌, ◌⊎◌, inl, inr, ℕ, Bool, true, false, cond, List, [], ◌∷◌, ◌++◌, Option, Some, None, refl, sym, subst, nat_eq, append-nil, append_assoc}
use Rattle.std.specs.Prelude.{◌&&◌}
use Rattle.spec_history.specs.declared.scripts.Script.{Script}
use Rattle.spec_adminrows.specs.Acts.{refused}
use Rattle.spec_adminrows.specs.AdminRow.{AdminState}
use Rattle.spec_adminrows.specs.declared.places.Cause.TheVariants as causes
use Rattle.spec_adminrows.specs.declared.places.Place.{Place}
use Rattle.spec_adminrows.specs.declared.places.Place.TheVariants as places
use Rattle.spec_adminrows.specs.declared.turns.Running.{Running}
use Rattle.afs_num.specs.declared.types.Code.{Code}
use Rattle.spec_runs.specs.NodeRuns.{node_moved, node_start, CellInput, NodeCell, NodeMoved}
use Rattle.law_places.specs.Accepting.{cell_behind}
use Rattle.law_courses.specs.Courses.{course_in, course_on, no_course, question_noted, question_now, AreOnCourse, Begins, Course, Follows, IsUpTo, LeadsTo, Question, WasAnswered}
use Rattle.law_courses.proofs.Asking.{Asks, IsNew, IsOld}
use Rattle.law_courses.proofs.Walk.{all_on, behind_more, first_on, goes, Goes, On}

-- ---- a step

-- the courses before it, and what it adds to them
pub record Stepped (course : Course) (c : NodeCell) (m : NodeMoved) : Type 0 where
  pub before : AreOnCourse course c
  pub asks : (n : ℕ) → Asks course c.sent n (c.admins n) (m.cell.admins n)
  pub stays : (n e k : ℕ) → IsUpTo e k (c.admins n) → course_on course m.cell.admins n e k ≡ course n e k
  pub up : (n e k : ℕ) → IsUpTo e k (c.admins n) → IsUpTo e k (m.cell.admins n)

stepped : (course : Course) (c : NodeCell) (m : NodeMoved) → On course c → Goes course c m → Stepped course c m
stepped course c m h g = record { before = all_on course c h; asks = g.asks; stays = g.stays; up = g.up }

-- ---- a run

cell_more : (c : NodeCell) (xs : List CellInput) (x : CellInput) → cell_behind c (xs ++ (x ∷ [])) ≡ (node_moved (cell_behind c xs) x).cell
cell_more c [] x = refl
cell_more c (y ∷ ys) x = cell_more (node_moved c y).cell ys x

module _ (s : Script) where
  abbrev behind : List CellInput → NodeCell
  behind xs = cell_behind (node_start s) xs

  abbrev next_course : List CellInput → CellInput → Course
  next_course done x = course_on (course_in s done) (node_moved (behind done) x).cell.admins

  one_more : (Inv : Course → NodeCell → Type 0) (done : List CellInput) (x : CellInput) → Inv (next_course done x) (node_moved (behind done) x).cell → Inv (course_in s (done ++ (x ∷ []))) (behind (done ++ (x ∷ [])))
  one_more Inv done x h =
      subst (λ (course : Course). Inv course (behind (done ++ (x ∷ [])))) (sym (behind_more no_course (node_start s) done (x ∷ [])))
      (subst (λ (c : NodeCell). Inv (next_course done x) c) (sym (cell_more (node_start s) done x)) h)

  module _ (Inv : Course → NodeCell → Type 0) (step : (done : List CellInput) (x : CellInput) → Stepped (course_in s done) (behind done) (node_moved (behind done) x) → Inv (course_in s done) (behind done) → Inv (next_course done x) (node_moved (behind done) x).cell) where
    each_on : (done xs : List CellInput) → On (course_in s done) (behind done) → Inv (course_in s done) (behind done) → Inv (course_in s (done ++ xs)) (behind (done ++ xs))
    each_on done [] on h = subst (λ (ys : List CellInput). Inv (course_in s ys) (behind ys)) (sym (append-nil done)) h
    each_on done (x ∷ xs) on h =
        let one : Goes (course_in s done) (behind done) (node_moved (behind done) x) = goes (course_in s done) (behind done) on x in
        subst (λ (ys : List CellInput). Inv (course_in s ys) (behind ys)) (append_assoc done (x ∷ []) xs)
        (each_on (done ++ (x ∷ [])) xs (one_more On done x one.on) (one_more Inv done x (step done x (stepped (course_in s done) (behind done) _ on one) h)))

    -- what holds at first, and goes on, holds behind all inputs
    pub each_run : Inv no_course (node_start s) → (inputs : List CellInput) → Inv (course_in s inputs) (behind inputs)
    each_run first inputs = each_on [] inputs (first_on s) first

-- ---- what is so of the act that runs is so of each question

-- of what is asked now, and of what was asked before
noted_is : (F : Place → Type 0) (a : AdminState) (o : Option Running) (e k : ℕ) (q : Question) → F q.place → ((r : Running) → o ≡ Some r → F r.place) → F (question_noted a o e k q).place
noted_is F a None e k q old new = old
noted_is F a (Some r) e k q old new = either (nat_eq e a.epoch && nat_eq k a.last) (new r refl)
  where
    either : (b : Bool) → F r.place → F (cond b (question_now a r) q).place
    either true h = h
    either false h = old

module _ (s : Script) (F : NodeCell → Place → Type 0) where
  abbrev ActsAre : NodeCell → Type 0
  ActsAre c = (n : ℕ) (r : Running) → (c.admins n).running ≡ Some r → F c r.place

  abbrev QuestionsAre : Course → NodeCell → Type 0
  QuestionsAre course c = (n e k : ℕ) → F c (course n e k).place

  -- where it stays so, whatever comes
  pub questions_are : (inputs : List CellInput) → ((done : List CellInput) → ActsAre (cell_behind (node_start s) done)) →
      ((done : List CellInput) (x : CellInput) (p : Place) → F (cell_behind (node_start s) done) p → F (node_moved (cell_behind (node_start s) done) x).cell p) → F (node_start s) (places.Seeks causes.Asked) →
      QuestionsAre (course_in s inputs) (cell_behind (node_start s) inputs)
  questions_are inputs acts stays first =
      each_run s QuestionsAre (λ done x stepped h n e k.
      let c : NodeCell = cell_behind (node_start s) done in
      let d : NodeCell = (node_moved c x).cell in
      let new : ActsAre d = subst ActsAre (cell_more (node_start s) done x) (acts (done ++ x ∷ [])) in
      noted_is (F d) (d.admins n) (d.admins n).running e k (course_in s done n e k) (stays done x (course_in s done n e k).place (h n e k)) (new n)) (λ n e k. first) inputs

-- ---- what is known at each question

-- F is asked of the place of each question: of those that were asked, of first ones, and of those that follow an answer or a refusal.
module _ (course : Course) (c : NodeCell) (m : NodeMoved) (t : Stepped course c m) (F : Place → Type 0) (kept : (n e k : ℕ) → F (course n e k).place) (begun : (q : Question) → Begins q → F q.place)
    (answers : (n e k : ℕ) (q : Question) → WasAnswered c.sent n e k (course n e k) q → F q.place) (refusals : (p : Place) (code : Code) (q : Place) → F p → LeadsTo q (refused p code) → F q) where
  follows_is : (n e k : ℕ) (q : Question) → Follows c.sent n e k (course n e k) q → F q.place
  follows_is n e k q (inl x) = begun q x
  follows_is n e k q (inr (inl x)) = answers n e k q x
  follows_is n e k q (inr (inr x)) = refusals (course n e k).place x.code q.place (kept n e k) x.leads

  runs_is : (n : ℕ) (r : Running) → IsNew course c.sent n (c.admins n) (m.cell.admins n) r ⊎ IsOld (c.admins n) (m.cell.admins n) r → F r.place
  runs_is n r (inl new) = follows_is n (c.admins n).epoch (c.admins n).last (question_now (m.cell.admins n) r) new.follows
  runs_is n r (inr old) = subst (λ (q : Question). F q.place) (t.before.acts n r old.running).now (kept n (c.admins n).epoch (c.admins n).last)

  pub asked_is : (n e k : ℕ) → F (course_on course m.cell.admins n e k).place
  asked_is n e k = noted_is F (m.cell.admins n) (m.cell.admins n).running e k (course n e k) (kept n e k) (λ r is. runs_is n r ((t.asks n).acts r is))
