-- No question is asked under the number 0.
use Rattle.std.proofs.Common.{◌≡◌, ◌<◌, ◌⊎◌, inl, inr, ℕ, ◌+◌, Bool, true, false, cond, List, Option, Some, None, refl, sym, subst, arith, ◌∙◌, nat_eq, eqb-true}
use Rattle.std.specs.Prelude.{◌&&◌}
use Rattle.spec_history.specs.declared.scripts.Script.{Script}
use Rattle.spec_adminrows.specs.AdminRow.{AdminState}
use Rattle.spec_adminrows.specs.declared.turns.Running.{Running}
use Rattle.spec_runs.specs.NodeRuns.{node_start, CellInput, NodeCell, NodeMoved}
use Rattle.law_places.specs.Accepting.{cell_behind}
use Rattle.law_courses.specs.Courses.{course_in, course_on, no_course, question_noted, question_now, Course, Question}
use Rattle.law_courses.proofs.Asking.{IsNew, IsOld}
use Rattle.law_courses.proofs.Runs.{each_run, Stepped}
use Rattle.law_one_server.proofs.EntriesName.{second_of}

pub record AreNumbered (course : Course) (c : NodeCell) : Type 0 where
  pub zero_asks : (n epoch : ℕ) → course n epoch 0 ≡ no_course n epoch 0
  pub runs : (n : ℕ) (r : Running) → (c.admins n).running ≡ Some r → 0 < (c.admins n).last

module _ (course : Course) (c : NodeCell) (m : NodeMoved) (t : Stepped course c m) (h : AreNumbered course c) where
  above : (n : ℕ) (r : Running) → IsNew course c.sent n (c.admins n) (m.cell.admins n) r ⊎ IsOld (c.admins n) (m.cell.admins n) r → 0 < (m.cell.admins n).last
  above n r (inl new) = let next : (m.cell.admins n).last ≡ (c.admins n).last + 1 = new.last in omega (arith, next)
  above n r (inr old) = subst (λ (k : ℕ). 0 < k) (sym old.last) (h.runs n r old.running)

  cond_zero : (n epoch : ℕ) (b : Bool) (q : Question) → (b ≡ true → ⊥) → cond b q (course n epoch 0) ≡ no_course n epoch 0
  cond_zero n epoch true q never = absurd (never refl)
  cond_zero n epoch false q never = h.zero_asks n epoch

  not_zero : (epoch : ℕ) (a : AdminState) → 0 < a.last → (nat_eq epoch a.epoch && nat_eq 0 a.last) ≡ true → ⊥
  not_zero epoch a some e = let none : 0 ≡ a.last = eqb-true 0 a.last (second_of (nat_eq epoch a.epoch) (nat_eq 0 a.last) e) in omega (arith, some, none)

  zero_by : (n epoch : ℕ) (o : Option Running) → (m.cell.admins n).running ≡ o → question_noted (m.cell.admins n) o epoch 0 (course n epoch 0) ≡ no_course n epoch 0
  zero_by n epoch None is = h.zero_asks n epoch
  zero_by n epoch (Some r) is = cond_zero n epoch (nat_eq epoch (m.cell.admins n).epoch && nat_eq 0 (m.cell.admins n).last) (question_now (m.cell.admins n) r) (not_zero epoch (m.cell.admins n) (above n r ((t.asks n).acts r is)))

  next_numbered : AreNumbered (course_on course m.cell.admins) m.cell
  next_numbered = record { zero_asks = λ n epoch. zero_by n epoch (m.cell.admins n).running refl; runs = λ n r is. above n r ((t.asks n).acts r is) }

-- so it is in every run
pub are_numbered : (s : Script) (inputs : List CellInput) → AreNumbered (course_in s inputs) (cell_behind (node_start s) inputs)
are_numbered s inputs = each_run s AreNumbered (λ done x t h. next_numbered (course_in s done) (cell_behind (node_start s) done) _ t h) (record { zero_asks = λ n epoch. refl; runs = λ n r is. absurd cc }) inputs
