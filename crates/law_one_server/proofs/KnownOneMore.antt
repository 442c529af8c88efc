-- Of one more place than those that were asked: what is known there goes on over a call of the database, too.
use Rattle.std.proofs.Common.{◌≡◌, ◌⊎◌, inl, inr, ℕ, suc, Bool, true, false, cond, Option, refl, sym, subst, arith, nat_eq, eq-eqb, eqb-true}
use Rattle.spec_runs.specs.NodeRuns.{NodeCell}
use Rattle.law_stamps.specs.Stamps.{next_stamp}
use Rattle.law_stored_stamps.specs.Surveys.{IsSurveyed}
use Rattle.spec_adminrows.specs.declared.places.Place.{Place}
use Rattle.law_stamp_owners.proofs.PlaceStamps.{stamp_at_place}
use Rattle.law_courses.specs.Courses.{Course, Question}
use Rattle.law_courses.specs.Tasks.{task_at, Task}
use Rattle.law_locks.specs.Grips.{grip_at, GripIs}
use Rattle.law_locks.specs.Lines.{IsDrawnFor}
use Rattle.law_one_server.specs.Knows.{Knows}
use Rattle.law_one_server.proofs.DatabaseCalls.{Agree, Grounds, Stands}
use Rattle.law_one_server.proofs.EntriesName.{UsableAt}

-- what is to be known of it, beside the question that is served
pub record IsAlso (course : Course) (c : NodeCell) (g : Grounds course c) (n e k : ℕ) (p : Place) : Type 0 where
  pub drawn : GripIs (IsDrawnFor g.entry_of (next_stamp c)) (grip_at p)
  pub knows : Knows c p
  pub usable : UsableAt p
  pub surveyed : IsSurveyed c p
  pub agrees : stamp_at_place (course n e k).place ≡ stamp_at_place p → Agree (task_at (course n e k).place) (task_at p)

turn : (a b : Option Task) → Agree a b → Agree b a
turn a b (inl same) = inl (sym same)
turn a b (inr (inl none)) = inr (inr none)
turn a b (inr (inr none)) = inr (inl none)

module _ (course : Course) (c : NodeCell) (g : Grounds course c) (n e k : ℕ) (p : Place) (a : IsAlso course c g n e k p) where
  abbrev q : Question
  q = course n e k

  abbrev this : Question
  this = record { errand = q.errand; place = p }

  -- the course that has this place under all other numbers
  abbrev pub with_place : Course
  with_place i j l = cond (nat_eq l k) q this

  cond_is : (F : Place → Type 0) (b : Bool) → F q.place → F p → F (cond b q this).place
  cond_is F true x y = x
  cond_is F false x y = y

  agree_by : (x y : Bool) → stamp_at_place (cond x q this).place ≡ stamp_at_place (cond y q this).place → Agree (task_at (cond x q this).place) (task_at (cond y q this).place)
  agree_by true true same = inl refl
  agree_by true false same = a.agrees same
  agree_by false true same = turn (task_at q.place) (task_at p) (a.agrees (sym same))
  agree_by false false same = inl refl

  pub also : Grounds with_place c
  also = record {
    entry_of = g.entry_of;
    line = g.line;
    drawn = λ i j l. cond_is (λ (x : Place). GripIs (IsDrawnFor g.entry_of (next_stamp c)) (grip_at x)) (nat_eq l k) (g.drawn n e k) a.drawn;
    knows = λ i j l. cond_is (Knows c) (nat_eq l k) (g.knows n e k) a.knows;
    closed = g.closed;
    usable = λ i j l. cond_is UsableAt (nat_eq l k) (g.usable n e k) a.usable;
    surveyed = λ i j l. cond_is (IsSurveyed c) (nat_eq l k) (g.surveyed n e k) a.surveyed;
    one = λ i j l o r s same some. agree_by (nat_eq l k) (nat_eq s k) same;
    not_over = g.not_over;
  }

  -- the question itself stands there, and behind a step the place
  pub with_own : with_place n e k ≡ q
  with_own = subst (λ (b : Bool). cond b q this ≡ q) (sym (eq-eqb k k refl)) refl

  not_own : (b : Bool) → nat_eq (suc k) k ≡ b → (d : NodeCell) → Knows d (cond b q this).place → Knows d p
  not_own true is d h = let same : suc k ≡ k = eqb-true (suc k) k is in absurd (omega (arith, same))
  not_own false is d h = h

  pub also_knows : (d : NodeCell) → Stands with_place d → Knows d p
  also_knows d s = not_own (nat_eq (suc k) k) refl d (s.knows n e (suc k))
