-- What is known behind a fence goes on over a call of the location database.
use Rattle.std.proofs.Common.{◌≡◌, ◌<◌, ℕ, Option, refl, sym, ap, subst, arith, ◌∙◌}
use Rattle.std.specs.Prelude.{⊤}
use Rattle.spec_runs.specs.NodeRuns.{NodeCell}
use Rattle.law_stamps.specs.Stamps.{next_stamp}
use Rattle.law_stored_stamps.specs.Surveys.{IsSurveyed}
use Rattle.spec_adminrows.specs.Asks.{family}
use Rattle.spec_adminrows.specs.declared.places.Hold.{Hold}
use Rattle.spec_adminrows.specs.declared.places.Moving.TheVariants as moving
use Rattle.spec_adminrows.specs.declared.places.Place.{Place}
use Rattle.spec_adminrows.specs.declared.places.Place.TheVariants as places
use Rattle.spec_adminrows.specs.declared.places.Removing.TheVariants as removing
use Rattle.law_stamp_owners.proofs.PlaceStamps.{stamp_at_place}
use Rattle.law_courses.specs.Courses.{Course}
use Rattle.law_courses.specs.Tasks.{task_at, Task}
use Rattle.law_locks.specs.Grips.{grip_at, grip_of, GripIs}
use Rattle.law_locks.specs.Lines.{IsDrawnFor}
use Rattle.law_one_server.specs.Knows.{Knows}
use Rattle.law_one_server.proofs.KnownOneMore.{also_knows, with_place, IsAlso}
use Rattle.law_one_server.proofs.FencesRan.{KnowsBehind}
use Rattle.law_one_server.proofs.DatabaseCalls.{Agree, Grounds, Stands}
use Rattle.law_one_server.proofs.EntriesName.{UsableAt}

-- the same is locked at both places, in the same task
pub record IsLike (p q : Place) (h : Hold) : Type 0 where
  pub grip : grip_at p ≡ grip_of h
  pub its : stamp_at_place p ≡ h.stamp
  pub stamp : stamp_at_place p ≡ stamp_at_place q
  pub task : task_at p ≡ task_at q

-- n, e and k are the question that is served
module _ (course : Course) (c d : NodeCell) (g : Grounds course c) (n e k : ℕ) where
  -- a place that is like a question's
  module _ (i j l : ℕ) (p : Place) (h : Hold) (like : IsLike p (course i j l).place h) (drawn : GripIs (IsDrawnFor g.entry_of (next_stamp c)) (grip_of h)) where
    some : stamp_at_place (course n e k).place ≡ stamp_at_place p → stamp_at_place (course n e k).place ≡ 0 → ⊥
    some same none = let above : 0 < h.stamp = drawn.0.0 in let is : h.stamp ≡ 0 = sym like.its ∙ (sym same ∙ none) in omega (arith, above, is)

    pub like_also : Knows c p → UsableAt p → IsSurveyed c p → IsAlso course c g n e k p
    like_also knows usable surveyed = record {
      drawn = subst (GripIs (IsDrawnFor g.entry_of (next_stamp c))) (sym like.grip) drawn;
      knows = knows;
      usable = usable;
      surveyed = surveyed;
      agrees = λ same. subst (Agree (task_at (course n e k).place)) (sym like.task) (g.one n e k i j l (same ∙ like.stamp) (some same));
    }

  module _ (stands : (p : Place) (a : IsAlso course c g n e k p) → Stands (with_place course c g n e k p a) d) where
    drawn_at : (i j l : ℕ) (p : Place) → (course i j l).place ≡ p → GripIs (IsDrawnFor g.entry_of (next_stamp c)) (grip_at p)
    drawn_at i j l p is = subst (λ (q : Place). GripIs (IsDrawnFor g.entry_of (next_stamp c)) (grip_at q)) is (g.drawn i j l)

    behind_by : (i j l : ℕ) (p : Place) → (course i j l).place ≡ p → KnowsBehind c p → KnowsBehind d p
    behind_by i j l (places.Moves m (moving.Fences counter new old)) is x =
        let q : Place = places.Moves m (moving.Fills counter new old) in
        let like : IsLike q (course i j l).place m.hold = record { grip = refl; its = refl; stamp = sym (ap stamp_at_place is); task = sym (ap task_at is) } in
        let a : IsAlso course c g n e k q = like_also i j l q m.hold like (drawn_at i j l (places.Moves m (moving.Fences counter new old)) is) x (subst UsableAt is (g.usable i j l)) (subst (IsSurveyed c) is (g.surveyed i j l)) in
        also_knows course c g n e k q a d (stands q a)
    behind_by i j l (places.Removes h seen (removing.Fences t)) is x =
        let q : Place = places.Removes h seen (removing.Decides t) in
        let like : IsLike q (course i j l).place h = record { grip = refl; its = refl; stamp = sym (ap stamp_at_place is); task = sym (ap task_at is) } in
        let a : IsAlso course c g n e k q = like_also i j l q h like (drawn_at i j l (places.Removes h seen (removing.Fences t)) is) x (subst UsableAt is (g.usable i j l)) (subst (IsSurveyed c) is (g.surveyed i j l)) in
        also_knows course c g n e k q a d (stands q a)
    behind_by i j l p is x = tt

    -- at each question that was asked
    pub behind_stands : (i j l : ℕ) → KnowsBehind c (course i j l).place → KnowsBehind d (course i j l).place
    behind_stands i j l x = behind_by i j l (course i j l).place refl x
