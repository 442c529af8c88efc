-- Between two calls under one stamp, behind the call that the stamp was given to, the act has one task.
use Rattle.std.proofs.Common.{◌≡◌, ◌≤◌, ◌<◌, ◌⊎◌, inl, inr, ℕ, zero, suc, List, Option, Some, None, refl, sym, subst, arith, ◌∙◌}
use Rattle.afs_num.specs.declared.messages.Message.{Message}
use Rattle.afs_num.specs.declared.messages.Carried.{Carried}
use Rattle.afs_num.specs.declared.types.Node.TheVariants.{Admin}
use Rattle.spec_adminrows.specs.Acts.{answered, begins_with, refused}
use Rattle.spec_adminrows.specs.declared.places.Place.{Place}
use Rattle.spec_rows.specs.Runs.{message_at}
use Rattle.law_stamps.specs.Given.{given_in}
use Rattle.law_stamp_owners.proofs.PlaceStamps.{first_is, stamp_at_place, AtPlace}
use Rattle.law_courses.specs.Courses.{Course, Follows, Question, Way}
use Rattle.law_courses.specs.Tasks.{task_at, Task}
use Rattle.law_courses.proofs.Continuing.{answered_keeps, leads_is, refused_keeps, Keeps}

-- so many numbers on
abbrev pub up : ℕ → ℕ → ℕ
up zero k = k
up (suc d) k = suc (up d k)

-- a reply to the call of this number that gives the stamp was sent
pub record WasGiven (sent : List Message) (n epoch number stamp : ℕ) : Type 0 where
  pub place : ℕ
  pub m : Message
  pub there : message_at sent place ≡ Some m
  pub to : m.head.to ≡ Admin n
  pub in_epoch : m.head.epoch ≡ epoch
  pub of_number : m.head.number ≡ number
  pub gives : given_in m.carried ≡ Some stamp

module _ (course : Course) (sent : List Message) (n epoch : ℕ) where
  abbrev at : ℕ → Place
  at k = (course n epoch k).place

  -- from one question to the next
  pub next_keeps : (k : ℕ) (b q : Question) → Follows sent n epoch k b q → Keeps (stamp_at_place b.place) (task_at b.place) (WasGiven sent n epoch k) q.place
  next_keeps k b q (inl begins) = inl (leads_is (AtPlace (λ (s : ℕ). s ≡ 0) refl) q.place (begins_with q.errand.act begins.0) (first_is (λ (s : ℕ). s ≡ 0) refl q.errand.act begins.0) begins.1)
  next_keeps k b q (inr (inl a)) =
      leads_is (Keeps (stamp_at_place b.place) (task_at b.place) (WasGiven sent n epoch k)) q.place (answered b.errand b.place a.reply)
      (answered_keeps (WasGiven sent n epoch k) b.errand b.place a.reply (λ stamp is. record {
        place = a.place;
        m = a.m;
        there = a.there;
        to = a.to;
        in_epoch = a.in_epoch;
        of_number = a.of_number;
        gives = subst (λ (x : Carried). given_in x ≡ Some stamp) (sym a.says) is;
      })) a.leads
  next_keeps k b q (inr (inr r)) =
      leads_is (Keeps (stamp_at_place b.place) (task_at b.place) (WasGiven sent n epoch k)) q.place (refused b.place r.code) (refused_keeps (WasGiven sent n epoch k) b.place r.code) r.leads

  -- the stamp was there before, with that task
  pub record Was (stamp k j : ℕ) : Type 0 where
    pub under : stamp_at_place (at k) ≡ stamp
    pub task : (task_at (at j) ≡ task_at (at k)) ⊎ (task_at (at j) ≡ None)

  either_task : (a b c : Option Task) → (c ≡ b) ⊎ (c ≡ None) → (b ≡ a) ⊎ (b ≡ None) → (c ≡ a) ⊎ (c ≡ None)
  either_task a b c (inl same) (inl before) = inl (same ∙ before)
  either_task a b c (inl same) (inr none) = inr (same ∙ none)
  either_task a b c (inr none) before = inr none

  le_up : (d k : ℕ) → k ≤ up d k
  le_up zero k = omega (arith)
  le_up (suc d) k = let le : k ≤ up d k = le_up d k in omega (arith, le)

  pub one_task : (d k stamp : ℕ) → (stamp ≡ 0 → ⊥) → stamp_at_place (at (up d k)) ≡ stamp → Way course sent n epoch (up d k) → ((i : ℕ) → k ≤ i → i < up d k → WasGiven sent n epoch i stamp → ⊥) → Was stamp k (up d k)
  one_task zero k stamp some is way given = record { under = is; task = inl refl }
  one_task (suc d) k stamp some is way given = by (λ before. one_task d k stamp some before way.1 (λ i low high. given i low (omega (arith, high)))) (next_keeps (up d k) (course n epoch (up d k)) (course n epoch (suc (up d k))) way.0)
    where
      by : (stamp_at_place (at (up d k)) ≡ stamp → Was stamp k (up d k)) → Keeps (stamp_at_place (at (up d k))) (task_at (at (up d k))) (WasGiven sent n epoch (up d k)) (at (suc (up d k))) → Was stamp k (suc (up d k))
      by before (inl none) = absurd (some (sym is ∙ none))
      by before (inr (inl same)) =
          let w : Was stamp k (up d k) = before (sym same.0 ∙ is) in
          record { under = w.under; task = either_task (task_at (at k)) (task_at (at (up d k))) (task_at (at (suc (up d k)))) same.1 w.task }
      by before (inr (inr new)) =
          let less : up d k < suc (up d k) = omega (arith) in
          absurd (given (up d k) (le_up d k) less (subst (λ (s : ℕ). WasGiven sent n epoch (up d k) s) is new))
