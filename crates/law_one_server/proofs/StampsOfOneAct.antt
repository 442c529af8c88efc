-- Two questions under one stamp are of one administrator, in one epoch, and of one task.
use Rattle.law_legal.specs.Past.{answered_key}
use Rattle.std.proofs.Common.{◌≡◌, ◌≤◌, ◌<◌, ◌⊎◌, inl, inr, ℕ, zero, suc, ◌+◌, Bool, true, false, List, [], ◌∷◌, ◌++◌, Option, Some, None, refl, sym, ap, subst, arith, ◌∙◌, nat_lt}
use Rattle.std.proofs.lemmas.Bool.Decides.{nat_tests}
use Rattle.std.specs.List.{AllByRecursion}
use Rattle.afs_num.specs.declared.messages.Message.{Message}
use Rattle.afs_num.specs.declared.types.Key.{Key}
use Rattle.afs_num.specs.declared.types.Node.{Node}
use Rattle.afs_num.specs.declared.types.Node.TheVariants.{Admin}
use Rattle.spec_history.specs.declared.scripts.Script.{Script}
use Rattle.spec_runs.specs.NodeRuns.{node_start, CellInput, NodeCell}
use Rattle.law_places.specs.Accepting.{cell_behind}
use Rattle.law_stamps.specs.Given.{given_in, IsTheirs}
use Rattle.law_walks.proofs.Seats.{found_at}
use Rattle.law_stamp_owners.proofs.PlaceStamps.{stamp_at_place}
use Rattle.law_courses.specs.Courses.{Course, Way}
use Rattle.law_courses.specs.Tasks.{task_at, Task}
use Rattle.law_courses.proofs.Continuing.{Keeps}
use Rattle.law_courses.proofs.OneTask.{next_keeps, one_task, up, Was, WasGiven}

-- ---- whence a stamp is

module _ (course : Course) (sent : List Message) (n epoch : ℕ) where
  abbrev stamp_at : ℕ → ℕ
  stamp_at k = stamp_at_place (course n epoch k).place

  -- it was given to an earlier call
  pub record IsGivenBefore (k stamp : ℕ) : Type 0 where
    pub number : ℕ
    pub earlier : number < k
    pub given : WasGiven sent n epoch number stamp

  later : (k stamp : ℕ) → IsGivenBefore k stamp → IsGivenBefore (suc k) stamp
  later k stamp g = record { number = g.number; earlier = (let e : g.number < k = g.earlier in omega (arith, e)); given = g.given }

  pub given_before : (k stamp : ℕ) → (stamp ≡ 0 → ⊥) → stamp_at 0 ≡ 0 → Way course sent n epoch k → stamp_at k ≡ stamp → IsGivenBefore k stamp
  given_before zero stamp some first way is = absurd (some (sym is ∙ first))
  given_before (suc k) stamp some first way is = by (λ before. given_before k stamp some first way.1 before) (next_keeps course sent n epoch k (course n epoch k) (course n epoch (suc k)) way.0)
    where
      by : (stamp_at k ≡ stamp → IsGivenBefore k stamp) → Keeps (stamp_at k) (task_at (course n epoch k).place) (WasGiven sent n epoch k) (course n epoch (suc k)).place → IsGivenBefore (suc k) stamp
      by before (inl none) = absurd (some (sym is ∙ none))
      by before (inr (inl same)) = later k stamp (before (sym same.0 ∙ is))
      by before (inr (inr new)) = record { number = k; earlier = omega (arith); given = subst (WasGiven sent n epoch k) is new }

-- ---- to one call

abbrev key_of : Node → ℕ → ℕ → Key
key_of x e k = record { node = x; epoch = e; number = k }

module _ (owner : ℕ → Key) (next : ℕ) (sent : List Message) (theirs : AllByRecursion (IsTheirs owner next) sent) where
  -- the call that a stamp was given to
  pub owner_is : (n epoch number stamp : ℕ) → WasGiven sent n epoch number stamp → owner stamp ≡ record { node = Admin n; epoch = epoch; number = number }
  owner_is n epoch number stamp g =
      let key : answered_key g.m.head ≡ owner stamp = (found_at (IsTheirs owner next) g.place sent g.m theirs g.there stamp g.gives).1 in
      sym key ∙ (ap (λ (x : Node). key_of x g.m.head.epoch g.m.head.number) g.to ∙ (ap (λ (x : ℕ). key_of (Admin n) x g.m.head.number) g.in_epoch ∙ ap (λ (x : ℕ). key_of (Admin n) epoch x) g.of_number))

  node_same : (n i : ℕ) → Admin n ≡ Admin i → n ≡ i
  node_same n i e = cc

  pub one_owner : (n e k i j l stamp : ℕ) → WasGiven sent n e k stamp → WasGiven sent i j l stamp → (n ≡ i) × ((e ≡ j) × (k ≡ l))
  one_owner n e k i j l stamp a b =
      let same = sym (owner_is n e k stamp a) ∙ owner_is i j l stamp b in
      (node_same n i (ap (λ (x : Key). x.node) same), (ap (λ (x : Key). x.epoch) same, ap (λ (x : Key). x.number) same))

  -- ---- of one task

  module _ (course : Course) (n epoch : ℕ) (first : stamp_at_place (course n epoch 0).place ≡ 0) where
    abbrev task : ℕ → Option Task
    task k = task_at (course n epoch k).place

    -- from the earlier question to the later one: none is given the stamp between them
    not_between : (k stamp : ℕ) → IsGivenBefore course sent n epoch k stamp → (i : ℕ) → k ≤ i → WasGiven sent n epoch i stamp → ⊥
    not_between k stamp g i le given =
        let same : g.number ≡ i = (one_owner n epoch g.number n epoch i stamp g.given given).1.1 in
        let less : g.number < k = g.earlier in
        omega (arith, same, less, le)

    pub task_stays : (d k stamp : ℕ) → (stamp ≡ 0 → ⊥) → Way course sent n epoch (up d k) → Way course sent n epoch k → stamp_at_place (course n epoch k).place ≡ stamp → stamp_at_place (course n epoch (up d k)).place ≡ stamp → (task (up d k) ≡ task k) ⊎ (task (up d k) ≡ None)
    task_stays d k stamp some way before at_k at_end =
        (one_task course sent n epoch d k stamp some at_end way (λ i le less given. not_between k stamp (given_before course sent n epoch k stamp some first before at_k) i le given)).task
