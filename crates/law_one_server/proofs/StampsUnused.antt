-- A stamp that an act is given while it waits is under no question yet that was asked.
use Rattle.law_legal.specs.Past.{answered_key}
use Rattle.std.proofs.Common.{◌≡◌, ◌<◌, ◌≤◌, ◌⊎◌, inl, inr, ℕ, List, Option, Some, None, refl, sym, ap, subst, arith, ◌∙◌}
use Rattle.afs_num.specs.declared.messages.Message.{Message}
use Rattle.afs_num.specs.declared.types.Key.{Key}
use Rattle.afs_num.specs.declared.types.Node.{Node}
use Rattle.afs_num.specs.declared.types.Node.TheVariants.{Admin}
use Rattle.spec_history.specs.declared.scripts.Script.{Script}
use Rattle.spec_adminrows.specs.declared.turns.Running.{Running}
use Rattle.spec_runs.specs.NodeRuns.{node_start, CellInput, NodeCell}
use Rattle.law_places.specs.Accepting.{cell_behind}
use Rattle.law_stamps.specs.Given.{given_in, IsTheirs}
use Rattle.law_stamps.specs.Stamps.{next_stamp}
use Rattle.law_stamp_owners.proofs.PlaceStamps.{stamp_at_place}
use Rattle.law_stamp_owners.proofs.Walk.{all_owned, AllOwned}
use Rattle.law_courses.specs.Courses.{course_in, Course, IsUpTo, Question, Way}
use Rattle.law_one_server.proofs.ActsNumbered.{are_numbered}
use Rattle.law_one_server.proofs.StampsOfOneAct.{given_before, owner_is, IsGivenBefore}
use Rattle.law_one_server.proofs.NewsTold.{Waits}

module _ (s : Script) (inputs : List CellInput) where
  abbrev c : NodeCell
  c = cell_behind (node_start s) inputs

  abbrev course : Course
  course = course_in s inputs

  abbrev owned : AllOwned c
  owned = all_owned s inputs

  -- the act n waits at number k of epoch e, and m answers that
  module _ (n e k : ℕ) (r : Running) (waits : Waits (c.admins n) e k r) (m : Message) (its : IsTheirs owned.owner (next_stamp c) m) (to : m.head.to ≡ Admin n) (in_epoch : m.head.epoch ≡ e) (of_number : m.head.number ≡ k)
      (stamp : ℕ) (gives : given_in m.carried ≡ Some stamp) (some : stamp ≡ 0 → ⊥) where
    node_same : (i j : ℕ) → Admin i ≡ Admin j → i ≡ j
    node_same i j is = cc

    pub unused : (i f j : ℕ) → IsUpTo f j (c.admins i) → Way course c.sent i f j → stamp_at_place (course i f j).place ≡ stamp → ⊥
    unused i f j up way at =
        let before : IsGivenBefore course c.sent i f j stamp = given_before course c.sent i f j stamp some (ap (λ (q : Question). stamp_at_place q.place) ((are_numbered s inputs).zero_asks i f)) way at in
        let same : answered_key m.head ≡ record { node = Admin i; epoch = f; number = before.number } = (its stamp gives).1 ∙ owner_is owned.owner (next_stamp c) c.sent owned.theirs i f before.number stamp before.given in
        let admin : n ≡ i = node_same n i (sym to ∙ ap (λ (x : Key). x.node) same) in
        let epoch : e ≡ f = sym in_epoch ∙ ap (λ (x : Key). x.epoch) same in
        let number : k ≡ before.number = sym of_number ∙ ap (λ (x : Key). x.number) same in
        late (subst (λ (a : ℕ). IsUpTo f j (c.admins a)) (sym admin) up) epoch (let earlier : before.number < j = before.earlier in omega (arith, earlier, number))
      where
        late : IsUpTo f j (c.admins n) → e ≡ f → k < j → ⊥
        late (inl older) epoch less = let now : (c.admins n).epoch ≡ e = waits.1.0 in omega (arith, older, epoch, now)
        late (inr at_last) epoch less = let last : (c.admins n).last ≡ k = waits.1.1 in let low : j ≤ (c.admins n).last = at_last.1 in omega (arith, last, low, less)
