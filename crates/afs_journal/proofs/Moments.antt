-- How what a crash may leave goes on from one device call to the next.
use Rattle.std.proofs.Common.{inl, inr, ⊎_elim, ℕ, List, Option, arith}
use Rattle.afs_disk.specs.Disk.{Passes, LeavesOnly, SameDisk}

module _ {D : Type 0} (moment : D → ℕ) (left_since : D → ℕ → List ℕ → Type 0) where
  -- before the first call
  pub begins : (old : D) (P : List ℕ → Type 0) → ((c : List ℕ) → left_since old (moment old) c → P c) → LeavesOnly moment left_since old old P
  begins old P here = record { later = omega arith; each = here; before = λ t c le left. inl left }

  -- one call more, after which a crash leaves what has P
  pub goes_on : (old mid new : D) (P may_leave : List ℕ → Type 0) → LeavesOnly moment left_since old mid P → Passes (moment mid) (moment new) (left_since mid) (left_since new) may_leave
      → ((c : List ℕ) → may_leave c → P c) → LeavesOnly moment left_since old new P
  goes_on old mid new P may_leave so_far passes here = record {
    later = omega (arith, so_far.later, passes.later);
    each = λ c left. ⊎_elim (so_far.each c) (here c) (passes.no_more (moment old) c so_far.later left);
    before = λ t c le left. ⊎_elim (so_far.before t c le) (λ now. inr (here c now)) (passes.no_more t c (omega (arith, le, so_far.later)) left);
  }

  -- one run after another
  pub and_on : (old mid new : D) (P Q : List ℕ → Type 0) → LeavesOnly moment left_since old mid P → LeavesOnly moment left_since mid new Q → ((c : List ℕ) → Q c → P c) → LeavesOnly moment left_since old new P
  and_on old mid new P Q first second inside = record {
    later = omega (arith, first.later, second.later);
    each = λ c left. ⊎_elim (first.each c) (inside c) (second.before (moment old) c first.later left);
    before = λ t c le left. ⊎_elim (first.before t c le) (λ held. inr (inside c held)) (second.before t c (omega (arith, le, first.later)) left);
  }

  pub weaker : (old new : D) (P Q : List ℕ → Type 0) → LeavesOnly moment left_since old new Q → ((c : List ℕ) → Q c → P c) → LeavesOnly moment left_since old new P
  weaker old new P Q so_far inside = record {
    later = so_far.later;
    each = λ c left. inside c (so_far.each c left);
    before = λ t c le left. ⊎_elim (λ was. inl was) (λ held. inr (inside c held)) (so_far.before t c le left);
  }

  -- nothing but the room changed
  pub unmoved : (seen : D → Option (List ℕ)) (left_by : D → ℕ → Option (List ℕ)) (size : D → ℕ) (may_leave : D → List ℕ → Type 0) (just_now : (d : D) (c : List ℕ) → left_since d (moment d) c → may_leave d c) (old new : D) (P : List ℕ → Type 0)
      → SameDisk seen left_by size may_leave moment left_since old new → ((c : List ℕ) → may_leave old c → P c) → LeavesOnly moment left_since old new P
  unmoved seen left_by size may_leave just_now old new P same here = record {
    later = omega (arith, same.same_moment);
    each = λ c left. here c (just_now old c (same.since (moment old) c left));
    before = λ t c le left. inl (same.since t c left);
  }
