use Rattle.std.proofs.Common.{rules, ◌≡◌, ℕ, List, filter, nat_eq, arith, subst}
use Rattle.std.specs.List.Sorted.{IsPermutation}
use Rattle.std.specs.BinaryHeap.{heap_items}
use Rattle.std.specs.declared.cmp.Reverse.{Reverse}
use Rattle.std.proofs.lemmas.Fn.{filter_same}
use Rattle.indexmap.specs.IndexMap.{get}
use Rattle.afs_promise.specs.Owing.{has_some}
use Rattle.afs_promise.proofs.Breaks.{kept_heap}
use Rattle.afs_promise.proofs.owed.OwedList.tidy_due.Goals as goal

pub invariant_of-self : goal.invariant_of-self
invariant_of-self c =
    let f = c.retain.ensures.filtered in
    let kept : f.0 ≡ filter (λ (d : Reverse (ℕ × ℕ)). has_some (get nat_eq c.self.inside.breaks d.0.1)) (heap_items c.self.inside.due) = filter_same _ (λ d. has_some (get nat_eq c.self.inside.breaks d.0.1)) _ (λ x b f' h. search rules) _ _ f.1 in (
      kept_heap (subst (λ (l : List (Reverse (ℕ × ℕ))). IsPermutation l (heap_items c.retain.new.self)) kept f.2) c.self.invariant.0,
      c.retain.ensures.heap_order,
      c.self.invariant.2,
      omega (arith, c.self.invariant.3, c.retain.ensures.bound, c.retain.ensures.capacity),
    )
