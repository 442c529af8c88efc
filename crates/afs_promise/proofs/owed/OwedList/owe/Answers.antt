use Rattle.std.proofs.Common.{◌≡◌, ◌+◌, ◌++◌, ◌∷◌, [], ℕ, List, Option, Some, nat_eq, refl, ap, sym, subst, arith, ◌∙◌}
use Rattle.std.specs.BinaryHeap.{heap_items}
use Rattle.indexmap.proofs.CallerLemmas.{insert_entry-new}
use Rattle.afs_num.specs.declared.types.Fid.{Fid}
use Rattle.afs_num.specs.declared.types.Node.{Node}
use Rattle.spec_breaks.specs.declared.types.OwedBreak.{OwedBreak}
use Rattle.afs_promise.specs.Owing.{Owing, IsOwing, breaks_in}
use Rattle.afs_promise.proofs.Breaks.{few, beyond, owed_on, breaks_on, at_own}
use Rattle.afs_promise.proofs.owed.OwedList.owe.Goals as goal

pub overflow_add-self : goal.overflow_add-self
overflow_add-self c = omega (arith, c.self.invariant.0.counted, few 0 c.self.inside.last c.self.inside.breaks.entries c.self.invariant.0.ascends, ap (λ (v : Owing). v.last) c.self.view_is, c.requires.number)

abbrev owed_of : ℕ → Node → Option Fid → ℕ → OwedBreak
owed_of number client what expiry = record { number = number; client = client; what = what; expiry = expiry }

pub invariant_of-self-2 : goal.invariant_of-self-2
invariant_of-self-2 c =
    let o = owed_of (c.self.inside.last + 1) c.args.client c.args.what c.args.expiry in
    let on : c.insert.new.self.entries ≡ c.self.inside.breaks.entries ++ (c.self.inside.last + 1, Some o) ∷ [] =
    c.in_ok-insert.ensures.entries ∙ insert_entry-new nat_eq c.self.inside.breaks (c.self.inside.last + 1) (Some o) (beyond 0 c.self.inside.last (c.self.inside.last + 1) c.self.inside.breaks.entries (omega arith) c.self.invariant.0.ascends)
    in (
      subst (λ (es : List (ℕ × Option OwedBreak)). IsOwing es (heap_items c.push.new.self) (c.self.inside.last + 1) (c.self.inside.count + 1)) (sym on) (owed_on o _ refl (at_own c.args.expiry (c.self.inside.last + 1)) c.in_ok-push.ensures.permutation c.self.invariant.0),
      c.in_ok-push.ensures.heap_order c.self.invariant.1,
      omega (arith, c.self.invariant.2, c.insert.ensures.spare),
      omega (arith, c.self.invariant.3, c.in_ok-push.ensures.len, c.push.ensures.capacity, c.requires.room, ap (λ (v : Owing). v.room) c.self.view_is),
    )

pub returns-clause-breaks : goal.returns-clause-breaks
returns-clause-breaks c =
    let o = owed_of (c.self.inside.last + 1) c.args.client c.args.what c.args.expiry in
    let on : c.insert.new.self.entries ≡ c.self.inside.breaks.entries ++ (c.self.inside.last + 1, Some o) ∷ [] =
    c.in_ok-insert.ensures.entries ∙ insert_entry-new nat_eq c.self.inside.breaks (c.self.inside.last + 1) (Some o) (beyond 0 c.self.inside.last (c.self.inside.last + 1) c.self.inside.breaks.entries (omega arith) c.self.invariant.0.ascends)
    in
    ap breaks_in on ∙ (breaks_on (c.self.inside.last + 1) o c.self.inside.breaks.entries ∙ ap (λ (v : Owing). v.breaks ++ owed_of (v.last + 1) c.args.client c.args.what c.args.expiry ∷ []) c.self.view_is)
