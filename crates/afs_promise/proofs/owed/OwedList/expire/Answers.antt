use Rattle.std.proofs.Common.{◌≡◌, ◌+◌, ℕ, nat_eq, arith, sym, subst, ◌∙◌, if◌then◌else◌}
use Rattle.std.specs.Map.{lookup}
use Rattle.std.specs.BinaryHeap.{heap_items}
use Rattle.afs_promise.specs.Owing.{breaks_in, is_due, struck}
use Rattle.afs_promise.proofs.Breaks.{counts_some, ends, all_last}
use Rattle.afs_promise.proofs.owed.OwedList.expire.Goals as goal

pub end_due-requires : goal.end_due-requires
end_due-requires c = λ some. counts_some c.in-Some.number c.loop-number.invariant.owing some

pub loop-number-preserved : goal.loop-number-preserved
loop-number-preserved c =
    let i = c.loop-number.invariant in
    let s = c.in-Some.ensures.some in
    let entries = c.loop-number.self-inside.breaks.entries in
    let e = subst (λ (n : ℕ). c.end_due.new.breaks.entries ≡ (if is_due c.args.now (lookup (nat_eq n) entries) then struck n entries else entries)) (sym s.1) c.end_due.ensures.entries in
    let sum = subst (λ (n : ℕ). c.end_due.new.count + (if is_due c.args.now (lookup (nat_eq n) entries) then 1 else 0) ≡ c.loop-number.self-inside.count) (sym s.1) c.end_due.ensures.count in
    let g = ends entries c.end_due.new.breaks.entries (heap_items c.loop-number.self-inside.due) (heap_items c.next_due.new.due) c.args.now c.loop-number.self-inside.last c.loop-number.self-inside.count c.end_due.new.count s.0 s.3 s.2 e sum i.owing in
    record {
      owing = g.owing;
      heap = c.in-Some.ensures.heap;
      spare = omega (arith, i.spare, c.end_due.ensures.spare);
      capacity = omega (arith, i.capacity, c.next_due.ensures.len, c.next_due.ensures.capacity);
      room = i.room;
      last = i.last;
      lasts = g.lasts ∙ i.lasts;
    }

pub returns-clause-breaks : goal.returns-clause-breaks
returns-clause-breaks c =
    sym (all_last c.args.now (heap_items c.loop-number.self-inside.due) (breaks_in c.loop-number.self-inside.breaks.entries) c.in_default.ensures.none c.loop-number.invariant.owing.covered) ∙ c.loop-number.invariant.lasts
