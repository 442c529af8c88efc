use Rattle.std.proofs.Common.{◌≤◌, ◌<◌, ap, sym, length, arith}
use Rattle.std.specs.Prelude.{is_some}
use Rattle.afs_entries.specs.Cached.{same_slot}
use Rattle.afs_entries.proofs.Behind.{nothing_behind, not_there, seen_there}
use Rattle.afs_entries.proofs.putting.is_in_tail.Goals as goal

pub returns-then-len-count : goal.returns-then-len-count
returns-then-len-count c =
    let few : length c.next_back.new.self < c.args.count = omega (arith, c.len.ensures.value, c.if-len-count.true) in
    let none = not_there (same_slot c.args.slot.now) c.args.entries.now.entries c.loop-key.pairs c.next_back.new.self (c.in-Some.key.now, c.in-Some.field-0-1.now) c.in-Some.ensures.steps c.loop-key.invariant.front c.args.count few c.loop-key.invariant.missing in
    sym (ap is_some none)

pub returns-then-eq : goal.returns-then-eq
returns-then-eq c =
    let many : c.args.count ≤ length c.next_back.new.self = omega (arith, c.len.ensures.value, c.if-len-count.false) in
    sym (seen_there (same_slot c.args.slot.now) c.args.entries.now.entries c.loop-key.pairs c.next_back.new.self (c.in-Some.key.now, c.in-Some.field-0-1.now) c.in-Some.ensures.steps c.loop-key.invariant.front c.args.count many (sym c.if-eq.ensures))

pub returns : goal.returns
returns c = sym (ap is_some (nothing_behind (same_slot c.args.slot.now) c.args.count c.args.entries.now.entries c.loop-key.pairs c.in_default.ensures.steps.0 c.loop-key.invariant.missing))
