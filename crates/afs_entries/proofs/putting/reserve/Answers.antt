use Rattle.std.proofs.Common.{◌≤◌, length, subst, ◌∙◌, List, arith}
use Rattle.afs_entries.specs.declared.cache.Slot.{Slot}
use Rattle.afs_entries.specs.declared.cache.Fresh.{Fresh}
use Rattle.afs_entries.specs.Cached.{HasAll, HasKey}
use Rattle.afs_entries.proofs.Behind.{all_more, front_on}
use Rattle.afs_entries.proofs.Removing.{whole}
use Rattle.afs_entries.proofs.putting.reserve.Goals as goal

pub loop-one-preserved : goal.loop-one-preserved
loop-one-preserved c =
    let key = subst (λ (s : Slot). HasKey s c.reserve_one.new.entries) c.slot_for.ensures c.in_ok-reserve_one.ensures.key in
    record {
      front = front_on c.args.entries.now.entries c.loop-one.entries.entries c.reserve_one.new.entries.entries c.loop-one.invariant.front c.reserve_one.ensures.front;
      keys = all_more c.args.fresh.now c.loop-one.one-index c.one-item.result c.loop-one.entries c.reserve_one.new.entries c.loop-one-test.true c.one-item.is c.reserve_one.ensures.front c.loop-one.invariant.keys key;
      wide = c.reserve_one.ensures.wide ∙ c.loop-one.invariant.wide;
    }

pub returns-clause-keys : goal.returns-clause-keys
returns-clause-keys c =
    let all : length c.args.fresh.now ≤ c.loop-one.one-index = omega (arith, c.loop-one-test.false) in
    subst (λ (fs : List Fresh). HasAll fs c.loop-one.entries) (whole c.loop-one.one-index c.args.fresh.now all) c.loop-one.invariant.keys
