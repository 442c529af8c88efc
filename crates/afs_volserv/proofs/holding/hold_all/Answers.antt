use Rattle.std.proofs.Common.{◌≡◌, ℕ, arith, rules, subst, ◌∙◌}
use Rattle.spec_ideal.specs.Tables.{set}
use Rattle.spec_volrows.specs.VolStates.{Transaction}
use Rattle.afs_volserv.proofs.Held.{hold_next}
use Rattle.afs_volserv.proofs.holding.hold_all.Goals as goal

pub loop-behind-preserved : goal.loop-behind-preserved
loop-behind-preserved g c =
    let put : c.hold.new.store.holds.table ≡ set c.index-later-later.result.1.volume c.index-later-later.result.1.flags c.loop-behind.store.holds.table = search rules in
    let here = subst (λ (p : ℕ × Transaction). c.hold.new.store.holds.table ≡ set p.1.volume p.1.flags c.loop-behind.store.holds.table) c.index-later-later.is put in
    record {
      holds = hold_next c.loop-behind.behind c.args.later.now _ c.loop-behind.store.holds.table c.hold.new.store.holds.table c.loop-behind-test.true c.loop-behind.invariant.holds here;
      room = omega (arith, c.loop-behind.invariant.room, c.hold.ensures.room);
      rest = c.hold.ensures.rest ∙ (λ i. record (c.loop-behind.invariant.rest i) { holds = c.hold.new.store.holds });
    }
