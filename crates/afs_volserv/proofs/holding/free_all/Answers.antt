use Rattle.std.proofs.Common.{◌≡◌, ◌<◌, ℕ, true, is_some, arith, subst, ◌∙◌}
use Rattle.spec_ideal.specs.Tables.{get, unset}
use Rattle.spec_volrows.specs.VolStates.{Transaction}
use Rattle.afs_volserv.proofs.Held.{free_next}
use Rattle.afs_volserv.proofs.holding.free_all.Goals as goal

pub loop-item-preserved : goal.loop-item-preserved
loop-item-preserved g c =
    let old = c.loop-item.store.holds in
    let new = c.free.new.self.holds in
    let table = subst (λ (p : ℕ × Transaction). new.table ≡ unset p.1.volume old.table) c.item-item.is (subst (λ (p : ℕ × Transaction). new.table ≡ unset p.1.volume old.table) c.item.view_is c.free.ensures.table) in
    let more = subst (λ (p : ℕ × Transaction). is_some (get p.1.volume old.table) ≡ true → old.room < new.room) c.item-item.is (subst (λ (p : ℕ × Transaction). is_some (get p.1.volume old.table) ≡ true → old.room < new.room) c.item.view_is c.free.ensures.room) in
    let f = free_next c.loop-item.item-index c.args.former.now c.item-item.result old.table new.table c.loop-item-test.true c.loop-item.invariant.holds c.loop-item.invariant.alone table in
    let less = more f.held in
    record {
      holds = f.holds;
      alone = f.alone;
      room = omega (arith, c.loop-item.invariant.room, less);
      rest = c.free.ensures.rest ∙ (λ i. record (c.loop-item.invariant.rest i) { holds = new });
    }
