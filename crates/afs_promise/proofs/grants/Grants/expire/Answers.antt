use Rattle.std.proofs.Common.{◌≡◌, ◌<◌, ◌+◌, ◌++◌, ◌∷◌, [], refl, sym, ap, subst, ◌∙◌, arith, length, ℕ, List, take}
use Rattle.indexmap.specs.IndexMap.{get}
use Rattle.afs_promise.specs.declared.types.Grant.{Grant}
use Rattle.spec_breaks.specs.Promises.{lasting}
use Rattle.afs_promise.specs.Granting.{holding_in, same_holding, held, IsIn}
use Rattle.afs_promise.proofs.Logs.{is_counted}
use Rattle.afs_promise.proofs.Ends.{goes, get_in, take_one_more, rest_lasts, ended_log}
use Rattle.afs_promise.proofs.grants.Grants.expire.Goals as goal

pub end_due-requires : goal.end_due-requires
end_due-requires c = λ some. is_counted (holding_in c.index.result.now) c.loop-place.invariant.is_log (get same_holding c.loop-place.self-inside.latest (holding_in c.index.result.now)) refl some

pub loop-place-preserved : goal.loop-place-preserved
loop-place-preserved c =
    let i = c.loop-place.invariant in
    let x = c.index.result.now in
    let log = c.loop-place.self-inside.log.items in
    let old = get same_holding c.loop-place.self-inside.latest in
    let new = get same_holding c.end_due.new.latest in
    let here : c.loop-place.place < length log = omega (arith, c.loop-place-test.true, i.within) in
    let more : take (c.loop-place.place + 1) log ≡ take c.loop-place.place log ++ x ∷ [] = take_one_more c.loop-place.place x log here ∙ ap (λ (g : Grant). take c.loop-place.place log ++ g ∷ []) (sym c.index.ensures) in
    let g = goes old new c.args.now x log c.loop-place.self-inside.clients.items c.loop-place.self-inside.ended c.loop-place.self-inside.count c.end_due.new.count c.loop-place.self-inside.next c.loop-place.self-inside.rising c.loop-place.self-inside.highest (subst (λ (y : Grant). IsIn y log) (sym c.index.ensures) (get_in c.loop-place.place x log here)) c.end_due.ensures.updates c.end_due.ensures.count i.is_log in
    record {
      is_log = g.is_log;
      log_room = i.log_room;
      client_room = i.client_room;
      spare = omega (arith, i.spare, c.end_due.ensures.room);
      orders = i.orders;
      room = i.room;
      lasts = g.lasts ∙ i.lasts;
      done = subst (λ (l : List Grant). lasting c.args.now (held new l) ≡ held new l) (sym more) (g.done (take c.loop-place.place log) i.done);
      until = i.until;
      within = i.within;
      behind = i.behind;
    }

pub invariant_of-self : goal.invariant_of-self
invariant_of-self c =
    let i = c.loop-place.invariant in
    let at : c.loop-place.place ≡ c.reach-until.result = omega (arith, c.loop-place-test.false, c.loop-place.auto.place-end c.reach-until.ensures.behind) in
    let done = subst (λ (n : ℕ). lasting c.args.now (held (get same_holding c.loop-place.self-inside.latest) (take n c.loop-place.self-inside.log.items)) ≡ held (get same_holding c.loop-place.self-inside.latest) (take n c.loop-place.self-inside.log.items)) at i.done in
    (ended_log c.args.now i.is_log c.if-self.true c.reach-until.result i.until i.within done, i.log_room, i.client_room, i.spare, i.orders)

pub returns-then-self-clause-promises : goal.returns-then-self-clause-promises
returns-then-self-clause-promises c =
    let i = c.loop-place.invariant in
    let at : c.loop-place.place ≡ c.reach-until.result = omega (arith, c.loop-place-test.false, c.loop-place.auto.place-end c.reach-until.ensures.behind) in
    let done = subst (λ (n : ℕ). lasting c.args.now (held (get same_holding c.loop-place.self-inside.latest) (take n c.loop-place.self-inside.log.items)) ≡ held (get same_holding c.loop-place.self-inside.latest) (take n c.loop-place.self-inside.log.items)) at i.done in
    sym (rest_lasts c.args.now i.is_log c.if-self.true c.reach-until.result i.until done) ∙ i.lasts
