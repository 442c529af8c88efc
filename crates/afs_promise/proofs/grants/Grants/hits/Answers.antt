use Rattle.std.proofs.Common.{◌≡◌, ◌<◌, ◌++◌, ℕ, List, rules, sym, ap, subst, ◌∙◌}
use Rattle.std.specs.List.{AllByRecursion}
use Rattle.indexmap.specs.IndexMap.{get}
use Rattle.spec_breaks.specs.declared.types.Promise.{Promise}
use Rattle.spec_breaks.specs.Promises.{hits, lasting}
use Rattle.afs_promise.specs.declared.types.Grant.{Grant}
use Rattle.afs_promise.specs.Gathered.{found_by, IsInOrder}
use Rattle.afs_promise.specs.Granting.{Granted, held, same_holding, since}
use Rattle.afs_promise.proofs.Gathering.{found_below, in_order}
use Rattle.afs_promise.proofs.Since.{held_from_start}
use Rattle.afs_promise.proofs.grants.Grants.hits.Goals as goal

pub add_in_order-requires : goal.add_in_order-requires
add_in_order-requires c =
    let all : c.deref-2.result.now ≡ found_by (get same_holding c.self.inside.latest) c.args.except c.args.fid c.self.inside.clients.items = search rules in
    subst (λ (gs : List Grant). AllByRecursion (λ (g : Grant). g.order < c.self.inside.next) gs) (sym all) (found_below c.args.except c.args.fid c.self.invariant.0 c.self.inside.clients.items)

pub returns-clause-ok : goal.returns-clause-ok
returns-clause-ok c =
    let latest = get same_holding c.self.inside.latest in
    let log = c.self.inside.log.items in
    let all : c.deref-2.result.now ≡ found_by latest c.args.except c.args.fid c.self.inside.clients.items = search rules in
    let told = λ (from : ℕ). hits c.args.except c.args.fid (held (since from latest) log) in
    let order : IsInOrder c.deref-2.result.now told = subst (λ (gs : List Grant). IsInOrder gs told) (sym all) (in_order c.args.except c.args.fid c.self.invariant.0) in
    c.in_ok-add_in_order.ensures.ok told order
    ∙ (ap (λ (ps : List Promise). c.args.out.now.items ++ lasting c.args.now (hits c.args.except c.args.fid ps)) (held_from_start latest log)
    ∙ ap (λ (v : Granted). c.args.out.now.items ++ lasting c.args.now (hits c.args.except c.args.fid v.promises)) c.self.view_is)
