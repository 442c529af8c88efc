use Rattle.std.proofs.Common.{◌≡◌, ◌∷◌, [], ◌+◌, List, Option, Some, None, length, sym, ap, subst, ◌∙◌}
use Rattle.std.specs.Option.{IfNone}
use Rattle.indexmap.specs.IndexMap.{get}
use Rattle.afs_num.specs.declared.types.Node.{Node}
use Rattle.spec_breaks.specs.declared.types.Promise.{Promise}
use Rattle.spec_breaks.specs.Promises.{without_promise, hits, left, is_hit}
use Rattle.afs_promise.specs.Granting.{Granted, same_holding, held, oldest}
use Rattle.afs_promise.proofs.Hits.{no_hits, all_left, first_hit, others_stay, one_fewer}
use Rattle.afs_promise.proofs.grants.Grants.take_hit.Goals as goal

pub returns-in_err-grant-clause-none : goal.returns-in_err-grant-clause-none
returns-in_err-grant-clause-none c =
    let none : oldest (get same_holding c.self.inside.latest) c.args.except c.args.fid None c.self.inside.clients.items ≡ None =
    ap (λ (ns : List Node). oldest (get same_holding c.self.inside.latest) c.args.except c.args.fid None ns) (sym c.deref.ensures.value) ∙ sym c.in_err-grant.ensures
    in
    let here : c.args.self.now.promises ≡ left c.args.except c.args.fid c.args.self.now.promises =
    subst (λ (v : Granted). v.promises ≡ left c.args.except c.args.fid v.promises) c.self.view_is (all_left (is_hit c.args.except c.args.fid) (held (get same_holding c.self.inside.latest) c.self.inside.log.items) (no_hits c.args.except c.args.fid c.self.invariant.0 none))
    in
    subst (λ (o : Option Promise). IfNone o (c.args.self.now.promises ≡ left c.args.except c.args.fid c.args.self.now.promises)) (sym c.from_residual.ensures) here

pub returns-in_err-grant-clause-last : goal.returns-in_err-grant-clause-last
returns-in_err-grant-clause-last c =
    let none : oldest (get same_holding c.self.inside.latest) c.args.except c.args.fid None c.self.inside.clients.items ≡ None =
    ap (λ (ns : List Node). oldest (get same_holding c.self.inside.latest) c.args.except c.args.fid None ns) (sym c.deref.ensures.value) ∙ sym c.in_err-grant.ensures
    in
    let here : hits c.args.except c.args.fid c.args.self.now.promises ≡ [] = subst (λ (v : Granted). hits c.args.except c.args.fid v.promises ≡ []) c.self.view_is (no_hits c.args.except c.args.fid c.self.invariant.0 none) in
    subst (λ (o : Option Promise). IfNone o (hits c.args.except c.args.fid c.args.self.now.promises ≡ [])) (sym c.from_residual.ensures) here

pub returns-clause-hits : goal.returns-clause-hits
returns-clause-hits c =
    let some : oldest (get same_holding c.self.inside.latest) c.args.except c.args.fid None c.self.inside.clients.items ≡ Some c.in_ok-grant.grant =
    ap (λ (ns : List Node). oldest (get same_holding c.self.inside.latest) c.args.except c.args.fid None ns) (sym c.deref.ensures.value) ∙ sym c.in_ok-grant.ensures
    in
    subst (λ (v : Granted). hits c.args.except c.args.fid v.promises ≡ c.in_ok-grant.grant.promise ∷ hits c.args.except c.args.fid (without_promise c.in_ok-grant.grant.promise.client c.in_ok-grant.grant.promise.fid v.promises)) c.self.view_is (first_hit c.args.except c.args.fid c.self.invariant.0 c.in_ok-grant.grant some)
    ∙ ap (λ (ps : List Promise). c.in_ok-grant.grant.promise ∷ hits c.args.except c.args.fid ps) (sym c.give_up.ensures.promises)

pub returns-clause-left : goal.returns-clause-left
returns-clause-left c =
    let some : oldest (get same_holding c.self.inside.latest) c.args.except c.args.fid None c.self.inside.clients.items ≡ Some c.in_ok-grant.grant =
    ap (λ (ns : List Node). oldest (get same_holding c.self.inside.latest) c.args.except c.args.fid None ns) (sym c.deref.ensures.value) ∙ sym c.in_ok-grant.ensures
    in
    ap (left c.args.except c.args.fid) c.give_up.ensures.promises
    ∙ subst (λ (v : Granted). left c.args.except c.args.fid (without_promise c.in_ok-grant.grant.promise.client c.in_ok-grant.grant.promise.fid v.promises) ≡ left c.args.except c.args.fid v.promises) c.self.view_is (others_stay c.args.except c.args.fid c.self.invariant.0 c.in_ok-grant.grant some)

pub returns-clause-len : goal.returns-clause-len
returns-clause-len c =
    let some : oldest (get same_holding c.self.inside.latest) c.args.except c.args.fid None c.self.inside.clients.items ≡ Some c.in_ok-grant.grant =
    ap (λ (ns : List Node). oldest (get same_holding c.self.inside.latest) c.args.except c.args.fid None ns) (sym c.deref.ensures.value) ∙ sym c.in_ok-grant.ensures
    in
    ap (λ (ps : List Promise). length ps + 1) c.give_up.ensures.promises
    ∙ subst (λ (v : Granted). length (without_promise c.in_ok-grant.grant.promise.client c.in_ok-grant.grant.promise.fid v.promises) + 1 ≡ length v.promises) c.self.view_is (one_fewer c.args.except c.args.fid c.self.invariant.0 c.in_ok-grant.grant some)
