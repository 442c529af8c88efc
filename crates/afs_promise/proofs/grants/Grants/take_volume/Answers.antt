use Rattle.std.proofs.Common.{◌≡◌, ◌++◌, [], List, length, drop, sym, ap, subst, ◌∙◌, arith}
use Rattle.std.proofs.lemmas.List.{drop_all}
use Rattle.std.specs.List.Sorted.{IsPermutation}
use Rattle.indexmap.specs.IndexMap.{get}
use Rattle.afs_promise.specs.declared.types.Grant.{Grant}
use Rattle.spec_breaks.specs.Promises.{by_fid, hits_on, left_off}
use Rattle.afs_promise.specs.Granting.{Granted, same_holding, held_on, promises_in, Rises}
use Rattle.afs_promise.proofs.Logs.{rises_filter}
use Rattle.afs_promise.proofs.Volumes.{on_few, on_promises, without_all, volume_goes, next_gone}
use Rattle.afs_promise.proofs.grants.Grants.take_volume.Goals as goal

pub gather-requires : goal.gather-requires
gather-requires c =
    let few = on_few (get same_holding c.self.inside.latest) c.args.volume c.self.inside.log.items in
    omega (
      arith,
      few,
      c.requires.room,
      c.args.gone.now.ok.0,
      ap (λ (gs : List Grant). length gs) c.requires.empty,
      ap (λ (v : Granted). length v.promises) c.self.view_is,
      ap (λ (gs : List Grant). length (held_on (get same_holding c.self.inside.latest) c.args.volume gs)) c.deref.ensures.value,
    )

pub loop-grant-preserved : goal.loop-grant-preserved
loop-grant-preserved c = record {
  rest = next_gone c.loop-grant.grant-index c.deref-grant-items.result.now _ _ _ _ c.loop-grant-test.true c.give_up.ensures.promises c.loop-grant.invariant.rest;
  room = c.give_up.ensures.room ∙ c.loop-grant.invariant.room;
}

pub returns-clause-hits : goal.returns-clause-hits
returns-clause-hits c =
    let latest = get same_holding c.self.inside.latest in
    let log = c.self.inside.log.items in
    let gathered : c.gather.new.gone.items ≡ held_on latest c.args.volume log =
    c.gather.ensures.grants ∙ (ap (λ (gs : List Grant). gs ++ held_on latest c.args.volume c.deref.result.now) c.requires.empty ∙ ap (held_on latest c.args.volume) c.deref.ensures.value)
    in
    c.sort_by_fid.ensures.sorted c.self.inside.next (subst (λ (gs : List Grant). Rises 0 c.self.inside.next gs) (sym gathered) (rises_filter _ 0 c.self.inside.next log c.self.invariant.0.rises))
    ∙ (ap (λ (gs : List Grant). by_fid (promises_in gs)) gathered ∙ (ap by_fid (on_promises latest c.args.volume log) ∙ ap (λ (v : Granted). by_fid (hits_on c.args.volume v.promises)) c.self.view_is))

pub returns-clause-left : goal.returns-clause-left
returns-clause-left c =
    let latest = get same_holding c.self.inside.latest in
    let log = c.self.inside.log.items in
    let gathered : c.gather.new.gone.items ≡ held_on latest c.args.volume log =
    c.gather.ensures.grants ∙ (ap (λ (gs : List Grant). gs ++ held_on latest c.args.volume c.deref.result.now) c.requires.empty ∙ ap (held_on latest c.args.volume) c.deref.ensures.value)
    in
    let moved = subst (λ (gs : List Grant). IsPermutation gs c.sort_by_fid.new.gone.items) gathered c.sort_by_fid.ensures.moved in
    let goes = subst (λ (v : Granted). without_all c.sort_by_fid.new.gone.items v.promises ≡ left_off c.args.volume v.promises) c.self.view_is (volume_goes latest c.args.volume log c.sort_by_fid.new.gone.items moved) in
    let done : drop c.loop-grant.grant-index c.deref-grant-items.result.now ≡ [] = drop_all c.loop-grant.grant-index c.deref-grant-items.result.now c.loop-grant-test.false in
    sym (ap (λ (gs : List Grant). without_all gs c.loop-grant.self.promises) done) ∙ (c.loop-grant.invariant.rest ∙ (ap (λ (gs : List Grant). without_all gs c.args.self.now.promises) c.deref-grant-items.ensures.value ∙ goes))
