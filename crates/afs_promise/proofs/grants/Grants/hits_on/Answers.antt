use Rattle.std.proofs.Common.{◌≡◌, ◌++◌, List, length, sym, ap, subst, ◌∙◌, arith}
use Rattle.indexmap.specs.IndexMap.{get}
use Rattle.afs_promise.specs.declared.types.Grant.{Grant}
use Rattle.spec_breaks.specs.Promises.{by_fid, hits_on, lasting}
use Rattle.afs_promise.specs.Granting.{Granted, same_holding, held_on, lasting_grants, promises_in, Rises}
use Rattle.afs_promise.proofs.Logs.{rises_filter}
use Rattle.afs_promise.proofs.Volumes.{on_few, on_lasting}
use Rattle.afs_promise.proofs.grants.Grants.hits_on.Goals as goal

pub gather-requires : goal.gather-requires
gather-requires c =
    let few = on_few (get same_holding c.self.inside.latest) c.args.volume c.self.inside.log.items in
    omega (
      arith,
      few,
      c.self.invariant.0.counted,
      c.in_ok-found.ensures.len,
      c.in_ok-found.ensures.capacity,
      ap (λ (gs : List Grant). length (held_on (get same_holding c.self.inside.latest) c.args.volume gs)) c.deref.ensures.value,
    )

pub returns : goal.returns
returns c =
    let latest = get same_holding c.self.inside.latest in
    let log = c.self.inside.log.items in
    let gathered : c.gather.new.gone.items ≡ held_on latest c.args.volume log =
    c.gather.ensures.grants ∙ (ap (λ (gs : List Grant). gs ++ held_on latest c.args.volume c.deref.result.now) c.in_ok-found.ensures.items ∙ ap (held_on latest c.args.volume) c.deref.ensures.value)
    in
    let kept : c.keep_lasting.new.grants.items ≡ lasting_grants c.args.now (held_on latest c.args.volume log) = c.keep_lasting.ensures ∙ ap (lasting_grants c.args.now) gathered in
    c.sort_by_fid.ensures.sorted c.self.inside.next (subst (λ (gs : List Grant). Rises 0 c.self.inside.next gs) (sym kept) (rises_filter _ 0 c.self.inside.next _ (rises_filter _ 0 c.self.inside.next log c.self.invariant.0.rises)))
    ∙ (ap (λ (gs : List Grant). by_fid (promises_in gs)) kept
    ∙ (ap by_fid (on_lasting latest c.args.volume c.args.now log) ∙ ap (λ (v : Granted). by_fid (hits_on c.args.volume (lasting c.args.now v.promises))) c.self.view_is))
