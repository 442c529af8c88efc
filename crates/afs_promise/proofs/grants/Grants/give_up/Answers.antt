use Rattle.std.proofs.Common.{arith, refl, ap, ◌∙◌}
use Rattle.indexmap.specs.IndexMap.{get}
use Rattle.afs_promise.specs.Granting.{Granted, holding, same_holding}
use Rattle.spec_breaks.specs.Promises.{without_promise}
use Rattle.afs_promise.proofs.Held.{removed}
use Rattle.afs_promise.proofs.Logs.{is_counted, removed_log}
use Rattle.afs_promise.proofs.grants.Grants.give_up.Goals as goal

pub remove-requires : goal.remove-requires
remove-requires c = λ some. is_counted (holding c.args.client c.args.fid) c.self.invariant.0 (get same_holding c.self.inside.latest (holding c.args.client c.args.fid)) refl some

pub invariant_of-self : goal.invariant_of-self
invariant_of-self c = (removed_log c.args.client c.args.fid c.remove.ensures.updates c.remove.ensures.count c.self.invariant.0, c.self.invariant.1, c.self.invariant.2, omega (arith, c.self.invariant.3, c.remove.ensures.room), c.self.invariant.4)

pub returns-clause-promises : goal.returns-clause-promises
returns-clause-promises c =
    removed (get same_holding c.remove.new.latest) (get same_holding c.self.inside.latest) c.args.client c.args.fid c.remove.ensures.updates c.self.inside.log.items
    ∙ ap (λ (v : Granted). without_promise c.args.client c.args.fid v.promises) c.self.view_is
