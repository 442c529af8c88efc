use Rattle.std.proofs.Common.{◌≡◌, ℕ, ap, sym}
use Rattle.afs_cache.specs.Serving.{runs_asking}
use Rattle.afs_cache.proofs.Placing.{stills_same}
use Rattle.afs_cache.proofs.node.CacheManager.run.Goals as goal

pub returns-in-Refused : goal.returns-in-Refused
returns-in-Refused c =
    let old = c.args.self.now in
    stills_same _ (λ (place : ℕ). runs_asking old.node old.state.client place c.args.head.now c.args.asking) old c.refuse_call.new.self c.refuse_call.result (λ place. ap (runs_asking old.node old.state.client place c.args.head.now) (sym c.in-Refused.is)) c.refuse_call.ensures
