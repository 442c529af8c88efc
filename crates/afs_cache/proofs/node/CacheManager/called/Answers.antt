use Rattle.std.proofs.Common.{◌≡◌, ℕ, ap}
use Rattle.spec_model.specs.Calls.{admitted}
use Rattle.afs_cache.specs.Serving.{admits_asking}
use Rattle.afs_cache.proofs.Placing.{stills_same}
use Rattle.afs_cache.proofs.node.CacheManager.called.Goals as goal

pub returns-in-Kept : goal.returns-in-Kept
returns-in-Kept c =
    let old = c.args.self.now in
    stills_same _ (λ (place : ℕ). admits_asking old.node old.state.client place c.args.head.now c.args.asking (admitted old.state.client.epoch old.state.client.seats c.args.head.now)) old old c.tell_again.result (λ place. ap (admits_asking old.node old.state.client place c.args.head.now c.args.asking) c.in-Kept.ensures) c.tell_again.ensures

pub returns-in-WrongBoot : goal.returns-in-WrongBoot
returns-in-WrongBoot c =
    let old = c.args.self.now in
    stills_same _ (λ (place : ℕ). admits_asking old.node old.state.client place c.args.head.now c.args.asking (admitted old.state.client.epoch old.state.client.seats c.args.head.now)) old old c.tell_boot.result (λ place. ap (admits_asking old.node old.state.client place c.args.head.now c.args.asking) c.in-WrongBoot.ensures) c.tell_boot.ensures
