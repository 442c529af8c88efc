use Rattle.std.proofs.Common.{◌≡◌, subst}
use Rattle.std.specs.Prelude.{IfOk}
use Rattle.afs_asking.specs.Asking.{Asking}
use Rattle.afs_cache.proofs.Sought.{asked_anew}
use Rattle.afs_cache.proofs.node.CacheManager.asked_anew.Goals as goal

pub returns : goal.returns
returns c =
    let old = c.args.self.now in
    asked_anew old.state.client old.state.client.seeking c.in_ok-going.going c.in_ok-gifts.gifts.items c.new.result c.in_ok-going.ensures.value c.in_ok-gifts.ensures.value c.new.ensures
