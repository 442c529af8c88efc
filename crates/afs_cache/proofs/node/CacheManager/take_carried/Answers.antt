use Rattle.std.proofs.Common.{◌≡◌, ℕ, ap, sym}
use Rattle.afs_num.specs.declared.messages.Carried.TheVariants as carried
use Rattle.spec_model.specs.Calls.{admitted}
use Rattle.spec_rows.specs.ClientRow.{hears, whole}
use Rattle.afs_cache.specs.declared.serving.Asking.TheVariants as askings
use Rattle.afs_cache.proofs.Answering.{asked_by, takes_same}
use Rattle.afs_cache.proofs.Placing.{still_taken}
use Rattle.afs_cache.specs.Serving.{admits_asking}
use Rattle.std.proofs.Common.{◌∙◌}
use Rattle.afs_cache.proofs.Breaking.{admits_keep, same_call}
use Rattle.afs_cache.proofs.node.CacheManager.take_carried.Goals as goal

pub returns-in-Call : goal.returns-in-Call
returns-in-Call c =
    let old = c.args.self.now in
    let head = c.args.head.now in
    let x = carried.Call c.in-Call.user c.in-Call.call in
    let asking = askings.Call c.in-Call.call in
    let a = admitted old.state.client.epoch old.state.client.seats head in
    takes_same (λ (place : ℕ). admits_asking old.node old.state.client place head asking a) (λ (place : ℕ). hears old.node old.state.client c.args.now place head c.args.carried) old c.called.new.self c.called.result
    (λ place. asked_by old.node old.state.client place head (whole head x) asking a (same_call old.node old.state.client place head c.in-Call.user c.in-Call.call) ∙ ap (hears old.node old.state.client c.args.now place head) (sym c.in-Call.is))
    (still_taken (λ (place : ℕ). admits_asking old.node old.state.client place head asking a) old c.called.new.self c.called.result (λ place. admits_keep old.node old.state.client place head asking a) c.called.ensures)
