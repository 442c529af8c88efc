use Rattle.std.proofs.Common.{◌≡◌, ◌∷◌, [], ℕ, ap}
use Rattle.afs_num.specs.declared.messages.Message.{Message}
use Rattle.spec_rows.specs.ClientRow.{told_step}
use Rattle.afs_cache.proofs.Placing.{stills_same}
use Rattle.afs_cache.proofs.node.CacheManager.tell_again.Goals as goal

pub returns : goal.returns
returns c =
    let old = c.args.self.now in
    stills_same _ (λ (place : ℕ). told_step old.state.client place (c.args.reply.now ∷ [])) old old c.tell.result (λ place. ap (λ (m : Message). told_step old.state.client place (m ∷ [])) c.in_ok-reply.ensures.same) c.tell.ensures
