use Rattle.std.proofs.Common.{◌≡◌, ℕ, List, [], ◌∷◌, ◌++◌, Some, None, true, false, ap, map, filter, sym, ◌∙◌}
use Rattle.spec_rows.specs.Going.{ClientState, Going}
use Rattle.spec_rows.specs.ClientRow.{call_of, calls_again, takes}
use Rattle.afs_cache.proofs.Replying.{spent_again, unspent_heard}
use Rattle.afs_cache.proofs.node.CacheManager.hear_reply.Goals as goal

pub returns-then-spent : goal.returns-then-spent
returns-then-spent c =
    let old = c.args.self.now in
    spent_again old.state.client (calls_again old.node old.state.client) (λ (place : ℕ) (act : Going). takes old.node old.state.client c.args.now place act (call_of old.state.client act) c.args.reply) old c.call_again.new.self c.call_again.result (sym c.if-spent.true ∙ c.is_spent-spent.ensures) c.call_again.ensures

pub returns : goal.returns
returns c =
    let old = c.args.self.now in
    unspent_heard old.state.client (calls_again old.node old.state.client) (λ (place : ℕ) (act : Going). takes old.node old.state.client c.args.now place act (call_of old.state.client act) c.args.reply) old c.take.new.self c.take.result (sym c.if-spent.false ∙ c.is_spent-spent.ensures) c.take.ensures
