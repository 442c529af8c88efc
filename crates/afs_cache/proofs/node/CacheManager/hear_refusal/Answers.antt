use Rattle.std.proofs.Common.{◌≡◌, ℕ, List, [], ◌∷◌, ◌++◌, Some, None, true, false, ap, map, filter, sym, ◌∙◌}
use Rattle.spec_rows.specs.Going.{ClientState, Going}
use Rattle.spec_rows.specs.ClientRow.{calls_again, refuses}
use Rattle.afs_cache.proofs.Replying.{spent_again, unspent_heard}
use Rattle.afs_cache.proofs.node.CacheManager.hear_refusal.Goals as goal

pub returns-then-spent : goal.returns-then-spent
returns-then-spent c =
    let old = c.args.self.now in
    spent_again old.state.client (calls_again old.node old.state.client) (λ (place : ℕ) (act : Going). refuses old.node old.state.client place act c.args.code) old c.call_again.new.self c.call_again.result (sym c.if-spent.true ∙ c.is_spent-spent.ensures) c.call_again.ensures

pub returns : goal.returns
returns c =
    let old = c.args.self.now in
    unspent_heard old.state.client (calls_again old.node old.state.client) (λ (place : ℕ) (act : Going). refuses old.node old.state.client place act c.args.code) old c.refuse.new.self c.refuse.result (sym c.if-spent.false ∙ c.is_spent-spent.ensures) c.refuse.ensures
