use Rattle.std.proofs.Common.{◌≡◌, ℕ, ◌+◌, ◌∷◌, ◌++◌, List, Some, None, ap, sym, ◌∙◌}
use Rattle.spec_rows.specs.Going.{ClientState, Going}
use Rattle.spec_rows.specs.ClientRow.{refuses_for_good}
use Rattle.afs_cache.proofs.Sought.{moves_taken, stays_taken}
use Rattle.afs_cache.proofs.Replying.{idle_act}
use Rattle.afs_cache.proofs.node.CacheManager.refuse_for_good.Goals as goal

pub returns-in_default : goal.returns-in_default
returns-in_default c =
    let old = c.args.self.now in
    idle_act old.state.client (λ (place : ℕ) (act : Going). refuses_for_good old.node old.state.client place act c.args.code) old old c.ignore.result c.in_default.ensures c.ignore.ensures.takes

pub returns-then-may_move : goal.returns-then-may_move
returns-then-may_move c =
    let old = c.args.self.now in
    moves_taken old.node old.state.client c.args.code old c.ask_where.new.self c.ask_where.result (sym c.if-may_move.true ∙ c.may_move-may_move.ensures.value) c.ask_where.ensures

pub returns-else-may_move : goal.returns-else-may_move
returns-else-may_move c =
    let old = c.args.self.now in
    stays_taken old.node old.state.client c.in-Some._asked.now c.args.code old c.answer.new.self c.answer.result c.in-Some.ensures (sym c.if-may_move.false ∙ c.may_move-may_move.ensures.value) c.answer.ensures
