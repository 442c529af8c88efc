use Rattle.std.proofs.Common.{◌≡◌, ℕ, ◌+◌, ◌∷◌, ◌++◌, List, Some, None, ap, sym, ◌∙◌}
use Rattle.spec_rows.specs.Going.{ClientState, Going}
use Rattle.spec_rows.specs.ClientRow.{asks_where, call_of, volume_asked}
use Rattle.spec_rows.specs.Going.{operand_in}
use Rattle.afs_cache.proofs.Sought.{nowhere_taken, where_taken}
use Rattle.afs_cache.proofs.Replying.{idle_act}
use Rattle.afs_cache.proofs.node.CacheManager.ask_where.Goals as goal

pub returns-in_default : goal.returns-in_default
returns-in_default c =
    let old = c.args.self.now in
    idle_act old.state.client (λ (place : ℕ) (act : Going). asks_where old.node old.state.client place act c.args.code (operand_in act (volume_asked (call_of old.state.client act)))) old old c.ignore.result c.in_default.ensures c.ignore.ensures.takes

pub returns-in-Some-2 : goal.returns-in-Some-2
returns-in-Some-2 c =
    let old = c.args.self.now in
    where_taken old.node old.state.client c.args.code (Some c.in-Some-2.operand) old c.seek.new.self c.seek.result (sym c.in-Some-2.is ∙ c.in_ok-operand.ensures.value) c.seek.ensures

pub returns-in-None : goal.returns-in-None
returns-in-None c =
    let old = c.args.self.now in
    nowhere_taken old.node old.state.client c.in-Some._asked.now c.args.code old c.answer.new.self c.answer.result c.in-Some.ensures (sym c.in-None.is ∙ c.in_ok-operand.ensures.value) c.answer.ensures
