use Rattle.std.proofs.Common.{ℕ, List, false, subst}
use Rattle.std.specs.Prelude.{Ok}
use Rattle.std.specs.declared.alloc.AllocError.{AllocError}
use Rattle.afs_server_parts.specs.Turning.{answer_turn, Goes}
use Rattle.afs_server_parts.specs.declared.turns.Stand.{Stand}
use Rattle.afs_callbacks.proofs.answering.answer_now.Goals as goal

pub returns : goal.returns
returns c = subst (λ (ws : List ℕ). Goes {E = AllocError} (λ (s : Stand). answer_turn c.args.reply ws false) c.args.turn.now c.answer.new.self (Ok tt)) c.new.ensures c.in_ok-answer.ensures
