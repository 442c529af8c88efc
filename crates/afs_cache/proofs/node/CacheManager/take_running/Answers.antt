use Rattle.std.proofs.Common.{◌≡◌, ◌<◌, ◌+◌, ℕ, Bool, true, false, cond, ◌||◌, ◌&&◌, List, [], ◌∷◌, ◌++◌, map, filter, Option, Some, None, Ok, Err, refl, ap, sym, subst, ◌∙◌}
use Rattle.afs_num.specs.declared.messages.Message.{Message}
use Rattle.afs_cache.proofs.Siting.{heard_taken, is_heard_by, unheard_taken}
use Rattle.afs_cache.proofs.node.CacheManager.take_running.Goals as goal

pub take_answer-requires-clause-heard : goal.take_answer-requires-clause-heard
take_answer-requires-clause-heard c = is_heard_by c.args.self.now c.args.head.now c.requires.idle (sym c.is_heard-heard.ensures ∙ c.if-heard.true)

pub returns-then-heard : goal.returns-then-heard
returns-then-heard c = heard_taken c.args.now (record { head = c.args.head.now; carried = c.args.carried }) c.args.self.now c.take_answer.new.self c.take_answer.result (is_heard_by c.args.self.now c.args.head.now c.requires.idle (sym c.is_heard-heard.ensures ∙ c.if-heard.true)) c.take_answer.ensures

pub returns-else-heard : goal.returns-else-heard
returns-else-heard c = unheard_taken c.args.now (record { head = c.args.head.now; carried = c.args.carried }) c.args.self.now c.take_guest.new.self c.take_guest.result (sym c.is_heard-heard.ensures ∙ c.if-heard.false) c.take_guest.ensures
