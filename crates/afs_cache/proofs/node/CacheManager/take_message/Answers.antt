use Rattle.std.proofs.Common.{◌≡◌, ◌<◌, ◌+◌, ℕ, Bool, true, false, cond, ◌||◌, ◌&&◌, List, [], ◌∷◌, ◌++◌, map, filter, Option, Some, None, Ok, Err, refl, ap, sym, subst, ◌∙◌}
use Rattle.std.specs.Prelude.{is_some}
use Rattle.spec_model.specs.Steps.{NodeState}
use Rattle.spec_copyrows.specs.Sites.{CopyState}
use Rattle.afs_cache.proofs.Siting.{idle_heard, message_heard, none_seeks, some_seeks}
use Rattle.afs_cache.proofs.node.CacheManager.take_message.Goals as goal

pub take_seeking-requires-clause-seeks : goal.take_seeking-requires-clause-seeks
take_seeking-requires-clause-seeks c = some_seeks c.args.self.now.state.client.seeking (sym c.seeks-seeks.ensures ∙ c.if-seeks.true)

pub take_running-requires-clause-idle : goal.take_running-requires-clause-idle
take_running-requires-clause-idle c = none_seeks c.args.self.now.state.client.seeking (sym c.seeks-seeks.ensures ∙ c.if-seeks.false)

pub returns-then-seeks : goal.returns-then-seeks
returns-then-seeks c = message_heard c.args.now (record { head = c.args.head.now; carried = c.args.carried }) c.args.self.now c.take_seeking.new.self c.take_seeking.result c.take_seeking.ensures

pub returns-else-seeks : goal.returns-else-seeks
returns-else-seeks c = idle_heard c.args.now (record { head = c.args.head.now; carried = c.args.carried }) c.args.self.now c.take_running.new.self c.take_running.result (none_seeks c.args.self.now.state.client.seeking (sym c.seeks-seeks.ensures ∙ c.if-seeks.false)) c.take_running.ensures
