use Rattle.std.proofs.Common.{sym, ◌∙◌}
use Rattle.afs_mover.proofs.Heard.{addressed_call, unaddressed_call}
use Rattle.afs_mover.proofs.node.Mover.take_call.Goals as goal

pub returns-then-mine : goal.returns-then-mine
returns-then-mine c = addressed_call c.args.head.now c.args.self.now c.called.new.self c.called.result (sym c.is_mine-mine.ensures ∙ c.if-mine.true) c.called.ensures

pub returns-else-mine : goal.returns-else-mine
returns-else-mine c = unaddressed_call c.args.head.now c.args.self.now c.ignore.result (sym c.is_mine-mine.ensures ∙ c.if-mine.false) c.ignore.ensures
