use Rattle.std.proofs.Common.{sym, ◌∙◌}
use Rattle.afs_mover.proofs.Heard.{addressed_message, unaddressed_message}
use Rattle.afs_mover.proofs.node.Mover.take_message.Goals as goal

pub returns-then-mine : goal.returns-then-mine
returns-then-mine c = addressed_message c.args.message.now c.args.self.now c.get.new.self c.get.result (sym c.is_mine-mine.ensures ∙ c.if-mine.true) c.get.ensures

pub returns-else-mine : goal.returns-else-mine
returns-else-mine c = unaddressed_message c.args.message.now c.args.self.now c.ignore.result (sym c.is_mine-mine.ensures ∙ c.if-mine.false) c.ignore.ensures
