use Rattle.std.proofs.Common.{sym, ◌∙◌}
use Rattle.afs_mover.proofs.Heard.{awaited_taken, unawaited_taken}
use Rattle.afs_mover.proofs.node.Mover.hear.Goals as goal

pub returns-then-awaited : goal.returns-then-awaited
returns-then-awaited c =
    awaited_taken c.args.head.now c.args.carried.now c.new-lines.result c.args.self.now c.take.new.self c.take.result (sym c.is_awaited-awaited.ensures ∙ c.if-awaited.true) c.new-lines.ensures c.take.ensures

pub returns-else-awaited : goal.returns-else-awaited
returns-else-awaited c = unawaited_taken c.args.head.now c.args.carried.now c.args.self.now c.ignore.result (sym c.is_awaited-awaited.ensures ∙ c.if-awaited.false) c.ignore.ensures
