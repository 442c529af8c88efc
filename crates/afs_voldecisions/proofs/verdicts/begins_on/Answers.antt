use Rattle.std.proofs.Common.{sym}
use Rattle.afs_voldecisions.proofs.Deciding.{begins_seen}
use Rattle.afs_voldecisions.proofs.verdicts.begins_on.Goals as goal

pub returns-in-Some : goal.returns-in-Some
returns-in-Some c =
    begins_seen c.begins_unless_held.result c.args.ts.now.table c.args.ts.now.last c.args.stamp c.args.family c.args.id c.args.flags c.args.named c.in-Some.field-0.now (sym c.in-Some.ensures) c.begins_unless_held.ensures
