use Rattle.std.proofs.Common.{rules}
use Rattle.std.proofs.lemmas.Result.{IfOk-weaker}
use Rattle.afs_voldecisions.proofs.Restoring.{last_is}
use Rattle.afs_voldecisions.proofs.verdicts.restores.Goals as goal

pub returns-else-last-eq0 : goal.returns-else-last-eq0
returns-else-last-eq0 c =
    IfOk-weaker _ _ _
    (last_is c.args.number c.args.offset c.args.last c.args.piece.now c.in_ok-given.given c.args.transaction.now c.args.volume.now (search rules) (search rules) (search rules) (search rules))
    c.whole_given.ensures
