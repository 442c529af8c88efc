use Rattle.std.proofs.lemmas.Result.{IfOk-weaker}
use Rattle.afs_voldecisions.proofs.Dumping.{dump_judged}
use Rattle.afs_voldecisions.proofs.verdicts.dumps.Goals as goal

pub returns : goal.returns
returns c = IfOk-weaker _ _ _ (dump_judged c.args.from c.args.offset c.args.volume.now c.in_ok-whole.whole c.in_ok-whole.ensures) c.dumps_piece.ensures
