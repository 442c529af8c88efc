use Rattle.std.proofs.Common.{rules}
use Rattle.afs_voldecisions.proofs.Dumping.{piece_is}
use Rattle.afs_voldecisions.proofs.verdicts.dumps_piece.Goals as goal

pub returns : goal.returns
returns c =
    piece_is c.args.offset _ c.in_ok-piece.piece c.args.whole.now c.is_last_piece-last.result c.accepts.result (search rules) (search rules) c.in_ok-piece.ensures c.accepts.ensures.verdict (c.accepts.ensures.told 109)
    c.accepts.ensures.unmade (search rules)
