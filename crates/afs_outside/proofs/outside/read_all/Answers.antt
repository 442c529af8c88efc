-- What was taken before, and at most as much again as the limit leaves.
use Rattle.std.proofs.Common.{rules}
use Rattle.afs_outside.proofs.Pieces.{takes_more}
use Rattle.afs_outside.proofs.outside.read_all.Goals as goal

pub returns-in_err-read_piece-clause-stops : goal.returns-in_err-read_piece-clause-stops
returns-in_err-read_piece-clause-stops g c = takes_more _ _ _ _ _ _ c.loop-bytes.invariant.taken (search rules) c.read_piece.ensures.stops

pub returns-then-branch-eq0-clause-stops : goal.returns-then-branch-eq0-clause-stops
returns-then-branch-eq0-clause-stops g c = takes_more _ _ _ _ _ _ c.loop-bytes.invariant.taken (search rules) c.read_piece.ensures.stops
