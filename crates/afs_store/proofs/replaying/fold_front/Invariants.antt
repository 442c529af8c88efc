use Rattle.std.proofs.Common.{take}
use Rattle.afs_store.specs.Folds.{IsFront}
use Rattle.afs_store.proofs.replaying.fold_front.Given as goal

abbrev pub invariant-loop-place : goal.invariant-loop-place
invariant-loop-place g l = record {
  front : IsFront g.S.Fold.fold (take l.place l.records) (g.S.Fold.fold.held l.state);
}
