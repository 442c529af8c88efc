use Rattle.std.proofs.Common.{drop}
use Rattle.std.specs.List.{flat_map}
use Rattle.afs_outside.proofs.Puts.{Completes}
use Rattle.afs_text.proofs.pieces.print_all.Given as goal

abbrev pub invariant-loop-item : goal.invariant-loop-item
invariant-loop-item g l =
    Completes (flat_map g.T.Print.text (drop l.item-index l.items)) (flat_map g.T.Print.text l.items) (g.K.Sink.held l.fn.sink) (g.K.Sink.held l.sink) (g.K.Sink.faults l.fn.sink) (g.K.Sink.faults l.sink)
