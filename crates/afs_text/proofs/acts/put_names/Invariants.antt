use Rattle.std.proofs.Common.{drop}
use Rattle.std.specs.List.{flat_map}
use Rattle.afs_text.specs.ActText.{step_text}
use Rattle.afs_outside.proofs.Puts.{Completes}
use Rattle.afs_text.proofs.acts.put_names.Given as goal

abbrev pub invariant-loop-name : goal.invariant-loop-name
invariant-loop-name g l =
    Completes (flat_map step_text (drop l.name-index l.names)) (flat_map step_text l.names) (g.K.Sink.held l.fn.sink) (g.K.Sink.held l.sink) (g.K.Sink.faults l.fn.sink) (g.K.Sink.faults l.sink)
