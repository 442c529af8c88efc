use Rattle.std.proofs.Common.{drop}
use Rattle.std.specs.List.{flat_map}
use Rattle.spec_model.specs.LineText.{name_byte}
use Rattle.afs_outside.proofs.Puts.{Completes}
use Rattle.afs_text.proofs.bytes.put_escaped.Given as goal

abbrev pub invariant-loop-b : goal.invariant-loop-b
invariant-loop-b g l =
    Completes (flat_map (name_byte) (drop l.b-index l.name)) (flat_map (name_byte) l.name) (g.K.Sink.held l.fn.sink) (g.K.Sink.held l.sink) (g.K.Sink.faults l.fn.sink) (g.K.Sink.faults l.sink)
