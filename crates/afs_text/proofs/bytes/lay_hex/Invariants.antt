use Rattle.std.proofs.Common.{length}
use Rattle.spec_model.specs.LineText.{hex_text}
use Rattle.afs_text.proofs.Laid.{LaysAll}
use Rattle.afs_text.proofs.bytes.lay_hex.Given as goal

abbrev pub invariant-loop-rest : goal.invariant-loop-rest
invariant-loop-rest g l =
    LaysAll (hex_text l.rest) (hex_text l.bytes) l.fn.piece l.piece (g.K.Sink.held l.fn.sink) (g.K.Sink.held l.sink) (g.K.Sink.faults l.fn.sink) (g.K.Sink.faults l.sink)

abbrev pub decreases-loop-rest : goal.decreases-loop-rest
decreases-loop-rest g l = length l.rest
