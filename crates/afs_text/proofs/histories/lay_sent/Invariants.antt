use Rattle.std.proofs.Common.{◌+◌, drop}
use Rattle.afs_text.specs.KeptText.{parcels_text}
use Rattle.afs_text.proofs.Laid.{LaysAll}
use Rattle.afs_text.proofs.histories.lay_sent.Given as goal

abbrev pub invariant-loop-i : goal.invariant-loop-i
invariant-loop-i g l =
    LaysAll (parcels_text l.wire (l.first_place + l.i) (drop l.i l.sent)) (parcels_text l.wire l.first_place l.sent) l.fn.piece l.piece (g.K.Sink.held l.fn.sink) (g.K.Sink.held l.sink) (g.K.Sink.faults l.fn.sink) (g.K.Sink.faults l.sink)
