use Rattle.std.proofs.Common.{drop}
use Rattle.std.specs.List.{flat_map}
use Rattle.afs_text.specs.RunText.{line_text}
use Rattle.afs_text.proofs.Laid.{LaysAll}
use Rattle.afs_text.proofs.histories.lay_lines.Given as goal

abbrev pub invariant-loop-line : goal.invariant-loop-line
invariant-loop-line g l =
    LaysAll (flat_map line_text (drop l.line-index l.lines)) (flat_map line_text l.lines) l.fn.piece l.piece (g.K.Sink.held l.fn.sink) (g.K.Sink.held l.sink) (g.K.Sink.faults l.fn.sink) (g.K.Sink.faults l.sink)
