use Rattle.std.proofs.Common.{◌++◌, drop, codes}
use Rattle.std.specs.List.{flat_map}
use Rattle.spec_model.specs.LineText.{entry_name_text}
use Rattle.afs_text.proofs.Laid.{LaysAll}
use Rattle.afs_text.proofs.bodies.lay_more_names.Given as goal

abbrev pub invariant-loop-name : goal.invariant-loop-name
invariant-loop-name g l =
    LaysAll (flat_map (λ n. codes "," ++ entry_name_text n) (drop l.name-index l.names)) (flat_map (λ n. codes "," ++ entry_name_text n) l.names) l.fn.piece l.piece (g.K.Sink.held l.fn.sink) (g.K.Sink.held l.sink) (g.K.Sink.faults l.fn.sink) (g.K.Sink.faults l.sink)
