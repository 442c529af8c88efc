use Rattle.afs_locstore.proofs.held.HeldFoldLocRecordPart.reserve.Goals as goal

pub returns-clause-keeps : goal.returns-clause-keeps
returns-clause-keeps c = λ p room. c.reserve.ensures.keeps p.redo room
