-- What went on is a beginning of what waited, and the rest waits.
use Rattle.std.proofs.Common.{rules}
use Rattle.afs_outside.proofs.Gathering.{moved, moved_some}
use Rattle.afs_outside.proofs.buffered.BufferedSink.pass_waiting.Goals as goal

pub returns-clause-bytes : goal.returns-clause-bytes
returns-clause-bytes g c = moved g.K.Sink.held _ _ c.put_front-passed.result.0 (search rules) (search rules)

pub returns-clause-some : goal.returns-clause-some
returns-clause-some g c = moved_some g.K.Sink.held _ _ c.put_front-passed.result.0 _ (search rules) (search rules)
