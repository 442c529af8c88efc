-- What went on stays with the sink behind.
use Rattle.std.proofs.Common.{rules}
use Rattle.afs_outside.proofs.Gathering.{all_passed, kept_behind, moved_all}
use Rattle.afs_outside.proofs.buffered.BufferedSinkSink.flush.Goals as goal

pub returns-clause-bytes : goal.returns-clause-bytes
returns-clause-bytes g c = kept_behind g.K.Sink.held _ c.pass_waiting.new.self _ c.pass_waiting.ensures.bytes (search rules) (search rules)

pub returns-clause-left : goal.returns-clause-left
returns-clause-left g c = moved_all g.K.Sink.held _ _ (g.K.Sink.held c.pass_waiting.new.self.inner) _ (search rules) (search rules) (search rules)

pub returns-clause-all : goal.returns-clause-all
returns-clause-all g c = all_passed g.K.Sink.held _ _ _ (search rules) c.flush.ensures.all
