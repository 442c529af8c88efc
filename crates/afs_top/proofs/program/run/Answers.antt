use Rattle.std.proofs.Common.{subst}
use Rattle.afs_command.specs.Statuses.{Shows}
use Rattle.afs_command.specs.declared.statuses.Status.{Status}
use Rattle.afs_top.proofs.program.run.Goals as goal

pub returns-clause-told : goal.returns-clause-told
returns-clause-told g c =
    subst (λ (s : Status). Shows s (g.E.Sink.held c.args.errors.now) (g.E.Sink.held c.end_with-ended.new.errors) (g.E.Sink.faults c.args.errors.now) (g.E.Sink.faults c.end_with-ended.new.errors)) c.end_with-ended.ensures.status
    c.end_with-ended.ensures.told
