use Rattle.spec_model.specs.Messages.{received}
use Rattle.afs_serverhost.proofs.Becoming.{faults_so, goes_on_so, limit_so, mark_so, rests_so, row_so, served_so, told_so}
use Rattle.afs_serverhost.proofs.serving.serve.Goals as goal

pub returns-clause-served : goal.returns-clause-served
returns-clause-served g c = served_so g.D.Disk c.args.running.now c.handle.new.running g.met.D.Disk.leaves g.met.D.Disk.shows c.args.now (received c.args.bytes.now) c.handle.result c.requires.can_run c.handle.ensures.handled

pub returns-clause-row : goal.returns-clause-row
returns-clause-row g c = row_so g.D.Disk c.args.running.now c.handle.new.running c.args.now c.args.bytes.now c.handle.result c.handle.ensures.row

pub returns-clause-goes_on : goal.returns-clause-goes_on
returns-clause-goes_on g c = goes_on_so g.D.Disk c.args.running.now c.handle.new.running c.args.now (received c.args.bytes.now) c.handle.result c.handle.ensures.handled

pub returns-clause-mark : goal.returns-clause-mark
returns-clause-mark g c = mark_so g.D.Disk c.args.running.now c.handle.new.running c.args.now (received c.args.bytes.now) c.handle.result c.handle.ensures.handled

pub returns-clause-rests : goal.returns-clause-rests
returns-clause-rests g c = rests_so g.D.Disk c.args.running.now c.handle.new.running c.args.now (received c.args.bytes.now) c.handle.result c.handle.ensures.handled

pub returns-clause-told : goal.returns-clause-told
returns-clause-told g c = told_so g.D.Disk c.args.running.now c.handle.new.running c.handle.result c.handle.ensures.told

pub returns-clause-limit : goal.returns-clause-limit
returns-clause-limit g c = limit_so g.D.Disk c.args.running.now c.handle.new.running c.handle.result c.handle.ensures.limit

pub returns-clause-faults : goal.returns-clause-faults
returns-clause-faults g c = faults_so g.D.Disk c.args.running.now c.handle.new.running c.handle.result c.handle.ensures.faults
