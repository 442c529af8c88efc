use Rattle.spec_model.specs.Messages.{received}
use Rattle.afs_host.proofs.LocBecoming.{loc_faults_so, loc_goes_on_so, loc_limit_so, loc_mark_so, loc_rests_so, loc_row_so, loc_served_so, loc_told_so}
use Rattle.afs_host.proofs.database_serving.Running+unit+LocDb+Fuse+D.serve.Goals as goal

pub returns-clause-served : goal.returns-clause-served
returns-clause-served g c = loc_served_so g.D.Disk c.args.self.now c.handle.new.self g.met.D.Disk.leaves g.met.D.Disk.shows (received c.args.bytes.now) c.handle.result c.requires.can_run c.handle.ensures.handled

pub returns-clause-row : goal.returns-clause-row
returns-clause-row g c = loc_row_so g.D.Disk c.args.self.now c.handle.new.self c.args.bytes.now c.handle.result c.handle.ensures.row

pub returns-clause-goes_on : goal.returns-clause-goes_on
returns-clause-goes_on g c = loc_goes_on_so g.D.Disk c.args.self.now c.handle.new.self (received c.args.bytes.now) c.handle.result c.handle.ensures.handled

pub returns-clause-mark : goal.returns-clause-mark
returns-clause-mark g c = loc_mark_so g.D.Disk c.args.self.now c.handle.new.self (received c.args.bytes.now) c.handle.result c.handle.ensures.handled

pub returns-clause-rests : goal.returns-clause-rests
returns-clause-rests g c = loc_rests_so g.D.Disk c.args.self.now c.handle.new.self (received c.args.bytes.now) c.handle.result c.requires.can_run c.handle.ensures.handled

pub returns-clause-told : goal.returns-clause-told
returns-clause-told g c = loc_told_so g.D.Disk c.args.self.now c.handle.new.self c.handle.result c.handle.ensures.told

pub returns-clause-limit : goal.returns-clause-limit
returns-clause-limit g c = loc_limit_so g.D.Disk c.args.self.now c.handle.new.self c.handle.result c.handle.ensures.limit

pub returns-clause-faults : goal.returns-clause-faults
returns-clause-faults g c = loc_faults_so g.D.Disk c.args.self.now c.handle.new.self c.handle.result c.handle.ensures.faults
