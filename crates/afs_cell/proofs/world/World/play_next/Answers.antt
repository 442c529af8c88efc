use Rattle.afs_schedule.specs.Schedules.{IsInput, ScheduleState}
use Rattle.afs_cell.proofs.NextSince.{all_since, fits_since, full_since, goes_since, kept_since, one_since, settled_since, ticks_since, unplayed_since, wants_since}
use Rattle.afs_cell.proofs.world.World.play_next.Goals as goal

pub returns-in_default-clause-goes : goal.returns-in_default-clause-goes
returns-in_default-clause-goes g c =
    unplayed_since g.D.Disk.seen g.D.Disk.may_leave g.D.Disk.faults g.D.Disk.limit c.args.self.now c.args.schedule.now c.next.new.self c.sent.result c.sent.ensures.sent

pub returns-in_default-next-clause-goes : goal.returns-in_default-next-clause-goes
returns-in_default-next-clause-goes g c =
    all_since g.D.Disk.seen g.D.Disk.may_leave g.D.Disk.faults g.D.Disk.limit c.args.self.now c.args.schedule.now c.next.new.self c.sent.result c.sent.ensures.sent c.in-Ok.next c.in_default-next.is c.in-Ok.ensures.ok

pub returns-in_default-next-clause-settled : goal.returns-in_default-next-clause-settled
returns-in_default-next-clause-settled g c =
    settled_since g.D.Disk.seen g.D.Disk.may_leave g.D.Disk.faults g.D.Disk.limit c.args.self.now c.args.schedule.now c.next.new.self c.sent.result c.sent.ensures.sent c.requires.way c.in-Ok.next c.in-Ok.ensures.behind

pub step-requires-clause-world : goal.step-requires-clause-world
step-requires-clause-world g c =
    record { before = c.requires.way.before; is = c.requires.way.is; world = c.requires.way.way.world }

pub step-requires-clause-fits : goal.step-requires-clause-fits
step-requires-clause-fits g c =
    fits_since g.D.Disk.seen g.D.Disk.may_leave g.D.Disk.faults g.D.Disk.limit c.args.self.now c.args.schedule.now c.next.new.self c.sent.result c.sent.ensures.sent c.requires.way c.in-Ok.next c.in-Some.event c.in-Some.is c.in-Ok.ensures.ok

pub step-requires-clause-one : goal.step-requires-clause-one
step-requires-clause-one g c =
    one_since g.D.Disk.seen g.D.Disk.may_leave g.D.Disk.faults g.D.Disk.limit c.args.self.now c.args.schedule.now c.next.new.self c.sent.result c.sent.ensures.sent c.requires.way c.in-Ok.next c.in-Some.event c.in-Some.is c.in-Ok.ensures.ok

pub step-requires-clause-kept : goal.step-requires-clause-kept
step-requires-clause-kept g c =
    kept_since g.D.Disk.seen g.D.Disk.may_leave g.D.Disk.faults g.D.Disk.limit c.args.self.now c.args.schedule.now c.next.new.self c.sent.result c.sent.ensures.sent c.requires.way c.in-Ok.next c.in-Some.event c.in-Some.is c.in-Ok.ensures.ok c.in-Ok.ensures.behind c.requires.settled

pub step-requires-clause-ticks : goal.step-requires-clause-ticks
step-requires-clause-ticks g c =
    ticks_since g.D.Disk.seen g.D.Disk.may_leave g.D.Disk.faults g.D.Disk.limit c.args.self.now c.args.schedule.now c.next.new.self c.sent.result c.sent.ensures.sent c.requires.way c.in-Ok.next c.in-Some.event c.in-Some.is c.in-Ok.ensures.ok

pub returns-in-Ok-step-clause-goes : goal.returns-in-Ok-step-clause-goes
returns-in-Ok-step-clause-goes g c =
    let e = c.in-Ok-step.ensures in goes_since g.D.Disk.seen g.D.Disk.may_leave g.D.Disk.faults g.D.Disk.limit c.args.self.now c.args.schedule.now c.next.new.self c.sent.result c.sent.ensures.sent c.step.new.self c.in-Ok.next c.in-Some.event c.in-Some.is c.in-Ok.ensures.ok e.world e.steps e.tells.1 e.clock

pub returns-in-Ok-step-clause-settled : goal.returns-in-Ok-step-clause-settled
returns-in-Ok-step-clause-settled g c =
    settled_since g.D.Disk.seen g.D.Disk.may_leave g.D.Disk.faults g.D.Disk.limit c.args.self.now c.args.schedule.now c.next.new.self c.sent.result c.sent.ensures.sent c.requires.way c.in-Ok.next c.in-Ok.ensures.behind

pub returns-in-Err-Limit-clause-goes : goal.returns-in-Err-Limit-clause-goes
returns-in-Err-Limit-clause-goes g c =
    let e = c.in-Err-Limit.ensures in full_since g.D.Disk.seen g.D.Disk.may_leave g.D.Disk.faults g.D.Disk.limit c.args.self.now c.args.schedule.now c.next.new.self c.sent.result c.sent.ensures.sent c.step.new.self c.in-Ok.next c.in-Some.event c.in-Err-Limit.field-0 c.in-Some.is c.in-Ok.ensures.ok c.in-Err-Limit.field-0-is e.steps

pub returns-in-Err-Limit-clause-settled : goal.returns-in-Err-Limit-clause-settled
returns-in-Err-Limit-clause-settled g c =
    settled_since g.D.Disk.seen g.D.Disk.may_leave g.D.Disk.faults g.D.Disk.limit c.args.self.now c.args.schedule.now c.next.new.self c.sent.result c.sent.ensures.sent c.requires.way c.in-Ok.next c.in-Ok.ensures.behind

pub returns-in-Err-OutOfMemory-clause-goes : goal.returns-in-Err-OutOfMemory-clause-goes
returns-in-Err-OutOfMemory-clause-goes g c =
    let e = c.in-Err-OutOfMemory.ensures in wants_since g.D.Disk.seen g.D.Disk.may_leave g.D.Disk.faults g.D.Disk.limit c.args.self.now c.args.schedule.now c.next.new.self c.sent.result c.sent.ensures.sent c.step.new.self (λ (t : ScheduleState). IsInput t c.in-Some.event) c.in-Err-OutOfMemory.field-0 c.in-Err-OutOfMemory.field-0-is e.world e.steps e.tells.1 e.counts

pub returns-in-Err-OutOfMemory-clause-settled : goal.returns-in-Err-OutOfMemory-clause-settled
returns-in-Err-OutOfMemory-clause-settled g c =
    settled_since g.D.Disk.seen g.D.Disk.may_leave g.D.Disk.faults g.D.Disk.limit c.args.self.now c.args.schedule.now c.next.new.self c.sent.result c.sent.ensures.sent c.requires.way c.in-Ok.next c.in-Ok.ensures.behind
