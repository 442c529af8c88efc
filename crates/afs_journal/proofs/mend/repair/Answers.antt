-- A device call after another: what each may leave is what `Mended` says.
use Rattle.afs_journal.proofs.Mended.{cut, kept, closing, mended, is_mended}
use Rattle.afs_journal.proofs.mend.repair.Goals as goal

pub returns-in_err-cut-clause-any_moment : goal.returns-in_err-cut-clause-any_moment
returns-in_err-cut-clause-any_moment g c = λ bodies bytes ends told only.
    cut g.D.Disk.seen g.D.Disk.may_leave g.D.Disk.moment g.D.Disk.left_since g.met.D.Disk.just_now c.args.disk.now bytes told only bodies c.args.gate ends c.cut.new.self c.cut.ensures.time c.cut.ensures.crash

pub returns-in_err-sync-clause-any_moment : goal.returns-in_err-sync-clause-any_moment
returns-in_err-sync-clause-any_moment g c = λ bodies bytes ends told only.
    kept g.D.Disk.seen g.D.Disk.may_leave g.D.Disk.moment g.D.Disk.left_since g.met.D.Disk.just_now c.args.disk.now bytes told only bodies c.args.gate ends c.cut.new.self c.cut.ensures.time c.cut.ensures.crash c.sync.new.self c.sync.ensures.time c.sync.ensures.crash

pub returns-in_err-write_at-clause-any_moment : goal.returns-in_err-write_at-clause-any_moment
returns-in_err-write_at-clause-any_moment g c = λ bodies bytes ends told only.
    closing g.D.Disk.seen g.D.Disk.may_leave g.D.Disk.moment g.D.Disk.left_since g.met.D.Disk.just_now c.args.disk.now bytes told only bodies c.args.gate ends c.cut.new.self c.cut.ensures.time c.cut.ensures.crash c.sync.new.self c.sync.ensures.time c.sync.ensures.crash c.in_ok-cut.ensures.cut c.sync.ensures.seen c.in_ok-sync.ensures.durable c.write_at.new.self c.write_at.ensures.time c.write_at.ensures.crash

pub returns-in_err-sync-2-clause-any_moment : goal.returns-in_err-sync-2-clause-any_moment
returns-in_err-sync-2-clause-any_moment g c = λ bodies bytes ends told only.
    mended g.D.Disk.seen g.D.Disk.may_leave g.D.Disk.moment g.D.Disk.left_since g.met.D.Disk.just_now c.args.disk.now bytes told only bodies c.args.gate ends c.cut.new.self c.cut.ensures.time c.cut.ensures.crash c.sync.new.self c.sync.ensures.time c.sync.ensures.crash c.in_ok-cut.ensures.cut c.sync.ensures.seen c.in_ok-sync.ensures.durable c.write_at.new.self c.write_at.ensures.time c.write_at.ensures.crash c.sync-2.new.self c.sync-2.ensures.time c.sync-2.ensures.crash

pub returns-clause-any_moment : goal.returns-clause-any_moment
returns-clause-any_moment g c = λ bodies bytes ends told only.
    mended g.D.Disk.seen g.D.Disk.may_leave g.D.Disk.moment g.D.Disk.left_since g.met.D.Disk.just_now c.args.disk.now bytes told only bodies c.args.gate ends c.cut.new.self c.cut.ensures.time c.cut.ensures.crash c.sync.new.self c.sync.ensures.time c.sync.ensures.crash c.in_ok-cut.ensures.cut c.sync.ensures.seen c.in_ok-sync.ensures.durable c.write_at.new.self c.write_at.ensures.time c.write_at.ensures.crash c.sync-2.new.self c.sync-2.ensures.time c.sync-2.ensures.crash

pub returns-clause-done : goal.returns-clause-done
returns-clause-done g c = λ bodies bytes ends told only.
    is_mended g.D.Disk.seen g.D.Disk.may_leave g.D.Disk.moment g.D.Disk.left_since g.met.D.Disk.just_now c.args.disk.now bytes told only bodies c.args.gate ends c.cut.new.self c.cut.ensures.time c.cut.ensures.crash c.sync.new.self c.sync.ensures.time c.sync.ensures.crash c.in_ok-cut.ensures.cut c.sync.ensures.seen c.in_ok-sync.ensures.durable c.write_at.new.self c.write_at.ensures.time c.write_at.ensures.crash c.sync-2.new.self c.sync-2.ensures.time c.sync-2.ensures.crash c.in_ok-write_at.ensures.written c.sync-2.ensures.seen c.in_ok-sync-2.ensures.durable
