-- A device call after another: what each may leave is what `Mended` says.
use Rattle.std.proofs.Common.{[], refl}
use Rattle.afs_journal.proofs.Mended.{began, begun, is_begun}
use Rattle.afs_journal.proofs.mend.begin.Goals as goal

pub returns-in_err-write_at-clause-any_moment : goal.returns-in_err-write_at-clause-any_moment
returns-in_err-write_at-clause-any_moment g c = λ told only.
    began g.D.Disk.seen g.D.Disk.may_leave g.D.Disk.moment g.D.Disk.left_since g.met.D.Disk.just_now c.args.disk.now [] told only refl c.write_at.new.self c.write_at.ensures.time c.write_at.ensures.crash

pub returns-in_err-sync-clause-any_moment : goal.returns-in_err-sync-clause-any_moment
returns-in_err-sync-clause-any_moment g c = λ told only.
    begun g.D.Disk.seen g.D.Disk.may_leave g.D.Disk.moment g.D.Disk.left_since g.met.D.Disk.just_now c.args.disk.now [] told only refl c.write_at.new.self c.write_at.ensures.time c.write_at.ensures.crash c.sync.new.self c.sync.ensures.time c.sync.ensures.crash

pub returns-clause-any_moment : goal.returns-clause-any_moment
returns-clause-any_moment g c = λ told only.
    begun g.D.Disk.seen g.D.Disk.may_leave g.D.Disk.moment g.D.Disk.left_since g.met.D.Disk.just_now c.args.disk.now [] told only refl c.write_at.new.self c.write_at.ensures.time c.write_at.ensures.crash c.sync.new.self c.sync.ensures.time c.sync.ensures.crash

pub returns-clause-done : goal.returns-clause-done
returns-clause-done g c = λ told only.
    is_begun g.D.Disk.seen g.D.Disk.may_leave g.D.Disk.moment g.D.Disk.left_since g.met.D.Disk.just_now c.args.disk.now [] told only refl c.write_at.new.self c.write_at.ensures.time c.write_at.ensures.crash c.sync.new.self c.sync.ensures.time c.sync.ensures.crash c.in_ok-write_at.ensures.written c.sync.ensures.seen c.in_ok-sync.ensures.durable
