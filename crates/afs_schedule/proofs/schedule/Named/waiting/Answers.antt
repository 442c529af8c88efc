use Rattle.std.proofs.Common.{sym, arith}
use Rattle.afs_schedule.proofs.Lowest.{waiting_found, waiting_none}
use Rattle.afs_schedule.proofs.schedule.Named.waiting.Goals as goal

pub returns-then-self-sent-clause-lowest : goal.returns-then-self-sent-clause-lowest
returns-then-self-sent-clause-lowest c = λ named h. sym (waiting_found c.args.self.now named c.args.sent h c.if-self-sent.true c.ranges.sent.fits)

pub returns-else-self-sent-clause-lowest : goal.returns-else-self-sent-clause-lowest
returns-else-self-sent-clause-lowest c = λ named h. sym (waiting_none c.args.self.now named c.args.sent h (omega (arith, c.if-self-sent.false)))
