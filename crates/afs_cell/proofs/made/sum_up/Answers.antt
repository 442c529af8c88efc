use Rattle.std.proofs.Common.{ℕ}
use Rattle.afs_command.specs.Spans.{span}
use Rattle.afs_lending.specs.Outside.{Outside}
use Rattle.afs_cell.proofs.SummedUp.{left_behind, summed}
use Rattle.afs_cell.proofs.made.sum_up.Goals as goal

pub returns-clause-sums : goal.returns-clause-sums
returns-clause-sums g c =
    let o : Outside = record {
      sink = span (g.K.Sink.held c.args.sink.now) (g.K.Sink.held c.tell-told.new.sink);
      passed = g.K.Sink.passed c.tell-told.new.sink;
      lends = span (g.B.Bank.lends c.args.bank.now) (g.B.Bank.lends c.give_back_all-taken.new.bank);
      given = span (g.B.Bank.given c.args.bank.now) (g.B.Bank.given c.give_back_all-taken.new.bank);
      sink_faults = span (g.K.Sink.faults c.args.sink.now) (g.K.Sink.faults c.tell-told.new.sink);
      bank_faults = span (g.B.Bank.faults c.args.bank.now) (g.B.Bank.faults c.give_back_all-taken.new.bank);
      disk_faults = λ (n : ℕ). span (g.B.Bank.lent_faults c.args.bank.now n) (g.B.Bank.lent_faults c.give_back_all-taken.new.bank n);
    } in
    summed g.B.D.Disk.seen c.args.world _ o c.end-disks.result c.tell-told.result c.returned.result c.give_back_all-taken.result c.end-disks.ensures.disks c.tell-told.ensures c.give_back_all-taken.ensures.all c.give_back_all-taken.ensures.quiet c.give_back_all-taken.ensures.cause
    c.give_back_all-taken.ensures.never_falls c.returned.ensures

pub returns-clause-left : goal.returns-clause-left
returns-clause-left g c =
    left_behind g.B.D.Disk.seen g.B.D.Disk.may_leave g.B.D.Disk.faults g.B.D.Disk.limit c.args.world c.end-disks.result _ _ _ c.end-disks.ensures.disks c.end-disks.ensures.standing c.give_back_all-taken.ensures.back c.give_back_all-taken.ensures.faults c.give_back_all-taken.ensures.never_falls
