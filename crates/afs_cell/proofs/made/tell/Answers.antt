use Rattle.afs_cell.proofs.SummedUp.{sums_done, sums_front}
use Rattle.afs_cell.proofs.made.tell.Goals as goal

pub returns-in-Ok : goal.returns-in-Ok
returns-in-Ok g c = sums_done _ _ _ _ _ _ c.put_summary.result c.in-Ok.field-0 c.in-Ok.is c.put_summary.ensures.all c.put_summary.ensures.puts

pub returns-in-Err : goal.returns-in-Err
returns-in-Err g c = sums_front _ _ _ (g.K.Sink.passed c.put_summary.new.sink) _ _ c.put_summary.result c.in-Err.field-0 c.in-Err.is c.put_summary.ensures.puts
