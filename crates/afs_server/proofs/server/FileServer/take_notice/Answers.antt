use Rattle.std.proofs.Common.{refl}
use Rattle.spec_rows.specs.Callbacks as row
use Rattle.afs_server.specs.Hearing.{noticed_turn}
use Rattle.spec_rows.specs.ServerRow.{drops}
use Rattle.afs_server.specs.Seen.{backs_seen}
use Rattle.afs_saving.proofs.Still.{out_of_memory}
use Rattle.afs_server.proofs.Taken.{made_took, wants_took}
use Rattle.afs_server.proofs.server.FileServer.take_notice.Goals as goal

pub returns : goal.returns
returns g c =
    let s = c.args.store.now in
    let old = c.args.self.now in
    made_took g.D.Disk c.args.now drops (noticed_turn s.node s.durable.boot c.args.head.now (row.expired c.args.now (backs_seen old s.drawn))) old c.hear_notice.new.self s c.hear_notice.new.store c.in_ok-outs.outs refl tt c.in_ok-outs.ensures

pub returns-in_err-outs : goal.returns-in_err-outs
returns-in_err-outs g c =
    let s = c.args.store.now in
    let old = c.args.self.now in
    wants_took g.D.Disk c.args.now drops (noticed_turn s.node s.durable.boot c.args.head.now (row.expired c.args.now (backs_seen old s.drawn))) old c.hear_notice.new.self s c.hear_notice.new.store c.from_residual.result (out_of_memory c.from_residual.result c.from_residual.ensures.1) c.in_err-outs.ensures
