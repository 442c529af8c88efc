use Rattle.std.proofs.Common.{[], arith}
use Rattle.spec_rows.specs.Callbacks as row
use Rattle.spec_rows.specs.Callbacks.{call_timed_out}
use Rattle.afs_server.specs.Handling.{server_seen}
use Rattle.afs_server.specs.Seen.{backs_seen}
use Rattle.afs_server.proofs.Drawn.{timed_draws_breaks, timed_draws_calls}
use Rattle.afs_server.proofs.server.FileServer.timeout.Goals as goal

pub returns-clause-draws : goal.returns-clause-draws
returns-clause-draws g c =
    let old = c.args.self.now in
    let store = c.args.store.now in
    let b = backs_seen old store.drawn in
    let call = c.in_ok-call.call in
    let lines = (call_timed_out store.node store.durable.boot c.args.callee call (row.expired c.args.now b)).lines in
    let made = c.in_ok-outs.ensures.0 in
    let calls = timed_draws_calls store.node c.args.callee store.durable.boot c.args.now call b (server_seen old store) lines [] c.time_out.new.self c.time_out.new.store c.in_ok-outs.outs made c.requires.serves.owed in
    (omega (arith, calls), timed_draws_breaks store.node c.args.callee store.durable.boot c.args.now call b (server_seen old store) lines [] c.time_out.new.self c.time_out.new.store c.in_ok-outs.outs made)
