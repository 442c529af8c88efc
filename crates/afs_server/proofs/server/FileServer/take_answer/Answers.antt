use Rattle.afs_server.specs.Handling.{server_seen, turn_then}
use Rattle.afs_saving.proofs.Still.{out_of_memory}
use Rattle.afs_server.proofs.Taken.{made_took, wants_took}
use Rattle.afs_server.proofs.Wholly.{few_decided, leaves_as, none_recorded}
use Rattle.afs_server.proofs.server.FileServer.take_answer.Goals as goal

pub answer-requires-clause-leaves : goal.answer-requires-clause-leaves
answer-requires-clause-leaves g c = leaves_as c.args.decided c.requires.leaves

pub returns : goal.returns
returns g c d is =
    let s = c.args.store.now in
    let old = c.args.self.now in
    let state = server_seen old s in
    let leaves = leaves_as c.args.decided c.requires.leaves in
    let none = none_recorded state c.args.now c.args.head.now d c.args.decided s.durable.boot leaves is in
    let few = few_decided state c.args.now c.args.head.now d c.args.decided c.requires.fits leaves is in
    made_took g.D.Disk c.args.now d (turn_then old s c.args.now d) old c.answer.new.self s c.answer.new.store c.in_ok-outs.outs none few (c.in_ok-outs.ensures d is)

pub returns-in_err-outs : goal.returns-in_err-outs
returns-in_err-outs g c d is =
    let s = c.args.store.now in
    let old = c.args.self.now in
    wants_took g.D.Disk c.args.now d (turn_then old s c.args.now d) old c.answer.new.self s c.answer.new.store c.from_residual.result (out_of_memory c.from_residual.result c.from_residual.ensures.1) (c.in_err-outs.ensures d is)
