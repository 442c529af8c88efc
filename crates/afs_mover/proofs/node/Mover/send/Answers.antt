use Rattle.afs_mover.proofs.Sent.{sent_as}
use Rattle.afs_mover.proofs.node.Mover.send.Goals as goal

pub returns-clause-sent : goal.returns-clause-sent
returns-clause-sent c =
    let me = c.args.self.now in
    sent_as me.node me.state c.args.number c.known_boot-boot.result c.args.asking.now c.ask-ask.result.now c.in_ok-outs.outs.parcels (c.ask-ask.ensures.value me.state.servers) c.known_boot-boot.ensures c.in_ok-outs.ensures.sent
