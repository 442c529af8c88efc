use Rattle.std.proofs.Common.{List, subst}
use Rattle.afs_num.specs.declared.messages.Message.{Message}
use Rattle.afs_volserv.specs.Handling.{IsStep}
use Rattle.afs_volserv.specs.Sending.{sent_then}
use Rattle.afs_volserv.proofs.server.VolServer.pass.Goals as goal

pub returns : goal.returns
returns g c =
    subst (λ (ms : List Message). IsStep (sent_then c.args.self.now c.args.callbacks.now c.args.store.now c.args.now ms) c.args.self.now c.send.new.self c.args.callbacks.now c.send.new.callbacks c.args.store.now c.send.new.store c.in_ok-outs.outs) c.new-none.ensures c.in_ok-outs.ensures
