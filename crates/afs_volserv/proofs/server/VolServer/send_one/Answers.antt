use Rattle.std.proofs.Common.{◌++◌, ◌∷◌, List, [], ap, subst, ◌∙◌}
use Rattle.afs_num.specs.declared.messages.Message.{Message}
use Rattle.afs_volserv.specs.Handling.{IsStep}
use Rattle.afs_volserv.specs.Sending.{sent_then}
use Rattle.afs_volserv.proofs.server.VolServer.send_one.Goals as goal

pub returns : goal.returns
returns g c =
    let m = c.args.self.now in
    let k = c.args.callbacks.now in
    let s = c.args.store.now in
    subst (λ (ms : List Message). IsStep (sent_then m k s c.args.now ms) m c.send.new.self k c.send.new.callbacks s c.send.new.store c.in_ok-outs.outs) (c.in_ok-push.ensures.ok ∙ ap (λ (ms : List Message). ms ++ c.args.message ∷ []) c.new-sent.ensures) c.in_ok-outs.ensures
