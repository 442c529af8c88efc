use Rattle.spec_rows.specs.ServerRow.{not_served, refusal}
use Rattle.afs_mover.proofs.Served.{refused_taken}
use Rattle.afs_mover.proofs.node.Mover.refuse_call.Goals as goal

pub returns : goal.returns
returns c =
    let old = c.args.self.now in
    let head = c.args.head.now in
    refused_taken head (refusal old.state.epoch head not_served) c.in_ok-reply.reply old c.keep_reply.new.self c.in_ok-outs.outs c.in_ok-reply.ensures c.in_ok-keep_reply.ensures.ok c.in_ok-outs.ensures
