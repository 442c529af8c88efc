use Rattle.std.proofs.Common.{◌∙◌}
use Rattle.afs_sendings.specs.Pieces.{adds}
use Rattle.afs_voldecisions.specs.Verdicts.{dispatch_of}
use Rattle.afs_volserv.proofs.server.VolServer.added.Goals as goal

pub returns-clause-way : goal.returns-clause-way
returns-clause-way g c =
    let x = dispatch_of c.args.dispatch in
    c.in_ok-add.ensures.way ∙ (λ i. adds (c.stand.ensures i).node (c.stand.ensures i).boot (c.server_node-node.ensures.value i) (c.of-sending.ensures i) (c.in_ok-pieces.ensures.way i))

pub returns-clause-to : goal.returns-clause-to
returns-clause-to g c = c.in_ok-add.ensures.to (c.in_ok-pieces.ensures.to c.requires.serves.calls)
