use Rattle.std.proofs.Common.{◌∙◌}
use Rattle.afs_sendings.specs.Pieces.{retries}
use Rattle.afs_volserv.proofs.server.VolServer.retried.Goals as goal

pub returns-clause-way : goal.returns-clause-way
returns-clause-way g c = c.in_ok-retry.ensures.way ∙ (λ i. retries (c.stand.ensures i).node (c.stand.ensures i).boot c.args.node c.args.call.now c.args.first.now (c.in_ok-pieces.ensures.way i))

pub returns-clause-to : goal.returns-clause-to
returns-clause-to g c = c.in_ok-retry.ensures.to (c.in_ok-pieces.ensures.to c.requires.serves.calls)
