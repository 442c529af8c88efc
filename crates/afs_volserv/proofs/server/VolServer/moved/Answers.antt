use Rattle.std.proofs.Common.{◌∷◌, ◌∙◌}
use Rattle.afs_sendings.specs.Pieces.{starts}
use Rattle.afs_sendings.specs.Sendings.{rest_of}
use Rattle.spec_volrows.specs.VolSteps.{piece_gone}
use Rattle.afs_volserv.proofs.server.VolServer.moved.Goals as goal

pub returns-clause-way : goal.returns-clause-way
returns-clause-way g c = c.in_ok-go_on.ensures.way ∙ (λ i. starts (c.stand.ensures i).node (c.stand.ensures i).boot c.args.node (piece_gone c.args.first.now ∷ rest_of c.args.call.now.content) (c.in_ok-pieces.ensures.way i))

pub returns-clause-to : goal.returns-clause-to
returns-clause-to g c = c.in_ok-go_on.ensures.to (c.in_ok-pieces.ensures.to c.requires.serves.calls)
