use Rattle.std.proofs.Common.{ap, ◌∙◌}
use Rattle.afs_sendings.specs.Pieces.{ends, Piece}
use Rattle.afs_sendings.specs.Sendings.{rest_of}
use Rattle.afs_volserv.proofs.server.VolServer.ended.Goals as goal

pub returns-clause-way : goal.returns-clause-way
returns-clause-way g c = c.in_ok-end.ensures.way ∙ (λ i. ends (c.stand.ensures i).node (c.stand.ensures i).boot c.args.node ((c.in_ok-rest.ensures ∙ ap (λ (x : Piece). rest_of x.content) c.call.view_is) i) (c.in_ok-copy.ensures.same i) (c.in_ok-pieces.ensures.way i))

pub returns-clause-to : goal.returns-clause-to
returns-clause-to g c = c.in_ok-end.ensures.to (c.in_ok-pieces.ensures.to c.requires.serves.calls)
