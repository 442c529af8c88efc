use Rattle.std.proofs.Common.{ap, sym, subst, ◌∙◌}
use Rattle.afs_callees.specs.Called.{call_to}
use Rattle.afs_sendings.specs.Pieces.{AreTo, Way}
use Rattle.afs_volserv.specs.Seen.{VolMemory}
use Rattle.afs_volserv.proofs.server.VolServer.pieces.Goals as goal

pub returns-clause-to : goal.returns-clause-to
returns-clause-to g c to =
    let calls = ap (λ (w : Way). w.calls) c.in_ok-pieces.ensures ∙ (ap call_to c.deref.ensures.value ∙ ap (λ (m : VolMemory). call_to m.callees) c.self.view_is) in
    subst AreTo (sym calls) to
