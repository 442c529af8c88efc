use Rattle.std.proofs.Common.{◌≡◌, Option, Some, sym, subst, ◌∙◌}
use Rattle.afs_sendings.specs.Pieces.{call_seen, Piece}
use Rattle.afs_volserv.specs.Handling.{vol_timed_then, MakesVolumes}
use Rattle.afs_volserv.proofs.server.VolServer.timeout.Goals as goal

some_is : {A : Type 0} (x y : A) → ◌≡◌ {A = Option A} (Some x) (Some y) → x ≡ y
some_is x y e = cc

pub returns-clause-step : goal.returns-clause-step
returns-clause-step g c p is =
    let s = c.args.store.now in
    let k = c.args.callbacks.now in
    let old = c.args.self.now in
    let same : c.in_ok-call.call ≡ p = some_is _ p (sym c.in_ok-call.ensures ∙ is) in
    subst (λ (q : Piece). MakesVolumes (vol_timed_then old k s c.args.now c.args.callee (call_seen q) q.content) s.node c.time_out.new.self c.time_out.new.callbacks c.time_out.new.store c.in_ok-outs.outs) same c.in_ok-outs.ensures.makes
