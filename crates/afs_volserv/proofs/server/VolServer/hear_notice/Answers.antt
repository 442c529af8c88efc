use Rattle.std.proofs.Common.{sym, subst, ◌∙◌}
use Rattle.std.specs.declared.alloc.AllocError.{AllocError}
use Rattle.afs_callees.specs.Called.{call_to}
use Rattle.spec_volrows.specs.VolSteps.{VolTurn}
use Rattle.afs_volserv.specs.Handling.{StepsVolumes}
use Rattle.afs_volserv.proofs.Moving.{heard_is, notice_heard, notice_unheard}
use Rattle.afs_volserv.proofs.server.VolServer.hear_notice.Goals as goal

pub renew-requires-clause-call : goal.renew-requires-clause-call
renew-requires-clause-call g c =
    let s = c.args.store.now in
    heard_is s.node s.durable.boot c.args.head.now (call_to c.args.self.now.callees c.args.head.now.from) c.in-Some.call (sym c.in-Some.is ∙ c.in_ok-call.ensures)

pub returns-in-Some : goal.returns-in-Some
returns-in-Some g c = subst (λ (t : VolTurn). StepsVolumes {E = AllocError} t c.args.self.now c.renew.new.self c.args.callbacks.now c.renew.new.callbacks c.args.store.now c.renew.new.store c.renew.result) (notice_heard c.args.self.now c.args.callbacks.now c.args.store.now c.args.now c.args.head.now c.in-Some.call (sym c.in-Some.is ∙ c.in_ok-call.ensures)) c.renew.ensures

pub returns-in-None : goal.returns-in-None
returns-in-None g c = subst (λ (t : VolTurn). StepsVolumes {E = AllocError} t c.args.self.now c.pass.new.self c.args.callbacks.now c.pass.new.callbacks c.args.store.now c.pass.new.store c.pass.result) (notice_unheard c.args.self.now c.args.callbacks.now c.args.store.now c.args.now c.args.head.now (sym c.in-None.is ∙ c.in_ok-call.ensures)) c.pass.ensures
