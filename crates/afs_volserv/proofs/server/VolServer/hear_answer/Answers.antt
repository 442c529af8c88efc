use Rattle.std.proofs.Common.{ap, sym, subst, to_z-of_z, ◌∙◌}
use Rattle.std.specs.Prelude.{ℤ}
use Rattle.std.specs.declared.alloc.AllocError.{AllocError}
use Rattle.afs_callees.specs.Called.{call_to}
use Rattle.spec_volrows.specs.VolSteps.{VolTurn}
use Rattle.afs_volserv.specs.Handling.{StepsVolumes}
use Rattle.afs_volserv.specs.Sending.{answered_then}
use Rattle.afs_volserv.proofs.Moving.{answer_heard, answer_unheard, heard_is}
use Rattle.afs_volserv.proofs.server.VolServer.hear_answer.Goals as goal

pub take_answer-requires-clause-call : goal.take_answer-requires-clause-call
take_answer-requires-clause-call g c =
    let s = c.args.store.now in
    heard_is s.node s.durable.boot c.args.head.now (call_to c.args.self.now.callees c.args.head.now.from) c.in-Some.call (sym c.in-Some.is ∙ c.in_ok-call.ensures)

pub returns-in-Some : goal.returns-in-Some
returns-in-Some g c =
    let made = subst (λ (t : VolTurn). StepsVolumes {E = AllocError} t c.args.self.now c.take_answer.new.self c.args.callbacks.now c.take_answer.new.callbacks c.args.store.now c.take_answer.new.store c.take_answer.result) (ap (λ (z : ℤ). answered_then c.args.self.now c.args.callbacks.now c.args.store.now c.args.now c.args.head.now.from c.in-Some.call.content z) (to_z-of_z c.ranges.code)) c.take_answer.ensures in
    subst (λ (t : VolTurn). StepsVolumes {E = AllocError} t c.args.self.now c.take_answer.new.self c.args.callbacks.now c.take_answer.new.callbacks c.args.store.now c.take_answer.new.store c.take_answer.result) (answer_heard c.args.self.now c.args.callbacks.now c.args.store.now c.args.now c.args.head.now c.args.code c.in-Some.call (sym c.in-Some.is ∙ c.in_ok-call.ensures)) made

pub returns-in-None : goal.returns-in-None
returns-in-None g c = subst (λ (t : VolTurn). StepsVolumes {E = AllocError} t c.args.self.now c.pass.new.self c.args.callbacks.now c.pass.new.callbacks c.args.store.now c.pass.new.store c.pass.result) (answer_unheard c.args.self.now c.args.callbacks.now c.args.store.now c.args.now c.args.head.now c.args.code (sym c.in-None.is ∙ c.in_ok-call.ensures)) c.pass.ensures
