use Rattle.std.proofs.Common.{sym, subst, ◌∙◌}
use Rattle.std.specs.declared.alloc.AllocError.{AllocError}
use Rattle.spec_model.specs.Calls.{call_seat}
use Rattle.spec_rows.specs.Callbacks.{held_under, is_seat_of, key_answered}
use Rattle.spec_volrows.specs.VolSteps.{VolTurn}
use Rattle.afs_volserv.specs.Handling.{StepsVolumes}
use Rattle.afs_volserv.proofs.Stepping.{repeats_none, repeats_some}
use Rattle.afs_sharing.specs.Lasting.{lasting_of}
use Rattle.afs_volserv.proofs.server.VolServer.repeat.Goals as goal

pub returns-in-Some : goal.returns-in-Some
returns-in-Some g c = subst (λ (t : VolTurn). StepsVolumes {E = AllocError} t c.args.self.now c.give_again.new.self c.args.callbacks.now c.give_again.new.callbacks c.args.store.now c.give_again.new.store c.give_again.result) (repeats_some c.args.self.now c.args.callbacks.now c.args.store.now c.args.now c.args.reply (held_under (key_answered c.args.reply) c.args.self.now.held) (is_seat_of c.args.reply (call_seat c.args.reply.head.to (lasting_of c.args.store.now.durable).kept)) c.in-Some.waits (sym c.in-Some.is ∙ c.in_ok-waits.ensures)) c.give_again.ensures

pub returns-in-None : goal.returns-in-None
returns-in-None g c = subst (λ (t : VolTurn). StepsVolumes {E = AllocError} t c.args.self.now c.pass.new.self c.args.callbacks.now c.pass.new.callbacks c.args.store.now c.pass.new.store c.pass.result) (repeats_none c.args.self.now c.args.callbacks.now c.args.store.now c.args.now c.args.reply (held_under (key_answered c.args.reply) c.args.self.now.held) (is_seat_of c.args.reply (call_seat c.args.reply.head.to (lasting_of c.args.store.now.durable).kept)) (sym c.in-None.is ∙ c.in_ok-waits.ensures)) c.pass.ensures
