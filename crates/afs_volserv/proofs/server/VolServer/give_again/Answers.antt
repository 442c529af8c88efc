use Rattle.std.proofs.Common.{sym, subst}
use Rattle.std.specs.declared.alloc.AllocError.{AllocError}
use Rattle.spec_volrows.specs.VolSteps.{VolTurn}
use Rattle.afs_volserv.specs.Handling.{StepsVolumes}
use Rattle.afs_volserv.proofs.Stepping.{again_none, again_some}
use Rattle.afs_volserv.proofs.server.VolServer.give_again.Goals as goal

pub returns-then-is_empty : goal.returns-then-is_empty
returns-then-is_empty g c = subst (λ (t : VolTurn). StepsVolumes {E = AllocError} t c.args.self.now c.send_one.new.self c.args.callbacks.now c.send_one.new.callbacks c.args.store.now c.send_one.new.store c.send_one.result) (again_none c.args.self.now c.args.callbacks.now c.args.store.now c.args.now c.args.reply c.args.waits (sym c.if-is_empty.ensures)) c.send_one.ensures

pub returns-else-is_empty : goal.returns-else-is_empty
returns-else-is_empty g c = subst (λ (t : VolTurn). StepsVolumes {E = AllocError} t c.args.self.now c.wait_again.new.self c.args.callbacks.now c.wait_again.new.callbacks c.args.store.now c.wait_again.new.store c.wait_again.result) (again_some c.args.self.now c.args.callbacks.now c.args.store.now c.args.now c.args.reply c.args.waits (sym c.if-is_empty.ensures)) c.wait_again.ensures
