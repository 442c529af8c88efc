use Rattle.std.proofs.Common.{◌≡◌, Result, Ok, Err, subst, sym, arith}
use Rattle.std.specs.Prelude.{IfOk}
use Rattle.afs_num.specs.declared.messages.Received.{Received}
use Rattle.spec_model.specs.Messages.{IsSoundReceived}
use Rattle.spec_model.proofs.Spellings.{read_sound}
use Rattle.afs_message.proofs.messages.read_message.Goals as goal

sound_where_read : {E : Type 0} (result : Result Received E) (x : Received) → IfOk result (λ y. y ≡ x) → IsSoundReceived x → IfOk result IsSoundReceived
sound_where_read {E} (Ok y) x is sound = subst IsSoundReceived (sym is) sound
sound_where_read {E} (Err e) x is sound = tt

pub returns-clause-sound : goal.returns-clause-sound
returns-clause-sound c = sound_where_read c.receive.result _ c.receive.ensures (read_sound c.args.served.now c.args.bytes.now (λ i. omega (arith, c.type_inv.bytes i)))
