use Rattle.std.proofs.Common.{subst, sym}
use Rattle.spec_fold.specs.Orders.{AreFew}
use Rattle.spec_records.specs.Durable.{Durable}
use Rattle.afs_volstore.proofs.held.HeldFoldStoreRecordPart.reserve.Goals as goal

pub returns-clause-keeps : goal.returns-clause-keeps
returns-clause-keeps c = λ p room. c.reserve.ensures.keeps p.redo room

pub invariant_of-self : goal.invariant_of-self
invariant_of-self c = record { few = subst (λ (d : Durable). AreFew d.volumes) (sym c.reserve.ensures.parts) c.args.self.now.few }
