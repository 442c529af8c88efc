use Rattle.afs_memory.specs.States.{parts_of}
use Rattle.afs_volstore.proofs.Fewer.{few_with_one}
use Rattle.afs_volstore.proofs.held.HeldFoldStoreRecordPart.take.Goals as goal

pub invariant_of-self : goal.invariant_of-self
invariant_of-self c = record { few = few_with_one c.args.first c.args.bytes.now (parts_of c.args.self.now.state) (parts_of c.take_one.new.state) c.args.self.now.few c.in-Ok.ensures.taken }
