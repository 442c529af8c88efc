use Rattle.std.proofs.Common.{◌∙◌, sym}
use Rattle.spec_fold.specs.Fold.{body_taken}
use Rattle.spec_records.specs.Durable.{noted}
use Rattle.afs_memory.proofs.Held.{fits_caller}
use Rattle.afs_memory.specs.Redos.{body_of, record_of}
use Rattle.afs_memory.specs.States.{parts_of}
use Rattle.afs_store.proofs.Folding.{mapped_some}
use Rattle.afs_volstore.proofs.Fewer.{few_redone}
use Rattle.afs_volstore.proofs.held.HeldFoldStoreRecordPart.redo.Goals as goal

pub redo-requires-clause-caller : goal.redo-requires-clause-caller
redo-requires-clause-caller c = fits_caller (record_of c.args.ready.head c.args.ready.redo) c.requires.ready.fits

pub redo-requires-clause-taken : goal.redo-requires-clause-taken
redo-requires-clause-taken c = sym (mapped_some (noted c.args.ready.head) (body_taken (body_of c.args.ready.redo) (parts_of c.args.self.now.state))) ∙ c.requires.taken

pub invariant_of-self : goal.invariant_of-self
invariant_of-self c = record { few = few_redone (body_of c.args.ready.redo) c.args.ready.head (parts_of c.args.self.now.state) (parts_of c.redo.new.self) c.args.self.now.few c.redo.ensures }
