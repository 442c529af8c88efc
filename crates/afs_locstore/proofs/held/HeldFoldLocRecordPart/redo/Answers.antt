use Rattle.std.proofs.Common.{◌∙◌, sym}
use Rattle.spec_records.specs.LocDurable.{loc_body_taken, loc_with_reply}
use Rattle.afs_store.proofs.Folding.{mapped_some}
use Rattle.afs_locstore.specs.States.{body_of, parts_of}
use Rattle.afs_locstore.proofs.Replies.{head_caller}
use Rattle.afs_locstore.proofs.held.HeldFoldLocRecordPart.redo.Goals as goal

pub redo-requires-clause-caller : goal.redo-requires-clause-caller
redo-requires-clause-caller c = head_caller c.args.ready.head c.requires.ready.fits.head

pub redo-requires-clause-taken : goal.redo-requires-clause-taken
redo-requires-clause-taken c =
    sym (mapped_some (loc_with_reply c.args.ready.head.caller c.args.ready.head) (loc_body_taken (body_of c.args.ready.redo) (parts_of c.args.self.now.state))) ∙ c.requires.taken
