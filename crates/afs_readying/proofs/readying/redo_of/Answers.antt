use Rattle.std.proofs.Common.{◌≡◌, None, false, rules, sym, subst}
use Rattle.std.specs.List.{list_all}
use Rattle.afs_num.specs.declared.records.RecordBody.{RecordBody}
use Rattle.afs_num.specs.declared.records.RecordBody.TheVariants as bodies
use Rattle.spec_fold.specs.Fold.{body_taken}
use Rattle.spec_records.specs.Records.{row}
use Rattle.afs_volume.specs.Assembling.{can_be_read}
use Rattle.afs_memory.specs.States.{parts_of}
use Rattle.afs_readying.proofs.Readied.{change_fits}
use Rattle.afs_memory.proofs.Redone.{unread}
use Rattle.afs_readying.proofs.readying.redo_of.Goals as goal

pub returns-in_err-change-in-Change-clause-bad : goal.returns-in_err-change-in-Change-clause-bad
returns-in_err-change-in-Change-clause-bad c = λ e.
    let none : list_all can_be_read c.in-Change.vnodes ≡ false = search rules in
    subst (λ (b : RecordBody). body_taken b (parts_of c.args.state.now) ≡ None) (sym c.in-Change.is) (unread c.in-Change.id c.in-Change.counter c.in-Change.unique c.in-Change.vnodes c.in-Change.removed none (parts_of c.args.state.now))

pub returns-in_ok-change-in-Change-clause-images : goal.returns-in_ok-change-in-Change-clause-images
returns-in_ok-change-in-Change-clause-images c =
    let fits : (row (bodies.Change c.in-Change.id c.in-Change.counter c.in-Change.unique c.in-Change.vnodes c.in-Change.removed)).Fits = subst (λ (b : RecordBody). (row b).Fits) c.in-Change.is c.requires in
    rw c.in_ok-change-in-Change.ensures.told.1.1.0 (change_fits c.in-Change.id c.in-Change.counter c.in-Change.unique c.in-Change.vnodes c.in-Change.removed fits)
