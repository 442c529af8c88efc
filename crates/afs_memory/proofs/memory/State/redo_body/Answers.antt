use Rattle.std.proofs.Common.{◌≡◌, true, is_some, subst, ap, ◌∙◌}
use Rattle.spec_fold.specs.Fold.{body_taken}
use Rattle.afs_memory.specs.Redoing.{FitsRedo}
use Rattle.afs_memory.specs.Redos.{body_of, IsReady}
use Rattle.afs_memory.specs.States.{parts_of}
use Rattle.afs_memory.specs.declared.redo.Redo.{Redo}
use Rattle.afs_memory.proofs.Redone.{are_put, can_change, is_taken, is_there_to_change}
use Rattle.afs_memory.proofs.memory.State.redo_body.Goals as goal

pub put_change-requires-clause-there : goal.put_change-requires-clause-there
put_change-requires-clause-there c =
    is_there_to_change c.in-Change.id c.in-Change.change (parts_of c.args.self.now) c.args.self.now.shelves.volumes.table
    (subst (λ (r : Redo). is_some (body_taken (body_of r) (parts_of c.args.self.now)) ≡ true) c.in-Change.is c.requires.taken)

pub put_change-requires-clause-can : goal.put_change-requires-clause-can
put_change-requires-clause-can c =
    can_change c.in-Change.id c.in-Change.change (parts_of c.args.self.now) c.args.self.now.shelves.volumes.table
    (subst (λ (r : Redo). is_some (body_taken (body_of r) (parts_of c.args.self.now)) ≡ true) c.in-Change.is c.requires.taken)
    (subst IsReady c.in-Change.is c.requires.ready) (subst FitsRedo c.in-Change.is c.requires.fits)

pub returns-in-Volumes-clause-parts : goal.returns-in-Volumes-clause-parts
returns-in-Volumes-clause-parts c =
    ap (λ (r : Redo). body_taken (body_of r) (parts_of c.args.self.now)) c.in-Volumes.is
    ∙ are_put c.in-Volumes.added c.args.self.now.shelves.volumes.table c.put_volumes.new.volumes.table c.put_volumes.result (parts_of c.args.self.now) c.put_volumes.ensures.taken c.put_volumes.ensures.many
    (subst (λ (r : Redo). is_some (body_taken (body_of r) (parts_of c.args.self.now)) ≡ true) c.in-Volumes.is c.requires.taken)

pub returns-in-Change-clause-parts : goal.returns-in-Change-clause-parts
returns-in-Change-clause-parts c =
    ap (λ (r : Redo). body_taken (body_of r) (parts_of c.args.self.now)) c.in-Change.is
    ∙ is_taken c.in-Change.id c.in-Change.change (parts_of c.args.self.now) c.args.self.now.shelves.volumes.table c.put_change.new.volumes.table c.put_change.ensures.changed
