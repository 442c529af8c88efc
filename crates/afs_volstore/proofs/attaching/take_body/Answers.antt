use Rattle.std.proofs.Common.{◌∙◌, ap, sym, map, rules}
use Rattle.spec_ideal.specs.Tables.{Table}
use Rattle.spec_fold.specs.Fold.{body_taken}
use Rattle.spec_records.specs.Durable.{with_volumes}
use Rattle.afs_shelves.specs.declared.shelf.Shelf.{Shelf}
use Rattle.afs_memory.specs.Redoing.{holding}
use Rattle.afs_memory.specs.Redos.{body_of, told}
use Rattle.afs_memory.specs.States.{parts_of}
use Rattle.afs_memory.specs.declared.redo.Redo.{Redo}
use Rattle.afs_shelves.proofs.Lists.{on_ok}
use Rattle.afs_memory.proofs.Redone.{is_taken, isnt_taken}
use Rattle.afs_volstore.proofs.attaching.take_body.Goals as goal

pub returns-then-put_volumes-clause-taken : goal.returns-then-put_volumes-clause-taken
returns-then-put_volumes-clause-taken c =
    ap (λ (r : Redo). body_taken (body_of r) (parts_of c.args.state.now)) c.in-Volumes.is
    ∙ (ap (λ (t : Table Shelf). with_volumes (map told c.in-Volumes.added) (holding (parts_of c.args.state.now) t)) (sym c.reserve.ensures.table) ∙ c.put_volumes.ensures.taken (search rules) (parts_of c.args.state.now))

pub returns-else-put_volumes-clause-bad : goal.returns-else-put_volumes-clause-bad
returns-else-put_volumes-clause-bad c = λ e.
    ap (λ (r : Redo). body_taken (body_of r) (parts_of c.args.state.now)) c.in-Volumes.is
    ∙ (ap (λ (t : Table Shelf). with_volumes (map told c.in-Volumes.added) (holding (parts_of c.args.state.now) t)) (sym c.reserve.ensures.table) ∙ c.put_volumes.ensures.many (search rules) (parts_of c.args.state.now))

pub returns-in-Change-clause-taken : goal.returns-in-Change-clause-taken
returns-in-Change-clause-taken c =
    on_ok c.change_in.result _ _
    (λ is. ap (λ (r : Redo). body_taken (body_of r) (parts_of c.args.state.now)) c.in-Change.is ∙ is_taken c.in-Change.id c.in-Change.change (parts_of c.args.state.now) c.args.state.now.shelves.volumes.table c.change_in.new.volumes.table is)
    c.change_in.ensures.changed

pub returns-in-Change-clause-bad : goal.returns-in-Change-clause-bad
returns-in-Change-clause-bad c = λ e.
    ap (λ (r : Redo). body_taken (body_of r) (parts_of c.args.state.now)) c.in-Change.is ∙ isnt_taken c.in-Change.id c.in-Change.change (parts_of c.args.state.now) c.args.state.now.shelves.volumes.table (c.change_in.ensures.bad e)
