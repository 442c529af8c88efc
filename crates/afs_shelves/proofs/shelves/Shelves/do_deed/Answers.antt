use Rattle.std.proofs.Common.{◌∙◌, ap, subst}
use Rattle.afs_num.specs.declared.types.Node.{Node}
use Rattle.spec_ideal.specs.Tables.{Table}
use Rattle.spec_fold.specs.Deeds.{done_by, flagged}
use Rattle.spec_records.specs.Durable.{nothing_on}
use Rattle.afs_seats.specs.Seated.{Seated}
use Rattle.afs_shelves.specs.Deeds.{deed_body, SuitsDeed}
use Rattle.afs_shelves.specs.Shelving.{kept_on, with_shelves}
use Rattle.afs_shelves.specs.declared.deed.Deed.{Deed}
use Rattle.afs_shelves.specs.declared.shelf.Shelf.{Shelf}
use Rattle.afs_shelves.proofs.Done.{alter_done, create_done, delete_done, forward_done, is_there, restore_done, restored_there, source_there}
use Rattle.afs_shelves.proofs.shelves.Shelves.do_deed.Goals as goal

pub put_clone-requires-clause-there : goal.put_clone-requires-clause-there
put_clone-requires-clause-there c =
    let s = c.args.self.now in
    let suits = subst (λ (x : Deed). SuitsDeed x (kept_on s)) c.in-Clone.is c.requires.suits in
    source_there c.in-Clone.clone (nothing_on 0) s.volumes.table s.forwardings.table suits.can

pub replace-requires : goal.replace-requires
replace-requires c =
    let s = c.args.self.now in
    let suits = subst (λ (x : Deed). SuitsDeed x (kept_on s)) c.in-Restore.is c.requires.suits in
    restored_there c.in-Restore.restored.volume.head.id c.in-Restore.restored.dump (nothing_on 0) s.volumes.table s.forwardings.table suits.can

pub set_flags-requires : goal.set_flags-requires
set_flags-requires c =
    let s = c.args.self.now in
    let suits = subst (λ (x : Deed). SuitsDeed x (kept_on s)) c.in-Flags.is c.requires.suits in
    is_there c.in-Flags.id s.volumes.table suits.can

pub returns-in-Create : goal.returns-in-Create
returns-in-Create c = λ d.
    let s = c.args.self.now in
    let suits = subst (λ (x : Deed). SuitsDeed x (kept_on s)) c.in-Create.is c.requires.suits in
    ap (λ (x : Deed). done_by (deed_body x) (with_shelves d s)) c.in-Create.is
    ∙ create_done c.in-Create.shelf d s.volumes.table c.add.new.self.volumes.table s.forwardings.table c.add.new.self.forwardings.table suits.made c.add.ensures.volumes c.add.ensures.forwardings

pub returns-in-Delete : goal.returns-in-Delete
returns-in-Delete c = λ d.
    let s = c.args.self.now in
    ap (λ (x : Deed). done_by (deed_body x) (with_shelves d s)) c.in-Delete.is
    ∙ delete_done c.in-Delete.id d s.volumes.table c.remove.new.self.volumes.table s.forwardings.table c.remove.new.self.forwardings.table c.remove.ensures.volumes (ap (λ (x : Seated Node). x.table) c.remove.ensures.forwardings)

pub returns-in-Restore : goal.returns-in-Restore
returns-in-Restore c = λ d.
    let s = c.args.self.now in
    let r = c.in-Restore.restored in
    let suits = subst (λ (x : Deed). SuitsDeed x (kept_on s)) c.in-Restore.is c.requires.suits in
    ap (λ (x : Deed). done_by (deed_body x) (with_shelves d s)) c.in-Restore.is
    ∙ restore_done r.dump r.volume (nothing_on 0) d s.volumes.table c.replace.new.self.volumes.table s.forwardings.table c.replace.new.self.forwardings.table suits.made c.replace.ensures.replaced (ap (λ (x : Seated Node). x.table) c.replace.ensures.forwardings)

pub returns-in-Flags : goal.returns-in-Flags
returns-in-Flags c = λ d.
    let s = c.args.self.now in
    ap (λ (x : Deed). done_by (deed_body x) (with_shelves d s)) c.in-Flags.is
    ∙ alter_done c.in-Flags.id (flagged c.in-Flags.flags) d s.volumes.table c.set_flags.new.self.volumes.table s.forwardings.table c.set_flags.new.self.forwardings.table c.set_flags.ensures.altered (ap (λ (x : Seated Node). x.table) c.set_flags.ensures.forwardings)

pub returns-in-Forward : goal.returns-in-Forward
returns-in-Forward c = λ d.
    let s = c.args.self.now in
    ap (λ (x : Deed). done_by (deed_body x) (with_shelves d s)) c.in-Forward.is
    ∙ forward_done c.in-Forward.id c.in-Forward.to d s.volumes.table c.forward_to.new.self.volumes.table s.forwardings.table c.forward_to.new.self.forwardings.table (ap (λ (x : Seated Shelf). x.table) c.forward_to.ensures.volumes) c.forward_to.ensures.forwardings
