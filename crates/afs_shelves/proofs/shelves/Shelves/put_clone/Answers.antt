use Rattle.std.proofs.Common.{◌∙◌, Bool, ap, sym}
use Rattle.spec_ideal.specs.Tables.{Table, set, unset}
use Rattle.afs_num.specs.declared.types.Node.{Node}
use Rattle.spec_records.specs.Durable.{nothing_on}
use Rattle.afs_seats.specs.Seated.{Seated}
use Rattle.afs_shelves.specs.declared.shelf.Shelf.{Shelf}
use Rattle.afs_shelves.specs.declared.shelves.Shelves.{Shelves}
use Rattle.afs_shelves.proofs.Done.{clone_done, kept_where, less_where}
use Rattle.afs_shelves.proofs.shelves.Shelves.put_clone.Goals as goal

pub returns-then-is_there : goal.returns-then-is_there
returns-then-is_there c = λ d.
    let s = c.args.self.now in
    let m = c.release.new.self in
    let v = c.args.clone.volume in
    clone_done c.args.clone (nothing_on 0) d s.volumes.table m.volumes.table c.put.new.self.volumes.table s.forwardings.table c.put.new.self.forwardings.table c.requires.made c.release.ensures.altered
    (c.put.ensures.table ∙ ap (λ (b : Bool). set v.head.id (record { volume = v; is_new = b }) m.volumes.table) c.is_new-is_new.ensures)
    (kept_where v.head.id s.forwardings.table c.put.new.self.forwardings.table _ (sym c.has_volume-is_there.ensures ∙ c.if-is_there.true)
    (ap (λ (x : Shelves). x.forwardings.table) c.put.ensures.rest ∙ ap (λ (x : Seated Node). x.table) c.release.ensures.forwardings))

pub returns : goal.returns
returns c = λ d.
    let s = c.args.self.now in
    let m = c.release.new.self in
    let v = c.args.clone.volume in
    clone_done c.args.clone (nothing_on 0) d s.volumes.table m.volumes.table c.add.new.self.volumes.table s.forwardings.table c.add.new.self.forwardings.table c.requires.made c.release.ensures.altered
    (c.add.ensures.volumes ∙ ap (λ (b : Bool). set v.head.id (record { volume = v; is_new = b }) m.volumes.table) c.is_new-is_new.ensures)
    (less_where v.head.id s.forwardings.table c.add.new.self.forwardings.table _ (sym c.has_volume-is_there.ensures ∙ c.if-is_there.false)
    (c.add.ensures.forwardings ∙ ap (λ (x : Seated Node). unset v.head.id x.table) c.release.ensures.forwardings))
