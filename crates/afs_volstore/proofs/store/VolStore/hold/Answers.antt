use Rattle.std.proofs.Common.{◌≡◌, subst}
use Rattle.spec_ideal.specs.Tables.{set}
use Rattle.afs_seats.specs.Seated.{seen_as}
use Rattle.afs_shelves.proofs.Lists.{on_ok}
use Rattle.afs_volstore.specs.Stores.{hold_word, Store}
use Rattle.afs_volstore.proofs.Holds.{held_too}
use Rattle.afs_volstore.proofs.store.VolStore.hold.Goals as goal

pub returns-clause-ok : goal.returns-clause-ok
returns-clause-ok g c =
    let table = c.put.new.self.table in
    on_ok c.put.result _ _
    (λ is. subst (λ (s : Store g.row.D.Denot). seen_as hold_word table ≡ set c.args.id c.args.flags s.holds.table) c.self.view_is (held_too c.args.id c.args.flags c.self.inside.holds.table table c.requires is))
    c.put.ensures.ok
