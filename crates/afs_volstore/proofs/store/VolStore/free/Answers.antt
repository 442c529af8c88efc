use Rattle.std.proofs.Common.{◌≡◌, ◌<◌, ◌∙◌, true, is_some, ap, subst}
use Rattle.spec_ideal.specs.Tables.{get, unset}
use Rattle.afs_seats.specs.Seated.{seen_as}
use Rattle.afs_volstore.specs.Stores.{hold_word, Store}
use Rattle.afs_volstore.proofs.Holds.{held_no_more, is_held}
use Rattle.afs_volstore.proofs.store.VolStore.free.Goals as goal

pub returns-clause-table : goal.returns-clause-table
returns-clause-table g c =
    let table = c.take.new.self.table in
    subst (λ (s : Store g.row.D.Denot). seen_as hold_word table ≡ unset c.args.id s.holds.table) c.self.view_is (held_no_more c.args.id c.self.inside.holds.table table c.take.ensures.table)

pub returns-clause-room : goal.returns-clause-room
returns-clause-room g c =
    subst (λ (s : Store g.row.D.Denot). is_some (get c.args.id s.holds.table) ≡ true → s.holds.room < c.take.new.self.room) c.self.view_is
    (λ held. c.take.ensures.room (ap is_some c.take.ensures.value ∙ is_held c.args.id c.self.inside.holds.table held))
