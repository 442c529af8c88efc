use Rattle.std.proofs.Common.{◌∙◌, ap, filter, not, subst, sym}
use Rattle.spec_ideal.specs.Tables.{Table}
use Rattle.spec_records.specs.Durable.{is_flagged}
use Rattle.afs_seats.specs.Seated.{Seated}
use Rattle.afs_shelves.specs.Numbered.{shelf_number, AreShelved}
use Rattle.afs_shelves.specs.Shelving.{shelved}
use Rattle.afs_shelves.specs.declared.shelf.Shelf.{Shelf}
use Rattle.afs_shelves.proofs.Numbers.{numbered_filter}
use Rattle.afs_shelves.proofs.shelves.Shelves.drop_flagged.Goals as goal

pub invariant_of-self : goal.invariant_of-self
invariant_of-self c =
    let left = c.unflagged.ensures ∙ ap (λ (s : Seated Shelf). filter (λ p. not (is_flagged (shelved p.1))) s.table) c.replace-volumes.ensures.value in
    record { shelved = subst AreShelved (sym left) (numbered_filter shelf_number (λ p. not (is_flagged (shelved p.1))) c.args.self.now.volumes.table c.args.self.now.shelved) }
