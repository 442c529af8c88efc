use Rattle.std.proofs.Common.{rules, not, filter, ap, sym, subst, ◌∙◌}
use Rattle.std.proofs.lemmas.Fn.{filter_same}
use Rattle.spec_ideal.specs.Tables.{Table, AscendsFrom}
use Rattle.afs_seats.proofs.Places.{filter_ascends}
use Rattle.spec_records.specs.Durable.{is_flagged}
use Rattle.afs_shelves.specs.Shelving.{shelved}
use Rattle.afs_shelves.specs.declared.shelf.Shelf.{Shelf}
use Rattle.afs_shelves.proofs.doing.unflagged.Goals as goal

pub from_items-requires : goal.from_items-requires
from_items-requires c =
    subst (λ (t : Table Shelf). AscendsFrom 0 t) (sym (filter_same _ (λ p. not (is_flagged (shelved p.1))) _ (λ x b f' h. search rules) _ _ c.retain.ensures.filtered))
    (filter_ascends 0 (λ p. not (is_flagged (shelved p.1))) _ c.into_items-items.ensures.ascends)

pub returns : goal.returns
returns c =
    c.from_items.ensures
    ∙ (filter_same _ (λ p. not (is_flagged (shelved p.1))) _ (λ x b f' h. search rules) _ _ c.retain.ensures.filtered
    ∙ ap (λ (t : Table Shelf). filter (λ p. not (is_flagged (shelved p.1))) t) c.into_items-items.ensures.items)
