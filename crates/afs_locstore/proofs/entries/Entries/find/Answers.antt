use Rattle.std.proofs.Common.{◌≡◌, ◌∙◌, subst}
use Rattle.std.specs.Option.{option_copied}
use Rattle.std.specs.Prelude.{nat_eq, nat_lt}
use Rattle.spec_rows.specs.LocRow.{found_id, has_id}
use Rattle.afs_locstore.specs.Indexed.{first_under}
use Rattle.afs_locstore.specs.Listings.{Listings}
use Rattle.afs_locstore.specs.Orders.{numbers_ordered}
use Rattle.afs_locstore.proofs.Listed.{found_under, lent_fits}
use Rattle.afs_locstore.proofs.entries.Entries.find.Goals as goal

pub returns-clause-value : goal.returns-clause-value
returns-clause-value c =
    subst (λ (v : Listings). option_copied c.first_found.result ≡ found_id c.args.id v.table) c.self.view_is
    (c.first_found.ensures.value ∙ found_under nat_lt nat_eq numbers_ordered c.args.id (has_id c.args.id) c.self.inside.numbers.pairs c.self.inside.listed.table c.first_found.ensures.ascend c.self.invariant.ordered (c.self.invariant.numbers c.args.id))

pub returns-clause-fits : goal.returns-clause-fits
returns-clause-fits c = lent_fits c.first_found.result (first_under nat_eq c.args.id c.self.inside.numbers.pairs) c.self.inside.listed.table c.self.invariant.fit c.first_found.ensures.value
