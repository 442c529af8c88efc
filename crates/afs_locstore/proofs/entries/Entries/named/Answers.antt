use Rattle.std.proofs.Common.{◌≡◌, ◌∙◌, subst}
use Rattle.std.specs.Option.{option_copied}
use Rattle.std.specs.Str.{bytes_eq}
use Rattle.spec_ideal.specs.Directories.{bytes_below}
use Rattle.spec_rows.specs.LocRow.{found_name, is_named}
use Rattle.afs_locstore.specs.Indexed.{first_under}
use Rattle.afs_locstore.specs.Listings.{Listings}
use Rattle.afs_locstore.specs.Orders.{names_ordered}
use Rattle.afs_locstore.proofs.Listed.{found_under, lent_fits}
use Rattle.afs_locstore.proofs.entries.Entries.named.Goals as goal

pub returns-clause-value : goal.returns-clause-value
returns-clause-value c =
    subst (λ (v : Listings). option_copied c.first_found.result ≡ found_name c.args.name.now v.table) c.self.view_is
    (c.first_found.ensures.value ∙ found_under bytes_below bytes_eq names_ordered c.args.name.now (is_named c.args.name.now) c.self.inside.names.pairs c.self.inside.listed.table c.first_found.ensures.ascend c.self.invariant.ordered (c.self.invariant.names c.args.name.now))

pub returns-clause-fits : goal.returns-clause-fits
returns-clause-fits c = lent_fits c.first_found.result (first_under bytes_eq c.args.name.now c.self.inside.names.pairs) c.self.inside.listed.table c.self.invariant.fit c.first_found.ensures.value
