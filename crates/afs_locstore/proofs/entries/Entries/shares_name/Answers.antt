use Rattle.std.proofs.Common.{◌≡◌, ◌∙◌, ℕ, Option, ap, subst}
use Rattle.std.specs.Option.{option_copied}
use Rattle.std.specs.Str.{bytes_eq}
use Rattle.spec_ideal.specs.Directories.{bytes_below}
use Rattle.spec_rows.specs.LocRow.{any_other, is_named}
use Rattle.afs_locstore.specs.Indexed.{another_under}
use Rattle.afs_locstore.specs.Listings.{entry_of, Listings}
use Rattle.afs_locstore.specs.Orders.{names_ordered}
use Rattle.afs_locstore.proofs.Listed.{another_other}
use Rattle.afs_locstore.proofs.entries.Entries.shares_name.Goals as goal

pub returns : goal.returns
returns c =
    let name = c.args.new.now.name in
    let ps = c.self.inside.names.pairs in
    subst (λ (v : Listings). c.has_another.result ≡ any_other (entry_of (option_copied c.args.old)) (is_named name) v.table) c.self.view_is
    (c.has_another.ensures
    ∙ (ap (λ (but : Option ℕ). another_under bytes_eq name but ps) c.read_write_of.ensures
    ∙ another_other bytes_below bytes_eq names_ordered name (entry_of (option_copied c.args.old)) (is_named name) ps c.self.inside.listed.table c.self.invariant.ordered c.self.invariant.keyed (c.self.invariant.names name)))
