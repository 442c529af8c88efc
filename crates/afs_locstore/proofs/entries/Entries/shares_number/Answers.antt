use Rattle.std.proofs.Common.{◌≡◌, ◌∙◌, ℕ, Option, ap, subst, nat_eq}
use Rattle.std.specs.Prelude.{◌||◌}
use Rattle.std.specs.Option.{option_copied}
use Rattle.spec_rows.specs.LocRow.{any_other, shares_id}
use Rattle.afs_locstore.specs.Indexed.{another_under}
use Rattle.afs_locstore.specs.Listings.{entry_of, Listings}
use Rattle.afs_locstore.proofs.Listed.{shares_one}
use Rattle.afs_locstore.proofs.entries.Entries.shares_number.Goals as goal

pub returns : goal.returns
returns c =
    let e = c.args.new.now in
    let ps = c.self.inside.numbers.pairs in
    subst (λ (v : Listings). c.shares.result ≡ any_other (entry_of (option_copied c.args.old)) (shares_id e) v.table) c.self.view_is
    (c.shares.ensures
    ∙ (ap (λ (but : Option ℕ). another_under nat_eq e.read_write but ps || (another_under nat_eq e.read_only but ps || another_under nat_eq e.backup but ps)) c.read_write_of.ensures
    ∙ shares_one (entry_of (option_copied c.args.old)) e ps c.self.inside.listed.table c.self.invariant.ordered c.self.invariant.keyed c.self.invariant.numbers))
