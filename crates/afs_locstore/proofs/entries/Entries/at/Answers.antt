use Rattle.std.proofs.Common.{◌≡◌, ◌∙◌, ℕ, Some, None, ap, sym, subst}
use Rattle.std.specs.Option.{option_map}
use Rattle.spec_records.specs.LocRecords.{Listed}
use Rattle.spec_rows.specs.LocRow.{all_listed, nth}
use Rattle.afs_locstore.specs.Listings.{Listings}
use Rattle.afs_locstore.proofs.Listed.{nth_is, stands_at}
use Rattle.afs_locstore.proofs.entries.Entries.at.Goals as goal

pub returns-in-Some-clause-value : goal.returns-in-Some-clause-value
returns-in-Some-clause-value c =
    subst (λ (v : Listings). Some c.in-Some.item.now.1 ≡ nth c.args.place (all_listed v.table)) c.self.view_is
    (ap (option_map (λ (p : ℕ × Listed). p.1)) c.in-Some.ensures.value ∙ nth_is c.args.place c.self.inside.listed.table)

pub returns-in-None-clause-value : goal.returns-in-None-clause-value
returns-in-None-clause-value c =
    subst (λ (v : Listings). None ≡ nth c.args.place (all_listed v.table)) c.self.view_is
    (ap (option_map (λ (p : ℕ × Listed). p.1)) c.in-None.ensures.value ∙ nth_is c.args.place c.self.inside.listed.table)

pub returns-in-Some-clause-fits : goal.returns-in-Some-clause-fits
returns-in-Some-clause-fits c =
    c.self.invariant.fit c.in-Some.item.now.0 c.in-Some.item.now.1 (stands_at 0 c.self.inside.listed.table c.args.place c.in-Some.item.now c.self.invariant.ordered (sym c.in-Some.ensures.value))
