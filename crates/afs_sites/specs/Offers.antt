-- What a reply of a site offers, as the program keeps it.
use Rattle.std.specs.Prelude.{ℕ}
use Rattle.std.specs.List.{list_any}
use Rattle.spec_copyrows.specs.CopyRow.{is_over, Offer}
use Rattle.afs_sites.specs.declared.offers.Offered.{Offered}

-- a release, and whether a promise beside it has ended by now
abbrev pub offered_at : ℕ → Offer → Offered
offered_at clock o = record { release = o.release; is_over = list_any (is_over clock) o.expiries }
