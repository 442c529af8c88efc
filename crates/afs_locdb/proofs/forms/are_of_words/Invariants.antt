use Rattle.std.proofs.Common.{drop}
use Rattle.std.specs.List.{AllByRecursion}
use Rattle.afs_num.specs.declared.location_calls.LocSite.{LocSite}
use Rattle.spec_shape.specs.Spelling.{site_words}
use Rattle.afs_xdr.specs.Words.{AreWords}
use Rattle.afs_locdb.proofs.forms.are_of_words.Given as goal

abbrev pub invariant-loop-site : goal.invariant-loop-site
invariant-loop-site l = AllByRecursion (λ (s : LocSite). AreWords (site_words s)) (drop l.site-index l.sites) → AllByRecursion (λ (s : LocSite). AreWords (site_words s)) l.sites
