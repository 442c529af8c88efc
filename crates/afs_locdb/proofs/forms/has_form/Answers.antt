use Rattle.std.proofs.Common.{subst, List}
use Rattle.std.specs.List.{AllByRecursion}
use Rattle.afs_num.specs.declared.location_calls.LocSite.{LocSite}
use Rattle.spec_shape.specs.Spelling.{site_words}
use Rattle.afs_xdr.specs.Words.{AreWords}
use Rattle.afs_locdb.proofs.Formed.{entry_formed}
use Rattle.afs_locdb.proofs.forms.has_form.Goals as goal

pub returns : goal.returns
returns c = entry_formed c.args.entry.now c.requires c.are_words.ensures (subst (λ (ss : List LocSite). AllByRecursion (λ (s : LocSite). AreWords (site_words s)) ss) c.as_slice.ensures c.are_of_words.ensures)
