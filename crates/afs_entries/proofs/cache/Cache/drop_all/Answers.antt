use Rattle.std.proofs.Common.{ap, ◌∙◌, List}
use Rattle.spec_rows.specs.States.{CacheEntry}
use Rattle.afs_entries.proofs.Listing.{unlisted_is}
use Rattle.afs_entries.proofs.cache.Cache.drop_all.Goals as goal

pub returns : goal.returns
returns c = c.drop_each.ensures ∙ ap (λ (es : List CacheEntry). record c.args.self.now { entries = es }) (unlisted_is c.args.fids.now c.args.self.now.entries)
