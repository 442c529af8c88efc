use Rattle.std.proofs.Common.{ap, subst, ◌∙◌, List}
use Rattle.afs_num.specs.declared.types.Fid.{Fid}
use Rattle.afs_entries.specs.Cached.{AreApart, Kept, drops_of, unlisted}
use Rattle.afs_entries.proofs.Listing.{apart, left_is}
use Rattle.afs_entries.proofs.cache.Cache.listed.Goals as goal

pub returns-clause-left : goal.returns-clause-left
returns-clause-left c =
    let es = c.args.self.now.entries in
    let apart_es : AreApart es = subst (λ (k : Kept). AreApart k.entries) c.self.view_is (apart c.self.inside.entries.entries c.len-count.ensures.valid.0) in
    ap (λ (fs : List Fid). unlisted fs es) c.in_ok-fids.ensures ∙ left_is (drops_of c.args.drops.now) es apart_es
