use Rattle.std.proofs.Common.{rules}
use Rattle.afs_locstore.proofs.Pairs.{put_new, put_there}
use Rattle.afs_locstore.proofs.index.put.Goals as goal

pub returns-then-is_at-clause-ok : goal.returns-then-is_at-clause-ok
returns-then-is_at-clause-ok g c =
    put_there g.K.Ordered.below g.K.Ordered.same g.K.Ordered.ordered c.args.mark c.args.number c.place-place.result c.args.items.now.items (search rules) (search rules)

pub returns-clause-ok : goal.returns-clause-ok
returns-clause-ok g c =
    let new = put_new g.K.Ordered.below g.K.Ordered.same g.K.Ordered.ordered c.args.mark c.args.number c.place-place.result c.args.items.now.items (search rules) (search rules) in
    search (rules, new)
