use Rattle.std.proofs.Common.{◌≡◌, ap, map, subst, sym, ◌∙◌}
use Rattle.spec_rows.specs.Going.{Going}
use Rattle.afs_acts.specs.Acts.{FitsCalls}
use Rattle.afs_entries.specs.Cached.{entry_of}
use Rattle.afs_cache.proofs.Replying.{statuses_act}
use Rattle.afs_cache.proofs.node.CacheManager.with_all.Goals as goal

pub returns-clause-short : goal.returns-clause-short
returns-clause-short c =
    subst FitsCalls (sym (ap (λ (g : Going). g.act) c.in_ok-read_all.ensures.going ∙ (statuses_act (map entry_of c.args.all.now) c.in_ok-going.going ∙ ap (λ (g : Going). g.act) c.in_ok-going.ensures.value))) c.in_ok-going.ensures.short
