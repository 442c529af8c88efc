use Rattle.std.proofs.Common.{◌≡◌, ◌<◌, ◌+◌, ℕ, Bool, true, false, cond, ◌||◌, ◌&&◌, List, [], ◌∷◌, ◌++◌, map, filter, Option, Some, None, Ok, Err, refl, ap, sym, subst, ◌∙◌}
use Rattle.spec_rows.specs.States.{CacheEntry}
use Rattle.afs_entries.specs.Cached.{Kept}
use Rattle.afs_cache.specs.Acting.{IsDropping}
use Rattle.afs_entries.specs.declared.drops.Drops.TheVariants as drops
use Rattle.spec_history.specs.declared.lines.Line.{Line}
use Rattle.afs_cache.proofs.Siting.{newer_taken}
use Rattle.afs_cache.proofs.node.CacheManager.use_newer.Goals as goal

pub take_keeping-requires-clause-capacity : goal.take_keeping-requires-clause-capacity
take_keeping-requires-clause-capacity c = ap (λ (k : Kept). k.capacity) c.in_ok-newer.ensures.cache

pub returns : goal.returns
returns c =
    let old = c.args.self.now in
    newer_taken c.args.now c.args.head.now c.args.reply c.args.volume c.args.release c.in_ok-lines.field-0 c.in_ok-newer.newer.cache.entries c.in_ok-newer.newer.seen old c.take_keeping.new.self c.take_keeping.result
    (subst (λ (ls : List Line). IsDropping old.node old.state.client.cache (drops.Below c.args.volume c.args.release) ls c.in_ok-lines.field-0) c.no_lines-lines.ensures c.in_ok-lines.ensures)
    (ap (λ (k : Kept). k.entries) c.in_ok-newer.ensures.cache) c.in_ok-newer.ensures.seen c.requires.heard c.requires.used c.take_keeping.ensures
