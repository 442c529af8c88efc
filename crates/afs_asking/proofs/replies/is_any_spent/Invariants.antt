use Rattle.std.proofs.Common.{◌≡◌, drop, map, not}
use Rattle.std.specs.List.{list_any}
use Rattle.spec_rows.specs.States.{CacheEntry}
use Rattle.spec_rows.specs.ClientRow.{is_trusted}
use Rattle.afs_entries.specs.Cached.{entry_of}
use Rattle.afs_asking.proofs.replies.is_any_spent.Given as goal

abbrev pub invariant-loop-fresh : goal.invariant-loop-fresh
invariant-loop-fresh l = list_any (λ (e : CacheEntry). not (is_trusted l.now e)) (map entry_of (drop l.fresh-index l.all)) ≡ list_any (λ (e : CacheEntry). not (is_trusted l.now e)) (map entry_of l.all)
