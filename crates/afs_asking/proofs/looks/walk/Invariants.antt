use Rattle.std.specs.Option.{option_copied}
use Rattle.spec_rows.specs.ClientRow.{most_reads, walked}
use Rattle.afs_entries.specs.Cached.{in_sight}
use Rattle.afs_asking.specs.Looking.{IsOnWay}
use Rattle.afs_asking.proofs.looks.walk.Given as goal

abbrev pub invariant-loop-left : goal.invariant-loop-left
invariant-loop-left l =
    IsOnWay l.node l.now (in_sight l.sight.cache.now (option_copied l.sight.fresh)) (walked (most_reads l.fn.going) l.now l.fn.going (in_sight l.sight.cache.now (option_copied l.sight.fresh))) l.fn.lines l.left l.walked l.lines

abbrev pub decreases-loop-left : goal.decreases-loop-left
decreases-loop-left l = l.left
