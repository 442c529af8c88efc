use Rattle.std.proofs.Common.{◌≡◌, length}
use Rattle.afs_promise.specs.Owing.{breaks_in}
use Rattle.afs_promise.proofs.owed.OwedBreaksIterator.next.Given as goal

abbrev pub invariant-loop-owed : goal.invariant-loop-owed
invariant-loop-owed l = breaks_in l.self-inside.entries ≡ breaks_in l.initial.self-inside.entries

abbrev pub decreases-loop-owed : goal.decreases-loop-owed
decreases-loop-owed l = length l.self-inside.entries
