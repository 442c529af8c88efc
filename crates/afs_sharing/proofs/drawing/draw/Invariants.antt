use Rattle.std.proofs.Common.{◌≡◌, ◌+◌}
use Rattle.afs_sharing.proofs.drawing.draw.Given as goal

abbrev pub invariant-loop : goal.invariant-loop
invariant-loop g l = l.store ≡ record l.fn.store { drawn = l.fn.store.drawn + l.counter }
