use Rattle.std.proofs.Common.{◌-◌, ◌≡◌, ◌≤◌, ℕ}
use Rattle.afs_schedule.specs.Named.{has}
use Rattle.afs_schedule.proofs.schedule.Named.close_gap.Given as goal

abbrev pub invariant-loop-self : goal.invariant-loop-self
invariant-loop-self l = record {
  same : (place : ℕ) → 1 ≤ place → has l.self place ≡ has l.initial.self place;
  grows : l.initial.self.first ≤ l.self.first;
}

abbrev pub decreases-loop-self : goal.decreases-loop-self
decreases-loop-self l = 18446744073709551615 - l.self.first
