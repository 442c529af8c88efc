use Rattle.std.proofs.Common.{◌≡◌, ◌<◌, ℕ, Some, false, nat_eq, slice_get}
use Rattle.afs_restore.proofs.steps.place_of.Given as goal

-- none of those before has the number
abbrev pub invariant-loop-place : goal.invariant-loop-place
invariant-loop-place l = (place : ℕ) (p : ℕ × ℕ) → place < l.place → slice_get l.left place ≡ Some p → nat_eq l.number p.0 ≡ false
