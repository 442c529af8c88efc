use Rattle.std.proofs.Common.{◌≡◌, take}
use Rattle.afs_sites.proofs.releases.copy_items.Given as goal

abbrev pub invariant-loop-place : goal.invariant-loop-place
invariant-loop-place l = l.items.items ≡ take l.place l.seats.table
