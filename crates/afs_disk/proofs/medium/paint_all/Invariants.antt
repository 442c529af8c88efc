use Rattle.std.proofs.Common.{◌≡◌, drop}
use Rattle.afs_disk.specs.Images.{painted}
use Rattle.afs_disk.specs.Spans.{ranges}
use Rattle.afs_disk.proofs.medium.paint_all.Given as goal

-- what is left to paint gives the whole
abbrev pub invariant-loop-span : goal.invariant-loop-span
invariant-loop-span l = painted l.value (ranges (drop l.span-index l.spans)) l.bytes ≡ painted l.value (ranges l.spans) l.fn.bytes
