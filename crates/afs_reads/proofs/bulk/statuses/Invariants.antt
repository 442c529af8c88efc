use Rattle.std.proofs.Common.{◌≡◌, map, take}
use Rattle.std.specs.List.{AllByRecursion}
use Rattle.afs_num.specs.declared.types.Fid.{Fid}
use Rattle.afs_reads.specs.Bulk.{status_seen, IsShown}
use Rattle.afs_reads.specs.Replying.{caller_seen}
use Rattle.afs_volume.specs.Giving.{volume_of}
use Rattle.afs_reads.proofs.bulk.statuses.Given as goal

abbrev pub invariant-loop-fid : goal.invariant-loop-fid
invariant-loop-fid l = record {
  shown : AllByRecursion (λ (f : Fid). IsShown (caller_seen l.caller) (volume_of l.volume) f) (take l.fid-index l.fids);
  told : l.told ≡ map (λ (f : Fid). status_seen (caller_seen l.caller) l.volume f) (take l.fid-index l.fids);
}
