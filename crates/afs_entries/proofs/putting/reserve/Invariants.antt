use Rattle.std.proofs.Common.{◌≡◌, take}
use Rattle.afs_entries.specs.Cached.{HasAll, IsFront}
use Rattle.afs_entries.proofs.putting.reserve.Given as goal

abbrev pub invariant-loop-one : goal.invariant-loop-one
invariant-loop-one l = record {
  front : IsFront l.fn.entries.entries l.entries.entries;
  keys : HasAll (take l.one-index l.fresh) l.entries;
  wide : l.entries.cap ≡ l.fn.entries.cap;
}
