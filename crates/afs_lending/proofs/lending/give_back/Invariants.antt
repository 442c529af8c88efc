use Rattle.std.proofs.Common.{◌≡◌, ◌≤◌, ◌+◌, ℕ, length}
use Rattle.std.specs.Prelude.{OnErr}
use Rattle.std.specs.Vec.Iter.{into_iter_items}
use Rattle.afs_disk.specs.Disk.{Rose}
use Rattle.afs_lending.specs.Lending.{all_kept, kept_disks, with_faults}
use Rattle.afs_lending.proofs.Returns.{SoFar}
use Rattle.afs_lending.proofs.lending.give_back.Given as goal

abbrev pub invariant-loop-found : goal.invariant-loop-found
invariant-loop-found g l = record {
  place : l.before + length (into_iter_items l.found-iterator) ≡ length l.fn.left.items;
  back : SoFar g.B.D.Disk.seen (kept_disks (1 + l.before) (into_iter_items l.found-iterator)) (all_kept l.fn.database l.fn.left.items) (g.B.Bank.given l.bank) (g.B.Bank.given l.fn.bank) (g.B.Bank.faults l.fn.bank) (g.B.Bank.faults l.bank) l.all;
  cause : OnErr l.all (Rose (g.B.Bank.faults l.fn.bank) (g.B.Bank.faults l.bank));
  counts : (n : ℕ) → with_faults g.B.D.Disk.faults (kept_disks (1 + l.before) (into_iter_items l.found-iterator)) n (g.B.Bank.lent_faults l.bank n) ≡ with_faults g.B.D.Disk.faults (all_kept l.fn.database l.fn.left.items) n (g.B.Bank.lent_faults l.fn.bank n);
  lends : g.B.Bank.lends l.bank ≡ g.B.Bank.lends l.fn.bank;
  never_falls : g.B.Bank.faults l.fn.bank ≤ g.B.Bank.faults l.bank;
}
