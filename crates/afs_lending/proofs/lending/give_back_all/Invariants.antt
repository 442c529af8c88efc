use Rattle.std.proofs.Common.{◌≡◌, ◌≤◌, ℕ}
use Rattle.std.specs.Prelude.{OnErr}
use Rattle.std.specs.Vec.Iter.{into_iter_items}
use Rattle.afs_disk.specs.Disk.{Rose}
use Rattle.afs_lending.specs.Lending.{with_faults}
use Rattle.afs_lending.proofs.Returns.{SoFar}
use Rattle.afs_lending.proofs.lending.give_back_all.Given as goal

abbrev pub invariant-loop-lent : goal.invariant-loop-lent
invariant-loop-lent g l = record {
  back : SoFar g.B.D.Disk.seen (into_iter_items l.lent-iterator) l.fn.disks (g.B.Bank.given l.bank) (g.B.Bank.given l.fn.bank) (g.B.Bank.faults l.fn.bank) (g.B.Bank.faults l.bank) l.all;
  cause : OnErr l.all (Rose (g.B.Bank.faults l.fn.bank) (g.B.Bank.faults l.bank));
  counts : (n : ℕ) → with_faults g.B.D.Disk.faults (into_iter_items l.lent-iterator) n (g.B.Bank.lent_faults l.bank n) ≡ with_faults g.B.D.Disk.faults l.fn.disks n (g.B.Bank.lent_faults l.fn.bank n);
  lends : g.B.Bank.lends l.bank ≡ g.B.Bank.lends l.fn.bank;
  never_falls : g.B.Bank.faults l.fn.bank ≤ g.B.Bank.faults l.bank;
}
