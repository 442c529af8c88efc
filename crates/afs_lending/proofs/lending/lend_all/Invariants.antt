use Rattle.std.proofs.Common.{◌≡◌, ◌≤◌, ◌++◌, ℕ, length, vec_capacity}
use Rattle.std.specs.Prelude.{option_map}
use Rattle.afs_lending.specs.Lending.{lends, AreLent, AreUnused}
use Rattle.afs_lending.proofs.Lends.{AreTold}
use Rattle.afs_lending.proofs.lending.lend_all.Given as goal

abbrev pub invariant-loop-before : goal.invariant-loop-before
invariant-loop-before g l = record {
  lent : AreLent g.B.D.Disk.limit l.capacity l.first l.disks.items;
  count : length l.disks.items ≡ l.before;
  room : l.count ≤ vec_capacity l.disks;
  lends : g.B.Bank.lends l.bank ≡ option_map (λ ls. ls ++ lends l.place l.capacity l.first (length l.disks.items)) (g.B.Bank.lends l.fn.bank);
  tells : g.B.Bank.tells l.fn.bank l.place → g.B.Bank.tells l.bank l.place;
  told : g.B.Bank.tells l.fn.bank l.place → AreTold g.B.D.Disk.seen l.disks.items;
  unused : AreUnused g.B.D.Disk.faults l.disks.items;
  counts : (n : ℕ) → g.B.Bank.lent_faults l.bank n ≡ g.B.Bank.lent_faults l.fn.bank n;
  given : g.B.Bank.given l.bank ≡ g.B.Bank.given l.fn.bank;
  quiet : g.B.Bank.faults l.bank ≡ g.B.Bank.faults l.fn.bank;
  never_falls : g.B.Bank.faults l.fn.bank ≤ g.B.Bank.faults l.bank;
}
