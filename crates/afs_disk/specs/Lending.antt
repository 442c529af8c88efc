-- A bank in memory: its lends, the disks given back with their bytes, which of its calls are to fail and which of each
-- disk's, its counts, and how often the disks given back had failed, by node.
use Rattle.std.specs.Prelude.{ℕ, List}
use Rattle.afs_disk.specs.declared.bank.Lend.{Lend}

pub record Lending : Type 0 where
  pub lends : List Lend
  pub given : List (ℕ × List ℕ)
  pub failing : List ℕ
  pub disks : List (List ℕ)
  pub calls : ℕ
  pub faults : ℕ
  pub lent : List ℕ
