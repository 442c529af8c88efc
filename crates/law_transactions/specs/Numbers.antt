-- The numbers of transactions: while a server is in one boot, it gives each number once.
use Rattle.std.specs.Prelude.{◌≡◌, ◌≤◌, ℕ, List, ◌++◌}
use Rattle.std.specs.List.{AllByRecursion}
use Rattle.spec_history.specs.declared.scripts.Script.{Script}
use Rattle.spec_volrows.specs.VolStates.{Transaction}
use Rattle.spec_runs.specs.NodeRuns.{node_start, CellInput, NodeCell}
use Rattle.law_places.specs.Accepting.{cell_behind}

abbrev pub boot_at : NodeCell → ℕ → ℕ
boot_at c server = (c.hosts server).state.file.lasting.boot

abbrev pub IsOn : ℕ → ℕ → ℕ → ℕ × Transaction → Type 0
IsOn volume family stamp p = (p.1.volume ≡ volume) × ((p.1.family ≡ family) × (p.1.stamp ≡ stamp))

-- As long as the server is in this boot, the number names a transaction on this volume of this family, under this stamp, or none: no transaction
-- that has it is another, and it isn't above the last number that the server gave. That a transaction ever had it isn't said, and nothing is
-- once the server is in a later boot.
pub record IsNamed (c : NodeCell) (server boot number volume family stamp : ℕ) : Type 0 where
  pub not_before : boot ≤ boot_at c server
  pub given : boot_at c server ≡ boot → number ≤ (c.hosts server).state.vol.last_transaction
  pub names : boot_at c server ≡ boot → AllByRecursion (λ (p : ℕ × Transaction). p.0 ≡ number → IsOn volume family stamp p) (c.hosts server).state.vol.transactions

-- Where it is so of a number, it stays so in every run of every script, whatever comes.
abbrev pub NumbersAreKept : Type 0
NumbersAreKept = (s : Script) (inputs later : List CellInput) (server boot number volume family stamp : ℕ) → IsNamed (cell_behind (node_start s) inputs) server boot number volume family stamp →
    IsNamed (cell_behind (node_start s) (inputs ++ later)) server boot number volume family stamp
