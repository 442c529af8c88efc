-- What an act names, as the program sorts it, in the words of the rows.
use Rattle.std.specs.Prelude.{ℕ, ◌+◌, Option, Some, None, length}
use Rattle.spec_history.specs.declared.acts.Operand.{Operand}
use Rattle.spec_history.specs.declared.acts.Operand.TheVariants as operands
use Rattle.spec_rows.specs.Going.{Operands, reads_to}
use Rattle.afs_acts.specs.declared.named.Naming.{Naming}
use Rattle.afs_acts.specs.declared.named.Naming.TheVariants as named
use Rattle.afs_acts.specs.declared.named.Place.{Place}
use Rattle.afs_acts.specs.declared.named.Place.TheVariants as places

abbrev pub operand_at : Place → Operand
operand_at (places.Object o) = o.now
operand_at (places.Path p) = operands.Path p.now

-- what it names first
abbrev pub first_in : Naming → Option Operand
first_in (named.Object o) = Some o.now
first_in (named.Entry p) = Some (operands.Path p.now)
first_in (named.Two p q) = Some (operands.Path p.now)
first_in named.Nothing = None

-- and second
abbrev pub second_in : Naming → Option Operand
second_in (named.Two p q) = Some (operands.Path q.now)
second_in n = None

abbrev pub operands_in : Naming → Operands
operands_in n = (first_in n, second_in n)

-- the most reads that its cache may show
abbrev pub reads_in : Naming → ℕ
reads_in (named.Object o) = reads_to o.now
reads_in (named.Entry p) = length p.now.names
reads_in (named.Two p q) = length p.now.names + length q.now.names
reads_in named.Nothing = 0
