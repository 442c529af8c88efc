-- The parts of a call that need no cell: the statuses of disks, and what is told of them.
use Rattle.std.specs.Prelude.{◌≡◌, ◌⊎◌, ℕ, List, ◌++◌, Option, Some, None, Result, Err, IsOk}
use Rattle.afs_num.specs.declared.devices.Failed.{Failed}
use Rattle.afs_disk.specs.declared.bank.LendFault.{LendFault}
use Rattle.afs_disk.specs.declared.bank.LendFault.TheVariants as lending
use Rattle.afs_outside.specs.Outside.{AppendsFront}
use Rattle.afs_command.specs.Spans.{RoseBy, Span}
use Rattle.afs_lending.specs.Outside.{WritesText, WritesWhole}
use Rattle.afs_command.specs.declared.statuses.Status.{Status}
use Rattle.afs_command.specs.declared.statuses.Status.TheVariants as statuses

abbrev pub lend_status : LendFault → Status
lend_status lending.Failed = statuses.BankFault
lend_status lending.OutOfMemory = statuses.OutOfMemory

-- The disks go back after what was done: where the bank doesn't take one of them, that isn't all.
abbrev pub returned : Status → Result (Unit {0}) Failed → Status
returned statuses.Done (Err f) = statuses.BankFault
returned status taken = status

-- The final part was written after the history, or a beginning of both, where the disks could be read. Where one failed, nothing was
-- written after the history. So it is where memory ran out, for a disk; or for what they keep, where the history was written.
abbrev pub TellsLeft : {T E : Type 0} → Result T E → List ℕ → List ℕ → Option LendFault → Span (Option (List ℕ)) → Option (List ℕ) → Span ℕ → Status → Type 0
TellsLeft {T} {E} written history final fault sink passed faults statuses.Done = (fault ≡ None) × WritesWhole sink passed faults (history ++ final)
TellsLeft {T} {E} written history final fault sink passed faults statuses.WriteFault = (fault ≡ None) × (AppendsFront sink.before sink.after (history ++ final) × RoseBy 1 faults)
TellsLeft {T} {E} written history final fault sink passed faults statuses.BankFault = (fault ≡ Some lending.Failed) × WritesText sink passed faults history
TellsLeft {T} {E} written history final fault sink passed faults statuses.OutOfMemory = ((fault ≡ Some lending.OutOfMemory) ⊎ ((fault ≡ None) × IsOk written)) × WritesText sink passed faults history
TellsLeft {T} {E} written history final fault sink passed faults status = ⊥
