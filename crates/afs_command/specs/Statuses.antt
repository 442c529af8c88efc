-- What a status is to the system and to a reader.
use Rattle.std.specs.Prelude.{ℕ, List, ◌++◌, codes, [], Option, Result}
use Rattle.std.specs.Fmt.{decimal}
use Rattle.afs_outside.specs.Outside.{Puts}
use Rattle.afs_outside.specs.declared.outside.Failed.{Failed}
use Rattle.afs_num.specs.declared.scripts.Reason.{Reason}
use Rattle.afs_num.specs.declared.scripts.Reason.TheVariants as reasons
use Rattle.afs_command.specs.declared.statuses.Status.{Status}
use Rattle.afs_command.specs.declared.statuses.Status.TheVariants as statuses

-- the number that the program ends with
abbrev pub status_number : Status → ℕ
status_number statuses.Done = 0
status_number statuses.Usage = 2
status_number (statuses.Script line reason) = 3
status_number statuses.ReadFault = 4
status_number statuses.WriteFault = 5
status_number statuses.BankFault = 6
status_number statuses.OutOfMemory = 7
status_number statuses.Limit = 8

abbrev pub reason_word : Reason → List ℕ
reason_word reasons.Word = codes "Word"
reason_word reasons.Number = codes "Number"
reason_word reasons.Node = codes "Node"
reason_word reasons.Name = codes "Name"
reason_word reasons.Path = codes "Path"
reason_word reasons.Contents = codes "Contents"
reason_word reasons.Order = codes "Order"
reason_word reasons.Limit = codes "Limit"
reason_word reasons.Missing = codes "Missing"

-- the line on standard error; there is none where all is done
abbrev pub status_line : Status → List ℕ
status_line statuses.Done = []
status_line statuses.Usage = codes "usage: afscell replay [--wire] [--disks DIR] | gen N\n"
status_line (statuses.Script line reason) = codes "script: line " ++ (decimal line ++ (codes ": " ++ (reason_word reason ++ codes "\n")))
status_line statuses.ReadFault = codes "read fault\n"
status_line statuses.WriteFault = codes "write fault\n"
status_line statuses.BankFault = codes "disk fault\n"
status_line statuses.OutOfMemory = codes "out of memory\n"
status_line statuses.Limit = codes "limit\n"

-- the line of a status was written, or where the sink failed, a beginning of it
abbrev pub Shows : Status → Option (List ℕ) → Option (List ℕ) → ℕ → ℕ → Type 0
Shows status old new before after = (taken : Result (Unit {0}) Failed) × Puts (status_line status) old new before after taken
