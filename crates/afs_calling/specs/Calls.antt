-- The calls of nodes that have one unanswered call at most.
use Rattle.std.specs.Prelude.{ℕ, List}
use Rattle.afs_num.specs.declared.messages.Call.{Call}
use Rattle.afs_num.specs.declared.messages.Carried.TheVariants as carried
use Rattle.afs_num.specs.declared.messages.Message.{Message}
use Rattle.afs_num.specs.declared.types.Head.{Head}

abbrev pub calling : Head → List ℕ → Call → Message
calling head user call = record { head = head; carried = carried.Call user call }

-- the numbers of calls stand below this one
abbrev pub number_limit : ℕ
number_limit = 4000000000
