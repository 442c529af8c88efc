-- What the location database answers, and what the act that asked does then.
use Rattle.std.specs.Prelude.{◌≡◌, ℕ, List, Bool, false, Option, Some, None, Result, if◌then◌else◌}
use Rattle.afs_num.specs.Nodes.{same_node}
use Rattle.afs_num.specs.declared.types.Head.{Head}
use Rattle.afs_num.specs.declared.types.Node.{Node}
use Rattle.afs_num.specs.declared.location_calls.LocEntry.{LocEntry}
use Rattle.afs_num.specs.declared.messages.Carried.{Carried}
use Rattle.afs_num.specs.declared.messages.Message.{Message}
use Rattle.afs_num.specs.declared.messages.Reply.{Reply}
use Rattle.afs_num.specs.declared.messages.Reply.TheVariants as tell
use Rattle.spec_history.specs.declared.acts.Operand.{Operand}
use Rattle.spec_history.specs.declared.lines.Outs.{Outs}
use Rattle.spec_model.specs.Steps.{NodeState}
use Rattle.spec_copyrows.specs.CopyRow.{entry_told as entry_in_message, forgotten, renewing, tells_new}
use Rattle.spec_copyrows.specs.Sites.{CopyState}
use Rattle.spec_rows.specs.Going.{ClientState, Going, Left, Seek, filled, operand_in, volume_at}
use Rattle.spec_rows.specs.States.{Location}
use Rattle.spec_rows.specs.ClientRow.{call_of, callee_of, calls_again, entry_in, with_given, no_entry_code, sought_ends, volume_asked, walks_on}
use Rattle.spec_rows.specs.Steps.{Step}
use Rattle.afs_cache.specs.Managing.{sought_by_head, Takes}
use Rattle.afs_asking.specs.Asking.{Asking}

-- the operand in whose volume the act that runs calls
abbrev pub operand_called : ClientState → Option Going → Option Operand
operand_called c None = None
operand_called c (Some act) = operand_in act (volume_asked (call_of c act))

-- the entry that a reply to a look-up carries
abbrev pub entry_told : Reply → Option LocEntry
entry_told (tell.Location reply) = entry_in reply
entry_told reply = None

-- this becomes of the act that waits for the database
abbrev pub Sought : {E : Type 0} → (ℕ → Seek → Step ClientState) → NodeState CopyState → NodeState CopyState → Result Outs E → Type 0
Sought step old new r = (k : Seek) → old.state.client.seeking ≡ Some k → Takes (λ place. step place k) old new r

-- the call that was refused is made anew, unless the table names the server that was left
abbrev pub calls_elsewhere : Node → ClientState → ℕ → Going → Left → Step ClientState
calls_elsewhere me c place act left = if same_node (callee_of c act) left.server then sought_ends me c (with_given place) left.code else calls_again me c place act

-- where the table has the number
abbrev pub found_on : Node → ClientState → ℕ → ℕ → Seek → Option Left → Step ClientState
found_on me c clock place k None = walks_on me c clock (with_given place) (filled c.table k.act) c.cache
found_on me c clock place k (Some left) = calls_elsewhere me c place k.act left

abbrev pub found_by : Node → ClientState → ℕ → ℕ → Seek → Option ℕ → Step ClientState
found_by me c clock place k None = sought_ends me c (with_given place) no_entry_code
found_by me c clock place k (Some id) = found_on me c clock place k k.left

-- once the table has the entry
abbrev pub goes_by_table : Node → ClientState → ℕ → ℕ → Seek → Step ClientState
goes_by_table me c clock place k = found_by me c clock place k (volume_at c.table k.operand)

-- where it had just that entry before
abbrev pub goes_as_before : Node → ClientState → ℕ → ℕ → Seek → Option Left → Step ClientState
goes_as_before me c clock place k None = goes_by_table me c clock place k
goes_as_before me c clock place k (Some left) = sought_ends me c (with_given place) left.code

-- ---- of the act that waits for the database

abbrev pub left_sought : Option Seek → Option Left
left_sought None = None
left_sought (Some k) = k.left

abbrev pub volume_sought : List Location → Option Seek → Option ℕ
volume_sought t None = None
volume_sought t (Some k) = volume_at t k.operand

abbrev pub filled_from : List Location → Option Seek → Option Going
filled_from t None = None
filled_from t (Some k) = Some (filled t k.act)

-- it has its call again
abbrev pub IsAskedAnew : ClientState → Option Seek → Asking → Type 0
IsAskedAnew c None a = Unit {0}
IsAskedAnew c (Some k) a = a ≡ record { going = k.act; gifts = c.gifts }

-- ---- the database tells an entry that is new

-- the entry that a message tells which answers the act's question
abbrev pub entry_answered : Node → ClientState → Head → Carried → Option Seek → Option LocEntry
entry_answered me c head x o = if sought_by_head me c head x o then entry_in_message x else None

-- the act as it goes on where the table is this one
abbrev pub renewed_in : List Location → Option Seek → Option Seek
renewed_in t None = None
renewed_in t (Some k) = Some (record k { act = filled t (forgotten k.act) })

-- where that is so
abbrev pub renewed_by : Node → ClientState → Message → Option Seek → Option Seek
renewed_by me c m None = None
renewed_by me c m (Some k) = if tells_new me c m k then (renewing c k (entry_in_message m.carried)).seeking else None
