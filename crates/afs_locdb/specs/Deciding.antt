-- What the location database decides on a call.
use Rattle.std.specs.Prelude.{◌≡◌, ◌<◌, ◌^◌, ℕ, ℤ, Bool, Option, Some, None, Result, Ok, Err, true, false}
use Rattle.std.specs.Borrow.{Bor}
use Rattle.afs_num.specs.Nodes.{same_node}
use Rattle.afs_num.specs.declared.location_calls.LocCall.{LocCall}
use Rattle.afs_num.specs.declared.location_calls.LocReply.{LocReply}
use Rattle.afs_num.specs.declared.messages.Message.{Message}
use Rattle.afs_num.specs.declared.messages.Reply.TheVariants as tell
use Rattle.afs_num.specs.declared.types.Head.{Head}
use Rattle.afs_num.specs.declared.types.Node.TheVariants.{Loc}
use Rattle.spec_shape.specs.Rows.{IsWithin}
use Rattle.spec_model.specs.Calls.{runs, Admitted}
use Rattle.spec_model.specs.CellRows.{cell_replies, reply_number}
use Rattle.spec_model.specs.Heads.{is_zero}
use Rattle.spec_records.specs.LocRecords.{deed_form, Listed}
use Rattle.spec_rows.specs.LocRow.{changes, drops, holds, is_locked, loc_op, reads, refused, refuses, repeats, roomed, shows, tells_boot, unlisted, LocChange, LocDecision, LocLasting, LocResult, LocState}
use Rattle.afs_locstore.specs.States.{parts_of}
use Rattle.afs_locstore.specs.declared.memory.State.{State}
use Rattle.afs_locdb.specs.Seen.{lasting_of}
use Rattle.afs_locdb.specs.declared.decided.Decided.{Decided}
use Rattle.afs_locdb.specs.declared.decided.Decided.TheVariants as decided
use Rattle.afs_locdb.specs.declared.operations.Outcome.{Outcome}
use Rattle.afs_locdb.specs.declared.operations.Outcome.TheVariants as outcomes

-- ---- what comes of a call

-- what is in memory, as the row has it; a call looks at entries and counters alone
abbrev pub lasting_seen : State → LocLasting
lasting_seen s = lasting_of (parts_of s)

abbrev pub outcome_of : Outcome → LocResult
outcome_of (outcomes.Refused code) = refused code
outcome_of (outcomes.Reads reply) = reads reply
outcome_of (outcomes.Changes c) = changes c

-- what follows where a new entry can come, or the refusal with this code
abbrev pub fits_or : LocResult → Option ℤ → LocResult
fits_or more None = more
fits_or more (Some code) = refused code

-- the entry whose lock is held under this stamp, or the code
abbrev pub HoldsAs : ℕ → Option Listed → Result (Bor Listed) ℤ → Type 0
HoldsAs stamp found (Ok l) = (found ≡ Some l.now) × (holds stamp l.now.lock ≡ true)
HoldsAs stamp None (Err code) = code ≡ unlisted
HoldsAs stamp (Some l) (Err code) = (holds stamp l.lock ≡ false) × (code ≡ is_locked)

-- ---- what is answered has a spelling

-- the reply is to calls of this opcode, and within the limits of a message
abbrev pub IsReplyTo : ℕ → LocReply → Type 0
IsReplyTo opcode reply = (opcode ≡ reply_number (tell.Location reply)) × IsWithin cell_replies (tell.Location reply)

-- what a change leaves has a form in a record
pub record HasForm (c : LocChange) : Type 0 where
  pub deed : deed_form.Fits c.deed
  pub next_id : c.next_id < 2 ^ 32
  pub next_stamp : c.next_stamp < 2 ^ 32

-- it can be the outcome of a call of this opcode
abbrev pub CanAnswer : ℕ → Outcome → Type 0
CanAnswer opcode (outcomes.Refused code) = is_zero code ≡ false
CanAnswer opcode (outcomes.Reads reply) = IsReplyTo opcode reply
CanAnswer opcode (outcomes.Changes c) = IsReplyTo opcode c.reply × HasForm c

-- ---- decisions

-- What is decided on the call of this header. A change is made where there is room for its record, which is known once it is spelled.
abbrev pub decision_of : LocState → Head → Decided → LocDecision
decision_of s head decided.Drops = drops
decision_of s head decided.TellsBoot = tells_boot head
decision_of s head (decided.Repeats reply) = repeats reply
decision_of s head (decided.Refuses code) = refuses head code
decision_of s head (decided.Shows reply) = shows head reply
decision_of s head (decided.Saves c) = roomed s head c

-- the change that comes of a call, and the one that is decided on
abbrev pub change_in : Outcome → Option LocChange
change_in (outcomes.Changes c) = Some c
change_in o = None

abbrev pub change_decided : Decided → Option LocChange
change_decided (decided.Saves c) = Some c
change_decided d = None

-- what is told has a spelling, and a change a form, where the call has this opcode
abbrev pub CanBeTold : ℕ → Decided → Type 0
CanBeTold opcode (decided.Refuses code) = is_zero code ≡ false
CanBeTold opcode (decided.Shows reply) = IsReplyTo opcode reply
CanBeTold opcode (decided.Saves c) = IsReplyTo opcode c.reply × HasForm c
CanBeTold opcode d = Unit {0}

-- some call makes this change
abbrev pub IsMadeBy : LocChange → LocState → Type 0
IsMadeBy c s = (stamp : ℕ) × ((call : LocCall) × (loc_op stamp call s.lasting ≡ changes c))

-- a change that is decided on is one that a call makes
abbrev pub IsMadeIn : LocState → Decided → Type 0
IsMadeIn s (decided.Saves c) = IsMadeBy c s
IsMadeIn s d = Unit {0}

-- and one of another node
abbrev pub IsByAnother : Head → Decided → Type 0
IsByAnother head (decided.Saves c) = same_node head.from Loc ≡ false
IsByAnother head d = Unit {0}

-- where the decision runs the call, the call's pair is to run
abbrev pub Runs : Decided → Admitted Message → Type 0
Runs (decided.Refuses code) a = a ≡ runs
Runs (decided.Shows reply) a = a ≡ runs
Runs (decided.Saves c) a = a ≡ runs
Runs d a = Unit {0}

-- the decision leaves the disk as it is
abbrev pub leaves_disk : Decided → Bool
leaves_disk (decided.Saves c) = false
leaves_disk d = true
