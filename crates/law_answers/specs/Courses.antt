-- What an act of an administrator has met so far, as the history tells it: its unanswered call, the first of its calls that failed, and what
-- the replies told that its answer depends on.
use Rattle.std.specs.Prelude.{ℕ, List, [], ◌∷◌, ◌++◌, Bool, false, ◌&&◌, not, Option, Some, None, is_some, nat_eq, nat_lt, map, if◌then◌else◌}
use Rattle.spec_history.specs.declared.lines.Line.{Line}
use Rattle.spec_history.specs.declared.lines.Line.TheVariants as lines
use Rattle.spec_history.specs.declared.scripts.AdminAct.{AdminAct}
use Rattle.spec_history.specs.declared.scripts.AdminAct.TheVariants as acts
use Rattle.spec_model.specs.Calls.{last_timeout}
use Rattle.spec_model.specs.CellRows.{call_number}
use Rattle.afs_num.specs.Nodes.{same_node}
use Rattle.afs_num.specs.declared.location_calls.LocCall.TheVariants as loc
use Rattle.afs_num.specs.declared.location_calls.LocEntry.{LocEntry}
use Rattle.afs_num.specs.declared.location_calls.LocReply.TheVariants as entries
use Rattle.afs_num.specs.declared.messages.Call.{Call}
use Rattle.afs_num.specs.declared.messages.Call.TheVariants as ask
use Rattle.afs_num.specs.declared.messages.Carried.{Carried}
use Rattle.afs_num.specs.declared.messages.Carried.TheVariants as carried
use Rattle.afs_num.specs.declared.messages.Message.{Message}
use Rattle.afs_num.specs.declared.messages.Reply.{Reply}
use Rattle.afs_num.specs.declared.messages.Reply.TheVariants as tell
use Rattle.afs_num.specs.declared.types.Code.{Code}
use Rattle.afs_num.specs.declared.types.Head.{Head}
use Rattle.afs_num.specs.declared.types.Node.{Node}
use Rattle.afs_num.specs.declared.types.Node.TheVariants.{Server}
use Rattle.afs_num.specs.declared.volume_calls.VolReply.TheVariants as volumes
use Rattle.spec_rows.specs.Runs.{message_at}
use Rattle.spec_adminrows.specs.Entries.{has_read_only_at, home_in}
use Rattle.spec_adminrows.specs.Recovering.{flags_at}
use Rattle.spec_adminrows.specs.Surveying.{seen_by}
use Rattle.spec_adminrows.specs.Turns.{code_or, dead, fine, same_place}
use Rattle.spec_adminrows.specs.declared.places.Seen.{Seen}

-- ---- its unanswered call

-- of whom it is asked, under which number of which epoch, and what
pub record Asked : Type 0 where
  pub callee : Node
  pub epoch : ℕ
  pub number : ℕ
  pub call : Call

-- the first call among these messages
abbrev pub call_before : Head → Carried → Option Asked → Option Asked
call_before head (carried.Call user call) o = Some (record { callee = head.to; epoch = head.epoch; number = head.number; call = call })
call_before head x o = o

abbrev pub asked_in : List Message → Option Asked
asked_in [] = None
asked_in (m ∷ ms) = call_before m.head m.carried (asked_in ms)

-- ---- its stages

-- before its entry is locked; while it has the lock; and while it puts the entry's volumes in order
pub data Stage : Type 0 where
  unlocked : Stage
  locked : Stage
  recovering : Stage

-- an entry that is locked for a recovery is put in order from then on
abbrev pub locked_for : AdminAct → Stage
locked_for (acts.Recover name) = recovering
locked_for act = locked

-- SetLock locks the entry, and CreateEntry makes it with a lock, where they aren't refused
abbrev pub stage_answered : AdminAct → Stage → Call → Stage
stage_answered act unlocked (ask.Location (loc.SetLock v operation force)) = locked_for act
stage_answered act unlocked (ask.Location (loc.CreateEntry n)) = locked
stage_answered act stage call = stage

-- whoever has the lock and looks the name up once more begins a recovery
abbrev pub stage_asking : Stage → Call → Stage
stage_asking locked (ask.Location (loc.GetEntryByName name)) = recovering
stage_asking stage call = stage

-- ---- what replies told

-- With which code it ends where no call fails; the volumes that servers listed in its recovery; and whether the server that the entry named
-- then had not listed the entry's volume.
pub record Findings : Type 0 where
  pub ending : Code
  pub listed : List Seen
  pub misses : Bool

abbrev pub nothing_found : Findings
nothing_found = record { ending = fine; listed = []; misses = false }

-- by the entry that it locked: 22 where the read-only volume has that site already, or the volume is at that server
abbrev pub ending_by : AdminAct → LocEntry → Code
ending_by (acts.AddSite name server) n = if has_read_only_at server n then same_place else fine
ending_by (acts.Move name server) n = if nat_eq server (home_in n) then same_place else fine
ending_by act n = fine

abbrev pub server_in : Node → ℕ
server_in (Server i) = i
server_in n = 0

-- the volume that was asked for isn't among these at the server that the entry names
abbrev pub misses_in : Call → LocEntry → List Seen → Bool
misses_in (ask.Location (loc.GetEntryById v)) n seen = not (is_some (flags_at (home_in n) v seen))
misses_in call n seen = false

abbrev pub found_by : AdminAct → Stage → Asked → Findings → Reply → Findings
found_by act unlocked q f (tell.Location (entries.SetLock stamp n)) = record f { ending = ending_by act n }
found_by act recovering q f (tell.Volume (volumes.ListVols ls)) = record f { listed = f.listed ++ map (seen_by (server_in q.callee)) ls }
found_by act recovering q f (tell.Location (entries.GetEntryById n)) = record f { misses = misses_in q.call n f.listed }
found_by act stage q f reply = f

-- ---- the act

-- what it is, its unanswered call, the code of the first of its calls that was refused or given up, its stage, and what replies told
pub record ActCourse : Type 0 where
  pub act : AdminAct
  pub asked : Asked
  pub first : Option Code
  pub stage : Stage
  pub found : Findings

abbrev pub begun : AdminAct → Asked → ActCourse
begun act q = record { act = act; asked = q; first = None; stage = unlocked; found = nothing_found }

-- its call failed with this code
abbrev pub failed : ActCourse → Code → ActCourse
failed c code = record c { first = Some (code_or code c.first) }

-- its call was answered
abbrev pub heard : ActCourse → Reply → ActCourse
heard c reply = record c { stage = stage_answered c.act c.stage c.asked.call; found = found_by c.act c.stage c.asked c.found reply }

-- it makes this call next
abbrev pub course_asking : ActCourse → Asked → ActCourse
course_asking c q = record c { asked = q; stage = stage_asking c.stage q.call }

-- ---- what an entry of the administrator tells of it

-- an act begins; its call fails; its call is answered; the administrator stops; or nothing of these
pub data Event : Type 0 where
  begins : Node → AdminAct → Event
  fails : Code → Event
  answers : Reply → Event
  stops : Event
  passes : Event

-- a message is the answer to a call by who sent it, and by the call's key and opcode
abbrev pub is_answer_to : Asked → Head → Bool
is_answer_to q head = same_node head.from q.callee && (nat_eq head.epoch q.epoch && (nat_eq head.number q.number && nat_eq head.opcode (call_number q.call)))

abbrev pub event_carried : ActCourse → Head → Carried → Event
event_carried c head (carried.Refusal code) = if is_answer_to c.asked head then fails code else passes
event_carried c head (carried.Reply reply) = if is_answer_to c.asked head then answers reply else passes
event_carried c head (carried.Call user call) = passes
event_carried c head carried.Notice = passes

abbrev pub event_given : Node → Option ActCourse → Option Message → Event
event_given me None o = passes
event_given me (Some c) None = passes
event_given me (Some c) (Some m) = if same_node m.head.to me then event_carried c m.head m.carried else passes

-- at its third timeout a call is given up, which is a failure with -1
abbrev pub timed_by : ℕ → Event
timed_by count = if nat_lt count last_timeout then passes else fails dead

-- its first line tells it
abbrev pub event_of : Node → List Message → Option ActCourse → List Line → Event
event_of me sent o (lines.BeginAdmin n act ∷ ls) = begins n act
event_of me sent o (lines.Given place ∷ ls) = event_given me o (message_at sent place)
event_of me sent o (lines.Timeout caller callee epoch number count ∷ ls) = timed_by count
event_of me sent o (lines.Crash n ∷ ls) = stops
event_of me sent o ls = passes

-- ---- its end, as lines tell it

-- an answer, and one that is stuck
pub data Ending : Type 0 where
  ends : Code → Ending
  sticks : Code → Ending

pub record Ended : Type 0 where
  pub node : Node
  pub how : Ending

abbrev pub ends_in : List Line → List Ended
ends_in [] = []
ends_in (lines.Answer n code ∷ ls) = record { node = n; how = ends code } ∷ ends_in ls
ends_in (lines.Stuck n code ∷ ls) = record { node = n; how = sticks code } ∷ ends_in ls
ends_in (l ∷ ls) = ends_in ls
