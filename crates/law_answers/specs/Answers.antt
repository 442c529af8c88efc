-- With which code each act of an administrator ends, and where it goes on.
use Rattle.std.specs.Prelude.{◌≡◌, ⊤, ℕ, List, [], ◌∷◌, ◌++◌, Bool, true, false, ◌&&◌, not, Option, Some, None, is_some, nat_eq, find, filter, if◌then◌else◌}
use Rattle.std.specs.Str.{bytes_eq}
use Rattle.spec_history.specs.declared.lines.Line.{Line}
use Rattle.spec_history.specs.declared.lines.Line.TheVariants as lines
use Rattle.spec_history.specs.declared.scripts.AdminAct.{AdminAct}
use Rattle.spec_history.specs.declared.scripts.AdminAct.TheVariants as acts
use Rattle.spec_history.specs.declared.scripts.Script.{Script}
use Rattle.spec_model.specs.CellRows.{call_number, reply_number}
use Rattle.afs_num.specs.Nodes.{same_node}
use Rattle.afs_num.specs.declared.histories.Actor.{Actor}
use Rattle.afs_num.specs.declared.histories.Actor.TheVariants as actors
use Rattle.afs_num.specs.declared.location_calls.LocCall.TheVariants as loc
use Rattle.afs_num.specs.declared.messages.Call.{Call}
use Rattle.afs_num.specs.declared.messages.Call.TheVariants as ask
use Rattle.afs_num.specs.declared.messages.Message.{Message}
use Rattle.afs_num.specs.declared.messages.Reply.{Reply}
use Rattle.afs_num.specs.declared.messages.Reply.TheVariants as tell
use Rattle.afs_num.specs.declared.types.Code.{Code}
use Rattle.afs_num.specs.declared.types.Node.{Node}
use Rattle.afs_num.specs.declared.types.Node.TheVariants.{Admin}
use Rattle.afs_num.specs.declared.volume_calls.VolCall.TheVariants as vol
use Rattle.spec_rows.specs.Runs.{Entry}
use Rattle.spec_runs.specs.NodeRuns.{node_start, CellInput, NodeCell, NodeLeads}
use Rattle.spec_adminrows.specs.Turns.{code_or, is_dead, is_superseded, is_unlisted, no_dump, not_there}
use Rattle.law_answers.specs.Courses.{answers, asked_in, begins, begun, ActCourse, Ended, Ending, ends, ends_in, event_of, Event, failed, fails, heard, locked, course_asking, passes, recovering, Stage, sticks, stops, unlocked, Asked}

-- ---- where a call fails

-- Before the lock an act goes on behind two failures only. Where CreateEntry was refused, it is asked whether the entry is there all the
-- same, and where it isn't, the new volume is deleted.
abbrev pub goes_on_behind : Call → Code → Bool
goes_on_behind (ask.Location (loc.CreateEntry n)) code = not (is_dead code)
goes_on_behind (ask.Location (loc.GetEntryById v)) code = is_unlisted code
goes_on_behind call code = false

-- The end, if it ends there. Before the lock the answer is the first code. Behind it a refusal by which another administrator has the entry is
-- the answer at once. Any other failure leads to a recovery, or out of a site of a release; but one in a recovery leaves that stuck, and the
-- answer is the first code.
abbrev pub end_at_failure : Stage → Call → Option Code → Code → Option Ending
end_at_failure unlocked call first code = if goes_on_behind call code then None else Some (ends (code_or code first))
end_at_failure locked call first code = if is_superseded code then Some (ends code) else None
end_at_failure recovering call first code = if is_superseded code then Some (ends code) else Some (sticks (code_or code first))

-- its entry tells that end, and no other
abbrev pub told_end : Node → Option Ending → List Ended
told_end me None = []
told_end me (Some how) = record { node = me; how = how } ∷ []

-- ---- where a call is answered

-- the reply is one to such a call
abbrev pub is_reply_of_kind : Call → Reply → Bool
is_reply_of_kind (ask.Volume call) (tell.Volume reply) = nat_eq (reply_number (tell.Volume reply)) (call_number (ask.Volume call))
is_reply_of_kind (ask.Location call) (tell.Location reply) = nat_eq (reply_number (tell.Location reply)) (call_number (ask.Location call))
is_reply_of_kind call reply = false

-- An entry that no act can use counts as no answer, and so does a piece with which a dump would be too long.
abbrev pub may_count_as_none : Call → Bool
may_count_as_none (ask.Location (loc.SetLock v operation force)) = true
may_count_as_none (ask.Location (loc.GetEntryById v)) = true
may_count_as_none (ask.Volume (vol.Dump family transaction from offset)) = true
may_count_as_none call = false

-- behind this reply to this call an act ends, or makes its next call
abbrev pub counts_as_answer : Call → Reply → Bool
counts_as_answer call reply = is_reply_of_kind call reply && not (may_count_as_none call)

abbrev pub is_removal : AdminAct → Bool
is_removal (acts.Remove name) = true
is_removal act = false

-- DeleteVolume is the last call of a removal, whose lock went with the entry, and of a new volume whose entry was refused.
abbrev pub deletes_last : Option Code → AdminAct → Stage → Bool
deletes_last first act unlocked = is_some first
deletes_last first act locked = is_removal act
deletes_last first act recovering = false

-- so is the look-up of that entry, where it is there all the same
abbrev pub looks_last : Option Code → Stage → Bool
looks_last first unlocked = is_some first
looks_last first stage = false

-- each other act ends behind ReleaseLock
abbrev pub is_last : Option Code → AdminAct → Stage → Call → Bool
is_last first act stage (ask.Location (loc.ReleaseLock v)) = true
is_last first act stage (ask.Location (loc.GetEntryById v)) = looks_last first stage
is_last first act stage (ask.Volume (vol.DeleteVolume family transaction)) = deletes_last first act stage
is_last first act stage call = false

-- An act that ends where no call fails has made its last call. It is answered with the code of its first failure, or else with 22 or 0. It is
-- stuck where its recovery found that the named server hasn't the volume, and only there: with the first code, or else with 103.
abbrev pub IsAnswered : ActCourse → Ending → Type 0
IsAnswered c (ends code) = (code ≡ code_or c.found.ending c.first) × ((c.found.misses ≡ false) × (is_last c.first c.act c.stage c.asked.call ≡ true))
IsAnswered c (sticks code) = (code ≡ code_or not_there c.first) × ((c.found.misses ≡ true) × (c.stage ≡ recovering))

-- Where nothing ends, it goes on, or the reply counts as none. An act that ends makes no further call.
abbrev pub AreAnswered : Node → ActCourse → Reply → List Ended → Option Asked → Type 0
AreAnswered me c reply [] None = counts_as_answer c.asked.call reply ≡ false
AreAnswered me c reply [] (Some q) = ⊤
AreAnswered me c reply (e ∷ []) None = (e.node ≡ me) × IsAnswered c e.how
AreAnswered me c reply es q = ⊥

-- ---- where an act begins

abbrev pub is_label : List ℕ → List ℕ → Bool
is_label label other = bytes_eq other label

abbrev pub is_label_held : List ℕ → List (List ℕ) → Bool
is_label_held label held = is_some (find (is_label label) held)

-- it ends at once where it restores a dump that the administrator doesn't hold
abbrev pub end_at_begin : List (List ℕ) → AdminAct → Option Ending
end_at_begin held (acts.Restore name server label) = if is_label_held label held then None else Some (ends no_dump)
end_at_begin held act = None

-- ---- each entry of an administrator

-- where an act begins, and where its call fails, it ends or makes its next call
abbrev pub EndsOrCalls : List Ended → Option Asked → Type 0
EndsOrCalls [] (Some q) = ⊤
EndsOrCalls (e ∷ es) None = ⊤
EndsOrCalls es q = ⊥

abbrev pub AreCaused : Node → List (List ℕ) → Option ActCourse → Event → List Ended → Option Asked → Type 0
AreCaused me held o (begins n act) es q = (n ≡ me) × ((o ≡ None) × ((es ≡ told_end me (end_at_begin held act)) × EndsOrCalls es q))
AreCaused me held None (fails code) es q = ⊥
AreCaused me held (Some c) (fails code) es q = (es ≡ told_end me (end_at_failure c.stage c.asked.call c.first code)) × EndsOrCalls es q
AreCaused me held None (answers reply) es q = ⊥
AreCaused me held (Some c) (answers reply) es q = AreAnswered me (heard c reply) reply es q
AreCaused me held o stops es q = es ≡ []
AreCaused me held o passes es q = es ≡ []

-- a timeout is one of the act's unanswered call
abbrev pub IsTimeoutOf : Node → Option ActCourse → Node → Node → ℕ → ℕ → Type 0
IsTimeoutOf me None caller callee epoch number = ⊥
IsTimeoutOf me (Some c) caller callee epoch number = (caller ≡ me) × ((callee ≡ c.asked.callee) × ((epoch ≡ c.asked.epoch) × (number ≡ c.asked.number)))

abbrev pub AreTimeoutsOf : Node → Option ActCourse → List Line → Type 0
AreTimeoutsOf me o [] = ⊤
AreTimeoutsOf me o (lines.Timeout caller callee epoch number count ∷ ls) = IsTimeoutOf me o caller callee epoch number × AreTimeoutsOf me o ls
AreTimeoutsOf me o (l ∷ ls) = AreTimeoutsOf me o ls

-- ---- what is known of an administrator behind some entries

-- all messages sent, the labels of the dumps that it holds, and the act that runs
pub record Known : Type 0 where
  pub sent : List Message
  pub held : List (List ℕ)
  pub course : Option ActCourse

abbrev pub nothing_known : Known
nothing_known = record { sent = []; held = []; course = None }

-- a dump takes the place of the one under its label, and an administrator that stops holds none any more
abbrev pub is_other_label : List ℕ → List ℕ → Bool
is_other_label label other = not (is_label label other)

abbrev pub with_label : List ℕ → List (List ℕ) → List (List ℕ)
with_label label held = filter (is_other_label label) held ++ label ∷ []

abbrev pub held_behind : List (List ℕ) → List Line → List (List ℕ)
held_behind held [] = held
held_behind held (lines.Dumped n label length ∷ ls) = held_behind (with_label label held) ls
held_behind held (lines.Crash n ∷ ls) = held_behind [] ls
held_behind held (l ∷ ls) = held_behind held ls

-- It ended, or made its next call; or else nothing came of what was given.
abbrev pub course_behind_step : Option ActCourse → ActCourse → List Ended → Option Asked → Option ActCourse
course_behind_step was c (e ∷ es) o = None
course_behind_step was c [] None = was
course_behind_step was c [] (Some q) = Some (course_asking c q)

abbrev pub course_begun : AdminAct → List Ended → Option Asked → Option ActCourse
course_begun act (e ∷ es) o = None
course_begun act [] None = None
course_begun act [] (Some q) = Some (begun act q)

abbrev pub act_course_behind : Option ActCourse → Event → List Ended → Option Asked → Option ActCourse
act_course_behind was (begins n act) es o = course_begun act es o
act_course_behind None (fails code) es o = None
act_course_behind (Some c) (fails code) es o = course_behind_step (Some c) (failed c code) es o
act_course_behind None (answers reply) es o = None
act_course_behind (Some c) (answers reply) es o = course_behind_step (Some c) (heard c reply) es o
act_course_behind was stops es o = None
act_course_behind was passes es o = was

-- an entry of it, and one of another node
abbrev pub is_of : Node → Actor → Bool
is_of me (actors.Node n) = same_node n me
is_of me actors.Clock = false
is_of me actors.Nobody = false

abbrev pub event_in : Node → Known → Entry → Event
event_in me k e = event_of me k.sent k.course e.lines

abbrev pub known_behind : Node → Known → Entry → Known
known_behind me k e = record {
  sent = k.sent ++ e.sent;
  held = if is_of me e.actor then held_behind k.held e.lines else k.held;
  course = if is_of me e.actor then act_course_behind k.course (event_in me k e) (ends_in e.lines) (asked_in e.sent) else k.course;
}

-- ---- the law

abbrev pub HasCauses : Node → Known → Entry → Type 0
HasCauses me k e = is_of me e.actor ≡ true → AreCaused me k.held k.course (event_in me k e) (ends_in e.lines) (asked_in e.sent) × AreTimeoutsOf me k.course e.lines

abbrev pub AreCausedIn : Node → Known → List Entry → Type 0
AreCausedIn me k [] = ⊤
AreCausedIn me k (e ∷ es) = HasCauses me k e × AreCausedIn me (known_behind me k e) es

-- In each entry of each administrator the act that runs ends just where, and with the code with which, the history before gives it a cause
-- to end.
abbrev pub HaveCauses : List Entry → Type 0
HaveCauses history = (n : ℕ) → AreCausedIn (Admin n) nothing_known history

-- So it is in every run of every script.
abbrev pub AnswersHaveCauses : Type 0
AnswersHaveCauses = (s : Script) (inputs : List CellInput) (history : List Entry) (end : NodeCell) → NodeLeads (node_start s) inputs history end → HaveCauses history
