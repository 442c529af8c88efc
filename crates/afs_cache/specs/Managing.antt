-- What the calls of a cache manager promise.
use Rattle.std.specs.Prelude.{◌≡◌, ℕ, List, [], Bool, false, Option, Some, None, Result, if◌then◌else◌}
use Rattle.spec_history.specs.declared.lines.Line.{Line}
use Rattle.spec_history.specs.declared.lines.Outs.{Outs}
use Rattle.afs_num.specs.declared.types.Node.{Node}
use Rattle.afs_num.specs.declared.types.Key.{Key}
use Rattle.afs_num.specs.declared.calls.FsCall.{FsCall}
use Rattle.afs_num.specs.declared.calls.FsReply.{FsReply}
use Rattle.afs_num.specs.declared.types.Code.{Code}
use Rattle.afs_num.specs.declared.types.Head.{Head}
use Rattle.afs_num.specs.declared.messages.Carried.{Carried}
use Rattle.spec_model.specs.Steps.{NodeState}
use Rattle.spec_rows.specs.Going.{ClientState, Going, Seek}
use Rattle.spec_rows.specs.ClientRow.{act_of, call_of, calls_again, gives_up, ignores, is_sought, is_spent, refuses, seek_timeout_row, takes, timeout_row}
use Rattle.spec_rows.specs.Steps.{Step}
use Rattle.afs_calling.specs.Stepping as stepping
use Rattle.spec_copyrows.specs.CopyRow.{behind_given, copy_seek_row, copy_timeout_row}
use Rattle.spec_copyrows.specs.Sites.{as_it_is, sited, CopyState}
pub use Rattle.afs_calling.specs.Calls.{number_limit}
pub use Rattle.afs_calling.specs.Stepping.{Makes}

-- ---- what a call of the program has done

-- A step of the client's row, whose call of a read-only volume goes to its site. Where that is no call, it is that step.
unfoldable pub sent_to_site : Node → CopyState → Step ClientState → Step CopyState
sent_to_site me c s = sited me c s

-- the client made this step, and its call went to its site; or memory was wanting, and it is as before
abbrev pub Answers : {E : Type 0} → Step ClientState → NodeState CopyState → NodeState CopyState → Result Outs E → Type 0
Answers step old new r = stepping.Answers (sent_to_site old.node old.state step) old new r

-- the same with a message
abbrev pub Takes : {E : Type 0} → (ℕ → Step ClientState) → NodeState CopyState → NodeState CopyState → Result Outs E → Type 0
Takes step old new r = stepping.Takes (λ place. sent_to_site old.node old.state (step place)) old new r

-- the same behind lines that were told before
abbrev pub Goes : {E : Type 0} → ((List Line → List Line) → Step ClientState) → List Line → NodeState CopyState → NodeState CopyState → Result Outs E → Type 0
Goes step told old new r = stepping.Goes (λ front. sent_to_site old.node old.state (step front)) told old new r

-- steps that make no call
abbrev pub AnswersStill : {E : Type 0} → Step ClientState → NodeState CopyState → NodeState CopyState → Result Outs E → Type 0
AnswersStill step old new r = stepping.Answers (as_it_is old.state step) old new r

abbrev pub TakesStill : {E : Type 0} → (ℕ → Step ClientState) → NodeState CopyState → NodeState CopyState → Result Outs E → Type 0
TakesStill step old new r = stepping.Takes (λ place. as_it_is old.state (step place)) old new r

abbrev pub GoesStill : {E : Type 0} → ((List Line → List Line) → Step ClientState) → List Line → NodeState CopyState → NodeState CopyState → Result Outs E → Type 0
GoesStill step told old new r = stepping.Goes (λ front. as_it_is old.state (step front)) told old new r

-- steps of the row of a client that reads read-only volumes too
abbrev pub AnswersCopy : {E : Type 0} → Step CopyState → NodeState CopyState → NodeState CopyState → Result Outs E → Type 0
AnswersCopy step old new r = stepping.Answers step old new r

abbrev pub TakesCopy : {E : Type 0} → (ℕ → Step CopyState) → NodeState CopyState → NodeState CopyState → Result Outs E → Type 0
TakesCopy step old new r = stepping.Takes step old new r

-- these lines stand behind the one that names the message
abbrev pub telling : List Line → Step ClientState → Step ClientState
telling told s = record s { lines = behind_given told s.lines }

-- ---- the act that runs

-- what the act that runs does with the message of this place; where none runs, the message does nothing
abbrev pub by_act : ClientState → ℕ → (Going → Step ClientState) → Option Going → Step ClientState
by_act c place step None = ignores c place
by_act c place step (Some act) = step act

-- the same by the act's unanswered call
abbrev pub by_call : ClientState → ℕ → (Going → FsCall → Step ClientState) → Option Going → Step ClientState
by_call c place step running = by_act c place (λ act. step act (call_of c act)) running

-- a break overtook the reply to the act's reading call
abbrev pub spent_by : ClientState → Option Going → Bool
spent_by c None = false
spent_by c (Some act) = is_spent c act

-- a refusal, and a reply: what a break overtook isn't used
abbrev pub hears_refusal : Node → ClientState → ℕ → Going → Code → Step ClientState
hears_refusal me c place act code = if is_spent c act then calls_again me c place act else refuses me c place act code

abbrev pub hears_reply : Node → ClientState → ℕ → ℕ → Going → FsReply → Step ClientState
hears_reply me c clock place act reply = if is_spent c act then calls_again me c place act else takes me c clock place act (call_of c act) reply

-- nothing happens
abbrev pub rests : ClientState → Step ClientState
rests c = record { state = c; lines = []; sent = [] }

-- the unanswered call: whom it is for, and its key
abbrev pub waits_by : Node → ClientState → Option Going → Option (Node × Key)
waits_by me c None = None
waits_by me c (Some act) = Some (c.callee, record { node = me; epoch = c.epoch; number = c.last })

abbrev pub waits : NodeState CopyState → Option (Node × Key)
waits c = waits_by c.node c.state.client (act_of c.state.client)

-- the step of a timeout, by the act that runs or else by the one that waits for the location database; one is told only while a call waits
abbrev pub seek_times_out : Node → ClientState → Option Seek → Step ClientState
seek_times_out me c None = rests c
seek_times_out me c (Some k) = seek_timeout_row me c k

abbrev pub times_out : Node → ClientState → Option Going → Step ClientState
times_out me c None = seek_times_out me c c.seeking
times_out me c (Some act) = timeout_row me c act

-- whether it is what the act waits for that asked where a volume is
abbrev pub sought_by_head : Node → ClientState → Head → Carried → Option Seek → Bool
sought_by_head me c head x None = false
sought_by_head me c head x (Some k) = is_sought me c k head x

-- the call that waits is given up
abbrev pub given_up : Node → ClientState → Option Going → Step ClientState
given_up me c None = rests c
given_up me c (Some act) = gives_up me c (call_of c act)

-- ---- a timeout of a client that reads read-only volumes too

abbrev pub copy_seek_times_out : Node → CopyState → Option Seek → Step CopyState
copy_seek_times_out me c None = as_it_is c (rests c.client)
copy_seek_times_out me c (Some k) = copy_seek_row me c k

abbrev pub copy_times_out : Node → CopyState → Option Going → Step CopyState
copy_times_out me c None = copy_seek_times_out me c c.client.seeking
copy_times_out me c (Some act) = copy_timeout_row me c act
