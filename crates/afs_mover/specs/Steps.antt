-- What the calls of an administrator promise.
use Rattle.std.specs.Prelude.{◌≡◌, ◌+◌, ℕ, Bool, false, List, [], ◌∷◌, ◌++◌, Option, Some, None, Result, Ok, Err}
use Rattle.spec_history.specs.declared.lines.Line.{Line}
use Rattle.spec_history.specs.declared.lines.Outs.{Outs}
use Rattle.afs_num.specs.declared.messages.Carried.{Carried}
use Rattle.afs_num.specs.declared.messages.Carried.TheVariants as carried
use Rattle.afs_num.specs.declared.messages.Message.{Message}
use Rattle.afs_num.specs.declared.messages.Reply.{Reply}
use Rattle.afs_num.specs.declared.types.Code.{Code}
use Rattle.afs_num.specs.declared.types.Half.TheVariants as halves
use Rattle.afs_num.specs.declared.types.Head.{Head}
use Rattle.afs_num.specs.declared.types.Key.{Key}
use Rattle.afs_num.specs.declared.types.Node.{Node}
use Rattle.spec_model.specs.CellRows.{call_number, cell_replies}
use Rattle.spec_model.specs.Steps.{NodeState}
use Rattle.spec_rows.specs.Steps.{Step}
use Rattle.spec_shape.specs.Rows.{IsWithin}
use Rattle.spec_adminrows.specs.Acts.{answered, refused}
use Rattle.spec_adminrows.specs.AdminRow.{AdminState, admin_timeout_line, admin_timeout_row, ask_message, ask_of, errand_of, is_awaited, knows_boot, sends_again, turned}
use Rattle.spec_adminrows.specs.Turns.{dead}
use Rattle.spec_adminrows.specs.declared.turns.Ask.{Ask}
use Rattle.spec_adminrows.specs.declared.turns.Running.{Running}
use Rattle.afs_calling.specs.Calls.{calling}
use Rattle.afs_calling.specs.Stepping.{Makes}

-- ---- of the public calls

-- nothing is done, behind these lines
abbrev pub rests : AdminState → List Line → Step AdminState
rests a ls = record { state = a; lines = ls; sent = [] }

-- the unanswered call: whom it is for, and its key
abbrev pub waits_by : Node → AdminState → Option Running → Option (Node × Key)
waits_by me a None = None
waits_by me a (Some r) = Some ((ask_of a r).callee, record { node = me; epoch = a.epoch; number = a.last })

abbrev pub waits : NodeState AdminState → Option (Node × Key)
waits a = waits_by a.node a.state a.state.running

-- a timeout is told only while a call waits
abbrev pub times_out : Node → AdminState → Option Running → Step AdminState
times_out me a None = rests a []
times_out me a (Some r) = admin_timeout_row me a r

-- how many servers it knows of, and its epoch: no step changes them
abbrev pub lasting : AdminState → ℕ × ℕ
lasting a = (a.servers, a.epoch)

-- ---- behind lines that were told before, which the program has in hand; what comes before them (that a message was given) the caller adds

-- the administrator made this step; or memory was wanting, and it is as before
abbrev pub Behind : {E : Type 0} → (List Line → Step AdminState) → List Line → NodeState AdminState → NodeState AdminState → Result Outs E → Type 0
Behind step told old new (Ok outs) = (new.node ≡ old.node) × ((first : List Line) → Makes (step (first ++ told)) new.state (λ ls. first ++ ls) outs)
Behind step told old new (Err e) = new ≡ old

-- what the act that runs does; where none runs, nothing is done
abbrev pub by_act : AdminState → (Running → List Line → Step AdminState) → Option Running → List Line → Step AdminState
by_act a step None ls = rests a ls
by_act a step (Some r) ls = step r ls

-- by a reply; by a refusal, or because the call is given up
abbrev pub turns_answered : Node → AdminState → Reply → Running → List Line → Step AdminState
turns_answered me a reply r ls = turned me a r.act ls (answered (errand_of a r.act) r.place reply)

abbrev pub turns_refused : Node → AdminState → Code → Running → List Line → Step AdminState
turns_refused me a code r ls = turned me a r.act ls (refused r.place code)

-- its callee has told this boot number
abbrev pub asks_in : Node → AdminState → ℕ → Running → List Line → Step AdminState
asks_in me a boot r ls =
    record { state = knows_boot a (ask_of a r).callee boot; lines = ls; sent = ask_message me (knows_boot a (ask_of a r).callee boot) (ask_of a r) ∷ [] }

-- by what a message carries to it
abbrev pub heard_by : Node → AdminState → ℕ → Carried → Running → List Line → Step AdminState
heard_by me a boot (carried.Call user call) r ls = rests a ls
heard_by me a boot (carried.Refusal code) r ls = turns_refused me a code r ls
heard_by me a boot (carried.Reply reply) r ls = turns_answered me a reply r ls
heard_by me a boot carried.Notice r ls = asks_in me a boot r ls

-- a reply that it carries is within the limits of its row
abbrev pub IsWithinCarried : Carried → Type 0
IsWithinCarried (carried.Reply reply) = IsWithin cell_replies reply
IsWithinCarried x = Unit {0}

-- whether a message with this header answers the unanswered call
abbrev pub awaited_by : AdminState → Head → Option Running → Bool
awaited_by a head None = false
awaited_by a head (Some r) = is_awaited a head (ask_of a r)

-- ---- timeouts

-- what is told of the timeout
abbrev pub lines_late : Node → AdminState → Option Running → List Line
lines_late me a None = []
lines_late me a (Some r) = admin_timeout_line me a (ask_of a r) ∷ []

-- the call is sent again
abbrev pub sends_late : Node → AdminState → Option Running → Step AdminState
sends_late me a None = rests a []
sends_late me a (Some r) = sends_again me a (ask_of a r)

-- it is given up
abbrev pub gives_up : Node → AdminState → Option Running → Step AdminState
gives_up me a running = by_act a (turns_refused me a dead) running (lines_late me a running)

-- ---- a call

-- what is asked under this number, in this boot of its callee
abbrev pub head_under : Node → AdminState → ℕ → ℕ → Ask → Head
head_under me a number boot q =
    record { half = halves.Call; from = me; to = q.callee; epoch = a.epoch; number = number; boot = boot; stamp = q.stamp; opcode = call_number q.call }

abbrev pub sent_under : Node → AdminState → ℕ → ℕ → Ask → Message
sent_under me a number boot q = calling (head_under me a number boot q) [] q.call
