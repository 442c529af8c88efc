-- The row of a file server beside a volume server: as that of one alone (ServerRow), but that it refuses calls on volumes that are out
-- of service, held by a transaction or gone to another server, and tells which volumes vanish as it begins again. `holds` are the
-- volumes that transactions hold, by their numbers: 1 where one is offline, 2 where it is busy.
use Rattle.std.specs.Prelude.{ℕ, ◌+◌, List, [], ◌∷◌, ◌++◌, Option, Some, None, Result, Ok, Err, pos, is_some, nat_eq, if◌then◌else◌}
use Rattle.afs_num.specs.Nodes.{same_node}
use Rattle.afs_num.specs.declared.calls.FsCall.{FsCall}
use Rattle.afs_num.specs.declared.calls.FsCall.TheVariants as calls
use Rattle.afs_num.specs.declared.messages.Call.TheVariants as ask
use Rattle.afs_num.specs.declared.messages.Carried.{Carried}
use Rattle.afs_num.specs.declared.messages.Carried.TheVariants as carried
use Rattle.afs_num.specs.declared.messages.Message.{Message}
use Rattle.afs_num.specs.declared.messages.Received.{Received}
use Rattle.afs_num.specs.declared.messages.Received.TheVariants.{Nothing, Unserved, Unreadable, Whole}
use Rattle.afs_num.specs.declared.types.Fid.{Fid}
use Rattle.afs_num.specs.declared.types.Head.{Head}
use Rattle.afs_num.specs.declared.types.Node.{Node}
use Rattle.spec_history.specs.declared.lines.Line.{Line}
use Rattle.spec_history.specs.declared.lines.Line.TheVariants as lines
use Rattle.spec_shape.specs.Reading.{◌>>=◌}
use Rattle.spec_ideal.specs.Operations.{op, the_user, volume_called, Caller}
use Rattle.spec_ideal.specs.Tables.{get, Table}
use Rattle.spec_model.specs.Calls.{admitted, Admitted}
use Rattle.spec_model.specs.Calls as pairs
use Rattle.spec_records.specs.Durable.{Stored}
use Rattle.spec_rows.specs.Callbacks.{expired, risen_turn, turned_in}
use Rattle.spec_rows.specs.ServerRow.{code_of_unreadable, decided, drops, given_up_read, is_client, no_volume, not_served, refuses, repeats, revived, several, shows, sight_by, tells_boot, time_read, whole, Decision, Sight}
use Rattle.spec_rows.specs.ServerSteps.{done, stepped}
use Rattle.spec_rows.specs.States.{Lasting, ServerState}
use Rattle.spec_rows.specs.Steps.{Begun, Step}
use Rattle.spec_fold.specs.Effects.{vanished_lines}

-- ---- closed volumes

-- 103: no such volume here; 111: none here, and it is known to which server it went
abbrev pub went_on : ℕ
went_on = 111

abbrev pub missing_code : Lasting → ℕ → ℕ
missing_code l id = if is_some (get id l.forwardings) then went_on else no_volume

-- 106: out of service, or offline in a transaction
abbrev pub out_of_service : ℕ
out_of_service = 106

-- 110: busy in a transaction
abbrev pub busy : ℕ
busy = 110

abbrev pub held_code : Option ℕ → Option ℕ
held_code None = None
held_code (Some hold) = if nat_eq hold 1 then Some out_of_service else Some busy

-- the code with which the volume refuses every call that looks at it
abbrev pub closed_code : Stored → Option ℕ → Option ℕ
closed_code st hold = if nat_eq st.volume.flags 0 then held_code hold else Some out_of_service

-- ---- a call on a volume

abbrev pub unless_closed : Head → Option ℕ → Decision → Decision
unless_closed head None d = d
unless_closed head (Some code) d = refuses head (pos code)

abbrev pub file_in : Table ℕ → ServerState → ℕ → Head → Caller → FsCall → ℕ → Option Stored → Decision
file_in holds s clock head caller call id None = refuses head (pos (missing_code s.lasting id))
file_in holds s clock head caller call id (Some st) =
    unless_closed head (closed_code st (get id holds)) (decided s clock head caller call id st (op id caller call st.volume))

abbrev pub file_volume : Table ℕ → ServerState → ℕ → Head → Caller → FsCall → Option ℕ → Decision
file_volume holds s clock head caller call None = refuses head not_served
file_volume holds s clock head caller call (Some id) = file_in holds s clock head caller call id (get id s.lasting.volumes)

-- ---- the statuses of several fids

abbrev pub sight_unless : Option ℕ → Result Sight ℕ → Result Sight ℕ
sight_unless None r = r
sight_unless (Some code) r = Err code

abbrev pub file_sight : Table ℕ → Lasting → Caller → Fid → Option Stored → Result Sight ℕ
file_sight holds l caller f None = Err (missing_code l f.volume)
file_sight holds l caller f (Some st) =
    sight_unless (closed_code st (get f.volume holds)) (sight_by st (op f.volume caller (calls.FetchStatus f) st.volume))

-- all of them, or the code of the first that fails
abbrev pub file_sights : Table ℕ → Lasting → Caller → List Fid → Result (List Sight) ℕ
file_sights holds l caller [] = Ok []
file_sights holds l caller (f ∷ fs) =
    file_sight holds l caller f (get f.volume l.volumes) >>= λ x. (file_sights holds l caller fs >>= λ xs. Ok (x ∷ xs))

-- ---- what is decided on a message: all else is as in ServerRow

abbrev pub file_serves : Table ℕ → ServerState → ℕ → Head → List ℕ → FsCall → Decision
file_serves holds s clock head user (calls.GiveUpCallBacks fids callbacks) = shows head (given_up_read fids)
file_serves holds s clock head user calls.GetTime = shows head (time_read clock)
file_serves holds s clock head user (calls.BulkStatus fids) = several head (the_user user) (file_sights holds s.lasting (the_user user) fids)
file_serves holds s clock head user call = file_volume holds s clock head (the_user user) call (volume_called call)

abbrev pub file_carried : Table ℕ → ServerState → ℕ → Head → Carried → Decision
file_carried holds s clock head (carried.Call user (ask.File call)) = file_serves holds s clock head user call
file_carried holds s clock head (carried.Call user call) = refuses head not_served
file_carried holds s clock head c = drops

abbrev pub file_received : Table ℕ → ServerState → ℕ → Head → Received → Decision
file_received holds s clock head Nothing = drops
file_received holds s clock head (Unserved other) = refuses head not_served
file_received holds s clock head (Unreadable other) = refuses head (code_of_unreadable head.opcode)
file_received holds s clock head (Whole m) = file_carried holds s clock head m.carried

abbrev pub file_runs : Table ℕ → ServerState → ℕ → Head → Received → Decision
file_runs holds s clock head r = if is_client head.from then file_received holds s clock head r else refuses head not_served

abbrev pub file_admits : Table ℕ → ServerState → ℕ → Head → Received → Admitted Message → Decision
file_admits holds s clock head r pairs.runs = file_runs holds s clock head r
file_admits holds s clock head r (pairs.kept reply) = repeats reply
file_admits holds s clock head r pairs.in_progress = drops
file_admits holds s clock head r pairs.older = drops
file_admits holds s clock head r (pairs.wrong_boot boot) = tells_boot head

abbrev pub file_called : Node → Table ℕ → ServerState → ℕ → Head → Received → Decision
file_called me holds s clock head r =
    if same_node head.to me then file_admits holds s clock head r (admitted s.lasting.boot s.seats head) else drops

abbrev pub file_hears : Node → Table ℕ → ServerState → ℕ → Head → Carried → Decision
file_hears me holds s clock head (carried.Call user call) = file_called me holds s clock head (whole head (carried.Call user call))
file_hears me holds s clock head c = drops

abbrev pub file_decides : Node → Table ℕ → ServerState → ℕ → Received → Decision
file_decides me holds s clock Nothing = drops
file_decides me holds s clock (Unserved head) = file_called me holds s clock head (Unserved head)
file_decides me holds s clock (Unreadable head) = file_called me holds s clock head (Unreadable head)
file_decides me holds s clock (Whole m) = file_hears me holds s clock m.head m.carried

-- ---- its steps

-- the server `me`, given the message of this place
unfoldable pub file_row : Node → Table ℕ → ServerState → ℕ → ℕ → Received → Step ServerState
file_row me holds s clock place m =
    done me s clock place (file_decides me holds s clock m) (turned_in me s clock (expired clock s.backs) (file_decides me holds s clock m) m)

-- It begins again, in a cell of so many clients. The volumes with the flag of delete on salvage are gone. The lines of a step that was
-- interrupted come first, then the restart, then the volumes that vanish, then the breaks that it owes.
abbrev pub start_lines : Node → ℕ → ℕ → Begun ServerState → List Line
start_lines me clock count begun =
    begun.before (lines.Restart me (begun.state.lasting.boot + 1) ∷ (vanished_lines me begun.state.lasting.volumes ++ (risen_turn me clock count).lines))

unfoldable pub file_start : Node → ℕ → ℕ → Begun ServerState → Step ServerState
file_start me clock count begun = stepped me (revived begun.state) (start_lines me clock count begun) (risen_turn me clock count)
