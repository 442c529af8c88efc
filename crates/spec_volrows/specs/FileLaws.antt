-- What the row of a file server beside a volume server (FileRow) has to do with that of one alone (ServerRow).
use Rattle.std.specs.Prelude.{◌≡◌, ◌⊎◌, ◌++◌, ℕ, true, List, [], Option, Some, None, Err, pos}
use Rattle.std.specs.List.{AllByRecursion}
use Rattle.afs_num.specs.Nodes.{same_node}
use Rattle.afs_num.specs.declared.calls.FsCall.{FsCall}
use Rattle.afs_num.specs.declared.messages.Call.TheVariants as ask
use Rattle.afs_num.specs.declared.messages.Carried.TheVariants as carried
use Rattle.afs_num.specs.declared.messages.Received.{Received}
use Rattle.afs_num.specs.declared.types.Fid.{Fid}
use Rattle.afs_num.specs.declared.types.Head.{Head}
use Rattle.afs_num.specs.declared.types.Node.{Node}
use Rattle.spec_history.specs.declared.lines.Line.{Line}
use Rattle.spec_ideal.specs.Operations.{volume_called, Caller}
use Rattle.spec_ideal.specs.Tables.{get, Table}
use Rattle.spec_model.specs.Calls.{admitted}
use Rattle.spec_model.specs.Calls as pairs
use Rattle.spec_records.specs.Durable.{Stored}
use Rattle.spec_rows.specs.Callbacks.{expired, turned_in}
use Rattle.spec_rows.specs.ServerRow.{begun_after, decides, is_client, no_volume, refuses, serves_call, sight_in, whole, Decision}
use Rattle.spec_rows.specs.ServerSteps.{back_timeout_row, done, server_row, start_row, wake_row}
use Rattle.spec_rows.specs.States.{BackCall, ServerState}
use Rattle.spec_rows.specs.Steps.{begun_before, Begun}
use Rattle.spec_volrows.specs.FileRow.{busy, closed_code, file_decides, file_row, file_serves, file_sight, file_start, missing_code, out_of_service, went_on}

-- ---- a server without volume calls: none of its volumes is held, out of service or elsewhere

pub record IsOpen (s : ServerState) : Type 0 where
  pub forwardings : s.lasting.forwardings ≡ []
  pub volumes : AllByRecursion (λ (p : ℕ × Stored). p.1.volume.flags ≡ 0) s.lasting.volumes

-- a restart that tells the lines of the interrupted step before its own, whichever these are
abbrev pub TellsFirst : Begun ServerState → Type 0
TellsFirst begun = (ls : List Line) → begun.before ls ≡ begun.before [] ++ ls

-- its steps are those of a file server without a volume server
pub record OpenServersArePlain : Type 0 where
  pub decided : (me : Node) (s : ServerState) (clock : ℕ) (m : Received) → IsOpen s → file_decides me [] s clock m ≡ decides me s clock m
  pub row : (me : Node) (s : ServerState) (clock place : ℕ) (m : Received) → IsOpen s → file_row me [] s clock place m ≡ server_row me s clock place m
  pub start : (me : Node) (clock count : ℕ) (begun : Begun ServerState) → IsOpen begun.state → file_start me clock count begun ≡ start_row me clock count begun
  -- whichever message began the step that was interrupted
  pub tells : (me : Node) (s : ServerState) (clock : ℕ) (d : Decision) → TellsFirst (begun_before s) × TellsFirst (begun_after me s clock d)

-- and it stays so at every step, whatever is held
pub record OpenServersStayOpen : Type 0 where
  pub given : (me : Node) (holds : Table ℕ) (s : ServerState) (clock place : ℕ) (m : Received) → IsOpen s → IsOpen (file_row me holds s clock place m).state
  pub late : (me : Node) (s : ServerState) (clock : ℕ) (n : Node) (c : BackCall) → IsOpen s → IsOpen (back_timeout_row me s clock n c).state
  pub woken : (me : Node) (s : ServerState) (clock : ℕ) → IsOpen s → IsOpen (wake_row me s clock).state
  pub cut : (me : Node) (holds : Table ℕ) (s : ServerState) (clock : ℕ) (m : Received) → IsOpen s → IsOpen (begun_after me s clock (file_decides me holds s clock m)).state
  pub started : (me : Node) (clock count : ℕ) (begun : Begun ServerState) → IsOpen begun.state → IsOpen (file_start me clock count begun).state

-- ---- every server, whatever is held, out of service or elsewhere

-- no such volume, gone to another server, out of service, or busy
abbrev pub IsClosedCode : ℕ → Type 0
IsClosedCode code = (code ≡ no_volume) ⊎ ((code ≡ went_on) ⊎ ((code ≡ out_of_service) ⊎ (code ≡ busy)))

-- a refusal with such a code
pub record IsClosing (d : Decision) : Type 0 where
  pub head : Head
  pub code : ℕ
  pub closed : IsClosedCode code
  pub is : d ≡ refuses head (pos code)

-- it decides as the other, or refuses with such a code
abbrev pub IsSameOrCloses : Decision → Decision → Type 0
IsSameOrCloses d e = (d ≡ e) ⊎ IsClosing d

abbrev pub FilesAreServedOrClosed : Type 0
FilesAreServedOrClosed = (me : Node) (holds : Table ℕ) (s : ServerState) (clock : ℕ) (m : Received) → IsSameOrCloses (file_decides me holds s clock m) (decides me s clock m)

-- its step is the other's, or the refusal, which changes no volume, and grants and withdraws no promise
pub record IsClosingStep (me : Node) (holds : Table ℕ) (s : ServerState) (clock place : ℕ) (m : Received) : Type 0 where
  pub decision : Decision
  pub closes : IsClosing decision
  pub row : file_row me holds s clock place m ≡ done me s clock place decision (turned_in me s clock (expired clock s.backs) decision m)
  pub lasting : (file_row me holds s clock place m).state.lasting ≡ s.lasting
  pub lists : (file_row me holds s clock place m).state.backs.lists ≡ (expired clock s.backs).lists

abbrev pub FileStepsAreServedOrClose : Type 0
FileStepsAreServedOrClose = (me : Node) (holds : Table ℕ) (s : ServerState) (clock place : ℕ) (m : Received) →
    (file_row me holds s clock place m ≡ server_row me s clock place m) ⊎ IsClosingStep me holds s clock place m

-- the code with which the volume of this number refuses every call that looks at it, if it does
abbrev pub code_by : Table ℕ → ServerState → ℕ → Option Stored → Option ℕ
code_by holds s id None = Some (missing_code s.lasting id)
code_by holds s id (Some st) = closed_code st (get id holds)

abbrev pub volume_code : Table ℕ → ServerState → ℕ → Option ℕ
volume_code holds s id = code_by holds s id (get id s.lasting.volumes)

-- A call of a client that runs is refused with just that code where the volume on which it is has one, and is served as by the other
-- where it has none. Each of several statuses is so, by the volume of its fid.
pub record ClosedAreRefused : Type 0 where
  pub runs : (me : Node) (holds : Table ℕ) (s : ServerState) (clock : ℕ) (head : Head) (user : List ℕ) (call : FsCall) → same_node head.to me ≡ true → admitted s.lasting.boot s.seats head ≡ pairs.runs → is_client head.from ≡ true →
      file_decides me holds s clock (whole head (carried.Call user (ask.File call))) ≡ file_serves holds s clock head user call
  pub refused : (holds : Table ℕ) (s : ServerState) (clock : ℕ) (head : Head) (user : List ℕ) (call : FsCall) (id code : ℕ) → volume_called call ≡ Some id → volume_code holds s id ≡ Some code →
      file_serves holds s clock head user call ≡ refuses head (pos code)
  pub served : (holds : Table ℕ) (s : ServerState) (clock : ℕ) (head : Head) (user : List ℕ) (call : FsCall) (id : ℕ) → volume_called call ≡ Some id → volume_code holds s id ≡ None →
      file_serves holds s clock head user call ≡ serves_call s clock head user call
  pub unseen : (holds : Table ℕ) (s : ServerState) (caller : Caller) (f : Fid) (code : ℕ) → volume_code holds s f.volume ≡ Some code → file_sight holds s.lasting caller f (get f.volume s.lasting.volumes) ≡ Err code
  pub seen : (holds : Table ℕ) (s : ServerState) (caller : Caller) (f : Fid) → volume_code holds s f.volume ≡ None → file_sight holds s.lasting caller f (get f.volume s.lasting.volumes) ≡ sight_in caller f (get f.volume s.lasting.volumes)

-- It begins again as the other does: only its lines are told besides.
pub record StartsAlike : Type 0 where
  pub state : (me : Node) (clock count : ℕ) (begun : Begun ServerState) → (file_start me clock count begun).state ≡ (start_row me clock count begun).state
  pub sent : (me : Node) (clock count : ℕ) (begun : Begun ServerState) → (file_start me clock count begun).sent ≡ (start_row me clock count begun).sent
