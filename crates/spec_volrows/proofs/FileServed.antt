-- A file server beside a volume server decides as one alone, or refuses a call on a volume that is closed.
use Rattle.std.proofs.Common.{◌≡◌, ◌⊎◌, inl, inr, ℕ, Bool, true, false, cond, List, [], ◌∷◌, Option, Some, None, Result, Ok, Err, refl, ap, ◌∙◌}
use Rattle.std.specs.Prelude.{nat_eq, is_some, pos}
use Rattle.afs_num.specs.Nodes.{same_node}
use Rattle.afs_num.specs.declared.types.Fid.{Fid}
use Rattle.afs_num.specs.declared.types.Head.{Head}
use Rattle.afs_num.specs.declared.types.Node.{Node}
use Rattle.afs_num.specs.declared.calls.FsCall.{FsCall}
use Rattle.afs_num.specs.declared.calls.FsCall.TheVariants as calls
use Rattle.afs_num.specs.declared.messages.Carried.{Carried}
use Rattle.afs_num.specs.declared.messages.Carried.TheVariants as carried
use Rattle.afs_num.specs.declared.messages.Call.TheVariants as ask
use Rattle.afs_num.specs.declared.messages.Message.{Message}
use Rattle.afs_num.specs.declared.messages.Received.{Received}
use Rattle.afs_num.specs.declared.messages.Received.TheVariants.{Nothing, Unserved, Unreadable, Whole}
use Rattle.spec_shape.specs.Reading.{◌>>=◌}
use Rattle.spec_ideal.specs.Operations.{Caller, op, the_user, volume_called}
use Rattle.spec_ideal.specs.Tables.{get, Table}
use Rattle.spec_model.specs.Calls.{Admitted, admitted}
use Rattle.spec_model.specs.Calls as pairs
use Rattle.spec_volrows.proofs.VolTurns.{starts_lists}
use Rattle.spec_records.specs.Durable.{Stored}
use Rattle.spec_rows.specs.Callbacks.{CallbackStep, expired, turn_for, turned_by, turned_in}
use Rattle.spec_rows.specs.ServerRow.{Decision, Sight, admits, called, decided, drops, hears, refuses, runs_carried, runs_received, whole, decides, does, in_volume, is_client, no_volume, not_served, serves_call, several, sight_by, sight_in, sights, with_volume}
use Rattle.spec_rows.specs.ServerSteps.{done, server_row, start_row}
use Rattle.spec_rows.specs.States.{Backs, ServerState}
use Rattle.spec_volrows.specs.FileLaws.{FileStepsAreServedOrClose, FilesAreServedOrClosed, IsClosedCode, IsClosing, IsClosingStep, IsSameOrCloses, StartsAlike}
use Rattle.spec_volrows.specs.FileRow.{busy, closed_code, file_admits, file_called, file_carried, file_decides, file_hears, file_in, file_received, file_row, file_serves, file_sight, file_sights, file_start, file_volume, held_code, missing_code, out_of_service, sight_unless, unless_closed, went_on}

-- ---- codes

missing_by : (b : Bool) → IsClosedCode (cond b went_on no_volume)
missing_by true = inr (inl refl)
missing_by false = inl refl

held_by : (o : Option ℕ) (code : ℕ) → held_code o ≡ Some code → IsClosedCode code
held_by None code e = absurd cc
held_by (Some hold) code e = hold_by (nat_eq hold 1) code e
  where
    hold_by : (b : Bool) (code : ℕ) → cond b (Some out_of_service) (Some busy) ≡ Some code → IsClosedCode code
    hold_by true code e = let is : code ≡ out_of_service = cc in inr (inr (inl is))
    hold_by false code e = let is : code ≡ busy = cc in inr (inr (inr is))

-- what a volume's flags say: a code, or that it serves
closed_by : (t : Bool) (st : Stored) (o : Option ℕ) (code : ℕ) → cond t (held_code o) (Some out_of_service) ≡ Some code → IsClosedCode code
closed_by true st o code e = held_by o code e
closed_by false st o code e = let is : code ≡ out_of_service = cc in inr (inr (inl is))

-- ---- one volume

in_by : (holds : Table ℕ) (s : ServerState) (clock : ℕ) (head : Head) (caller : Caller) (call : FsCall) (id : ℕ) (st : Stored) (o : Option ℕ) → closed_code st (get id holds) ≡ o
    → IsSameOrCloses (unless_closed head o (decided s clock head caller call id st (op id caller call st.volume))) (in_volume s clock head caller call id (Some st))
in_by holds s clock head caller call id st None e = inl refl
in_by holds s clock head caller call id st (Some code) e = inr (record { head = head; code = code; closed = closed_by (nat_eq st.volume.flags 0) st (get id holds) code e; is = refl })

in_served : (holds : Table ℕ) (s : ServerState) (clock : ℕ) (head : Head) (caller : Caller) (call : FsCall) (id : ℕ) (o : Option Stored) → IsSameOrCloses (file_in holds s clock head caller call id o) (in_volume s clock head caller call id o)
in_served holds s clock head caller call id None = inr (record { head = head; code = missing_code s.lasting id; closed = missing_by (is_some (get id s.lasting.forwardings)); is = refl })
in_served holds s clock head caller call id (Some st) = in_by holds s clock head caller call id st (closed_code st (get id holds)) refl

volume_served : (holds : Table ℕ) (s : ServerState) (clock : ℕ) (head : Head) (caller : Caller) (call : FsCall) (o : Option ℕ) → IsSameOrCloses (file_volume holds s clock head caller call o) (with_volume s clock head caller call o)
volume_served holds s clock head caller call None = inl refl
volume_served holds s clock head caller call (Some id) = in_served holds s clock head caller call id (get id s.lasting.volumes)

-- ---- several statuses

record IsShut {A : Type 0} (r : Result A ℕ) : Type 0 where
  code : ℕ
  closed : IsClosedCode code
  is : r ≡ Err code

sight_shut : (holds : Table ℕ) (s : ServerState) (caller : Caller) (f : Fid) (st : Stored) (o : Option ℕ) → closed_code st (get f.volume holds) ≡ o
    → (sight_unless o (sight_by st (op f.volume caller (calls.FetchStatus f) st.volume)) ≡ sight_in caller f (Some st)) ⊎ IsShut (sight_unless o (sight_by st (op f.volume caller (calls.FetchStatus f) st.volume)))
sight_shut holds s caller f st None e = inl refl
sight_shut holds s caller f st (Some code) e = inr (record { code = code; closed = closed_by (nat_eq st.volume.flags 0) st (get f.volume holds) code e; is = refl })

sight_served : (holds : Table ℕ) (s : ServerState) (caller : Caller) (f : Fid) (o : Option Stored) → (file_sight holds s.lasting caller f o ≡ sight_in caller f o) ⊎ IsShut (file_sight holds s.lasting caller f o)
sight_served holds s caller f None = inr (record { code = missing_code s.lasting f.volume; closed = missing_by (is_some (get f.volume s.lasting.forwardings)); is = refl })
sight_served holds s caller f (Some st) = sight_shut holds s caller f st (closed_code st (get f.volume holds)) refl

join : Result Sight ℕ → Result (List Sight) ℕ → Result (List Sight) ℕ
join o os = o >>= λ x. (os >>= λ xs. Ok (x ∷ xs))

-- the first refusal counts
join_by : (a b : Result Sight ℕ) (xs bs : Result (List Sight) ℕ) → a ≡ b → (xs ≡ bs) ⊎ IsShut xs → (join a xs ≡ join b bs) ⊎ IsShut (join a xs)
unfolding join
join_by a b xs bs same (inl rest) = inl (ap (λ (x : Result Sight ℕ). join x xs) same ∙ ap (join b) rest)
join_by (Ok x) b xs bs same (inr shut) = inr (record { code = shut.code; closed = shut.closed; is = ap (join (Ok x)) shut.is })
join_by (Err code) b xs bs same (inr shut) = inl (ap (λ (x : Result Sight ℕ). join x xs) same ∙ err_by b code xs bs same)
  where
    err_by : (b : Result Sight ℕ) (code : ℕ) (xs bs : Result (List Sight) ℕ) → Err code ≡ b → join b xs ≡ join b bs
    err_by (Ok y) code xs bs e = absurd cc
    err_by (Err c) code xs bs e = refl

sights_by : (a b : Result Sight ℕ) (xs bs : Result (List Sight) ℕ) → (a ≡ b) ⊎ IsShut a → (xs ≡ bs) ⊎ IsShut xs → (join a xs ≡ join b bs) ⊎ IsShut (join a xs)
unfolding join
sights_by a b xs bs (inl same) rest = join_by a b xs bs same rest
sights_by a b xs bs (inr shut) rest = inr (record { code = shut.code; closed = shut.closed; is = ap (λ (x : Result Sight ℕ). join x xs) shut.is })

sights_served : (holds : Table ℕ) (s : ServerState) (caller : Caller) (fs : List Fid) → (file_sights holds s.lasting caller fs ≡ sights s.lasting.volumes caller fs) ⊎ IsShut (file_sights holds s.lasting caller fs)
unfolding join
sights_served holds s caller [] = inl refl
sights_served holds s caller (f ∷ fs) =
    sights_by (file_sight holds s.lasting caller f (get f.volume s.lasting.volumes)) (sight_in caller f (get f.volume s.lasting.volumes)) (file_sights holds s.lasting caller fs) (sights s.lasting.volumes caller fs)
    (sight_served holds s caller f (get f.volume s.lasting.volumes)) (sights_served holds s caller fs)

several_served : (head : Head) (caller : Caller) (a b : Result (List Sight) ℕ) → (a ≡ b) ⊎ IsShut a → IsSameOrCloses (several head caller a) (several head caller b)
several_served head caller a b (inl same) = inl (ap (several head caller) same)
several_served head caller a b (inr shut) = inr (record { head = head; code = shut.code; closed = shut.closed; is = ap (several head caller) shut.is })

-- ---- every message

serves_served : (holds : Table ℕ) (s : ServerState) (clock : ℕ) (head : Head) (user : List ℕ) (call : FsCall) → IsSameOrCloses (file_serves holds s clock head user call) (serves_call s clock head user call)
serves_served holds s clock head user (calls.GiveUpCallBacks fids callbacks) = inl refl
serves_served holds s clock head user calls.GetTime = inl refl
serves_served holds s clock head user (calls.BulkStatus fids) = several_served head (the_user user) (file_sights holds s.lasting (the_user user) fids) (sights s.lasting.volumes (the_user user) fids) (sights_served holds s (the_user user) fids)
serves_served holds s clock head user call = volume_served holds s clock head (the_user user) call (volume_called call)

carried_served : (holds : Table ℕ) (s : ServerState) (clock : ℕ) (head : Head) (c : Carried) → IsSameOrCloses (file_carried holds s clock head c) (runs_carried s clock head c)
carried_served holds s clock head (carried.Call user (ask.File call)) = serves_served holds s clock head user call
carried_served holds s clock head (carried.Call user (ask.Volume call)) = inl refl
carried_served holds s clock head (carried.Call user (ask.Location call)) = inl refl
carried_served holds s clock head (carried.Refusal code) = inl refl
carried_served holds s clock head (carried.Reply reply) = inl refl
carried_served holds s clock head carried.Notice = inl refl

received_served : (holds : Table ℕ) (s : ServerState) (clock : ℕ) (head : Head) (m : Received) → IsSameOrCloses (file_received holds s clock head m) (runs_received s clock head m)
received_served holds s clock head Nothing = inl refl
received_served holds s clock head (Unserved other) = inl refl
received_served holds s clock head (Unreadable other) = inl refl
received_served holds s clock head (Whole m) = carried_served holds s clock head m.carried

either_served : (t : Bool) (a b c : Decision) → IsSameOrCloses a b → IsSameOrCloses (cond t a c) (cond t b c)
either_served true a b c h = h
either_served false a b c h = inl refl

admits_served : (holds : Table ℕ) (s : ServerState) (clock : ℕ) (head : Head) (m : Received) (a : Admitted Message) → IsSameOrCloses (file_admits holds s clock head m a) (admits s clock head m a)
admits_served holds s clock head m pairs.runs = either_served (is_client head.from) _ _ (refuses head not_served) (received_served holds s clock head m)
admits_served holds s clock head m (pairs.kept reply) = inl refl
admits_served holds s clock head m pairs.in_progress = inl refl
admits_served holds s clock head m pairs.older = inl refl
admits_served holds s clock head m (pairs.wrong_boot boot) = inl refl

called_served : (me : Node) (holds : Table ℕ) (s : ServerState) (clock : ℕ) (head : Head) (m : Received) → IsSameOrCloses (file_called me holds s clock head m) (called me s clock head m)
called_served me holds s clock head m = either_served (same_node head.to me) _ _ drops (admits_served holds s clock head m (admitted s.lasting.boot s.seats head))

hears_served : (me : Node) (holds : Table ℕ) (s : ServerState) (clock : ℕ) (head : Head) (c : Carried) → IsSameOrCloses (file_hears me holds s clock head c) (hears me s clock head c)
hears_served me holds s clock head (carried.Call user call) = called_served me holds s clock head (whole head (carried.Call user call))
hears_served me holds s clock head (carried.Refusal code) = inl refl
hears_served me holds s clock head (carried.Reply reply) = inl refl
hears_served me holds s clock head carried.Notice = inl refl

pub files_served : FilesAreServedOrClosed
files_served me holds s clock Nothing = inl refl
files_served me holds s clock (Unserved head) = called_served me holds s clock head (Unserved head)
files_served me holds s clock (Unreadable head) = called_served me holds s clock head (Unreadable head)
files_served me holds s clock (Whole m) = hears_served me holds s clock m.head m.carried

-- ---- steps

for_backs : (me : Node) (s : ServerState) (clock : ℕ) (b : Backs) (d : Decision) → IsClosing d → (turn_for me s clock b d).backs ≡ b
for_backs me s clock b d closes = ap (λ (x : Decision). (turn_for me s clock b x).backs) closes.is

closing_by : (me : Node) (holds : Table ℕ) (s : ServerState) (clock : ℕ) (b : Backs) (head : Head) (c : Carried) → IsClosing (file_hears me holds s clock head c) → (turned_by me s clock b (file_hears me holds s clock head c) head c).backs ≡ b
closing_by me holds s clock b head (carried.Call user call) closes = for_backs me s clock b (file_hears me holds s clock head (carried.Call user call)) closes
closing_by me holds s clock b head (carried.Refusal code) closes = let e : drops ≡ refuses closes.head (pos closes.code) = closes.is in absurd cc
closing_by me holds s clock b head (carried.Reply reply) closes = let e : drops ≡ refuses closes.head (pos closes.code) = closes.is in absurd cc
closing_by me holds s clock b head carried.Notice closes = let e : drops ≡ refuses closes.head (pos closes.code) = closes.is in absurd cc

closing_backs : (me : Node) (holds : Table ℕ) (s : ServerState) (clock : ℕ) (b : Backs) (m : Received) → IsClosing (file_decides me holds s clock m) → (turned_in me s clock b (file_decides me holds s clock m) m).backs ≡ b
closing_backs me holds s clock b Nothing closes = refl
closing_backs me holds s clock b (Unserved head) closes = for_backs me s clock b (file_decides me holds s clock (Unserved head)) closes
closing_backs me holds s clock b (Unreadable head) closes = for_backs me s clock b (file_decides me holds s clock (Unreadable head)) closes
closing_backs me holds s clock b (Whole m) closes = closing_by me holds s clock b m.head m.carried closes

closing_step : (me : Node) (holds : Table ℕ) (s : ServerState) (clock place : ℕ) (m : Received) → IsClosing (file_decides me holds s clock m) → IsClosingStep me holds s clock place m
unfolding file_row
closing_step me holds s clock place m closes =
    let b : Backs = expired clock s.backs in
    let d : Decision = file_decides me holds s clock m in
    let t : CallbackStep = turned_in me s clock b d m in record {
      decision = d;
      closes = closes;
      row = refl;
      lasting = ap (λ (x : Decision). (does me s clock place x []).state.lasting) closes.is;
      lists = starts_lists me (does me s clock place d []).state.lasting.boot t.backs.lists.owed _ ∙ ap (λ (x : Backs). x.lists) (closing_backs me holds s clock b m closes);
    }

step_of : (me : Node) (holds : Table ℕ) (s : ServerState) (clock place : ℕ) (m : Received) → IsSameOrCloses (file_decides me holds s clock m) (decides me s clock m) → (file_row me holds s clock place m ≡ server_row me s clock place m) ⊎ IsClosingStep me holds s clock place m
unfolding file_row server_row
step_of me holds s clock place m (inl same) = inl (ap (λ (d : Decision). done me s clock place d (turned_in me s clock (expired clock s.backs) d m)) same)
step_of me holds s clock place m (inr closes) = inr (closing_step me holds s clock place m closes)

pub file_steps : FileStepsAreServedOrClose
file_steps me holds s clock place m = step_of me holds s clock place m (files_served me holds s clock m)

pub starts_alike : StartsAlike
unfolding file_start start_row
starts_alike = record { state = λ me clock count begun. refl; sent = λ me clock count begun. refl }
