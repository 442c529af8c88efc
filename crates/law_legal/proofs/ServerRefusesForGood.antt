-- No server refuses a call with a code that asks to come again, however many servers a cell has: no volume is out of service or busy.
use Rattle.spec_history.specs.declared.lines.Line.{Line}
use Rattle.spec_ideal.specs.Operations.{Caller, Result, changes, no_operation, op, reads, refused, shows_acl, shows_body, shows_status, shows_statuses, shows_volume, the_user, volume_called}
use Rattle.spec_ideal.specs.Tables.{Table, get}
use Rattle.law_legal.proofs.BaseWords.{is_passing}
use Rattle.law_legal.proofs.VolumeOperations.{op_code}
use Rattle.law_legal.specs.Legal.{GoodGift, HasOwnHalf}
use Rattle.spec_model.specs.Calls as pairs
use Rattle.spec_model.specs.Calls.{Admitted, admitted}
use Rattle.afs_num.specs.Nodes.{same_node}
use Rattle.afs_num.specs.declared.calls.FsCall.{FsCall}
use Rattle.afs_num.specs.declared.calls.FsCall.TheVariants as calls
use Rattle.afs_num.specs.declared.messages.Call.TheVariants as ask
use Rattle.afs_num.specs.declared.messages.Carried.{Carried}
use Rattle.afs_num.specs.declared.messages.Carried.TheVariants as carried
use Rattle.afs_num.specs.declared.messages.Message.{Message}
use Rattle.afs_num.specs.declared.messages.Received.{Received}
use Rattle.afs_num.specs.declared.types.Fid.{Fid}
use Rattle.afs_num.specs.declared.types.Half.TheVariants as halves
use Rattle.afs_num.specs.declared.types.Head.{Head}
use Rattle.afs_num.specs.declared.types.Node.{Node}
use Rattle.spec_records.specs.Durable.{Stored, has_room}
use Rattle.spec_rows.specs.ServerRow.{Change, Decision, Sight, admits, decided, drops, hears, in_volume, is_client, not_served, record_of, refuses, runs_received, saves, serves_call, several, sight_by, sight_in, sights, whole, with_volume}
use Rattle.spec_rows.specs.States.{ServerState, durable_of}
use Rattle.spec_shape.specs.Reading.{◌>>=◌}
use Rattle.std.proofs.Common.{◌≡◌, ℕ, Bool, true, false, cond, List, [], ◌∷◌, Option, Some, None, refl, sym, subst, pos}
use Rattle.std.specs.Prelude as outcome
use Rattle.std.specs.Prelude.{⊤, Ok, Err}

-- what tells a code is a reply by its header; and a refusal tells something for good
abbrev pub IsFirm : Head → Carried → Type 0
IsFirm head (carried.Refusal code) = (head.half ≡ halves.Reply) × (is_passing code.0 ≡ false)
IsFirm head (carried.Reply reply) = head.half ≡ halves.Reply
IsFirm head c = ⊤

-- this node sends it in its own name; a call and a reply are such by their headers, a refusal is firm, and no server gives promises back
pub record IsSentBy (me : Node) (m : Message) : Type 0 where
  pub from : m.head.from ≡ me
  pub half : HasOwnHalf m
  pub firm : IsFirm m.head m.carried
  pub gift : is_client me ≡ false → (ls : List Line) → GoodGift m.head m.carried ls

-- ---- what a server decides

abbrev pub IfFirm : Decision → Type 0
IfFirm (refuses head code) = is_passing code ≡ false
IfFirm d = ⊤

either_firm : (t : Bool) (a b : Decision) → IfFirm a → IfFirm b → IfFirm (cond t a b)
either_firm true a b h k = h
either_firm false a b h k = k

-- no refusal of the operation is one
abbrev IsFirmResult : Result → Type 0
IsFirmResult r = (code : ℕ) → r ≡ refused code → is_passing (pos code) ≡ false

decided_firm : (x : ServerState) (clock : ℕ) (head : Head) (caller : Caller) (call : FsCall) (id : ℕ) (st : Stored) (r : Result) → IsFirmResult r → IfFirm (decided x clock head caller call id st r)
decided_firm x clock head caller call id st (refused code) h = h code refl
decided_firm x clock head caller call id st (reads shown) h = tt
decided_firm x clock head caller call id st no_operation h = refl
decided_firm x clock head caller call id st (changes es n) h =
    let c : Change = record { id = id; caller = caller; call = call; before = st; edits = es; shown = n } in
    either_firm (has_room (durable_of x.lasting) (record_of x.lasting.boot head clock c)) (saves head c) _ tt refl

in_firm : (x : ServerState) (clock : ℕ) (head : Head) (caller : Caller) (call : FsCall) (id : ℕ) (o : Option Stored) → volume_called call ≡ Some id → IfFirm (in_volume x clock head caller call id o)
in_firm x clock head caller call id None v = refl
in_firm x clock head caller call id (Some st) v = decided_firm x clock head caller call id st (op id caller call st.volume) (λ code e. op_code id caller call st.volume code v e)

with_firm : (x : ServerState) (clock : ℕ) (head : Head) (caller : Caller) (call : FsCall) (o : Option ℕ) → volume_called call ≡ o → IfFirm (with_volume x clock head caller call o)
with_firm x clock head caller call None v = refl
with_firm x clock head caller call (Some id) v = in_firm x clock head caller call id (get id x.lasting.volumes) v

-- several statuses
abbrev IsFirmSight : outcome.Result Sight ℕ → Type 0
IsFirmSight (Ok x) = ⊤
IsFirmSight (Err code) = is_passing (pos code) ≡ false

abbrev AreFirmSights : outcome.Result (List Sight) ℕ → Type 0
AreFirmSights (Ok xs) = ⊤
AreFirmSights (Err code) = is_passing (pos code) ≡ false

seen_firm : (st : Stored) (r : Result) → IsFirmResult r → IsFirmSight (sight_by st r)
seen_firm st (refused code) h = h code refl
seen_firm st (reads (shows_status f)) h = tt
seen_firm st (reads (shows_body f)) h = refl
seen_firm st (reads (shows_acl f)) h = refl
seen_firm st (reads (shows_statuses fs)) h = refl
seen_firm st (reads shows_volume) h = refl
seen_firm st no_operation h = refl
seen_firm st (changes es n) h = refl

sight_firm : (caller : Caller) (f : Fid) (o : Option Stored) → IsFirmSight (sight_in caller f o)
sight_firm caller f None = refl
sight_firm caller f (Some st) = seen_firm st (op f.volume caller (calls.FetchStatus f) st.volume) (λ code e. op_code f.volume caller (calls.FetchStatus f) st.volume code refl e)

more_firm : (o : outcome.Result Sight ℕ) (os : outcome.Result (List Sight) ℕ) → IsFirmSight o → AreFirmSights os → AreFirmSights (o >>= λ x. (os >>= λ xs. Ok (x ∷ xs)))
more_firm (Err code) os h k = h
more_firm (Ok x) (Err code) h k = k
more_firm (Ok x) (Ok xs) h k = tt

sights_firm : (volumes : Table Stored) (caller : Caller) (fids : List Fid) → AreFirmSights (sights volumes caller fids)
sights_firm volumes caller [] = tt
sights_firm volumes caller (f ∷ fs) = more_firm (sight_in caller f (get f.volume volumes)) (sights volumes caller fs) (sight_firm caller f (get f.volume volumes)) (sights_firm volumes caller fs)

several_firm : (head : Head) (caller : Caller) (o : outcome.Result (List Sight) ℕ) → AreFirmSights o → IfFirm (several head caller o)
several_firm head caller (Ok xs) h = tt
several_firm head caller (Err code) h = h

served_firm : (x : ServerState) (clock : ℕ) (head : Head) (user : List ℕ) (call : FsCall) → IfFirm (serves_call x clock head user call)
served_firm x clock head user (calls.GiveUpCallBacks fids callbacks) = tt
served_firm x clock head user calls.GetTime = tt
served_firm x clock head user (calls.BulkStatus fids) = several_firm head (the_user user) (sights x.lasting.volumes (the_user user) fids) (sights_firm x.lasting.volumes (the_user user) fids)
served_firm x clock head user call = with_firm x clock head (the_user user) call (volume_called call) refl

admits_firm : (x : ServerState) (clock : ℕ) (head : Head) (user : List ℕ) (call : FsCall) (o : Admitted Message) → IfFirm (admits x clock head (whole head (carried.Call user (ask.File call))) o)
admits_firm x clock head user call pairs.runs = either_firm (is_client head.from) (serves_call x clock head user call) (refuses head not_served) (served_firm x clock head user call) refl
admits_firm x clock head user call (pairs.kept reply) = tt
admits_firm x clock head user call pairs.in_progress = tt
admits_firm x clock head user call pairs.older = tt
admits_firm x clock head user call (pairs.wrong_boot boot) = tt

refused_firm : (x : ServerState) (clock : ℕ) (head : Head) (r : Received) (o : Admitted Message) → runs_received x clock head r ≡ refuses head not_served → IfFirm (admits x clock head r o)
refused_firm x clock head r pairs.runs e = either_firm (is_client head.from) (runs_received x clock head r) (refuses head not_served) (subst IfFirm (sym e) refl) refl
refused_firm x clock head r (pairs.kept reply) e = tt
refused_firm x clock head r pairs.in_progress e = tt
refused_firm x clock head r pairs.older e = tt
refused_firm x clock head r (pairs.wrong_boot boot) e = tt

pub hears_firm : (me : Node) (x : ServerState) (clock : ℕ) (head : Head) (y : Carried) → IfFirm (hears me x clock head y)
hears_firm me x clock head (carried.Call user (ask.File call)) = either_firm (same_node head.to me) _ drops (admits_firm x clock head user call (admitted x.lasting.boot x.seats head)) tt
hears_firm me x clock head (carried.Call user call) = either_firm (same_node head.to me) _ drops (refused_firm x clock head (whole head (carried.Call user call)) (admitted x.lasting.boot x.seats head) refl) tt
hears_firm me x clock head (carried.Refusal code) = tt
hears_firm me x clock head (carried.Reply reply) = tt
hears_firm me x clock head carried.Notice = tt
