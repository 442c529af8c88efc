-- What a file server beside a volume server changes: a volume that it has, and that is in service.
use Rattle.std.proofs.Common.{◌≡◌, ℕ, Bool, true, false, cond, List, Option, Some, None, Result, Ok, Err, refl, nat_eq}
use Rattle.std.specs.Prelude.{⊤}
use Rattle.afs_num.specs.Nodes.{same_node}
use Rattle.afs_num.specs.declared.calls.FsCall.{FsCall}
use Rattle.afs_num.specs.declared.calls.FsCall.TheVariants as calls
use Rattle.afs_num.specs.declared.messages.Call.TheVariants as ask
use Rattle.afs_num.specs.declared.messages.Carried.{Carried}
use Rattle.afs_num.specs.declared.messages.Carried.TheVariants as carried
use Rattle.afs_num.specs.declared.messages.Message.{Message}
use Rattle.afs_num.specs.declared.messages.Received.{Received}
use Rattle.afs_num.specs.declared.messages.Received.TheVariants.{Nothing, Unserved, Unreadable, Whole}
use Rattle.afs_num.specs.declared.types.Head.{Head}
use Rattle.afs_num.specs.declared.types.Node.{Node}
use Rattle.spec_ideal.specs.Operations as operations
use Rattle.spec_ideal.specs.Operations.{changes, op, the_user, volume_called, Caller}
use Rattle.spec_ideal.specs.Tables.{get, Table}
use Rattle.spec_model.specs.Calls as pairs
use Rattle.spec_model.specs.Calls.{admitted, Admitted}
use Rattle.spec_records.specs.Durable.{has_room, Stored}
use Rattle.spec_rows.specs.ServerRow.{decided, drops, is_client, no_room, not_served, record_of, refuses, repeats, saves, several, shows, tells_boot, whole, Change, Decision, Sight}
use Rattle.spec_rows.specs.States.{durable_of, ServerState}
use Rattle.spec_volrows.specs.FileRow.{file_admits, file_called, file_carried, file_decides, file_hears, file_in, file_received, file_serves, file_volume, held_code, out_of_service, unless_closed}

-- something is asked of a change, and of a kept reply; and nothing of other decisions
abbrev pub Decides : (Change → Type 0) → (Message → Type 0) → Decision → Type 0
Decides P R (saves head c) = P c
Decides P R (repeats reply) = R reply
Decides P R drops = ⊤
Decides P R (tells_boot head) = ⊤
Decides P R (refuses head code) = ⊤
Decides P R (shows head r) = ⊤

-- The change is of a volume as the server has it, with flags 0, and the operation makes it.
pub record IsOpenChange (s : ServerState) (c : Change) : Type 0 where
  pub found : get c.id s.lasting.volumes ≡ Some c.before
  pub flags : nat_eq c.before.volume.flags 0 ≡ true
  pub result : op c.id c.caller c.call c.before.volume ≡ changes c.edits c.shown

-- the reply is kept for the caller of a call
abbrev pub IsKeptReply : ServerState → Message → Type 0
IsKeptReply s reply = (head : Head) × (admitted s.lasting.boot s.seats head ≡ pairs.kept reply)

abbrev pub Chooses : ServerState → Decision → Type 0
Chooses s d = Decides (IsOpenChange s) (IsKeptReply s) d

either : (s : ServerState) (b : Bool) (d e : Decision) → Chooses s d → Chooses s e → Chooses s (cond b d e)
either s true d e h k = h
either s false d e h k = k

result_chooses : (s : ServerState) (clock : ℕ) (head : Head) (caller : Caller) (call : FsCall) (id : ℕ) (st : Stored) (r : operations.Result) → get id s.lasting.volumes ≡ Some st → nat_eq st.volume.flags 0 ≡ true → op id caller call st.volume ≡ r →
    Chooses s (decided s clock head caller call id st r)
result_chooses s clock head caller call id st (operations.refused code) there open' is = tt
result_chooses s clock head caller call id st (operations.reads shown) there open' is = tt
result_chooses s clock head caller call id st operations.no_operation there open' is = tt
result_chooses s clock head caller call id st (changes es n) there open' is =
    let c : Change = record { id = id; caller = caller; call = call; before = st; edits = es; shown = n } in
    either s (has_room (durable_of s.lasting) (record_of s.lasting.boot head clock c)) (saves head c) (refuses head no_room) (record { found = there; flags = open'; result = is }) tt

-- a volume out of service is closed, whoever holds it
closed_by : (s : ServerState) (head : Head) (b : Bool) (o : Option ℕ) (d : Decision) → (b ≡ true → Chooses s d) → Chooses s (unless_closed head (cond b o (Some out_of_service)) d)
closed_by s head true None d h = h refl
closed_by s head true (Some code) d h = tt
closed_by s head false o d h = tt

in_chooses : (holds : Table ℕ) (s : ServerState) (clock : ℕ) (head : Head) (caller : Caller) (call : FsCall) (id : ℕ) (o : Option Stored) → get id s.lasting.volumes ≡ o → Chooses s (file_in holds s clock head caller call id o)
in_chooses holds s clock head caller call id None there = tt
in_chooses holds s clock head caller call id (Some st) there =
    closed_by s head (nat_eq st.volume.flags 0) (held_code (get id holds)) _ (λ open'. result_chooses s clock head caller call id st (op id caller call st.volume) there open' refl)

with_chooses : (holds : Table ℕ) (s : ServerState) (clock : ℕ) (head : Head) (caller : Caller) (call : FsCall) (o : Option ℕ) → Chooses s (file_volume holds s clock head caller call o)
with_chooses holds s clock head caller call None = tt
with_chooses holds s clock head caller call (Some id) = in_chooses holds s clock head caller call id (get id s.lasting.volumes) refl

several_chooses : (s : ServerState) (head : Head) (caller : Caller) (o : Result (List Sight) ℕ) → Chooses s (several head caller o)
several_chooses s head caller (Err code) = tt
several_chooses s head caller (Ok xs) = tt

serves_chooses : (holds : Table ℕ) (s : ServerState) (clock : ℕ) (head : Head) (user : List ℕ) (call : FsCall) → Chooses s (file_serves holds s clock head user call)
serves_chooses holds s clock head user (calls.GiveUpCallBacks fids callbacks) = tt
serves_chooses holds s clock head user calls.GetTime = tt
serves_chooses holds s clock head user (calls.BulkStatus fids) = several_chooses s head (the_user user) _
serves_chooses holds s clock head user call = with_chooses holds s clock head (the_user user) call (volume_called call)

carried_chooses : (holds : Table ℕ) (s : ServerState) (clock : ℕ) (head : Head) (c : Carried) → Chooses s (file_carried holds s clock head c)
carried_chooses holds s clock head (carried.Call user (ask.File call)) = serves_chooses holds s clock head user call
carried_chooses holds s clock head (carried.Call user (ask.Volume call)) = tt
carried_chooses holds s clock head (carried.Call user (ask.Location call)) = tt
carried_chooses holds s clock head (carried.Refusal code) = tt
carried_chooses holds s clock head (carried.Reply reply) = tt
carried_chooses holds s clock head carried.Notice = tt

received_chooses : (holds : Table ℕ) (s : ServerState) (clock : ℕ) (head : Head) (r : Received) → Chooses s (file_received holds s clock head r)
received_chooses holds s clock head Nothing = tt
received_chooses holds s clock head (Unserved other) = tt
received_chooses holds s clock head (Unreadable other) = tt
received_chooses holds s clock head (Whole m) = carried_chooses holds s clock head m.carried

admits_chooses : (holds : Table ℕ) (s : ServerState) (clock : ℕ) (head : Head) (r : Received) (a : Admitted Message) → admitted s.lasting.boot s.seats head ≡ a → Chooses s (file_admits holds s clock head r a)
admits_chooses holds s clock head r pairs.runs is = either s (is_client head.from) (file_received holds s clock head r) (refuses head not_served) (received_chooses holds s clock head r) tt
admits_chooses holds s clock head r (pairs.kept reply) is = (head, is)
admits_chooses holds s clock head r pairs.in_progress is = tt
admits_chooses holds s clock head r pairs.older is = tt
admits_chooses holds s clock head r (pairs.wrong_boot boot) is = tt

called_chooses : (me : Node) (holds : Table ℕ) (s : ServerState) (clock : ℕ) (head : Head) (r : Received) → Chooses s (file_called me holds s clock head r)
called_chooses me holds s clock head r =
    either s (same_node head.to me) (file_admits holds s clock head r (admitted s.lasting.boot s.seats head)) drops (admits_chooses holds s clock head r (admitted s.lasting.boot s.seats head) refl) tt

hears_chooses : (me : Node) (holds : Table ℕ) (s : ServerState) (clock : ℕ) (head : Head) (c : Carried) → Chooses s (file_hears me holds s clock head c)
hears_chooses me holds s clock head (carried.Call user call) = called_chooses me holds s clock head (whole head (carried.Call user call))
hears_chooses me holds s clock head (carried.Refusal code) = tt
hears_chooses me holds s clock head (carried.Reply reply) = tt
hears_chooses me holds s clock head carried.Notice = tt

pub decided_open : (me : Node) (holds : Table ℕ) (s : ServerState) (clock : ℕ) (r : Received) → Chooses s (file_decides me holds s clock r)
decided_open me holds s clock Nothing = tt
decided_open me holds s clock (Unserved head) = called_chooses me holds s clock head (Unserved head)
decided_open me holds s clock (Unreadable head) = called_chooses me holds s clock head (Unreadable head)
decided_open me holds s clock (Whole m) = hears_chooses me holds s clock m.head m.carried
