-- Which change a file server beside a volume server decides on: that of the call which it is given, as a client asks for it.
use Rattle.std.proofs.Common.{◌≡◌, ℕ, Bool, true, false, cond, List, Option, Some, None, Result, Ok, Err, refl, sym, ap, subst}
use Rattle.std.specs.Prelude.{⊤}
use Rattle.afs_num.specs.Nodes.{same_node}
use Rattle.afs_num.specs.declared.calls.FsCall.{FsCall}
use Rattle.afs_num.specs.declared.calls.FsCall.TheVariants as calls
use Rattle.afs_num.specs.declared.messages.Call.TheVariants as ask
use Rattle.afs_num.specs.declared.messages.Carried.{Carried}
use Rattle.afs_num.specs.declared.messages.Carried.TheVariants as carried
use Rattle.afs_num.specs.declared.messages.Message.{Message}
use Rattle.afs_num.specs.declared.messages.Received.TheVariants.{Whole}
use Rattle.afs_num.specs.declared.types.Head.{Head}
use Rattle.afs_num.specs.declared.types.Node.{Node}
use Rattle.spec_ideal.specs.Operations as operations
use Rattle.spec_ideal.specs.Operations.{changes, op, the_user, volume_called, Caller}
use Rattle.spec_ideal.specs.Tables.{get, Table}
use Rattle.spec_model.specs.Calls as pairs
use Rattle.spec_model.specs.Calls.{admitted, Admitted}
use Rattle.spec_records.specs.Durable.{has_room, Stored}
use Rattle.spec_rows.specs.ServerRow.{decided, drops, is_client, no_room, not_served, record_of, refuses, repeats, saves, several, shows, tells_boot, whole, Change, Decision, Sight}
use Rattle.spec_rows.specs.States.{durable_of, ServerState}
use Rattle.spec_volrows.specs.FileRow.{closed_code, file_admits, file_called, file_carried, file_decides, file_hears, file_in, file_serves, file_volume, unless_closed}

-- something is asked of the change that is saved, if one is
abbrev pub OfSave : (Head → Change → Type 0) → Decision → Type 0
OfSave P (saves head x) = P head x
OfSave P drops = ⊤
OfSave P (tells_boot head) = ⊤
OfSave P (repeats reply) = ⊤
OfSave P (refuses head code) = ⊤
OfSave P (shows head r) = ⊤

-- The message with this header, which carries this, is a client's call to the server, and the change is what it asks for.
pub record IsAsked (me : Node) (head : Head) (c : Carried) (h : Head) (x : Change) : Type 0 where
  pub own : h ≡ head
  pub to : same_node head.to me ≡ true
  pub client : is_client head.from ≡ true
  pub user : List ℕ
  pub carries : c ≡ carried.Call user (ask.File x.call)
  pub caller : x.caller ≡ the_user user
  pub of_volume : volume_called x.call ≡ Some x.id

either : (P : Head → Change → Type 0) (b : Bool) (d e : Decision) → (b ≡ true → OfSave P d) → OfSave P e → OfSave P (cond b d e)
either P true d e h k = h refl
either P false d e h k = k

module _ (s : ServerState) (clock : ℕ) (head : Head) (caller : Caller) (call : FsCall) where
  -- the change is of the volume that the call is on
  abbrev OnCall : Head → Change → Type 0
  OnCall h x = (h ≡ head) × ((x.caller ≡ caller) × ((x.call ≡ call) × (volume_called call ≡ Some x.id)))

  result_asked : (id : ℕ) (st : Stored) (r : operations.Result) → volume_called call ≡ Some id → OfSave OnCall (decided s clock head caller call id st r)
  result_asked id st (operations.refused code) on = tt
  result_asked id st (operations.reads shown) on = tt
  result_asked id st operations.no_operation on = tt
  result_asked id st (changes es n) on =
      let x : Change = record { id = id; caller = caller; call = call; before = st; edits = es; shown = n } in
      either OnCall (has_room (durable_of s.lasting) (record_of s.lasting.boot head clock x)) (saves head x) (refuses head no_room) (λ room. (refl, (refl, (refl, on)))) tt

  closed_asked : (o : Option ℕ) (d : Decision) → OfSave OnCall d → OfSave OnCall (unless_closed head o d)
  closed_asked None d h = h
  closed_asked (Some code) d h = tt

  in_asked : (holds : Table ℕ) (id : ℕ) (o : Option Stored) → volume_called call ≡ Some id → OfSave OnCall (file_in holds s clock head caller call id o)
  in_asked holds id None on = tt
  in_asked holds id (Some st) on = closed_asked (closed_code st (get id holds)) _ (result_asked id st (op id caller call st.volume) on)

  volume_asked : (holds : Table ℕ) (o : Option ℕ) → volume_called call ≡ o → OfSave OnCall (file_volume holds s clock head caller call o)
  volume_asked holds None on = tt
  volume_asked holds (Some id) on = in_asked holds id (get id s.lasting.volumes) on

several_asked : (P : Head → Change → Type 0) (head : Head) (caller : Caller) (o : Result (List Sight) ℕ) → OfSave P (several head caller o)
several_asked P head caller (Err code) = tt
several_asked P head caller (Ok xs) = tt

serves_asked : (holds : Table ℕ) (s : ServerState) (clock : ℕ) (head : Head) (user : List ℕ) (call : FsCall) → OfSave (OnCall s clock head (the_user user) call) (file_serves holds s clock head user call)
serves_asked holds s clock head user (calls.GiveUpCallBacks fids callbacks) = tt
serves_asked holds s clock head user calls.GetTime = tt
serves_asked holds s clock head user (calls.BulkStatus fids) = several_asked _ head (the_user user) _
serves_asked holds s clock head user call = volume_asked s clock head (the_user user) call holds (volume_called call) refl

-- ---- the message

every : (P Q : Head → Change → Type 0) (d : Decision) → ((h : Head) (x : Change) → P h x → Q h x) → OfSave P d → OfSave Q d
every P Q (saves head x) w h = w head x h
every P Q drops w h = tt
every P Q (tells_boot head) w h = tt
every P Q (repeats reply) w h = tt
every P Q (refuses head code) w h = tt
every P Q (shows head r) w h = tt

module _ (me : Node) (holds : Table ℕ) (s : ServerState) (clock : ℕ) (head : Head) where
  carried_asked : (c : Carried) → same_node head.to me ≡ true → is_client head.from ≡ true → OfSave (IsAsked me head c) (file_carried holds s clock head c)
  carried_asked (carried.Call user (ask.File call)) to client =
      every (OnCall s clock head (the_user user) call) (IsAsked me head (carried.Call user (ask.File call))) (file_serves holds s clock head user call)
      (λ h x k. record {
        own = k.0;
        to = to;
        client = client;
        user = user;
        carries = ap (λ (y : FsCall). carried.Call user (ask.File y)) (sym k.1.1.0);
        caller = k.1.0;
        of_volume = subst (λ (y : FsCall). volume_called y ≡ Some x.id) (sym k.1.1.0) k.1.1.1;
      }) (serves_asked holds s clock head user call)
  carried_asked (carried.Call user (ask.Volume call)) to client = tt
  carried_asked (carried.Call user (ask.Location call)) to client = tt
  carried_asked (carried.Refusal code) to client = tt
  carried_asked (carried.Reply reply) to client = tt
  carried_asked carried.Notice to client = tt

  admits_asked : (c : Carried) (a : Admitted Message) → same_node head.to me ≡ true → OfSave (IsAsked me head c) (file_admits holds s clock head (whole head c) a)
  admits_asked c pairs.runs to = either _ (is_client head.from) (file_carried holds s clock head c) (refuses head not_served) (λ client. carried_asked c to client) tt
  admits_asked c (pairs.kept reply) to = tt
  admits_asked c pairs.in_progress to = tt
  admits_asked c pairs.older to = tt
  admits_asked c (pairs.wrong_boot boot) to = tt

  called_asked : (c : Carried) → OfSave (IsAsked me head c) (file_called me holds s clock head (whole head c))
  called_asked c = either _ (same_node head.to me) (file_admits holds s clock head (whole head c) (admitted s.lasting.boot s.seats head)) drops (λ to. admits_asked c (admitted s.lasting.boot s.seats head) to) tt

  hears_asked : (c : Carried) → OfSave (IsAsked me head c) (file_hears me holds s clock head c)
  hears_asked (carried.Call user call) = called_asked (carried.Call user call)
  hears_asked (carried.Refusal code) = tt
  hears_asked (carried.Reply reply) = tt
  hears_asked carried.Notice = tt

pub decided_asked : (me : Node) (holds : Table ℕ) (s : ServerState) (clock : ℕ) (m : Message) → OfSave (IsAsked me m.head m.carried) (file_decides me holds s clock (Whole m))
decided_asked me holds s clock m = hears_asked me holds s clock m.head m.carried
