-- What a file server decides to answer: a reply to the very call, in this boot; a refusal has a code other than 0, and what is read tells of no change.
use Rattle.std.proofs.Common.{◌≡◌, ℕ, ℤ, ◌+◌, Bool, true, false, cond, List, [], ◌∷◌, Option, Some, None, Result, Ok, Err, nat_eq, pos, refl, sym, ap, subst, ◌∙◌}
use Rattle.std.specs.Prelude.{⊤, is_some}
use Rattle.afs_num.specs.Nodes.{same_node}
use Rattle.afs_num.specs.declared.calls.FsCall.{FsCall}
use Rattle.afs_num.specs.declared.calls.FsCall.TheVariants as calls
use Rattle.afs_num.specs.declared.calls.FsReply.{FsReply}
use Rattle.afs_num.specs.declared.calls.FsReply.TheVariants as replies
use Rattle.afs_num.specs.declared.messages.Call.TheVariants as ask
use Rattle.afs_num.specs.declared.messages.Carried.{Carried}
use Rattle.afs_num.specs.declared.messages.Carried.TheVariants as carried
use Rattle.afs_num.specs.declared.messages.Message.{Message}
use Rattle.afs_num.specs.declared.messages.Received.TheVariants.{Whole}
use Rattle.afs_num.specs.declared.messages.Reply.TheVariants as tell
use Rattle.afs_num.specs.declared.types.Fid.{Fid}
use Rattle.afs_num.specs.declared.types.Head.{Head}
use Rattle.afs_num.specs.declared.types.Node.{Node}
use Rattle.spec_ideal.specs.Operations.{changes, no_operation, op, reads, refused, shows_acl, shows_body, shows_status, shows_volume, the_user, volume_called, volume_changed, Caller, Shown}
use Rattle.spec_ideal.specs.Operations as ideal
use Rattle.spec_ideal.specs.Tables.{get, Table}
use Rattle.spec_model.specs.Calls.{admitted, Admitted}
use Rattle.spec_model.specs.Calls as pairs
use Rattle.spec_model.specs.FsRows.{call_number, reply_number}
use Rattle.spec_records.specs.Durable.{has_room, time_in, Stored}
use Rattle.spec_shape.specs.Reading.{◌>>=◌}
use Rattle.spec_rows.specs.ServerRow.{carried_by, change_reply_to, decided, drops, is_client, no_room, not_served, promise_ticks, promised_in, reading_in, read_reply_to, record_of, refusal, refuses, repeats, reply_head, saves, several, shows, sight_by, stored_by, tells_boot, whole, Change, Decision, Reading, Sight}
use Rattle.spec_rows.specs.ServerRow as file
use Rattle.spec_rows.specs.States.{durable_of, Lasting, Seat, ServerState}
use Rattle.spec_volrows.specs.FileRow.{closed_code, file_admits, file_carried, file_hears, file_in, file_serves, file_sight, file_sights, file_volume, held_code, missing_code, sight_unless, unless_closed}
use Rattle.spec_volrows.specs.VolRow.{holds_of}
use Rattle.spec_volrows.specs.VolStates.{NodeState}
use Rattle.spec_volrows.specs.VolSteps.{node_file_decides}
use Rattle.law_keys.proofs.Deciding.{MayRun}
use Rattle.law_keys.proofs.FileSeats.{file_decides_so, Decides, OfHead, RunsBy}
use Rattle.law_legal.proofs.BaseLaws.{some_of}
use Rattle.law_legal.proofs.BaseWords.{is_passing}
use Rattle.law_legal.proofs.ServerTells.{made_well}
use Rattle.law_legal.proofs.VolumeOperations.{changes_is, op_code, reads_is, IsShown}
use Rattle.law_legal.specs.Legal.{IsKind}
use Rattle.law_legal.specs.Past.{IsCall}
use Rattle.law_replies.specs.Decided.{answer_decided}
use Rattle.law_replies.specs.Heard.{file_tells_change, is_change_told, IsAnswerOf, IsOfItsKind}

-- ---- what is asked of each decision, by what was asked

-- it isn't 0
abbrev IsRefusing : ℤ → Type 0
IsRefusing code = code ≡ pos 0 → ⊥

abbrev pub Fits : Carried → Decision → Type 0
Fits asked (refuses head code) = IsCall asked × IsRefusing code
Fits asked (shows head r) = IsCall asked × (IsOfItsKind r.reply asked × (file_tells_change r.reply ≡ false))
Fits asked (saves head c) = (user : List ℕ) × ((asked ≡ carried.Call user (ask.File c.call)) × (volume_changed c.call ≡ None → ⊥))
Fits asked drops = ⊤
Fits asked (tells_boot head) = ⊤
Fits asked (repeats reply) = ⊤

either_fits : (asked : Carried) (b : Bool) (x y : Decision) → Fits asked x → Fits asked y → Fits asked (cond b x y)
either_fits asked true x y h k = h
either_fits asked false x y h k = k

not_passing : (code : ℤ) → is_passing code ≡ false → IsRefusing code
not_passing code h is = let yes : is_passing code ≡ true = ap is_passing is in let no : true ≡ false = sym yes ∙ h in absurd cc

-- ---- codes of volumes that are closed or missing

abbrev CodeIs : Option ℕ → Type 0
CodeIs None = ⊤
CodeIs (Some code) = IsRefusing (pos code)

either_code : (b : Bool) (x y : Option ℕ) → CodeIs x → CodeIs y → CodeIs (cond b x y)
either_code true x y h k = h
either_code false x y h k = k

held_is : (o : Option ℕ) → CodeIs (held_code o)
held_is None = tt
held_is (Some hold) = either_code (nat_eq hold 1) _ _ (λ e. absurd cc) (λ e. absurd cc)

closed_is : (st : Stored) (hold : Option ℕ) → CodeIs (closed_code st hold)
closed_is st hold = either_code (nat_eq st.volume.flags 0) _ _ (held_is hold) (λ e. absurd cc)

missing_by : (b : Bool) → IsRefusing (pos (cond b 111 103))
missing_by true e = absurd cc
missing_by false e = absurd cc

missing_is : (l : Lasting) (id : ℕ) → IsRefusing (pos (missing_code l id))
missing_is l id = missing_by (is_some (get id l.forwardings))

-- ---- statuses of several fids

abbrev ResultIs : {A : Type 0} → Result A ℕ → Type 0
ResultIs {A} (Ok x) = ⊤
ResultIs {A} (Err code) = IsRefusing (pos code)

bind_is : {A B : Type 0} (r : Result A ℕ) (f : A → Result B ℕ) → ResultIs r → ((x : A) → ResultIs (f x)) → ResultIs (r >>= f)
bind_is {A} {B} (Ok x) f h k = k x
bind_is {A} {B} (Err code) f h k = h

sight_code : (caller : Caller) (f : Fid) (st : Stored) (r : ideal.Result) → op f.volume caller (calls.FetchStatus f) st.volume ≡ r → ResultIs (sight_by st r)
sight_code caller f st (refused code) is = not_passing (pos code) (op_code f.volume caller (calls.FetchStatus f) st.volume code refl is)
sight_code caller f st (reads (shows_body x)) is = λ e. absurd cc
sight_code caller f st (reads (shows_status x)) is = tt
sight_code caller f st (reads (shows_acl x)) is = λ e. absurd cc
sight_code caller f st (reads (ideal.shows_statuses xs)) is = λ e. absurd cc
sight_code caller f st (reads shows_volume) is = λ e. absurd cc
sight_code caller f st no_operation is = λ e. absurd cc
sight_code caller f st (changes es n) is = λ e. absurd cc

unless_code : (o : Option ℕ) (r : Result Sight ℕ) → CodeIs o → ResultIs r → ResultIs (sight_unless o r)
unless_code None r h k = k
unless_code (Some code) r h k = h

one_sight : (holds : Table ℕ) (l : Lasting) (caller : Caller) (f : Fid) (o : Option Stored) → ResultIs (file_sight holds l caller f o)
one_sight holds l caller f None = missing_is l f.volume
one_sight holds l caller f (Some st) = unless_code (closed_code st (get f.volume holds)) _ (closed_is st (get f.volume holds)) (sight_code caller f st (op f.volume caller (calls.FetchStatus f) st.volume) refl)

all_sights : (holds : Table ℕ) (l : Lasting) (caller : Caller) (fs : List Fid) → ResultIs (file_sights holds l caller fs)
all_sights holds l caller [] = tt
all_sights holds l caller (f ∷ fs) = bind_is (file_sight holds l caller f (get f.volume l.volumes)) _ (one_sight holds l caller f (get f.volume l.volumes)) (λ x. bind_is (file_sights holds l caller fs) _ (all_sights holds l caller fs) (λ xs. tt))

-- ---- what is read

shown_fits : (caller : Caller) (call : FsCall) (id : ℕ) (st : Stored) (shown : Shown) → IsShown call st.volume shown
    → (reply_number (reading_in id caller st shown).reply ≡ call_number call) × (file_tells_change (reading_in id caller st shown).reply ≡ false)
shown_fits caller (calls.FetchData g p w) id st (shows_body f) is = (refl, refl)
shown_fits caller (calls.FetchAcl g) id st (shows_acl f) is = (refl, refl)
shown_fits caller (calls.FetchStatus g) id st (shows_status f) is = (refl, refl)
shown_fits caller (calls.GetVolumeStatus k) id st shows_volume is = (refl, refl)
shown_fits caller call id st shown is = absurd is

-- ---- a call

module _ (holds : Table ℕ) (s : ServerState) (clock : ℕ) (head : Head) (user : List ℕ) (call : FsCall) where
  abbrev asked : Carried
  asked = carried.Call user (ask.File call)

  decided_fits : (id : ℕ) (st : Stored) (r : ideal.Result) → volume_called call ≡ Some id → op id (the_user user) call st.volume ≡ r → Fits asked (decided s clock head (the_user user) call id st r)
  decided_fits id st (refused code) of is = (tt, not_passing (pos code) (op_code id (the_user user) call st.volume code of is))
  decided_fits id st (reads shown) of is = (tt, shown_fits (the_user user) call id st shown (reads_is id (the_user user) call st.volume shown of is))
  decided_fits id st no_operation of is = (tt, λ e. absurd cc)
  decided_fits id st (changes es n) of is =
      either_fits asked (has_room (durable_of s.lasting) (record_of s.lasting.boot head clock (record { id = id; caller = the_user user; call = call; before = st; edits = es; shown = n }))) _ _
      (user, (refl, changes_is id (the_user user) call st.volume es n of is)) (tt, λ e. absurd cc)

  closed_fits : (o : Option ℕ) (d : Decision) → CodeIs o → Fits asked d → Fits asked (unless_closed head o d)
  closed_fits None d h k = k
  closed_fits (Some code) d h k = (tt, h)

  in_fits : (id : ℕ) (o : Option Stored) → volume_called call ≡ Some id → Fits asked (file_in holds s clock head (the_user user) call id o)
  in_fits id None of = (tt, missing_is s.lasting id)
  in_fits id (Some st) of = closed_fits (closed_code st (get id holds)) _ (closed_is st (get id holds)) (decided_fits id st (op id (the_user user) call st.volume) of refl)

  volume_fits : (o : Option ℕ) → volume_called call ≡ o → Fits asked (file_volume holds s clock head (the_user user) call o)
  volume_fits None of = (tt, λ e. absurd cc)
  volume_fits (Some id) of = in_fits id (get id s.lasting.volumes) of

several_fits : (head : Head) (user : List ℕ) (fids : List Fid) (r : Result (List Sight) ℕ) → ResultIs r → Fits (carried.Call user (ask.File (calls.BulkStatus fids))) (several head (the_user user) r)
several_fits head user fids (Ok xs) h = (tt, (refl, refl))
several_fits head user fids (Err code) h = (tt, h)

module _ (holds : Table ℕ) (s : ServerState) (clock : ℕ) (head : Head) where
  serves_fits : (user : List ℕ) (call : FsCall) → Fits (carried.Call user (ask.File call)) (file_serves holds s clock head user call)
  serves_fits user (calls.GiveUpCallBacks fids callbacks) = (tt, (refl, refl))
  serves_fits user calls.GetTime = (tt, (refl, refl))
  serves_fits user (calls.BulkStatus fids) = several_fits head user fids (file_sights holds s.lasting (the_user user) fids) (all_sights holds s.lasting (the_user user) fids)
  serves_fits user call = volume_fits holds s clock head user call (volume_called call) refl

  carried_fits : (c : Carried) → Fits c (file_carried holds s clock head c)
  carried_fits (carried.Call user (ask.File call)) = serves_fits user call
  carried_fits (carried.Call user (ask.Volume call)) = (tt, λ e. absurd cc)
  carried_fits (carried.Call user (ask.Location call)) = (tt, λ e. absurd cc)
  carried_fits (carried.Refusal code) = tt
  carried_fits (carried.Reply reply) = tt
  carried_fits carried.Notice = tt

  admits_fits : (c : Carried) (a : Admitted Message) → IsCall c → Fits c (file_admits holds s clock head (whole head c) a)
  admits_fits c pairs.runs k = either_fits c (is_client head.from) _ _ (carried_fits c) (k, λ e. absurd cc)
  admits_fits c (pairs.kept reply) k = tt
  admits_fits c pairs.in_progress k = tt
  admits_fits c pairs.older k = tt
  admits_fits c (pairs.wrong_boot boot) k = tt

  called_fits : (b : Bool) (c : Carried) → IsCall c → Fits c (cond b (file_admits holds s clock head (whole head c) (admitted s.lasting.boot s.seats head)) drops)
  called_fits true c k = admits_fits c (admitted s.lasting.boot s.seats head) k
  called_fits false c k = tt

  hears_fits : (me : Node) (c : Carried) → Fits c (file_hears me holds s clock head c)
  hears_fits me (carried.Call user call) = called_fits (same_node head.to me) (carried.Call user call) tt
  hears_fits me (carried.Refusal code) = tt
  hears_fits me (carried.Reply reply) = tt
  hears_fits me carried.Notice = tt

pub decided_fits_call : (me : Node) (s : NodeState) (clock : ℕ) (m : Message) → Fits m.carried (node_file_decides me s clock (Whole m))
decided_fits_call me s clock m = hears_fits (holds_of s.vol.transactions) s.file clock m.head me m.carried

-- ---- the reply

promised_number : (expiry : ℕ) (reply : FsReply) → reply_number (promised_in expiry reply) ≡ reply_number reply
promised_number expiry (replies.FetchData contents status callback sync) = refl
promised_number expiry (replies.FetchStatus status callback sync) = refl
promised_number expiry (replies.BulkStatus statuses callbacks sync) = refl
promised_number expiry (replies.CreateFile fid status directory callback sync) = refl
promised_number expiry (replies.MakeDir fid status directory callback sync) = refl
promised_number expiry reply = refl

promised_tells : (expiry : ℕ) (reply : FsReply) → file_tells_change (promised_in expiry reply) ≡ file_tells_change reply
promised_tells expiry (replies.FetchData contents status callback sync) = refl
promised_tells expiry (replies.FetchStatus status callback sync) = refl
promised_tells expiry (replies.BulkStatus statuses callbacks sync) = refl
promised_tells expiry (replies.CreateFile fid status directory callback sync) = refl
promised_tells expiry (replies.MakeDir fid status directory callback sync) = refl
promised_tells expiry reply = refl

promised_kind : (expiry : ℕ) (reply : FsReply) (asked : Carried) → IsOfItsKind reply asked → IsOfItsKind (promised_in expiry reply) asked
promised_kind expiry reply (carried.Call user (ask.File call)) h = promised_number expiry reply ∙ h
promised_kind expiry reply (carried.Call user (ask.Volume call)) h = absurd h
promised_kind expiry reply (carried.Call user (ask.Location call)) h = absurd h
promised_kind expiry reply (carried.Refusal code) h = absurd h
promised_kind expiry reply (carried.Reply r) h = absurd h
promised_kind expiry reply carried.Notice h = absurd h

law_kind : (user : List ℕ) (call : FsCall) (c : Carried) → IsKind call c → IsAnswerOf (carried.Call user (ask.File call)) c
law_kind user call (carried.Refusal code) h = h
law_kind user call (carried.Reply (tell.File reply)) h = h
law_kind user call (carried.Reply (tell.Volume reply)) h = absurd h
law_kind user call (carried.Reply (tell.Location reply)) h = absurd h
law_kind user call (carried.Call u c) h = absurd h
law_kind user call carried.Notice h = absurd h

-- it is one to this call, of this server in this boot
pub record IsItsAnswer (me : Node) (now : ℕ) (call reply : Message) : Type 0 where
  pub head : reply.head ≡ reply_head now call.head
  pub callee : call.head.to ≡ me
  pub boot : call.head.boot ≡ now
  pub is_call : IsCall call.carried
  pub kind : IsAnswerOf call.carried reply.carried

module _ (me : Node) (boot clock : ℕ) (seats : List Seat) (call reply : Message) where
  this_reply : (m : Message) (h : Head) → m ≡ reply → h ≡ call.head → m.head ≡ reply_head boot h → MayRun me boot seats call.head → IsCall call.carried → IsAnswerOf call.carried m.carried → IsItsAnswer me boot call reply
  this_reply m h is of head runs call' kind = record {
    head = ap (λ (x : Message). x.head) (sym is) ∙ (head ∙ ap (reply_head boot) of);
    callee = runs.0;
    boot = runs.1.0;
    is_call = call';
    kind = subst (λ (x : Message). IsAnswerOf call.carried x.carried) is kind;
  }

  saved_call : (c : Carried) (user : List ℕ) (f : FsCall) → c ≡ carried.Call user (ask.File f) → IsCall c
  saved_call c user f is = subst IsCall (sym is) tt

  saved_kind : (c : Change) (asked : Carried) → (user : List ℕ) × ((asked ≡ carried.Call user (ask.File c.call)) × (volume_changed c.call ≡ None → ⊥)) → (head : Head) → IsAnswerOf asked (change_reply_to boot head clock c).carried
  saved_kind c what h head =
      subst (λ (x : Carried). IsAnswerOf x (change_reply_to boot head clock c).carried) (sym h.1.0)
      (law_kind h.0 c.call (change_reply_to boot head clock c).carried (made_well c.call (clock + promise_ticks) c.id c.caller (time_in (stored_by clock c)) (file.result c) c.shown h.1.1).kind)

  pub its_answer : (d : Decision) → OfHead call.head d → RunsBy me boot seats call.head d → Fits call.carried d → answer_decided boot clock d ≡ Some reply → IsItsAnswer me boot call reply
  its_answer drops of runs fits is = absurd cc
  its_answer (tells_boot h) of runs fits is = absurd cc
  its_answer (repeats r) of runs fits is = absurd cc
  its_answer (refuses h code) of runs fits is = this_reply (refusal boot h code) h (some_of _ _ is) of refl runs fits.0 fits.1
  its_answer (shows h r) of runs fits is = this_reply (read_reply_to boot h (clock + promise_ticks) r) h (some_of _ _ is) of refl runs fits.0 (promised_kind (clock + promise_ticks) r.reply call.carried fits.1.0)
  its_answer (saves h c) of runs fits is = this_reply (change_reply_to boot h clock c) h (some_of _ _ is) of refl runs (saved_call call.carried fits.0 c.call fits.1.0) (saved_kind c call.carried fits h)

-- what is decided on a client's call is one to it
pub answers_it : (me : Node) (s : NodeState) (clock : ℕ) (call reply : Message) → answer_decided s.file.lasting.boot clock (node_file_decides me s clock (Whole call)) ≡ Some reply → IsItsAnswer me s.file.lasting.boot call reply
answers_it me s clock call reply is =
    let k : Decides me s.file call.head (node_file_decides me s clock (Whole call)) = file_decides_so me s clock call in
    its_answer me s.file.lasting.boot clock s.file.seats call reply (node_file_decides me s clock (Whole call)) k.of k.runs (decided_fits_call me s clock call) is

-- and only a change is told as one
pub shows_no_change : (boot expiry : ℕ) (head : Head) (r : Reading) → file_tells_change r.reply ≡ false → is_change_told (read_reply_to boot head expiry r).carried ≡ false
shows_no_change boot expiry head r is = promised_tells expiry r.reply ∙ is
