-- What each reply of a server to a client tells: what the ideal operation makes of the call that its entry was given.
use Rattle.spec_history.specs.declared.lines.Line.{Line}
use Rattle.spec_history.specs.declared.lines.Line.TheVariants as lines
use Rattle.spec_history.specs.declared.scripts.Script.{Script}
use Rattle.spec_ideal.specs.Operations.{Caller, Found, Result, changes, the_user, volume_changed}
use Rattle.spec_ideal.specs.Replies.{change_reply}
use Rattle.spec_ideal.specs.Volumes.{Volume}
use Rattle.law_legal.proofs.BaseLaws.{IfCall, each_map, runs_admitted}
use Rattle.law_legal.proofs.ServerChooses.{granted_from, is_from}
use Rattle.law_legal.proofs.ServerStepsCut.{comes_first, now_up}
use Rattle.law_legal.proofs.BaseWords.{is_passing}
use Rattle.law_legal.proofs.ServerHears.{ran_later}
use Rattle.law_legal.proofs.ClientCallsByTable.{IsHome, home_held}
use Rattle.law_legal.proofs.ServerKeepsKeys.{does_given}
use Rattle.law_legal.proofs.VolumesAreIdeal.{AreBlank, Held, blank_by, from_blank, of_this}
use Rattle.law_legal.proofs.CallKeysOnce.{admitted_latest}
use Rattle.law_legal.proofs.VolumeOperations.{changes_is}
use Rattle.law_legal.proofs.KeptPasses.{no_change}
use Rattle.law_legal.proofs.PromisesAreGood.{are_ideal, reading_code}
use Rattle.law_legal.proofs.ServerReasons.{AreAmong, IsMaking, IsNo, IsRead, IsReading, Runs, answer_of, answers_after, answers_in, answers_same, held_by, read_to}
use Rattle.law_legal.proofs.ServerReplies.{Replies, Spares}
use Rattle.law_legal.proofs.ServerFinds.{IsAmong}
use Rattle.law_legal.specs.Breaks.{HasStopped}
use Rattle.law_legal.specs.Ideal.{change_in, change_key, volume_after}
use Rattle.law_legal.specs.Legal.{HasChange, IsChanging, IsKey, IsResult, ChangeIsTold as IsToldOf, ideal_answer, code_given}
use Rattle.law_legal.specs.Legal.{IsKind}
use Rattle.law_legal.specs.Past.{IsLatest, HasCode, IsCall, IsFirstOfItsBoot, Ran, answered_key, called_key, code_told, given_message, lines_of, onto, sent_of, server_boot}
use Rattle.spec_model.specs.Calls as pairs
use Rattle.spec_model.specs.Calls.{admitted, key_of}
use Rattle.spec_model.specs.FsRows.{call_number, reply_number}
use Rattle.afs_num.specs.declared.calls.FsCall.{FsCall}
use Rattle.afs_num.specs.declared.calls.FsCall.TheVariants as calls
use Rattle.afs_num.specs.declared.histories.Actor.TheVariants as actors
use Rattle.afs_num.specs.declared.histories.Version.{Version}
use Rattle.afs_num.specs.declared.messages.Call.TheVariants as ask
use Rattle.afs_num.specs.declared.messages.Carried.{Carried}
use Rattle.afs_num.specs.declared.messages.Carried.TheVariants as carried
use Rattle.afs_num.specs.declared.messages.Message.{Message}
use Rattle.afs_num.specs.declared.messages.Reply.TheVariants as tell
use Rattle.afs_num.specs.declared.types.Fid.{Fid}
use Rattle.afs_num.specs.declared.types.Head.{Head}
use Rattle.afs_num.specs.declared.types.Key.{Key}
use Rattle.afs_num.specs.declared.types.Node.{Node}
use Rattle.afs_num.specs.declared.types.Node.TheVariants.{Client, Server}
use Rattle.spec_rows.specs.Callbacks.{expired, replies_of, turn_for, turned_by}
use Rattle.spec_rows.specs.Runs.{Cell, Entry, message_at}
use Rattle.spec_rows.specs.ServerRow.{Change, Decision, Reading, carried_by, change_reply_to, does, granted, granted_in, versions_made, promise_ticks, promised_in, read_reply_to, refusal, reply_head, result, stored_by, versioned}
use Rattle.spec_rows.specs.States.{ServerState}
use Rattle.spec_records.specs.Durable.{time_in}
use Rattle.std.proofs.Common.{◌≡◌, ℕ, ◌+◌, ℤ, pos, ◌⊎◌, inl, inr, true, false, length, List, [], ◌∷◌, ◌++◌, Option, Some, None, refl, sym, ap, subst, ◌∙◌}
use Rattle.std.specs.Prelude.{⊤}

-- ---- what a reply tells

-- a promise stands among the lines
pub record HasGrant (server c : Node) (f : Fid) (index expiry : ℕ) (ls : List Line) : Type 0 where
  pub before : List Line
  pub after : List Line
  pub split : ls ≡ before ++ lines.Grant server c f index expiry ∷ after

-- all of these were promised
abbrev pub AreGranted : Head → ℕ → List Found → List Line → Type 0
AreGranted head expiry fs ls = (f : Found) → IsAmong f fs → HasGrant head.from head.to f.fid f.vnode.index expiry ls

-- what was read, of the ideal volumes; the entry tells no version and no stop
pub record TellsRead (V : ℕ → Option Volume) (user : List ℕ) (call : FsCall) (m : Message) (ls : List Line) : Type 0 where
  pub reading : Reading
  pub expiry : ℕ
  pub is : m.carried ≡ carried.Reply (tell.File (promised_in expiry reading.reply))
  pub read : IsReading V user call reading
  pub granted : AreGranted m.head expiry reading.granted ls
  pub blank : AreBlank ls
  pub going : HasStopped m.head.from ls → ⊥

-- the entry that tells the change of this key, and the ideal volume there
pub record HasMade (k : Key) (change : Change) (past : List Entry) : Type 0 where
  pub newer : List Entry
  pub at : Entry
  pub older : List Entry
  pub split : past ≡ newer ++ (at ∷ older)
  pub key : change_key at.lines ≡ Some k
  pub volume : volume_after change.id older ≡ Some change.before.volume

-- what was changed, of the ideal volumes; where a restart made it no promises were made
pub record TellsMade (V : ℕ → Option Volume) (user : List ℕ) (call : FsCall) (m : Message) (ls : List Line) (past : List Entry) : Type 0 where
  pub change : Change
  pub clock : ℕ
  pub is : m.carried ≡ carried_by (clock + promise_ticks) (change_reply change.id change.caller (time_in (stored_by clock change)) (result change) change.shown change.call)
  pub making : IsMaking V user call change
  pub granted : AreGranted m.head (clock + promise_ticks) (granted_in change) ls ⊎ HasStopped m.head.from ls
  pub here : HasMade (answered_key m.head) change past

abbrev pub IsRefused : Carried → Type 0
IsRefused (carried.Refusal code) = ⊤
IsRefused c = ⊥

-- a refusal: no change of its key was told up to its entry
pub record TellsNo (m : Message) (past : List Entry) : Type 0 where
  pub refused : IsRefused m.carried
  pub first : HasChange (answered_key m.head) (lines_of past) → ⊥

pub record Tells (m : Message) (past : List Entry) : Type 0 where
  pub ran : Ran m.head past
  pub user : List ℕ
  pub call : FsCall
  pub carries : ran.message.carried ≡ carried.Call user (ask.File call)
  pub code : ℤ
  pub told : code_told m.carried ≡ Some code
  pub result : IsResult m.head.from code (ideal_answer user call ran.older) (answered_key m.head) ran.at.lines (lines_of past)
  pub kind : IsKind call m.carried
  pub says : TellsNo m (ran.at ∷ ran.older) ⊎ (TellsRead (λ id. volume_after id ran.older) user call m ran.at.lines ⊎ TellsMade (λ id. volume_after id ran.older) user call m ran.at.lines past)

-- a reply of a server to a client
abbrev pub IsTold : List Entry → Message → Type 0
IsTold past m = (i j : ℕ) → m.head.from ≡ Server i → m.head.to ≡ Client j → HasCode m.carried → Tells m past

-- ---- an entry more

pub key_more : (k : Key) (o : Option Key) (X : Type 0) → X → IsKey k o X
key_more k None X h = h
key_more k (Some l) X h = inr h

pub change_later : (k : Key) (ls o : List Line) → HasChange k o → HasChange k (onto o ls)
change_later k [] o h = h
change_later k (l ∷ ls) o h = change_later k ls (l ∷ o) (key_more k (change_in l) (HasChange k o) h)

told_later : (k : Key) (r : Option Result) (ls o : List Line) → IsToldOf k r o → IsToldOf k r (onto o ls)
told_later k (Some (changes es shown)) ls o h = change_later k ls o h
told_later k r ls o h = tt

result_later : (server : Node) (code : ℤ) (r : Option Result) (k : Key) (ran ls o : List Line) → IsResult server code r k ran o → IsResult server code r k ran (onto o ls)
result_later server code r k ran ls o (inl h) = inl (h.0, told_later k r ls o h.1)
result_later server code r k ran ls o (inr h) = inr h

made_later : (e : Entry) (past : List Entry) (V : ℕ → Option Volume) (user : List ℕ) (call : FsCall) (m : Message) (ls : List Line) → TellsMade V user call m ls past → TellsMade V user call m ls (e ∷ past)
made_later e past V user call m ls h = record {
  change = h.change;
  clock = h.clock;
  is = h.is;
  making = h.making;
  granted = h.granted;
  here = record { newer = e ∷ h.here.newer; at = h.here.at; older = h.here.older; split = ap (λ (es : List Entry). e ∷ es) h.here.split; key = h.here.key; volume = h.here.volume };
}

pub tells_later : (e : Entry) (past : List Entry) (m : Message) → IsTold past m → IsTold (e ∷ past) m
tells_later e past m w i j from to code =
    let t : Tells m past = w i j from to code in
    record {
      ran = ran_later e past m.head t.ran;
      user = t.user;
      call = t.call;
      carries = t.carries;
      code = t.code;
      told = t.told;
      result = result_later m.head.from t.code (ideal_answer t.user t.call t.ran.older) (answered_key m.head) t.ran.at.lines e.lines (lines_of past) t.result;
      kind = t.kind;
      says = elim t.says [
        | inl y ↦ inl y
        | inr y ↦ elim y [
          | inl z ↦ inr (inl z)
          | inr z ↦ inr (inr (made_later e past (λ id. volume_after id t.ran.older) t.user t.call m t.ran.at.lines z))
        ]
      ];
    }

pub replies_later : (e : Entry) (past : List Entry) (x : ServerState) → Replies (IsTold past) x → Replies (IsTold (e ∷ past)) x
replies_later e past x h = record {
  seats = λ n seat m at r. tells_later e past m (h.seats n seat m at r);
  kept = λ n seat m at r. tells_later e past m (h.kept n seat m at r);
  held = each_map (IsTold past) (IsTold (e ∷ past)) (tells_later e past) (replies_of x.backs.held) h.held;
}

pub spares : (past : List Entry) → Spares (IsTold past)
spares past m none i j from to code = absurd (none code)

-- ---- the entry that runs a call

told_still : (k : Key) (o : Option Result) (ls : List Line) → (IsChanging o → ⊥) → IsToldOf k o ls
told_still k (Some (changes es shown)) ls no_change = absurd (no_change tt)
told_still k o ls no_change = tt

-- a reading reply is of its call's kind
read_kind : (V : ℕ → Option Volume) (call : FsCall) (r : Reading) (expiry : ℕ) → IsRead V call r → reply_number (promised_in expiry r.reply) ≡ call_number call
read_kind V (calls.FetchData g p w) r expiry h = subst (λ (y : Reading). reply_number (promised_in expiry y.reply) ≡ call_number (calls.FetchData g p w)) (sym h.is) refl
read_kind V (calls.FetchAcl g) r expiry h = subst (λ (y : Reading). reply_number (promised_in expiry y.reply) ≡ call_number (calls.FetchAcl g)) (sym h.look.is) refl
read_kind V (calls.FetchStatus g) r expiry h = subst (λ (y : Reading). reply_number (promised_in expiry y.reply) ≡ call_number (calls.FetchStatus g)) (sym h.is) refl
read_kind V (calls.GetVolumeStatus k) r expiry h = subst (λ (y : Reading). reply_number (promised_in expiry y.reply) ≡ call_number (calls.GetVolumeStatus k)) (sym h.is) refl
read_kind V (calls.GiveUpCallBacks fids callbacks) r expiry h = subst (λ (y : Reading). reply_number (promised_in expiry y.reply) ≡ call_number (calls.GiveUpCallBacks fids callbacks)) (sym h) refl
read_kind V calls.GetTime r expiry h = subst (λ (y : Reading). reply_number (promised_in expiry y.reply) ≡ call_number calls.GetTime) (sym h.is) refl
read_kind V (calls.BulkStatus fids) r expiry h = subst (λ (y : Reading). reply_number (promised_in expiry y.reply) ≡ call_number (calls.BulkStatus fids)) (sym h.is) refl
read_kind V call r expiry h = absurd h

-- what a change is answered has code 0, and is of its call's kind
pub record IsWell (call : FsCall) (c : Carried) : Type 0 where
  pub told : code_told c ≡ Some (pos 0)
  pub kind : IsKind call c

pub made_well : (call : FsCall) (expiry id : ℕ) (caller : Caller) (times : Fid → ℕ) (v : Volume) (n : ℕ) → (volume_changed call ≡ None → ⊥) → IsWell call (carried_by expiry (change_reply id caller times v n call))
made_well (calls.StoreData f st p w l b) expiry id caller times v n some = record { told = refl; kind = refl }
made_well (calls.StoreAcl f acl) expiry id caller times v n some = record { told = refl; kind = refl }
made_well (calls.StoreStatus f st) expiry id caller times v n some = record { told = refl; kind = refl }
made_well (calls.RemoveFile d name) expiry id caller times v n some = record { told = refl; kind = refl }
made_well (calls.CreateFile d name st) expiry id caller times v n some = record { told = refl; kind = refl }
made_well (calls.Rename d old e new) expiry id caller times v n some = record { told = refl; kind = refl }
made_well (calls.Symlink d name target st) expiry id caller times v n some = record { told = refl; kind = refl }
made_well (calls.Link d name f) expiry id caller times v n some = record { told = refl; kind = refl }
made_well (calls.MakeDir d name st) expiry id caller times v n some = record { told = refl; kind = refl }
made_well (calls.RemoveDir d name) expiry id caller times v n some = record { told = refl; kind = refl }
made_well call expiry id caller times v n some = absurd (some refl)

pub change_here : (k : Key) (me : Node) (n : ℕ) (front rest o : List Line) → HasChange k (onto o (front ++ lines.Change me k n ∷ rest))
change_here k me n [] rest o = change_later k rest (lines.Change me k n ∷ o) (inl refl)
change_here k me n (l ∷ front) rest o = change_here k me n front rest (l ∷ o)

pub grant_more : (server c : Node) (f : Fid) (index expiry : ℕ) (l : Line) (ls : List Line) → HasGrant server c f index expiry ls → HasGrant server c f index expiry (l ∷ ls)
grant_more server c f index expiry l ls h = record { before = l ∷ h.before; after = h.after; split = ap (λ (x : List Line). l ∷ x) h.split }

pub has_granted : (server c : Node) (x : ℕ) (fs : List Found) (tail : List Line) (f : Found) → IsAmong f fs → HasGrant server c f.fid f.vnode.index x (granted server c x fs tail)
has_granted server c x [] tail f z = absurd z
has_granted server c x (g ∷ fs) tail f (inl e) = subst (λ (y : Found). HasGrant server c y.fid y.vnode.index x (granted server c x (g ∷ fs) tail)) e (record { before = []; after = granted server c x fs tail; split = refl })
has_granted server c x (g ∷ fs) tail f (inr z) = grant_more server c f.fid f.vnode.index x (lines.Grant server c g.fid g.vnode.index x) (granted server c x fs tail) (has_granted server c x fs tail f z)

pub grant_behind : (server c : Node) (f : Fid) (index expiry : ℕ) (vs : List Version) (ls : List Line) → HasGrant server c f index expiry ls → HasGrant server c f index expiry (versioned vs ls)
grant_behind server c f index expiry [] ls h = h
grant_behind server c f index expiry (v ∷ vs) ls h = grant_more server c f index expiry (lines.Version v) (versioned vs ls) (grant_behind server c f index expiry vs ls h)

-- where a call ran: here or in the entry that was interrupted
pub record Place (i : ℕ) (x : ServerState) (m : Message) (past : List Entry) : Type 0 where
  pub newer : List Entry
  pub at : Entry
  pub older : List Entry
  pub split : past ≡ newer ++ (at ∷ older)
  pub actor : at.actor ≡ actors.Node (Server i)
  pub given : given_message at.lines (sent_of older) ≡ Some m
  pub up : server_boot (Server i) (lines_of older) ≡ Some x.lasting.boot
  pub first : (j : ℕ) → m.head.from ≡ Client j → admitted x.lasting.boot x.seats m.head ≡ pairs.runs → IsFirstOfItsBoot (Server i) (called_key m.head) x.lasting.boot older
  pub latest : admitted x.lasting.boot x.seats m.head ≡ pairs.runs → IsLatest (Server i) (called_key m.head) (lines_of older)
  pub ideal : AreAmong (held_by x) (λ id. volume_after id older)

abbrev ran_at : (i j : ℕ) (x : ServerState) (m : Message) (past : List Entry) → Place i x m past → Runs (Server i) x m j → Ran (reply_head x.lasting.boot m.head) past
ran_at i j x m past p r = record {
  newer = p.newer;
  at = p.at;
  older = p.older;
  split = p.split;
  message = m;
  given = p.given;
  is_call = subst IsCall (sym r.carries) tt;
  key = refl;
  opcode = refl;
  boot = (runs_admitted x.lasting.boot x.seats m.head r.runs).0;
  up = subst (λ (q : Node). server_boot q (lines_of p.older) ≡ Some x.lasting.boot) (sym r.to) p.up;
  callee = refl;
  node = p.actor ∙ ap actors.Node (sym r.to);
  first = subst (λ (q : Node). IsFirstOfItsBoot q (called_key m.head) x.lasting.boot p.older) (sym r.to) (p.first j r.from r.runs);
  latest = subst (λ (q : Node). IsLatest q (called_key m.head) (lines_of p.older)) (sym r.to) (p.latest r.runs);
}

-- a change
pub saves_told : (i j : ℕ) (x : ServerState) (m : Message) (past : List Entry) (clock : ℕ) (ch : Change) (front rest : List Line) (o : List Line) → (p : Place i x m past) → (r : Runs (Server i) x m j) → IsMaking (held_by x) r.user r.call ch
    → lines_of past ≡ onto o (front ++ lines.Change (Server i) (key_of m.head) (length (versions_made ch)) ∷ rest)
    → AreGranted (reply_head x.lasting.boot m.head) (clock + promise_ticks) (granted_in ch) p.at.lines ⊎ HasStopped (Server i) p.at.lines → HasMade (key_of m.head) ch past → Tells (change_reply_to x.lasting.boot m.head clock ch) past
saves_told i j x m past clock ch front rest o p r k ls g here =
    let V : ℕ → Option Volume = λ id. volume_after id p.older in
    let at : V ch.id ≡ Some ch.before.volume = p.ideal ch.id ch.before.volume k.at in
    let answer : ideal_answer r.user r.call p.older ≡ Some (changes ch.edits ch.shown) = sym (answers_after p.older r.user r.call) ∙ (answer_of V r.user r.call ch.id (Some ch.before.volume) k.of_volume at ∙ ap Some k.result) in
    let some : volume_changed r.call ≡ None → ⊥ = changes_is ch.id (the_user r.user) r.call ch.before.volume ch.edits ch.shown k.of_volume k.result in
    let well : IsWell r.call (change_reply_to x.lasting.boot m.head clock ch).carried = subst (λ (y : FsCall). IsWell r.call (carried_by (clock + promise_ticks) (change_reply ch.id ch.caller (time_in (stored_by clock ch)) (result ch) ch.shown y))) (sym k.called)
    (made_well r.call (clock + promise_ticks) ch.id ch.caller (time_in (stored_by clock ch)) (result ch) ch.shown some) in
    record {
      ran = ran_at i j x m past p r;
      user = r.user;
      call = r.call;
      carries = r.carries;
      code = pos 0;
      told = well.told;
      result = inl (ap code_given answer, subst (λ (y : Option Result). IsToldOf (key_of m.head) y (lines_of past)) (sym answer) (subst (HasChange (key_of m.head)) (sym ls) (change_here (key_of m.head) (Server i) (length (versions_made ch)) front rest o)));
      kind = well.kind;
      says = inr (inr (record {
        change = ch;
        clock = clock;
        is = refl;
        making = record { of_volume = k.of_volume; at = at; result = k.result; caller = k.caller; called = k.called };
        granted = elim g [ inl y ↦ inl y | inr y ↦ inr (subst (λ (q : Node). HasStopped q p.at.lines) (sym r.to) y) ];
        here = here;
      }));
    }

-- the entry that serves a message
abbrev pub served_lines : Node → ServerState → ℕ → ℕ → Message → Decision → List Line
served_lines me x clock place m d = (does me x clock place d (turned_by me x clock (expired clock x.backs) d m.head m.carried).lines).lines

pub turn_lines : (me : Node) (x : ServerState) (clock : ℕ) (d : Decision) (m : Message) (user : List ℕ) (call : FsCall) → m.carried ≡ carried.Call user (ask.File call) → (turned_by me x clock (expired clock x.backs) d m.head m.carried).lines ≡ (turn_for me x clock (expired clock x.backs) d).lines
turn_lines me x clock d m user call is = ap (λ (c : Carried). (turned_by me x clock (expired clock x.backs) d m.head c).lines) is

abbrev pub place_here : (s : Script) (c : Cell) (past : List Entry) (e : Entry) (i place : ℕ) (m : Message) (d : Decision) → Held s c past → (c.hosts i).down ≡ None → message_at c.sent place ≡ Some m → e.actor ≡ actors.Node (Server i) → e.lines ≡ served_lines (Server i) (c.hosts i).state c.clock place m d → Place i (c.hosts i).state m (e ∷ past)
place_here s c past e i place m d h up at actor ls = record {
  newer = [];
  at = e;
  older = past;
  split = refl;
  actor = actor;
  given = ap (λ (l : List Line). given_message l (sent_of past)) ls ∙ (does_given (Server i) (c.hosts i).state c.clock place d (turned_by (Server i) (c.hosts i).state c.clock (expired c.clock (c.hosts i).state.backs) d m.head m.carried).lines (sent_of past) ∙ (ap (λ (ms : List Message). message_at ms place) h.0.0.hears.told ∙ at));
  up = now_up c past i h.0.0.hears up;
  first = λ j from runs. comes_first c past i m j h.0.0.hears up from runs;
  latest = λ runs. admitted_latest c (lines_of past) i m.head h.0.0.keys runs;
  ideal = are_ideal s c past i h;
}

-- the server's volumes are the ideal ones that the call asks
pub asked_same : (s : Script) (c : Cell) (past : List Entry) (i j : ℕ) (m : Message) → Held s c past → IfCall (IsHome s) m → (r : Runs (Server i) (c.hosts i).state m j) → answers_in (held_by (c.hosts i).state) r.user r.call ≡ ideal_answer r.user r.call past
asked_same s c past i j m h home r =
    let w : IsHome s m.head r.user r.call = of_this (IsHome s) j m.head m.carried r.user r.call r.from r.carries home in
    answers_same (held_by (c.hosts i).state) (λ id. volume_after id past) r.user r.call (λ id a. home_held s c past i id h (sym r.to ∙ w id a)) ∙ answers_after past r.user r.call

-- a refusal
pub refused_told : (s : Script) (c : Cell) (past : List Entry) (e : Entry) (i j place : ℕ) (m : Message) (code : ℤ) → Held s c past → (p : Place i (c.hosts i).state m (e ∷ past)) → p.older ≡ past → p.at ≡ e → (r : Runs (Server i) (c.hosts i).state m j) → IsNo (held_by (c.hosts i).state) r.user r.call code
    → answers_in (held_by (c.hosts i).state) r.user r.call ≡ ideal_answer r.user r.call past → e.lines ≡ lines.Given place ∷ [] → (HasChange (key_of m.head) (lines_of past) → ⊥) → Tells (refusal (c.hosts i).state.lasting.boot m.head code) (e ∷ past)
refused_told s c past e i j place m code h p older at r n same ls fresh =
    let answer : answers_in (held_by (c.hosts i).state) r.user r.call ≡ ideal_answer r.user r.call p.older = same ∙ ap (ideal_answer r.user r.call) (sym older) in
    let alone : p.at.lines ≡ lines.Given place ∷ [] = ap (λ (y : Entry). y.lines) at ∙ ls in
    let k : Key = key_of m.head in
    record {
      ran = ran_at i j (c.hosts i).state m (e ∷ past) p r;
      user = r.user;
      call = r.call;
      carries = r.carries;
      code = code;
      told = refl;
      result = subst (λ (y : Option Result). IsResult m.head.to code y k p.at.lines (lines_of (e ∷ past))) answer (elim n.why [
        | inl y ↦ inl (y.0, told_still k (answers_in (held_by (c.hosts i).state) r.user r.call) (lines_of (e ∷ past)) y.1)
        | inr y ↦ inr (y.0, (y.1, (subst (λ (l : List Line). HasChange k l → ⊥) (sym alone) (λ z. z), subst (λ (l : List Line). HasStopped m.head.to l → ⊥) (sym alone) (λ z. z))))
      ]);
      kind = λ z. (let no_ : true ≡ false = sym (ap is_passing z) ∙ n.some in absurd cc);
      says = inl (record { refused = tt; first = λ z. fresh (subst (λ (q : List Entry). HasChange k (lines_of q)) older (subst (λ (l : List Line). HasChange k (onto (lines_of p.older) l)) alone z)) });
    }

granted_going : (s me c : Node) (x : ℕ) (fs : List Found) → HasStopped s (granted me c x fs []) → ⊥
granted_going s me c x [] h = h
granted_going s me c x (f ∷ fs) h = granted_going s me c x fs h

-- what is read
pub shown_told : (s : Script) (c : Cell) (past : List Entry) (e : Entry) (i j place : ℕ) (m : Message) (g : Reading) → Held s c past → (p : Place i (c.hosts i).state m (e ∷ past)) → p.older ≡ past → p.at ≡ e → (r : Runs (Server i) (c.hosts i).state m j) → IsReading (held_by (c.hosts i).state) r.user r.call g
    → e.lines ≡ lines.Given place ∷ granted (Server i) m.head.from (c.clock + promise_ticks) g.granted [] → Tells (read_reply_to (c.hosts i).state.lasting.boot m.head (c.clock + promise_ticks) g) (e ∷ past)
shown_told s c past e i j place m g h p older at r n ls =
    let answer : answers_in (held_by (c.hosts i).state) r.user r.call ≡ ideal_answer r.user r.call p.older = reading_code s c past i r.user r.call g h n ∙ ap (ideal_answer r.user r.call) (sym older) in
    let V : ℕ → Option Volume = λ id. volume_after id p.older in
    let after : answers_in V r.user r.call ≡ answers_in (held_by (c.hosts i).state) r.user r.call = answers_after p.older r.user r.call ∙ sym answer in
    let lines_at : p.at.lines ≡ lines.Given place ∷ granted (Server i) m.head.from (c.clock + promise_ticks) g.granted [] = ap (λ (y : Entry). y.lines) at ∙ ls in
    let k : Key = key_of m.head in
    record {
      ran = ran_at i j (c.hosts i).state m (e ∷ past) p r;
      user = r.user;
      call = r.call;
      carries = r.carries;
      code = pos 0;
      told = refl;
      result = subst (λ (y : Option Result). IsResult m.head.to (pos 0) y k p.at.lines (lines_of (e ∷ past))) answer (inl (n.code, told_still k (answers_in (held_by (c.hosts i).state) r.user r.call) (lines_of (e ∷ past)) n.still));
      kind = read_kind (held_by (c.hosts i).state) r.call g (c.clock + promise_ticks) n.is;
      says = inr (inl (record {
        reading = g;
        expiry = c.clock + promise_ticks;
        is = refl;
        read = record { is = read_to (held_by (c.hosts i).state) V r.call g p.ideal n.is; code = ap code_given after ∙ n.code; still = λ z. n.still (subst IsChanging after z) };
        granted = λ f z. subst (λ (l : List Line). HasGrant m.head.to m.head.from f.fid f.vnode.index (c.clock + promise_ticks) l) (sym lines_at)
            (grant_more m.head.to m.head.from f.fid f.vnode.index (c.clock + promise_ticks) (lines.Given place) (granted (Server i) m.head.from (c.clock + promise_ticks) g.granted [])
            (subst (λ (q : Node). HasGrant q m.head.from f.fid f.vnode.index (c.clock + promise_ticks) (granted (Server i) m.head.from (c.clock + promise_ticks) g.granted [])) (sym r.to) (has_granted (Server i) m.head.from (c.clock + promise_ticks) g.granted [] f z)));
        blank = subst AreBlank (sym lines_at) (blank_by (is_from (Server i)) (from_blank (Server i)) (lines.Given place ∷ granted (Server i) m.head.from (c.clock + promise_ticks) g.granted []) (granted_from (Server i) m.head.from (c.clock + promise_ticks) g.granted [] refl));
        going = subst (λ (l : List Line). HasStopped m.head.to l → ⊥) (sym lines_at) (granted_going m.head.to (Server i) m.head.from (c.clock + promise_ticks) g.granted);
      }));
    }
