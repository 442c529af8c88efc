use Rattle.law_legal.proofs.ActCallsInRuns.{sought_acts_in}
use Rattle.law_legal.proofs.DatabaseKeeps.{loc_own, no_server_loc}
use Rattle.afs_num.specs.declared.messages.Received.{Received}
use Rattle.spec_history.specs.declared.lines.Line.{Line}
use Rattle.spec_history.specs.declared.lines.Line.TheVariants as lines
use Rattle.spec_history.specs.declared.scripts.Script.{Script}
use Rattle.law_legal.proofs.BaseLaws.{Above, Each, IfCall, LastSeat, OfCall, at_put, each_at, each_map, each_more, kept_last, runs_admitted}
use Rattle.law_legal.proofs.ActSteps.{begins_acts, given_acts, waits_acts, missed_acts}
use Rattle.law_legal.proofs.ServerChooses.{risen_lines}
use Rattle.law_legal.proofs.ServerStepsCut.{comes_first, now_up, blow_stopped, same_cut}
use Rattle.law_legal.proofs.BaseWords.{IsOne}
use Rattle.law_legal.proofs.ServerRefusesForGood.{IsSentBy}
use Rattle.law_legal.proofs.ServerHears.{no_server}
use Rattle.law_legal.proofs.ClientCallsByTable.{HomesIn, IsHome}
use Rattle.law_legal.proofs.ServerKeepsKeys.{HasHead, served_head}
use Rattle.law_legal.proofs.VolumesAreIdeal.{Held, IsSent, of_this}
use Rattle.law_legal.proofs.CallKeysOnce.{HasRun, IsKnown, any_told, by_key, new_key, not_run, admitted_latest}
use Rattle.law_legal.proofs.RunWalk.{Behind, EachMove}
use Rattle.law_legal.proofs.KeptPasses.{no_change}
use Rattle.law_legal.proofs.PromisesAreGood.{are_ideal, is_file}
use Rattle.law_legal.proofs.ServerReasons.{AreAmong, IsFile, Ran as RanFor, Runs, Why, held_by, why}
use Rattle.law_legal.proofs.ServerReplies.{AreTold, Leaves, Makes, MakesCut, Replied, Replies, disk_replies, serves_replies, starts_replies, times_replies, wakes_replies}
use Rattle.law_legal.specs.Breaks.{HasStopped}
use Rattle.law_legal.specs.Ideal.{change_key, set_up_entry, volume_after}
use Rattle.law_legal.specs.Legal.{HasChange}
use Rattle.law_legal.specs.Past.{given_message, lines_of, onto, sent_of}
use Rattle.spec_model.specs.Calls as pairs
use Rattle.spec_model.specs.Calls.{Admitted, admitted, call_seat, paired, key_of}
use Rattle.afs_num.specs.Nodes.{same_node}
use Rattle.afs_num.specs.declared.calls.FsCall.{FsCall}
use Rattle.afs_num.specs.declared.calls.FsCall.TheVariants as calls
use Rattle.afs_num.specs.declared.histories.Actor.TheVariants as actors
use Rattle.afs_num.specs.declared.messages.Call.TheVariants as ask
use Rattle.afs_num.specs.declared.messages.Carried.{Carried}
use Rattle.afs_num.specs.declared.messages.Carried.TheVariants as carried
use Rattle.afs_num.specs.declared.messages.Message.{Message}
use Rattle.afs_num.specs.declared.messages.Received.TheVariants.{Whole}
use Rattle.afs_num.specs.declared.types.Head.{Head}
use Rattle.afs_num.specs.declared.types.Key.{Key}
use Rattle.afs_num.specs.declared.types.Node.{Node}
use Rattle.afs_num.specs.declared.types.Node.TheVariants.{Client, Server, Loc}
use Rattle.spec_rows.specs.Callbacks.{expired, put, turned_by}
use Rattle.spec_rows.specs.ClientRow.{begin_row, client_row, reborn, timeout_row, sought_by, seek_timeout_row}
use Rattle.law_legal.proofs.RunSteps.{blow_line, server_falls, server_moves, server_rises, server_stays}
use Rattle.spec_rows.specs.Runs.{Blow, Armed, Cell, Entry, Fall, at_rest, begun_by_disk, client_moves, in_boot, in_step, message_at, start, unarmed, ServerHost}
use Rattle.spec_rows.specs.ServerRow.{Decision, admits, begun_after, change_reply_to, decides, drops, granted, granted_in, hears, is_client, versions_made, not_served, promise_ticks, read_reply_to, refusal, refuses, repeats, saves, serves_call, shows, tells_boot, versioned, whole, runs_received}
use Rattle.spec_rows.specs.ServerSteps.{back_timeout_row, server_row, start_row, wake_row}
use Rattle.spec_rows.specs.Going.{ClientState}
use Rattle.spec_rows.specs.States.{Seat, ServerState}
use Rattle.spec_rows.specs.Steps.{Step, Begun}
use Rattle.std.proofs.Common.{◌≡◌, ℕ, ◌+◌, inl, inr, Bool, true, false, cond, nat_eq, length, List, [], ◌∷◌, ◌++◌, Some, None, refl, sym, ap, subst, ◌∙◌}
use Rattle.std.specs.Prelude.{⊤}
use Rattle.law_legal.proofs.ServerTells.{HasGrant, IsTold, Place, asked_same, grant_behind, grant_more, has_granted, place_here, refused_told, replies_later, saves_told, served_lines, shown_told, spares, tells_later, turn_lines}

-- ---- what a decision makes

-- a refusal has the header of its call
abbrev IsOfHead : Head → Decision → Type 0
IsOfHead h (refuses head code) = head ≡ h
IsOfHead h d = ⊤

of_head : (h : Head) (d : Decision) → HasHead h d → IsOfHead h d
of_head h (refuses head code) e = e
of_head h d e = tt

run_head : (x : ServerState) (clock : ℕ) (h : Head) (user : List ℕ) (call : FsCall) (from : Node) → IsOfHead h (cond (is_client from) (serves_call x clock h user call) (refuses h not_served))
run_head x clock h user call (Client n) = of_head h (serves_call x clock h user call) (served_head x clock h user call)
run_head x clock h user call from = refl

admits_head : (x : ServerState) (clock : ℕ) (h : Head) (user : List ℕ) (call : FsCall) (o : Admitted Message) → IsOfHead h (admits x clock h (whole h (carried.Call user (ask.File call))) o)
admits_head x clock h user call pairs.runs = run_head x clock h user call h.from
admits_head x clock h user call (pairs.kept reply) = tt
admits_head x clock h user call pairs.in_progress = tt
admits_head x clock h user call pairs.older = tt
admits_head x clock h user call (pairs.wrong_boot boot) = tt

called_head : (t : Bool) (x : ServerState) (clock : ℕ) (h : Head) (user : List ℕ) (call : FsCall) → IsOfHead h (cond t (admits x clock h (whole h (carried.Call user (ask.File call))) (admitted x.lasting.boot x.seats h)) drops)
called_head true x clock h user call = admits_head x clock h user call (admitted x.lasting.boot x.seats h)
called_head false x clock h user call = tt

refused_head : (t : Bool) (x : ServerState) (clock : ℕ) (h : Head) (r : Received) (o : Admitted Message) → runs_received x clock h r ≡ refuses h not_served → IsOfHead h (cond t (admits x clock h r o) drops)
refused_head true x clock h r pairs.runs e = run_by (is_client h.from) e
  where
    run_by : (t : Bool) → runs_received x clock h r ≡ refuses h not_served → IsOfHead h (cond t (runs_received x clock h r) (refuses h not_served))
    run_by true e = subst (IsOfHead h) (sym e) refl
    run_by false e = refl
refused_head true x clock h r (pairs.kept reply) e = tt
refused_head true x clock h r pairs.in_progress e = tt
refused_head true x clock h r pairs.older e = tt
refused_head true x clock h r (pairs.wrong_boot boot) e = tt
refused_head false x clock h r o e = tt

hears_head : (me : Node) (x : ServerState) (clock : ℕ) (h : Head) (y : Carried) → OfCall (λ head user call. ⊤) h y → IsOfHead h (hears me x clock h y)
hears_head me x clock h (carried.Call user (ask.File call)) f = called_head (same_node h.to me) x clock h user call
hears_head me x clock h (carried.Call user (ask.Volume call)) f = absurd f
hears_head me x clock h (carried.Call user (ask.Location call)) f = refused_head (same_node h.to me) x clock h (whole h (carried.Call user (ask.Location call))) (admitted x.lasting.boot x.seats h) refl
hears_head me x clock h (carried.Refusal code) f = tt
hears_head me x clock h (carried.Reply reply) f = tt
hears_head me x clock h carried.Notice f = tt

decides_head : (me : Node) (x : ServerState) (clock : ℕ) (m : Message) → IsFile m → IsOfHead m.head (decides me x clock (Whole m))
decides_head me x clock m f = hears_head me x clock m.head m.carried f

pub kept_by : (T : Message → Type 0) (t : Bool) (boot : ℕ) (seats : List Seat) (head : Head) (m : Message) → AreTold T seats → cond t (paired head.epoch head.number (call_seat head.from seats)) (pairs.wrong_boot boot) ≡ pairs.kept m → T m
kept_by T true boot seats head m h e = let l : LastSeat head.epoch head.number (call_seat head.from seats) m = kept_last head.epoch head.number (call_seat head.from seats) m e in h head.from l.seat m l.at l.reply
kept_by T false boot seats head m h e = absurd cc

abbrev KnownBy : Cell → (Key → Node) → Head → List ℕ → FsCall → Type 0
KnownBy c callees head user call = IsKnown callees c.clients head.to (key_of head)

-- a call that runs changed nothing before
not_changed : (s : Script) (c : Cell) (past : List Entry) (i j place : ℕ) (m : Message) → Held s c past → message_at c.sent place ≡ Some m → (r : Runs (Server i) (c.hosts i).state m j) → HasChange (key_of m.head) (lines_of past) → ⊥
not_changed s c past i j place m h at r =
    let x : ServerState = (c.hosts i).state in
    let callees : Key → Node = h.0.0.keys.callees in
    let known : IsKnown callees c.clients (Server i) (key_of m.head) = subst (λ (q : Node). IsKnown callees c.clients q (key_of m.head)) r.to (of_this (KnownBy c callees) j m.head m.carried r.user r.call r.from r.carries (each_at (IfCall (KnownBy c callees)) c.sent place m at h.0.0.keys.calls)) in
    let above : Above (call_seat m.head.from x.lasting.kept) m.head.epoch m.head.number = (h.0.0.keys.sound i).lower m.head.from m.head.epoch m.head.number (runs_admitted x.lasting.boot x.seats m.head r.runs).1 in
    no_change (key_of m.head) (lines_of past) (new_key (HasRun callees c.clients c.hosts) (key_of m.head) (lines_of past) (not_run callees c.clients c.hosts i (key_of m.head) known above) h.0.0.keys.ran)

served_makes : (s : Script) (c : Cell) (past : List Entry) (e : Entry) (i place : ℕ) (m : Message) (d : Decision) → Held s c past → IfCall (IsHome s) m → Replies (IsTold (e ∷ past)) (c.hosts i).state → (c.hosts i).down ≡ None → message_at c.sent place ≡ Some m → e.actor ≡ actors.Node (Server i)
    → e.lines ≡ served_lines (Server i) (c.hosts i).state c.clock place m d → IsOfHead m.head d → Why (Server i) (c.hosts i).state m d → Makes (IsTold (e ∷ past)) (c.hosts i).state c.clock d
served_makes s c past e i place m drops h home k up at actor ls own y = tt
served_makes s c past e i place m (tells_boot head) h home k up at actor ls own y = tt
served_makes s c past e i place m (repeats reply) h home k up at actor ls own y =
    kept_by (IsTold (e ∷ past)) (nat_eq m.head.boot (c.hosts i).state.lasting.boot) (c.hosts i).state.lasting.boot (c.hosts i).state.seats m.head reply k.seats y.1
served_makes s c past e i place m (refuses head code) h home k up at actor ls own y =
    let x : ServerState = (c.hosts i).state in
    let p : Place i x m (e ∷ past) = place_here s c past e i place m (refuses head code) h up at actor ls in
    subst (λ (z : Head). IsTold (e ∷ past) (refusal x.lasting.boot z code)) (sym own) (λ q j from to told.
    let R : RanFor (Server i) x m j (refuses head code) = y j to in
    refused_told s c past e i j place m code h p refl refl R.run R.why.1 (asked_same s c past i j m h home R.run)
    (ls ∙ ap (λ (l : List Line). lines.Given place ∷ l) (turn_lines (Server i) x c.clock (refuses head code) m R.run.user R.run.call R.run.carries)) (not_changed s c past i j place m h at R.run))
served_makes s c past e i place m (shows head g) h home k up at actor ls own y =
    let x : ServerState = (c.hosts i).state in
    let p : Place i x m (e ∷ past) = place_here s c past e i place m (shows head g) h up at actor ls in
    let R : RanFor (Server i) x m y.0 (shows head g) = y.1 in
    subst (λ (z : Head). IsTold (e ∷ past) (read_reply_to x.lasting.boot z (c.clock + promise_ticks) g)) (sym R.why.0) (λ q j from to told.
    shown_told s c past e i y.0 place m g h p refl refl R.run R.why.1
    (ls ∙ (ap (λ (z : Head). lines.Given place ∷ granted (Server i) z.from (c.clock + promise_ticks) g.granted (turned_by (Server i) x c.clock (expired c.clock x.backs) (shows head g) m.head m.carried).lines) R.why.0
    ∙ ap (λ (l : List Line). lines.Given place ∷ granted (Server i) m.head.from (c.clock + promise_ticks) g.granted l) (turn_lines (Server i) x c.clock (shows head g) m R.run.user R.run.call R.run.carries))))
served_makes s c past e i place m (saves head ch) h home k up at actor ls own y =
    let x : ServerState = (c.hosts i).state in
    let p : Place i x m (e ∷ past) = place_here s c past e i place m (saves head ch) h up at actor ls in
    let tail : List Line = (turned_by (Server i) x c.clock (expired c.clock x.backs) (saves head ch) m.head m.carried).lines in
    let R : RanFor (Server i) x m y.0 (saves head ch) = y.1 in
    let given : List Line = granted (Server i) m.head.from (c.clock + promise_ticks) (granted_in ch) tail in
    let all : List Line = lines.Given place ∷ lines.Change (Server i) (key_of m.head) (length (versions_made ch)) ∷ versioned (versions_made ch) given in
    let is : e.lines ≡ all = ls ∙ ap (λ (z : Head). lines.Given place ∷ lines.Change (Server i) (key_of z) (length (versions_made ch)) ∷ versioned (versions_made ch) (granted (Server i) z.from (c.clock + promise_ticks) (granted_in ch) tail)) R.why.0 in
    subst (λ (z : Head). IsTold (e ∷ past) (change_reply_to x.lasting.boot z c.clock ch)) (sym R.why.0) (λ q j from to told.
    saves_told i y.0 x m (e ∷ past) c.clock ch (lines.Given place ∷ []) (versioned (versions_made ch) given) (lines_of past) p R.run R.why.1 (ap (onto (lines_of past)) is)
    (inl (λ f z. subst (λ (l : List Line). HasGrant m.head.to m.head.from f.fid f.vnode.index (c.clock + promise_ticks) l) (sym is)
    (grant_more m.head.to m.head.from f.fid f.vnode.index (c.clock + promise_ticks) (lines.Given place) (lines.Change (Server i) (key_of m.head) (length (versions_made ch)) ∷ versioned (versions_made ch) given)
    (grant_more m.head.to m.head.from f.fid f.vnode.index (c.clock + promise_ticks) (lines.Change (Server i) (key_of m.head) (length (versions_made ch))) (versioned (versions_made ch) given)
    (grant_behind m.head.to m.head.from f.fid f.vnode.index (c.clock + promise_ticks) (versions_made ch) given
    (subst (λ (n : Node). HasGrant n m.head.from f.fid f.vnode.index (c.clock + promise_ticks) given) (sym R.run.to) (has_granted (Server i) m.head.from (c.clock + promise_ticks) (granted_in ch) tail f z)))))))
    (record { newer = []; at = e; older = past; split = refl; key = ap change_key is; volume = are_ideal s c past i h ch.id ch.before.volume R.why.1.at }))

-- ---- a step that was interrupted

pub record CutHeld (i : ℕ) (x : ServerState) (m : Message) (past : List Entry) : Type 0 where
  pub place : Place i x m past
  pub stopped : HasStopped (Server i) place.at.lines

abbrev place_later : (i : ℕ) (x : ServerState) (m : Message) (e : Entry) (past : List Entry) → Place i x m past → Place i x m (e ∷ past)
place_later i x m e past p = record { newer = e ∷ p.newer; at = p.at; older = p.older; split = ap (λ (es : List Entry). e ∷ es) p.split; actor = p.actor; given = p.given; up = p.up; first = p.first; latest = p.latest; ideal = p.ideal }

cut_later : (i : ℕ) (x : ServerState) (m : Message) (e : Entry) (past : List Entry) → CutHeld i x m past → CutHeld i x m (e ∷ past)
cut_later i x m e past h = record { place = place_later i x m e past h.place; stopped = h.stopped }

cut_here : (s : Script) (c : Cell) (past : List Entry) (i place : ℕ) (m : Message) (t : Bool) (e : Entry) → Held s c past → (c.hosts i).down ≡ None → message_at c.sent place ≡ Some m → e.actor ≡ actors.Node (Server i) → e.lines ≡ lines.Given place ∷ blow_line i t ∷ [] → CutHeld i (c.hosts i).state m (e ∷ past)
cut_here s c past i place m t e h up at actor ls = record {
  place = record {
    newer = [];
    at = e;
    older = past;
    split = refl;
    actor = actor;
    given = ap (λ (l : List Line). given_message l (sent_of past)) ls ∙ (ap (λ (ms : List Message). message_at ms place) h.0.0.hears.told ∙ at);
    up = now_up c past i h.0.0.hears up;
    first = λ j from runs. comes_first c past i m j h.0.0.hears up from runs;
    latest = λ runs. admitted_latest c (lines_of past) i m.head h.0.0.keys runs;
    ideal = are_ideal s c past i h;
  };
  stopped = subst (HasStopped (Server i)) (sym ls) (blow_stopped i place t);
}

cut_leaves : (i : ℕ) (x : ServerState) (clock : ℕ) (m : Message) (e : Entry) (past : List Entry) (rest : List Line) (d : Decision) → CutHeld i x m past → AreAmong (held_by x) (λ id. volume_after id past) → e.lines ≡ (begun_after (Server i) x clock d).before rest → Why (Server i) x m d → Leaves (IsTold (e ∷ past)) x clock d
cut_leaves i x clock m e past rest (saves head ch) h ideal ls y =
    let R : RanFor (Server i) x m y.0 (saves head ch) = y.1 in
    subst (λ (z : Head). IsTold (e ∷ past) (change_reply_to x.lasting.boot z clock ch)) (sym R.why.0) (λ q j from to told.
    saves_told i y.0 x m (e ∷ past) clock ch [] (versioned (versions_made ch) rest) (lines_of past) (place_later i x m e past h.place) R.run R.why.1
    (ap (onto (lines_of past)) (ls ∙ ap (λ (z : Head). lines.Change (Server i) (key_of z) (length (versions_made ch)) ∷ versioned (versions_made ch) rest) R.why.0)) (inr h.stopped)
    (record { newer = []; at = e; older = past; split = refl; key = ap change_key (ls ∙ ap (λ (z : Head). lines.Change (Server i) (key_of z) (length (versions_made ch)) ∷ versioned (versions_made ch) rest) R.why.0); volume = ideal ch.id ch.before.volume R.why.1.at }))
cut_leaves i x clock m e past rest d h ideal ls y = tt

-- ---- what holds after every entry

pub record Told (hosts : ℕ → ServerHost) (sent : List Message) (past : List Entry) : Type 0 where
  pub sends : Each (IsTold past) sent
  pub hosts' : (i : ℕ) → Replies (IsTold past) (hosts i).state
  pub cuts : (i : ℕ) (m : Message) (clock : ℕ) (hit : Blow) → (hosts i).down ≡ Some (in_step m clock hit) → CutHeld i (hosts i).state m past

abbrev pub ToldIn : Cell → List Entry → Type 0
ToldIn c past = Told c.hosts c.sent past

others_told : (hosts : ℕ → ServerHost) (sent more : List Message) (past : List Entry) (e : Entry) → Told hosts sent past → Each (IsTold (e ∷ past)) more → Told hosts more (e ∷ past)
others_told hosts sent more past e h w = record { sends = w; hosts' = λ i. replies_later e past (hosts i).state (h.hosts' i); cuts = λ i m clock hit d. cut_later i (hosts i).state m e past (h.cuts i m clock hit d) }

host_told : (hosts : ℕ → ServerHost) (sent more : List Message) (past : List Entry) (e : Entry) (i : ℕ) (x : ServerHost) → Told hosts sent past → Each (IsTold (e ∷ past)) more → Replies (IsTold (e ∷ past)) x.state → ((m : Message) (clock : ℕ) (hit : Blow) → x.down ≡ Some (in_step m clock hit) → CutHeld i x.state m (e ∷ past)) → Told (put i x hosts) more (e ∷ past)
host_told hosts sent more past e i x h w r cut = record {
  sends = w;
  hosts' = λ j. at_put i j (λ (y : ServerHost). Replies (IsTold (e ∷ past)) y.state) x hosts (λ same. r) (λ other. replies_later e past (hosts j).state (h.hosts' j));
  cuts = λ j m clock hit. at_put i j (λ (y : ServerHost). y.down ≡ Some (in_step m clock hit) → CutHeld j y.state m (e ∷ past)) x hosts
      (λ same d. subst (λ (k : ℕ). CutHeld k x.state m (e ∷ past)) same (cut m clock hit d)) (λ other d. cut_later j (hosts j).state m e past (h.cuts j m clock hit d));
}

all_later : (e : Entry) (past : List Entry) (sent : List Message) → Each (IsTold past) sent → Each (IsTold (e ∷ past)) sent
all_later e past sent h = each_map (IsTold past) (IsTold (e ∷ past)) (tells_later e past) sent h

client_told : (n : ℕ) (past : List Entry) (m : Message) → m.head.from ≡ Client n → IsTold past m
client_told n past m own i j from to told = absurd (no_server n i (sym own ∙ from))

acts_told : (c : Cell) (past : List Entry) (n : ℕ) (st : Step ClientState) → Told c.hosts c.sent past → Each (IsSentBy (Client n)) st.sent → Told c.hosts (c.sent ++ st.sent) ((client_moves c n st).entry ∷ past)
acts_told c past n st h from =
    let e : Entry = (client_moves c n st).entry in
    others_told c.hosts c.sent (c.sent ++ st.sent) past e h (each_more (IsTold (e ∷ past)) c.sent st.sent (all_later e past c.sent h.sends) (each_map (IsSentBy (Client n)) (IsTold (e ∷ past)) (λ m k. client_told n (e ∷ past) m k.from) st.sent from))

moves_told : (c : Cell) (past : List Entry) (i : ℕ) (armed : Armed) (st : Step ServerState) → Told c.hosts c.sent past → Replied (IsTold ((server_moves c i armed st).entry ∷ past)) st → Behind ToldIn c past (server_moves c i armed st)
moves_told c past i armed st h r =
    let e : Entry = (server_moves c i armed st).entry in
    host_told c.hosts c.sent (c.sent ++ st.sent) past e i (record { state = st.state; down = None; armed = armed }) h (each_more (IsTold (e ∷ past)) c.sent st.sent (all_later e past c.sent h.sends) r.sent) r.replies (λ m clock hit d. absurd cc)

falls_told : (c : Cell) (past : List Entry) (i : ℕ) (x : ServerHost) (e : Entry) → Told c.hosts c.sent past → x.state ≡ (c.hosts i).state → ((m : Message) (clock : ℕ) (hit : Blow) → x.down ≡ Some (in_step m clock hit) → CutHeld i x.state m (e ∷ past)) → Told (put i x c.hosts) c.sent (e ∷ past)
falls_told c past i x e h same cut = host_told c.hosts c.sent c.sent past e i x h (all_later e past c.sent h.sends) (subst (Replies (IsTold (e ∷ past))) (sym same) (replies_later e past (c.hosts i).state (h.hosts' i))) cut

-- ---- every step

-- what a step's lines are
row_lines : (me : Node) (x : ServerState) (clock place : ℕ) (m : Message) → (server_row me x clock place (Whole m)).lines ≡ served_lines me x clock place m (decides me x clock (Whole m))
unfolding server_row
row_lines me x clock place m = refl

rise_lines : (me : Node) (clock count : ℕ) (f : Begun ServerState) → (start_row me clock count f).lines ≡ f.before (risen_lines me clock count f)
unfolding start_row
rise_lines me clock count f = refl

abbrev pub Telling : Script → Cell → List Entry → Type 0
Telling s c past = (Held s c past × HomesIn s c) × ToldIn c past

served_told : (s : Script) (c : Cell) (past : List Entry) (i place : ℕ) (m : Message) (armed : Armed) → Telling s c past → (c.hosts i).down ≡ None → message_at c.sent place ≡ Some m → Behind ToldIn c past (server_moves c i armed (server_row (Server i) (c.hosts i).state c.clock place (Whole m)))
served_told s c past i place m armed h up at =
    let x : ServerState = (c.hosts i).state in
    let st : Step ServerState = server_row (Server i) x c.clock place (Whole m) in
    let e : Entry = (server_moves c i armed st).entry in
    let T : Message → Type 0 = IsTold (e ∷ past) in
    let k : Replies T x = replies_later e past x (h.1.hosts' i) in
    let f : IsFile m = is_file (IsOne c.sent) m (each_at (IfCall (IsOne c.sent)) c.sent place m at h.0.0.0.1.ones) in
    let y : Makes T x c.clock (decides (Server i) x c.clock (Whole m)) = served_makes s c past e i place m (decides (Server i) x c.clock (Whole m)) h.0.0 (each_at (IfCall (IsHome s)) c.sent place m at h.0.1) k up at refl (row_lines (Server i) x c.clock place m) (decides_head (Server i) x c.clock m f) (why (Server i) x c.clock m refl f) in
    moves_told c past i armed st h.1 (serves_replies T (spares (e ∷ past)) i x c.clock place m k y)

cut_makes : (s : Script) (c : Cell) (past : List Entry) (e : Entry) (i : ℕ) (after : Bool) (fall : Fall) (rest : List Line) → Telling s c past → (c.hosts i).down ≡ Some fall → e.lines ≡ (begun_by_disk (Server i) (c.hosts i).state after fall).before rest → after ≡ true → MakesCut (IsTold (e ∷ past)) (Server i) (c.hosts i).state fall
cut_makes s c past e i false fall rest h down ls a = absurd cc
cut_makes s c past e i true at_rest rest h down ls a = tt
cut_makes s c past e i true in_boot rest h down ls a = tt
cut_makes s c past e i true (in_step m clock hit) rest h down ls a =
    let sent : IsSent c.sent m = h.0.0.1.cut i m clock hit down in
    cut_leaves i (c.hosts i).state clock m e past rest (decides (Server i) (c.hosts i).state clock (Whole m)) (h.1.cuts i m clock hit down) (are_ideal s c past i h.0.0) ls
    (why (Server i) (c.hosts i).state clock m refl (is_file (IsOne c.sent) m (each_at (IfCall (IsOne c.sent)) c.sent sent.0 m sent.1 h.0.0.0.1.ones)))

disk_told : (s : Script) (c : Cell) (past : List Entry) (e : Entry) (i : ℕ) (after : Bool) (fall : Fall) (rest : List Line) → Telling s c past → (c.hosts i).down ≡ Some fall → e.lines ≡ (begun_by_disk (Server i) (c.hosts i).state after fall).before rest → Replies (IsTold (e ∷ past)) (begun_by_disk (Server i) (c.hosts i).state after fall).state
disk_told s c past e i after fall rest h down ls = disk_replies (IsTold (e ∷ past)) (Server i) (c.hosts i).state after fall (replies_later e past (c.hosts i).state (h.1.hosts' i)) (cut_makes s c past e i after fall rest h down ls)

started_told : (s : Script) (c : Cell) (past : List Entry) (i : ℕ) (after : Bool) (fall : Fall) → Telling s c past → (c.hosts i).down ≡ Some fall → Behind ToldIn c past (server_rises c i (begun_by_disk (Server i) (c.hosts i).state after fall))
started_told s c past i after fall h down =
    let f : Begun ServerState = begun_by_disk (Server i) (c.hosts i).state after fall in
    let st : Step ServerState = start_row (Server i) c.clock c.count f in
    let e : Entry = (server_moves c i unarmed st).entry in
    moves_told c past i unarmed st h.1 (starts_replies (IsTold (e ∷ past)) (spares (e ∷ past)) i c.clock c.count f (disk_told s c past e i after fall (risen_lines (Server i) c.clock c.count f) h down (rise_lines (Server i) c.clock c.count f)))

stays_told : (s : Script) (c : Cell) (past : List Entry) (i : ℕ) (after : Bool) (fall now : Fall) (l : Line) → Telling s c past → (c.hosts i).down ≡ Some fall → ((m : Message) (clock : ℕ) (hit : Blow) → Some now ≡ Some (in_step m clock hit) → ⊥) → Behind ToldIn c past (server_stays c i (begun_by_disk (Server i) (c.hosts i).state after fall) l now)
stays_told s c past i after fall now l h down none =
    let f : Begun ServerState = begun_by_disk (Server i) (c.hosts i).state after fall in
    let e : Entry = (server_stays c i f l now).entry in
    host_told c.hosts c.sent c.sent past e i (record { state = f.state; down = Some now; armed = unarmed }) h.1 (all_later e past c.sent h.1.sends) (disk_told s c past e i after fall (l ∷ []) h down refl) (λ m clock hit d. absurd (none m clock hit d))

pub told_moves : (s : Script) → EachMove (Telling s) (Behind ToldIn)
told_moves s = record {
  void = λ c past h. others_told c.hosts c.sent c.sent past _ h.1 (all_later _ past c.sent h.1.sends);
  ticked = λ c past n h. others_told c.hosts c.sent c.sent past _ h.1 (all_later _ past c.sent h.1.sends);
  begun = λ c past n act h r z. acts_told c past n (begin_row (Client n) (c.clients n) c.clock act) h.1 (begins_acts n (c.clients n) c.clock act r z).from;
  told = λ c past n place m h at to un. acts_told c past n (client_row (Client n) (c.clients n) c.clock place (Whole m)) h.1 (given_acts (by_key (IsKnown h.0.0.0.0.keys.callees c.clients)) any_told n (c.clients n) c.clock place m (h.0.0.0.0.keys.replies n) (h.0.0.0.1.seats n)).from;
  sought = λ c past n place m k h at to z e. acts_told c past n (sought_by (Client n) (c.clients n) c.clock place k m.head m.carried) h.1 (sought_acts_in s c past n place m k h.0.0.0.1 at z e).from;
  missed = λ c past n k h r z. acts_told c past n (seek_timeout_row (Client n) (c.clients n) k) h.1 (missed_acts n (c.clients n) k r z).from;
  waited = λ c past n act h r. acts_told c past n (timeout_row (Client n) (c.clients n) act) h.1 (waits_acts n (c.clients n) act r).from;
  fallen = λ c past n h. acts_told c past n (record { state = reborn c.handed (c.clients n); lines = lines.Crash (Client n) ∷ []; sent = [] }) h.1 tt;
  risen = λ c past n h. acts_told c past n (record { state = c.clients n; lines = lines.Restart (Client n) (c.clients n).epoch ∷ []; sent = [] }) h.1 tt;
  loc = λ c past l ls ms h st. others_told c.hosts c.sent (c.sent ++ ms) past _ h.1 (each_more (IsTold _) c.sent ms (all_later _ past c.sent h.1.sends) (each_map (IsSentBy Loc) (IsTold _) (λ m x i j from to code. absurd (no_server_loc m.head i x.from from)) ms (loc_own c l ls ms st)));
  served = λ c past i place m armed h up at to. served_told s c past i place m armed h up at;
  cut = λ c past i place m t h up at to. falls_told c past i _ (server_falls c i (lines.Given place ∷ blow_line i t.stops ∷ []) (in_step m c.clock t)).entry h.1 refl
      (λ k clock hit d. subst (λ (y : Message). CutHeld i (c.hosts i).state y ((server_falls c i (lines.Given place ∷ blow_line i t.stops ∷ []) (in_step m c.clock t)).entry ∷ past)) (same_cut m k c.clock clock t hit d) (cut_here s c past i place m t.stops (server_falls c i (lines.Given place ∷ blow_line i t.stops ∷ []) (in_step m c.clock t)).entry h.0.0 up at refl refl));
  stopped = λ c past i h up. falls_told c past i _ _ h.1 refl (λ m clock hit d. absurd cc);
  stop_set = λ c past i calls pick armed h up. falls_told c past i _ _ h.1 refl (λ m clock hit d. cut_later i (c.hosts i).state m _ past (h.1.cuts i m clock hit d));
  fail_set = λ c past i call armed h up. falls_told c past i _ _ h.1 refl (λ m clock hit d. cut_later i (c.hosts i).state m _ past (h.1.cuts i m clock hit d));
  timed = λ c past i n b armed h up at. moves_told c past i armed (back_timeout_row (Server i) (c.hosts i).state c.clock n b) h.1 (times_replies _ (spares _) i (c.hosts i).state c.clock n b (replies_later _ past (c.hosts i).state (h.1.hosts' i)));
  woken = λ c past i armed h up. moves_told c past i armed (wake_row (Server i) (c.hosts i).state c.clock) h.1 (wakes_replies _ (spares _) i (c.hosts i).state c.clock (replies_later _ past (c.hosts i).state (h.1.hosts' i)));
  started = λ c past i after fall h down. started_told s c past i after fall h down;
  early = λ c past i fall h down. falls_told c past i _ _ h.1 refl (λ m clock hit d. cut_later i (c.hosts i).state m _ past (h.1.cuts i m clock hit (down ∙ d)));
  midway = λ c past i after fall h down. stays_told s c past i after fall in_boot (lines.Fault (Server i)) h down (λ m clock hit e. absurd cc);
  full = λ c past i after fall h down. stays_told s c past i after fall at_rest (lines.Full (Server i)) h down (λ m clock hit e. absurd cc);
}

pub told_first : (s : Script) → ToldIn (start s) (set_up_entry s ∷ [])
told_first s = record {
  sends = tt;
  hosts' = λ i. record { seats = λ n seat m at r. absurd cc; kept = λ n seat m at r. absurd cc; held = tt };
  cuts = λ i m clock hit d. absurd cc;
}
