-- What a server's disk keeps of a caller tells that a change is done, and so does each reply of an older boot that the server sends, however many
-- servers a cell has.
use Rattle.spec_history.specs.declared.lines.Line.{Line}
use Rattle.spec_history.specs.declared.lines.Line.TheVariants as lines
use Rattle.spec_history.specs.declared.scripts.Script.{Script}
use Rattle.spec_ideal.specs.Operations.{changes, op, the_user, volume_called, volume_changed}
use Rattle.spec_ideal.specs.Replies.{change_reply}
use Rattle.law_legal.proofs.BaseLaws.{Each, IfCall, at_put, each_at}
use Rattle.law_legal.proofs.VolumeChanges.{run_each}
use Rattle.law_legal.proofs.ServerChooses.{Chosen, IfSaves, chosen}
use Rattle.law_legal.proofs.ServerHears.{served_boot, timed_state, woken_state}
use Rattle.law_legal.proofs.ServerLives.{start_sends}
use Rattle.law_legal.proofs.RunsKnown.{Known}
use Rattle.law_legal.proofs.RunWalk.{EachMove, IsKept, each_moved}
use Rattle.law_legal.proofs.VolumeOperations.{changes_is}
use Rattle.law_legal.proofs.ActCallsInRuns.{KnownAsked, asked_first, asked_kept}
use Rattle.law_legal.proofs.ServerAnswersInBoot.{TrueNow, no_fall, one_server, put_same, run_present, started_held, started_seats}
use Rattle.law_legal.proofs.PromisesAreGood.{is_file}
use Rattle.law_legal.proofs.ServerReasons.{Why, why}
use Rattle.law_legal.proofs.ServerReplies.{AreTold, Leaves, Makes, Replied, Replies, one_reply, placed_told, serves_replies, times_replies, wakes_replies}
use Rattle.law_legal.proofs.RunMessages.{run_own}
use Rattle.law_legal.proofs.ServerTellsInRuns.{kept_by}
use Rattle.law_legal.proofs.ServerTells.{made_well}
use Rattle.law_legal.proofs.BaseWords.{IsOne, up_boot}
use Rattle.law_legal.specs.Ideal.{set_up_entry}
use Rattle.law_legal.specs.Legal.{IsPresent, TellsItsBoot}
use Rattle.law_legal.specs.Lives.{AreCalls}
use Rattle.law_legal.specs.Parts.{EachEntry, EachSent, IsOwn}
use Rattle.law_legal.specs.Past.{HasCode, IsCall, code_told, lines_of, server_boot}
use Rattle.afs_num.specs.declared.calls.FsCall.{FsCall}
use Rattle.afs_num.specs.declared.histories.Actor.TheVariants as actors
use Rattle.afs_num.specs.declared.messages.Carried.{Carried}
use Rattle.afs_num.specs.declared.messages.Carried.TheVariants as carried
use Rattle.afs_num.specs.declared.messages.Message.{Message}
use Rattle.afs_num.specs.declared.messages.Received.TheVariants.{Whole}
use Rattle.afs_num.specs.declared.types.Head.{Head}
use Rattle.afs_num.specs.declared.types.Node.{Node}
use Rattle.afs_num.specs.declared.types.Node.TheVariants.{Client, Server}
use Rattle.spec_records.specs.Durable.{time_in}
use Rattle.spec_rows.specs.Callbacks.{put, replies_of}
use Rattle.spec_rows.specs.ClientRow.{begin_row, client_row, timeout_row, seek_timeout_row, sought_by}
use Rattle.law_legal.proofs.RunSteps.{blow_line, server_falls, server_moves, server_rises, server_set, server_stays, loc_becomes}
use Rattle.spec_rows.specs.Runs.{Armed, Cell, Entry, Fall, Moved, RunsTo, at_rest, begun_by_disk, client_falls, client_moves, client_rises, in_boot, in_step, message_at, moved, start, ticked, unarmed, voided, ServerHost}
use Rattle.spec_rows.specs.ServerRow.{Change, Decision, begun_after, carried_by, change_reply_to, decides, does, drops, promise_ticks, refuses, repeats, result, saves, seat_for, shows, stored_by, tells_boot}
use Rattle.spec_rows.specs.ServerSteps.{back_timeout_row, server_row, start_row, wake_row}
use Rattle.spec_rows.specs.States.{BackCall, Held, Seat, ServerState}
use Rattle.spec_rows.specs.Steps.{Step, Begun}
use Rattle.std.proofs.Common.{suc, ◌+◌, ◌≡◌, ◌⊎◌, ◌∙◌, inl, inr, ℕ, Bool, true, false, List, [], ◌∷◌, Option, Some, None, pos, refl, sym, ap, subst, nat_eq}
use Rattle.std.specs.Prelude.{⊤}

abbrev IsDone : Message → Type 0
IsDone m = code_told m.carried ≡ Some (pos 0)

-- a reply of this boot, or such a one
abbrev IsNow : ℕ → Message → Type 0
IsNow boot m = HasCode m.carried → (m.head.boot ≡ boot) ⊎ IsDone m

-- ---- the reply to a change

change_done : (boot : ℕ) (head : Head) (clock : ℕ) (c : Change) (user : List ℕ) (call : FsCall) → volume_called call ≡ Some c.id → op c.id (the_user user) call c.before.volume ≡ changes c.edits c.shown → c.call ≡ call → IsDone (change_reply_to boot head clock c)
change_done boot head clock c user call at is called =
    let some : volume_changed call ≡ None → ⊥ = changes_is c.id (the_user user) call c.before.volume c.edits c.shown at is in
    subst (λ (y : FsCall). code_told (carried_by (clock + promise_ticks) (change_reply c.id c.caller (time_in (stored_by clock c)) (result c) c.shown y)) ≡ Some (pos 0)) (sym called)
    (made_well call (clock + promise_ticks) c.id c.caller (time_in (stored_by clock c)) (result c) c.shown some).told

leaves_done : (me : Node) (x : ServerState) (clock : ℕ) (m : Message) (d : Decision) → IfSaves (Chosen me x m) d → Leaves IsDone x clock d
leaves_done me x clock m (saves head c) h = change_done x.lasting.boot head clock c h.user h.call h.of_volume h.result h.called
leaves_done me x clock m d h = tt

-- ---- what the disk keeps

does_kept : (me : Node) (x : ServerState) (clock place : ℕ) (d : Decision) → AreTold IsDone x.lasting.kept → Leaves IsDone x clock d → AreTold IsDone (does me x clock place d []).state.lasting.kept
does_kept me x clock place drops h k = h
does_kept me x clock place (tells_boot head) h k = h
does_kept me x clock place (repeats reply) h k = h
does_kept me x clock place (refuses head code) h k = h
does_kept me x clock place (shows head g) h k = h
does_kept me x clock place (saves head c) h k = let r : Message = change_reply_to x.lasting.boot head clock c in placed_told IsDone (seat_for head r) x.lasting.kept (λ m e. one_reply IsDone head r m k e) h

serves_kept : (i : ℕ) (x : ServerState) (clock place : ℕ) (m : Message) → AreTold IsDone x.lasting.kept → AreTold IsDone (server_row (Server i) x clock place (Whole m)).state.lasting.kept
unfolding server_row
serves_kept i x clock place m h = does_kept (Server i) x clock place (decides (Server i) x clock (Whole m)) h (leaves_done (Server i) x clock m (decides (Server i) x clock (Whole m)) (chosen (Server i) x clock m))

times_kept : (i : ℕ) (x : ServerState) (clock : ℕ) (n : Node) (b : BackCall) → AreTold IsDone x.lasting.kept → AreTold IsDone (back_timeout_row (Server i) x clock n b).state.lasting.kept
unfolding back_timeout_row
times_kept i x clock n b h = h

wakes_kept : (i : ℕ) (x : ServerState) (clock : ℕ) → AreTold IsDone x.lasting.kept → AreTold IsDone (wake_row (Server i) x clock).state.lasting.kept
unfolding wake_row
wakes_kept i x clock h = h

after_kept : (me : Node) (x : ServerState) (clock : ℕ) (d : Decision) → AreTold IsDone x.lasting.kept → Leaves IsDone x clock d → AreTold IsDone (begun_after me x clock d).state.lasting.kept
after_kept me x clock (saves head c) h k = let r : Message = change_reply_to x.lasting.boot head clock c in placed_told IsDone (seat_for head r) x.lasting.kept (λ m e. one_reply IsDone head r m k e) h
after_kept me x clock d h k = h

disk_kept : (me : Node) (x : ServerState) (after : Bool) (fall : Fall) → AreTold IsDone x.lasting.kept → AreTold IsDone (begun_by_disk me x after fall).state.lasting.kept
disk_kept me x after at_rest h = h
disk_kept me x false (in_step m clock hit) h = h
disk_kept me x true (in_step m clock hit) h = after_kept me x clock (decides me x clock (Whole m)) h (leaves_done me x clock m (decides me x clock (Whole m)) (chosen me x clock m))
disk_kept me x false in_boot h = h
disk_kept me x true in_boot h = h

starts_kept : (i clock count : ℕ) (f : Begun ServerState) → AreTold IsDone f.state.lasting.kept → AreTold IsDone (start_row (Server i) clock count f).state.lasting.kept
unfolding start_row
starts_kept i clock count f h = h

-- ---- what it sends

makes_now : (me : Node) (x : ServerState) (clock : ℕ) (m : Message) (d : Decision) → AreTold (IsNow x.lasting.boot) x.seats → Why me x m d → Makes (IsNow x.lasting.boot) x clock d
makes_now me x clock m drops h y = tt
makes_now me x clock m (tells_boot head) h y = tt
makes_now me x clock m (repeats reply) h y = kept_by (IsNow x.lasting.boot) (nat_eq m.head.boot x.lasting.boot) x.lasting.boot x.seats m.head reply h y.1
makes_now me x clock m (refuses head code) h y = λ is. inl refl
makes_now me x clock m (shows head r) h y = λ is. inl refl
makes_now me x clock m (saves head c) h y = λ is. inl refl

spares_now : (boot : ℕ) (m : Message) → (HasCode m.carried → ⊥) → IsNow boot m
spares_now boot m none is = absurd (none is)

done_now : (boot : ℕ) (seats : List Seat) → AreTold IsDone seats → AreTold (IsNow boot) seats
done_now boot seats h n seat m at r is = inr (h n seat m at r)

call_none : (x : Carried) → IsCall x → HasCode x → ⊥
call_none (carried.Call user call) a b = b
call_none (carried.Refusal code) a b = a
call_none (carried.Reply reply) a b = a
call_none carried.Notice a b = a

calls_now : (boot : ℕ) (ms : List Message) → AreCalls ms → Each (IsNow boot) ms
calls_now boot [] h = tt
calls_now boot (m ∷ ms) h = ((λ is. absurd (call_none m.carried h.0 is)), calls_now boot ms h.1)

-- ---- what holds after every entry

record Coded (x : ServerHost) : Type 0 where
  kept : AreTold IsDone x.state.lasting.kept
  replies : x.down ≡ None → Replies (IsNow x.state.lasting.boot) x.state

abbrev CodedIn : Cell → List Entry → Type 0
CodedIn c past = (i : ℕ) → Coded (c.hosts i)

abbrev Facts : Script → Cell → List Entry → Type 0
Facts s c past = KnownAsked s c past × CodedIn c past

abbrev SendsNow : ServerHost → List Message → Type 0
SendsNow x ms = (ms ≡ []) ⊎ ((x.down ≡ None) × Each (IsNow x.state.lasting.boot) ms)

record Codes (m : Moved) : Type 0 where
  coded : (i : ℕ) → Coded (m.cell.hosts i)
  sent : (i : ℕ) → m.entry.actor ≡ actors.Node (Server i) → SendsNow (m.cell.hosts i) m.entry.sent

abbrev CodedStep : Cell → List Entry → Moved → Type 0
CodedStep c past m = Codes m

besides_coded : (c : Cell) (past : List Entry) (m : Moved) → CodedIn c past → ((i : ℕ) → m.entry.actor ≡ actors.Node (Server i) → ⊥) → m.cell.hosts ≡ c.hosts → Codes m
besides_coded c past m h other same = record { coded = λ i. subst (λ (hosts : ℕ → ServerHost). Coded (hosts i)) (sym same) (h i); sent = λ i is. absurd (other i is) }

own_coded : (c : Cell) (past : List Entry) (i : ℕ) (x : ServerHost) (m : Moved) → CodedIn c past → m.entry.actor ≡ actors.Node (Server i) → m.cell.hosts ≡ put i x c.hosts → Coded x → SendsNow x m.entry.sent → Codes m
own_coded c past i x m h actor hosts own sends = record {
  coded = λ j. subst (λ (y : ℕ → ServerHost). Coded (y j)) (sym hosts) (at_put i j (λ (y : ServerHost). Coded y) x c.hosts (λ same. own) (λ other. h j));
  sent = λ j is. subst (λ (y : ℕ → ServerHost). SendsNow (y j) m.entry.sent) (sym hosts) (subst (λ (k : ℕ). SendsNow (put i x c.hosts k) m.entry.sent) (one_server i j (sym actor ∙ is)) (subst (λ (y : ServerHost). SendsNow y m.entry.sent) (sym (put_same i x c.hosts)) sends));
}

up_coded : (c : Cell) (past : List Entry) (i : ℕ) (armed : Armed) (st : Step ServerState) → CodedIn c past → st.state.lasting.boot ≡ (c.hosts i).state.lasting.boot → AreTold IsDone st.state.lasting.kept → Replied (IsNow (c.hosts i).state.lasting.boot) st → Codes (server_moves c i armed st)
up_coded c past i armed st h boot kept r =
    let x : ServerHost = record { state = st.state; down = None; armed = armed } in
    own_coded c past i x (server_moves c i armed st) h refl refl (record { kept = kept; replies = λ up. subst (λ (b : ℕ). Replies (IsNow b) st.state) (sym boot) r.replies }) (inr (refl, subst (λ (b : ℕ). Each (IsNow b) st.sent) (sym boot) r.sent))

served_coded : (s : Script) (c : Cell) (past : List Entry) (i place : ℕ) (m : Message) (armed : Armed) → Facts s c past → (c.hosts i).down ≡ None → message_at c.sent place ≡ Some m → Codes (server_moves c i armed (server_row (Server i) (c.hosts i).state c.clock place (Whole m)))
served_coded s c past i place m armed h up at =
    let x : ServerState = (c.hosts i).state in
    let k : Replies (IsNow x.lasting.boot) x = (h.1 i).replies up in
    let y : Makes (IsNow x.lasting.boot) x c.clock (decides (Server i) x c.clock (Whole m)) =
    makes_now (Server i) x c.clock m (decides (Server i) x c.clock (Whole m)) k.seats (why (Server i) x c.clock m refl (is_file (IsOne c.sent) m (each_at (IfCall (IsOne c.sent)) c.sent place m at h.0.1.ones))) in
    up_coded c past i armed (server_row (Server i) x c.clock place (Whole m)) h.1 (served_boot i x c.clock place m) (serves_kept i x c.clock place m (h.1 i).kept) (serves_replies (IsNow x.lasting.boot) (spares_now x.lasting.boot) i x c.clock place m k y)

started_coded : (s : Script) (c : Cell) (past : List Entry) (i : ℕ) (after : Bool) (fall : Fall) → Facts s c past → Codes (server_rises c i (begun_by_disk (Server i) (c.hosts i).state after fall))
started_coded s c past i after fall h =
    let f : Begun ServerState = begun_by_disk (Server i) (c.hosts i).state after fall in
    let st : Step ServerState = start_row (Server i) c.clock c.count f in
    let boot : ℕ = st.state.lasting.boot in
    let x : ServerHost = record { state = st.state; down = None; armed = unarmed } in
    let kept : AreTold IsDone st.state.lasting.kept = starts_kept i c.clock c.count f (disk_kept (Server i) (c.hosts i).state after fall (h.1 i).kept) in
    own_coded c past i x (server_rises c i f) h.1 refl refl (record {
      kept = kept;
      replies = λ up. record {
        seats = subst (AreTold (IsNow boot)) (sym (started_seats i c.clock c.count f)) (done_now boot st.state.lasting.kept kept);
        kept = done_now boot st.state.lasting.kept kept;
        held = subst (λ (hs : List Held). Each (IsNow boot) (replies_of hs)) (sym (started_held i c.clock c.count f)) tt;
      };
    }) (inr (refl, calls_now boot st.sent (start_sends i c.clock c.count f)))

-- one that goes down, or stays down
down_coded : (c : Cell) (past : List Entry) (i : ℕ) (x : ServerState) (fall : Fall) (armed : Armed) (m : Moved) → CodedIn c past → m.entry.actor ≡ actors.Node (Server i) → m.entry.sent ≡ [] → m.cell.hosts ≡ put i (record { state = x; down = Some fall; armed = armed }) c.hosts → AreTold IsDone x.lasting.kept → Codes m
down_coded c past i x fall armed m h actor none hosts kept = own_coded c past i (record { state = x; down = Some fall; armed = armed }) m h actor hosts (record { kept = kept; replies = no_fall fall _ }) (inl none)

-- one whose disk is set
set_coded : (c : Cell) (past : List Entry) (i : ℕ) (armed : Armed) (m : Moved) → CodedIn c past → m.entry.actor ≡ actors.Node (Server i) → m.entry.sent ≡ [] → m.cell.hosts ≡ put i (record (c.hosts i) { armed = armed }) c.hosts → Codes m
set_coded c past i armed m h actor none hosts = own_coded c past i (record (c.hosts i) { armed = armed }) m h actor hosts (record { kept = (h i).kept; replies = (h i).replies }) (inl none)

-- ---- every step

coded_moves : (s : Script) → EachMove (Facts s) CodedStep
coded_moves s = record {
  void = λ c past h. besides_coded c past (voided c) h.1 (λ i e. absurd cc) refl;
  ticked = λ c past n h. besides_coded c past (ticked c (suc n)) h.1 (λ i e. absurd cc) refl;
  begun = λ c past n act h r z0. besides_coded c past (client_moves c n (begin_row (Client n) (c.clients n) c.clock act)) h.1 (λ i e. absurd cc) refl;
  told = λ c past n place m h at to un. besides_coded c past (client_moves c n (client_row (Client n) (c.clients n) c.clock place (Whole m))) h.1 (λ i e. absurd cc) refl;
  sought = λ c past n place m k h at to z e. besides_coded c past (client_moves c n (sought_by (Client n) (c.clients n) c.clock place k m.head m.carried)) h.1 (λ i e'. absurd cc) refl;
  missed = λ c past n k h r z. besides_coded c past (client_moves c n (seek_timeout_row (Client n) (c.clients n) k)) h.1 (λ i e'. absurd cc) refl;
  loc = λ c past l ls ms h st. besides_coded c past (loc_becomes c l ls ms) h.1 (λ i e'. absurd cc) refl;
  waited = λ c past n act h r. besides_coded c past (client_moves c n (timeout_row (Client n) (c.clients n) act)) h.1 (λ i e. absurd cc) refl;
  fallen = λ c past n h. besides_coded c past (client_falls c n) h.1 (λ i e. absurd cc) refl;
  risen = λ c past n h. besides_coded c past (client_rises c n) h.1 (λ i e. absurd cc) refl;
  served = λ c past i place m armed h up at to. served_coded s c past i place m armed h up at;
  cut = λ c past i place m t h up at to. down_coded c past i (c.hosts i).state (in_step m c.clock t) unarmed (server_falls c i (lines.Given place ∷ blow_line i t.stops ∷ []) (in_step m c.clock t)) h.1 refl refl refl (h.1 i).kept;
  stopped = λ c past i h up. down_coded c past i (c.hosts i).state at_rest unarmed (server_falls c i (lines.Crash (Server i) ∷ []) at_rest) h.1 refl refl refl (h.1 i).kept;
  stop_set = λ c past i calls pick armed h up. set_coded c past i armed (server_set c i (lines.Stop (Server i) calls pick) armed) h.1 refl refl refl;
  fail_set = λ c past i call armed h up. set_coded c past i armed (server_set c i (lines.Fail (Server i) call) armed) h.1 refl refl refl;
  timed = λ c past i n b armed h up at. (let x : ServerState = (c.hosts i).state in
      up_coded c past i armed (back_timeout_row (Server i) x c.clock n b) h.1 (timed_state i x c.clock n b).1 (times_kept i x c.clock n b (h.1 i).kept) (times_replies (IsNow x.lasting.boot) (spares_now x.lasting.boot) i x c.clock n b ((h.1 i).replies up)));
  woken = λ c past i armed h up. (let x : ServerState = (c.hosts i).state in
      up_coded c past i armed (wake_row (Server i) x c.clock) h.1 (woken_state i x c.clock).1 (wakes_kept i x c.clock (h.1 i).kept) (wakes_replies (IsNow x.lasting.boot) (spares_now x.lasting.boot) i x c.clock ((h.1 i).replies up)));
  started = λ c past i after fall h down. started_coded s c past i after fall h;
  early = λ c past i fall h down. down_coded c past i (c.hosts i).state fall unarmed (server_falls c i (lines.Fault (Server i) ∷ []) fall) h.1 refl refl refl (h.1 i).kept;
  midway = λ c past i after fall h down. (let f : Begun ServerState = begun_by_disk (Server i) (c.hosts i).state after fall in
      down_coded c past i f.state in_boot unarmed (server_stays c i f (lines.Fault (Server i)) in_boot) h.1 refl refl refl (disk_kept (Server i) (c.hosts i).state after fall (h.1 i).kept));
  full = λ c past i after fall h down. (let f : Begun ServerState = begun_by_disk (Server i) (c.hosts i).state after fall in
      down_coded c past i f.state at_rest unarmed (server_stays c i f (lines.Full (Server i)) at_rest) h.1 refl refl refl (disk_kept (Server i) (c.hosts i).state after fall (h.1 i).kept));
}

coded_kept : (s : Script) → IsKept (Facts s)
coded_kept s c past x so h = (asked_kept s c past x so h.0, (each_moved (Facts s) CodedStep (coded_moves s) c past x so h).coded)

coded_first : (s : Script) → Facts s (start s) (set_up_entry s ∷ [])
coded_first s = (asked_first s, λ i. record { kept = λ n seat m e. absurd cc; replies = λ up. record { seats = λ n seat m e. absurd cc; kept = λ n seat m e. absurd cc; held = tt } })

-- ---- each message of a run

-- a reply is of the server's boot, or it tells that a change is done
abbrev IsCoded : ℕ → List Entry → Message → Type 0
IsCoded i past m = HasCode m.carried → (server_boot (Server i) (lines_of past) ≡ Some m.head.boot) ⊎ IsDone m

abbrev OfServers : List Entry → Entry → Type 0
OfServers past e = (i : ℕ) → e.actor ≡ actors.Node (Server i) → EachSent (IsCoded i) (e ∷ past) e.sent

all_coded : (i boot : ℕ) (past : List Entry) (ms : List Message) → server_boot (Server i) (lines_of past) ≡ Some boot → Each (IsNow boot) ms → EachSent (IsCoded i) past ms
all_coded i boot past [] up h = tt
all_coded i boot past (m ∷ ms) up h = ((λ is. elim (h.0 is) [ inl e ↦ inl (up ∙ ap Some (sym e)) | inr d ↦ inr d ]), all_coded i boot past ms up h.1)

sent_coded : (s : Script) (c : Cell) (past : List Entry) (e : Entry) (i : ℕ) → Known c (e ∷ past) → SendsNow (c.hosts i) e.sent → EachSent (IsCoded i) (e ∷ past) e.sent
sent_coded s c past e i K (inl none) = subst (EachSent (IsCoded i) (e ∷ past)) (sym none) tt
sent_coded s c past e i K (inr x) = all_coded i (c.hosts i).state.lasting.boot (e ∷ past) e.sent (K.hears.boots.now i ∙ ap (λ (d : Option Fall). up_boot d (c.hosts i).state.lasting.boot) x.0) x.1

run_coded : (s : Script) (h : List Entry) (end : Cell) → RunsTo h s end → EachEntry OfServers (set_up_entry s ∷ []) h
run_coded s h end r =
    run_each (Facts s) OfServers (coded_kept s) (λ c past x so k i is. sent_coded s (moved c x).cell past (moved c x).entry i (asked_kept s c past x so k.0).0 ((each_moved (Facts s) CodedStep (coded_moves s) c past x so k).sent i is)) r.inputs s (set_up_entry s ∷ []) h end (coded_first s) r.leads

abbrev pub IsNowTrue : List Entry → Message → Type 0
IsNowTrue past m = IsPresent past m × TellsItsBoot past m

true_now : (e : Entry) (past : List Entry) (m : Message) → IsOwn (e ∷ past) m → TrueNow (e ∷ past) m → ((i : ℕ) → e.actor ≡ actors.Node (Server i) → IsCoded i (e ∷ past) m) → IsNowTrue (e ∷ past) m
true_now e past m o t w = (
  λ i j is from to. elim (t.0 i j is from to) [
    | inl b ↦ inl b
    | inr x ↦ elim (w i (o.0 ∙ ap actors.Node from) is.1) [
      | inl b ↦ inl (subst (λ (n : Node). server_boot n (lines_of (e ∷ past)) ≡ Some m.head.boot) (sym from) b)
      | inr d ↦ inr (x, d)
    ]
  ],
  t.1,
)

sent_true : (e : Entry) (past : List Entry) (ms : List Message) → EachSent IsOwn (e ∷ past) ms → EachSent TrueNow (e ∷ past) ms → ((i : ℕ) → e.actor ≡ actors.Node (Server i) → EachSent (IsCoded i) (e ∷ past) ms) → EachSent IsNowTrue (e ∷ past) ms
sent_true e past [] o t w = tt
sent_true e past (m ∷ ms) o t w = (true_now e past m o.0 t.0 (λ i is. (w i is).0), sent_true e past ms o.1 t.1 (λ i is. (w i is).1))

all_true : (past es : List Entry) → EachEntry (λ before e. EachSent IsOwn (e ∷ before) e.sent) past es → EachEntry (λ before e. EachSent TrueNow (e ∷ before) e.sent) past es → EachEntry OfServers past es → EachEntry (λ before e. EachSent IsNowTrue (e ∷ before) e.sent) past es
all_true past [] o t w = tt
all_true past (e ∷ es) o t w = (sent_true e past e.sent o.0 t.0 w.0, all_true (e ∷ past) es o.1 t.1 w.1)

pub run_successes : (s : Script) (h : List Entry) (end : Cell) → RunsTo h s end → EachEntry (λ past e. EachSent IsNowTrue (e ∷ past) e.sent) (set_up_entry s ∷ []) h
run_successes s h end r = all_true (set_up_entry s ∷ []) h (run_own s h end r) (run_present s h end r) (run_coded s h end r)
