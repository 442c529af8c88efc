-- What the steps of a server make of its promises, its breaks and the replies that wait, however many servers a cell has.
use Rattle.spec_breaks.specs.declared.types.Promise.{Promise}
use Rattle.spec_breaks.specs.Promises.{owes_from}
use Rattle.spec_history.specs.declared.lines.Line.{Line}
use Rattle.spec_history.specs.declared.lines.Line.TheVariants as lines
use Rattle.spec_ideal.specs.Operations.{Found}
use Rattle.spec_ideal.specs.Replies.{change_reply}
use Rattle.law_legal.proofs.OwedPasses.{Plain, all_lines, before_own, change_back, granted_over, is_oweless, is_still, is_still_to, is_unchanging, is_up, no_owe, plain_waits, promised_given, promised_over, rising_back}
use Rattle.law_legal.proofs.BaseLaws.{Above, Each, IfDone, OfCall, OfReply, at_seat, below_not, node_apart, own_seat, runs_admitted, same_node-refl, some_of, up_to_same}
use Rattle.law_legal.proofs.VolumeEdits.{on_top}
use Rattle.law_legal.proofs.OwedWaitsByKey.{held_waits, not_held}
use Rattle.law_legal.proofs.OwedLoad.{NewReply, all_granted, all_waited, granted_all, key_held, known_backed, none_loaded, own_waited, quits_backed, resent, retries_backed, run_loaded, settles_backed, still_backed}
use Rattle.law_legal.proofs.OwedLoadBreaks.{all_hits, all_left, all_new, all_promised, change_loaded, gone_granted, gone_promised, gone_to_clients, granted_to_client, hits_other, left_granted, left_promised, number_front, number_second, numbers_rise, onto_granted, owes_rising, owes_to_clients, owes_unchanging}
use Rattle.law_legal.proofs.OwedFacts.{AllOf, AllWaitedBy, BackedIn, IsClient, IsGranted, IsNumberIn, Promised, Rising, WaitedBy, HeldWaits}
use Rattle.law_legal.proofs.KeptPasses.{no_change}
use Rattle.law_legal.proofs.PromiseLists.{Owed, hits, saves_turn, saves_turn_is, shows_turn, shows_turn_is, staying, with_promises, without_promises}
use Rattle.law_legal.proofs.ServerReasons.{IsRead, Ran, Runs, Why, gives_up_as, held_by}
use Rattle.law_legal.proofs.ServerSaves.{carried_reply, on_changed, onto_versioned, versioned_front, versions_lines}
use Rattle.law_legal.proofs.ServerSeats.{IsReplyOf}
use Rattle.law_legal.proofs.ServerFinds.{above_more, and_true, comes}
use Rattle.law_legal.proofs.OwedTurns.{IsServing, TurnSends, break_good, loaded, put_call, reply_key}
use Rattle.law_legal.specs.Breaks.{AllOwes, drops_of, fids_given_up, has_answer, is_in_boot, is_to_come, last_number, lines_with_gifts, returned_by, returned_in}
use Rattle.law_legal.specs.Legal.{HasChange, IsNew}
use Rattle.law_legal.specs.Past.{IsCallUnder, IsFirstOfItsBoot, given_message, lines_of, onto, sent_of, server_boot}
use Rattle.spec_model.specs.Calls as pairs
use Rattle.spec_model.specs.Calls.{admitted, call_seat, call_seated, key_of}
use Rattle.afs_num.specs.Nodes.{same_node}
use Rattle.afs_num.specs.declared.histories.Actor.TheVariants as actors
use Rattle.afs_num.specs.declared.histories.Version.{Version}
use Rattle.afs_num.specs.declared.messages.Carried.{Carried}
use Rattle.afs_num.specs.declared.messages.Carried.TheVariants as carried
use Rattle.afs_num.specs.declared.messages.Message.{Message}
use Rattle.afs_num.specs.declared.messages.Reply.TheVariants as tell
use Rattle.afs_num.specs.declared.types.Head.{Head}
use Rattle.afs_num.specs.declared.types.Key.{Key}
use Rattle.afs_num.specs.declared.types.Node.{Node}
use Rattle.afs_num.specs.declared.types.Node.TheVariants.{Client}
use Rattle.spec_records.specs.Durable.{time_in}
use Rattle.spec_rows.specs.Callbacks.{Started, CallbackStep, alls, asked_again, break_message, expired, given_out, held_after, held_under, if_to, is_back_awaited, is_ready, is_seat_of, key_answered, no_turn, break_numbers, pumped, put_at, quits, renews, renews_by, repeats_by, retries, settles, settles_by, starts, starts_by, turn_for}
use Rattle.spec_rows.specs.Runs.{Entry}
use Rattle.spec_rows.specs.ServerRow.{Change, boot_told, Decision, Reading, carried_by, change_reply_to, does, drops, granted, granted_in, versions_made, promise_ticks, promised_in, read_reply_to, refusal, refuses, repeats, replied, result, saves, seat_for, shows, stored_by, tells_boot, versioned}
use Rattle.spec_rows.specs.States.{BackCall, Backs, Held, Seat, ServerState}
use Rattle.std.proofs.Common.{◌≡◌, ℕ, ℤ, ◌+◌, ◌≤◌, inl, inr, Bool, true, false, cond, eq-eqb, List, [], ◌∷◌, ◌++◌, length, Option, Some, None, refl, sym, ap, subst, ◌∙◌}
use Rattle.std.proofs.Math.Nat.{le_refl}
use Rattle.std.specs.Prelude.{◌&&◌, not}

-- ---- a reply to a call that runs

seat_before : (x : Seat) (seats : List Seat) (n : Node) (e k : ℕ) → Above (call_seat x.caller seats) x.epoch x.number → Above (call_seat n (call_seated x seats)) e k → Above (call_seat n seats) e k
seat_before x seats n e k a = at_seat x n seats (λ o. Above o e k → Above (call_seat n seats) e k) (λ q b. subst (λ (y : Node). Above (call_seat y seats) e k) q (above_more (call_seat x.caller seats) x.epoch x.number e k a b)) (λ ne b. b)

own_not : (x : Seat) (seats : List Seat) → Above (call_seat x.caller (call_seated x seats)) x.epoch x.number → ⊥
own_not x seats above = below_not x.epoch x.number x.epoch x.number (subst (λ (o : Option Seat). Above o x.epoch x.number) (own_seat x seats) above) (up_to_same x.epoch x.number x.epoch x.number refl refl)

run_above : (me : Node) (x : ServerState) (m : Message) (j : ℕ) → Runs me x m j → Above (call_seat m.head.from x.seats) m.head.epoch m.head.number
run_above me x m j run = (runs_admitted x.lasting.boot x.seats m.head run.runs).1

new_reply : (me : Node) (x : ServerState) (m : Message) (j : ℕ) (past : List Entry) (z : Carried) (ws : List ℕ) → Runs me x m j → (OfReply ⊥ z → ⊥)
    → NewReply me (call_seated (seat_for m.head (replied x.lasting.boot m.head z)) x.seats) past (record { reply = replied x.lasting.boot m.head z; waits = ws; again = false })
new_reply me x m j past z ws run is = record { client = j; to = run.from; from = run.to; is_reply = is; under = own_not (seat_for m.head (replied x.lasting.boot m.head z)) x.seats }

reply_loaded : (me : Node) (x : ServerState) (m : Message) (j clock : ℕ) (b : Backs) (cs : ℕ → Option Seat) (sent : List Message) (e : Entry) (past : List Entry) (ps : List Promise) (z : Carried) → BackedIn me None b x.lasting.boot x.seats cs clock sent past → Runs me x m j → IsNew (key_of m.head) (lines_of past) → (OfReply ⊥ z → ⊥)
    → all_lines (is_up me) e.lines ≡ true → all_lines is_oweless e.lines ≡ true → all_lines is_unchanging e.lines ≡ true → AllOf (IsGranted me (lines_of (e ∷ past))) ps → AllOf (λ (p : Promise). IsClient p.client) ps → Promised me None ps clock (lines_with_gifts me (e ∷ past))
    → BackedIn me None (record b { lists = record b.lists { promises = ps }; held = b.held ++ record { reply = replied x.lasting.boot m.head z; waits = []; again = false } ∷ [] }) x.lasting.boot (call_seated (seat_for m.head (replied x.lasting.boot m.head z)) x.seats) cs clock sent (e ∷ past)
reply_loaded me x m j clock b cs sent e past ps z B run new is up oweless unchanging granted clients promised =
    let boot : ℕ = x.lasting.boot in
    let k : Key = key_of m.head in
    let seat : Seat = seat_for m.head (replied boot m.head z) in
    let hd : Held = record { reply = replied boot m.head z; waits = []; again = false } in
    let above = run_above me x m j run in
    run_loaded me b ps boot x.seats (call_seated seat x.seats) cs clock sent e past hd B up oweless unchanging granted clients promised (λ n y w. seat_before seat x.seats n y w above) (new_reply me x m j (e ∷ past) z [] run is)
    (own_waited me b boot x.seats cs clock sent e past hd B oweless (λ y. key_held me b boot x.seats cs clock sent past k B above y)) (λ y. absurd (no_change k (lines_of past) new (change_back k e.lines (lines_of past) unchanging y)))

-- ---- what a step leaves loaded

-- a server's message: its call is to a client, and its reply to no server
pub record IsMessage (me : Node) (m : Message) : Type 0 where
  pub from : m.head.from ≡ me
  pub calls : OfCall (λ head user call. IsClient head.to) m.head m.carried
  pub replies : IfDone (λ k. ⊥) m

pub break_is : (me : Node) (boot : ℕ) (n : Node) (known : ℕ) (c : BackCall) → IsClient n → IsMessage me (break_message me boot n known c)
break_is me boot n known c is = record { from = refl; calls = is; replies = tt }

pub record Loads (me : Node) (boot : ℕ) (seats : List Seat) (cs : ℕ → Option Seat) (clock : ℕ) (sent : List Message) (past : List Entry) (t : CallbackStep) : Type 0 where
  pub backed : BackedIn me None (loaded t) boot seats cs clock sent past
  pub sends : TurnSends me (loaded t) boot past t.sent
  pub own : Each (IsMessage me) t.sent

abbrev pub of_server : Node → List Line → List Message → Entry
of_server me ls ms = record { actor = actors.Node me; lines = ls; sent = ms; volumes = [] }

none_sent : (me : Node) (b : Backs) (boot : ℕ) (past : List Entry) → TurnSends me b boot past []
none_sent me b boot past = record { good = tt; calls = tt; dones = tt }

-- nothing is done
pub still_loads : (me : Node) (b : Backs) (boot : ℕ) (seats : List Seat) (cs : ℕ → Option Seat) (clock : ℕ) (sent ms : List Message) (e : Entry) (past : List Entry) → BackedIn me None b boot seats cs clock sent past → Plain me e.lines → TurnSends me (record b { held = b.held ++ [] }) boot (e ∷ past) ms → Each (IsMessage me) ms
    → Loads me boot seats cs clock sent (e ∷ past) (record { backs = b; lines = []; sent = ms; outs = [] })
still_loads me b boot seats cs clock sent ms e past B p s own = record { backed = none_loaded me None b boot seats cs clock sent (e ∷ past) (still_backed me b boot seats cs clock sent e past p B); sends = s; own = own }

pub none_loads : (me : Node) (b : Backs) (boot : ℕ) (seats : List Seat) (cs : ℕ → Option Seat) (clock : ℕ) (sent : List Message) (e : Entry) (past : List Entry) → BackedIn me None b boot seats cs clock sent past → Plain me e.lines → Loads me boot seats cs clock sent (e ∷ past) (no_turn b)
none_loads me b boot seats cs clock sent e past B p = still_loads me b boot seats cs clock sent [] e past B p (none_sent me (record b { held = b.held ++ [] }) boot (e ∷ past)) tt

given_plain : (me : Node) (place : ℕ) → Plain me (lines.Given place ∷ [])
given_plain me place = record { up = refl; still = refl; oweless = refl; unchanging = refl }

-- ---- a refusal

refuses_loads : (me : Node) (x : ServerState) (m : Message) (j clock place : ℕ) (b : Backs) (cs : ℕ → Option Seat) (sent ms : List Message) (past : List Entry) (code : ℤ) → BackedIn me None b x.lasting.boot x.seats cs clock sent past → Runs me x m j → IsNew (key_of m.head) (lines_of past)
    → Loads me x.lasting.boot (call_seated (seat_for m.head (refusal x.lasting.boot m.head code)) x.seats) cs clock sent (of_server me (lines.Given place ∷ []) ms ∷ past) (turn_for me x clock b (refuses m.head code))
refuses_loads me x m j clock place b cs sent ms past code B run new =
    let e : Entry = of_server me (lines.Given place ∷ []) ms in
    record {
      backed = reply_loaded me x m j clock b cs sent e past b.lists.promises (carried.Refusal (record { 0 = code })) B run new (λ y. y) refl refl refl (granted_over me e past b.lists.promises refl refl refl (B.granted refl)) (B.clients refl).promised (promised_over me None b.lists.promises clock clock e past refl (le_refl _) B.promised);
      sends = none_sent me _ x.lasting.boot (e ∷ past);
      own = tt;
    }

-- ---- what is read

more_answers_by : (t : Bool) (k : Key) (ms ns : List Message) → cond t true (has_answer k ms) ≡ true → (has_answer k ms ≡ true → has_answer k (ms ++ ns) ≡ true) → cond t true (has_answer k (ms ++ ns)) ≡ true
more_answers_by true k ms ns h w = refl
more_answers_by false k ms ns h w = w h

more_answers : (k : Key) (ms ns : List Message) → has_answer k ms ≡ true → has_answer k (ms ++ ns) ≡ true
more_answers k [] ns h = absurd cc
more_answers k (m ∷ ms) ns h = more_answers_by _ k ms ns h (more_answers k ms ns)

by_answer : (me : Node) (boot : ℕ) (k : Key) (t : Started) (o : Owed) (x : Option BackCall) → has_answer k t.sent ≡ true → has_answer k (starts_by me boot t o x).sent ≡ true
by_answer me boot k t o None h = more_answers k t.sent _ h
by_answer me boot k t o (Some c) h = h

first_answer : (me : Node) (boot : ℕ) (os : List Owed) (k : Key) (t : Started) → has_answer k t.sent ≡ true → has_answer k (starts me boot os t).sent ≡ true
first_answer me boot [] k t h = h
first_answer me boot (o ∷ os) k t h = first_answer me boot os k _ (by_answer me boot k t o (t.backs.calls o.client) h)

-- what is known of the moment in which a call runs
pub record Runtime (me : Node) (x : ServerState) (m : Message) (place : ℕ) (past : List Entry) : Type 0 where
  pub boot : server_boot me (lines_of past) ≡ Some x.lasting.boot
  pub first : IsFirstOfItsBoot me (key_of m.head) x.lasting.boot past
  pub given : given_message (lines.Given place ∷ []) (sent_of past) ≡ Some m
  pub new : IsNew (key_of m.head) (lines_of past)

shows_loads : (me : Node) (x : ServerState) (m : Message) (j clock place : ℕ) (cs : ℕ → Option Seat) (sent : List Message) (past : List Entry) (r : Reading) → BackedIn me None (expired clock x.backs) x.lasting.boot x.seats cs clock sent past → (run : Runs me x m j) → Runtime me x m place past → IsRead (held_by x) run.call r
    → Loads me x.lasting.boot (call_seated (seat_for m.head (read_reply_to x.lasting.boot m.head (clock + promise_ticks) r)) x.seats) cs clock sent (of_server me (lines.Given place ∷ granted me m.head.from (clock + promise_ticks) r.granted []) (pumped me x.lasting.boot (shows_turn me x clock (expired clock x.backs) m.head r)).sent ∷ past) (shows_turn me x clock (expired clock x.backs) m.head r)
shows_loads me x m j clock place cs sent past r B run now is =
    let b : Backs = expired clock x.backs in
    let boot : ℕ = x.lasting.boot in
    let c : Node = m.head.from in
    let t : ℕ = clock + promise_ticks in
    let fs : List Found = r.granted in
    let turn : CallbackStep = shows_turn me x clock b m.head r in
    let ms : List Message = (pumped me boot turn).sent in
    let k : Key = key_of m.head in
    let e : Entry = of_server me (lines.Given place ∷ granted me c t fs []) ms in
    let ps : List Promise = b.lists.promises in
    let a = runs_admitted boot x.seats m.head run.runs in
    let answered : has_answer k ms ≡ true = first_answer me boot turn.backs.lists.owed k (record { backs = held_after turn; sent = given_out turn }) (rw (same_node-refl c, eq-eqb m.head.epoch m.head.epoch refl, eq-eqb m.head.number m.head.number refl) refl) in
    let first : is_to_come me k m.head.boot past ≡ true = comes me k m.head.boot past (subst (λ (i : ℕ). IsFirstOfItsBoot me k i past) (sym a.0) now.first) in
    let here : is_in_boot m.head.boot (server_boot me (lines_of past)) ≡ true = ap (is_in_boot m.head.boot) now.boot ∙ eq-eqb m.head.boot boot a.0 in
    let gave : returned_in me e (given_message e.lines (sent_of past)) past ≡ drops_of c r.given_up =
    ap (λ (o : Option Message). returned_in me e o past) now.given
    ∙ (ap (λ (y : Bool). returned_by me y m.head m.carried) (and_true _ _ (same_node-refl me) (and_true _ _ (and_true _ _ here first) answered))
    ∙ (ap (returned_by me true m.head) run.carries
    ∙ (ap (λ (y : Bool). cond y (drops_of c (fids_given_up run.call)) []) (ap (λ (n : Node). same_node n me) run.to ∙ same_node-refl me)
    ∙ ap (drops_of c) (sym (gives_up_as (held_by x) run.call r is))))) in
    let given : Promised me None (without_promises c r.given_up ps) clock (before_own me e past) = subst (λ (ds : List Line). Promised me None (without_promises c r.given_up ps) clock (onto (lines_with_gifts me past) ds)) (sym gave) (gone_promised me c clock r.given_up (lines_with_gifts me past) ps B.promised) in
    record {
      backed = reply_loaded me x m j clock b cs sent e past (with_promises c t fs (without_promises c r.given_up ps)) (carried.Reply (tell.File (promised_in t r.reply))) B run now.new (λ y. y) (granted_all me (is_up me) c t fs (λ f i. refl)) (granted_all me is_oweless c t fs (λ f i. refl)) (granted_all me is_unchanging c t fs (λ f i. refl))
          (all_granted me c t fs (lines.Given place ∷ lines_of past) (without_promises c r.given_up ps) (gone_granted me c r.given_up (lines_of past) ps (B.granted refl)))
          (subst (λ (n : Node). AllOf (λ (p : Promise). IsClient p.client) (with_promises n t fs (without_promises c r.given_up ps))) (sym run.from) (granted_to_client t j fs (without_promises c r.given_up ps) (gone_to_clients c r.given_up ps (B.clients refl).promised)))
          (all_promised me c t clock fs (lines.Given place ∷ before_own me e past) (without_promises c r.given_up ps) given);
      sends = none_sent me _ boot (e ∷ past);
      own = tt;
    }

-- ---- a change

granted_front : (me c : Node) (x : ℕ) (fs : List Found) (tail : List Line) → granted me c x fs tail ≡ granted me c x fs [] ++ tail
granted_front me c x [] tail = refl
granted_front me c x (f ∷ fs) tail = ap (λ (ls : List Line). lines.Grant me c f.fid f.vnode.index x ∷ ls) (granted_front me c x fs tail)

granted_number : (me c : Node) (x : ℕ) (fs : List Found) (o : List Line) → last_number me (onto o (granted me c x fs [])) ≡ last_number me o
granted_number me c x [] o = refl
granted_number me c x (f ∷ fs) o = granted_number me c x fs (lines.Grant me c f.fid f.vnode.index x ∷ o)

on_number : (me : Node) (vs : List Version) (o : List Line) → last_number me (on_top vs o) ≡ last_number me o
on_number me [] o = refl
on_number me (v ∷ vs) o = on_number me vs (lines.Version v ∷ o)

on_rising : (me : Node) (vs : List Version) (o : List Line) → Rising me o → Rising me (on_top vs o)
on_rising me [] o h = h
on_rising me (v ∷ vs) o h = on_rising me vs (lines.Version v ∷ o) h

abbrev pub saves_lines : Node → ServerState → ℕ → ℕ → Message → Change → List Line → List Line
saves_lines me x clock place m ch tail = lines.Given place ∷ lines.Change me (key_of m.head) (length (versions_made ch)) ∷ versioned (versions_made ch) (granted me m.head.from (clock + promise_ticks) (granted_in ch) tail)

saves_loads : (me : Node) (x : ServerState) (m : Message) (j clock place : ℕ) (cs : ℕ → Option Seat) (sent ms : List Message) (past : List Entry) (ch : Change) → BackedIn me None (expired clock x.backs) x.lasting.boot x.seats cs clock sent past → Runs me x m j → Runtime me x m place past
    → Loads me x.lasting.boot (call_seated (seat_for m.head (change_reply_to x.lasting.boot m.head clock ch)) x.seats) cs clock sent (of_server me (saves_lines me x clock place m ch (saves_turn me x clock (expired clock x.backs) m.head ch).lines) ms ∷ past) (saves_turn me x clock (expired clock x.backs) m.head ch)
saves_loads me x m j clock place cs sent ms past ch B run now =
    let b : Backs = expired clock x.backs in
    let boot : ℕ = x.lasting.boot in
    let c : Node = m.head.from in
    let k : Key = key_of m.head in
    let vs : List Version = versions_made ch in
    let t : CallbackStep = saves_turn me x clock b m.head ch in
    let ps : List Promise = b.lists.promises in
    let os : List Owed = owes_from b.lists.last_owed (hits c vs ps) in
    let fs : List Found = granted_in ch in
    let y : ℕ = clock + promise_ticks in
    let tl : List Line = granted me c y fs t.lines in
    let l : Line = lines.Change me k (length vs) in
    let e : Entry = of_server me (saves_lines me x clock place m ch t.lines) ms in
    let z : Carried = carried_by y (change_reply ch.id ch.caller (time_in (stored_by clock ch)) (result ch) ch.shown ch.call) in
    let r : Message = replied boot m.head z in
    let seat : Seat = seat_for m.head r in
    let hd : Held = record { reply = r; waits = break_numbers os ++ alls b.lists.owed; again = false } in
    let front : List Line = lines.Given place ∷ l ∷ versioned vs [] in
    let pre : List Line = lines.Given place ∷ l ∷ versioned vs (granted me c y fs []) in
    let fronted : e.lines ≡ front ++ tl = ap (λ (ls : List Line). lines.Given place ∷ l ∷ ls) (versioned_front vs [] tl) in
    let are : e.lines ≡ pre ++ t.lines = ap (λ (ls : List Line). lines.Given place ∷ l ∷ ls) (ap (versioned vs) (granted_front me c y fs t.lines) ∙ versioned_front vs (granted me c y fs []) t.lines) in
    let base : List Line = on_top vs (l ∷ lines.Given place ∷ lines_of past) in
    let mid : List Line = onto base (granted me c y fs []) in
    let on : lines_of (e ∷ past) ≡ onto mid t.lines = onto_versioned vs tl (l ∷ lines.Given place ∷ lines_of past) ∙ onto_granted me c y fs t.lines base in
    let above = run_above me x m j run in
    let still : all_lines is_still front ≡ true = versions_lines is_still vs [] (λ v. refl) refl in
    let low : last_number me mid ≡ b.lists.last_owed = granted_number me c y fs base ∙ (on_number me vs (l ∷ lines.Given place ∷ lines_of past) ∙ B.numbered) in
    record {
      backed = change_loaded me c b t.backs.lists.promises t.backs.lists.last_owed boot x.seats (call_seated seat x.seats) cs clock sent e past pre os hd m B
          (left_granted me c b.lists.last_owed y vs ps fs e past front fronted still (versions_lines (is_up me) vs [] (λ v. refl) refl) (versions_lines is_oweless vs [] (λ v. refl) refl) (B.granted refl)) (left_promised me c b.lists.last_owed y clock vs ps fs e past front fronted still (promised_given me None ps clock e past B.promised))
          (subst (λ (ls : List Line). last_number me ls ≡ t.backs.lists.last_owed) (sym on) (numbers_rise me b.lists.last_owed (hits c vs ps) mid low))
          (subst (Rising me) (sym on) (owes_rising me b.lists.last_owed (hits c vs ps) mid low (rising_back me (granted me c y fs []) base (granted_all me is_oweless c y fs (λ f i. refl)) (on_rising me vs (l ∷ lines.Given place ∷ lines_of past) B.rising))))
          (record {
            promised = subst (λ (n : Node). AllOf (λ (p : Promise). IsClient p.client) (with_promises n y fs (staying c vs ps))) (sym run.from) (granted_to_client y j fs (staying c vs ps) (all_left (λ (p : Promise). IsClient p.client) c vs ps (B.clients refl).promised));
            owed = owes_to_clients b.lists.last_owed (hits c vs ps) (all_hits (λ (p : Promise). IsClient p.client) c vs ps (B.clients refl).promised);
          })
          (record {
            are = are;
            up = versions_lines (is_up me) vs (granted me c y fs []) (λ v. refl) (granted_all me (is_up me) c y fs (λ f i. refl));
            still = λ n ne. versions_lines (is_still_to n) vs (granted me c y fs []) (λ v. refl) (granted_all me (is_still_to n) c y fs (λ f i. ap not (node_apart c n (λ q. ne (sym q)))));
            oweless = versions_lines is_oweless vs (granted me c y fs []) (λ v. refl) (granted_all me is_oweless c y fs (λ f i. refl));
            given = now.given;
            key = refl;
            above = above;
            seat = λ n u w. seat_before seat x.seats n u w above;
            reply = new_reply me x m j (e ∷ past) z hd.waits run (carried_reply y (change_reply ch.id ch.caller (time_in (stored_by clock ch)) (result ch) ch.shown ch.call));
            changed = λ key u. elim (on_changed key vs (l ∷ lines.Given place ∷ lines_of past) (change_back key (granted me c y fs []) base (granted_all me is_unchanging c y fs (λ f i. refl)) (change_back key t.lines mid (owes_unchanging me os) (subst (HasChange key) on u)))) [
              | inl same ↦ inr (subst (λ (i : Key). Above (call_seat i.node x.seats) i.epoch i.number) same above)
              | inr old ↦ inl old
            ];
            owes = all_new me c (lines_of past) b.lists.last_owed (hits c vs ps) (all_hits (IsGranted me (lines_of past)) c vs ps (B.granted refl)) (hits_other c vs ps);
            own = λ i u. number_front i (break_numbers os) (alls b.lists.owed) u;
            all = λ i u. number_second i (break_numbers os) (alls b.lists.owed) u;
          });
      sends = none_sent me _ boot (e ∷ past);
      own = tt;
    }

-- ---- a kept reply is sent again

abbrev again_held : Message → List ℕ → Held
again_held reply ws = record { reply = reply; waits = ws; again = true }

-- the reply that a seat keeps
pub record IsKept (me : Node) (x : ServerState) (reply : Message) : Type 0 where
  pub client : ℕ
  pub seat : Seat
  pub at : call_seat (Client client) x.seats ≡ Some seat
  pub kept : seat.reply ≡ Some reply
  pub is : IsReplyOf me (Client client) seat reply
  pub answers : OfReply ⊥ reply.carried → ⊥

kept_not : (me : Node) (x : ServerState) (reply : Message) (k : IsKept me x reply) → Above (call_seat reply.head.to x.seats) reply.head.epoch reply.head.number → ⊥
kept_not me x reply k above = below_not k.seat.epoch k.seat.number reply.head.epoch reply.head.number (subst (λ (o : Option Seat). Above o reply.head.epoch reply.head.number) (ap (λ (n : Node). call_seat n x.seats) k.is.to ∙ k.at) above) (up_to_same _ _ _ _ k.is.epoch k.is.number)

repeat_loads : (me : Node) (x : ServerState) (clock place : ℕ) (b : Backs) (cs : ℕ → Option Seat) (sent ms : List Message) (past : List Entry) (reply : Message) (ws : List ℕ) → BackedIn me None b x.lasting.boot x.seats cs clock sent past → IsKept me x reply
    → AllOwes me (WaitedBy me (again_held reply ws) clock) (of_server me (lines.Given place ∷ []) ms ∷ past) → (HasChange (key_answered reply) (lines_of past) → AllOwes me (AllWaitedBy me (again_held reply ws) clock) (of_server me (lines.Given place ∷ []) ms ∷ past))
    → Loads me x.lasting.boot x.seats cs clock sent (of_server me (lines.Given place ∷ []) ms ∷ past) (asked_again b reply ws)
repeat_loads me x clock place b cs sent ms past reply ws B k own all =
    let e : Entry = of_server me (lines.Given place ∷ []) ms in
    record {
      backed = run_loaded me b b.lists.promises x.lasting.boot x.seats x.seats cs clock sent e past (again_held reply ws) B refl refl refl (granted_over me e past b.lists.promises refl refl refl (B.granted refl)) (B.clients refl).promised (promised_over me None b.lists.promises clock clock e past refl (le_refl _) B.promised) (λ n y z w. w)
          (record { client = k.client; to = k.is.to; from = k.is.from; is_reply = k.answers; under = kept_not me x reply k }) own all;
      sends = none_sent me _ x.lasting.boot (e ∷ past);
      own = tt;
    }

-- where none waits under its key
first_loads : (me : Node) (x : ServerState) (clock place : ℕ) (b : Backs) (cs : ℕ → Option Seat) (sent ms : List Message) (past : List Entry) (reply : Message) (ws : List ℕ) → BackedIn me None b x.lasting.boot x.seats cs clock sent past → IsKept me x reply → held_under (key_answered reply) b.held ≡ None
    → (HasChange (key_answered reply) (lines_of past) → (n : ℕ) → IsNumberIn n (alls b.lists.owed) → IsNumberIn n ws) → Loads me x.lasting.boot x.seats cs clock sent (of_server me (lines.Given place ∷ []) ms ∷ past) (asked_again b reply ws)
first_loads me x clock place b cs sent ms past reply ws B k none all =
    let e : Entry = of_server me (lines.Given place ∷ []) ms in
    repeat_loads me x clock place b cs sent ms past reply ws B k (own_waited me b x.lasting.boot x.seats cs clock sent e past (again_held reply ws) B refl (λ y. not_held (key_answered reply) b.held none y))
    (λ y. all_waited me b x.lasting.boot x.seats cs clock sent e past (again_held reply ws) B (all y) (λ u w f what n line. absurd (no_owe e.lines u w me f what n refl line)))

-- where one waits, for the same
second_loads : (me : Node) (x : ServerState) (clock place : ℕ) (b : Backs) (cs : ℕ → Option Seat) (sent ms : List Message) (past : List Entry) (reply : Message) (h : Held) → BackedIn me None b x.lasting.boot x.seats cs clock sent past → IsKept me x reply → held_under (key_answered reply) b.held ≡ Some h
    → Loads me x.lasting.boot x.seats cs clock sent (of_server me (lines.Given place ∷ []) ms ∷ past) (asked_again b reply h.waits)
second_loads me x clock place b cs sent ms past reply h B k at =
    let e : Entry = of_server me (lines.Given place ∷ []) ms in
    let w = held_waits (HeldWaits me x.seats clock past) (key_answered reply) b.held h at (B.waiting refl) in
    let same : key_answered h.reply ≡ key_answered reply = reply_key (key_answered reply) h.reply w.1 in
    let y : HeldWaits me x.seats clock (e ∷ past) h = plain_waits me x.seats x.seats clock clock e past h (given_plain me place) (le_refl _) (λ n u v z. z) w.0 in
    repeat_loads me x clock place b cs sent ms past reply h.waits B k
    (λ newer a older u z d what n split line boot v. y.own newer a older u z d what n split line boot (subst (λ (i : Key). IsCallUnder me i boot (given_message a.lines (sent_of older))) (sym same) v))
    (λ z. y.all (subst (λ (i : Key). HasChange i (lines_of past)) (sym same) z))

again_loads : (t : Bool) (me : Node) (x : ServerState) (clock place : ℕ) (b : Backs) (cs : ℕ → Option Seat) (sent ms : List Message) (past : List Entry) (reply : Message) (h : Held) → BackedIn me None b x.lasting.boot x.seats cs clock sent past → IsKept me x reply → held_under (key_answered reply) b.held ≡ Some h
    → Loads me x.lasting.boot x.seats cs clock sent (of_server me (lines.Given place ∷ []) ms ∷ past) (cond t (asked_again b reply h.waits) (no_turn b))
again_loads true me x clock place b cs sent ms past reply h B k at = second_loads me x clock place b cs sent ms past reply h B k at
again_loads false me x clock place b cs sent ms past reply h B k at = none_loads me b x.lasting.boot x.seats cs clock sent (of_server me (lines.Given place ∷ []) ms) past B (given_plain me place)

repeats_loads : (me : Node) (x : ServerState) (clock place : ℕ) (b : Backs) (cs : ℕ → Option Seat) (sent ms : List Message) (past : List Entry) (reply : Message) (held : Option Held) (good : Bool) → BackedIn me None b x.lasting.boot x.seats cs clock sent past → IsKept me x reply → held_under (key_answered reply) b.held ≡ held
    → (good ≡ false → IsNew (key_answered reply) (lines_of past)) → Loads me x.lasting.boot x.seats cs clock sent (of_server me (lines.Given place ∷ []) ms ∷ past) (repeats_by b reply held good)
repeats_loads me x clock place b cs sent ms past reply (Some h) good B k at new = again_loads (h.again && is_ready b.lists.owed h) me x clock place b cs sent ms past reply h B k at
repeats_loads me x clock place b cs sent ms past reply None true B k at new = first_loads me x clock place b cs sent ms past reply (alls b.lists.owed) B k at (λ y n z. z)
repeats_loads me x clock place b cs sent ms past reply None false B k at new = first_loads me x clock place b cs sent ms past reply [] B k at (λ y. absurd (no_change (key_answered reply) (lines_of past) (new refl) y))

-- the step tells nothing of it
repeated_by : (t : Bool) (b : Backs) (reply : Message) (h : Held) → (cond t (asked_again b reply h.waits) (no_turn b)).lines ≡ []
repeated_by true b reply h = refl
repeated_by false b reply h = refl

pub repeated_lines : (b : Backs) (reply : Message) (held : Option Held) (good : Bool) → (repeats_by b reply held good).lines ≡ []
repeated_lines b reply (Some h) good = repeated_by (h.again && is_ready b.lists.owed h) b reply h
repeated_lines b reply None true = refl
repeated_lines b reply None false = refl

repeats_lined : (me : Node) (x : ServerState) (clock place : ℕ) (cs : ℕ → Option Seat) (sent : List Message) (past : List Entry) (reply : Message) → BackedIn me None (expired clock x.backs) x.lasting.boot x.seats cs clock sent past → IsKept me x reply → (is_seat_of reply (call_seat reply.head.to x.lasting.kept) ≡ false → IsNew (key_answered reply) (lines_of past))
    → Loads me x.lasting.boot x.seats cs clock sent (of_server me (lines.Given place ∷ (turn_for me x clock (expired clock x.backs) (repeats reply)).lines) (pumped me x.lasting.boot (turn_for me x clock (expired clock x.backs) (repeats reply))).sent ∷ past) (turn_for me x clock (expired clock x.backs) (repeats reply))
repeats_lined me x clock place cs sent past reply B k new =
    let b : Backs = expired clock x.backs in
    let t : CallbackStep = turn_for me x clock b (repeats reply) in
    subst (λ (ls : List Line). Loads me x.lasting.boot x.seats cs clock sent (of_server me (lines.Given place ∷ ls) (pumped me x.lasting.boot t).sent ∷ past) t) (sym (repeated_lines b reply (held_under (key_answered reply) b.held) (is_seat_of reply (call_seat reply.head.to x.lasting.kept))))
    (repeats_loads me x clock place b cs sent _ past reply (held_under (key_answered reply) b.held) (is_seat_of reply (call_seat reply.head.to x.lasting.kept)) B k refl new)

-- ---- what a decision makes of them

-- the caller that is told its boot
boot_sends : (me : Node) (b : Backs) (boot place : ℕ) (ms : List Message) (past : List Entry) (head : Head) → head.to ≡ me → TurnSends me b boot (of_server me (lines.Given place ∷ []) ms ∷ past) (boot_told boot head ∷ [])
boot_sends me b boot place ms past head to = record { good = (record { sender = ap actors.Node (sym to); half = λ z. absurd z; reply = λ is nought k from. absurd is.1; gift = tt; key = tt }, tt); calls = (tt, tt); dones = (tt, tt) }

-- what holds of a call that the server has to decide on
pub record Facing (me : Node) (x : ServerState) (m : Message) (place : ℕ) (past : List Entry) : Type 0 where
  pub client : ℕ
  pub from : m.head.from ≡ Client client
  pub now : (j : ℕ) → Runs me x m j → Runtime me x m place past
  pub kept : (reply : Message) → admitted x.lasting.boot x.seats m.head ≡ pairs.kept reply → IsKept me x reply × (is_seat_of reply (call_seat reply.head.to x.lasting.kept) ≡ false → IsNew (key_answered reply) (lines_of past))

abbrev pub done_by : Node → ServerState → ℕ → ℕ → Decision → Backs → Entry
done_by me x clock place d b = of_server me (does me x clock place d (turn_for me x clock b d).lines).lines (pumped me x.lasting.boot (turn_for me x clock b d)).sent

pub does_loads : (me : Node) (x : ServerState) (m : Message) (clock place : ℕ) (d : Decision) (cs : ℕ → Option Seat) (sent : List Message) (past : List Entry) → BackedIn me None (expired clock x.backs) x.lasting.boot x.seats cs clock sent past → Facing me x m place past → Why me x m d
    → Loads me x.lasting.boot (does me x clock place d []).state.seats cs clock sent (done_by me x clock place d (expired clock x.backs) ∷ past) (turn_for me x clock (expired clock x.backs) d)
does_loads me x m clock place drops cs sent past B f y = none_loads me (expired clock x.backs) x.lasting.boot x.seats cs clock sent _ past B (given_plain me place)
does_loads me x m clock place (tells_boot head) cs sent past B f y = still_loads me (expired clock x.backs) x.lasting.boot x.seats cs clock sent _ _ past B (given_plain me place) (boot_sends me _ x.lasting.boot place _ past head (ap (λ (h : Head). h.to) y.0 ∙ y.1)) (record { from = ap (λ (h : Head). h.to) y.0 ∙ y.1; calls = tt; replies = tt }, tt)
does_loads me x m clock place (repeats reply) cs sent past B f y = let k = f.kept reply y.1 in repeats_lined me x clock place cs sent past reply B k.0 k.1
does_loads me x m clock place (refuses head code) cs sent past B f y =
    let r : Ran me x m f.client (refuses head code) = y f.client f.from in
    subst (λ (h : Head). Loads me x.lasting.boot (does me x clock place (refuses h code) []).state.seats cs clock sent (done_by me x clock place (refuses h code) (expired clock x.backs) ∷ past) (turn_for me x clock (expired clock x.backs) (refuses h code))) (sym r.why.0)
    (refuses_loads me x m f.client clock place (expired clock x.backs) cs sent _ past code B r.run (f.now f.client r.run).new)
does_loads me x m clock place (shows head r) cs sent past B f y =
    let q : Ran me x m y.0 (shows head r) = y.1 in
    subst (λ (h : Head). Loads me x.lasting.boot (does me x clock place (shows h r) []).state.seats cs clock sent (done_by me x clock place (shows h r) (expired clock x.backs) ∷ past) (turn_for me x clock (expired clock x.backs) (shows h r))) (sym q.why.0)
    (subst (λ (t : CallbackStep). Loads me x.lasting.boot (call_seated (seat_for m.head (read_reply_to x.lasting.boot m.head (clock + promise_ticks) r)) x.seats) cs clock sent (of_server me (lines.Given place ∷ granted me m.head.from (clock + promise_ticks) r.granted t.lines) (pumped me x.lasting.boot t).sent ∷ past) t) (sym (shows_turn_is me x clock (expired clock x.backs) m.head r))
    (shows_loads me x m y.0 clock place cs sent past r B q.run (f.now y.0 q.run) q.why.1.is))
does_loads me x m clock place (saves head ch) cs sent past B f y =
    let q : Ran me x m y.0 (saves head ch) = y.1 in
    subst (λ (h : Head). Loads me x.lasting.boot (does me x clock place (saves h ch) []).state.seats cs clock sent (done_by me x clock place (saves h ch) (expired clock x.backs) ∷ past) (turn_for me x clock (expired clock x.backs) (saves h ch))) (sym q.why.0)
    (subst (λ (t : CallbackStep). Loads me x.lasting.boot (call_seated (seat_for m.head (change_reply_to x.lasting.boot m.head clock ch)) x.seats) cs clock sent (of_server me (saves_lines me x clock place m ch t.lines) (pumped me x.lasting.boot t).sent ∷ past) t) (sym (saves_turn_is me x clock (expired clock x.backs) m.head ch))
    (saves_loads me x m y.0 clock place cs sent _ past ch B q.run (f.now y.0 q.run)))

-- ---- what the server does beside its decisions

-- its own call is answered
pub settles_loads : (t : Bool) (me : Node) (boot : ℕ) (b : Backs) (seats : List Seat) (cs : ℕ → Option Seat) (clock place : ℕ) (sent ms : List Message) (past : List Entry) (n : Node) (k : BackCall) → BackedIn me None b boot seats cs clock sent past → b.calls n ≡ Some k
    → Loads me boot seats cs clock sent (of_server me (lines.Given place ∷ (cond t (settles me n k b) (no_turn b)).lines) ms ∷ past) (cond t (settles me n k b) (no_turn b))
settles_loads true me boot b seats cs clock place sent ms past n k B at =
    let e : Entry = of_server me (lines.Given place ∷ (settles me n k b).lines) ms in
    record { backed = settles_backed me b boot seats cs clock sent e past n place k at refl B; sends = none_sent me _ boot (e ∷ past); own = tt }
settles_loads false me boot b seats cs clock place sent ms past n k B at = none_loads me b boot seats cs clock sent _ past B (given_plain me place)

settled_loads : (me : Node) (boot : ℕ) (b : Backs) (seats : List Seat) (cs : ℕ → Option Seat) (clock place : ℕ) (sent ms : List Message) (past : List Entry) (head : Head) (o : Option BackCall) → BackedIn me None b boot seats cs clock sent past → b.calls head.from ≡ o
    → Loads me boot seats cs clock sent (of_server me (lines.Given place ∷ (settles_by me boot head b o).lines) ms ∷ past) (settles_by me boot head b o)
settled_loads me boot b seats cs clock place sent ms past head None B at = none_loads me b boot seats cs clock sent _ past B (given_plain me place)
settled_loads me boot b seats cs clock place sent ms past head (Some k) B at = settles_loads (is_back_awaited boot k head) me boot b seats cs clock place sent ms past head.from k B at

-- or its node told another boot: it is sent again
renews_loads : (t : Bool) (me : Node) → IsServing me → (boot : ℕ) (b : Backs) (seats : List Seat) (cs : ℕ → Option Seat) (clock place : ℕ) (sent ms : List Message) (past : List Entry) (n : Node) (known : ℕ) (k : BackCall) → BackedIn me None b boot seats cs clock sent past → b.calls n ≡ Some k
    → Loads me boot seats cs clock sent (of_server me (lines.Given place ∷ (cond t (renews me boot n known k b) (no_turn b)).lines) ms ∷ past) (cond t (renews me boot n known k b) (no_turn b))
renews_loads true me serving boot b seats cs clock place sent ms past n known k B at =
    let e : Entry = of_server me (lines.Given place ∷ []) ms in
    let old : BackedIn me None b boot seats cs clock sent (e ∷ past) = still_backed me b boot seats cs clock sent e past (given_plain me place) B in
    record {
      backed = none_loaded me None (record b { known = put_at n known b.known }) boot seats cs clock sent (e ∷ past) (known_backed me b (put_at n known b.known) boot seats cs clock sent (e ∷ past) old);
      sends = record { good = break_good me (e ∷ past) boot n known k serving refl; calls = resent me b boot seats cs clock sent (e ∷ past) (e ∷ past) n known k b.calls old at (λ y w. ap (λ (u : BackCall). u.content) (some_of y k (sym w ∙ at))); dones = (tt, tt) };
      own = (break_is me boot n known k (B.outs refl n k at).client, tt);
    }
renews_loads false me serving boot b seats cs clock place sent ms past n known k B at = none_loads me b boot seats cs clock sent _ past B (given_plain me place)

renewed_loads : (me : Node) → IsServing me → (boot : ℕ) (b : Backs) (seats : List Seat) (cs : ℕ → Option Seat) (clock place : ℕ) (sent ms : List Message) (past : List Entry) (head : Head) (o : Option BackCall) → BackedIn me None b boot seats cs clock sent past → b.calls head.from ≡ o
    → Loads me boot seats cs clock sent (of_server me (lines.Given place ∷ (renews_by me boot head b o).lines) ms ∷ past) (renews_by me boot head b o)
renewed_loads me serving boot b seats cs clock place sent ms past head None B at = none_loads me b boot seats cs clock sent _ past B (given_plain me place)
renewed_loads me serving boot b seats cs clock place sent ms past head (Some k) B at = renews_loads (is_back_awaited boot k head) me serving boot b seats cs clock place sent ms past head.from head.boot k B at

-- a reply or a notice to another node does nothing
if_loads : (t : Bool) (me : Node) (boot : ℕ) (b : Backs) (seats : List Seat) (cs : ℕ → Option Seat) (clock place : ℕ) (sent ms : List Message) (past : List Entry) (x : CallbackStep) → BackedIn me None b boot seats cs clock sent past → Loads me boot seats cs clock sent (of_server me (lines.Given place ∷ x.lines) ms ∷ past) x
    → Loads me boot seats cs clock sent (of_server me (lines.Given place ∷ (cond t x (no_turn b)).lines) ms ∷ past) (cond t x (no_turn b))
if_loads true me boot b seats cs clock place sent ms past x B h = h
if_loads false me boot b seats cs clock place sent ms past x B h = none_loads me b boot seats cs clock sent _ past B (given_plain me place)

-- the answer to its own call
pub answered_loads : (me : Node) (boot : ℕ) (b : Backs) (seats : List Seat) (cs : ℕ → Option Seat) (clock place : ℕ) (sent ms : List Message) (past : List Entry) (head : Head) → BackedIn me None b boot seats cs clock sent past
    → Loads me boot seats cs clock sent (of_server me (lines.Given place ∷ (if_to me head b (settles_by me boot head b (b.calls head.from))).lines) ms ∷ past) (if_to me head b (settles_by me boot head b (b.calls head.from)))
answered_loads me boot b seats cs clock place sent ms past head B = if_loads (same_node head.to me) me boot b seats cs clock place sent ms past _ B (settled_loads me boot b seats cs clock place sent ms past head (b.calls head.from) B refl)

pub noticed_loads : (me : Node) → IsServing me → (boot : ℕ) (b : Backs) (seats : List Seat) (cs : ℕ → Option Seat) (clock place : ℕ) (sent ms : List Message) (past : List Entry) (head : Head) → BackedIn me None b boot seats cs clock sent past
    → Loads me boot seats cs clock sent (of_server me (lines.Given place ∷ (if_to me head b (renews_by me boot head b (b.calls head.from))).lines) ms ∷ past) (if_to me head b (renews_by me boot head b (b.calls head.from)))
noticed_loads me serving boot b seats cs clock place sent ms past head B = if_loads (same_node head.to me) me boot b seats cs clock place sent ms past _ B (renewed_loads me serving boot b seats cs clock place sent ms past head (b.calls head.from) B refl)

-- it is timed out
pub timed_loads : (t : Bool) (me : Node) → IsServing me → (boot : ℕ) (b : Backs) (seats : List Seat) (cs : ℕ → Option Seat) (clock : ℕ) (sent ms : List Message) (past : List Entry) (n : Node) (k : BackCall) → BackedIn me None b boot seats cs clock sent past → b.calls n ≡ Some k
    → Loads me boot seats cs clock sent (of_server me (cond t (retries me boot n k b) (quits me boot n k b)).lines ms ∷ past) (cond t (retries me boot n k b) (quits me boot n k b))
timed_loads true me serving boot b seats cs clock sent ms past n k B at =
    let e : Entry = of_server me (retries me boot n k b).lines ms in
    let more : BackCall = record k { tries = k.tries + 1 } in
    record {
      backed = retries_backed me b boot seats cs clock sent e past n k at refl B;
      sends = record {
        good = break_good me (e ∷ past) boot n (b.known n) k serving refl;
        calls = resent me b boot seats cs clock sent past (e ∷ past) n (b.known n) k (put_at n (Some more) b.calls) B at (λ y w. put_call n n more y b.calls _ w (λ u v. ap (λ (z : BackCall). z.content) (sym v)) (λ u. ap (λ (z : BackCall). z.content) (some_of y k (sym u ∙ at))));
        dones = (tt, tt);
      };
      own = (break_is me boot n (b.known n) k (B.outs refl n k at).client, tt);
    }
timed_loads false me serving boot b seats cs clock sent ms past n k B at =
    let e : Entry = of_server me (quits me boot n k b).lines ms in
    record { backed = quits_backed me b boot seats cs clock sent e past n k at refl B; sends = none_sent me _ boot (e ∷ past); own = tt }
