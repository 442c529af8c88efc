use Rattle.law_legal.proofs.OwedLoadBreaks.{clock_back, IsHit, alls_good, all_hits, filtered, has_owe, hits_hit, is_tickless, numbers_good, rise_loaded, touched_hit, owes_tickless, onto_both}
use Rattle.law_legal.proofs.OwedLoad.{down_later, quits_good, IsReplied, settles_good, two_all}
use Rattle.spec_breaks.specs.declared.types.Promise.{Promise}
use Rattle.spec_breaks.specs.Promises.{owes_from}
use Rattle.spec_history.specs.declared.lines.Line.{Line}
use Rattle.spec_history.specs.declared.lines.Line.TheVariants as lines
use Rattle.spec_history.specs.declared.scripts.Script.{Script}
use Rattle.spec_ideal.specs.Operations.{Found}
use Rattle.law_legal.proofs.OwedPasses.{all_lines, is_oweless, is_still}
use Rattle.law_legal.proofs.BaseLaws.{Each, IfCall, IfDone, OfCall, OfReply, OfServer, both, by_server, each_at, same_node-refl, not_loc}
use Rattle.law_legal.proofs.ServerBoots.{HasFront, all_same, disk_front, owes_standing}
use Rattle.law_legal.proofs.OwedBySteps.{IsMessage, Loads, of_server, repeated_lines, saves_lines}
use Rattle.law_legal.proofs.VolumeEdits.{on_top}
use Rattle.law_legal.proofs.OwedFacts.{BackedIn, DoneIn, IsDone, IsGranted, all_map, Numbered}
use Rattle.law_legal.proofs.PromisesAreGood.{is_file, over_stopped}
use Rattle.law_legal.proofs.PromiseLists.{Owed, hits, risen_as, risen_is, saves_turn, saves_turn_is}
use Rattle.law_legal.proofs.ServerReasons.{Why, why_hears}
use Rattle.law_legal.proofs.ServerSaves.{first_on, granted_others, granted_stopped, on_others}
use Rattle.law_legal.proofs.RunClock.{lines_told}
use Rattle.law_legal.specs.Breaks.{HasOwe, HasStopped, last_number, kept_until, lines_with_gifts}
use Rattle.law_legal.specs.Ideal.{clock_of}
use Rattle.law_legal.specs.Grants.{IsChangedByOther}
use Rattle.law_legal.specs.Legal.{AreGoodSent, IsChanged, IsUnbroken, versions_first}
use Rattle.law_legal.specs.Parts.{EachLine}
use Rattle.law_legal.specs.Past.{HasCode, given_message, lines_of, onto, server_boot, boot_risen, sent_of}
use Rattle.law_legal.specs.ServerParts.{IsBreakGood}
use Rattle.spec_model.specs.Calls.{call_seat, key_of}
use Rattle.afs_num.specs.Nodes.{same_node}
use Rattle.afs_num.specs.declared.histories.Actor.{Actor}
use Rattle.afs_num.specs.declared.histories.Actor.TheVariants as actors
use Rattle.afs_num.specs.declared.histories.Version.{Version}
use Rattle.afs_num.specs.declared.messages.Call.TheVariants as ask
use Rattle.afs_num.specs.declared.messages.Carried.{Carried}
use Rattle.afs_num.specs.declared.messages.Carried.TheVariants as carried
use Rattle.afs_num.specs.declared.messages.Message.{Message}
use Rattle.afs_num.specs.declared.messages.Received.TheVariants.{Whole}
use Rattle.afs_num.specs.declared.types.Fid.{Fid}
use Rattle.afs_num.specs.declared.types.Head.{Head}
use Rattle.afs_num.specs.declared.types.Key.{Key}
use Rattle.afs_num.specs.declared.types.Node.{Node}
use Rattle.afs_num.specs.declared.types.Node.TheVariants.{Client, Server}
use Rattle.spec_rows.specs.Callbacks.{CallbackStep, expired, is_back_awaited, is_seat_of, key_answered, no_turn, owe_line, pumped, quits, retries, settles, settles_by, still_owed, turn_for, held_under, if_to, quit_line, renews, renews_by, settle_line}
use Rattle.spec_rows.specs.Runs.{Cell, Entry, Fall, at_rest, begun_by_disk, in_boot, in_step, message_at}
use Rattle.spec_rows.specs.ServerRow.{Change, Decision, begun_after, decides, does, drops, granted, granted_in, hears, versions_made, promise_ticks, refuses, repeats, saves, shows, tells_boot, versioned}
use Rattle.spec_rows.specs.ServerSteps.{back_timeout_row, server_row, start_row, wake_row}
use Rattle.spec_rows.specs.States.{BackCall, Backs, Seat, ServerState}
use Rattle.spec_rows.specs.Steps.{Begun}
use Rattle.law_legal.proofs.BaseWords.{IsOne, up_boot}
use Rattle.law_legal.proofs.ServerHears.{HearsIn}
use Rattle.std.proofs.Common.{◌≡◌, ℕ, ◌+◌, ◌<◌, ◌≤◌, inl, Bool, true, false, cond, nat_lt, List, [], ◌∷◌, ◌++◌, map, length, Option, Some, None, refl, sym, ap, subst, ◌∙◌, arith, le_of_eq, ltb-true, eqb-true}
use Rattle.std.proofs.lemmas.List.{append_assoc}
use Rattle.std.specs.Prelude.{⊤}
use Rattle.law_legal.proofs.OwedRules.{Breaks, Ends, HostStep, UpAt, ends, free_rule, given_step, granted_rules, is_free, rules_of, up_at, versions_rules}

-- ---- it begins again

down_seats : (me : Node) (fall : Fall) (b : Backs) (boot : ℕ) (seats now : List Seat) (cs : ℕ → Option Seat) (clock : ℕ) (sent : List Message) (past : List Entry) → BackedIn me (Some fall) b boot seats cs clock sent past → BackedIn me (Some fall) b boot now cs clock sent past
down_seats me fall b boot seats now cs clock sent past h = record { granted = h.granted; promised = h.promised; numbered = h.numbered; rising = h.rising; clients = h.clients; accounted = h.accounted; owing = h.owing; waiting = λ x. absurd cc; outs = h.outs; calls = h.calls; dones = h.dones; seated = h.seated }

abbrev pub FoundAt : Node → Begun ServerState → Fall → (ℕ → Option Seat) → ℕ → List Message → List Entry → Type 0
FoundAt me f fall cs clock sent past = BackedIn me (Some fall) f.state.backs f.state.lasting.boot f.state.seats cs clock sent past

after_found : (me : Node) (x : ServerState) (time : ℕ) (d : Decision) (fall : Fall) (cs : ℕ → Option Seat) (clock : ℕ) (sent : List Message) (past : List Entry) → BackedIn me (Some fall) x.backs x.lasting.boot x.seats cs clock sent past → FoundAt me (begun_after me x time d) fall cs clock sent past
after_found me x time (saves head ch) fall cs clock sent past h = down_seats me fall x.backs x.lasting.boot x.seats _ cs clock sent past h
after_found me x time drops fall cs clock sent past h = h
after_found me x time (tells_boot head) fall cs clock sent past h = h
after_found me x time (repeats reply) fall cs clock sent past h = h
after_found me x time (refuses head code) fall cs clock sent past h = h
after_found me x time (shows head r) fall cs clock sent past h = h

-- in what the disk has
pub disk_found : (me : Node) (x : ServerState) (after : Bool) (fall : Fall) (cs : ℕ → Option Seat) (clock : ℕ) (sent : List Message) (past : List Entry) → BackedIn me (Some fall) x.backs x.lasting.boot x.seats cs clock sent past → FoundAt me (begun_by_disk me x after fall) fall cs clock sent past
disk_found me x after at_rest cs clock sent past h = h
disk_found me x false (in_step m time hit) cs clock sent past h = h
disk_found me x true (in_step m time hit) cs clock sent past h = after_found me x time (decides me x time (Whole m)) (in_step m time hit) cs clock sent past h
disk_found me x false in_boot cs clock sent past h = h
disk_found me x true in_boot cs clock sent past h = down_later me (Some in_boot) x.backs x.lasting.boot x.seats x.lasting.kept cs clock sent past in_boot (λ z. absurd cc) h

begun_lines : (q : Line → Bool) → ((s : Node) (k : Key) (n : ℕ) → q (lines.Change s k n) ≡ true) → ((v : Version) → q (lines.Version v) ≡ true) → (me : Node) (x : ServerState) (time : ℕ) (d : Decision) (ls : List Line) → all_lines q ls ≡ true → all_lines q ((begun_after me x time d).before ls) ≡ true
begun_lines q u w me x time (saves head ch) ls h = rw (u me (key_of head) (length (versions_made ch)), lines_told q w (versions_made ch) ls h) refl
begun_lines q u w me x time drops ls h = h
begun_lines q u w me x time (tells_boot head) ls h = h
begun_lines q u w me x time (repeats reply) ls h = h
begun_lines q u w me x time (refuses head code) ls h = h
begun_lines q u w me x time (shows head r) ls h = h

-- the lines of what was found, before others
pub disk_lines : (q : Line → Bool) → ((s : Node) (k : Key) (n : ℕ) → q (lines.Change s k n) ≡ true) → ((v : Version) → q (lines.Version v) ≡ true) → (me : Node) (x : ServerState) (after : Bool) (fall : Fall) (ls : List Line) → all_lines q ls ≡ true → all_lines q ((begun_by_disk me x after fall).before ls) ≡ true
disk_lines q u w me x after at_rest ls h = h
disk_lines q u w me x false (in_step m time hit) ls h = h
disk_lines q u w me x true (in_step m time hit) ls h = begun_lines q u w me x time (decides me x time (Whole m)) ls h
disk_lines q u w me x false in_boot ls h = h
disk_lines q u w me x true in_boot ls h = h

versions_given : (vs : List Version) (ls : List Line) (sent : List Message) → given_message (versioned vs ls) sent ≡ given_message ls sent
versions_given [] ls sent = refl
versions_given (v ∷ vs) ls sent = versions_given vs ls sent

after_given : (me : Node) (x : ServerState) (time : ℕ) (d : Decision) (ls : List Line) (sent : List Message) → given_message ((begun_after me x time d).before ls) sent ≡ given_message ls sent
after_given me x time (saves head ch) ls sent = versions_given (versions_made ch) ls sent
after_given me x time drops ls sent = refl
after_given me x time (tells_boot head) ls sent = refl
after_given me x time (repeats reply) ls sent = refl
after_given me x time (refuses head code) ls sent = refl
after_given me x time (shows head r) ls sent = refl

disk_given : (me : Node) (x : ServerState) (after : Bool) (fall : Fall) (ls : List Line) (sent : List Message) → given_message ((begun_by_disk me x after fall).before ls) sent ≡ given_message ls sent
disk_given me x after at_rest ls sent = refl
disk_given me x false (in_step m time hit) ls sent = refl
disk_given me x true (in_step m time hit) ls sent = after_given me x time (decides me x time (Whole m)) ls sent
disk_given me x false in_boot ls sent = refl
disk_given me x true in_boot ls sent = refl

owes_given : (me : Node) (os : List Owed) (sent : List Message) → given_message (map (owe_line me) os) sent ≡ None
owes_given me [] sent = refl
owes_given me (o ∷ os) sent = owes_given me os sent

rises_by : (t : Bool) (o : Option ℕ) (boot : ℕ) → t ≡ true → o ≡ None → cond t (boot_risen o boot) o ≡ Some boot
rises_by true o boot e none = ap (λ (p : Option ℕ). boot_risen p boot) none
rises_by false o boot e none = absurd cc

down_none : (c : Cell) (past : List Entry) (i : ℕ) (fall : Fall) → HearsIn c past → (c.hosts i).down ≡ Some fall → server_boot (Server i) (lines_of past) ≡ None
down_none c past i fall H down = H.boots.now i ∙ ap (λ (d : Option Fall). up_boot d (c.hosts i).state.lasting.boot) down

pub started_step : (s : Script) (c : Cell) (past : List Entry) (i : ℕ) (after : Bool) (fall : Fall) → (B : Breaks s c past) → (c.hosts i).down ≡ Some fall
    → HostStep s c past i (start_row (Server i) c.clock c.count (begun_by_disk (Server i) (c.hosts i).state after fall))
    × AreGoodSent (of_server (Server i) (start_row (Server i) c.clock c.count (begun_by_disk (Server i) (c.hosts i).state after fall)).lines (start_row (Server i) c.clock c.count (begun_by_disk (Server i) (c.hosts i).state after fall)).sent ∷ past) (start_row (Server i) c.clock c.count (begun_by_disk (Server i) (c.hosts i).state after fall)).sent
unfolding start_row
started_step s c past i after fall B down =
    let x : ServerState = (c.hosts i).state in
    let cs : ℕ → Option Seat = λ j. call_seat (Server i) (c.clients j).seats in
    let f : Begun ServerState = begun_by_disk (Server i) x after fall in
    let boot : ℕ = f.state.lasting.boot + 1 in
    let l : Line = lines.Restart (Server i) boot in
    let front : List Line = f.before [] in
    let pre : List Line = front ++ l ∷ [] in
    let k : HasFront f = disk_front (Server i) x after fall in
    let found : FoundAt (Server i) f fall cs c.clock c.sent past = disk_found (Server i) x after fall cs c.clock c.sent past (subst (λ (d : Option Fall). BackedIn (Server i) d x.backs x.lasting.boot x.seats cs c.clock c.sent past) down (B.backed.all i)) in
    let pres : (q : Line → Bool) → ((n : Node) (key : Key) (z : ℕ) → q (lines.Change n key z) ≡ true) → ((v : Version) → q (lines.Version v) ≡ true) → q l ≡ true → all_lines q pre ≡ true = λ q u w z. ap (all_lines q) (sym (k.before (l ∷ []))) ∙ disk_lines q u w (Server i) x after fall (l ∷ []) (rw z refl) in
    let wide : CallbackStep → Type 0 = λ t.
    (Each (IsMessage (Server i)) (pumped (Server i) boot t).sent × BackedIn (Server i) None (pumped (Server i) boot t).backs boot f.state.lasting.kept cs c.clock (c.sent ++ (pumped (Server i) boot t).sent) (of_server (Server i) (f.before (l ∷ t.lines)) (pumped (Server i) boot t).sent ∷ past))
    × AreGoodSent (of_server (Server i) (f.before (l ∷ t.lines)) (pumped (Server i) boot t).sent ∷ past) (pumped (Server i) boot t).sent in
    subst wide (sym (risen_is (Server i) c.clock c.count))
    (let t : CallbackStep = risen_as (Server i) c.clock c.count in
    let ls : List Line = f.before (l ∷ t.lines) in
    let e : Entry = of_server (Server i) ls (pumped (Server i) boot t).sent in
    let are : ls ≡ pre ++ t.lines = k.before (l ∷ t.lines) ∙ sym (append_assoc front (l ∷ []) t.lines) in
    let stand : server_boot (Server i) (onto (lines_of past) ls) ≡ Some boot =
    ap (λ (ys : List Line). server_boot (Server i) (onto (lines_of past) ys)) (k.before (l ∷ t.lines))
    ∙ (ap (server_boot (Server i)) (onto_both (lines_of past) front (l ∷ t.lines))
    ∙ ((all_same i t.lines (l ∷ onto (lines_of past) front) (owes_standing (Server i) t.backs.lists.owed)).boot
    ∙ rises_by (same_node (Server i) (Server i)) (server_boot (Server i) (onto (lines_of past) front)) boot (same_node-refl (Server i)) ((all_same i front (lines_of past) k.standing).boot ∙ down_none c past i fall B.held.0.0.0.hears down))) in
    let time : clock_of (onto (lines_of past) ls) ≡ c.clock = clock_back ls (lines_of past) (disk_lines is_tickless (λ n key z. refl) (λ v. refl) (Server i) x after fall (l ∷ t.lines) (owes_tickless (Server i) t.backs.lists.owed)) ∙ B.held.1 in
    let loads : Loads (Server i) boot f.state.lasting.kept cs c.clock c.sent (e ∷ past) t = record {
      backed = rise_loaded (Server i) c.count (Some fall) f.state.backs f.state.lasting.boot f.state.seats f.state.lasting.kept cs c.clock c.sent e past pre (λ z. absurd cc) found B.held.1 are (pres is_oweless (λ n key z. refl) (λ v. refl) refl) (pres is_tickless (λ n key z. refl) (λ v. refl) refl) (pres is_still (λ n key z. refl) (λ v. refl) refl) (disk_given (Server i) x after fall (l ∷ t.lines) (sent_of past) ∙ owes_given (Server i) t.backs.lists.owed (sent_of past));
      sends = record { good = tt; calls = tt; dones = tt };
      own = tt;
    } in
    let q : Ends c past i boot f.state.lasting.kept ls t = ends c past i boot f.state.lasting.kept ls t B.held.0.0.0.hears.told time stand loads in
    ((q.1, q.0.backed), q.0.good))

-- ---- the lines of a server's step

owe_behind : (me c : Node) (what : Option Fid) (vs : List Version) (tail : List Line) → HasOwe me c what tail → HasOwe me c what (versioned vs tail)
owe_behind me c what [] tail h = h
owe_behind me c what (v ∷ vs) tail h = owe_behind me c what vs tail h

owe_granted : (me c d : Node) (what : Option Fid) (x : ℕ) (fs : List Found) (tail : List Line) → HasOwe me c what tail → HasOwe me c what (granted me d x fs tail)
owe_granted me c d what x [] tail h = h
owe_granted me c d what x (f ∷ fs) tail h = owe_granted me c d what x fs tail h

no_versions : (me d : Node) (x : ℕ) (fs : List Found) (os : List Owed) → versions_first (granted me d x fs (map (owe_line me) os)) ≡ []
no_versions me d x [] [] = refl
no_versions me d x [] (o ∷ os) = refl
no_versions me d x (f ∷ fs) os = refl

granted_top : (me d : Node) (x : ℕ) (fs : List Found) (own o : List Line) → last_number me (onto own (granted me d x fs []) ++ o) ≡ last_number me (own ++ o)
granted_top me d x [] own o = refl
granted_top me d x (f ∷ fs) own o = granted_top me d x fs (lines.Grant me d f.fid f.vnode.index x ∷ own) o

versions_top : (me : Node) (vs : List Version) (own o : List Line) → last_number me (on_top vs own ++ o) ≡ last_number me (own ++ o)
versions_top me [] own o = refl
versions_top me (v ∷ vs) own o = versions_top me vs (lines.Version v ∷ own) o

saves_rules : (s : Script) (c : Cell) (past : List Entry) (i place : ℕ) (m : Message) (ch : Change) → (B : Breaks s c past) → (c.hosts i).down ≡ None
    → EachLine (IsBreakGood s) (actors.Node (Server i)) past [] (saves_lines (Server i) (c.hosts i).state c.clock place m ch (saves_turn (Server i) (c.hosts i).state c.clock (expired c.clock (c.hosts i).state.backs) m.head ch).lines)
saves_rules s c past i place m ch B up =
    let me : Node = Server i in
    let who : Actor = actors.Node me in
    let x : ServerState = (c.hosts i).state in
    let b : Backs = expired c.clock x.backs in
    let n : Node = m.head.from in
    let k : Key = key_of m.head in
    let vs : List Version = versions_made ch in
    let ps : List Promise = b.lists.promises in
    let os : List Owed = owes_from b.lists.last_owed (hits n vs ps) in
    let fs : List Found = granted_in ch in
    let y : ℕ = c.clock + promise_ticks in
    let owes : List Line = map (owe_line me) os in
    let tl : List Line = granted me n y fs owes in
    let front : List Line = lines.Change me k (length vs) ∷ lines.Given place ∷ [] in
    let own : List Line = onto (on_top vs front) (granted me n y fs []) in
    let U : UpAt c past i = up_at s c past i B.backed up in
    let first : versions_first (versioned vs tl) ≡ vs = first_on vs tl (no_versions me n y fs os) in
    let owed : IsBreakGood s who (lines.Change me k (length vs)) past (lines.Given place ∷ []) (versioned vs tl) = λ j f z ne changed l t.
    owe_behind me (Client j) (Some f) vs tl (owe_granted me (Client j) n (Some f) y fs owes
    (has_owe me (Client j) f z b.lists.last_owed (hits n vs ps) (touched_hit n (Client j) f z vs ps ne (subst (IsChanged f) first changed) (U.promised (Client j) f z l (subst (λ (u : ℕ). u < z) B.held.1 t)).1))) in (
      tt,
      (
        owed,
        versions_rules s who past front vs tl (granted_rules s who past (on_top vs front) me n y fs owes (rules_of s who past own owes
            (numbers_good me refl s b.lists.last_owed (hits n vs ps) past own (granted_top me n y fs (on_top vs front) (lines_of past) ∙ (versions_top me vs front (lines_of past) ∙ U.numbered))
            (granted_stopped me me n y fs (on_top vs front) (λ z. over_stopped me vs front z))
            (all_map (IsHit n vs) (λ (o : Promise). IsChangedByOther me o.client o.fid own) (λ o z. granted_others me o.client me n o.fid y fs (on_top vs front) (on_others me o.client o.fid vs front (refl, λ q. z.1 (sym q)) z.0)) (hits n vs ps) (hits_hit n vs ps))
            (two_all (IsGranted me (lines_of past)) (λ (o : Promise). c.clock < o.expiry) (λ (o : Promise). IsUnbroken me o.client o.fid past) (λ o was lasts. (o.expiry, (was, subst (λ (u : ℕ). u < o.expiry) (sym B.held.1) lasts))) (hits n vs ps) (all_hits (IsGranted me (lines_of past)) n vs ps (U.granted refl))
            (all_hits (λ (o : Promise). c.clock < o.expiry) n vs ps (all_map (λ (o : Promise). nat_lt c.clock o.expiry ≡ true) (λ (o : Promise). c.clock < o.expiry) (λ o lasts. ltb-true _ _ lasts) ps (filtered (λ o. nat_lt c.clock o.expiry) x.backs.lists.promises))))))),
      ),
    )

abbrev DoesRules : Script → Cell → List Entry → ℕ → ℕ → Decision → List Line → Type 0
DoesRules s c past i place d tail = EachLine (IsBreakGood s) (actors.Node (Server i)) past [] (does (Server i) (c.hosts i).state c.clock place d tail).lines

does_rules : (s : Script) (c : Cell) (past : List Entry) (i place : ℕ) (m : Message) (d : Decision) → (B : Breaks s c past) → (c.hosts i).down ≡ None → Why (Server i) (c.hosts i).state m d → DoesRules s c past i place d (turn_for (Server i) (c.hosts i).state c.clock (expired c.clock (c.hosts i).state.backs) d).lines
does_rules s c past i place m drops B up y = (tt, tt)
does_rules s c past i place m (tells_boot head) B up y = (tt, tt)
does_rules s c past i place m (repeats reply) B up y =
    let b : Backs = expired c.clock (c.hosts i).state.backs in
    (tt, subst (EachLine (IsBreakGood s) (actors.Node (Server i)) past (lines.Given place ∷ [])) (sym (repeated_lines b reply (held_under (key_answered reply) b.held) (is_seat_of reply (call_seat reply.head.to (c.hosts i).state.lasting.kept)))) tt)
does_rules s c past i place m (refuses head code) B up y = (tt, tt)
does_rules s c past i place m (shows head r) B up y = (tt, granted_rules s (actors.Node (Server i)) past (lines.Given place ∷ []) (Server i) head.from (c.clock + promise_ticks) r.granted [] tt)
does_rules s c past i place m (saves head ch) B up y =
    let b : Backs = expired c.clock (c.hosts i).state.backs in
    subst (λ (h : Head). DoesRules s c past i place (saves h ch) (turn_for (Server i) (c.hosts i).state c.clock b (saves h ch)).lines) (sym y.1.why.0)
    (subst (λ (t : CallbackStep). EachLine (IsBreakGood s) (actors.Node (Server i)) past [] (saves_lines (Server i) (c.hosts i).state c.clock place m ch t.lines)) (sym (saves_turn_is (Server i) (c.hosts i).state c.clock b m.head ch)) (saves_rules s c past i place m ch B up))

-- its own call is answered
settles_rules : (t : Bool) (s : Script) (past : List Entry) (own : List Line) (i boot : ℕ) (d : Option Fall) (b x : Backs) (last : ℕ) (head : Head) (k : BackCall) → d ≡ None → x.calls head.from ≡ Some k → IsDone (Server i) d x.calls last boot past head.from head.epoch head.number → is_back_awaited boot k head ≡ t → IsReplied (Server i) head.from head.epoch head.number past own → (HasStopped (Server i) own → ⊥)
    → EachLine (IsBreakGood s) (actors.Node (Server i)) past own (cond t (settles (Server i) head.from k b) (no_turn b)).lines
settles_rules false s past own i boot d b x last head k up at done_ e given going = tt
settles_rules true s past own i boot d b x last head k up at done_ e given going =
    let q = both _ _ e in
    rules_of s (actors.Node (Server i)) past own (map (settle_line (Server i) head.from) (still_owed k b)) (settles_good (Server i) refl s head.from head.epoch head.number k b past own (done_.dropped k up (eqb-true _ _ q.0) at (eqb-true _ _ (both _ _ q.1).0)) given going)

settled_rules : (s : Script) (past : List Entry) (own : List Line) (i boot : ℕ) (d : Option Fall) (b x : Backs) (last : ℕ) (head : Head) (o : Option BackCall) → d ≡ None → x.calls head.from ≡ o → IsDone (Server i) d x.calls last boot past head.from head.epoch head.number → IsReplied (Server i) head.from head.epoch head.number past own → (HasStopped (Server i) own → ⊥)
    → EachLine (IsBreakGood s) (actors.Node (Server i)) past own (settles_by (Server i) boot head b o).lines
settled_rules s past own i boot d b x last head None up at done_ given going = tt
settled_rules s past own i boot d b x last head (Some k) up at done_ given going = settles_rules (is_back_awaited boot k head) s past own i boot d b x last head k up at done_ refl given going

to_rules : (t : Bool) (s : Script) (who : Actor) (past : List Entry) (own : List Line) (b : Backs) (x : CallbackStep) → EachLine (IsBreakGood s) who past own x.lines → EachLine (IsBreakGood s) who past own (cond t x (no_turn b)).lines
to_rules true s who past own b x h = h
to_rules false s who past own b x h = tt

renews_rules : (t : Bool) (s : Script) (who : Actor) (past : List Entry) (own : List Line) (me : Node) (boot : ℕ) (n : Node) (known : ℕ) (k : BackCall) (b : Backs) → EachLine (IsBreakGood s) who past own (cond t (renews me boot n known k b) (no_turn b)).lines
renews_rules true s who past own me boot n known k b = tt
renews_rules false s who past own me boot n known k b = tt

renewed_rules : (s : Script) (who : Actor) (past : List Entry) (own : List Line) (me : Node) (boot : ℕ) (head : Head) (b : Backs) (o : Option BackCall) → EachLine (IsBreakGood s) who past own (renews_by me boot head b o).lines
renewed_rules s who past own me boot head b None = tt
renewed_rules s who past own me boot head b (Some k) = renews_rules (is_back_awaited boot k head) s who past own me boot head.from head.boot k b

answered_rules : (s : Script) (c : Cell) (past : List Entry) (i place : ℕ) (head : Head) → (B : Breaks s c past) → (c.hosts i).down ≡ None → head.to ≡ Server i → (d : Message) → d.head ≡ head → HasCode d.carried → message_at c.sent place ≡ Some d → DoneIn (Server i) (c.hosts i).down (c.hosts i).state.backs.calls (c.hosts i).state.backs.last_call (c.hosts i).state.lasting.boot past d
    → EachLine (IsBreakGood s) (actors.Node (Server i)) past (lines.Given place ∷ []) (if_to (Server i) head (expired c.clock (c.hosts i).state.backs) (settles_by (Server i) (c.hosts i).state.lasting.boot head (expired c.clock (c.hosts i).state.backs) ((c.hosts i).state.backs.calls head.from))).lines
answered_rules s c past i place head B up to d same code at k =
    let x : ServerState = (c.hosts i).state in
    let b : Backs = expired c.clock x.backs in
    let done_ : IsDone (Server i) (c.hosts i).down x.backs.calls x.backs.last_call x.lasting.boot past head.from head.epoch head.number =
    subst (λ (h : Head). IsDone (Server i) (c.hosts i).down x.backs.calls x.backs.last_call x.lasting.boot past h.from h.epoch h.number) same
    (subst (λ (n : Node). IsDone (Server i) (c.hosts i).down x.backs.calls x.backs.last_call x.lasting.boot past n d.head.epoch d.head.number) (sym k.from) (k.done (ap (λ (h : Head). h.to) same ∙ to))) in
    let given : IsReplied (Server i) head.from head.epoch head.number past (lines.Given place ∷ []) = record {
      reply = d;
      by = ap (λ (ms : List Message). message_at ms place) B.held.0.0.0.hears.told ∙ at;
      is = code;
      to = ap (λ (h : Head). h.to) same ∙ to;
      from = ap (λ (h : Head). h.from) same;
      epoch' = ap (λ (h : Head). h.epoch) same;
      number' = ap (λ (h : Head). h.number) same;
    } in
    to_rules (same_node head.to (Server i)) s (actors.Node (Server i)) past (lines.Given place ∷ []) b (settles_by (Server i) x.lasting.boot head b (x.backs.calls head.from)) (settled_rules s past (lines.Given place ∷ []) i x.lasting.boot (c.hosts i).down b x.backs x.backs.last_call head (x.backs.calls head.from) up refl done_ given (λ z. z))

done_of : (i : ℕ) (P : Message → Type 0) (m : Message) (y : Carried) → m.carried ≡ y → (OfReply ⊥ y → ⊥) → m.head.to ≡ Server i → IfDone P m → P m
done_of i P m (carried.Call user call) is answers to h = absurd (answers tt)
done_of i P m (carried.Refusal code) is answers to h = by_server i m.head.to (P m) to (subst (OfReply (OfServer m.head.to (P m))) is h)
done_of i P m (carried.Reply reply) is answers to h = by_server i m.head.to (P m) to (subst (OfReply (OfServer m.head.to (P m))) is h)
done_of i P m carried.Notice is answers to h = absurd (answers tt)

given_rules : (s : Script) (c : Cell) (past : List Entry) (i place : ℕ) (m : Message) (y : Carried) → (B : Breaks s c past) → (c.hosts i).down ≡ None → message_at c.sent place ≡ Some m → m.head.to ≡ Server i → m.carried ≡ y → OfCall (λ h user call. ⊤) m.head y
    → DoesRules s c past i place (hears (Server i) (c.hosts i).state c.clock m.head y) (given_step c i place m y).lines
given_rules s c past i place m (carried.Call user (ask.File call)) B up at to is f = does_rules s c past i place m (hears (Server i) (c.hosts i).state c.clock m.head (carried.Call user (ask.File call))) B up (why_hears (Server i) (c.hosts i).state c.clock m (carried.Call user (ask.File call)) refl is f)
given_rules s c past i place m (carried.Call user (ask.Volume call)) B up at to is f = absurd f
given_rules s c past i place m (carried.Call user (ask.Location call)) B up at to is f = not_loc m.head (Server i) _ to refl f.0
given_rules s c past i place m (carried.Refusal code) B up at to is f =
    let P : Message → Type 0 = DoneIn (Server i) (c.hosts i).down (c.hosts i).state.backs.calls (c.hosts i).state.backs.last_call (c.hosts i).state.lasting.boot past in
    (tt, answered_rules s c past i place m.head B up to m refl (subst HasCode (sym is) tt) at (done_of i P m (carried.Refusal code) is (λ z. z) to (each_at (IfDone P) c.sent place m at (B.backed.all i).dones)))
given_rules s c past i place m (carried.Reply reply) B up at to is f =
    let P : Message → Type 0 = DoneIn (Server i) (c.hosts i).down (c.hosts i).state.backs.calls (c.hosts i).state.backs.last_call (c.hosts i).state.lasting.boot past in
    (tt, answered_rules s c past i place m.head B up to m refl (subst HasCode (sym is) tt) at (done_of i P m (carried.Reply reply) is (λ z. z) to (each_at (IfDone P) c.sent place m at (B.backed.all i).dones)))
given_rules s c past i place m carried.Notice B up at to is f =
    let x : ServerState = (c.hosts i).state in
    let b : Backs = expired c.clock x.backs in
    (tt, to_rules (same_node m.head.to (Server i)) s (actors.Node (Server i)) past (lines.Given place ∷ []) b (renews_by (Server i) x.lasting.boot m.head b (x.backs.calls m.head.from)) (renewed_rules s (actors.Node (Server i)) past (lines.Given place ∷ []) (Server i) x.lasting.boot m.head b (x.backs.calls m.head.from)))

pub served_rules : (s : Script) (c : Cell) (past : List Entry) (i place : ℕ) (m : Message) → (B : Breaks s c past) → (c.hosts i).down ≡ None → message_at c.sent place ≡ Some m → m.head.to ≡ Server i → EachLine (IsBreakGood s) (actors.Node (Server i)) past [] (server_row (Server i) (c.hosts i).state c.clock place (Whole m)).lines
unfolding server_row
served_rules s c past i place m B up at to = given_rules s c past i place m m.carried B up at to refl (is_file (IsOne c.sent) m (each_at (IfCall (IsOne c.sent)) c.sent place m at B.held.0.0.1.ones))

timed_by : (t : Bool) (s : Script) (c : Cell) (past : List Entry) (i : ℕ) (n : Node) (k : BackCall) → (B : Breaks s c past) → (c.hosts i).down ≡ None → (c.hosts i).state.backs.calls n ≡ Some k → nat_lt k.tries 2 ≡ t
    → EachLine (IsBreakGood s) (actors.Node (Server i)) past [] (cond t (retries (Server i) (c.hosts i).state.lasting.boot n k (expired c.clock (c.hosts i).state.backs)) (quits (Server i) (c.hosts i).state.lasting.boot n k (expired c.clock (c.hosts i).state.backs))).lines
timed_by true s c past i n k B up at e = (tt, tt)
timed_by false s c past i n k B up at e =
    let x : ServerState = (c.hosts i).state in
    let b : Backs = expired c.clock x.backs in
    (tt, rules_of s (actors.Node (Server i)) past (lines.Timeout (Server i) n x.lasting.boot k.number 3 ∷ []) (map (quit_line (Server i) n) (still_owed k b)) (quits_good (Server i) refl s n x.lasting.boot b.last_call k b past ((up_at s c past i B.backed up).outs refl n k at)))

pub timed_rules : (s : Script) (c : Cell) (past : List Entry) (i : ℕ) (n : Node) (k : BackCall) → (B : Breaks s c past) → (c.hosts i).down ≡ None → (c.hosts i).state.backs.calls n ≡ Some k → EachLine (IsBreakGood s) (actors.Node (Server i)) past [] (back_timeout_row (Server i) (c.hosts i).state c.clock n k).lines
unfolding back_timeout_row
timed_rules s c past i n k B up at = timed_by (nat_lt k.tries 2) s c past i n k B up at refl

pub woken_rules : (s : Script) (c : Cell) (past : List Entry) (i : ℕ) → EachLine (IsBreakGood s) (actors.Node (Server i)) past [] (wake_row (Server i) (c.hosts i).state c.clock).lines
unfolding wake_row
woken_rules s c past i = tt

-- behind what is found, while the server is down
record Downs (s : Script) (me : Node) (past : List Entry) (tail : List Line) : Type 0 where
  rest : (own : List Line) → last_number me (own ++ lines_of past) ≡ last_number me (lines_of past) → (HasStopped me own → ⊥) → EachLine (IsBreakGood s) (actors.Node me) past own tail
  none : (j : ℕ) (f : Fid) (x : ℕ) → kept_until me (Client j) f (lines_with_gifts me past) ≡ Some x → clock_of (lines_of past) < x → ⊥

begun_rules : (s : Script) (me : Node) (past : List Entry) (tail : List Line) (x : ServerState) (time : ℕ) (d : Decision) → Downs s me past tail → EachLine (IsBreakGood s) (actors.Node me) past [] ((begun_after me x time d).before tail)
begun_rules s me past tail x time (saves head ch) w =
    let vs : List Version = versions_made ch in
    let l : Line = lines.Change me (key_of head) (length vs) in
    ((λ j f y ne changed live t. absurd (w.none j f y live t)), versions_rules s (actors.Node me) past (l ∷ []) vs tail (w.rest (on_top vs (l ∷ [])) (versions_top me vs (l ∷ []) (lines_of past)) (λ z. over_stopped me vs (l ∷ []) z)))
begun_rules s me past tail x time drops w = w.rest [] refl (λ z. z)
begun_rules s me past tail x time (tells_boot head) w = w.rest [] refl (λ z. z)
begun_rules s me past tail x time (repeats reply) w = w.rest [] refl (λ z. z)
begun_rules s me past tail x time (refuses head code) w = w.rest [] refl (λ z. z)
begun_rules s me past tail x time (shows head r) w = w.rest [] refl (λ z. z)

disk_rules : (s : Script) (me : Node) (past : List Entry) (tail : List Line) (x : ServerState) (after : Bool) (fall : Fall) → Downs s me past tail → EachLine (IsBreakGood s) (actors.Node me) past [] ((begun_by_disk me x after fall).before tail)
disk_rules s me past tail x after at_rest w = w.rest [] refl (λ z. z)
disk_rules s me past tail x false (in_step m time hit) w = w.rest [] refl (λ z. z)
disk_rules s me past tail x true (in_step m time hit) w = begun_rules s me past tail x time (decides me x time (Whole m)) w
disk_rules s me past tail x false in_boot w = w.rest [] refl (λ z. z)
disk_rules s me past tail x true in_boot w = w.rest [] refl (λ z. z)

pub no_fall : (fall : Fall) → Some fall ≡ None → ⊥
no_fall fall e = absurd cc

no_live : (s : Script) (c : Cell) (past : List Entry) (i : ℕ) (fall : Fall) → (B : Breaks s c past) → (c.hosts i).down ≡ Some fall → (j : ℕ) (f : Fid) (x : ℕ) → kept_until (Server i) (Client j) f (lines_with_gifts (Server i) past) ≡ Some x → clock_of (lines_of past) < x → ⊥
no_live s c past i fall B down j f x l t = no_fall fall (sym down ∙ ((B.backed.all i).promised (Client j) f x l (subst (λ (n : ℕ). n < x) B.held.1 t)).0)

down_number : (me : Node) (d : Option Fall) (fall : Fall) (last : ℕ) (ls : List Line) → d ≡ Some fall → Numbered me d last ls → last_number me ls ≡ 0
down_number me None fall last ls e h = absurd cc
down_number me (Some other) fall last ls e h = h

pub started_rules : (s : Script) (c : Cell) (past : List Entry) (i : ℕ) (after : Bool) (fall : Fall) → (B : Breaks s c past) → (c.hosts i).down ≡ Some fall → EachLine (IsBreakGood s) (actors.Node (Server i)) past [] (start_row (Server i) c.clock c.count (begun_by_disk (Server i) (c.hosts i).state after fall)).lines
unfolding start_row
started_rules s c past i after fall B down =
    let me : Node = Server i in
    let f : Begun ServerState = begun_by_disk me (c.hosts i).state after fall in
    let l : Line = lines.Restart me (f.state.lasting.boot + 1) in
    let zero : last_number me (lines_of past) ≡ 0 = down_number me (c.hosts i).down fall (c.hosts i).state.backs.lists.last_owed (lines_of past) down (B.backed.all i).numbered in
    let few : c.count ≤ s.clients = le_of_eq B.backed.count in
    subst (λ (t : CallbackStep). EachLine (IsBreakGood s) (actors.Node me) past [] (f.before (l ∷ t.lines))) (sym (risen_is me c.clock c.count))
    (disk_rules s me past (l ∷ (risen_as me c.clock c.count).lines) (c.hosts i).state after fall (record {
      rest = λ own e going. (tt, rules_of s (actors.Node me) past (l ∷ own) (risen_as me c.clock c.count).lines (alls_good me refl s (c.clock + promise_ticks) 0 c.count past (l ∷ own) (e ∙ zero) (λ z. going z) (inl refl) (omega arith)));
      none = no_live s c past i fall B down;
    }))

pub stays_rules : (s : Script) (c : Cell) (past : List Entry) (i : ℕ) (after : Bool) (fall : Fall) (l : Line) → (B : Breaks s c past) → (c.hosts i).down ≡ Some fall → is_free l ≡ true → EachLine (IsBreakGood s) (actors.Node (Server i)) past [] ((begun_by_disk (Server i) (c.hosts i).state after fall).before (l ∷ []))
stays_rules s c past i after fall l B down free = disk_rules s (Server i) past (l ∷ []) (c.hosts i).state after fall (record { rest = λ own e going. (free_rule s (actors.Node (Server i)) l past own [] free, tt); none = no_live s c past i fall B down })
