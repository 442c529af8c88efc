use Rattle.law_legal.proofs.ClientCallsByTable.{server_at}
use Rattle.law_legal.proofs.DatabaseKeeps.{loc_uncalled}
use Rattle.law_legal.proofs.ActFollows.{none_runs, Follows, begins_follow, falls_follow, given_follow, rises_follow, waits_follow, sought_follow, missed_follow}
use Rattle.spec_history.specs.declared.lines.Line.TheVariants as lines
use Rattle.spec_history.specs.declared.scripts.Script.{Script}
use Rattle.spec_ideal.specs.Operations.{volume_changed}
use Rattle.law_legal.proofs.ActLines.{Acts, IsTheCall, last_key, who_at}
use Rattle.law_legal.proofs.ActSteps.{begins_acts, falls_acts, given_acts, rises_acts, waits_acts, IsPlaced, missed_acts, by_quiet, sought_quiet}
use Rattle.law_legal.proofs.ClientCallsAtHome.{HomesIn, IsHome, homes_first, homes_kept, IsServer, callee_server}
use Rattle.law_legal.proofs.KeptApart.{found_filter}
use Rattle.law_legal.proofs.OwedPasses.{all_lines}
use Rattle.law_legal.proofs.BaseLaws.{Each, IfCall, IfReply, UpTo, at_put, both, client_number, each_at, found-cached-fid, each_map, if_call, same_fid-true, some_of, same_node-true}
use Rattle.law_legal.proofs.ClientCalls.{IsUncalled, begins_tame, uncalled_any, waits_tame, missed_tame}
use Rattle.law_legal.proofs.ClientReplyCaused.{IsOfCallee}
use Rattle.law_legal.proofs.ServerChooses.{disk_works, one_from, risen_from, risen_lines, serves_works, starts_works, times_works, wakes_works}
use Rattle.law_legal.proofs.ActIsDue.{told_due, waiting_for}
use Rattle.law_legal.proofs.ClientCallsInTurn.{its_key}
use Rattle.law_legal.proofs.BaseWords.{AreApart}
use Rattle.law_legal.proofs.ServerRefusesForGood.{IsFirm}
use Rattle.law_legal.proofs.ClientGifts.{Given}
use Rattle.law_legal.proofs.ServerHears.{HearsIn, IsHad, IsNoted, IsRan}
use Rattle.law_legal.proofs.ServerHearsInRuns.{client_given, kept_on}
use Rattle.law_legal.proofs.KeptRests.{Keeps, same_entries}
use Rattle.law_legal.proofs.KeptRestsInRuns.{KeptIn, begins_keep, given_keep, heard_now, kept_first, kept_kept, waits_keep, drops_fetched, sought_keep, missed_keep}
use Rattle.law_legal.proofs.CallKeysOnce.{IsKnown, any_told, by_key}
use Rattle.law_legal.proofs.RunsKnown.{Known, served_uncalled, started_uncalled, timed_uncalled, woken_uncalled}
use Rattle.law_legal.proofs.RunWalk.{Behind, EachMove, IsKept, each_moved}
use Rattle.law_legal.proofs.ActCalls.{AskedIn, idle_leaves, is_idle, of_client, other_leaves, unsent, handed_same}
use Rattle.law_legal.proofs.ActCallsInRuns.{any_cut, any_message, blow_idle, idle_works, next_key, the_calls, loc_idle, sought_acts_in, placed_in, told_in}
use Rattle.law_legal.proofs.ClientCallsQueued.{in_at}
use Rattle.law_legal.proofs.ClientTimesOut.{GivenTimed, IsUntimed, Times, begun_times, none_times, row_times, timed_first, timed_kept, told_times, sought_times, missed_times}
use Rattle.law_legal.proofs.ClientTries.{WaitsIn, waits_first, waits_kept}
use Rattle.law_legal.proofs.ReadUses.{IsUseOf, fetched_use, of_home}
use Rattle.law_legal.specs.Grants.{has_fetched}
use Rattle.law_legal.specs.Ideal.{set_up_entry}
use Rattle.law_legal.specs.Past.{HasCode, given_message, lines_of, sent_of}
use Rattle.spec_model.specs.Calls as pairs
use Rattle.spec_model.specs.Calls.{Admitted, admitted, key_of}
use Rattle.afs_num.specs.Nodes.{same_node}
use Rattle.afs_num.specs.declared.calls.FsCall.{FsCall}
use Rattle.afs_num.specs.declared.calls.FsCall.TheVariants as calls
use Rattle.afs_num.specs.declared.messages.Call.TheVariants as ask
use Rattle.afs_num.specs.declared.messages.Carried.{Carried}
use Rattle.afs_num.specs.declared.messages.Carried.TheVariants as carried
use Rattle.afs_num.specs.declared.messages.Message.{Message}
use Rattle.afs_num.specs.declared.messages.Received.TheVariants.{Whole}
use Rattle.afs_num.specs.declared.types.Fid.{Fid}
use Rattle.afs_num.specs.declared.types.Head.{Head}
use Rattle.afs_num.specs.declared.types.Key.{Key}
use Rattle.afs_num.specs.declared.types.Node.{Node}
use Rattle.afs_num.specs.declared.types.Node.TheVariants.{Client, Server}
use Rattle.spec_rows.specs.Callbacks.{put}
use Rattle.spec_rows.specs.ClientRow.{admits_call, awaits, begin_row, breaks, call_of, client_row, counts, find_cached, gives_up, hears, ignores, is_awaited, left_in, reborn, runs_carried, timeout_row, tries_again, whole, sought_by, seek_timeout_row, is_sought}
use Rattle.spec_rows.specs.Going.{ClientState, Going, Seek}
use Rattle.spec_history.specs.declared.acts.Act.{Act}
use Rattle.afs_num.specs.declared.histories.Actor.TheVariants as actors
use Rattle.law_legal.proofs.RunSteps.{blow_line, server_falls, server_moves, server_rises, server_set, server_stays, loc_becomes}
use Rattle.spec_rows.specs.Runs.{Cell, Entry, at_rest, begun_by_disk, client_moves, in_boot, in_step, locations, message_at, start, ticked, voided}
use Rattle.law_legal.proofs.RunSteps.{loc_becomes}
use Rattle.spec_rows.specs.ServerSteps.{back_timeout_row, server_row, start_row, wake_row}
use Rattle.spec_rows.specs.States.{CacheEntry}
use Rattle.spec_rows.specs.Steps.{Step}
use Rattle.std.proofs.Common.{append-nil, suc, ◌≡◌, ◌+◌, ℕ, ◌⊎◌, inl, inr, Bool, true, false, cond, not, nat_eq, eq-eqb, eqb-true, List, [], ◌∷◌, ◌++◌, Option, Some, None, refl, sym, ap, subst, ◌∙◌}
use Rattle.std.specs.Prelude.{nat_lt}
use Rattle.law_legal.proofs.KeptSettles.{Base, Ends, Fetches, IsPassed, Keeping, SettledOf, Stays, else_keeping, own_keeping}

-- ---- a message is given: the client waits on and fetches nothing, or it is the reply for which it waited

abbrev Fate : ℕ → ClientState → Head → Carried → Step ClientState → Type 0
Fate n c head x st = (Stays c st.state × ((f : Fid) → has_fetched (Client n) f st.lines ≡ false)) ⊎ ((act : Going) × ((c.running ≡ Some act) × ((is_awaited c act head ≡ true) × HasCode x)))

stays_here : (c : ClientState) → Stays c c
stays_here c = record { running = refl; epoch = refl; last = refl }

counts_fate : (n : ℕ) (c : ClientState) (clock place : ℕ) (act : Going) (head : Head) (x : Carried) → c.running ≡ Some act → is_awaited c act head ≡ true → Fate n c head x (counts (Client n) c clock place act head x)
counts_fate n c clock place act head (carried.Call user call) r a = inl (stays_here c, λ f. refl)
counts_fate n c clock place act head (carried.Refusal code) r a = inr (act, (r, (a, tt)))
counts_fate n c clock place act head (carried.Reply reply) r a = inr (act, (r, (a, tt)))
counts_fate n c clock place act head carried.Notice r a = inl (record { running = refl; epoch = refl; last = refl }, λ f. refl)

awaited_fate : (t : Bool) (n : ℕ) (c : ClientState) (clock place : ℕ) (act : Going) (head : Head) (x : Carried) → is_awaited c act head ≡ t → c.running ≡ Some act → Fate n c head x (cond t (counts (Client n) c clock place act head x) (ignores c place))
awaited_fate true n c clock place act head x a r = counts_fate n c clock place act head x r a
awaited_fate false n c clock place act head x a r = inl (stays_here c, λ f. refl)

awaits_fate : (n : ℕ) (c : ClientState) (clock place : ℕ) (head : Head) (x : Carried) (o : Option Going) → c.running ≡ o → Fate n c head x (awaits (Client n) c clock place head x o)
awaits_fate n c clock place head x None r = inl (stays_here c, λ f. refl)
awaits_fate n c clock place head x (Some act) r = awaited_fate (is_awaited c act head) n c clock place act head x refl r

abbrev Waits : ℕ → ClientState → Step ClientState → Type 0
Waits n c st = Stays c st.state × ((f : Fid) → has_fetched (Client n) f st.lines ≡ false)

breaks_wait : (n : ℕ) (c : ClientState) (place : ℕ) (head : Head) (call : FsCall) → Waits n c (breaks (Client n) c place head call)
breaks_wait n c place head (calls.CallBack fs callbacks) = (record { running = refl; epoch = refl; last = refl }, λ f. drops_fetched n f fs)
breaks_wait n c place head calls.InitCallBackState = (record { running = refl; epoch = refl; last = refl }, λ f. refl)
breaks_wait n c place head calls.Probe = (record { running = refl; epoch = refl; last = refl }, λ f. refl)
breaks_wait n c place head call = (record { running = refl; epoch = refl; last = refl }, λ f. refl)

runs_wait : (n : ℕ) (c : ClientState) (place : ℕ) (head : Head) (x : Carried) → Waits n c (runs_carried (Client n) c place head x)
runs_wait n c place head (carried.Call user (ask.File call)) = breaks_wait n c place head call
runs_wait n c place head (carried.Call user call) = (record { running = refl; epoch = refl; last = refl }, λ f. refl)
runs_wait n c place head x = (stays_here c, λ f. refl)

admits_wait : (n : ℕ) (c : ClientState) (place : ℕ) (head : Head) (x : Carried) (o : Admitted Message) → Waits n c (admits_call (Client n) c place head (whole head x) o)
admits_wait n c place head x pairs.runs = runs_wait n c place head x
admits_wait n c place head x (pairs.kept reply) = (stays_here c, λ f. refl)
admits_wait n c place head x pairs.in_progress = (stays_here c, λ f. refl)
admits_wait n c place head x pairs.older = (stays_here c, λ f. refl)
admits_wait n c place head x (pairs.wrong_boot boot) = (stays_here c, λ f. refl)

hears_fate : (n : ℕ) (c : ClientState) (clock place : ℕ) (head : Head) (x : Carried) → Fate n c head x (hears (Client n) c clock place head x)
hears_fate n c clock place head (carried.Call user call) = inl (admits_wait n c place head (carried.Call user call) (admitted c.epoch c.seats head))
hears_fate n c clock place head x = awaits_fate n c clock place head x c.running refl

to_fate : (t : Bool) (n : ℕ) (c : ClientState) (clock place : ℕ) (head : Head) (x : Carried) → Fate n c head x (cond t (hears (Client n) c clock place head x) (ignores c place))
to_fate true n c clock place head x = hears_fate n c clock place head x
to_fate false n c clock place head x = inl (stays_here c, λ f. refl)

row_fate : (n : ℕ) (c : ClientState) (clock place : ℕ) (m : Message) → Fate n c m.head m.carried (client_row (Client n) c clock place (Whole m))
unfolding client_row
row_fate n c clock place m = to_fate (same_node m.head.to (Client n)) n c clock place m.head m.carried

-- ---- a call is timed out

none_left : (o : Option ℕ) (f : Fid) (cache : List CacheEntry) (e : CacheEntry) → AreApart cache → o ≡ Some f.volume → find_cached f (left_in o cache) ≡ Some e → ⊥
none_left None f cache e apart is found = absurd cc
none_left (Some id) f cache e apart is found =
    let p = found_filter (λ x. not (nat_eq x.fid.volume id)) f cache e apart found in
    let same : e.fid ≡ f = same_fid-true e.fid f (found-cached-fid f cache e p.0) in
    let yes : nat_eq e.fid.volume id ≡ true = eq-eqb e.fid.volume id (ap (λ (g : Fid). g.volume) same ∙ sym (some_of id f.volume is)) in
    let no_ : not true ≡ true = ap not (sym yes) ∙ p.1 in absurd cc

-- ---- every step

abbrev pub SettledIn : Script → Cell → List Entry → Type 0
SettledIn s c past = SettledOf s c.clients c.sent past

-- on what this stands
pub record Grounds (s : Script) (c : Cell) (past : List Entry) : Type 0 where
  pub timed : GivenTimed s c past
  pub kept : KeptIn c past
  pub homes : HomesIn s c past
  pub waits : WaitsIn c past

abbrev pub GivenSettled : Script → Cell → List Entry → Type 0
GivenSettled s c past = Grounds s c past × SettledIn s c past

given_of : (s : Script) (c : Cell) (past : List Entry) → Grounds s c past → Given s c past
given_of s c past g = g.timed.0.0.0

known_of : (s : Script) (c : Cell) (past : List Entry) → Grounds s c past → Known c past
known_of s c past g = g.timed.0.0.0.0.0.0.0

asked_of : (s : Script) (c : Cell) (past : List Entry) → Grounds s c past → AskedIn s c past
asked_of s c past g = g.timed.0.0.0.0.0.0.1

of_client' : (callees : Key → Node) (clients : ℕ → ClientState) (n : ℕ) (head : Head) (user : List ℕ) (call : FsCall) → IsKnown callees clients head.to (key_of head) → head.from ≡ Client n → UpTo head.epoch head.number (clients n).epoch (clients n).last
of_client' callees clients n head user call k from = subst (λ (m : ℕ). UpTo head.epoch head.number (clients m).epoch (clients m).last) (client_number k.client n (sym k.node ∙ from)) k.behind

base : (s : Script) (c : Cell) (past : List Entry) (n : ℕ) → Grounds s c past → Base s n (c.clients n) c.sent past
base s c past n g =
    let K : Known c past = known_of s c past g in
    let A : AskedIn s c past = asked_of s c past g in
    record {
      told = K.hears.told;
      timed = g.timed.1 n;
      last = A.last n;
      known = each_map (IfCall (λ h u x. IsKnown K.keys.callees c.clients h.to (key_of h))) (IfCall (λ head user call. head.from ≡ Client n → UpTo head.epoch head.number (c.clients n).epoch (c.clients n).last))
          (if_call (λ h u x. IsKnown K.keys.callees c.clients h.to (key_of h)) (λ head user call. head.from ≡ Client n → UpTo head.epoch head.number (c.clients n).epoch (c.clients n).last) (of_client' K.keys.callees c.clients n)) c.sent K.keys.calls;
      ones = A.ones;
    }

other_calls : (n j : ℕ) (y : ClientState) (P : Head → List ℕ → FsCall → Type 0) → (n ≡ j → ⊥) → ((head : Head) (user : List ℕ) (call : FsCall) → (head.from ≡ Client j → ⊥) → P head user call) → (ms : List Message) → Each (IfCall (IsTheCall n y)) ms → Each (IfCall P) ms
other_calls n j y P ne w ms h = each_map (IfCall (IsTheCall n y)) (IfCall P) (if_call (IsTheCall n y) P (λ head user call x. w head user call (λ from. ne (client_number n j (sym (ap (λ (k : Key). k.node) x.key) ∙ from))))) ms h

client_settled : (s : Script) (c : Cell) (past : List Entry) (n : ℕ) (st : Step ClientState) → GivenSettled s c past → Acts n (who_at (c.clients n)) (c.clients n).gifts st → Follows n (c.clients n) st → Keeps n (c.clients n).cache past st → Ends n (c.clients n) c.sent st → Times n (c.clients n) st → Fetches s n (c.clients n) past st → SettledOf s (put n st.state c.clients) (c.sent ++ st.sent) (of_client n st ∷ past)
client_settled s c past n st h a fo k ends times fetch j =
    let K : Known c past = known_of s c past h.0 in
    at_put n j (λ (x : ClientState). (f : Fid) (e : CacheEntry) → find_cached f x.cache ≡ Some e → Keeping s j x (c.sent ++ st.sent) (of_client n st ∷ past) f) st.state c.clients
    (λ same. subst (λ (i : ℕ). (f : Fid) (e : CacheEntry) → find_cached f st.state.cache ≡ Some e → Keeping s i st.state (c.sent ++ st.sent) (of_client n st ∷ past) f) same
    (own_keeping s n (c.clients n) st c.sent past (base s c past n h.0) a fo k ends times fetch (λ z. (unsent K.keys.callees c.clients n (last_key n st.state) c.sent (next_key n c.clients st z) K.keys.calls).0) (h.1 n)))
    (λ other f e found. else_keeping s j (c.clients j) c.sent st.sent (of_client n st) past f (other_leaves s n j st.lines (lines_of past) a.of other)
    (λ m. other_calls n j st.state (IsPassed j (c.clients j) f m (c.sent ++ st.sent) (of_client n st ∷ past)) other (λ head user call none from. absurd (none from)) st.sent (the_calls n (c.clients n) st a.goes)) (h.1 j f e found))

idle_settled : (s : Script) (c : Cell) (past : List Entry) (x : Entry) (ms : List Message) → GivenSettled s c past → all_lines is_idle x.lines ≡ true → Each IsUncalled ms → SettledOf s c.clients (c.sent ++ ms) (x ∷ past)
idle_settled s c past x ms h idle none j f e found =
    else_keeping s j (c.clients j) c.sent ms x past f (idle_leaves s j x.lines (lines_of past) idle) (λ m. each_map IsUncalled (IfCall (IsPassed j (c.clients j) f m (c.sent ++ ms) (x ∷ past))) (uncalled_any (IsPassed j (c.clients j) f m (c.sent ++ ms) (x ∷ past))) ms none) (h.1 j f e found)

quiet_settled : (s : Script) (c : Cell) (past : List Entry) (x : Entry) → GivenSettled s c past → all_lines is_idle x.lines ≡ true → SettledOf s c.clients c.sent (x ∷ past)
quiet_settled s c past x h idle = subst (λ (ms : List Message). SettledOf s c.clients ms (x ∷ past)) (append-nil c.sent) (idle_settled s c past x [] h idle tt)

-- a step that was given nothing fetches nothing
none_fetches : (s : Script) (n : ℕ) (c : ClientState) (past : List Entry) (st : Step ClientState) → given_message st.lines (sent_of past) ≡ None → Fetches s n c past st
none_fetches s n c past st none f m has given = let no_ : None ≡ Some m = sym none ∙ given in absurd cc

none_ends : (n : ℕ) (c : ClientState) (sent : List Message) (st : Step ClientState) → c.running ≡ None → Ends n c sent st
none_ends n c sent st r act run = absurd (none_runs c.running act r run)

waits_ends : (n : ℕ) (c : ClientState) (sent : List Message) (act : Going) (t : Bool) → AreApart c.cache → c.running ≡ Some act → Ends n c sent (cond t (tries_again (Client n) c act) (gives_up (Client n) c (call_of c act)))
waits_ends n c sent act true apart r a run = inl (record { running = refl; epoch = refl; last = refl })
waits_ends n c sent act false apart r a run = inr (inr (λ f e is found. none_left (volume_changed (call_of c act)) f c.cache e apart (ap (λ (g : Going). volume_changed (call_of c g)) (some_of act a (sym r ∙ run)) ∙ is) found))

told_ends : (s : Script) (c : Cell) (past : List Entry) (n place : ℕ) (m : Message) → HomesIn s c past → message_at c.sent place ≡ Some m → m.head.to ≡ Client n → IsUntimed n (client_row (Client n) (c.clients n) c.clock place (Whole m)) → Ends n (c.clients n) c.sent (client_row (Client n) (c.clients n) c.clock place (Whole m))
told_ends s c past n place m H at to quiet act run = elim (row_fate n (c.clients n) c.clock place m) [
  | inl w ↦ inl w.0
  | inr w ↦ inr (inl (record { answer = m; among = in_at c.sent place m at; code = w.1.1.1; key = sym (its_key n (c.clients n) w.0 m.head to w.1.1.0); from = (let server : IsServer (c.clients n).callee = callee_server n c.clients w.0 H.0.0 H.0.1 w.1.0 in (server.0, same_node-true m.head.from (c.clients n).callee (both (same_node m.head.from (c.clients n).callee) _ w.1.1.0).0 ∙ server.1)); quiet = quiet }))
]

told_fetches : (s : Script) (c : Cell) (past : List Entry) (n place : ℕ) (m : Message) → Grounds s c past → message_at c.sent place ≡ Some m → m.head.to ≡ Client n → Acts n (who_at (c.clients n)) (c.clients n).gifts (client_row (Client n) (c.clients n) c.clock place (Whole m)) → IsUntimed n (client_row (Client n) (c.clients n) c.clock place (Whole m))
    → Fetches s n (c.clients n) past (client_row (Client n) (c.clients n) c.clock place (Whole m))
told_fetches s c past n place m g at to a quiet f x has given =
    let st : Step ClientState = client_row (Client n) (c.clients n) c.clock place (Whole m) in
    let K : Known c past = known_of s c past g in
    let A : AskedIn s c past = asked_of s c past g in
    let told : message_at (sent_of past) place ≡ Some m = ap (λ (ms : List Message). message_at ms place) K.hears.told ∙ at in
    let same : m ≡ x = some_of m x (sym told ∙ (sym ((client_given c past n place m K.hears to at).given (sent_of past)) ∙ given)) in
    elim (row_fate n (c.clients n) c.clock place m) [
      | inl w ↦ (let no_ : false ≡ true = sym (w.1 f) ∙ has in absurd cc)
      | inr w ↦
          (let p = both (same_node m.head.from (c.clients n).callee) _ w.1.1.0 in
          let q = both (nat_eq m.head.epoch (c.clients n).epoch) _ p.1 in
          let u = both (nat_eq m.head.number (c.clients n).last) _ q.1 in
          let using : IsUseOf s (Client n) f m past = fetched_use s (Client n) f m (actors.Node (Client n)) past [] st.lines (a.each s past (A.table n) (A.acts n)) (told_due s n c.clock place (c.clients n) m past (waiting_for s c past n place m (given_of s c past g, g.waits) g.homes at to)) (inr (refl, given ∙ ap (λ (y : Message). Some y) (sym same))) has in
          let each : (T : Message → Type 0) → Each T c.sent → Each T (sent_of past) = λ T all. subst (Each T) (sym K.hears.told) all in
          let server : IsServer (c.clients n).callee = callee_server n c.clients w.0 g.homes.0.0 g.homes.0.1 w.1.0 in
          let home : m.head.from ≡ Server (server_at (locations s) f.volume) =
          of_home s K.keys.callees c.clients n f m past using w.1.1.1 to server.0 (same_node-true m.head.from (c.clients n).callee p.0 ∙ server.1) (each_at (IfReply (IsOfCallee K.keys.callees c.clients)) c.sent place m at K.keys.answers) (each _ K.keys.calls) (each (IfCall (IsHome s)) g.homes.1) in
          record {
            act = w.0;
            runs = w.1.0;
            epoch = subst (λ (y : Message). y.head.epoch ≡ (c.clients n).epoch) same (eqb-true m.head.epoch (c.clients n).epoch q.0);
            number = subst (λ (y : Message). y.head.number ≡ (c.clients n).last) same (eqb-true m.head.number (c.clients n).last u.0);
            quiet = quiet;
            from = subst (λ (y : Message). y.head.from ≡ Server (server_at (locations s) f.volume)) same home;
          })
    ]

told_settled : (s : Script) (c : Cell) (past : List Entry) (n place : ℕ) (m : Message) → GivenSettled s c past → message_at c.sent place ≡ Some m → m.head.to ≡ Client n → Behind (SettledIn s) c past (client_moves c n (client_row (Client n) (c.clients n) c.clock place (Whole m)))
told_settled s c past n place m h at to =
    let K : Known c past = known_of s c past h.0 in
    let G : Given s c past = given_of s c past h.0 in
    let a = given_acts (by_key (IsKnown K.keys.callees c.clients)) any_told n (c.clients n) c.clock place m (K.keys.replies n) ((asked_of s c past h.0).seats n) in
    let quiet : IsUntimed n (client_row (Client n) (c.clients n) c.clock place (Whole m)) = told_times s c past n place m h.0.timed.0 at to a in
    client_settled s c past n (client_row (Client n) (c.clients n) c.clock place (Whole m)) h a (given_follow n (c.clients n) c.clock place m (G.1 n).0 (each_at (λ m. IsFirm m.head m.carried) c.sent place m at G.0.1))
    (given_keep n c.clock place (c.clients n) m past (h.0.kept n).0 (heard_now s c past n place m G at to)) (told_ends s c past n place m h.0.homes at to quiet) (none_times n (c.clients n) (client_row (Client n) (c.clients n) c.clock place (Whole m)) quiet) (told_fetches s c past n place m h.0 at to a quiet)

begun_settled : (s : Script) (c : Cell) (past : List Entry) (n : ℕ) (act : Act) → GivenSettled s c past → (c.clients n).running ≡ None → (c.clients n).seeking ≡ None → Behind (SettledIn s) c past (client_moves c n (begin_row (Client n) (c.clients n) c.clock act))
begun_settled s c past n act h r z =
    let st : Step ClientState = begin_row (Client n) (c.clients n) c.clock act in
    let a = begins_acts n (c.clients n) c.clock act r z in
    let H : HearsIn c past = (known_of s c past h.0).hears in
    client_settled s c past n st h a (begins_follow n (c.clients n) c.clock act ((given_of s c past h.0).1 n).0 r) (begins_keep n c.clock (c.clients n) act past (h.0.kept n).0) (none_ends n (c.clients n) c.sent st r)
    (none_times n (c.clients n) st (begun_times s c past n act h.0.timed.0 a)) (none_fetches s n (c.clients n) past st ((begins_tame (IsRan (of_client n st ∷ past)) (IsNoted c.hosts) (IsHad c.hosts) n (c.clients n) c.clock act (kept_on c past (of_client n st) n H)).given (sent_of past)))

waited_settled : (s : Script) (c : Cell) (past : List Entry) (n : ℕ) (act : Going) → GivenSettled s c past → (c.clients n).running ≡ Some act → Behind (SettledIn s) c past (client_moves c n (timeout_row (Client n) (c.clients n) act))
waited_settled s c past n act h r =
    let st : Step ClientState = timeout_row (Client n) (c.clients n) act in
    let H : HearsIn c past = (known_of s c past h.0).hears in
    client_settled s c past n st h (waits_acts n (c.clients n) act r) (waits_follow n (c.clients n) act ((given_of s c past h.0).1 n).0) (waits_keep n (c.clients n) act past (h.0.kept n).0) (waits_ends n (c.clients n) c.sent act (nat_lt (c.clients n).tries 2) (h.0.kept n).0 r) (row_times n (c.clients n) act r)
    (none_fetches s n (c.clients n) past st ((waits_tame (IsRan (of_client n st ∷ past)) (IsNoted c.hosts) (IsHad c.hosts) n (c.clients n) act r (kept_on c past (of_client n st) n H)).given (sent_of past)))

-- an act that waits for the location database fetches nothing
sought_fetches : (s : Script) (c : Cell) (past : List Entry) (n place : ℕ) (m : Message) (k : Seek) → AskedIn s c past → message_at c.sent place ≡ Some m → (c.clients n).seeking ≡ Some k → is_sought (Client n) (c.clients n) k m.head m.carried ≡ true → (f : Fid) → has_fetched (Client n) f (sought_by (Client n) (c.clients n) c.clock place k m.head m.carried).lines ≡ false
sought_fetches s c past n place m k A at z e =
    by_quiet (λ st. (f : Fid) → has_fetched (Client n) f st.lines ≡ false) n (c.clients n) place k m.head m.carried (sought_by (Client n) (c.clients n) c.clock place k m.head m.carried) (sought_quiet s n (c.clients n) c.clock place k m.head m.carried (placed_in s c past n k A z) (told_in s c past n place m k A at e))
    (λ code x y f. refl) (λ f. refl) (λ f. refl)

sought_settled : (s : Script) (c : Cell) (past : List Entry) (n place : ℕ) (m : Message) (k : Seek) → GivenSettled s c past → message_at c.sent place ≡ Some m → (c.clients n).seeking ≡ Some k → is_sought (Client n) (c.clients n) k m.head m.carried ≡ true → Behind (SettledIn s) c past (client_moves c n (sought_by (Client n) (c.clients n) c.clock place k m.head m.carried))
sought_settled s c past n place m k h at z e =
    let A : AskedIn s c past = asked_of s c past h.0 in
    let st : Step ClientState = sought_by (Client n) (c.clients n) c.clock place k m.head m.carried in
    let p : IsPlaced s (c.clients n) k = placed_in s c past n k A z in
    client_settled s c past n st h (sought_acts_in s c past n place m k A at z e) (sought_follow s n (c.clients n) c.clock place k m.head m.carried p (told_in s c past n place m k A at e) ((given_of s c past h.0).1 n).0) (sought_keep s n (c.clients n) c.clock place k m past p (told_in s c past n place m k A at e) (h.0.kept n).0)
    (none_ends n (c.clients n) c.sent st p.idle) (none_times n (c.clients n) st (sought_times s c past n place m k A at z e)) (λ f x has given. (let no_ : false ≡ true = sym (sought_fetches s c past n place m k A at z e f) ∙ has in absurd cc))

missed_settled : (s : Script) (c : Cell) (past : List Entry) (n : ℕ) (k : Seek) → GivenSettled s c past → (c.clients n).running ≡ None → (c.clients n).seeking ≡ Some k → Behind (SettledIn s) c past (client_moves c n (seek_timeout_row (Client n) (c.clients n) k))
missed_settled s c past n k h r z =
    let st : Step ClientState = seek_timeout_row (Client n) (c.clients n) k in
    let H : HearsIn c past = (known_of s c past h.0).hears in
    client_settled s c past n st h (missed_acts n (c.clients n) k r z) (missed_follow n (c.clients n) k r ((given_of s c past h.0).1 n).0) (missed_keep n (c.clients n) k past (h.0.kept n).0) (none_ends n (c.clients n) c.sent st r) (missed_times n (c.clients n) k r ((asked_of s c past h.0).seeks n k z).callee)
    (none_fetches s n (c.clients n) past st ((missed_tame (IsRan (of_client n st ∷ past)) (IsNoted c.hosts) (IsHad c.hosts) n (c.clients n) k (kept_on c past (of_client n st) n H)).given (sent_of past)))

settled_moves : (s : Script) → EachMove (GivenSettled s) (Behind (SettledIn s))
settled_moves s = record {
  void = λ c past h. quiet_settled s c past (voided c).entry h refl;
  ticked = λ c past n h. quiet_settled s c past (ticked c (suc n)).entry h refl;
  begun = λ c past n act h r z. begun_settled s c past n act h r z;
  told = λ c past n place m h at to un. told_settled s c past n place m h at to;
  sought = λ c past n place m k h at to z e. sought_settled s c past n place m k h at z e;
  missed = λ c past n k h r z. missed_settled s c past n k h r z;
  loc = λ c past l ls ms h st. idle_settled s c past (loc_becomes c l ls ms).entry ms h (loc_idle ls st.lines) (loc_uncalled c l ls ms st);
  waited = λ c past n act h r. waited_settled s c past n act h r;
  fallen = λ c past n h. client_settled s c past n (record { state = reborn c.handed (c.clients n); lines = lines.Crash (Client n) ∷ []; sent = [] }) h (falls_acts n c.handed (c.clients n) (handed_same s c past (asked_of s c past h.0) n)) (falls_follow n c.handed (c.clients n)) (record { apart = tt; each = λ f e found. absurd cc }) (λ act run. inr (inr (λ f e is found. absurd cc))) (λ q e k i o x. inl x) (λ f m has given. absurd cc);
  risen = λ c past n h. client_settled s c past n (record { state = c.clients n; lines = lines.Restart (Client n) (c.clients n).epoch ∷ []; sent = [] }) h (rises_acts n (c.clients n)) (rises_follow n (c.clients n) ((given_of s c past h.0).1 n).0)
      (record { apart = (h.0.kept n).0; each = λ f e found. same_entries n (c.clients n).cache past (lines.Restart (Client n) (c.clients n).epoch ∷ []) (record { fetched = λ g. refl; spares = λ q g o x. x }) f e found }) (λ act run. inl (stays_here (c.clients n))) (λ q e k i o x. inl x) (λ f m has given. absurd cc);
  served = λ c past i place m armed h up at to. idle_settled s c past (server_moves c i armed (server_row (Server i) (c.hosts i).state c.clock place (Whole m))).entry (server_row (Server i) (c.hosts i).state c.clock place (Whole m)).sent h (idle_works any_message i (c.hosts i).state _ _ (serves_works any_message (Server i) (c.hosts i).state c.clock place m (λ rest. tt))) (served_uncalled c past i place m (known_of s c past h.0) at);
  cut = λ c past i place m t h up at to. quiet_settled s c past (server_falls c i (lines.Given place ∷ blow_line i t.stops ∷ []) (in_step m c.clock t)).entry h (blow_idle i t.stops);
  stopped = λ c past i h up. quiet_settled s c past (server_falls c i (lines.Crash (Server i) ∷ []) at_rest).entry h refl;
  stop_set = λ c past i calls pick armed h up. quiet_settled s c past (server_set c i (lines.Stop (Server i) calls pick) armed).entry h refl;
  fail_set = λ c past i call armed h up. quiet_settled s c past (server_set c i (lines.Fail (Server i) call) armed).entry h refl;
  timed = λ c past i n b armed h up at. idle_settled s c past (server_moves c i armed (back_timeout_row (Server i) (c.hosts i).state c.clock n b)).entry (back_timeout_row (Server i) (c.hosts i).state c.clock n b).sent h (idle_works any_message i (c.hosts i).state _ _ (times_works any_message (Server i) (c.hosts i).state c.clock n b)) (timed_uncalled c past i n b (known_of s c past h.0));
  woken = λ c past i armed h up. idle_settled s c past (server_moves c i armed (wake_row (Server i) (c.hosts i).state c.clock)).entry (wake_row (Server i) (c.hosts i).state c.clock).sent h (idle_works any_message i (c.hosts i).state _ _ (wakes_works any_message (Server i) (c.hosts i).state c.clock)) (woken_uncalled c past i (known_of s c past h.0));
  started = λ c past i after fall h down. idle_settled s c past (server_rises c i (begun_by_disk (Server i) (c.hosts i).state after fall)).entry (start_row (Server i) c.clock c.count (begun_by_disk (Server i) (c.hosts i).state after fall)).sent h
      (idle_works any_message i (c.hosts i).state _ _ (starts_works any_message (Server i) (c.hosts i).state c.clock c.count (begun_by_disk (Server i) (c.hosts i).state after fall) (disk_works any_message (Server i) (c.hosts i).state after fall (risen_lines (Server i) c.clock c.count (begun_by_disk (Server i) (c.hosts i).state after fall)) (any_cut fall) (risen_from (Server i) c.clock c.count (begun_by_disk (Server i) (c.hosts i).state after fall)))))
      (started_uncalled c past i after fall (known_of s c past h.0) down);
  early = λ c past i fall h down. quiet_settled s c past (server_falls c i (lines.Fault (Server i) ∷ []) fall).entry h refl;
  midway = λ c past i after fall h down. quiet_settled s c past (server_stays c i (begun_by_disk (Server i) (c.hosts i).state after fall) (lines.Fault (Server i)) in_boot).entry h (idle_works any_message i (c.hosts i).state _ _ (disk_works any_message (Server i) (c.hosts i).state after fall (lines.Fault (Server i) ∷ []) (any_cut fall) (one_from (Server i) true refl)));
  full = λ c past i after fall h down. quiet_settled s c past (server_stays c i (begun_by_disk (Server i) (c.hosts i).state after fall) (lines.Full (Server i)) at_rest).entry h (idle_works any_message i (c.hosts i).state _ _ (disk_works any_message (Server i) (c.hosts i).state after fall (lines.Full (Server i) ∷ []) (any_cut fall) (one_from (Server i) true refl)));
}

pub settled_kept : (s : Script) → IsKept (GivenSettled s)
settled_kept s c past x so h =
    let G : Given s c past = given_of s c past h.0 in (
      record { timed = timed_kept s c past x so h.0.timed; kept = (kept_kept s c past x so (G, h.0.kept)).1; homes = (homes_kept s c past x so (G, h.0.homes)).1; waits = (waits_kept s c past x so (G, h.0.waits)).1 },
      each_moved (GivenSettled s) (Behind (SettledIn s)) (settled_moves s) c past x so h,
    )

pub settled_first : (s : Script) → GivenSettled s (start s) (set_up_entry s ∷ [])
settled_first s = (record { timed = timed_first s; kept = (kept_first s).1; homes = (homes_first s).1; waits = (waits_first s).1 }, λ j f e found. absurd cc)
