use Rattle.law_legal.proofs.DatabaseLines.{is_of_loc, all_of_loc}
use Rattle.law_legal.proofs.DatabaseDoes.{IsBackTo, loc_unchanging}
use Rattle.law_legal.proofs.DatabaseKeeps.{IsLocStep, loc_own}
use Rattle.spec_history.specs.declared.lines.Line.{Line}
use Rattle.spec_history.specs.declared.lines.Line.TheVariants as lines
use Rattle.spec_history.specs.declared.scripts.Script.{Script}
use Rattle.law_legal.proofs.ActLines.{Acts, who_at}
use Rattle.law_legal.proofs.ActSteps.{begins_acts, falls_acts, given_acts, rises_acts, waits_acts, missed_acts}
use Rattle.law_legal.proofs.OwedPasses.{Plain, all_lines, backed_fall, backed_plain, is_oweless, is_still, plain_step, seated_over, before_own, live_back, live_given, no_owe, rising_back, zero_back, is_up}
use Rattle.law_legal.proofs.BaseLaws.{ByServer, Each, IfBack, IfCall, IfDone, OfCall, OfReply, OfServer, each_at, each_map, each_more, same_node-true}
use Rattle.law_legal.proofs.OwedBySteps.{of_server}
use Rattle.law_legal.proofs.VolumeChanges.{run_each}
use Rattle.law_legal.proofs.ServerChooses.{Works, disk_works, is_from, risen_from, risen_lines, serves_works, starts_works, times_works, wakes_works, IfCut}
use Rattle.law_legal.proofs.VolumesAreIdeal.{own_from}
use Rattle.law_legal.proofs.CallKeysOnce.{IsKnown, any_told, by_key, HasCut, IsCutOf}
use Rattle.law_legal.proofs.RunWalk.{Behind, EachMove, IsKept as IsKeptBy, each_moved}
use Rattle.law_legal.proofs.ActCalls.{of_client, handed_same}
use Rattle.law_legal.proofs.ActCallsInRuns.{sought_acts_in, placed_in, told_in}
use Rattle.law_legal.proofs.OwedFacts.{BackIn, BackedIn, DoneIn, IsClient}
use Rattle.law_legal.proofs.PromisesAreGood.{blow_still}
use Rattle.law_legal.proofs.ServerSeatsAll.{SitsIn, sits_moves}
use Rattle.law_legal.proofs.ClientAnswersCalls.{begun_speaks, of_plain, old_seated, told_leaves, waits_speaks, Speaks, sought_speaks, missed_speaks}
use Rattle.law_legal.proofs.RunClock.{ticks_first, ticks_kept}
use Rattle.law_legal.specs.Breaks.{HasStopped, last_number, kept_until}
use Rattle.law_legal.specs.Ideal.{set_up_entry, first_lines}
use Rattle.law_legal.specs.Legal.{AreGoodSent, GoodReply}
use Rattle.law_legal.specs.Parts.{EachLine, EachSent}
use Rattle.law_legal.specs.Past.{onto, IsCall}
use Rattle.law_legal.specs.ServerParts.{BreaksAreGood, IsBreakGood, RepliesWait}
use Rattle.spec_model.specs.Calls.{call_seat, key_of}
use Rattle.afs_num.specs.Nodes.{same_node}
use Rattle.afs_num.specs.declared.calls.FsCall.{FsCall}
use Rattle.afs_num.specs.declared.histories.Actor.TheVariants as actors
use Rattle.afs_num.specs.declared.messages.Call.TheVariants as ask
use Rattle.afs_num.specs.declared.messages.Carried.{Carried}
use Rattle.afs_num.specs.declared.messages.Carried.TheVariants as carried
use Rattle.afs_num.specs.declared.messages.Message.{Message}
use Rattle.afs_num.specs.declared.messages.Received.TheVariants.{Whole}
use Rattle.afs_num.specs.declared.types.Fid.{Fid}
use Rattle.afs_num.specs.declared.types.Head.{Head}
use Rattle.afs_num.specs.declared.types.Key.{Key}
use Rattle.afs_num.specs.declared.types.Node.{Node}
use Rattle.afs_num.specs.declared.types.Node.TheVariants.{Client, Server, Loc, Admin}
use Rattle.spec_rows.specs.Callbacks.{put}
use Rattle.spec_rows.specs.ClientRow.{begin_row, client_row, reborn, timeout_row, sought_by, seek_timeout_row}
use Rattle.spec_rows.specs.Going.{ClientState}
use Rattle.law_legal.proofs.RunSteps.{blow_line, server_falls, server_moves, server_set, server_stays, loc_becomes}
use Rattle.spec_rows.specs.Runs.{Armed, Cell, Entry, Fall, Moved, at_rest, begun_by_disk, client_moves, in_boot, in_step, start, unarmed, first_client, first_host, ServerHost}
use Rattle.spec_rows.specs.LocSteps.{LocHost}
use Rattle.law_legal.proofs.RunSteps.{loc_becomes}
use Rattle.spec_rows.specs.ServerRow.{granted, is_client}
use Rattle.spec_rows.specs.ServerSteps.{back_timeout_row, server_row, start_row, wake_row}
use Rattle.spec_rows.specs.States.{Backs, Seat, ServerState}
use Rattle.spec_rows.specs.Steps.{Step, Begun}
use Rattle.law_legal.proofs.ClientCalls.{placed}
use Rattle.law_legal.proofs.ServerRefusesForGood.{IsSentBy}
use Rattle.law_legal.proofs.RunSetUp.{AreVersions, all_versions, first_oweless, first_still, lines_none}
use Rattle.std.proofs.Common.{suc, ◌≡◌, ℕ, ◌+◌, ◌≤◌, inl, inr, Bool, true, false, List, [], ◌∷◌, ◌++◌, Option, Some, None, refl, sym, subst, ◌∙◌, arith, append-nil, not}
use Rattle.std.proofs.Math.Nat.{le_refl}
use Rattle.std.specs.Prelude.{not}
use Rattle.law_legal.proofs.OwedLines.{FoundAt, disk_found, disk_lines, no_fall, served_rules, started_rules, started_step, stays_rules, timed_rules, woken_rules}
use Rattle.law_legal.proofs.OwedRules.{Backed, BackedAt, Breaks, FairCall, HostStep, IsFair, KnownIn, TellsAll, all_free, client_backed, client_good, falls_all, falls_backed, free_rule, free_rules, is_free, loc_good, moves_backed, replies_good, served_step, speaks_all, timed_step, woken_step}

-- ---- every step

pub record Steps (s : Script) (c : Cell) (past : List Entry) (m : Moved) : Type 0 where
  pub backed : Behind (Backed s) c past m
  pub rules : EachLine (IsBreakGood s) m.entry.actor past [] m.entry.lines
  pub replies : EachSent GoodReply (m.entry ∷ past) m.entry.sent

-- a step that leaves a server as it is
plain_at : (i : ℕ) (h : ServerHost) (clients : ℕ → ClientState) (clock then : ℕ) (sent : List Message) (e : Entry) (past : List Entry) → Plain (Server i) e.lines → clock ≤ then → BackedAt i h clients clock sent past → BackedAt i h clients then (sent ++ []) (e ∷ past)
plain_at i h clients clock then sent e past p le B =
    let cs : ℕ → Option Seat = λ j. call_seat (Server i) (clients j).seats in
    backed_plain (Server i) h.down h.state.backs h.state.lasting.boot h.state.seats cs cs clock then sent [] e past p le B tt tt
    (λ j seat m x y. seated_over (Server i) h.down h.down h.state.backs h.state.backs h.state.lasting.boot clock then e past (plain_step (Server i) h.down h.state.backs clock then e past p le) j m (B.seated j seat m x y))

still_all : (s : Script) (c : Cell) (past : List Entry) (e : Entry) (then : ℕ) → ((i : ℕ) → Plain (Server i) e.lines) → c.clock ≤ then → Backed s c past → (i : ℕ) → BackedAt i (c.hosts i) c.clients then c.sent (e ∷ past)
still_all s c past e then p le B i = subst (λ (ms : List Message). BackedAt i (c.hosts i) c.clients then ms (e ∷ past)) (append-nil c.sent) (plain_at i (c.hosts i) c.clients c.clock then c.sent e past (p i) le (B.all i))

client_steps : (s : Script) (c : Cell) (past : List Entry) (n : ℕ) (st : Step ClientState) → Breaks s c past → Acts n (who_at (c.clients n)) (c.clients n).gifts st → TellsAll c past n st → Steps s c past (client_moves c n st)
client_steps s c past n st B a t = record { backed = client_backed s c past n st B.backed a t; rules = free_rules s (actors.Node (Client n)) past [] st.lines (all_free n st.lines a.of); replies = client_good n (of_client n st ∷ past) st.sent (each_map (IsSentBy (Client n)) (λ m. m.head.from ≡ Client n) (λ m k. k.from) st.sent a.from) }

speaks_steps : (s : Script) (c : Cell) (past : List Entry) (n : ℕ) (st : Step ClientState) → Breaks s c past → Acts n (who_at (c.clients n)) (c.clients n).gifts st → Speaks (c.clients n).seats st → Steps s c past (client_moves c n st)
speaks_steps s c past n st B a h = client_steps s c past n st B a (speaks_all s c past n st B.backed a h)

abbrev KnownBy : Cell → (Key → Node) → Message → Type 0
KnownBy c callees m = IfCall (λ h user call. IsKnown callees c.clients h.to (key_of h)) m

cut_known : (c : Cell) (callees : Key → Node) (ls : List Line) (fall : Fall) → IsCutOf (IsKnown callees c.clients) fall → IfCut (λ m. KnownIn c callees m [] ls) fall
cut_known c callees ls at_rest h = tt
cut_known c callees ls (in_step m time hit) h = h
cut_known c callees ls in_boot h = tt

cut_at : (s : Script) (c : Cell) (past : List Entry) (i : ℕ) (fall : Fall) (ls : List Line) → (B : Breaks s c past) → (c.hosts i).down ≡ Some fall → IfCut (λ m. KnownIn c B.held.0.0.0.keys.callees m [] ls) fall
cut_at s c past i fall ls B down = cut_known c B.held.0.0.0.keys.callees ls fall (subst (HasCut (IsKnown B.held.0.0.0.keys.callees c.clients)) down (B.held.0.0.0.keys.falls i))

blow_from : (i place : ℕ) (t : Bool) → all_lines (is_from (Server i)) (lines.Given place ∷ blow_line i t ∷ []) ≡ true
blow_from i place true = rw (own_from i) refl
blow_from i place false = rw (own_from i) refl

blow_free : (i place : ℕ) (t : Bool) → all_lines is_free (lines.Given place ∷ blow_line i t ∷ []) ≡ true
blow_free i place true = refl
blow_free i place false = refl

blow_oweless : (i place : ℕ) (t : Bool) → all_lines is_oweless (lines.Given place ∷ blow_line i t ∷ []) ≡ true
blow_oweless i place true = refl
blow_oweless i place false = refl

blow_stopped : (i place : ℕ) (t : Bool) (o : List Line) → HasStopped (Server i) (onto o (lines.Given place ∷ blow_line i t ∷ []))
blow_stopped i place true o = inl refl
blow_stopped i place false o = inl refl

-- a step that stops it
falls_steps : (s : Script) (c : Cell) (past : List Entry) (i : ℕ) (ls : List Line) (fall : Fall) → (B : Breaks s c past) → all_lines (is_from (Server i)) ls ≡ true → all_lines is_free ls ≡ true → all_lines is_oweless ls ≡ true → all_lines is_still ls ≡ true → ((o : List Line) → HasStopped (Server i) (onto o ls)) → Steps s c past (server_falls c i ls fall)
falls_steps s c past i ls fall B from free oweless still stop =
    let h : ServerHost = c.hosts i in
    let e : Entry = of_server (Server i) ls [] in
    let cs : ℕ → Option Seat = λ j. call_seat (Server i) (c.clients j).seats in
    let k : Backed s (record c { hosts = put i (record h { down = Some fall; armed = unarmed }) c.hosts }) (e ∷ past) = falls_backed s c past i (record h { down = Some fall; armed = unarmed }) ls B (inl (record { left = λ id w. refl; lines = from }))
    (backed_fall (Server i) h.down fall h.state.backs h.state.lasting.boot h.state.seats h.state.seats cs c.clock c.sent e past oweless still (λ up. stop) (B.backed.all i)) in
    record { backed = k; rules = free_rules s (actors.Node (Server i)) past [] ls free; replies = tt }

-- one that sets its disk
set_steps : (s : Script) (c : Cell) (past : List Entry) (i : ℕ) (l : Line) (armed : Armed) → (B : Breaks s c past) → is_from (Server i) l ≡ true → is_free l ≡ true → Plain (Server i) (l ∷ []) → Steps s c past (server_set c i l armed)
set_steps s c past i l armed B from free p =
    let h : ServerHost = c.hosts i in
    let e : Entry = of_server (Server i) (l ∷ []) [] in
    let k : Backed s (record c { hosts = put i (record h { armed = armed }) c.hosts }) (e ∷ past) = falls_backed s c past i (record h { armed = armed }) (l ∷ []) B (inl (record { left = λ id w. refl; lines = rw from refl })) (plain_at i h c.clients c.clock c.clock c.sent e past p (le_refl _) (B.backed.all i)) in
    record { backed = k; rules = (free_rule s (actors.Node (Server i)) l past [] [] free, tt); replies = tt }

-- one after which it is down still
stays_steps : (s : Script) (c : Cell) (past : List Entry) (i : ℕ) (after : Bool) (fall now : Fall) (l : Line) → (B : Breaks s c past) → (c.hosts i).down ≡ Some fall → is_from (Server i) l ≡ true → is_free l ≡ true → is_oweless l ≡ true → is_still l ≡ true → Steps s c past (server_stays c i (begun_by_disk (Server i) (c.hosts i).state after fall) l now)
stays_steps s c past i after fall now l B down from free oweless still =
    let x : ServerState = (c.hosts i).state in
    let cs : ℕ → Option Seat = λ j. call_seat (Server i) (c.clients j).seats in
    let f : Begun ServerState = begun_by_disk (Server i) x after fall in
    let ls : List Line = f.before (l ∷ []) in
    let e : Entry = of_server (Server i) ls [] in
    let found : FoundAt (Server i) f fall cs c.clock c.sent past = disk_found (Server i) x after fall cs c.clock c.sent past (subst (λ (d : Option Fall). BackedIn (Server i) d x.backs x.lasting.boot x.seats cs c.clock c.sent past) down (B.backed.all i)) in
    let h : ServerHost = record { state = f.state; down = Some now; armed = unarmed } in
    let k : Backed s (record c { hosts = put i h c.hosts }) (e ∷ past) = falls_backed s c past i h ls B (disk_works (KnownIn c B.held.0.0.0.keys.callees) (Server i) x after fall (l ∷ []) (cut_at s c past i fall (l ∷ []) B down) (rw from refl))
    (backed_fall (Server i) (Some fall) now f.state.backs f.state.lasting.boot f.state.seats f.state.seats cs c.clock c.sent e past (disk_lines is_oweless (λ n key z. refl) (λ v. refl) (Server i) x after fall (l ∷ []) (rw oweless refl)) (disk_lines is_still (λ n key z. refl) (λ v. refl) (Server i) x after fall (l ∷ []) (rw still refl)) (λ z. absurd (no_fall fall z)) found) in
    record { backed = k; rules = stays_rules s c past i after fall l B down free; replies = tt }

server_steps : (s : Script) (c : Cell) (past : List Entry) (i : ℕ) (armed : Armed) (st : Step ServerState) → (B : Breaks s c past) → Works (KnownIn c B.held.0.0.0.keys.callees) (Server i) (c.hosts i).state st.state.lasting.volumes st.lines → HostStep s c past i st × AreGoodSent (of_server (Server i) st.lines st.sent ∷ past) st.sent
    → EachLine (IsBreakGood s) (actors.Node (Server i)) past [] st.lines → Steps s c past (server_moves c i armed st)
server_steps s c past i armed st B w h r = record { backed = moves_backed s c past i armed st B w h.0; rules = r; replies = replies_good (of_server (Server i) st.lines st.sent ∷ past) st.sent h.1 }

-- ---- a step of the location database: it answers clients alone

loc_up : (i : ℕ) (l : Line) → is_of_loc l ≡ true → is_up (Server i) l ≡ true
loc_up i (lines.Crash n) h = subst (λ (q : Node). not (same_node q (Server i)) ≡ true) (sym (same_node-true n Loc h)) refl
loc_up i (lines.Fault n) h = subst (λ (q : Node). not (same_node q (Server i)) ≡ true) (sym (same_node-true n Loc h)) refl
loc_up i l h = refl

loc_still : (l : Line) → is_of_loc l ≡ true → is_still l ≡ true
loc_still (lines.Grant s c f index expiry) h = absurd cc
loc_still l h = refl

loc_oweless : (l : Line) → is_of_loc l ≡ true → is_oweless l ≡ true
loc_oweless (lines.Owe s c what n) h = absurd cc
loc_oweless l h = refl

loc_free : (l : Line) → is_of_loc l ≡ true → is_free l ≡ true
loc_free (lines.Change server k count) h = absurd cc
loc_free (lines.Owe server c what n) h = absurd cc
loc_free (lines.Settle server c n) h = absurd cc
loc_free (lines.Quit server c n) h = absurd cc
loc_free l h = refl

loc_plain : (i : ℕ) (ls : List Line) → all_lines is_of_loc ls ≡ true → Plain (Server i) ls
loc_plain i ls h = record { up = all_of_loc (is_up (Server i)) (loc_up i) ls h; still = all_of_loc is_still loc_still ls h; oweless = all_of_loc is_oweless loc_oweless ls h; unchanging = loc_unchanging ls h }

no_call : (P : Head → List ℕ → FsCall → Type 0) (head : Head) (x : Carried) → (IsCall x → ⊥) → OfCall P head x
no_call P head (carried.Call user call) h = absurd (h tt)
no_call P head (carried.Refusal code) h = tt
no_call P head (carried.Reply reply) h = tt
no_call P head carried.Notice h = tt

named_client : (n : Node) → is_client n ≡ true → (j : ℕ) × (n ≡ Client j)
named_client (Client j) e = (j, refl)
named_client (Server i) e = absurd cc
named_client (Admin i) e = absurd cc
named_client Loc e = absurd cc

is_loc_client : (n : Node) → n ≡ Loc → IsClient n → ⊥
is_loc_client (Client j) e h = let no_ : Client j ≡ Loc = e in absurd cc
is_loc_client (Server i) e h = h
is_loc_client (Admin i) e h = h
is_loc_client Loc e h = h

caller_is : (head : Head) (x : Carried) → OfCall IsFair head x → IsCall x → head.to ≡ Loc → (j : ℕ) × (head.from ≡ Client j)
caller_is head (carried.Call user (ask.File call)) (inl q) is to = q
caller_is head (carried.Call user (ask.File call)) (inr q) is to = absurd (is_loc_client head.to to q)
caller_is head (carried.Call user (ask.Volume call)) q is to = absurd q
caller_is head (carried.Call user (ask.Location call)) q is to = named_client head.from q.1.0
caller_is head (carried.Refusal code) q is to = absurd is
caller_is head (carried.Reply reply) q is to = absurd is
caller_is head carried.Notice q is to = absurd is

client_done : (j : ℕ) (n : Node) (X : Type 0) (x : Carried) → n ≡ Client j → OfReply (OfServer n X) x
client_done j n X (carried.Call user call) e = tt
client_done j n X (carried.Refusal code) e = subst (λ (q : Node). OfServer q X) (sym e) tt
client_done j n X (carried.Reply reply) e = subst (λ (q : Node). OfServer q X) (sym e) tt
client_done j n X carried.Notice e = tt

-- what it sends
record IsAside (m : Message) : Type 0 where
  calls : IsCall m.carried → ⊥
  client : (j : ℕ) × (m.head.to ≡ Client j)

loc_aside : (s : Script) (c : Cell) (past : List Entry) (l : LocHost) (ls : List Line) (ms : List Message) (o : Option Message) → Breaks s c past → (st : IsLocStep c l ls ms) → placed st.place c.sent ≡ o → Each IsAside ms
loc_aside s c past l ls ms None B st e = subst (Each IsAside) (sym (st.none e)) tt
loc_aside s c past l ls ms (Some k) B st e = each_map (IsBackTo k.head k.carried) IsAside
    (λ m x. record { calls = x.0; client = let q = caller_is k.head k.carried (fair_at st.place e) x.1.1 (st.to k e) in (q.0, x.1.0 ∙ q.1) }) ms (st.back k e)
  where
    fair_at : (p : Option ℕ) → placed p c.sent ≡ Some k → FairCall k
    fair_at None z = absurd cc
    fair_at (Some p) z = each_at FairCall c.sent p k z B.backed.fair

loc_steps : (s : Script) (c : Cell) (past : List Entry) (l : LocHost) (ls : List Line) (ms : List Message) → Breaks s c past → IsLocStep c l ls ms → Steps s c past (loc_becomes c l ls ms)
loc_steps s c past l ls ms B st =
    let e : Entry = (loc_becomes c l ls ms).entry in
    let aside : Each IsAside ms = loc_aside s c past l ls ms (placed st.place c.sent) B st refl in
    record {
      backed = record {
        count = B.backed.count;
        fair = each_more FairCall c.sent ms B.backed.fair (each_map IsAside FairCall (λ m x. no_call IsFair m.head m.carried x.calls) ms aside);
        all = λ i.
            let h : ServerHost = c.hosts i in
            let b : Backs = h.state.backs in
            let boot : ℕ = h.state.lasting.boot in
            let cs : ℕ → Option Seat = λ j. call_seat (Server i) (c.clients j).seats in
            let p : Plain (Server i) ls = loc_plain i ls st.lines in
            let P : Head → List ℕ → FsCall → Type 0 = BackIn (Server i) h.down b.calls b.last_call boot in
            let D : Message → Type 0 = DoneIn (Server i) h.down b.calls b.last_call boot (e ∷ past) in
            backed_plain (Server i) h.down b boot h.state.seats cs cs c.clock c.clock c.sent ms e past p (le_refl _) (B.backed.all i)
            (each_map IsAside (IfBack P) (λ m x. no_call (ByServer P) m.head m.carried x.calls) ms aside)
            (each_map IsAside (IfDone D) (λ m x. client_done x.client.0 m.head.to (D m) m.carried x.client.1) ms aside)
            (λ j seat m x y. old_seated (Server i) h.down b boot h.state.seats cs c.clock c.sent e past j p (B.backed.all i) seat m x y);
      };
      rules = free_rules s (actors.Node Loc) past [] ls (all_of_loc is_free loc_free ls st.lines);
      replies = loc_good (e ∷ past) ms (loc_own c l ls ms st);
    }

break_moves : (s : Script) → EachMove (Breaks s) (Steps s)
break_moves s = record {
  void = λ c past B. record { backed = record { count = B.backed.count; fair = B.backed.fair; all = still_all s c past _ c.clock (λ i. record { up = refl; still = refl; oweless = refl; unchanging = refl }) (le_refl _) B.backed }; rules = (tt, tt); replies = tt };
  ticked = λ c past n B. record { backed = record { count = B.backed.count; fair = B.backed.fair; all = still_all s c past _ (c.clock + suc n) (λ i. record { up = refl; still = refl; oweless = refl; unchanging = refl }) (omega arith) B.backed }; rules = (tt, tt); replies = tt };
  begun = λ c past n act B r z. speaks_steps s c past n (begin_row (Client n) (c.clients n) c.clock act) B (begins_acts n (c.clients n) c.clock act r z) (begun_speaks (Client n) (c.clients n) c.clock act);
  told = λ c past n place m B at to un.
      let a : Acts n (who_at (c.clients n)) (c.clients n).gifts (client_row (Client n) (c.clients n) c.clock place (Whole m)) = given_acts (by_key (IsKnown B.held.0.0.0.keys.callees c.clients)) any_told n (c.clients n) c.clock place m (B.held.0.0.0.keys.replies n) (B.held.0.0.1.seats n) in
      client_steps s c past n (client_row (Client n) (c.clients n) c.clock place (Whole m)) B a (λ i.
      let x : ServerHost = c.hosts i in
      told_leaves i x.down x.state.backs x.state.lasting.boot x.state.seats (λ j. call_seat (Server i) (c.clients j).seats) c.clock c.sent past n (c.clients n) place m (B.backed.all i) refl (B.held.0.0.1.seats n) (each_at (IfBack (BackIn (Server i) x.down x.state.backs.calls x.state.backs.last_call x.state.lasting.boot)) c.sent place m at (B.backed.all i).calls) (of_plain n i _ a.of));
  sought = λ c past n place m k B at to z e. speaks_steps s c past n (sought_by (Client n) (c.clients n) c.clock place k m.head m.carried) B (sought_acts_in s c past n place m k B.held.0.0.1 at z e)
      (sought_speaks s n (c.clients n) c.clock place k m.head m.carried (placed_in s c past n k B.held.0.0.1 z) (told_in s c past n place m k B.held.0.0.1 at e));
  missed = λ c past n k B r z. speaks_steps s c past n (seek_timeout_row (Client n) (c.clients n) k) B (missed_acts n (c.clients n) k r z) (missed_speaks (Client n) (c.clients n) k);
  loc = λ c past l ls ms B st. loc_steps s c past l ls ms B st;
  waited = λ c past n act B r. speaks_steps s c past n (timeout_row (Client n) (c.clients n) act) B (waits_acts n (c.clients n) act r) (waits_speaks (Client n) (c.clients n) act);
  fallen = λ c past n B. let k = client_steps s c past n (record { state = reborn c.handed (c.clients n); lines = lines.Crash (Client n) ∷ []; sent = [] }) B (falls_acts n c.handed (c.clients n) (handed_same s c past B.held.0.0.1 n)) (falls_all c past n) in record { backed = record { count = k.backed.count; fair = k.backed.fair; all = k.backed.all }; rules = k.rules; replies = k.replies };
  risen = λ c past n B. let k = speaks_steps s c past n (record { state = c.clients n; lines = lines.Restart (Client n) (c.clients n).epoch ∷ []; sent = [] }) B (rises_acts n (c.clients n)) (record { calls = tt; seats' = refl }) in record { backed = record { count = k.backed.count; fair = k.backed.fair; all = k.backed.all }; rules = k.rules; replies = k.replies };
  served = λ c past i place m armed B up at to. server_steps s c past i armed (server_row (Server i) (c.hosts i).state c.clock place (Whole m)) B (serves_works (KnownIn c B.held.0.0.0.keys.callees) (Server i) (c.hosts i).state c.clock place m (λ rest. each_at (KnownBy c B.held.0.0.0.keys.callees) c.sent place m at B.held.0.0.0.keys.calls)) (served_step s c past i place m B up at to) (served_rules s c past i place m B up at to);
  cut = λ c past i place m t B up at to. falls_steps s c past i (lines.Given place ∷ blow_line i t.stops ∷ []) (in_step m c.clock t) B (blow_from i place t.stops) (blow_free i place t.stops) (blow_oweless i place t.stops) (blow_still i place t.stops) (blow_stopped i place t.stops);
  stopped = λ c past i B up. falls_steps s c past i (lines.Crash (Server i) ∷ []) at_rest B (rw (own_from i) refl) refl refl refl (λ o. inl refl);
  stop_set = λ c past i calls pick armed B up. set_steps s c past i (lines.Stop (Server i) calls pick) armed B (own_from i) refl (record { up = refl; still = refl; oweless = refl; unchanging = refl });
  fail_set = λ c past i call armed B up. set_steps s c past i (lines.Fail (Server i) call) armed B (own_from i) refl (record { up = refl; still = refl; oweless = refl; unchanging = refl });
  timed = λ c past i n k armed B up at. server_steps s c past i armed (back_timeout_row (Server i) (c.hosts i).state c.clock n k) B (times_works (KnownIn c B.held.0.0.0.keys.callees) (Server i) (c.hosts i).state c.clock n k) (timed_step s c past i n k B up at) (timed_rules s c past i n k B up at);
  woken = λ c past i armed B up. server_steps s c past i armed (wake_row (Server i) (c.hosts i).state c.clock) B (wakes_works (KnownIn c B.held.0.0.0.keys.callees) (Server i) (c.hosts i).state c.clock) (woken_step s c past i B up) (woken_rules s c past i);
  started = λ c past i after fall B down.
      let f : Begun ServerState = begun_by_disk (Server i) (c.hosts i).state after fall in
      let ls : List Line = risen_lines (Server i) c.clock c.count f in
      server_steps s c past i unarmed (start_row (Server i) c.clock c.count f) B
      (starts_works (KnownIn c B.held.0.0.0.keys.callees) (Server i) (c.hosts i).state c.clock c.count f (disk_works (KnownIn c B.held.0.0.0.keys.callees) (Server i) (c.hosts i).state after fall ls (cut_at s c past i fall ls B down) (risen_from (Server i) c.clock c.count f))) (started_step s c past i after fall B down) (started_rules s c past i after fall B down);
  early = λ c past i fall B down. falls_steps s c past i (lines.Fault (Server i) ∷ []) fall B (rw (own_from i) refl) refl refl refl (λ o. inl refl);
  midway = λ c past i after fall B down. stays_steps s c past i after fall in_boot (lines.Fault (Server i)) B down (own_from i) refl refl refl;
  full = λ c past i after fall B down. stays_steps s c past i after fall at_rest (lines.Full (Server i)) B down (own_from i) refl refl refl;
}

pub breaks_kept : (s : Script) → IsKeptBy (Breaks s)
breaks_kept s c past x so B = record { held = ticks_kept s c past x so B.held; sits = each_moved SitsIn (Behind SitsIn) sits_moves c past x so B.sits; backed = (each_moved (Breaks s) (Steps s) (break_moves s) c past x so B).backed }

-- ---- the set-up

none_owes : (me : Node) (newer : List Entry) (x at : Entry) (older : List Entry) (before rest : List Line) (c : Node) (what : Option Fid) (n : ℕ) (X : Type 0) → all_lines is_oweless x.lines ≡ true → x ∷ [] ≡ newer ++ (at ∷ older) → at.lines ≡ before ++ lines.Owe me c what n ∷ rest → X
none_owes me newer x at older before rest c what n X h split line = absurd (no_owe at.lines before rest me c what n (subst (λ (e : Entry). all_lines is_oweless e.lines ≡ true) (lines_none newer x at older split) h) line)

first_backed : (s : Script) (i : ℕ) → BackedAt i (first_host s i) (first_client s) 0 [] (set_up_entry s ∷ [])
first_backed s i =
    let me : Node = Server i in
    let vs : AreVersions (first_lines s.volumes) = all_versions s.volumes in
    record {
      granted = λ x. tt;
      numbered = let y : last_number me (onto [] (first_lines s.volumes)) ≡ 0 = zero_back me (first_lines s.volumes) [] (first_oweless (first_lines s.volumes) vs) refl in y;
      promised = λ j f x l t. let none : kept_until me j f [] ≡ Some x = live_given me j f x (set_up_entry s) [] (live_back me j f x (first_lines s.volumes) (before_own me (set_up_entry s) []) (first_still (first_lines s.volumes) vs) l) in absurd cc;
      accounted = λ newer at older before rest c what n split line. none_owes me newer (set_up_entry s) at older before rest c what n _ (first_oweless (first_lines s.volumes) vs) split line;
      owing = λ x. tt;
      rising = rising_back me (first_lines s.volumes) [] (first_oweless (first_lines s.volumes) vs) tt;
      clients = λ x. record { promised = tt; owed = tt };
      waiting = λ x. tt;
      outs = λ x j c at. absurd cc;
      calls = tt;
      dones = tt;
      seated = λ j seat m x y. absurd cc;
    }

pub breaks_first : (s : Script) → Breaks s (start s) (set_up_entry s ∷ [])
breaks_first s = record { held = ticks_first s; sits = λ i. record { seats = λ n seat m e. absurd cc; kept = λ n seat m e. absurd cc }; backed = record { count = refl; fair = tt; all = first_backed s } }

-- ---- the laws

pub run_breaks : BreaksAreGood
run_breaks s h end r =
    run_each (Breaks s) (λ past e. EachLine (IsBreakGood s) e.actor past [] e.lines) (breaks_kept s) (λ c past x so k. (each_moved (Breaks s) (Steps s) (break_moves s) c past x so k).rules) r.inputs s (set_up_entry s ∷ []) h end (breaks_first s) r.leads

pub run_waits : RepliesWait
run_waits s h end r =
    run_each (Breaks s) (λ past e. EachSent GoodReply (e ∷ past) e.sent) (breaks_kept s) (λ c past x so k. (each_moved (Breaks s) (Steps s) (break_moves s) c past x so k).replies) r.inputs s (set_up_entry s ∷ []) h end (breaks_first s) r.leads
