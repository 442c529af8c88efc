use Rattle.law_legal.proofs.RunWalk.{loc_armed_to, loc_restarted_to, loc_stopped_to, IsKept}
use Rattle.law_legal.proofs.DatabaseLines.{all_of_loc, is_of_loc}
use Rattle.std.proofs.Math.Nat.{le_refl}
use Rattle.law_legal.proofs.ServerBoots.{standing_both, Boots, HasFront, blow_stops, disk_front, down_boots, notes_standing, rise_boots, serves_standing, started_lines, step_boots, still_boots, stop_boots, times_standing, wakes_standing, is_standing, is_server}
use Rattle.spec_history.specs.declared.acts.Act.{Act}
use Rattle.spec_history.specs.declared.lines.Line.{Line}
use Rattle.spec_history.specs.declared.lines.Line.TheVariants as lines
use Rattle.law_legal.proofs.OwedPasses.{all_lines, is_unchanging}
use Rattle.law_legal.proofs.BaseLaws.{Above, Each, IfCall, IfReply, OfClient, OfNotice, OfReply, at_put, by_client, each_at, each_map, each_more, if_call, if_reply, runs_admitted, same_node-true}
use Rattle.law_legal.proofs.ClientCalls.{mild_standing, AreReplies, IsAnswer, IsLastOf, Tame, answer_over, begins_tame, caller_at, falls_tame, given_tame, placed, rises_tame, uncalled_any, waits_tame, guest_tame, missed_tame}
use Rattle.law_legal.proofs.ServerBoots.{is_server}
use Rattle.law_legal.proofs.DatabaseKeeps.{IsLocStep, loc_notice, loc_reply, no_server_loc, fail_line, stop_line}
use Rattle.law_legal.proofs.DatabaseDoes.{IsOfLoc, IsSoundLoc}
use Rattle.law_legal.proofs.RunWalk.{loc_armed_to, loc_received_to, loc_restarted_to, loc_stopped_to, run_keeps}
use Rattle.spec_rows.specs.ClientRow.{act_of, sought_or}
use Rattle.spec_rows.specs.LocSteps.{LocHost}
use Rattle.law_legal.proofs.BaseWords.{up_boot, MayRun}
use Rattle.law_legal.proofs.ServerKeepsKeys.{Begins, HostStep, IsCutBy, IsDue, IsSound, decides_due, disk_begins, memory_of, serves_step, starts_step, times_step, wakes_step}
use Rattle.law_legal.proofs.RunSetUp.{AreVersions, all_versions, first_passed, given_first}
use Rattle.law_legal.specs.Ideal.{first_lines, set_up_entry}
use Rattle.law_legal.specs.Once.{AreOnce, past_of}
use Rattle.law_legal.specs.Past.{lines_of, HasCode, IsCallUnder, IsUnheard, Ran, called_key, given_message, sent_of}
use Rattle.spec_model.specs.Calls as pairs
use Rattle.spec_model.specs.Calls.{admitted, call_seat}
use Rattle.afs_num.specs.declared.histories.Actor.TheVariants as actors
use Rattle.afs_num.specs.declared.messages.Carried.{Carried}
use Rattle.afs_num.specs.declared.messages.Carried.TheVariants as carried
use Rattle.afs_num.specs.declared.messages.Message.{Message}
use Rattle.afs_num.specs.declared.messages.Received.TheVariants.{Whole}
use Rattle.spec_history.specs.declared.scripts.Script.{Script}
use Rattle.afs_num.specs.declared.types.Head.{Head}
use Rattle.afs_num.specs.declared.types.Key.{Key}
use Rattle.afs_num.specs.declared.types.Node.{Node}
use Rattle.afs_num.specs.declared.types.Node.TheVariants.{Admin, Client, Loc, Server}
use Rattle.spec_rows.specs.Callbacks.{risen_turn, put, replies_of}
use Rattle.spec_rows.specs.ClientRow.{boot_of, client_row}
use Rattle.spec_rows.specs.Going.{ClientState, Going, Seek}
use Rattle.law_legal.proofs.RunSteps.{blow_line, calls_at, server_falls, server_moves, falls_is, sets_is, stays_is, loc_becomes}
use Rattle.spec_rows.specs.Hosts.{sets}
use Rattle.spec_rows.specs.ServerHosts.{can_start}
use Rattle.spec_rows.specs.Runs.{is_away, Armed, Blow, Cell, Entry, Fall, Input, Luck, Moved, Outcome, RunsTo, at_rest, back_timed, begins, begun_by, begun_by_disk, client_moves, client_starts, client_stops, comes_up, fails_early, fails_midway, given_at, given_to, gives, has_host, in_boot, in_step, is_full, message_at, moved, nothing, server_armed, server_ends, server_given, server_restarted, server_served, server_stopped, server_timed, server_waits, server_wakes, sets_fail, sets_stop, without_boot_record, start, starts_again, stops, struck, ticks, unarmed, voided, waited_by, waits, wakes, ServerHost, sought_for}
use Rattle.spec_rows.specs.ServerRow.{decides}
use Rattle.spec_rows.specs.ServerSteps.{server_row, start_row}
use Rattle.spec_rows.specs.States.{BackCall, Seat, ServerState}
use Rattle.spec_rows.specs.Steps.{Step, Begun}
use Rattle.std.proofs.Common.{zero, suc, ◌≡◌, ℕ, ◌+◌, ◌≤◌, ◌<◌, inl, inr, arith, Bool, true, false, cond, List, [], ◌∷◌, ◌++◌, Option, Some, None, refl, sym, ap, subst, ◌∙◌}
use Rattle.std.specs.Prelude.{not}
use Rattle.law_legal.proofs.CallKeysOnce.{EachChange, HasRun, StandsIn, first_stands, moved_keeps}
use Rattle.law_legal.proofs.ServerHears.{After, AreUnheardAt, GivenTo, HasCutAt, Hears, HearsIn, IsHad, IsNoted, IsRan, call_here, call_is, cut_by, cut_to, disk_boot, falls_hears, held_on, host_hears, no_server, none_given, none_more, none_under, not_next, not_under, of_server, own_had, ran_over, replies_to, served_boot, served_given, served_grows, served_taken, server_hears, sound_on, sound_to, started_boot, timed_state, unheard_next, unheard_on, up_host, woken_state}

-- ---- every input of a server

may_back : (d : Option Fall) (boot more : ℕ) (o p : Option Seat) (k : Key) (b : ℕ) → d ≡ None → more ≡ boot → (Above p k.epoch k.number → Above o k.epoch k.number) → MayRun None more p k b → MayRun d boot o k b
may_back d boot more o p k b up same w (inl l) = subst (λ (y : Option Fall). MayRun y boot o k b) (sym up) (inl (subst (λ (n : ℕ). n < b) same l))
may_back d boot more o p k b up same w (inr x) = subst (λ (y : Option Fall). MayRun y boot o k b) (sym up) (inr (x.0 ∙ same, w x.1))

not_again : (c : Cell) (i place : ℕ) (m : Message) (j : ℕ) (k : Key) (b : ℕ) → m.head.to ≡ Server i → IfCall (λ h user call. IsHad c.hosts h.to h.boot) m → k.node ≡ Client j
    → MayRun None (server_row (Server i) (c.hosts i).state c.clock place (Whole m)).state.lasting.boot (call_seat k.node (server_row (Server i) (c.hosts i).state c.clock place (Whole m)).state.seats) k b → IsCallUnder (Server i) k b (Some m) → ⊥
not_again c i place m j k b to w is (inl l) x = not_next c i m j k b to w is (subst (λ (n : ℕ). n < b) (served_boot i (c.hosts i).state c.clock place m) l) x
not_again c i place m j k b to w is (inr r) x =
    served_taken (λ h user call. IsHad c.hosts h.to h.boot) i (c.hosts i).state c.clock place m x.0.0 w to (x.1.1 ∙ (r.0 ∙ served_boot i (c.hosts i).state c.clock place m))
    (subst (λ (y : Key). Above (call_seat y.node (server_row (Server i) (c.hosts i).state c.clock place (Whole m)).state.seats) y.epoch y.number) (sym x.1.0) r.1)

serves_hears : (c : Cell) (past : List Entry) (i place : ℕ) (armed : Armed) (m : Message) → HearsIn c past → StandsIn c (lines_of past) → (c.hosts i).down ≡ None → m.head.to ≡ Server i → message_at c.sent place ≡ Some m → After past (server_moves c i armed (server_row (Server i) (c.hosts i).state c.clock place (Whole m)))
serves_hears c past i place armed m H S up to at =
    let x : ServerState = (c.hosts i).state in
    let s : Step ServerState = server_row (Server i) x c.clock place (Whole m) in
    let e : Entry = of_server i s.lines s.sent in
    let h : ServerHost = up_host armed s.state in
    let w : IfCall (λ y user call. IsHad c.hosts y.to y.boot) m = each_at (IfCall (λ y user call. IsHad c.hosts y.to y.boot)) c.sent place m at H.calls in
    let told : message_at (sent_of past) place ≡ Some m = ap (λ (ms : List Message). message_at ms place) H.told ∙ at in
    let given : given_message s.lines (sent_of past) ≡ Some m = served_given i x c.clock place m (sent_of past) ∙ told in
    let same : s.state.lasting.boot ≡ x.lasting.boot = served_boot i x c.clock place m in
    let grows : x.lasting.boot ≤ s.state.lasting.boot = omega arith in
    let sound : IsSound (IsRan (e ∷ past)) (IsNoted (put i h c.hosts)) (memory_of x) = sound_on c past e i h H grows in
    let due : IsDue (IsRan (e ∷ past)) (IsNoted (put i h c.hosts)) (Server i) x (decides (Server i) x c.clock (Whole m)) = decides_due (IsRan (e ∷ past)) (IsNoted (put i h c.hosts)) (Server i) x c.clock m refl sound.seats (call_here c past i e m H S refl given to up w) (λ z. own_had c.hosts i h x.lasting.boot grows m.head.to z) in
    server_hears c past i (Some place) armed s H grows (serves_step (IsRan (e ∷ past)) (IsNoted (put i h c.hosts)) i x c.clock place m sound (held_on c past e i h H grows) due) (subst (GivenTo (Server i)) (sym told) to)
    (λ j k b is may. (
      λ u. not_again c i place m j k b to w is may (subst (λ (o : Option Message). IsCallUnder (Server i) k b o) given u),
      H.unheard i j k b is (may_back (c.hosts i).down x.lasting.boot s.state.lasting.boot (call_seat k.node x.seats) (call_seat k.node s.state.seats) k b up same (served_grows (IsRan (e ∷ past)) (IsNoted (put i h c.hosts)) i x c.clock place m due k.node k.epoch k.number) may),
    ))
    (step_boots c.hosts i h e past (serves_standing (Server i) x c.clock place m) (sym up) same H.boots)

cut_hears : (c : Cell) (past : List Entry) (i place : ℕ) (m : Message) (b : Blow) → HearsIn c past → StandsIn c (lines_of past) → (c.hosts i).down ≡ None → m.head.to ≡ Server i → message_at c.sent place ≡ Some m → After past (server_falls c i (lines.Given place ∷ blow_line i b.stops ∷ []) (in_step m c.clock b))
cut_hears c past i place m b H S up to at =
    let ls : List Line = lines.Given place ∷ blow_line i b.stops ∷ [] in
    let w : IfCall (λ y user call. IsHad c.hosts y.to y.boot) m = each_at (IfCall (λ y user call. IsHad c.hosts y.to y.boot)) c.sent place m at H.calls in
    let given : given_message ls (sent_of past) ≡ Some m = ap (λ (ms : List Message). message_at ms place) H.told ∙ at in
    falls_hears c past i (Some (in_step m c.clock b)) unarmed ls H (call_here c past i (of_server i ls []) m H S refl given to up w) (subst (GivenTo (Server i)) (sym given) to)
    (λ j k x is later. (
      λ u. not_next c i m j k x to w is later (subst (λ (o : Option Message). IsCallUnder (Server i) k x o) given u),
      unheard_next i (c.hosts i).down (c.hosts i).state.seats (c.hosts i).state.lasting.boot past (H.unheard i) j k x is later,
    ))
    (stop_boots c.hosts i (record (c.hosts i) { down = Some (in_step m c.clock b); armed = unarmed }) (of_server i ls []) past (lines.Given place ∷ []) (blow_line i b.stops) refl refl (blow_stops i b.stops) refl (le_refl _) H.boots)

still_hears : (clients : ℕ → ClientState) (hosts : ℕ → ServerHost) (sent : List Message) (past : List Entry) (e : Entry) → Hears clients hosts sent past → e.sent ≡ [] → given_message e.lines (sent_of past) ≡ None → all_lines is_standing e.lines ≡ true → Hears clients hosts sent (e ∷ past)
still_hears clients hosts sent past e H none given stand =
    let w : (x : Head) → IsRan past x → IsRan (e ∷ past) x = ran_over e past in
    record {
      told = ap (λ (ms : List Message). sent_of past ++ ms) none ∙ (none_more (sent_of past) ∙ H.told);
      boots = still_boots hosts e past stand H.boots;
      calls = H.calls;
      notices = H.notices;
      answers = each_map _ _ (if_reply (λ r. IsRan past r.head) (λ r. IsRan (e ∷ past) r.head) (λ r. w r.head)) sent H.answers;
      known = H.known;
      replies = λ j. replies_to (IsRan past) (IsRan (e ∷ past)) (IsNoted hosts) (IsNoted hosts) w (λ x z. z) (clients j).seats (H.replies j);
      first = H.first;
      unheard = λ j. unheard_on j (hosts j).down (hosts j).state.seats (hosts j).state.lasting.boot e past (λ k b. none_under (Server j) k b (given_message e.lines (sent_of past)) given) (H.unheard j);
      sound = λ j. sound_to (IsRan past) (IsRan (e ∷ past)) (IsNoted hosts) (IsNoted hosts) w (λ x z. z) (memory_of (hosts j).state) (H.sound j);
      held = λ j. each_map _ _ (answer_over (IsRan past) (IsRan (e ∷ past)) (IsNoted hosts) (IsNoted hosts) w (λ x z. z)) (replies_of (hosts j).state.backs.held) (H.held j);
      falls = λ j. cut_to (IsRan past) (IsRan (e ∷ past)) w (hosts j).state (hosts j).down (H.falls j);
    }

void_hears : (c : Cell) (past : List Entry) → HearsIn c past → After past (voided c)
void_hears c past H = still_hears c.clients c.hosts c.sent past (record { actor = actors.Nobody; lines = lines.Void ∷ []; sent = []; volumes = [] }) H refl refl refl

either_hears : (past : List Entry) (t : Bool) (m k : Moved) → After past m → After past k → After past (cond t m k)
either_hears past true m k a b = a
either_hears past false m k a b = b

served_hears : (c : Cell) (past : List Entry) (i place : ℕ) (m : Message) (b : Option Blow) → HearsIn c past → StandsIn c (lines_of past) → (c.hosts i).down ≡ None → m.head.to ≡ Server i → message_at c.sent place ≡ Some m → After past (server_served c i place m b)
served_hears c past i place m None H S up to at = serves_hears c past i place _ m H S up to at
served_hears c past i place m (Some b) H S up to at = falls_is (After past) c i (lines.Given place ∷ blow_line i b.stops ∷ []) (in_step m c.clock b) (cut_hears c past i place m b H S up to at)

received_hears : (c : Cell) (past : List Entry) (i place : ℕ) (luck : Luck) (m : Message) (d : Option Fall) → HearsIn c past → StandsIn c (lines_of past) → (c.hosts i).down ≡ d → m.head.to ≡ Server i → message_at c.sent place ≡ Some m → After past (server_given c i place luck m d)
received_hears c past i place luck m None H S up to at = served_hears c past i place m (struck (c.hosts i).armed luck (calls_at c i m)) H S up to at
received_hears c past i place luck m (Some fall) H S up to at = void_hears c past H

-- down, where nothing is given
down_heard : (c : Cell) (past : List Entry) (i : ℕ) (e : Entry) (fall : Fall) (seats : List Seat) (boot : ℕ) → HearsIn c past → given_message e.lines (sent_of past) ≡ None → (c.hosts i).state.lasting.boot ≤ boot → AreUnheardAt i (Some fall) seats boot (e ∷ past)
down_heard c past i e fall seats boot H none more j k b is later =
    let l : boot < b = later in let m : (c.hosts i).state.lasting.boot ≤ boot = more in
    let next : (c.hosts i).state.lasting.boot < b = omega arith in
    (none_under (Server i) k b (given_message e.lines (sent_of past)) none, unheard_next i (c.hosts i).down (c.hosts i).state.seats (c.hosts i).state.lasting.boot past (H.unheard i) j k b is next)

stopped_hears : (c : Cell) (past : List Entry) (i : ℕ) (d : Option Fall) → HearsIn c past → After past (server_stopped c i d)
stopped_hears c past i None H =
    let same : (c.hosts i).state.lasting.boot ≤ (c.hosts i).state.lasting.boot = omega arith in
    falls_is (After past) c i (lines.Crash (Server i) ∷ []) at_rest
    (falls_hears c past i (Some at_rest) unarmed (lines.Crash (Server i) ∷ []) H tt tt (down_heard c past i (of_server i (lines.Crash (Server i) ∷ []) []) at_rest (c.hosts i).state.seats (c.hosts i).state.lasting.boot H refl same)
    (stop_boots c.hosts i (record (c.hosts i) { down = Some at_rest; armed = unarmed }) (of_server i (lines.Crash (Server i) ∷ []) []) past [] (lines.Crash (Server i)) refl refl (inl refl) refl same H.boots))
stopped_hears c past i (Some fall) H = void_hears c past H

-- what a restart begins with, by what is told after it
abbrev BeginsBy : Cell → List Entry → ℕ → Begun ServerState → Type 0
BeginsBy c past i f = (e : Entry) (h : ServerHost) → (c.hosts i).state.lasting.boot ≤ h.state.lasting.boot → Begins (IsRan (e ∷ past)) (IsNoted (put i h c.hosts)) (Server i) (c.hosts i).state f

-- it stays down
stays_hears : (c : Cell) (past : List Entry) (i : ℕ) (f : Begun ServerState) (l : Line) (fall : Fall) → HearsIn c past → (c.hosts i).state.lasting.boot ≤ f.state.lasting.boot → BeginsBy c past i f → ((sent : List Message) → given_message (l ∷ []) sent ≡ None) → ((K : Head → Type 0) → IsCutBy K f.state.lasting.boot f.state.seats fall)
    → all_lines is_unchanging (l ∷ []) ≡ true → Boots (put i (record { state = f.state; down = Some fall; armed = unarmed }) c.hosts) (of_server i (f.before (l ∷ [])) [] ∷ past) → Hears c.clients (put i (record { state = f.state; down = Some fall; armed = unarmed }) c.hosts) c.sent (of_server i (f.before (l ∷ [])) [] ∷ past)
stays_hears c past i f l fall H more b none cut plain boots =
    let e : Entry = of_server i (f.before (l ∷ [])) [] in
    let h : ServerHost = record { state = f.state; down = Some fall; armed = unarmed } in
    let q : Begins (IsRan (e ∷ past)) (IsNoted (put i h c.hosts)) (Server i) (c.hosts i).state f = b e h more in
    let given : given_message e.lines (sent_of past) ≡ None = q.ungiven (l ∷ []) (sent_of past) (none (sent_of past)) in
    host_hears c.clients c.hosts c.sent c.sent past e i h H more (none_more (sent_of past) ∙ H.told) (λ P x y. x) tt (q.hosts (l ∷ []) plain).sound q.held (cut (IsRan (e ∷ past))) (none_given (Server i) (given_message e.lines (sent_of past)) given)
    (down_heard c past i e fall f.state.seats f.state.lasting.boot H given more) boots

may_next : (boot begun now : ℕ) (o : Option Seat) (k : Key) (b : ℕ) → boot ≤ begun → now ≡ begun + 1 → MayRun None now o k b → boot < b
may_next boot begun now o k b l e (inl z) = let a : boot ≤ begun = l in let q : now ≡ begun + 1 = e in let y : now < b = z in omega arith
may_next boot begun now o k b l e (inr z) = let a : boot ≤ begun = l in let q : now ≡ begun + 1 = e in let y : b ≡ now = z.0 in omega arith

-- it comes up
rises_hears : (c : Cell) (past : List Entry) (i : ℕ) (f : Begun ServerState) → HearsIn c past → up_boot (c.hosts i).down (c.hosts i).state.lasting.boot ≡ None → HasFront f → (c.hosts i).state.lasting.boot ≤ f.state.lasting.boot → BeginsBy c past i f → After past (server_moves c i unarmed (start_row (Server i) c.clock c.count f))
rises_hears c past i f H was front more b =
    let s : Step ServerState = start_row (Server i) c.clock c.count f in
    let e : Entry = of_server i s.lines s.sent in
    let h : ServerHost = up_host unarmed s.state in
    let next : s.state.lasting.boot ≡ f.state.lasting.boot + 1 = started_boot i c.clock c.count f in
    let m : (c.hosts i).state.lasting.boot ≤ f.state.lasting.boot = more in
    let grows : (c.hosts i).state.lasting.boot ≤ s.state.lasting.boot = omega arith in
    let q : HostStep (IsRan (e ∷ past)) (IsNoted (put i h c.hosts)) None (Server i) (c.hosts i).state s = starts_step (IsRan (e ∷ past)) (IsNoted (put i h c.hosts)) i (c.hosts i).state c.clock c.count f (b e h grows) in
    server_hears c past i None unarmed s H grows q tt
    (λ j k x is may. (
      none_under (Server i) k x (given_message s.lines (sent_of past)) (q.given (sent_of past)),
      unheard_next i (c.hosts i).down (c.hosts i).state.seats (c.hosts i).state.lasting.boot past (H.unheard i) j k x is (may_next (c.hosts i).state.lasting.boot f.state.lasting.boot s.state.lasting.boot (call_seat k.node s.state.seats) k x more next may),
    ))
    (rise_boots c.hosts i h e past (f.before []) (risen_turn (Server i) c.clock c.count).lines
    (started_lines i c.clock c.count f ∙ (front.before _ ∙ ap (λ (n : ℕ). f.before [] ++ lines.Restart (Server i) n ∷ (risen_turn (Server i) c.clock c.count).lines) (sym next)))
    front.standing (notes_standing i c.clock c.count) was refl (omega arith) H.boots)

full_standing : (f : Begun ServerState) (i : ℕ) → HasFront f → all_lines is_standing (f.before (lines.Full (Server i) ∷ [])) ≡ true
full_standing f i front = subst (λ (ls : List Line). all_lines is_standing ls ≡ true) (sym (front.before _)) (standing_both (f.before []) (lines.Full (Server i) ∷ []) front.standing refl)

ends_hears : (c : Cell) (past : List Entry) (i : ℕ) (f : Begun ServerState) (fall : Fall) (out : Outcome) → HearsIn c past → IsCutBy (IsRan past) (c.hosts i).state.lasting.boot (c.hosts i).state.seats fall → up_boot (c.hosts i).down (c.hosts i).state.lasting.boot ≡ None → HasFront f → (c.hosts i).state.lasting.boot ≤ f.state.lasting.boot → BeginsBy c past i f → After past (server_ends c i f fall out)
ends_hears c past i f fall comes_up H cut was front more b = rises_hears c past i f H was front more b
ends_hears c past i f fall fails_early H cut was front more b =
    let e : Entry = of_server i (lines.Fault (Server i) ∷ []) [] in
    let same : (c.hosts i).state.lasting.boot ≤ (c.hosts i).state.lasting.boot = omega arith in
    falls_is (After past) c i (lines.Fault (Server i) ∷ []) fall
    (falls_hears c past i (Some fall) unarmed (lines.Fault (Server i) ∷ []) H (cut_by (IsRan past) (IsRan (e ∷ past)) (ran_over e past) (c.hosts i).state.lasting.boot (c.hosts i).state.seats fall cut) tt
    (down_heard c past i e fall (c.hosts i).state.seats (c.hosts i).state.lasting.boot H refl same)
    (stop_boots c.hosts i (record (c.hosts i) { down = Some fall; armed = unarmed }) e past [] (lines.Fault (Server i)) refl refl (inr refl) refl same H.boots))
ends_hears c past i f fall fails_midway H cut was front more b =
    stays_is (After past) c i f (lines.Fault (Server i)) in_boot
    (stays_hears c past i f (lines.Fault (Server i)) in_boot H more b (λ sent. refl) (λ K. tt) refl
    (stop_boots c.hosts i (record { state = f.state; down = Some in_boot; armed = unarmed }) (of_server i (f.before (lines.Fault (Server i) ∷ [])) []) past (f.before []) (lines.Fault (Server i)) (front.before _) front.standing (inr refl) refl more H.boots))
ends_hears c past i f fall is_full H cut was front more b =
    stays_is (After past) c i f (lines.Full (Server i)) at_rest
    (stays_hears c past i f (lines.Full (Server i)) at_rest H more b (λ sent. refl) (λ K. tt) refl
    (down_boots c.hosts i (record { state = f.state; down = Some at_rest; armed = unarmed }) (of_server i (f.before (lines.Full (Server i) ∷ [])) []) past (full_standing f i front) was refl more H.boots))

restarted_hears : (c : Cell) (past : List Entry) (i : ℕ) (after : Bool) (out : Outcome) (d : Option Fall) → HearsIn c past → (c.hosts i).down ≡ d → HasCutAt (IsRan past) (c.hosts i).state d → After past (server_restarted c i after out d)
restarted_hears c past i after out None H down cut = void_hears c past H
restarted_hears c past i after out (Some fall) H down cut =
    let x : ServerState = (c.hosts i).state in
    let f : Begun ServerState = begun_by_disk (Server i) x after fall in
    ends_hears c past i f fall (without_boot_record (can_start f.state) out) H cut (ap (λ (d : Option Fall). up_boot d x.lasting.boot) down) (disk_front (Server i) x after fall) (disk_boot (Server i) x after fall)
    (λ e h more. disk_begins (IsRan (e ∷ past)) (IsNoted (put i h c.hosts)) (Server i) x after fall refl (sound_on c past e i h H more) (held_on c past e i h H more) (cut_by (IsRan past) (IsRan (e ∷ past)) (ran_over e past) x.lasting.boot x.seats fall cut)
    (λ y to. own_had c.hosts i h x.lasting.boot more y.to to))

-- its disk is set
set_hears : (c : Cell) (past : List Entry) (i : ℕ) (l : Line) (armed : Armed) (d : Option Fall) → ((sent : List Message) → given_message (l ∷ []) sent ≡ None) → all_lines is_standing (l ∷ []) ≡ true → HearsIn c past → After past (server_armed c i (sets (c.hosts i) l armed) d)
set_hears c past i l armed None none stand H =
    let e : Entry = of_server i (l ∷ []) [] in
    sets_is (After past) c i l armed
    (falls_hears c past i (c.hosts i).down armed (l ∷ []) H (cut_to (IsRan past) (IsRan (e ∷ past)) (ran_over e past) (c.hosts i).state (c.hosts i).down (H.falls i)) (none_given (Server i) (given_message (l ∷ []) (sent_of past)) (none (sent_of past)))
    (unheard_on i (c.hosts i).down (c.hosts i).state.seats (c.hosts i).state.lasting.boot e past (λ k b. none_under (Server i) k b (given_message (l ∷ []) (sent_of past)) (none (sent_of past))) (H.unheard i))
    (step_boots c.hosts i (record (c.hosts i) { armed = armed }) e past stand refl refl H.boots))
set_hears c past i l armed (Some fall) none stand H = void_hears c past H

-- a step on no message, which leaves its seats and its boot number
quiet_hears : (c : Cell) (past : List Entry) (i : ℕ) (armed : Armed) (s : Step ServerState) → HearsIn c past → (c.hosts i).down ≡ None → (s.state.seats ≡ (c.hosts i).state.seats) × (s.state.lasting.boot ≡ (c.hosts i).state.lasting.boot)
    → ((K L : Head → Type 0) → IsSound K L (memory_of (c.hosts i).state) → Each (IsAnswer K L) (replies_of (c.hosts i).state.backs.held) → HostStep K L None (Server i) (c.hosts i).state s) → all_lines is_standing s.lines ≡ true → After past (server_moves c i armed s)
quiet_hears c past i armed s H up same step stand =
    let e : Entry = of_server i s.lines s.sent in
    let h : ServerHost = up_host armed s.state in
    let boot : s.state.lasting.boot ≡ (c.hosts i).state.lasting.boot = same.1 in
    let grows : (c.hosts i).state.lasting.boot ≤ s.state.lasting.boot = omega arith in
    let q : HostStep (IsRan (e ∷ past)) (IsNoted (put i h c.hosts)) None (Server i) (c.hosts i).state s = step (IsRan (e ∷ past)) (IsNoted (put i h c.hosts)) (sound_on c past e i h H grows) (held_on c past e i h H grows) in
    server_hears c past i None armed s H grows q tt
    (λ j k b is may. (
      none_under (Server i) k b (given_message s.lines (sent_of past)) (q.given (sent_of past)),
      H.unheard i j k b is (may_back (c.hosts i).down (c.hosts i).state.lasting.boot s.state.lasting.boot (call_seat k.node (c.hosts i).state.seats) (call_seat k.node s.state.seats) k b up boot (λ a. subst (λ (x : List Seat). Above (call_seat k.node x) k.epoch k.number) same.0 a) may),
    ))
    (step_boots c.hosts i h e past stand (sym up) boot H.boots)

back_hears : (c : Cell) (past : List Entry) (i : ℕ) (n : Node) (b : Option BackCall) → HearsIn c past → (c.hosts i).down ≡ None → After past (back_timed c i n b)
back_hears c past i n None H up = void_hears c past H
back_hears c past i n (Some b) H up = quiet_hears c past i _ _ H up (timed_state i (c.hosts i).state c.clock n b) (λ K L. times_step K L i (c.hosts i).state c.clock n b) (times_standing (Server i) (c.hosts i).state c.clock n b)

timed_hears : (c : Cell) (past : List Entry) (i : ℕ) (n : Node) (d : Option Fall) → HearsIn c past → (c.hosts i).down ≡ d → After past (server_timed c i n d)
timed_hears c past i n None H up = back_hears c past i n ((c.hosts i).state.backs.calls n) H up
timed_hears c past i n (Some fall) H up = void_hears c past H

woken_hears : (c : Cell) (past : List Entry) (i : ℕ) (d : Option Fall) → HearsIn c past → (c.hosts i).down ≡ d → After past (server_wakes c i d)
woken_hears c past i None H up = quiet_hears c past i _ _ H up (woken_state i (c.hosts i).state c.clock) (λ K L. wakes_step K L i (c.hosts i).state c.clock) (wakes_standing (Server i) (c.hosts i).state c.clock)
woken_hears c past i (Some fall) H up = void_hears c past H

-- ---- a step of a client

abbrev pub of_client_step : ℕ → Step ClientState → Entry
of_client_step n s = record { actor = actors.Node (Client n); lines = s.lines; sent = s.sent; volumes = [] }

last_had : (hosts : ℕ → ServerHost) (n : ℕ) (y : ClientState) (h : Head) → IsHad hosts y.callee (boot_of y.callee y.boots) → IsLastOf n (caller_at y) h → IsHad hosts h.to h.boot
last_had hosts n y h w l i q = subst (λ (b : ℕ). b ≤ (hosts i).state.lasting.boot) (sym l.boot) (w i (sym l.to ∙ q))

client_hears : (c : Cell) (past : List Entry) (n : ℕ) (D : Option ℕ) (s : Step ClientState) → HearsIn c past → Tame (IsRan (of_client_step n s ∷ past)) (IsNoted c.hosts) (IsHad c.hosts) D n (caller_at (c.clients n)) s → GivenTo (Client n) (placed D (sent_of past)) → After past (client_moves c n s)
client_hears c past n D s H t given =
    let e : Entry = of_client_step n s in
    let w : (x : Head) → IsRan past x → IsRan (e ∷ past) x = ran_over e past in
    let known : (q : Node) → IsHad c.hosts q (boot_of q s.state.boots) = t.boots (H.known n) in
    let to : GivenTo (Client n) (given_message s.lines (sent_of past)) = subst (GivenTo (Client n)) (sym (t.given (sent_of past))) given in
    record {
      told = ap (λ (ms : List Message). ms ++ s.sent) H.told;
      boots = still_boots c.hosts e past (mild_standing s.lines t.lines) H.boots;
      calls = each_more (IfCall (λ x user call. IsHad c.hosts x.to x.boot)) c.sent s.sent H.calls
          (each_map _ _ (if_call (λ x user call. IsLastOf n (caller_at s.state) x) (λ x user call. IsHad c.hosts x.to x.boot) (λ x user call. last_had c.hosts n s.state x (known s.state.callee))) s.sent t.sent);
      notices = each_more (λ m. OfNotice (IsNoted c.hosts m.head) m.carried) c.sent s.sent H.notices t.notices;
      answers = each_more (IfReply (λ r. IsRan (e ∷ past) r.head)) c.sent s.sent (each_map _ _ (if_reply (λ r. IsRan past r.head) (λ r. IsRan (e ∷ past) r.head) (λ r. w r.head)) c.sent H.answers) t.answers;
      known = λ j. at_put n j (λ (x : ClientState). (q : Node) → IsHad c.hosts q (boot_of q x.boots)) s.state c.clients (λ same. known) (λ other. H.known j);
      replies = λ j. at_put n j (λ (x : ClientState). AreReplies (IsRan (e ∷ past)) (IsNoted c.hosts) x.seats) s.state c.clients (λ same. t.kept) (λ other. replies_to (IsRan past) (IsRan (e ∷ past)) (IsNoted c.hosts) (IsNoted c.hosts) w (λ x z. z) (c.clients j).seats (H.replies j));
      first = H.first;
      unheard = λ j. unheard_on j (c.hosts j).down (c.hosts j).state.seats (c.hosts j).state.lasting.boot e past (λ k b. not_under (Client n) (Server j) k b (given_message s.lines (sent_of past)) to (no_server n j)) (H.unheard j);
      sound = λ j. sound_to (IsRan past) (IsRan (e ∷ past)) (IsNoted c.hosts) (IsNoted c.hosts) w (λ x z. z) (memory_of (c.hosts j).state) (H.sound j);
      held = λ j. each_map _ _ (answer_over (IsRan past) (IsRan (e ∷ past)) (IsNoted c.hosts) (IsNoted c.hosts) w (λ x z. z)) (replies_of (c.hosts j).state.backs.held) (H.held j);
      falls = λ j. cut_to (IsRan past) (IsRan (e ∷ past)) w (c.hosts j).state (c.hosts j).down (H.falls j);
    }

-- what a client keeps, by what is told after the step
pub kept_on : (c : Cell) (past : List Entry) (e : Entry) (n : ℕ) → HearsIn c past → AreReplies (IsRan (e ∷ past)) (IsNoted c.hosts) (c.clients n).seats
kept_on c past e n H = replies_to (IsRan past) (IsRan (e ∷ past)) (IsNoted c.hosts) (IsNoted c.hosts) (ran_over e past) (λ x z. z) (c.clients n).seats (H.replies n)

-- ---- every input

-- what a client does with a message that it is given
row_given : (c : Cell) (past : List Entry) (n p : ℕ) (m : Message) (e : Entry) → HearsIn c past → m.head.to ≡ Client n → message_at c.sent p ≡ Some m
    → Tame (IsRan (e ∷ past)) (IsNoted c.hosts) (IsHad c.hosts) (Some p) n (caller_at (c.clients n)) (client_row (Client n) (c.clients n) c.clock p (Whole m))
row_given c past n p m e H to at =
    given_tame (IsRan (e ∷ past)) (IsNoted c.hosts) (IsHad c.hosts) n (c.clients n) c.clock p m (kept_on c past e n H)
    (call_is (IsRan (e ∷ past)) (λ h. IsHad c.hosts h.to h.boot) (c.clients n).epoch (c.clients n).seats m.head m.carried (λ is j from q runs i z. absurd (no_server n i (sym to ∙ z))) (each_at (IfCall (λ y user call. IsHad c.hosts y.to y.boot)) c.sent p m at H.calls))
    (λ i z. absurd (no_server n i (sym to ∙ z))) (each_at (λ y. OfNotice (IsNoted c.hosts y.head) y.carried) c.sent p m at H.notices)

pub client_given : (c : Cell) (past : List Entry) (n p : ℕ) (m : Message) → HearsIn c past → m.head.to ≡ Client n → message_at c.sent p ≡ Some m
    → Tame (IsRan (of_client_step n (client_row (Client n) (c.clients n) c.clock p (Whole m)) ∷ past)) (IsNoted c.hosts) (IsHad c.hosts) (Some p) n (caller_at (c.clients n)) (client_row (Client n) (c.clients n) c.clock p (Whole m))
client_given c past n p m H to at = row_given c past n p m (of_client_step n (client_row (Client n) (c.clients n) c.clock p (Whole m))) H to at

guest_given : (c : Cell) (past : List Entry) (n p : ℕ) (m : Message) → HearsIn c past → m.head.to ≡ Client n → message_at c.sent p ≡ Some m
    → Tame (IsRan (of_client_step n (sought_or (Client n) (c.clients n) c.clock p m (c.clients n).seeking) ∷ past)) (IsNoted c.hosts) (IsHad c.hosts) (Some p) n (caller_at (c.clients n)) (sought_or (Client n) (c.clients n) c.clock p m (c.clients n).seeking)
guest_given c past n p m H to at =
    let e : Entry = of_client_step n (sought_or (Client n) (c.clients n) c.clock p m (c.clients n).seeking) in
    guest_tame (IsRan (e ∷ past)) (IsNoted c.hosts) (IsHad c.hosts) n (c.clients n) c.clock p m (c.clients n).seeking (λ b i z. absurd (let no : Loc ≡ Server i = z in let no' : ⊥ = cc in no')) (kept_on c past e n H) (row_given c past n p m e H to at)

-- ---- a step of the location database

of_loc_entry : List Line → List Message → Entry
of_loc_entry ls ms = record { actor = actors.Node Loc; lines = ls; sent = ms; volumes = [] }

loc_stands : (l : Line) → is_of_loc l ≡ true → is_standing l ≡ true
loc_stands (lines.Crash n) h = ap (λ (q : Node). not (is_server q)) (same_node-true n Loc h)
loc_stands (lines.Fault n) h = ap (λ (q : Node). not (is_server q)) (same_node-true n Loc h)
loc_stands (lines.Restart n boot) h = ap (λ (q : Node). not (is_server q)) (same_node-true n Loc h)
loc_stands l h = refl

to_given : (q : Node) (o : Option Message) → ((m : Message) → o ≡ Some m → m.head.to ≡ q) → GivenTo q o
to_given q None w = tt
to_given q (Some m) w = w m refl

loc_hears : (c : Cell) (past : List Entry) (l : LocHost) (ls : List Line) (ms : List Message) → HearsIn c past → IsLocStep c l ls ms → After past (loc_becomes c l ls ms)
unfolding of_loc_entry
loc_hears c past l ls ms H st =
    let e : Entry = of_loc_entry ls ms in
    let w : (x : Head) → IsRan past x → IsRan (e ∷ past) x = ran_over e past in
    let to : GivenTo Loc (given_message ls (sent_of past)) = subst (GivenTo Loc) (sym (st.given (sent_of past))) (to_given Loc (placed st.place (sent_of past)) (subst (λ (all : List Message). (m : Message) → placed st.place all ≡ Some m → m.head.to ≡ Loc) (sym H.told) st.to)) in
    record {
      told = ap (λ (all : List Message). all ++ ms) H.told;
      boots = still_boots c.hosts e past (all_of_loc is_standing loc_stands ls st.lines) H.boots;
      calls = each_more (IfCall (λ x user call. IsHad c.hosts x.to x.boot)) c.sent ms H.calls (each_map IsOfLoc _ (λ m h. uncalled_any (λ x user call. IsHad c.hosts x.to x.boot) m h.1) ms st.sent);
      notices = each_more (λ m. OfNotice (IsNoted c.hosts m.head) m.carried) c.sent ms H.notices (each_map IsOfLoc _ (λ m h. loc_notice (λ x. IsNoted c.hosts x.head) m (λ f i z. absurd (no_server_loc m.head i f z)) h) ms st.sent);
      answers = each_more (IfReply (λ r. IsRan (e ∷ past) r.head)) c.sent ms (each_map _ _ (if_reply (λ r. IsRan past r.head) (λ r. IsRan (e ∷ past) r.head) (λ r. w r.head)) c.sent H.answers)
          (each_map IsOfLoc _ (λ m h. loc_reply (λ r. IsRan (e ∷ past) r.head) m (λ f i z. absurd (no_server_loc m.head i f z)) h) ms st.sent);
      known = H.known;
      replies = λ j. replies_to (IsRan past) (IsRan (e ∷ past)) (IsNoted c.hosts) (IsNoted c.hosts) w (λ x z. z) (c.clients j).seats (H.replies j);
      first = H.first;
      unheard = λ j. unheard_on j (c.hosts j).down (c.hosts j).state.seats (c.hosts j).state.lasting.boot e past (λ k b. not_under Loc (Server j) k b (given_message ls (sent_of past)) to (λ z. absurd (let no : Loc ≡ Server j = z in let no' : ⊥ = cc in no'))) (H.unheard j);
      sound = λ j. sound_to (IsRan past) (IsRan (e ∷ past)) (IsNoted c.hosts) (IsNoted c.hosts) w (λ x z. z) (memory_of (c.hosts j).state) (H.sound j);
      held = λ j. each_map _ _ (answer_over (IsRan past) (IsRan (e ∷ past)) (IsNoted c.hosts) (IsNoted c.hosts) w (λ x z. z)) (replies_of (c.hosts j).state.backs.held) (H.held j);
      falls = λ j. cut_to (IsRan past) (IsRan (e ∷ past)) w (c.hosts j).state (c.hosts j).down (H.falls j);
    }

to_hears : (c : Cell) (past : List Entry) (p : ℕ) (luck : Luck) (m : Message) (to : Node) → IsSoundLoc c.loc.state → HearsIn c past → StandsIn c (lines_of past) → m.head.to ≡ to → message_at c.sent p ≡ Some m → After past (given_to c p luck m to)
to_hears c past p luck m (Server i) s H S to at = either_hears past (has_host c i) _ _ (received_hears c past i p luck m (c.hosts i).down H S refl to at) (void_hears c past H)
to_hears c past p luck m (Client n) s H S to at =
    either_hears past (is_away c n) _ _ (void_hears c past H)
    (client_hears c past n (Some p) (sought_or (Client n) (c.clients n) c.clock p m (c.clients n).seeking) H (guest_given c past n p m H to at) (subst (GivenTo (Client n)) (sym (ap (λ (ms : List Message). message_at ms p) H.told ∙ at)) to))
to_hears c past p luck m Loc s H S to at = loc_received_to (After past) c p luck m c.loc.down refl (void_hears c past H) (λ l ls ms st. loc_hears c past l ls ms H st) s at to
to_hears c past p luck m (Admin n) s H S to at = void_hears c past H

at_hears : (c : Cell) (past : List Entry) (p : ℕ) (luck : Luck) (m : Option Message) → message_at c.sent p ≡ m → IsSoundLoc c.loc.state → HearsIn c past → StandsIn c (lines_of past) → After past (given_at c p luck m)
at_hears c past p luck None e s H S = void_hears c past H
at_hears c past p luck (Some m) e s H S = to_hears c past p luck m m.head.to s H S refl e

begun_hears : (c : Cell) (past : List Entry) (n : ℕ) (act : Act) (g : Option Going) → HearsIn c past → After past (begun_by c n act g)
begun_hears c past n act None H = client_hears c past n None _ H (begins_tame _ (IsNoted c.hosts) (IsHad c.hosts) n (c.clients n) c.clock act (kept_on c past _ n H)) tt
begun_hears c past n act (Some g) H = void_hears c past H

missed_hears : (c : Cell) (past : List Entry) (n : ℕ) (k : Option Seek) → HearsIn c past → After past (sought_for c n k)
missed_hears c past n None H = void_hears c past H
missed_hears c past n (Some k) H = client_hears c past n None _ H (missed_tame _ (IsNoted c.hosts) (IsHad c.hosts) n (c.clients n) k (kept_on c past _ n H)) tt

waited_hears : (c : Cell) (past : List Entry) (n : ℕ) (g : Option Going) → (c.clients n).running ≡ g → HearsIn c past → After past (waited_by c n g)
waited_hears c past n None e H = missed_hears c past n (c.clients n).seeking H
waited_hears c past n (Some act) e H = client_hears c past n None _ H (waits_tame _ (IsNoted c.hosts) (IsHad c.hosts) n (c.clients n) act e (kept_on c past _ n H)) tt

-- a client that begins again knows no boot number, and takes each server's to be the first
pub first_had : (c : Cell) (past : List Entry) → HearsIn c past → (q : Node) → IsHad c.hosts q 1
first_had c past H q i e = H.first i

pub moved_hears : (c : Cell) (past : List Entry) (x : Input) → IsSoundLoc c.loc.state → HearsIn c past → StandsIn c (lines_of past) → After past (moved c x)
unfolding moved
moved_hears c past (begins n act) s H S = either_hears past (is_away c n) _ _ (void_hears c past H) (begun_hears c past n act (act_of (c.clients n)) H)
moved_hears c past (gives p luck) s H S = at_hears c past p luck (message_at c.sent p) refl s H S
moved_hears c past (waits n) s H S = either_hears past (is_away c n) _ _ (void_hears c past H) (waited_hears c past n (c.clients n).running refl H)
moved_hears c past (ticks zero) s H S = void_hears c past H
moved_hears c past (ticks (suc n)) s H S = still_hears c.clients c.hosts c.sent past (record { actor = actors.Clock; lines = lines.Tick (suc n) ∷ []; sent = []; volumes = [] }) H refl refl refl
moved_hears c past (client_stops n) s H S = either_hears past (is_away c n) _ _ (void_hears c past H) (client_hears c past n None _ H (falls_tame _ (IsNoted c.hosts) (IsHad c.hosts) n c.handed (c.clients n) (first_had c past H)) tt)
moved_hears c past (client_starts n) s H S = either_hears past (c.away n) _ _ (client_hears c past n None _ H (rises_tame _ (IsNoted c.hosts) (IsHad c.hosts) n (c.clients n) (kept_on c past _ n H)) tt) (void_hears c past H)
moved_hears c past (stops zero) s H S = loc_stopped_to (After past) c c.loc.down refl (void_hears c past H) (λ l ls ms st. loc_hears c past l ls ms H st) s
moved_hears c past (stops (suc i)) s H S = either_hears past (has_host c (suc i)) _ _ (stopped_hears c past (suc i) (c.hosts (suc i)).down H) (void_hears c past H)
moved_hears c past (starts_again zero after out) s H S = loc_restarted_to (After past) c after out c.loc.down refl (void_hears c past H) (λ l ls ms st. loc_hears c past l ls ms H st) s
moved_hears c past (starts_again (suc i) after out) s H S = either_hears past (has_host c (suc i)) _ _ (restarted_hears c past (suc i) after out (c.hosts (suc i)).down H refl (H.falls (suc i))) (void_hears c past H)
moved_hears c past (sets_stop zero calls pick) s H S = loc_armed_to (After past) c (lines.Stop Loc calls pick) _ c.loc.down refl (stop_line calls pick) (void_hears c past H) (λ l ls ms st. loc_hears c past l ls ms H st) s
moved_hears c past (sets_stop (suc i) calls pick) s H S = either_hears past (has_host c (suc i)) _ _ (set_hears c past (suc i) (lines.Stop (Server (suc i)) calls pick) _ (c.hosts (suc i)).down (λ sent. refl) refl H) (void_hears c past H)
moved_hears c past (sets_fail zero call) s H S = loc_armed_to (After past) c (lines.Fail Loc call) _ c.loc.down refl (fail_line call) (void_hears c past H) (λ l ls ms st. loc_hears c past l ls ms H st) s
moved_hears c past (sets_fail (suc i) call) s H S = either_hears past (has_host c (suc i)) _ _ (set_hears c past (suc i) (lines.Fail (Server (suc i)) call) _ (c.hosts (suc i)).down (λ sent. refl) refl H) (void_hears c past H)
moved_hears c past (server_waits i n) s H S = either_hears past (has_host c i) _ _ (timed_hears c past i n (c.hosts i).down H refl) (void_hears c past H)
moved_hears c past (wakes i) s H S = either_hears past (has_host c i) _ _ (woken_hears c past i (c.hosts i).down H refl) (void_hears c past H)
moved_hears c past nothing s H S = void_hears c past H

-- ---- a run

-- the set-up tells versions alone
first_standing : (ls : List Line) → AreVersions ls → all_lines is_standing ls ≡ true
first_standing [] h = refl
first_standing (lines.Version v ∷ ls) h = first_standing ls h
first_standing (l ∷ ls) h = absurd h

first_boots : (s : Script) → Boots (start s).hosts (set_up_entry s ∷ [])
first_boots s = still_boots (start s).hosts (set_up_entry s) [] (first_standing (first_lines s.volumes) (all_versions s.volumes)) (record { now = λ j. refl; last = λ j. le_refl 1; risen = tt })

pub first_hears : (s : Script) → HearsIn (start s) (set_up_entry s ∷ [])
first_hears s = record {
  told = refl;
  boots = first_boots s;
  calls = tt;
  notices = tt;
  answers = tt;
  known = λ j q i e. omega arith;
  replies = λ j n seat m e. absurd cc;
  first = λ i. omega arith;
  unheard = λ i j k b is may. (none_under (Server i) k b (given_message (first_lines s.volumes) []) (given_first (first_lines s.volumes) [] (all_versions s.volumes)), tt);
  sound = λ i. record { seats = λ n seat m e. absurd cc; kept = λ n seat m e. absurd cc; lower = λ n e k a. a };
  held = λ i. tt;
  falls = λ i. tt;
}

-- and the set-up no change
pub stands_first : (s : Script) → StandsIn (start s) (lines_of (set_up_entry s ∷ []))
stands_first s =
    let S : StandsIn (start s) [] = first_stands s in
    record {
      callees = S.callees;
      own = S.own;
      calls = S.calls;
      answers = S.answers;
      replies = S.replies;
      sound = S.sound;
      held = S.held;
      falls = S.falls;
      ran = first_passed (EachChange (HasRun S.callees (start s).clients (start s).hosts)) (λ v o h. (tt, h)) s.volumes [] tt;
      once = first_passed AreOnce (λ v o h. h) s.volumes [] tt;
      stored = λ i n seat e. absurd cc;
    }

-- what is heard, and the keys of calls
abbrev pub Heard : Cell → List Entry → Type 0
Heard c past = HearsIn c past × StandsIn c (lines_of past)

pub heard_kept : IsKept Heard
heard_kept c past x so h = (moved_hears c past x so h.0 h.1, moved_keeps c (lines_of past) x so h.1)

pub heard_first : (s : Script) → Heard (start s) (set_up_entry s ∷ [])
heard_first s = (first_hears s, stands_first s)

pub hears_at : (s : Script) (h : List Entry) (end : Cell) → RunsTo h s end → HearsIn end (past_of (set_up_entry s ∷ []) h)
hears_at s h end r = (run_keeps Heard heard_kept r.inputs s (set_up_entry s ∷ []) h end (heard_first s) r.leads).0

pub run_unheard : (s : Script) (h : List Entry) (end : Cell) → RunsTo h s end → (i j : ℕ) → (end.hosts i).down ≡ None → (head : Head) → head.from ≡ Client j → admitted (end.hosts i).state.lasting.boot (end.hosts i).state.seats head ≡ pairs.runs
    → IsUnheard (Server i) (called_key head) head.boot (past_of (set_up_entry s ∷ []) h)
run_unheard s h end r i j up head from e =
    let a = runs_admitted (end.hosts i).state.lasting.boot (end.hosts i).state.seats head e in
    (hears_at s h end r).unheard i j (called_key head) head.boot from (subst (λ (d : Option Fall). MayRun d (end.hosts i).state.lasting.boot (call_seat head.from (end.hosts i).state.seats) (called_key head) head.boot) (sym up) (inr a))

pub reply_ran : (past : List Entry) (i j : ℕ) (head : Head) (x : Carried) → HasCode x → head.from ≡ Server i → head.to ≡ Client j → OfReply (OfClient head.to (IsRan past head)) x → Ran head past
reply_ran past i j head (carried.Refusal code) is from to w = by_client j head.to (IsRan past head) to w i from
reply_ran past i j head (carried.Reply reply) is from to w = by_client j head.to (IsRan past head) to w i from
reply_ran past i j head x is from to w = absurd is

pub run_answered : (s : Script) (h : List Entry) (end : Cell) → RunsTo h s end → (i j place : ℕ) (m : Message) → message_at end.sent place ≡ Some m → HasCode m.carried → m.head.from ≡ Server i → m.head.to ≡ Client j → Ran m.head (past_of (set_up_entry s ∷ []) h)
run_answered s h end r i j place m at is from to =
    let past : List Entry = past_of (set_up_entry s ∷ []) h in
    reply_ran past i j m.head m.carried is from to (each_at (IfReply (λ y. IsRan past y.head)) end.sent place m at (hears_at s h end r).answers)
