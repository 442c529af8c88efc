-- Each reply is to a call that ran: what servers, the location database and all others send and keep.
use Rattle.std.proofs.Common.{◌≡◌, inl, inr, ℕ, ℤ, ◌+◌, suc, Bool, true, false, cond, List, [], ◌∷◌, ◌++◌, Option, Some, None, refl, sym, ap, subst, ◌∙◌}
use Rattle.std.specs.Prelude.{⊤, filter}
use Rattle.std.specs.List.{AllByRecursion}
use Rattle.afs_num.specs.Nodes.{same_node}
use Rattle.afs_num.specs.declared.messages.Carried.{Carried}
use Rattle.afs_num.specs.declared.messages.Carried.TheVariants as carried
use Rattle.afs_num.specs.declared.messages.Message.{Message}
use Rattle.afs_num.specs.declared.messages.Received.TheVariants.{Whole}
use Rattle.afs_num.specs.declared.messages.Reply.TheVariants as tell
use Rattle.afs_num.specs.declared.types.Head.{Head}
use Rattle.afs_num.specs.declared.types.Key.{Key}
use Rattle.afs_num.specs.declared.types.Node.{Node}
use Rattle.afs_num.specs.declared.types.Node.TheVariants.{Admin, Client, Loc, Server}
use Rattle.afs_num.specs.declared.volume_calls.VolReply.TheVariants as vol_replies
use Rattle.spec_history.specs.declared.lines.Line.TheVariants as lines
use Rattle.spec_history.specs.declared.scripts.Script.{Script}
use Rattle.spec_ideal.specs.Operations.{is_number}
use Rattle.spec_adminrows.specs.AdminRow.{admin_begin_row, admin_reborn, admin_row, admin_timeout_row, AdminState}
use Rattle.spec_copyrows.specs.CopyRow.{copies_reborn}
use Rattle.spec_copyrows.specs.Sites.{CopyState}
use Rattle.spec_model.specs.Calls.{admitted, key_of, Admitted}
use Rattle.spec_model.specs.Calls as pairs
use Rattle.spec_records.specs.Durable.{Durable}
use Rattle.spec_rows.specs.Hosts.{at_rest, begun_from, comes_up, crashed, ends, fails_early, fails_midway, in_boot, in_step, is_full, restarted, served_by, set_to_fail, set_to_stop, without_boot_record, struck, Blow, Fall, HostStep, Outcome}
use Rattle.spec_rows.specs.LocRow as loc
use Rattle.spec_rows.specs.LocRow.{loc_decides, reply_to, LocDecision, LocState}
use Rattle.spec_rows.specs.LocSteps.{loc_begun_after, loc_kind, loc_start_row, LocHost}
use Rattle.spec_rows.specs.ServerRow.{begun_after, is_client, not_served, refusal, replied, reply_head}
use Rattle.spec_rows.specs.States.{durable_of, BackCall, Held, Seat, ServerState}
use Rattle.spec_rows.specs.Steps.{Begun, Step}
use Rattle.spec_volrows.specs.NodeHosts.{node_kind, node_timed_out, node_woken, piece_timed_out, NodeHost}
use Rattle.spec_volrows.specs.VolRow.{holds_of}
use Rattle.spec_volrows.specs.VolStates.{NodeState, PieceCall, Sending, VolState}
use Rattle.spec_volrows.specs.VolSteps as vol
use Rattle.spec_volrows.specs.VolSteps.{forward_reply, is_vol_caller, node_file_decides, node_row, refuses_vol, sending_of, vol_admits, vol_begun_after, vol_decides, vol_hears, vol_received, VolDecision}
use Rattle.spec_runs.specs.NodeRuns.{client_falls, client_moves, client_rises, admin_falls, admin_moves, admin_rises, loc_stepped, node_moved, node_start, server_stepped, ticked, voided, CellInput, NodeCell, NodeMoved}
use Rattle.law_walks.specs.Kinds.{OfAdmins, OfClients}
use Rattle.law_walks.specs.Sends.{AnswersAre, AsksIs, ClientMakes, FileIs, FileMakes, HeldAre, HeldIs, LocIs, LocMakes, NodeIs, SeatsAre, ServerMakes, VolMakes}
use Rattle.law_walks.proofs.AdminSends.{admin_begun, admin_given, admin_late, AdminSends}
use Rattle.law_walks.proofs.CopySends.{client_begun, client_given, client_late, client_seek_late, CopySends}
use Rattle.law_walks.proofs.FileSends.{file_begins}
use Rattle.law_walks.proofs.LocSends.{serve_by, LocSends}
use Rattle.law_walks.proofs.Seats.{all_more, placed_is, seated_is, weaker_all, weaker_seats}
use Rattle.law_walks.proofs.ServerSends.{server_break_late, server_piece_late, server_woken, HostSends}
use Rattle.law_walks.proofs.VolSends.{risen_sends, row_sends}
use Rattle.law_places.specs.Accepting.{cell_behind}
use Rattle.law_legal.specs.Past.{answered_key}
use Rattle.law_legal.proofs.BaseLaws.{at_put, same_node-true}
use Rattle.law_keys.specs.Once.{IsSpent, SpendsIts}
use Rattle.law_keys.specs.Ran.{database_ran, ran_by, ran_found, ran_in, ran_of_file, ran_of_loc, ran_of_vol, ran_restarted, server_ran, that_changed, unless_early, unless_hit, RanCall}
use Rattle.law_keys.specs.Replied.{is_told, tells_change, AnsweredAreSpent, AnyOf, HasSpent, IsAnswered, OfEach, RepliesWereRun, WasRun}
use Rattle.law_keys.proofs.Deciding.{vol_decides_so, MayRun}
use Rattle.law_keys.proofs.Deciding as deciding
use Rattle.law_keys.proofs.EachRan.{each_ran, EachRan}
use Rattle.law_keys.proofs.FileSeats.{back_keeps, wake_keeps}
use Rattle.law_keys.proofs.LocSeats as locs
use Rattle.law_keys.proofs.LocSeats.{loc_decides_so}
use Rattle.law_keys.proofs.Memories.{Memory, Steps}
use Rattle.law_keys.proofs.VolSeats.{memory, piece_keeps}
use Rattle.law_keys.proofs.Walk.{are_spent, row_steps}

-- ---- one of some calls

module _ (P : RanCall → Type 0) where
  pub any_more : (rs new : List RanCall) → AnyOf P rs → AnyOf P (rs ++ new)
  any_more [] new h = absurd h
  any_more (r ∷ rs) new (inl h) = inl h
  any_more (r ∷ rs) new (inr h) = inr (any_more rs new h)

  pub any_new : (rs new : List RanCall) → AnyOf P new → AnyOf P (rs ++ new)
  any_new [] new h = h
  any_new (r ∷ rs) new h = inr (any_new rs new h)

any_by : (P Q : RanCall → Type 0) (rs : List RanCall) → ((r : RanCall) → P r → Q r) → AnyOf P rs → AnyOf Q rs
any_by P Q [] w h = absurd h
any_by P Q (r ∷ rs) w (inl h) = inl (w r h)
any_by P Q (r ∷ rs) w (inr h) = inr (any_by P Q rs w h)

pub any_all : (P Q : RanCall → Type 0) (X : Type 0) (rs : List RanCall) → ((r : RanCall) → P r → Q r → X) → AnyOf P rs → AllByRecursion Q rs → X
any_all P Q X [] w h all = absurd h
any_all P Q X (r ∷ rs) w (inl h) all = w r h all.0
any_all P Q X (r ∷ rs) w (inr h) all = any_all P Q X rs w h all.1

-- ---- what a node says: its own messages, and replies to what ran

abbrev Says : List RanCall → Node → Message → Type 0
Says rs me m = (m.head.from ≡ me) × WasRun rs m

says_more : (rs new : List RanCall) (me : Node) (m : Message) → Says rs me m → Says (rs ++ new) me m
says_more rs new me m h = (h.0, λ told. any_more (λ (r : RanCall). IsAnswered r m) rs new (h.1 told))

-- the call of this header ran in this boot
abbrev IsOfCall : Node → ℕ → Head → RanCall → Type 0
IsOfCall me boot head r = (r.callee ≡ me) × ((r.boot ≡ boot) × (r.head ≡ head))

-- a dump that is sent on is that of a call which ran
abbrev SendsOn : List RanCall → Node → ℕ → Sending → Type 0
SendsOn rs me boot x = (x.head.to ≡ me) × AnyOf (IsOfCall me boot x.head) rs

-- of a host that is up: in this boot
abbrev Sends : List RanCall → Node → NodeHost → Sending → Type 0
Sends rs me h x = (x.head.to ≡ me) × (h.down ≡ None → AnyOf (IsOfCall me h.state.file.lasting.boot x.head) rs)

sends_more : (rs new : List RanCall) (me : Node) (h : NodeHost) (x : Sending) → Sends rs me h x → Sends (rs ++ new) me h x
sends_more rs new me h x k = (k.0, λ up. any_more (IsOfCall me h.state.file.lasting.boot x.head) rs new (k.1 up))

weaker_held : (P Q : Message → Type 0) (hs : List Held) → ((m : Message) → P m → Q m) → HeldAre P hs → HeldAre Q hs
weaker_held P Q hs w k = weaker_all (HeldIs P) (HeldIs Q) hs (λ h. w h.reply) k

weaker_file : (P Q : Message → Type 0) (s : ServerState) → ((m : Message) → P m → Q m) → FileIs P s → FileIs Q s
weaker_file P Q s w h = record { seats = weaker_seats P Q s.seats w h.seats; kept = weaker_seats P Q s.lasting.kept w h.kept; held = weaker_held P Q s.backs.held w h.held }

weaker_node : (P Q : Message → Type 0) (S T : Sending → Type 0) (s : NodeState) → ((m : Message) → P m → Q m) → ((x : Sending) → S x → T x) → NodeIs P S s → NodeIs Q T s
weaker_node P Q S T s w v h = record {
  file = weaker_file P Q s.file w h.file;
  seats = weaker_seats P Q s.vol.seats w h.seats;
  held = weaker_held P Q s.vol.held w h.held;
  sendings = λ n. weaker_all S T (s.vol.sendings n) v (h.sendings n);
}

weaker_loc : (P Q : Message → Type 0) (s : LocState) → ((m : Message) → P m → Q m) → LocIs P s → LocIs Q s
weaker_loc P Q s w h = record { seats = weaker_seats P Q s.seats w h.seats; kept = weaker_seats P Q s.lasting.kept w h.kept }

-- ---- what is made whoever asks

answers_are : (rs : List RanCall) (me : Node) (boot : ℕ) → AnswersAre (Says rs me) me boot
answers_are rs me boot = record {
  notice = λ head to. (same_node-true head.to me to, λ told. absurd cc);
  refusal = λ head code to. (same_node-true head.to me to, λ told. absurd cc);
}

file_makes : (rs : List RanCall) (me : Node) (boot : ℕ) → FileMakes (Says rs me) me boot
file_makes rs me boot = record {
  answers = answers_are rs me boot;
  reply = λ head reply to. (same_node-true head.to me to, λ told. absurd cc);
  breaks = λ n known c. (refl, λ told. absurd cc);
}

client_makes : (rs : List RanCall) (me : Node) → ClientMakes (Says rs me) me
client_makes rs me = record {
  answers = answers_are rs me;
  reply = λ boot head reply to. (same_node-true head.to me to, λ told. absurd cc);
  call = λ head user call from none. (from, λ told. absurd cc);
  look = λ head user o from none. (from, λ told. absurd cc);
}

asks_is : (rs : List RanCall) (me : Node) (a : AdminState) → AsksIs (Says rs me) me a
asks_is rs me a r is = (refl, λ told. absurd cc)

-- the reply to a dump that was sent on
forward_by : (b : Bool) (rs : List RanCall) (me : Node) (boot : ℕ) (head : Head) (code : ℤ) → head.to ≡ me → AnyOf (IsOfCall me boot head) rs
    → Says rs me (cond b (replied boot head (carried.Reply (tell.Volume vol_replies.Forward))) (refusal boot head code))
forward_by true rs me boot head code to ran = (
  to,
  λ told. any_by (IsOfCall me boot head) (λ (r : RanCall). IsAnswered r (replied boot head (carried.Reply (tell.Volume vol_replies.Forward)))) rs (λ r k. record {
    callee = k.0 ∙ sym to;
    boot = k.1.0;
    key = ap key_of k.1.1;
    opcode = ap (λ (h : Head). h.opcode) k.1.1;
    changed = λ did. absurd cc;
  }) ran,
)
forward_by false rs me boot head code to ran = (to, λ told. absurd cc)

server_makes : (rs : List RanCall) (me : Node) (boot : ℕ) → ServerMakes (Says rs me) (SendsOn rs me boot) me boot
server_makes rs me boot = record {
  file = file_makes rs me boot;
  piece = λ n known number x k. (refl, λ told. absurd cc);
  forward = λ x code k. forward_by (is_number code 0) rs me boot x.head code k.0 k.1;
  moved = λ x k. k;
}

-- ---- what is made for a call that runs

-- it is answered by this reply
answers_it : (me : Node) (boot : ℕ) (changed : Bool) (h head : Head) (reply : Message) → h ≡ head → reply.head ≡ reply_head boot head → head.to ≡ me → (tells_change reply.carried ≡ true → changed ≡ true)
    → IsAnswered (record { callee = me; boot = boot; head = h; changed = changed }) reply
answers_it me boot changed h head reply of is to did = record {
  callee = sym (ap (λ (x : Head). x.from) is ∙ to);
  boot = sym (ap (λ (x : Head). x.boot) is);
  key = ap key_of of ∙ sym (ap answered_key is);
  opcode = ap (λ (x : Head). x.opcode) of ∙ sym (ap (λ (x : Head). x.opcode) is);
  changed = did;
}

not_true : (b : Bool) → b ≡ false → b ≡ true → false ≡ true
not_true b isnt is = sym isnt ∙ is

says_new : (rs new : List RanCall) (me : Node) (m : Message) → m.head.from ≡ me → AnyOf (λ (r : RanCall). IsAnswered r m) new → Says (rs ++ new) me m
says_new rs new me m from any = (from, λ told. any_new (λ (r : RanCall). IsAnswered r m) rs new any)

vol_new : (rs : List RanCall) (me : Node) (boot : ℕ) (seats : List Seat) (head : Head) (d : VolDecision) → deciding.OfHead boot head d → deciding.RunsBy me boot seats head d → VolMakes (Says (rs ++ ran_of_vol me boot d) me) (SendsOn (rs ++ ran_of_vol me boot d) me boot) d
vol_new rs me boot seats head vol.drops of runs = tt
vol_new rs me boot seats head (vol.tells_boot h) of runs = tt
vol_new rs me boot seats head (vol.repeats reply) of runs = tt
vol_new rs me boot seats head (vol.replies_to h reply ts last) of runs =
    says_new rs (ran_of_vol me boot (vol.replies_to h reply ts last)) me reply (ap (λ (x : Head). x.from) of.1.0 ∙ runs.0) (inl (answers_it me boot false h head reply of.0 of.1.0 runs.0 (not_true (tells_change reply.carried) of.1.1)))
vol_new rs me boot seats head (vol.dispatches h x) of runs =
    (ap (λ (y : Head). y.to) of ∙ runs.0, any_new (IsOfCall me boot h) rs (ran_of_vol me boot (vol.dispatches h x)) (inl (refl, (refl, refl))))
vol_new rs me boot seats head (vol.saves h x) of runs =
    says_new rs (ran_of_vol me boot (vol.saves h x)) me x.reply (ap (λ (y : Head). y.from) of.1 ∙ runs.0) (inl (answers_it me boot true h head x.reply of.0 of.1 runs.0 (λ did. refl)))

-- a client's call is refused by a volume server, which isn't asked for it
no_caller : (n : Node) → is_client n ≡ true → is_vol_caller n ≡ false
no_caller (Client n) is = refl
no_caller (Server n) is = absurd cc
no_caller (Admin n) is = absurd cc
no_caller Loc is = absurd cc

module _ (rs : List RanCall) (me : Node) (S : Sending → Type 0) (d : Durable) (v : VolState) where
  refused_by : (b : Bool) (head : Head) (x : VolDecision) → b ≡ false → head.to ≡ me → VolMakes (Says rs me) S (cond b x (refuses_vol d v head not_served))
  refused_by true head x isnt to = absurd cc
  refused_by false head x isnt to = (to, λ told. absurd cc)

  unasked_by : (head : Head) (c : Carried) (a : Admitted Message) → is_client head.from ≡ true → head.to ≡ me → VolMakes (Says rs me) S (vol_admits d v head (Whole (record { head = head; carried = c })) a)
  unasked_by head c pairs.runs is to = refused_by (is_vol_caller head.from) head _ (no_caller head.from is) to
  unasked_by head c (pairs.kept reply) is to = tt
  unasked_by head c pairs.in_progress is to = tt
  unasked_by head c pairs.older is to = tt
  unasked_by head c (pairs.wrong_boot boot) is to = tt

  unasked_to : (b : Bool) (head : Head) (c : Carried) → same_node head.to me ≡ b → is_client head.from ≡ true → VolMakes (Says rs me) S (cond b (vol_admits d v head (Whole (record { head = head; carried = c })) (admitted d.boot v.seats head)) vol.drops)
  unasked_to true head c to is = unasked_by head c (admitted d.boot v.seats head) is (same_node-true head.to me to)
  unasked_to false head c to is = tt

  unasked_in : (head : Head) (c : Carried) → is_client head.from ≡ true → VolMakes (Says rs me) S (vol_hears me d v head c)
  unasked_in head (carried.Call user call) is = unasked_to (same_node head.to me) head (carried.Call user call) refl is
  unasked_in head (carried.Refusal code) is = tt
  unasked_in head (carried.Reply reply) is = tt
  unasked_in head carried.Notice is = tt

made_by : (b : Bool) (rs : List RanCall) (me : Node) (s : NodeState) (m : Message) (of_file : List RanCall) → is_client m.head.from ≡ b
    → VolMakes (Says (rs ++ cond b of_file (ran_of_vol me s.file.lasting.boot (vol_decides me (durable_of s.file.lasting) s.vol (Whole m)))) me)
    (SendsOn (rs ++ cond b of_file (ran_of_vol me s.file.lasting.boot (vol_decides me (durable_of s.file.lasting) s.vol (Whole m)))) me s.file.lasting.boot) (vol_decides me (durable_of s.file.lasting) s.vol (Whole m))
made_by true rs me s m of_file is = unasked_in (rs ++ of_file) me (SendsOn (rs ++ of_file) me s.file.lasting.boot) (durable_of s.file.lasting) s.vol m.head m.carried is
made_by false rs me s m of_file is =
    let k = vol_decides_so me (durable_of s.file.lasting) s.vol m in
    vol_new rs me s.file.lasting.boot s.vol.seats m.head (vol_decides me (durable_of s.file.lasting) s.vol (Whole m)) k.of k.runs

-- ---- a server's step

steps_boot : (me : Node) (a b : Memory) (new : List RanCall) → Steps me a b new → b.boot ≡ a.boot
steps_boot me a b [] k = k.boot
steps_boot me a b (r ∷ []) k = k.stores.boot
steps_boot me a b (r ∷ q ∷ rs) k = absurd k

module _ (rs : List RanCall) (me : Node) (h : NodeHost) (has : NodeIs (Says rs me) (Sends rs me h) h.state) where
  abbrev boot : ℕ
  boot = h.state.file.lasting.boot

  -- while it is up
  before : (new : List RanCall) → h.down ≡ None → NodeIs (Says (rs ++ new) me) (SendsOn (rs ++ new) me boot) h.state
  before new up = weaker_node (Says rs me) (Says (rs ++ new) me) (Sends rs me h) (SendsOn (rs ++ new) me boot) h.state (says_more rs new me) (λ x k. (k.0, any_more (IsOfCall me boot x.head) rs new (k.1 up))) has

  -- what isn't asked of a host that is down
  resting : (new : List RanCall) (g : NodeHost) (fall : Fall) → g.state ≡ h.state → g.down ≡ Some fall → NodeIs (Says (rs ++ new) me) (Sends (rs ++ new) me g) g.state
  resting new g fall same down = subst (λ (s : NodeState). NodeIs (Says (rs ++ new) me) (Sends (rs ++ new) me g) s) (sym same)
      (weaker_node (Says rs me) (Says (rs ++ new) me) (Sends rs me h) (Sends (rs ++ new) me g) h.state (says_more rs new me) (λ x k. (k.0, λ up. let no : None ≡ Some fall = sym up ∙ down in absurd cc)) has)

  -- a step in this boot
  in_boot_is : (new : List RanCall) (s : HostStep NodeState) → s.host.state.file.lasting.boot ≡ boot → HostSends (Says (rs ++ new) me) (SendsOn (rs ++ new) me boot) s → HostSends (Says (rs ++ new) me) (Sends (rs ++ new) me s.host) s
  in_boot_is new s same k = record {
    has = weaker_node (Says (rs ++ new) me) (Says (rs ++ new) me) (SendsOn (rs ++ new) me boot) (Sends (rs ++ new) me s.host) s.host.state (λ m z. z)
        (λ x z. (z.0, λ up. subst (λ (b : ℕ). AnyOf (IsOfCall me b x.head) (rs ++ new)) (sym same) z.1)) k.has;
    sent = k.sent;
  }

  serves_by : (clock place : ℕ) (m : Message) (o : Option Blow) → h.down ≡ None
      → HostSends (Says (rs ++ unless_hit o (server_ran me h.state clock m)) me) (Sends (rs ++ unless_hit o (server_ran me h.state clock m)) me (served_by (node_kind me) h clock place m o).host) (served_by (node_kind me) h clock place m o)
  serves_by clock place m None up =
      let new : List RanCall = server_ran me h.state clock m in
      let z = row_sends (Says (rs ++ new) me) (SendsOn (rs ++ new) me boot) me h.state clock place m (server_makes (rs ++ new) me boot) (before new up) (made_by (is_client m.head.from) rs me h.state m (ran_of_file me boot (node_file_decides me h.state clock (Whole m))) refl) in
      in_boot_is new (served_by (node_kind me) h clock place m None) (steps_boot me (memory h.state) (memory (node_row me h.state clock place (Whole m)).state) new (row_steps me h.state clock place m)) (record { has = z.has; sent = z.sent })
  serves_by clock place m (Some b) up = record { has = resting [] (served_by (node_kind me) h clock place m (Some b)).host (in_step m clock b) refl refl; sent = tt }

  -- ---- a restart

  saved_is : (d : VolDecision) (new : List RanCall) → FileIs (Says (rs ++ new) me) h.state.file → VolMakes (Says (rs ++ new) me) (λ (x : Sending). ⊤) d → FileIs (Says (rs ++ new) me) (vol_begun_after me h.state.file d).state
  saved_is vol.drops new f k = f
  saved_is (vol.tells_boot head) new f k = f
  saved_is (vol.repeats reply) new f k = f
  saved_is (vol.replies_to head reply ts last) new f k = f
  saved_is (vol.dispatches head x) new f k = f
  saved_is (vol.saves head x) new f k = record { seats = f.seats; kept = placed_is (Says (rs ++ new) me) _ h.state.file.lasting.kept k f.kept; held = f.held }

  -- of what an interrupted step makes, its record alone is found
  found_makes : (seats : List Seat) (head : Head) (d : VolDecision) → deciding.OfHead boot head d → deciding.RunsBy me boot seats head d → FileIs (Says (rs ++ filter that_changed (ran_of_vol me boot d)) me) h.state.file
      → FileIs (Says (rs ++ filter that_changed (ran_of_vol me boot d)) me) (vol_begun_after me h.state.file d).state
  found_makes seats head vol.drops of runs f = f
  found_makes seats head (vol.tells_boot x) of runs f = f
  found_makes seats head (vol.repeats reply) of runs f = f
  found_makes seats head (vol.replies_to x reply ts last) of runs f = f
  found_makes seats head (vol.dispatches y x) of runs f = f
  found_makes seats head (vol.saves y x) of runs f = saved_is (vol.saves y x) (ran_of_vol me boot (vol.saves y x)) f
      (says_new rs (ran_of_vol me boot (vol.saves y x)) me x.reply (ap (λ (z : Head). z.from) of.1 ∙ runs.0) (inl (answers_it me boot true y head x.reply of.0 of.1 runs.0 (λ did. refl))))

  file_found : (new : List RanCall) → FileIs (Says (rs ++ new) me) h.state.file
  file_found new = weaker_file (Says rs me) (Says (rs ++ new) me) h.state.file (says_more rs new me) has.file

  cut_by : (b : Bool) (clock : ℕ) (m : Message) → is_client m.head.from ≡ b
      → FileIs (Says (rs ++ filter that_changed (cond b (ran_of_file me boot (node_file_decides me h.state clock (Whole m))) (ran_of_vol me boot (vol_decides me (durable_of h.state.file.lasting) h.state.vol (Whole m))))) me)
      (cond b (begun_after me h.state.file clock (node_file_decides me h.state clock (Whole m))) (vol_begun_after me h.state.file (vol_decides me (durable_of h.state.file.lasting) h.state.vol (Whole m)))).state
  cut_by true clock m is =
      let new : List RanCall = filter that_changed (ran_of_file me boot (node_file_decides me h.state clock (Whole m))) in
      file_begins (Says (rs ++ new) me) me (holds_of h.state.vol.transactions) h.state.file clock m (file_makes (rs ++ new) me boot) (file_found new)
  cut_by false clock m is =
      let k = vol_decides_so me (durable_of h.state.file.lasting) h.state.vol m in
      found_makes h.state.vol.seats m.head (vol_decides me (durable_of h.state.file.lasting) h.state.vol (Whole m)) k.of k.runs (file_found _)

  -- what a restart finds
  found_is : (after : Bool) (fall : Fall) → FileIs (Says (rs ++ ran_found (server_ran me) h.state after fall) me) (begun_from (node_kind me) h.state after fall).state.file
  found_is after at_rest = file_found []
  found_is false (in_step m clock b) = file_found []
  found_is true (in_step m clock b) = cut_by (is_client m.head.from) clock m refl
  found_is false in_boot = file_found []
  found_is true in_boot = let f : FileIs (Says (rs ++ []) me) h.state.file = file_found [] in record { seats = f.kept; kept = f.kept; held = f.held }

  -- the volume server's part is what it had
  found_vol : (after : Bool) (fall : Fall) → (begun_from (node_kind me) h.state after fall).state.vol ≡ h.state.vol
  found_vol after at_rest = refl
  found_vol false (in_step m clock b) = refl
  found_vol true (in_step m clock b) = refl
  found_vol false in_boot = refl
  found_vol true in_boot = refl

  down_is : (new : List RanCall) (f : Begun NodeState) (g : NodeHost) (fall : Fall) → g.state ≡ f.state → g.down ≡ Some fall → FileIs (Says (rs ++ new) me) f.state.file → f.state.vol ≡ h.state.vol → NodeIs (Says (rs ++ new) me) (Sends (rs ++ new) me g) g.state
  down_is new f g fall same down file vol = subst (λ (s : NodeState). NodeIs (Says (rs ++ new) me) (Sends (rs ++ new) me g) s) (sym same)
      (record {
        file = file;
        seats = subst (λ (v : VolState). SeatsAre (Says (rs ++ new) me) v.seats) (sym vol) (weaker_seats (Says rs me) (Says (rs ++ new) me) h.state.vol.seats (says_more rs new me) has.seats);
        held = subst (λ (v : VolState). HeldAre (Says (rs ++ new) me) v.held) (sym vol) (weaker_held (Says rs me) (Says (rs ++ new) me) h.state.vol.held (says_more rs new me) has.held);
        sendings = λ n. subst (λ (v : VolState). AllByRecursion (Sends (rs ++ new) me g) (v.sendings n)) (sym vol)
            (weaker_all (Sends rs me h) (Sends (rs ++ new) me g) (h.state.vol.sendings n) (λ x k. (k.0, λ up. let no : None ≡ Some fall = sym up ∙ down in absurd cc)) (has.sendings n));
      })

  ends_is : (clock count : ℕ) (f : Begun NodeState) (fall : Fall) (o : Outcome) (new : List RanCall) → h.down ≡ Some fall → FileIs (Says (rs ++ new) me) f.state.file → f.state.vol ≡ h.state.vol
      → HostSends (Says (rs ++ unless_early o new) me) (Sends (rs ++ unless_early o new) me (ends (node_kind me) h clock count f fall o).host) (ends (node_kind me) h clock count f fall o)
  ends_is clock count f fall comes_up new down file vol =
      let z = risen_sends (Says (rs ++ new) me) (Sends (rs ++ new) me (ends (node_kind me) h clock count f fall comes_up).host) me clock count (record { state = f.state.file; before = f.before }) (file_makes (rs ++ new) me (f.state.file.lasting.boot + 1)) file.kept in
      record { has = z.has; sent = z.sent }
  ends_is clock count f fall fails_early new down file vol = record { has = resting [] (ends (node_kind me) h clock count f fall fails_early).host fall refl refl; sent = tt }
  ends_is clock count f fall fails_midway new down file vol = record { has = down_is new f (ends (node_kind me) h clock count f fall fails_midway).host in_boot refl refl file vol; sent = tt }
  ends_is clock count f fall is_full new down file vol = record { has = down_is new f (ends (node_kind me) h clock count f fall is_full).host at_rest refl refl file vol; sent = tt }

  restarts_is : (clock count : ℕ) (after : Bool) (o : Outcome) (fall : Fall) → h.down ≡ Some fall
      → HostSends (Says (rs ++ ran_restarted (node_kind me) (server_ran me) h after o fall) me) (Sends (rs ++ ran_restarted (node_kind me) (server_ran me) h after o fall) me (restarted (node_kind me) h clock count after o fall).host) (restarted (node_kind me) h clock count after o fall)
  restarts_is clock count after o fall down =
      ends_is clock count (begun_from (node_kind me) h.state after fall) fall (without_boot_record ((node_kind me).can_start (begun_from (node_kind me) h.state after fall).state) o) (ran_found (server_ran me) h.state after fall) down (found_is after fall) (found_vol after fall)

  -- ---- and its other steps

  late_piece : (clock : ℕ) (n : Node) (p : PieceCall) → h.down ≡ None → HostSends (Says (rs ++ []) me) (Sends (rs ++ []) me (piece_timed_out me h clock n p).host) (piece_timed_out me h clock n p)
  late_piece clock n p up = in_boot_is [] (piece_timed_out me h clock n p) (piece_keeps me h.state clock n p).boot (server_piece_late (Says (rs ++ []) me) (SendsOn (rs ++ []) me boot) me h (before [] up) clock n p (server_makes (rs ++ []) me boot))

  late_break : (clock : ℕ) (n : Node) (b : BackCall) → h.down ≡ None → HostSends (Says (rs ++ []) me) (Sends (rs ++ []) me (node_timed_out me h clock n b).host) (node_timed_out me h clock n b)
  late_break clock n b up = in_boot_is [] (node_timed_out me h clock n b) (back_keeps me h.state clock n b).boot (server_break_late (Says (rs ++ []) me) (SendsOn (rs ++ []) me boot) me h (before [] up) clock n b (server_makes (rs ++ []) me boot))

  woken_is : (clock : ℕ) → h.down ≡ None → HostSends (Says (rs ++ []) me) (Sends (rs ++ []) me (node_woken me h clock).host) (node_woken me h clock)
  woken_is clock up = in_boot_is [] (node_woken me h clock) (wake_keeps me h.state clock).boot (server_woken (Says (rs ++ []) me) (SendsOn (rs ++ []) me boot) me h (before [] up) clock (server_makes (rs ++ []) me boot))

  set_is : (s : HostStep NodeState) → h.down ≡ None → s.host.state ≡ h.state → s.sent ≡ [] → HostSends (Says (rs ++ []) me) (Sends (rs ++ []) me s.host) s
  set_is s up same none = in_boot_is [] s (ap (λ (x : NodeState). x.file.lasting.boot) same) (record {
    has = subst (NodeIs (Says (rs ++ []) me) (SendsOn (rs ++ []) me boot)) (sym same) (before [] up);
    sent = subst (AllByRecursion (Says (rs ++ []) me)) (sym none) tt;
  })

-- ---- the location database

module _ (rs : List RanCall) (h : LocHost) (has : LocIs (Says rs Loc) h.state) where
  abbrev loc_boot : ℕ
  loc_boot = h.state.lasting.boot

  loc_before : (new : List RanCall) → LocIs (Says (rs ++ new) Loc) h.state
  loc_before new = weaker_loc (Says rs Loc) (Says (rs ++ new) Loc) h.state (says_more rs new Loc) has

  loc_new : (head : Head) (d : LocDecision) → locs.OfHead head d → locs.RunsBy loc_boot h.state.seats head d → LocMakes (Says (rs ++ ran_of_loc loc_boot d) Loc) loc_boot d
  loc_new head loc.drops of runs = tt
  loc_new head (loc.tells_boot x) of runs = tt
  loc_new head (loc.repeats reply) of runs = tt
  loc_new head (loc.refuses x code) of runs = tt
  loc_new head (loc.shows x reply) of runs =
      says_new rs (ran_of_loc loc_boot (loc.shows x reply)) Loc (reply_to loc_boot x reply) (ap (λ (y : Head). y.to) of.0 ∙ runs.0)
      (inl (answers_it Loc loc_boot false x x (reply_to loc_boot x reply) refl refl (ap (λ (y : Head). y.to) of.0 ∙ runs.0) (not_true (tells_change (reply_to loc_boot x reply).carried) of.1)))
  loc_new head (loc.saves x c) of runs =
      says_new rs (ran_of_loc loc_boot (loc.saves x c)) Loc (reply_to loc_boot x c.reply) (ap (λ (y : Head). y.to) of ∙ runs.0)
      (inl (answers_it Loc loc_boot true x x (reply_to loc_boot x c.reply) refl refl (ap (λ (y : Head). y.to) of ∙ runs.0) (λ did. refl)))

  loc_serves_by : (clock place : ℕ) (m : Message) (o : Option Blow) → LocSends (Says (rs ++ unless_hit o (database_ran h.state clock m)) Loc) (served_by loc_kind h clock place m o)
  loc_serves_by clock place m None =
      let new : List RanCall = database_ran h.state clock m in
      let k = loc_decides_so h.state m in
      serve_by (Says (rs ++ new) Loc) h (loc_before new) clock place m None (answers_are (rs ++ new) Loc loc_boot) (loc_new m.head (loc_decides h.state (Whole m)) k.of k.runs)
  loc_serves_by clock place m (Some b) = record { has = loc_before []; sent = tt }

  loc_found_by : (head : Head) (d : LocDecision) → locs.OfHead head d → locs.RunsBy loc_boot h.state.seats head d → LocIs (Says (rs ++ filter that_changed (ran_of_loc loc_boot d)) Loc) (loc_begun_after h.state d).state
  loc_found_by head loc.drops of runs = loc_before []
  loc_found_by head (loc.tells_boot x) of runs = loc_before []
  loc_found_by head (loc.repeats reply) of runs = loc_before []
  loc_found_by head (loc.refuses x code) of runs = loc_before []
  loc_found_by head (loc.shows x reply) of runs = loc_before []
  loc_found_by head (loc.saves x c) of runs =
      let new : List RanCall = ran_of_loc loc_boot (loc.saves x c) in
      let k : LocIs (Says (rs ++ new) Loc) h.state = loc_before new in
      let z : Says (rs ++ new) Loc (reply_to loc_boot x c.reply) = loc_new head (loc.saves x c) of runs in
      record { seats = seated_is (Says (rs ++ new) Loc) _ h.state.seats z k.seats; kept = placed_is (Says (rs ++ new) Loc) _ h.state.lasting.kept z k.kept }

  loc_found : (after : Bool) (fall : Fall) → LocIs (Says (rs ++ ran_found database_ran h.state after fall) Loc) (begun_from loc_kind h.state after fall).state
  loc_found after at_rest = loc_before []
  loc_found false (in_step m clock b) = loc_before []
  loc_found true (in_step m clock b) = let k = loc_decides_so h.state m in loc_found_by m.head (loc_decides h.state (Whole m)) k.of k.runs
  loc_found false in_boot = loc_before []
  loc_found true in_boot = let k : LocIs (Says (rs ++ []) Loc) h.state = loc_before [] in record { seats = k.kept; kept = k.kept }

  loc_ends : (clock count : ℕ) (f : Begun LocState) (fall : Fall) (o : Outcome) (new : List RanCall) → LocIs (Says (rs ++ new) Loc) f.state → LocSends (Says (rs ++ unless_early o new) Loc) (ends loc_kind h clock count f fall o)
  unfolding loc_start_row
  loc_ends clock count f fall comes_up new k = record { has = record { seats = k.kept; kept = k.kept }; sent = tt }
  loc_ends clock count f fall fails_early new k = record { has = loc_before []; sent = tt }
  loc_ends clock count f fall fails_midway new k = record { has = k; sent = tt }
  loc_ends clock count f fall is_full new k = record { has = k; sent = tt }

-- ---- a cell

record Answered (rs : List RanCall) (c : NodeCell) : Type 0 where
  hosts : (i : ℕ) → NodeIs (Says rs (Server i)) (Sends rs (Server i) (c.hosts i)) (c.hosts i).state
  clients : (n : ℕ) → SeatsAre (Says rs (Client n)) (c.clients n).client.seats
  admins : (n : ℕ) → SeatsAre (Says rs (Admin n)) (c.admins n).seats
  loc : LocIs (Says rs Loc) c.loc.state
  sent : AllByRecursion (WasRun rs) c.sent

module _ (rs : List RanCall) (c : NodeCell) (h : Answered rs c) where
  more : (new : List RanCall) → Answered (rs ++ new) c
  more new = record {
    hosts = λ i. weaker_node (Says rs (Server i)) (Says (rs ++ new) (Server i)) (Sends rs (Server i) (c.hosts i)) (Sends (rs ++ new) (Server i) (c.hosts i)) (c.hosts i).state (says_more rs new (Server i)) (sends_more rs new (Server i) (c.hosts i)) (h.hosts i);
    clients = λ n. weaker_seats (Says rs (Client n)) (Says (rs ++ new) (Client n)) (c.clients n).client.seats (says_more rs new (Client n)) (h.clients n);
    admins = λ n. weaker_seats (Says rs (Admin n)) (Says (rs ++ new) (Admin n)) (c.admins n).seats (says_more rs new (Admin n)) (h.admins n);
    loc = weaker_loc (Says rs Loc) (Says (rs ++ new) Loc) c.loc.state (says_more rs new Loc) h.loc;
    sent = weaker_all (WasRun rs) (WasRun (rs ++ new)) c.sent (λ m k told. any_more (λ (r : RanCall). IsAnswered r m) rs new (k told)) h.sent;
  }

  sent_more : (new : List RanCall) (me : Node) (ms : List Message) → AllByRecursion (Says (rs ++ new) me) ms → AllByRecursion (WasRun (rs ++ new)) (c.sent ++ ms)
  sent_more new me ms k = all_more (WasRun (rs ++ new)) c.sent ms (more new).sent (weaker_all (Says (rs ++ new) me) (WasRun (rs ++ new)) ms (λ m z. z.1) k)

  host_answers : (new : List RanCall) (i : ℕ) (s : HostStep NodeState) → HostSends (Says (rs ++ new) (Server i)) (Sends (rs ++ new) (Server i) s.host) s → Answered (rs ++ new) (server_stepped c i s).cell
  host_answers new i s k = let z : Answered (rs ++ new) c = more new in record {
    hosts = λ j. at_put i j (λ (x : NodeHost). NodeIs (Says (rs ++ new) (Server j)) (Sends (rs ++ new) (Server j) x) x.state) s.host c.hosts
        (λ same. subst (λ (n : ℕ). NodeIs (Says (rs ++ new) (Server n)) (Sends (rs ++ new) (Server n) s.host) s.host.state) same k.has) (λ other. z.hosts j);
    clients = z.clients;
    admins = z.admins;
    loc = z.loc;
    sent = sent_more new (Server i) s.sent k.sent;
  }

  loc_answers : (new : List RanCall) (s : HostStep LocState) → LocSends (Says (rs ++ new) Loc) s → Answered (rs ++ new) (loc_stepped c s).cell
  loc_answers new s k = let z : Answered (rs ++ new) c = more new in record { hosts = z.hosts; clients = z.clients; admins = z.admins; loc = k.has; sent = sent_more new Loc s.sent k.sent }

  client_answers : (n : ℕ) (s : Step CopyState) → CopySends (Says (rs ++ []) (Client n)) (c.clients n).client.seats s → Answered (rs ++ []) (client_moves c n s).cell
  client_answers n s k = let z : Answered (rs ++ []) c = more [] in record {
    hosts = z.hosts;
    clients = λ j. at_put n j (λ (x : CopyState). SeatsAre (Says (rs ++ []) (Client j)) x.client.seats) s.state c.clients (λ same. subst (λ (i : ℕ). SeatsAre (Says (rs ++ []) (Client i)) s.state.client.seats) same (k.seats' (z.clients n))) (λ other. z.clients j);
    admins = z.admins;
    loc = z.loc;
    sent = sent_more [] (Client n) s.sent k.sent;
  }

  admin_answers : (n : ℕ) (s : Step AdminState) → AdminSends (Says (rs ++ []) (Admin n)) s → Answered (rs ++ []) (admin_moves c n s).cell
  admin_answers n s k = let z : Answered (rs ++ []) c = more [] in record {
    hosts = z.hosts;
    clients = z.clients;
    admins = λ j. at_put n j (λ (x : AdminState). SeatsAre (Says (rs ++ []) (Admin j)) x.seats) s.state c.admins (λ same. subst (λ (i : ℕ). SeatsAre (Says (rs ++ []) (Admin i)) s.state.seats) same k.seats) (λ other. z.admins j);
    loc = z.loc;
    sent = sent_more [] (Admin n) s.sent k.sent;
  }

  -- it is down, or up again: nothing but that changes
  as_was : (d : NodeCell) → d.hosts ≡ c.hosts → d.clients ≡ c.clients → d.admins ≡ c.admins → d.loc ≡ c.loc → d.sent ≡ c.sent → Answered (rs ++ []) d
  as_was d hosts clients admins loc sent = let z : Answered (rs ++ []) c = more [] in record {
    hosts = λ i. subst (λ (f : ℕ → NodeHost). NodeIs (Says (rs ++ []) (Server i)) (Sends (rs ++ []) (Server i) (f i)) (f i).state) (sym hosts) (z.hosts i);
    clients = λ n. subst (λ (f : ℕ → CopyState). SeatsAre (Says (rs ++ []) (Client n)) (f n).client.seats) (sym clients) (z.clients n);
    admins = λ n. subst (λ (f : ℕ → AdminState). SeatsAre (Says (rs ++ []) (Admin n)) (f n).seats) (sym admins) (z.admins n);
    loc = subst (λ (l : LocHost). LocIs (Says (rs ++ []) Loc) l.state) (sym loc) z.loc;
    sent = subst (AllByRecursion (WasRun (rs ++ []))) (sym sent) z.sent;
  }

  abbrev Then : NodeMoved → List RanCall → Type 0
  Then m new = Answered (rs ++ new) m.cell

  of_clients : OfClients (λ (m : NodeMoved). Then m []) c
  of_clients = let mine : (n : ℕ) → ClientMakes (Says (rs ++ []) (Client n)) (Client n) = λ n. client_makes (rs ++ []) (Client n) in record {
    begins = λ n act up idle. client_answers n _ (client_begun (Says (rs ++ []) (Client n)) (Client n) (mine n) (c.clients n) c.clock act);
    given = λ n place m up g. client_answers n _ (client_given (Says (rs ++ []) (Client n)) (Client n) (mine n) (c.clients n) c.clock place m ((more []).clients n));
    seek_late = λ n k up is. client_answers n _ (client_seek_late (Says (rs ++ []) (Client n)) (Client n) (mine n) (c.clients n) k);
    late = λ n act up is. client_answers n _ (client_late (Says (rs ++ []) (Client n)) (Client n) (mine n) (c.clients n) act);
    stops = λ n up. fallen n;
    starts = λ n away. risen n;
  }
    where
      fallen : (n : ℕ) → Answered (rs ++ []) (client_falls c n).cell
      fallen n = let z = client_answers n (record { state = copies_reborn c.handed (c.clients n); lines = lines.Crash (Client n) ∷ []; sent = [] }) (record { sent = tt; seats' = λ k. tt }) in record { hosts = z.hosts; clients = z.clients; admins = z.admins; loc = z.loc; sent = z.sent }

      risen : (n : ℕ) → Answered (rs ++ []) (client_rises c n).cell
      risen n = let z = client_answers n (record { state = c.clients n; lines = lines.Restart (Client n) (c.clients n).client.epoch ∷ []; sent = [] }) (record { sent = tt; seats' = λ k. k }) in record { hosts = z.hosts; clients = z.clients; admins = z.admins; loc = z.loc; sent = z.sent }

  of_admins : OfAdmins (λ (m : NodeMoved). Then m []) c
  of_admins = record {
    begins = λ n act up idle. admin_answers n _ (admin_begun (Says (rs ++ []) (Admin n)) (Admin n) (c.admins n) ((more []).admins n) act (asks_is (rs ++ []) (Admin n) (admin_begin_row (Admin n) (c.admins n) act).state));
    given = λ n place m up g. admin_answers n _ (admin_given (Says (rs ++ []) (Admin n)) (Admin n) (c.admins n) ((more []).admins n) place m (answers_are (rs ++ []) (Admin n) (c.admins n).epoch) (asks_is (rs ++ []) (Admin n) (admin_row (Admin n) (c.admins n) place (Whole m)).state));
    late = λ n r up is. admin_answers n _ (admin_late (Says (rs ++ []) (Admin n)) (Admin n) (c.admins n) ((more []).admins n) r is (asks_is (rs ++ []) (Admin n) (admin_timeout_row (Admin n) (c.admins n) r).state));
    stops = λ n up. fallen n;
    starts = λ n gone. risen n;
  }
    where
      fallen : (n : ℕ) → Answered (rs ++ []) (admin_falls c n).cell
      fallen n = let z = admin_answers n (record { state = admin_reborn (c.admins n); lines = lines.Crash (Admin n) ∷ []; sent = [] }) (record { seats = tt; sent = tt }) in record { hosts = z.hosts; clients = z.clients; admins = z.admins; loc = z.loc; sent = z.sent }

      risen : (n : ℕ) → Answered (rs ++ []) (admin_rises c n).cell
      risen n = let z = admin_answers n (record { state = c.admins n; lines = lines.Restart (Admin n) (c.admins n).epoch ∷ []; sent = [] }) (record { seats = (more []).admins n; sent = tt }) in record { hosts = z.hosts; clients = z.clients; admins = z.admins; loc = z.loc; sent = z.sent }

  quiet : (s : NodeMoved) → s.cell.hosts ≡ c.hosts → s.cell.clients ≡ c.clients → s.cell.admins ≡ c.admins → s.cell.loc ≡ c.loc → s.cell.sent ≡ c.sent → Then s []
  quiet s hosts clients admins loc sent = as_was s.cell hosts clients admins loc sent

  answers_each : EachRan Then c
  answers_each = record {
    void = quiet (voided c) refl refl refl refl refl;
    ticks = λ n. quiet (ticked c (suc n)) refl refl refl refl refl;
    serves = λ i place luck m up g. host_answers _ i _ (serves_by rs (Server i) (c.hosts i) (h.hosts i) c.clock place m (struck (c.hosts i).armed luck ((node_kind (Server i)).device_calls (c.hosts i).state c.clock (Whole m))) up.up);
    restarts = λ i after o fall down. host_answers _ i _ (restarts_is rs (Server i) (c.hosts i) (h.hosts i) c.clock c.count after o fall down);
    crashes = λ i up. host_answers [] i (crashed (node_kind (Server i)) (c.hosts i)) (record { has = resting rs (Server i) (c.hosts i) (h.hosts i) [] (crashed (node_kind (Server i)) (c.hosts i)).host at_rest refl refl; sent = tt });
    stop_set = λ i calls pick up. host_answers [] i _ (set_is rs (Server i) (c.hosts i) (h.hosts i) (set_to_stop (node_kind (Server i)) (c.hosts i) calls pick) up.up refl refl);
    fail_set = λ i call up. host_answers [] i _ (set_is rs (Server i) (c.hosts i) (h.hosts i) (set_to_fail (node_kind (Server i)) (c.hosts i) call) up.up refl refl);
    piece_late = λ i n p up. host_answers [] i _ (late_piece rs (Server i) (c.hosts i) (h.hosts i) c.clock n p up.up);
    break_late = λ i n b up. host_answers [] i _ (late_break rs (Server i) (c.hosts i) (h.hosts i) c.clock n b up.up);
    wakes = λ i up. host_answers [] i _ (woken_is rs (Server i) (c.hosts i) (h.hosts i) c.clock up.up);
    loc_serves = λ place luck m up g. loc_answers _ _ (loc_serves_by rs c.loc h.loc c.clock place m (struck c.loc.armed luck (loc_kind.device_calls c.loc.state c.clock (Whole m))));
    loc_restarts = λ after o fall down. loc_answers _ _
        (loc_ends rs c.loc h.loc c.clock c.count (begun_from loc_kind c.loc.state after fall) fall (without_boot_record (loc_kind.can_start (begun_from loc_kind c.loc.state after fall).state) o) (ran_found database_ran c.loc.state after fall) (loc_found rs c.loc h.loc after fall));
    loc_crashes = λ up. loc_answers [] (crashed loc_kind c.loc) (record { has = (more []).loc; sent = tt });
    loc_stop_set = λ calls pick up. loc_answers [] (set_to_stop loc_kind c.loc calls pick) (record { has = (more []).loc; sent = tt });
    loc_fail_set = λ call up. loc_answers [] (set_to_fail loc_kind c.loc call) (record { has = (more []).loc; sent = tt });
    clients = of_clients;
    admins = of_admins;
  }

-- ---- a run

joined : (a b d : List RanCall) → (a ++ b) ++ d ≡ a ++ (b ++ d)
joined [] b d = refl
joined (r ∷ rs) b d = ap (λ (x : List RanCall). r ∷ x) (joined rs b d)

none_behind : (rs : List RanCall) → rs ++ [] ≡ rs
none_behind [] = refl
none_behind (r ∷ rs) = ap (λ (x : List RanCall). r ∷ x) (none_behind rs)

run_answers : (rs : List RanCall) (c : NodeCell) (xs : List CellInput) → Answered rs c → Answered (rs ++ ran_in c xs) (cell_behind c xs)
run_answers rs c [] h = subst (λ (x : List RanCall). Answered x c) (sym (none_behind rs)) h
run_answers rs c (x ∷ xs) h =
    subst (λ (l : List RanCall). Answered l (cell_behind (node_moved c x).cell xs)) (joined rs (ran_by c x) (ran_in (node_moved c x).cell xs))
    (run_answers (rs ++ ran_by c x) (node_moved c x).cell xs (each_ran (λ (m : NodeMoved) (new : List RanCall). Answered (rs ++ new) m.cell) c (answers_each rs c h) x))

first_answers : (s : Script) → Answered [] (node_start s)
first_answers s = record {
  hosts = λ i. record { file = record { seats = tt; kept = tt; held = tt }; seats = tt; held = tt; sendings = λ n. tt };
  clients = λ n. tt;
  admins = λ n. tt;
  loc = record { seats = tt; kept = tt };
  sent = tt;
}

-- ---- the laws

of_each : (rs : List RanCall) (c : NodeCell) → Answered rs c → OfEach (WasRun rs) c
of_each rs c h = record {
  sent = h.sent;
  servers = λ i. weaker_seats (Says rs (Server i)) (WasRun rs) (c.hosts i).state.vol.seats (λ m k. k.1) (h.hosts i).seats;
  disks = λ i. weaker_seats (Says rs (Server i)) (WasRun rs) (c.hosts i).state.file.lasting.kept (λ m k. k.1) (h.hosts i).file.kept;
  held = λ i. weaker_held (Says rs (Server i)) (WasRun rs) (c.hosts i).state.vol.held (λ m k. k.1) (h.hosts i).held;
  database = weaker_seats (Says rs Loc) (WasRun rs) c.loc.state.seats (λ m k. k.1) h.loc.seats;
  disk = weaker_seats (Says rs Loc) (WasRun rs) c.loc.state.lasting.kept (λ m k. k.1) h.loc.kept;
}

pub were_run : RepliesWereRun
were_run s inputs = of_each (ran_in (node_start s) inputs) (cell_behind (node_start s) inputs) (run_answers [] (node_start s) inputs (first_answers s))

pub weaker_each : (P Q : Message → Type 0) (c : NodeCell) → ((m : Message) → P m → Q m) → OfEach P c → OfEach Q c
weaker_each P Q c w h = record {
  sent = weaker_all P Q c.sent w h.sent;
  servers = λ i. weaker_seats P Q (c.hosts i).state.vol.seats w (h.servers i);
  disks = λ i. weaker_seats P Q (c.hosts i).state.file.lasting.kept w (h.disks i);
  held = λ i. weaker_held P Q (c.hosts i).state.vol.held w (h.held i);
  database = weaker_seats P Q c.loc.state.seats w h.database;
  disk = weaker_seats P Q c.loc.state.lasting.kept w h.disk;
}

-- what tells of a change is told
change_told : (c : Carried) → tells_change c ≡ true → is_told c ≡ true
change_told (carried.Reply (tell.Volume reply)) is = refl
change_told (carried.Reply (tell.Location reply)) is = refl
change_told (carried.Reply (tell.File reply)) is = absurd cc
change_told (carried.Call user call) is = absurd cc
change_told (carried.Refusal code) is = absurd cc
change_told carried.Notice is = absurd cc

pub answered_spent : AnsweredAreSpent
answered_spent s inputs =
    let c : NodeCell = cell_behind (node_start s) inputs in
    let rs : List RanCall = ran_in (node_start s) inputs in
    weaker_each (WasRun rs) (HasSpent c) c
    (λ m was did. any_all (λ (r : RanCall). IsAnswered r m) (SpendsIts c) (IsSpent c m.head.from (answered_key m.head)) rs
    (λ r k spends. subst (λ (key : Key). IsSpent c m.head.from key) k.key (subst (λ (q : Node). IsSpent c q (key_of r.head)) k.callee (spends (k.changed did)))) (was (change_told m.carried did)) (are_spent.spend s inputs))
    (were_run s inputs)
