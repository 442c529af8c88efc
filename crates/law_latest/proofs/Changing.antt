-- A server tells one change in an entry at most, and that is of a call which runs there and changes something.
use Rattle.std.proofs.Common.{◌≡◌, ℕ, ◌+◌, ◌⊎◌, inl, inr, Bool, true, false, cond, List, [], ◌∷◌, ◌++◌, Option, Some, None, refl, sym, ap, subst, ◌∙◌, map}
use Rattle.std.proofs.lemmas.List.{append_assoc}
use Rattle.std.specs.Prelude.{⊤, filter, length}
use Rattle.afs_num.specs.declared.histories.Version.{Version}
use Rattle.afs_num.specs.declared.messages.Message.{Message}
use Rattle.afs_num.specs.declared.messages.Received.TheVariants.{Whole}
use Rattle.afs_num.specs.declared.types.Head.{Head}
use Rattle.afs_num.specs.declared.types.Key.{Key}
use Rattle.afs_num.specs.declared.types.Node.{Node}
use Rattle.spec_history.specs.declared.lines.Line.{Line}
use Rattle.spec_history.specs.declared.lines.Line.TheVariants as lines
use Rattle.spec_fold.specs.Effects.{effect_by, vanished_lines}
use Rattle.spec_model.specs.Calls.{key_of}
use Rattle.spec_records.specs.Durable.{Durable}
use Rattle.spec_rows.specs.Callbacks.{expired, owe_line, risen_turn, turned_in, CallbackStep}
use Rattle.spec_rows.specs.Hosts.{at_rest, begun_from, comes_up, ends, fails_early, fails_midway, fall_line, in_boot, in_step, is_full, restarted, served, served_by, without_boot_record, struck, Blow, Fall, Luck, Outcome}
use Rattle.spec_rows.specs.ServerRow as file
use Rattle.spec_rows.specs.ServerRow.{begun_after, does, granted, granted_in, is_client, versions_made, promise_ticks, versioned, Decision}
use Rattle.spec_rows.specs.ServerSteps.{back_timeout_row, wake_row}
use Rattle.spec_rows.specs.States.{durable_of, BackCall, ServerState}
use Rattle.spec_rows.specs.Steps.{begun_before, Begun}
use Rattle.spec_volrows.proofs.VolKeeping.{deeds_are_writable}
use Rattle.spec_volrows.proofs.VolTurns.{deeds_are_shown}
use Rattle.spec_volrows.specs.FileRow.{file_row, file_start}
use Rattle.spec_volrows.specs.NodeHosts.{file_begun, node_begun, node_kind, node_timed_out, node_woken, piece_timed_out, NodeHost}
use Rattle.spec_volrows.specs.VolLaws.{is_saved, IsWritable, OfSaved, ShowsDeed}
use Rattle.spec_volrows.specs.VolRow.{holds_of}
use Rattle.spec_volrows.specs.VolStates.{NodeState, PieceCall}
use Rattle.spec_volrows.specs.VolSteps as vols
use Rattle.spec_volrows.specs.VolSteps.{deed_head, from_of, is_of_client, node_back_timeout_row, node_file_decides, node_row, node_start_row, node_wake_row, owes_of, piece_timeout_row, vol_begun_after, vol_decides, vol_timed, vol_turned_by, Deed, VolDecision}
use Rattle.law_keys.proofs.FileSeats.{file_decides_so, OfHead}
use Rattle.law_keys.specs.Ran.{ran_found, ran_of_file, ran_of_vol, ran_restarted, ran_served, server_ran, that_changed, unless_early, unless_hit, RanCall}
use Rattle.law_places.proofs.Turning.{all_on}
use Rattle.law_latest.proofs.ServerLines.{carried_told, deed_told, granted_told, is_no_change, late_plain, owes_told, plain, server_tells, timed_told, turned_told_by, vanished_told, AreOfServer, NoChange}

-- ---- lines with one change

-- these lines have one change, of a call that ran and changed something at this server, and was a client's; no other ran
pub record TellsOne (me : Node) (new : List RanCall) (ls : List Line) : Type 0 where
  pub front : List Line
  pub key : Key
  pub count : ℕ
  pub rest : List Line
  pub split : ls ≡ front ++ (lines.Change me key count ∷ rest)
  pub before : NoChange front
  pub after : NoChange rest
  pub r : RanCall
  pub ran : new ≡ r ∷ []
  pub callee : r.callee ≡ me
  pub under : key_of r.head ≡ key
  pub changed : r.changed ≡ true
  pub client : is_client r.head.from ≡ true

abbrev pub Tells : Node → List RanCall → List Line → Type 0
Tells me new ls = NoChange ls ⊎ TellsOne me new ls

-- with lines before them that tell none
behind : (me : Node) (new : List RanCall) (pre ls : List Line) → NoChange pre → Tells me new ls → Tells me new (pre ++ ls)
behind me new pre ls h (inl k) = inl (all_on is_no_change pre ls h k)
behind me new pre ls h (inr k) = inr (record {
  front = pre ++ k.front;
  key = k.key;
  count = k.count;
  rest = k.rest;
  split = ap (λ (xs : List Line). pre ++ xs) k.split ∙ sym (append_assoc pre k.front (lines.Change me k.key k.count ∷ k.rest));
  before = all_on is_no_change pre k.front h k.before;
  after = k.after;
  r = k.r;
  ran = k.ran;
  callee = k.callee;
  under = k.under;
  changed = k.changed;
  client = k.client;
})

-- ---- a file server

-- what it saves is a client's
abbrev SavesOfClient : Decision → Type 0
SavesOfClient (file.saves head c) = is_client head.from ≡ true
SavesOfClient d = ⊤

of_client : (head : Head) (d : Decision) → OfHead head d → is_client head.from ≡ true → SavesOfClient d
of_client head file.drops of is = tt
of_client head (file.tells_boot h) of is = tt
of_client head (file.repeats reply) of is = tt
of_client head (file.refuses h code) of is = tt
of_client head (file.shows h r) of is = tt
of_client head (file.saves h c) of is = subst (λ (x : Head). is_client x.from ≡ true) (sym of) is

decides_of_client : (me : Node) (s : NodeState) (clock : ℕ) (m : Message) → is_client m.head.from ≡ true → SavesOfClient (node_file_decides me s clock (Whole m))
decides_of_client me s clock m is = of_client m.head (node_file_decides me s clock (Whole m)) (file_decides_so me s clock m).of is

versioned_plain : (vs : List Version) (ls : List Line) → NoChange ls → NoChange (versioned vs ls)
versioned_plain [] ls h = h
versioned_plain (v ∷ vs) ls h = versioned_plain vs ls h

does_tells : (me : Node) (x : ServerState) (clock place : ℕ) (d : Decision) (ls : List Line) → SavesOfClient d → AreOfServer ls → Tells me (ran_of_file me x.lasting.boot d) (does me x clock place d ls).lines
does_tells me x clock place file.drops ls of h = inl (plain ls h)
does_tells me x clock place (file.tells_boot head) ls of h = inl (plain ls h)
does_tells me x clock place (file.repeats reply) ls of h = inl (plain ls h)
does_tells me x clock place (file.refuses head code) ls of h = inl (plain ls h)
does_tells me x clock place (file.shows head r) ls of h = inl (plain (granted me head.from (clock + promise_ticks) r.granted ls) (granted_told me head.from (clock + promise_ticks) r.granted ls h))
does_tells me x clock place (file.saves head c) ls of h = inr (record {
  front = lines.Given place ∷ [];
  key = key_of head;
  count = length (versions_made c);
  rest = versioned (versions_made c) (granted me head.from (clock + promise_ticks) (granted_in c) ls);
  split = refl;
  before = refl;
  after = versioned_plain (versions_made c) (granted me head.from (clock + promise_ticks) (granted_in c) ls) (plain (granted me head.from (clock + promise_ticks) (granted_in c) ls) (granted_told me head.from (clock + promise_ticks) (granted_in c) ls h));
  r = record { callee = me; boot = x.lasting.boot; head = head; changed = true };
  ran = refl;
  callee = refl;
  under = refl;
  changed = refl;
  client = of;
})

file_tells : (me : Node) (s : NodeState) (clock place : ℕ) (m : Message) → is_client m.head.from ≡ true → Tells me (ran_of_file me s.file.lasting.boot (node_file_decides me s clock (Whole m))) (file_row me (holds_of s.vol.transactions) s.file clock place (Whole m)).lines
unfolding file_row
file_tells me s clock place m is =
    let d : Decision = node_file_decides me s clock (Whole m) in
    let t : CallbackStep = turned_in me s.file clock (expired clock s.file.backs) d (Whole m) in
    does_tells me s.file clock place d t.lines (decides_of_client me s clock m is) (carried_told me s.file clock (expired clock s.file.backs) d m.head m.carried)

-- ---- a volume server

saved_plain : (me : Node) (s : NodeState) (clock place : ℕ) (m : Message) (head : Head) (x : Deed) → is_of_client (from_of (Whole m)) ≡ false → vol_decides me (durable_of s.file.lasting) s.vol (Whole m) ≡ vols.saves head x → NoChange (node_row me s clock place (Whole m)).lines
saved_plain me s clock place m head x other is =
    let d : Durable = durable_of s.file.lasting in
    let shown : ShowsDeed me s clock place head x (node_row me s clock place (Whole m)) = deeds_are_shown me s clock place (Whole m) head x other is in
    let writable = subst (OfSaved (IsWritable d)) is (deeds_are_writable me d s.vol (Whole m)) in
    let owes : List Line = map (owe_line me) (owes_of x.withdraws (expired clock s.file.backs).lists) in
    subst NoChange (sym shown.lines)
    (plain (effect_by me (deed_head head x) x.body d ++ owes) (all_on server_tells (effect_by me (deed_head head x) x.body d) owes (deed_told me (deed_head head x) x.body d writable.taken) (owes_told me (owes_of x.withdraws (expired clock s.file.backs).lists))))

quiet_plain : (me : Node) (s : NodeState) (clock place : ℕ) (m : Message) → is_of_client (from_of (Whole m)) ≡ false → is_saved (vol_decides me (durable_of s.file.lasting) s.vol (Whole m)) ≡ false → NoChange (node_row me s clock place (Whole m)).lines
unfolding node_row
quiet_plain me s clock place m other quiet = rw other (plain (vol_turned_by me s.file.lasting s.vol (expired clock s.file.backs) (vol_decides me (durable_of s.file.lasting) s.vol (Whole m)) m.head m.carried).lines
    (turned_told_by me s.file.lasting s.vol (expired clock s.file.backs) (vol_decides me (durable_of s.file.lasting) s.vol (Whole m)) m.head m.carried quiet))

vol_plain : (me : Node) (s : NodeState) (clock place : ℕ) (m : Message) (d : VolDecision) → is_of_client (from_of (Whole m)) ≡ false → vol_decides me (durable_of s.file.lasting) s.vol (Whole m) ≡ d → NoChange (node_row me s clock place (Whole m)).lines
vol_plain me s clock place m (vols.saves head x) other is = saved_plain me s clock place m head x other is
vol_plain me s clock place m d other is = quiet_plain me s clock place m other (ap is_saved is)

-- ---- a message

row_by : (b : Bool) (me : Node) (s : NodeState) (clock place : ℕ) (m : Message) → is_of_client (from_of (Whole m)) ≡ b
    → Tells me (cond b (ran_of_file me s.file.lasting.boot (node_file_decides me s clock (Whole m))) (ran_of_vol me s.file.lasting.boot (vol_decides me (durable_of s.file.lasting) s.vol (Whole m)))) (node_row me s clock place (Whole m)).lines
unfolding node_row
row_by true me s clock place m is = rw is (file_tells me s clock place m is)
row_by false me s clock place m is = inl (vol_plain me s clock place m (vol_decides me (durable_of s.file.lasting) s.vol (Whole m)) is refl)

row_tells : (me : Node) (s : NodeState) (clock place : ℕ) (m : Message) → Tells me (server_ran me s clock m) (node_row me s clock place (Whole m)).lines
row_tells me s clock place m = row_by (is_of_client (from_of (Whole m))) me s clock place m refl

fall_plain : (me : Node) (stops : Bool) → NoChange (fall_line me stops ∷ [])
fall_plain me true = refl
fall_plain me false = refl

serve_by : (me : Node) (h : NodeHost) (clock place : ℕ) (m : Message) (o : Option Blow) → Tells me (unless_hit o (server_ran me h.state clock m)) (served_by (node_kind me) h clock place m o).lines
serve_by me h clock place m None = row_tells me h.state clock place m
serve_by me h clock place m (Some b) = inl (fall_plain me b.stops)

pub served_tells : (me : Node) (h : NodeHost) (clock place : ℕ) (luck : Luck) (m : Message) → Tells me (ran_served (node_kind me) (server_ran me) h clock luck m) (served (node_kind me) h clock place luck m).lines
served_tells me h clock place luck m = serve_by me h clock place m (struck h.armed luck _)

-- ---- timeouts, and as time passes

pub piece_plain : (me : Node) (h : NodeHost) (clock : ℕ) (n : Node) (c : PieceCall) → NoChange (piece_timed_out me h clock n c).lines
unfolding piece_timeout_row
piece_plain me h clock n c = plain (vol_timed me h.state.file.lasting h.state.vol (expired clock h.state.file.backs) n c (h.state.vol.sendings n)).lines (timed_told me h.state.file.lasting h.state.vol (expired clock h.state.file.backs) n c (h.state.vol.sendings n))

pub back_plain : (me : Node) (h : NodeHost) (clock : ℕ) (n : Node) (c : BackCall) → NoChange (node_timed_out me h clock n c).lines
unfolding node_back_timeout_row back_timeout_row
back_plain me h clock n c = late_plain me h.state.file.lasting.boot n c (expired clock h.state.file.backs)

pub woken_plain : (me : Node) (h : NodeHost) (clock : ℕ) → NoChange (node_woken me h clock).lines
unfolding node_wake_row wake_row
woken_plain me h clock = refl

-- ---- a restart

-- what it begins with tells what the interrupted step ran
abbrev Begins : Node → List RanCall → Begun NodeState → Type 0
Begins me new f = (ls : List Line) → NoChange ls → Tells me new (f.before ls)

none_begins : (me : Node) (s : NodeState) (new : List RanCall) → Begins me new (begun_before s)
none_begins me s new ls h = inl h

file_begins : (me : Node) (s : NodeState) (clock : ℕ) (d : Decision) → SavesOfClient d → Begins me (filter that_changed (ran_of_file me s.file.lasting.boot d)) (node_begun s (begun_after me s.file clock d))
file_begins me s clock file.drops of ls h = inl h
file_begins me s clock (file.tells_boot head) of ls h = inl h
file_begins me s clock (file.repeats reply) of ls h = inl h
file_begins me s clock (file.refuses head code) of ls h = inl h
file_begins me s clock (file.shows head r) of ls h = inl h
file_begins me s clock (file.saves head c) of ls h = inr (record {
  front = [];
  key = key_of head;
  count = length (versions_made c);
  rest = versioned (versions_made c) ls;
  split = refl;
  before = refl;
  after = versioned_plain (versions_made c) ls h;
  r = record { callee = me; boot = s.file.lasting.boot; head = head; changed = true };
  ran = refl;
  callee = refl;
  under = refl;
  changed = refl;
  client = of;
})

vol_begins : (me : Node) (s : NodeState) (d : VolDecision) (new : List RanCall) → OfSaved (IsWritable (durable_of s.file.lasting)) d → Begins me new (node_begun s (vol_begun_after me s.file d))
vol_begins me s vols.drops new w ls h = inl h
vol_begins me s (vols.tells_boot head) new w ls h = inl h
vol_begins me s (vols.repeats reply) new w ls h = inl h
vol_begins me s (vols.replies_to head reply ts last) new w ls h = inl h
vol_begins me s (vols.dispatches head x) new w ls h = inl h
vol_begins me s (vols.saves head x) new w ls h =
    inl (all_on is_no_change (effect_by me (deed_head head x) x.body (durable_of s.file.lasting)) ls (plain (effect_by me (deed_head head x) x.body (durable_of s.file.lasting)) (deed_told me (deed_head head x) x.body (durable_of s.file.lasting) w.taken)) h)

after_by : (b : Bool) (me : Node) (s : NodeState) (clock : ℕ) (m : Message) → is_of_client (from_of (Whole m)) ≡ b
    → Begins me (filter that_changed (cond b (ran_of_file me s.file.lasting.boot (node_file_decides me s clock (Whole m))) (ran_of_vol me s.file.lasting.boot (vol_decides me (durable_of s.file.lasting) s.vol (Whole m)))))
    (node_begun s (cond b (begun_after me s.file clock (node_file_decides me s clock (Whole m))) (vol_begun_after me s.file (vol_decides me (durable_of s.file.lasting) s.vol (Whole m)))))
after_by true me s clock m is = file_begins me s clock (node_file_decides me s clock (Whole m)) (decides_of_client me s clock m is)
after_by false me s clock m is = vol_begins me s (vol_decides me (durable_of s.file.lasting) s.vol (Whole m)) _ (deeds_are_writable me (durable_of s.file.lasting) s.vol (Whole m))

begins : (me : Node) (s : NodeState) (after : Bool) (fall : Fall) → Begins me (ran_found (server_ran me) s after fall) (begun_from (node_kind me) s after fall)
begins me s after at_rest = none_begins me s _
begins me s false (in_step m clock b) = none_begins me s _
begins me s true (in_step m clock b) = after_by (is_of_client (from_of (Whole m))) me s clock m refl
begins me s false in_boot = none_begins me s _
begins me s true in_boot = λ ls h. inl (all_on is_no_change (vanished_lines me s.file.lasting.volumes) ls (plain (vanished_lines me s.file.lasting.volumes) (vanished_told me s.file.lasting.volumes)) h)

risen_tells : (me : Node) (clock count : ℕ) (f : Begun NodeState) (new : List RanCall) → Begins me new f → Tells me new (node_start_row me clock count (file_begun f)).lines
unfolding node_start_row file_start
risen_tells me clock count f new h =
    h (lines.Restart me (f.state.file.lasting.boot + 1) ∷ (vanished_lines me f.state.file.lasting.volumes ++ (risen_turn me clock count).lines))
    (plain (vanished_lines me f.state.file.lasting.volumes ++ (risen_turn me clock count).lines)
    (all_on server_tells (vanished_lines me f.state.file.lasting.volumes) (risen_turn me clock count).lines (vanished_told me f.state.file.lasting.volumes) (owes_told me (risen_turn me clock count).backs.lists.owed)))

ends_tell : (me : Node) (h : NodeHost) (clock count : ℕ) (f : Begun NodeState) (fall : Fall) (o : Outcome) (new : List RanCall) → Begins me new f → Tells me (unless_early o new) (ends (node_kind me) h clock count f fall o).lines
ends_tell me h clock count f fall comes_up new k = risen_tells me clock count f new k
ends_tell me h clock count f fall fails_early new k = inl refl
ends_tell me h clock count f fall fails_midway new k = k (lines.Fault me ∷ []) refl
ends_tell me h clock count f fall is_full new k = k (lines.Full me ∷ []) refl

pub restarted_tells : (me : Node) (h : NodeHost) (clock count : ℕ) (after : Bool) (o : Outcome) (fall : Fall) → Tells me (ran_restarted (node_kind me) (server_ran me) h after o fall) (restarted (node_kind me) h clock count after o fall).lines
restarted_tells me h clock count after o fall =
    ends_tell me h clock count (begun_from (node_kind me) h.state after fall) fall (without_boot_record ((node_kind me).can_start (begun_from (node_kind me) h.state after fall).state) o) (ran_found (server_ran me) h.state after fall) (begins me h.state after fall)
