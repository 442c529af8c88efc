-- Each transaction of a server whose memory counts was asked for by a call that ran there, in its boot: so the server has a seat of its caller,
-- with this call or a later one.
use Rattle.std.proofs.Common.{◌≡◌, ◌≤◌, ◌<◌, ◌⊎◌, inl, inr, arith, ℕ, zero, suc, Bool, true, false, cond, List, [], ◌∷◌, ◌++◌, Option, Some, None, refl, sym, ap, subst, ◌∙◌, append-nil, eqb-true, eq-eqb}
use Rattle.std.proofs.Math.Nat.{le_refl}
use Rattle.std.specs.Prelude.{⊤, nat_eq, nat_lt}
use Rattle.std.specs.List.{AllByRecursion}
use Rattle.afs_num.specs.Nodes.{same_node}
use Rattle.afs_num.specs.declared.messages.Call.{Call}
use Rattle.afs_num.specs.declared.messages.Call.TheVariants as ask
use Rattle.afs_num.specs.declared.messages.Carried.{Carried}
use Rattle.afs_num.specs.declared.messages.Carried.TheVariants as carried
use Rattle.afs_num.specs.declared.messages.Message.{Message}
use Rattle.afs_num.specs.declared.messages.Received.TheVariants.{Whole}
use Rattle.afs_num.specs.declared.records.RecordBody.{RecordBody}
use Rattle.afs_num.specs.declared.types.Head.{Head}
use Rattle.afs_num.specs.declared.types.Node.{Node}
use Rattle.afs_num.specs.declared.types.Node.TheVariants.{Server}
use Rattle.afs_num.specs.declared.volume_calls.VolCall.{VolCall}
use Rattle.spec_history.specs.declared.scripts.Script.{Script}
use Rattle.spec_ideal.specs.Tables.{Table}
use Rattle.law_legal.proofs.BaseLaws.{at_more, at_put, below-false, below-true, below_up_to, UpTo}
use Rattle.spec_model.proofs.Basics.{same_node-refl}
use Rattle.spec_model.specs.Calls.{admitted, call_seat, pair_below, paired, repeated, Admitted}
use Rattle.spec_model.specs.Calls as pairs
use Rattle.spec_records.specs.Durable.{has_room, stamp_of, Durable}
use Rattle.spec_rows.specs.Callbacks.{expired}
use Rattle.spec_rows.specs.Hosts.{at_rest, begun_from, comes_up, crashed, ends, fails_early, fails_midway, in_boot, in_step, is_full, restarted, served, served_by, set_to_fail, set_to_stop, without_boot_record, struck, Blow, Fall, HostStep, Outcome}
use Rattle.spec_rows.specs.Runs.{message_at}
use Rattle.spec_rows.specs.ServerHosts.{can_start}
use Rattle.spec_rows.specs.ServerRow.{is_client, not_served}
use Rattle.spec_rows.specs.States.{durable_of, BackCall, Lasting, Seat}
use Rattle.spec_rows.specs.Steps.{Begun}
use Rattle.spec_rows.specs.ServerSteps.{back_timeout_row, wake_row}
use Rattle.spec_volrows.proofs.VolTurns.{others_leave_files}
use Rattle.spec_volrows.specs.NodeHosts.{node_kind, node_timed_out, node_woken, piece_timed_out, NodeHost}
use Rattle.spec_volrows.specs.VolLaws.{LeavesFiles}
use Rattle.spec_volrows.specs.VolRow.{accepted, family_of, refused, sends, verdict, without_family, Plan, Verdict}
use Rattle.spec_volrows.specs.VolStates.{NodeState, PieceCall, Transaction, VolState}
use Rattle.spec_volrows.specs.VolSteps.{deed_record, dispatches, drops, is_of_client, is_vol_caller, judged, node_back_timeout_row, node_device_calls, node_file_decides, node_row, node_start_row, node_wake_row, not_written, piece_timeout_row, raised_by, refuses_vol, repeats, replies_to, same_by, same_written, saves, tells_boot, vol_admits, vol_carried, vol_decides, written, Deed, VolDecision}
use Rattle.spec_runs.specs.NodeRuns.{admin_falls, admin_moves, admin_rises, client_falls, client_moves, client_rises, loc_stepped, node_moved, node_start, server_stepped, ticked, CellInput, NodeCell, NodeMoved}
use Rattle.law_walks.specs.Kinds.{IsGiven}
use Rattle.law_walks.proofs.EachKind.{any_admin, any_client, any_database, each}
use Rattle.law_places.specs.Accepting.{cell_behind}
use Rattle.law_keys.specs.Ran.{ran_of_file, ran_of_vol, server_ran, RanCall}
use Rattle.law_keys.proofs.Deciding.{vol_decides_so, Decides, OfHead}
use Rattle.law_keys.proofs.FileSeats.{back_keeps, wake_keeps}
use Rattle.law_keys.proofs.Memories.{pair_in, pair_of, within_above, Done, IsAbove, IsWithin, Keeps, Memory, Steps}
use Rattle.law_keys.proofs.VolSeats.{memory, piece_keeps, vol_steps}
use Rattle.law_keys.proofs.Walk.{row_steps}
use Rattle.law_transactions.specs.Begun.{AsksFor, IsAskedFor}
use Rattle.law_transactions.proofs.BegunWalk.{row_boot}
use Rattle.law_transactions.proofs.Transactions.{row_all, timed_all, AllAre}
use Rattle.law_fences.specs.Claims.{Counts, IsLive}
use Rattle.law_fences.proofs.Live.{counted}

-- ---- a call that runs is decided on

abbrev Ran : VolDecision → Type 0
Ran (replies_to head reply ts last) = ⊤
Ran (dispatches head x) = ⊤
Ran (saves head x) = ⊤
Ran drops = ⊥
Ran (tells_boot head) = ⊥
Ran (repeats reply) = ⊥

either_ran : (b : Bool) (x y : VolDecision) → Ran x → Ran y → Ran (cond b x y)
either_ran true x y h k = h
either_ran false x y h k = k

module _ (d : Durable) (head : Head) where
  full_ran : (ts : Table Transaction) (last : ℕ) (v : Verdict) → Ran (not_written d.boot head ts last v)
  full_ran ts last (refused code after) = tt
  full_ran ts last (accepted p) = tt
  full_ran ts last (sends x) = tt

  written_ran : (x : Deed) (full : VolDecision) → Ran full → Ran (written d head x full)
  written_ran x full k = either_ran (has_room d (deed_record head x)) (saves head x) full tt k

  same_written_ran : (ts : Table Transaction) (last : ℕ) (p : Plan) (o : Option RecordBody) → Ran (same_written d head ts last p o)
  same_written_ran ts last p None = tt
  same_written_ran ts last p (Some body) = written_ran _ _ (full_ran ts last (accepted p))

  same_ran : (ts : Table Transaction) (last : ℕ) (v : Verdict) → Ran (same_by d head ts last v)
  same_ran ts last (refused code after) = tt
  same_ran ts last (accepted p) = same_written_ran ts last p p.body
  same_ran ts last (sends x) = tt

  raised_ran : (family : ℕ) (live : Table Transaction) (last : ℕ) (v : Verdict) (full : VolDecision) → Ran full → Ran (raised_by d head family live last v full)
  raised_ran family live last (refused code after) full k = written_ran _ full k
  raised_ran family live last (accepted p) full k = written_ran _ full k
  raised_ran family live last (sends x) full k = tt

  judged_ran : (v : VolState) (call : VolCall) → Ran (judged d v head call)
  judged_ran v call =
      let family : ℕ = family_of call in
      let ts : Table Transaction = v.transactions in
      let last : ℕ = v.last_transaction in
      either_ran (nat_lt head.stamp (stamp_of family d)) _ _ tt
      (either_ran (nat_lt (stamp_of family d) head.stamp) _ _
      (raised_ran family (without_family family ts) last (verdict d (without_family family ts) last head.stamp call) _ (full_ran ts last (verdict d ts last head.stamp call)))
      (same_ran ts last (verdict d ts last head.stamp call)))

  called_ran : (v : VolState) (user : List ℕ) (call : Call) → Ran (vol_carried d v head (carried.Call user call))
  called_ran v user (ask.Volume call) = judged_ran v call
  called_ran v user (ask.File call) = tt
  called_ran v user (ask.Location call) = tt

-- ---- whether it runs or not, its caller's seat is then of no earlier call

-- it is no later than what the seat has
abbrev SeatHas : Option Seat → ℕ → ℕ → Type 0
SeatHas o e n = IsWithin (pair_of o) e n

compared_has : (a b : Bool) (e n : ℕ) (seat : Seat) → pair_below e n seat.epoch seat.number ≡ a → pair_below seat.epoch seat.number e n ≡ b → ((cond a pairs.older (cond b pairs.runs (repeated seat.reply))) ≡ pairs.runs) ⊎ SeatHas (Some seat) e n
compared_has true b e n seat below above = inr (below_up_to e n seat.epoch seat.number (below-true e n seat.epoch seat.number below))
compared_has false true e n seat below above = inl refl
compared_has false false e n seat below above = inr (below-false seat.epoch seat.number e n above)

paired_has : (e n : ℕ) (o : Option Seat) → (paired e n o ≡ pairs.runs) ⊎ SeatHas o e n
paired_has e n None = inl refl
paired_has e n (Some seat) = compared_has (pair_below e n seat.epoch seat.number) (pair_below seat.epoch seat.number e n) e n seat refl refl

module _ (me : Node) (a b : Memory) where
  taken : (h head : Head) → h ≡ head → b.last h.from ≡ Some (pair_in h) → IsWithin (b.last head.from) head.epoch head.number
  taken h head same own = subst (λ (x : Head). IsWithin (b.last x.from) x.epoch x.number) same (subst (λ (o : Option (ℕ × ℕ)). IsWithin o h.epoch h.number) (sym own) (inr (refl, le_refl h.number)))

  ran_takes : (boot : ℕ) (head : Head) (d : VolDecision) → Ran d → OfHead boot head d → Steps me a b (ran_of_vol me boot d) → IsWithin (b.last head.from) head.epoch head.number
  ran_takes boot head (replies_to h reply ts last) ran of k = taken h head of.0 k.own
  ran_takes boot head (dispatches h x) ran of k = taken h head of k.own
  ran_takes boot head (saves h x) ran of k = taken h head of.0 k.own
  ran_takes boot head drops ran of k = absurd ran
  ran_takes boot head (tells_boot h) ran of k = absurd ran
  ran_takes boot head (repeats reply) ran of k = absurd ran

  -- seats have no earlier calls than they had
  within_on : (rs : List RanCall) → Steps me a b rs → (n : Node) (e k : ℕ) → IsWithin (a.last n) e k → IsWithin (b.last n) e k
  within_on [] s n e k w = subst (λ (o : Option (ℕ × ℕ)). IsWithin o e k) (sym (s.last n)) w
  within_on (r ∷ []) s n e k w = elim (s.last n) [
    | inl new ↦ subst (λ (o : Option (ℕ × ℕ)). IsWithin o e k) (sym new.1)
        (below_up_to e k r.head.epoch r.head.number (within_above (a.last n) e k r.head.epoch r.head.number w (subst (λ (m : Node). IsAbove (a.last m) r.head.epoch r.head.number) new.0 s.runs.above)))
    | inr same ↦ subst (λ (o : Option (ℕ × ℕ)). IsWithin o e k) (sym same) w
  ]
  within_on (r ∷ q ∷ rs) s n e k w = absurd s

called_ran_by : (me : Node) (d : Durable) (v : VolState) (head : Head) (user : List ℕ) (call : Call) → same_node head.to me ≡ true → nat_eq head.boot d.boot ≡ true → paired head.epoch head.number (call_seat head.from v.seats) ≡ pairs.runs →
    Ran (vol_decides me d v (Whole (record { head = head; carried = carried.Call user call })))
called_ran_by me d v head user call to boot runs = rw (to, boot, runs) (either_ran (is_vol_caller head.from) _ _ (called_ran d head v user call) tt)

module _ (me : Node) (s : NodeState) (clock place : ℕ) where
  abbrev then : Message → Memory
  then m = memory (node_row me s clock place (Whole m)).state

  vol_ran : (m : Message) → is_client m.head.from ≡ false → Steps me (memory s) (then m) (ran_of_vol me s.file.lasting.boot (vol_decides me (durable_of s.file.lasting) s.vol (Whole m)))
  vol_ran m other = subst (λ (b : Bool). Steps me (memory s) (then m) (cond b (ran_of_file me s.file.lasting.boot (node_file_decides me s clock (Whole m))) (ran_of_vol me s.file.lasting.boot (vol_decides me (durable_of s.file.lasting) s.vol (Whole m))))) other (row_steps me s clock place m)

  seat_of_caller : (n : Node) (e k : ℕ) → is_client n ≡ false → SeatHas (call_seat n s.vol.seats) e k → IsWithin ((memory s).last n) e k
  seat_of_caller n e k other has = subst (λ (b : Bool). IsWithin (cond b (pair_of (call_seat n s.file.seats)) (pair_of (call_seat n s.vol.seats))) e k) (sym other) has

  own_by : (head : Head) (user : List ℕ) (call : Call) → head.to ≡ me → head.boot ≡ s.file.lasting.boot → is_client head.from ≡ false → (paired head.epoch head.number (call_seat head.from s.vol.seats) ≡ pairs.runs) ⊎ SeatHas (call_seat head.from s.vol.seats) head.epoch head.number →
      IsWithin ((then (record { head = head; carried = carried.Call user call })).last head.from) head.epoch head.number
  own_by head user call to boot other (inl runs) =
      let m : Message = record { head = head; carried = carried.Call user call } in
      let d : VolDecision = vol_decides me (durable_of s.file.lasting) s.vol (Whole m) in
      ran_takes me (memory s) (then m) s.file.lasting.boot head d
      (called_ran_by me (durable_of s.file.lasting) s.vol head user call (subst (λ (n : Node). same_node n me ≡ true) (sym to) (same_node-refl me)) (eq-eqb head.boot s.file.lasting.boot boot) runs)
      (vol_decides_so me (durable_of s.file.lasting) s.vol m).of (vol_ran m other)
  own_by head user call to boot other (inr has) =
      let m : Message = record { head = head; carried = carried.Call user call } in
      within_on me (memory s) (then m) _ (vol_ran m other) head.from head.epoch head.number (seat_of_caller head.from head.epoch head.number other has)

  own_carried : (head : Head) (x : Carried) (user : List ℕ) (call : Call) → x ≡ carried.Call user call → head.to ≡ me → head.boot ≡ s.file.lasting.boot → is_client head.from ≡ false → IsWithin ((then (record { head = head; carried = x })).last head.from) head.epoch head.number
  own_carried head x user call is to boot other =
      subst (λ (y : Carried). IsWithin ((then (record { head = head; carried = y })).last head.from) head.epoch head.number) (sym is) (own_by head user call to boot other (paired_has head.epoch head.number (call_seat head.from s.vol.seats)))

  own_within : (m : Message) (user : List ℕ) (call : Call) → m.carried ≡ carried.Call user call → m.head.to ≡ me → m.head.boot ≡ s.file.lasting.boot → is_client m.head.from ≡ false → IsWithin ((then m).last m.head.from) m.head.epoch m.head.number
  own_within m user call is to boot other = own_carried m.head m.carried user call is to boot other

-- ---- a cell

abbrev pub last_in : NodeCell → ℕ → Node → Option (ℕ × ℕ)
last_in c i n = (memory (c.hosts i).state).last n

-- It was asked for; and of its caller, which is no client, the server has a seat with this call or a later one.
pub record IsSeated (c : NodeCell) (server volume family stamp : ℕ) : Type 0 where
  pub asked : IsAskedFor c server volume family stamp
  pub within : is_client asked.m.head.from ≡ false → IsWithin (last_in c server asked.m.head.from) asked.m.head.epoch asked.m.head.number

abbrev Asks : NodeCell → ℕ → ℕ → ℕ → ℕ → ℕ → Type 0
Asks c i n volume family stamp = IsSeated c i volume family stamp

abbrev AllSeated : NodeCell → ℕ → Table Transaction → Type 0
AllSeated c i ts = AllAre (Asks c i) 0 ts

-- at a server whose memory counts
abbrev LiveSeated : NodeCell → ℕ → NodeHost → Type 0
LiveSeated c i h = Counts h.down → AllSeated c i h.state.vol.transactions

abbrev pub Seated : NodeCell → Type 0
Seated c = (i : ℕ) → LiveSeated c i (c.hosts i)

z_le : (n : ℕ) → 0 ≤ n
z_le n = omega (arith)

-- further messages were sent, the server is in its boot, and its seats are of no earlier calls
kept : (c d : NodeCell) (i : ℕ) (more : List Message) → d.sent ≡ c.sent ++ more → (d.hosts i).state.file.lasting.boot ≡ (c.hosts i).state.file.lasting.boot → ((n : Node) (e k : ℕ) → IsWithin (last_in c i n) e k → IsWithin (last_in d i n) e k) →
    (volume family stamp : ℕ) → IsSeated c i volume family stamp → IsSeated d i volume family stamp
kept c d i more sent boot seats volume family stamp h = record {
  asked = record {
    place = h.asked.place;
    m = h.asked.m;
    user = h.asked.user;
    call = h.asked.call;
    sent = ap (λ (ms : List Message). message_at ms h.asked.place) sent ∙ at_more c.sent more h.asked.place h.asked.m h.asked.sent;
    to = h.asked.to;
    in_boot = h.asked.in_boot ∙ sym boot;
    under = h.asked.under;
    asks = h.asked.asks;
    begins = h.asked.begins;
  };
  within = λ other. seats h.asked.m.head.from h.asked.m.head.epoch h.asked.m.head.number (h.within other);
}

weaker : (c d : NodeCell) (i : ℕ) (ts : Table Transaction) → ((volume family stamp : ℕ) → IsSeated c i volume family stamp → IsSeated d i volume family stamp) → AllSeated c i ts → AllSeated d i ts
weaker c d i [] more h = tt
weaker c d i (p ∷ ps) more h = (more p.1.volume p.1.family p.1.stamp h.0, weaker c d i ps more h.1)

module _ (c : NodeCell) (h : Seated c) where
  abbrev R : NodeMoved → Type 0
  R m = Seated m.cell

  -- no server did anything
  still : (d : NodeCell) (more : List Message) → d.sent ≡ c.sent ++ more → d.hosts ≡ c.hosts → Seated d
  still d more sent hosts i up =
      let same : d.hosts i ≡ c.hosts i = ap (λ (f : ℕ → NodeHost). f i) hosts in
      subst (λ (x : NodeHost). AllSeated d i x.state.vol.transactions) (sym same)
      (weaker c d i (c.hosts i).state.vol.transactions
      (kept c d i more sent (ap (λ (x : NodeHost). x.state.file.lasting.boot) same) (λ n e k w. subst (λ (x : NodeHost). IsWithin ((memory x.state).last n) e k) (sym same) w))
      (h i (subst (λ (x : NodeHost). Counts x.down) same up)))

  -- one did
  module _ (i : ℕ) (s : HostStep NodeState) where
    abbrev d : NodeCell
    d = (server_stepped c i s).cell

    at : d.hosts i ≡ s.host
    at = at_put i i (λ (x : NodeHost). x ≡ s.host) s.host c.hosts (λ one. refl) (λ other. absurd (other refl))

    -- what the server of the step had is so behind it, if it is in its boot
    had : s.host.state.file.lasting.boot ≡ (c.hosts i).state.file.lasting.boot → ((n : Node) (e k : ℕ) → IsWithin (last_in c i n) e k → IsWithin ((memory s.host.state).last n) e k) →
        (volume family stamp : ℕ) → IsSeated c i volume family stamp → IsSeated d i volume family stamp
    had boot seats = kept c d i s.sent refl (ap (λ (x : NodeHost). x.state.file.lasting.boot) at ∙ boot) (λ n e k w. subst (λ (x : NodeHost). IsWithin ((memory x.state).last n) e k) (sym at) (seats n e k w))

    one : LiveSeated d i s.host → R (server_stepped c i s)
    one k j = at_put i j (LiveSeated d j) s.host c.hosts (λ same. subst (λ (n : ℕ). LiveSeated d n s.host) same k)
        (λ other up. weaker c d j (c.hosts j).state.vol.transactions
        (kept c d j s.sent refl (at_put i j (λ (x : NodeHost). x.state.file.lasting.boot ≡ (c.hosts j).state.file.lasting.boot) s.host c.hosts (λ same. absurd (other same)) (λ apart. refl))
        (λ n e k w. at_put i j (λ (x : NodeHost). IsWithin ((memory x.state).last n) e k) s.host c.hosts (λ same. absurd (other same)) (λ apart. w))) (h j up))

  -- ---- each step of a server

  falls_on : (i : ℕ) (s : HostStep NodeState) → (Counts s.host.down → ⊥) → R (server_stepped c i s)
  falls_on i s down = one i s (λ up. absurd (down up))

  same_on : (i : ℕ) (s : HostStep NodeState) → s.host.state ≡ (c.hosts i).state → (Counts s.host.down → IsLive c i) → R (server_stepped c i s)
  same_on i s state down = one i s (λ up.
      subst (λ (x : NodeState). AllSeated (d i s) i x.vol.transactions) (sym state)
      (weaker c (d i s) i (c.hosts i).state.vol.transactions (had i s (ap (λ (x : NodeState). x.file.lasting.boot) state) (λ n e k w. subst (λ (x : NodeState). IsWithin ((memory x).last n) e k) (sym state) w)) (h i (down up))))

  serves_by : (i place : ℕ) (m : Message) (o : Option Blow) → (c.hosts i).down ≡ None → IsGiven c place m (Server i) → R (server_stepped c i (served_by (node_kind (Server i)) (c.hosts i) c.clock place m o))
  serves_by i place m None up g =
      let s : HostStep NodeState = served_by (node_kind (Server i)) (c.hosts i) c.clock place m None in
      let now : s.host.state.file.lasting.boot ≡ (c.hosts i).state.file.lasting.boot = row_boot (Server i) (c.hosts i).state c.clock place m in
      one i s (λ still_up.
      (row_all (Asks (d i s) i) 0 (Server i) (c.hosts i).state c.clock place m
      (λ user call n volume family new asks boot begins. record {
        asked = record {
          place = place;
          m = m;
          user = user;
          call = call;
          sent = at_more c.sent s.sent place m g.sent;
          to = g.to;
          in_boot = boot ∙ (sym now ∙ ap (λ (x : NodeHost). x.state.file.lasting.boot) (sym (at i s)));
          under = refl;
          asks = asks;
          begins = begins;
        };
        within = λ other. subst (λ (x : NodeHost). IsWithin ((memory x.state).last m.head.from) m.head.epoch m.head.number) (sym (at i s)) (own_within (Server i) (c.hosts i).state c.clock place m user (ask.Volume call) asks g.to boot other);
      }) (
        z_le (c.hosts i).state.vol.last_transaction,
        weaker c (d i s) i (c.hosts i).state.vol.transactions
            (had i s now (within_on (Server i) (memory (c.hosts i).state) (memory s.host.state) (server_ran (Server i) (c.hosts i).state c.clock m) (row_steps (Server i) (c.hosts i).state c.clock place m))) (h i (counted (c.hosts i).down up)),
      )).1)
  serves_by i place m (Some b) up g = same_on i (served_by (node_kind (Server i)) (c.hosts i) c.clock place m (Some b)) refl (λ now. counted (c.hosts i).down up)

  -- it has none, or its memory counts no more
  ends_on : (i : ℕ) (f : Begun NodeState) (fall : Fall) (o : Outcome) → (c.hosts i).down ≡ Some fall → R (server_stepped c i (ends (node_kind (Server i)) (c.hosts i) c.clock c.count f fall o))
  unfolding node_start_row
  ends_on i f fall comes_up down = one i (ends (node_kind (Server i)) (c.hosts i) c.clock c.count f fall comes_up) (λ up. tt)
  ends_on i f fall fails_early down = same_on i (ends (node_kind (Server i)) (c.hosts i) c.clock c.count f fall fails_early) refl (λ now. subst Counts (sym down) now)
  ends_on i f fall fails_midway down = falls_on i (ends (node_kind (Server i)) (c.hosts i) c.clock c.count f fall fails_midway) (λ up. up)
  ends_on i f fall is_full down = falls_on i (ends (node_kind (Server i)) (c.hosts i) c.clock c.count f fall is_full) (λ up. up)

  -- a step that runs no call
  keeps_on : (i : ℕ) (s : HostStep NodeState) → (c.hosts i).down ≡ None → Keeps (memory (c.hosts i).state) (memory s.host.state) → (((volume family stamp : ℕ) → IsSeated c i volume family stamp → IsSeated (d i s) i volume family stamp) → AllSeated (d i s) i s.host.state.vol.transactions) → R (server_stepped c i s)
  keeps_on i s up k all = one i s (λ now. all (had i s k.boot (λ n e j w. within_on (Server i) (memory (c.hosts i).state) (memory s.host.state) [] k n e j w)))

  piece_on : (i : ℕ) (n : Node) (p : PieceCall) → (c.hosts i).down ≡ None → R (server_stepped c i (piece_timed_out (Server i) (c.hosts i) c.clock n p))
  unfolding piece_timeout_row
  piece_on i n p up =
      let s : HostStep NodeState = piece_timed_out (Server i) (c.hosts i) c.clock n p in
      keeps_on i s up (piece_keeps (Server i) (c.hosts i).state c.clock n p) (λ more.
      (timed_all (Asks (d i s) i) 0 (Server i) (c.hosts i).state.file.lasting (c.hosts i).state.vol (expired c.clock (c.hosts i).state.file.backs) n p ((c.hosts i).state.vol.sendings n)
      (z_le (c.hosts i).state.vol.last_transaction, weaker c (d i s) i (c.hosts i).state.vol.transactions more (h i (counted (c.hosts i).down up)))).1)

  break_on : (i : ℕ) (n : Node) (b : BackCall) → (c.hosts i).down ≡ None → R (server_stepped c i (node_timed_out (Server i) (c.hosts i) c.clock n b))
  unfolding node_back_timeout_row back_timeout_row
  break_on i n b up =
      let s : HostStep NodeState = node_timed_out (Server i) (c.hosts i) c.clock n b in
      keeps_on i s up (back_keeps (Server i) (c.hosts i).state c.clock n b) (λ more. weaker c (d i s) i (c.hosts i).state.vol.transactions more (h i (counted (c.hosts i).down up)))

  wake_on : (i : ℕ) → (c.hosts i).down ≡ None → R (server_stepped c i (node_woken (Server i) (c.hosts i) c.clock))
  unfolding node_wake_row wake_row
  wake_on i up =
      let s : HostStep NodeState = node_woken (Server i) (c.hosts i) c.clock in
      keeps_on i s up (wake_keeps (Server i) (c.hosts i).state c.clock) (λ more. weaker c (d i s) i (c.hosts i).state.vol.transactions more (h i (counted (c.hosts i).down up)))

  pub next : (x : CellInput) → R (node_moved c x)
  next x = each R c (record {
    void = h;
    ticks = λ n. still (ticked c (suc n)).cell [] (sym (append-nil c.sent)) refl;
    servers = record {
      serves = λ i place luck m up g. serves_by i place m (struck (c.hosts i).armed luck (node_device_calls (Server i) (c.hosts i).state c.clock (Whole m))) up.up g;
      crashes = λ i up. falls_on i (crashed (node_kind (Server i)) (c.hosts i)) (λ up. up);
      stop_set = λ i calls pick up. same_on i (set_to_stop (node_kind (Server i)) (c.hosts i) calls pick) refl (λ now. now);
      fail_set = λ i call up. same_on i (set_to_fail (node_kind (Server i)) (c.hosts i) call) refl (λ now. now);
      restarts = λ i after o fall there down. ends_on i (begun_from (node_kind (Server i)) (c.hosts i).state after fall) fall (without_boot_record (can_start (begun_from (node_kind (Server i)) (c.hosts i).state after fall).state.file) o) down;
      piece_late = λ i n p up is. piece_on i n p up.up;
      break_late = λ i n b up is. break_on i n b up.up;
      wakes = λ i up. wake_on i up.up;
    };
    database = any_database R c (λ s. still (loc_stepped c s).cell s.sent refl refl);
    clients = any_client R c (λ n s. still (client_moves c n s).cell s.sent refl refl) (λ n. still (client_falls c n).cell [] refl refl) (λ n. still (client_rises c n).cell [] refl refl);
    admins = any_admin R c (λ n s. still (admin_moves c n s).cell s.sent refl refl) (λ n. still (admin_falls c n).cell [] refl refl) (λ n. still (admin_rises c n).cell [] refl refl);
  }) x

-- ---- a run

led : (c : NodeCell) (xs : List CellInput) → Seated c → Seated (cell_behind c xs)
led c [] h = h
led c (x ∷ xs) h = led (node_moved c x).cell xs (next c h x)

pub are_seated : (s : Script) (inputs : List CellInput) → Seated (cell_behind (node_start s) inputs)
are_seated s inputs = led (node_start s) inputs (λ i up. tt)
