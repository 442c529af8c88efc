-- The steps of a server: what it sends and keeps is known, in the cell behind the step.
use Rattle.std.proofs.Common.{◌≡◌, ◌≤◌, ◌⊎◌, inl, inr, ℕ, ℤ, Bool, true, false, cond, List, Option, Some, None, refl, sym, ap, subst, ◌∙◌, arith}
use Rattle.std.proofs.Math.Nat.{le_refl, le_trans}
use Rattle.std.specs.Prelude.{⊤}
use Rattle.std.specs.List.{AllByRecursion}
use Rattle.afs_num.specs.Nodes.{same_node}
use Rattle.afs_num.specs.declared.calls.FsCall.{FsCall}
use Rattle.afs_num.specs.declared.location_calls.LocCall.{LocCall}
use Rattle.afs_num.specs.declared.messages.Call.TheVariants as ask
use Rattle.afs_num.specs.declared.messages.Carried.{Carried}
use Rattle.afs_num.specs.declared.messages.Carried.TheVariants as carried
use Rattle.afs_num.specs.declared.messages.Message.{Message}
use Rattle.afs_num.specs.declared.messages.Received.TheVariants.{Whole}
use Rattle.afs_num.specs.declared.messages.Reply.TheVariants as tell
use Rattle.afs_num.specs.declared.types.Head.{Head}
use Rattle.afs_num.specs.declared.types.Node.{Node}
use Rattle.afs_num.specs.declared.types.Node.TheVariants.{Admin, Client, Loc, Server}
use Rattle.afs_num.specs.declared.volume_calls.VolCall.{VolCall}
use Rattle.afs_num.specs.declared.volume_calls.VolReply.TheVariants as volumes
use Rattle.spec_fold.specs.Deeds.{done_by}
use Rattle.spec_model.specs.Calls.{admitted, Admitted}
use Rattle.spec_model.specs.Calls as pairs
use Rattle.spec_ideal.specs.Tables.{get}
use Rattle.spec_records.specs.Durable.{or_zero, stamp_of, with_stamp, Durable}
use Rattle.spec_rows.specs.Hosts.{at_rest, begun_from, comes_up, ends, fails_early, fails_midway, in_boot, in_step, is_full, restarted, served, served_by, without_boot_record, struck, Blow, Fall, HostStep, Luck, Outcome}
use Rattle.spec_rows.specs.ServerHosts.{can_start}
use Rattle.spec_rows.specs.ServerRow.{not_served, refusal, replied, reply_head}
use Rattle.spec_rows.specs.States.{durable_of, Lasting}
use Rattle.spec_rows.specs.Steps.{begun_before, Begun}
use Rattle.spec_adminrows.specs.AdminRow.{ask_of}
use Rattle.spec_adminrows.specs.declared.turns.Ask.{Ask}
use Rattle.spec_ideal.specs.Operations.{is_number}
use Rattle.law_legal.proofs.BaseLaws.{at_put, same_node-true}
use Rattle.spec_volrows.proofs.VolNodes.{nodes_stay_stamped}
use Rattle.spec_volrows.proofs.VolTurns.{deeds_are_shown}
use Rattle.spec_volrows.specs.NodeHosts.{file_begun, node_kind, NodeHost}
use Rattle.spec_volrows.specs.VolLaws.{stamp_at, Follows, ShowsDeed}
use Rattle.spec_volrows.specs.VolRow.{family_of}
use Rattle.spec_volrows.specs.VolStates.{NodeState, Sending, VolState}
use Rattle.spec_volrows.specs.VolSteps.{deed_head, dispatches, drops, forward_reply, is_of_client, is_vol_caller, judged, node_device_calls, node_row, refuses_vol, repeats, replies_to, saves, tells_boot, vol_admits, vol_decides, vol_hears, Deed, VolDecision}
use Rattle.spec_runs.specs.NodeRuns.{server_stepped, NodeCell}
use Rattle.law_walks.specs.Sends.{HeldAre, HeldIs, NodeIs, SeatsAre, ServerMakes, VolMakes}
use Rattle.law_walks.proofs.Seats.{weaker_all, weaker_seats}
use Rattle.law_walks.proofs.ServerSends.{begun_is, ended_is, server_restarted, HostSends}
use Rattle.law_walks.proofs.VolSends.{row_sends}
use Rattle.law_stamps.specs.Stamps.{stored_stamp}
use Rattle.law_stored_stamps.proofs.Bringing.{judged_brings, Answers, Brings, IfAnswered}
use Rattle.law_stored_stamps.proofs.Knowing.{CallBy, CallOf, IsOfAsk, Known, KnownBy, ListTo}
use Rattle.law_stored_stamps.proofs.Surveyed.{IsBrought}

-- of the dumps that it sends on nothing is said
abbrev pub Any : Sending → Type 0
Any x = ⊤

pub weaker_node : (P Q : Message → Type 0) (s : NodeState) → ((m : Message) → P m → Q m) → NodeIs P Any s → NodeIs Q Any s
weaker_node P Q s more h = record {
  file = record {
    seats = weaker_seats P Q s.file.seats more h.file.seats;
    kept = weaker_seats P Q s.file.lasting.kept more h.file.kept;
    held = weaker_all (HeldIs P) (HeldIs Q) s.file.backs.held (λ x k. more x.reply k) h.file.held;
  };
  seats = weaker_seats P Q s.vol.seats more h.seats;
  held = weaker_all (HeldIs P) (HeldIs Q) s.vol.held (λ x k. more x.reply k) h.held;
  sendings = h.sendings;
}

-- ---- what it makes, whoever asks

forwarded : (d : NodeCell) (boot : ℕ) (head : Head) (b : Bool) (code : ℤ) → Known d (cond b (replied boot head (carried.Reply (tell.Volume volumes.Forward))) (refusal boot head code))
forwarded d boot head true code = tt
forwarded d boot head false code = tt

pub makes : (d : NodeCell) (i boot : ℕ) → ServerMakes (Known d) Any (Server i) boot
makes d i boot = record {
  file = record { answers = record { notice = λ head to. tt; refusal = λ head code to. tt }; reply = λ head reply to. tt; breaks = λ n known c. tt };
  piece = λ n known number x h. tt;
  forward = λ x code h. forwarded d boot x.head (is_number code 0) code;
  moved = λ x h. tt;
}

-- ---- its answer to a volume call, in a cell where it has the stamp

module _ (d : NodeCell) (i : ℕ) (head : Head) (call : VolCall) (here : head.to ≡ Server i) where
  brought : (q : Ask) → IsOfAsk q head (ask.Volume call) → head.stamp ≤ stored_stamp d i (family_of call) → IsBrought d q
  brought q its high j other to is =
      let server : Server i ≡ Server j = sym here ∙ (its.callee ∙ to) in
      let number : i ≡ j = cc in
      let calls : ask.Volume call ≡ ask.Volume other = sym its.asks ∙ is in
      let one : call ≡ other = cc in
      let now : stored_stamp d i (family_of call) ≡ stored_stamp d j (family_of other) = ap (λ (k : ℕ). stored_stamp d k (family_of call)) number ∙ ap (λ (x : VolCall). stored_stamp d j (family_of x)) one in
      let asked : head.stamp ≡ q.stamp = its.stamp in
      grind (arith, high, now, asked)

  list_by : (boot : ℕ) (n : Node) → CallBy d head (ask.Volume call) n → head.stamp ≤ stored_stamp d i (family_of call) → ListTo d (reply_head boot head) n
  list_by boot (Admin n) asked high = record { up_to = asked.up_to; now = λ last r run. brought (ask_of (d.admins n) r) (asked.now last r run) high }
  list_by boot (Client n) asked high = tt
  list_by boot (Server n) asked high = tt
  list_by boot Loc asked high = tt

  answer_by : (A : Type 0) (boot : ℕ) (x : Carried) → IfAnswered A x → CallBy d head (ask.Volume call) head.from → (A → head.stamp ≤ stored_stamp d i (family_of call)) → KnownBy d (reply_head boot head) x
  answer_by A boot (carried.Reply (tell.Volume (volumes.ListVols ls))) well asked high = list_by boot head.from asked (high well)
  answer_by A boot (carried.Reply reply) well asked high = tt
  answer_by A boot (carried.Refusal code) well asked high = tt
  answer_by A boot (carried.Call user other) well asked high = absurd well
  answer_by A boot carried.Notice well asked high = tt

  answer_known : (A : Type 0) (boot : ℕ) (m : Message) → Answers A boot head m → CallBy d head (ask.Volume call) head.from → (A → head.stamp ≤ stored_stamp d i (family_of call)) → Known d m
  answer_known A boot m is asked high = subst (λ (h : Head). KnownBy d h m.carried) (sym is.to_it) (answer_by A boot m.carried is.well asked high)

  either_le : (a b s : ℕ) → (head.stamp ≤ a) ⊎ (head.stamp ≤ b) → a ≤ s → b ≤ s → head.stamp ≤ s
  either_le a b s (inl h) k l = le_trans h k
  either_le a b s (inr h) k l = le_trans h l

  decision_known : (dur : Durable) (x : VolDecision) → Brings dur head (family_of call) x → CallBy d head (ask.Volume call) head.from → stamp_of (family_of call) dur ≤ stored_stamp d i (family_of call) →
      ((h : Head) (y : Deed) → x ≡ saves h y → stamp_of (family_of call) (with_stamp (deed_head h y) (done_by y.body dur)) ≤ stored_stamp d i (family_of call)) → VolMakes (Known d) Any x
  decision_known dur drops is asked rose wrote = tt
  decision_known dur (tells_boot h) is asked rose wrote = tt
  decision_known dur (repeats reply) is asked rose wrote = tt
  decision_known dur (replies_to h reply ts last) is asked rose wrote = answer_known _ dur.boot reply is asked (λ low. le_trans low rose)
  decision_known dur (dispatches h x) is asked rose wrote = tt
  decision_known dur (saves h y) is asked rose wrote = answer_known _ dur.boot y.reply is asked (λ one. either_le _ _ _ one rose (wrote h y refl))

-- ---- its decision on any message

either_brings : (dur : Durable) (head : Head) (f : ℕ) (b : Bool) (x y : VolDecision) → Brings dur head f x → Brings dur head f y → Brings dur head f (cond b x y)
either_brings dur head f true x y h k = h
either_brings dur head f false x y h k = k

either_makes : (d : NodeCell) (b : Bool) (x y : VolDecision) → VolMakes (Known d) Any x → VolMakes (Known d) Any y → VolMakes (Known d) Any (cond b x y)
either_makes d true x y h k = h
either_makes d false x y h k = k

module _ (me : Node) (dur : Durable) (v : VolState) (head : Head) (user : List ℕ) where
  admits_brings : (call : VolCall) (a : Admitted Message) → Brings dur head (family_of call) (vol_admits dur v head (Whole (record { head = head; carried = carried.Call user (ask.Volume call) })) a)
  admits_brings call pairs.runs = either_brings dur head (family_of call) (is_vol_caller head.from) _ (refuses_vol dur v head not_served) (judged_brings dur v head call) (record { to_it = refl; well = tt })
  admits_brings call (pairs.kept reply) = tt
  admits_brings call pairs.in_progress = tt
  admits_brings call pairs.older = tt
  admits_brings call (pairs.wrong_boot boot) = tt

  -- one that is no volume server's caller is refused
  none_makes : (d : NodeCell) (x : Carried) (a : Admitted Message) → is_vol_caller head.from ≡ false → VolMakes (Known d) Any (vol_admits dur v head (Whole (record { head = head; carried = x })) a)
  none_makes d x pairs.runs isnt = rw isnt tt
  none_makes d x (pairs.kept reply) isnt = tt
  none_makes d x pairs.in_progress isnt = tt
  none_makes d x pairs.older isnt = tt
  none_makes d x (pairs.wrong_boot boot) isnt = tt

  -- and so is another call
  file_makes : (d : NodeCell) (call : FsCall) (a : Admitted Message) → VolMakes (Known d) Any (vol_admits dur v head (Whole (record { head = head; carried = carried.Call user (ask.File call) })) a)
  file_makes d call pairs.runs = either_makes d (is_vol_caller head.from) _ _ tt tt
  file_makes d call (pairs.kept reply) = tt
  file_makes d call pairs.in_progress = tt
  file_makes d call pairs.older = tt
  file_makes d call (pairs.wrong_boot boot) = tt

  place_makes : (d : NodeCell) (call : LocCall) (a : Admitted Message) → VolMakes (Known d) Any (vol_admits dur v head (Whole (record { head = head; carried = carried.Call user (ask.Location call) })) a)
  place_makes d call pairs.runs = either_makes d (is_vol_caller head.from) _ _ tt tt
  place_makes d call (pairs.kept reply) = tt
  place_makes d call pairs.in_progress = tt
  place_makes d call pairs.older = tt
  place_makes d call (pairs.wrong_boot boot) = tt

  -- who is one is no client
  no_client : (n : Node) → is_vol_caller n ≡ true → is_of_client (Some n) ≡ false
  no_client (Admin n) is = refl
  no_client (Server n) is = refl
  no_client (Client n) is = absurd cc
  no_client Loc is = refl

-- What is written by the call is behind it: the stamp that it writes is stored.
abbrev pub Wrote : NodeCell → ℕ → Node → Durable → VolState → Message → Type 0
Wrote d i me dur v m = (h : Head) (x : Deed) (f : ℕ) → is_of_client (Some m.head.from) ≡ false → vol_decides me dur v (Whole m) ≡ saves h x → stamp_of f (with_stamp (deed_head h x) (done_by x.body dur)) ≤ stored_stamp d i f

module _ (d : NodeCell) (i : ℕ) (dur : Durable) (v : VolState) (head : Head) (rose : (f : ℕ) → stamp_of f dur ≤ stored_stamp d i f) where
  call_by : (user : List ℕ) (call : VolCall) (t b : Bool) → same_node head.to (Server i) ≡ t → is_vol_caller head.from ≡ b → CallBy d head (ask.Volume call) head.from →
      Wrote d i (Server i) dur v (record { head = head; carried = carried.Call user (ask.Volume call) }) → VolMakes (Known d) Any (vol_decides (Server i) dur v (Whole (record { head = head; carried = carried.Call user (ask.Volume call) })))
  call_by user call false b to from asked wrote = rw to tt
  call_by user call true false to from asked wrote = rw to (none_makes (Server i) dur v head user d (carried.Call user (ask.Volume call)) (admitted dur.boot v.seats head) from)
  call_by user call true true to from asked wrote =
      decision_known d i head call (same_node-true head.to (Server i) to) dur _
      (either_brings dur head (family_of call) (same_node head.to (Server i)) _ drops (admits_brings (Server i) dur v head user call (admitted dur.boot v.seats head)) tt)
      asked (rose (family_of call)) (λ h x is. wrote h x (family_of call) (no_client (Server i) dur v head user head.from from) is)

  hears_by : (x : Carried) → KnownBy d head x → Wrote d i (Server i) dur v (record { head = head; carried = x }) → VolMakes (Known d) Any (vol_hears (Server i) dur v head x)
  hears_by (carried.Call user (ask.Volume call)) known wrote = call_by user call (same_node head.to (Server i)) (is_vol_caller head.from) refl refl known wrote
  hears_by (carried.Call user (ask.File call)) known wrote = either_makes d (same_node head.to (Server i)) _ drops (file_makes (Server i) dur v head user d call (admitted dur.boot v.seats head)) tt
  hears_by (carried.Call user (ask.Location call)) known wrote = either_makes d (same_node head.to (Server i)) _ drops (place_makes (Server i) dur v head user d call (admitted dur.boot v.seats head)) tt
  hears_by (carried.Refusal code) known wrote = tt
  hears_by (carried.Reply reply) known wrote = tt
  hears_by carried.Notice known wrote = tt

pub decides_known : (d : NodeCell) (i : ℕ) (dur : Durable) (v : VolState) (m : Message) → ((f : ℕ) → stamp_of f dur ≤ stored_stamp d i f) → Known d m → Wrote d i (Server i) dur v m → VolMakes (Known d) Any (vol_decides (Server i) dur v (Whole m))
decides_known d i dur v m rose known wrote = hears_by d i dur v m.head rose m.carried known wrote

-- ---- a step

-- the message of an interrupted step is known, too
abbrev pub FallKnown : NodeCell → Option Fall → Type 0
FallKnown d None = ⊤
FallKnown d (Some at_rest) = ⊤
FallKnown d (Some in_boot) = ⊤
FallKnown d (Some (in_step m clock b)) = Known d m

pub record HostKnown (d : NodeCell) (s : HostStep NodeState) : Type 0 where
  pub sends : HostSends (Known d) Any s
  pub fell : FallKnown d s.host.down

-- the stamps of the server whose step it is
pub stored_there : (c : NodeCell) (i : ℕ) (s : HostStep NodeState) (f : ℕ) → stored_stamp (server_stepped c i s).cell i f ≡ stamp_at s.host.state.file f
stored_there c i s f = at_put i i (λ (x : NodeHost). stamp_at x.state.file f ≡ stamp_at s.host.state.file f) s.host c.hosts (λ same. refl) (λ other. absurd (other refl))

module _ (c : NodeCell) (i : ℕ) where
  abbrev h : NodeHost
  h = c.hosts i

  -- it rose, or stayed, in this step
  abbrev pub RisesBy : HostStep NodeState → Type 0
  RisesBy s = (f : ℕ) → stored_stamp c i f ≤ stored_stamp (server_stepped c i s).cell i f

  module _ (place : ℕ) (m : Message) where
    row_wrote : Wrote (server_stepped c i (served_by (node_kind (Server i)) h c.clock place m None)).cell i (Server i) (durable_of h.state.file.lasting) h.state.vol m
    row_wrote head x f other is =
        let z : ShowsDeed (Server i) h.state c.clock place head x _ = deeds_are_shown (Server i) h.state c.clock place (Whole m) head x other is in
        let now : stored_stamp (server_stepped c i (served_by (node_kind (Server i)) h c.clock place m None)).cell i f ≡ stamp_of f (with_stamp (deed_head head x) (done_by x.body (durable_of h.state.file.lasting))) =
        stored_there c i (served_by (node_kind (Server i)) h c.clock place m None) f ∙ ap (λ (l : Lasting). or_zero (get f l.stamps)) z.lasting in
        grind (arith, now)

    serves_by : (o : Option Blow) → RisesBy (served_by (node_kind (Server i)) h c.clock place m o) → NodeIs (Known (server_stepped c i (served_by (node_kind (Server i)) h c.clock place m o)).cell) Any h.state → Known (server_stepped c i (served_by (node_kind (Server i)) h c.clock place m o)).cell m →
        HostKnown (server_stepped c i (served_by (node_kind (Server i)) h c.clock place m o)).cell (served_by (node_kind (Server i)) h c.clock place m o)
    serves_by None rose has known =
        let d : NodeCell = (server_stepped c i (served_by (node_kind (Server i)) h c.clock place m None)).cell in
        let z = row_sends (Known d) Any (Server i) h.state c.clock place m (makes d i h.state.file.lasting.boot) has (decides_known d i (durable_of h.state.file.lasting) h.state.vol m rose known row_wrote) in
        record { sends = record { has = z.has; sent = z.sent }; fell = tt }
    serves_by (Some b) rose has known = record { sends = record { has = has; sent = tt }; fell = known }

  -- ---- a restart

  -- what it begins with has the stamp that the record of the interrupted step wrote
  begun_wrote : (clock : ℕ) (m : Message) (b : Blow) (head : Head) (x : Deed) (f : ℕ) → is_of_client (Some m.head.from) ≡ false → vol_decides (Server i) (durable_of h.state.file.lasting) h.state.vol (Whole m) ≡ saves head x →
      stamp_at (begun_from (node_kind (Server i)) h.state true (in_step m clock b)).state.file f ≡ stamp_of f (with_stamp (deed_head head x) (done_by x.body (durable_of h.state.file.lasting)))
  begun_wrote clock m b head x f other is = rw (other, is) refl

  -- and keeps it, or a higher one, where it goes on
  ends_high : (f : Begun NodeState) (fall : Fall) (o : Outcome) (family : ℕ) → (o ≡ fails_early → ⊥) → stamp_at f.state.file family ≤ stamp_at (ends (node_kind (Server i)) h c.clock c.count f fall o).host.state.file family
  ends_high f fall comes_up family goes = let z : Follows f.state.file _ = nodes_stay_stamped.started (Server i) c.clock c.count (file_begun f) in z.rises family
  ends_high f fall fails_early family goes = absurd (goes refl)
  ends_high f fall fails_midway family goes = le_refl (stamp_at f.state.file family)
  ends_high f fall is_full family goes = le_refl (stamp_at f.state.file family)

  ends_fell : (d : NodeCell) (f : Begun NodeState) (fall : Fall) (o : Outcome) → FallKnown d (Some fall) → FallKnown d (ends (node_kind (Server i)) h c.clock c.count f fall o).host.down
  ends_fell d f fall comes_up k = tt
  ends_fell d f fall fails_early k = k
  ends_fell d f fall fails_midway k = tt
  ends_fell d f fall is_full k = tt

  -- behind the interrupted step
  module _ (m : Message) (clock : ℕ) (b : Blow) where
    abbrev f : Begun NodeState
    f = begun_from (node_kind (Server i)) h.state true (in_step m clock b)

    abbrev step : Outcome → HostStep NodeState
    step o = ends (node_kind (Server i)) h c.clock c.count f (in_step m clock b) o

    goes_wrote : (o : Outcome) → (o ≡ fails_early → ⊥) → Wrote (server_stepped c i (step o)).cell i (Server i) (durable_of h.state.file.lasting) h.state.vol m
    goes_wrote o goes head x family other is =
        let had : stamp_at f.state.file family ≡ stamp_of family (with_stamp (deed_head head x) (done_by x.body (durable_of h.state.file.lasting))) = begun_wrote clock m b head x family other is in
        let high : stamp_at f.state.file family ≤ stamp_at (step o).host.state.file family = ends_high f (in_step m clock b) o family goes in
        let there : stored_stamp (server_stepped c i (step o)).cell i family ≡ stamp_at (step o).host.state.file family = stored_there c i (step o) family in
        grind (arith, had, high, there)

    after_on : (o : Outcome) → (o ≡ fails_early → ⊥) → RisesBy (step o) → NodeIs (Known (server_stepped c i (step o)).cell) Any h.state → Known (server_stepped c i (step o)).cell m → HostSends (Known (server_stepped c i (step o)).cell) Any (step o)
    after_on o goes rose has known =
        let d : NodeCell = (server_stepped c i (step o)).cell in
        ended_is (Known d) Any (Server i) h has c.clock c.count f (in_step m clock b) o (λ boot. (makes d i boot).file)
        (begun_is (Known d) Any (Server i) h has true (in_step m clock b) (makes d i h.state.file.lasting.boot).file (decides_known d i (durable_of h.state.file.lasting) h.state.vol m rose known (goes_wrote o goes)))

    after_by : (o : Outcome) → RisesBy (step o) → NodeIs (Known (server_stepped c i (step o)).cell) Any h.state → Known (server_stepped c i (step o)).cell m → HostSends (Known (server_stepped c i (step o)).cell) Any (step o)
    after_by comes_up rose has known = after_on comes_up (λ e. absurd cc) rose has known
    after_by fails_early rose has known = record { has = has; sent = tt }
    after_by fails_midway rose has known = after_on fails_midway (λ e. absurd cc) rose has known
    after_by is_full rose has known = after_on is_full (λ e. absurd cc) rose has known

  -- as it was before
  before_by : (fall : Fall) (o : Outcome) → NodeIs (Known (server_stepped c i (ends (node_kind (Server i)) h c.clock c.count (begun_before h.state) fall o)).cell) Any h.state →
      HostSends (Known (server_stepped c i (ends (node_kind (Server i)) h c.clock c.count (begun_before h.state) fall o)).cell) Any (ends (node_kind (Server i)) h c.clock c.count (begun_before h.state) fall o)
  before_by fall o has =
      let d : NodeCell = (server_stepped c i (ends (node_kind (Server i)) h c.clock c.count (begun_before h.state) fall o)).cell in
      ended_is (Known d) Any (Server i) h has c.clock c.count (begun_before h.state) fall o (λ boot. (makes d i boot).file) has

  begun_restarts : (after : Bool) (fall : Fall) (o : Outcome) → RisesBy (ends (node_kind (Server i)) h c.clock c.count (begun_from (node_kind (Server i)) h.state after fall) fall o) →
      NodeIs (Known (server_stepped c i (ends (node_kind (Server i)) h c.clock c.count (begun_from (node_kind (Server i)) h.state after fall) fall o)).cell) Any h.state →
      FallKnown (server_stepped c i (ends (node_kind (Server i)) h c.clock c.count (begun_from (node_kind (Server i)) h.state after fall) fall o)).cell (Some fall) →
      HostSends (Known (server_stepped c i (ends (node_kind (Server i)) h c.clock c.count (begun_from (node_kind (Server i)) h.state after fall) fall o)).cell) Any (ends (node_kind (Server i)) h c.clock c.count (begun_from (node_kind (Server i)) h.state after fall) fall o)
  begun_restarts after at_rest o rose has known = before_by at_rest o has
  begun_restarts false (in_step m clock b) o rose has known = before_by (in_step m clock b) o has
  begun_restarts true (in_step m clock b) o rose has known = after_by m clock b o rose has known
  begun_restarts false in_boot o rose has known = before_by in_boot o has
  begun_restarts true in_boot o rose has known =
      let d : NodeCell = (server_stepped c i (ends (node_kind (Server i)) h c.clock c.count (begun_from (node_kind (Server i)) h.state true in_boot) in_boot o)).cell in
      ended_is (Known d) Any (Server i) h has c.clock c.count (begun_from (node_kind (Server i)) h.state true in_boot) in_boot o (λ boot. (makes d i boot).file)
      (begun_is (Known d) Any (Server i) h has true in_boot (makes d i h.state.file.lasting.boot).file tt)

  pub restarts_known : (after : Bool) (o : Outcome) (fall : Fall) → RisesBy (restarted (node_kind (Server i)) h c.clock c.count after o fall) → NodeIs (Known (server_stepped c i (restarted (node_kind (Server i)) h c.clock c.count after o fall)).cell) Any h.state →
      FallKnown (server_stepped c i (restarted (node_kind (Server i)) h c.clock c.count after o fall)).cell (Some fall) → HostKnown (server_stepped c i (restarted (node_kind (Server i)) h c.clock c.count after o fall)).cell (restarted (node_kind (Server i)) h c.clock c.count after o fall)
  restarts_known after o fall rose has known =
      let f : Begun NodeState = begun_from (node_kind (Server i)) h.state after fall in
      let o' : Outcome = without_boot_record (can_start f.state.file) o in
      record { sends = begun_restarts after fall o' rose has known; fell = ends_fell (server_stepped c i (restarted (node_kind (Server i)) h c.clock c.count after o fall)).cell f fall o' known }

  pub serves_known : (place : ℕ) (luck : Luck) (m : Message) → RisesBy (served (node_kind (Server i)) h c.clock place luck m) → NodeIs (Known (server_stepped c i (served (node_kind (Server i)) h c.clock place luck m)).cell) Any h.state →
      Known (server_stepped c i (served (node_kind (Server i)) h c.clock place luck m)).cell m → HostKnown (server_stepped c i (served (node_kind (Server i)) h c.clock place luck m)).cell (served (node_kind (Server i)) h c.clock place luck m)
  serves_known place luck m rose has known = serves_by place m (struck h.armed luck (node_device_calls (Server i) h.state c.clock (Whole m))) rose has known
