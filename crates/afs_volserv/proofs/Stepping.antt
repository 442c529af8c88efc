-- A step that leaves what is on the disk as it is, is the row's.
use Rattle.std.proofs.Common.{◌≡◌, ◌≤◌, ◌<◌, ◌+◌, ℕ, Bool, true, false, cond, List, [], ◌∷◌, ◌++◌, length, filter, not, nat_eq, nat_lt, Option, Some, None, refl, sym, ap, subst, ◌∙◌, arith, eqb-true}
use Rattle.std.specs.Prelude.{◌&&◌, ◌==◌}
use Rattle.spec_model.specs.Messages.{messages_spelled, parcels_read}
use Rattle.afs_sendings.specs.Pieces.{AreTo}
use Rattle.afs_num.specs.declared.messages.Message.{Message}
use Rattle.spec_history.specs.declared.lines.Line.{Line}
use Rattle.spec_history.specs.declared.lines.Outs.{Outs}
use Rattle.spec_breaks.specs.Promises.{expired}
use Rattle.spec_breaks.specs.declared.types.Promise.{Promise}
use Rattle.spec_ideal.specs.Tables.{get, set, Table}
use Rattle.spec_rows.specs.Callbacks as row
use Rattle.spec_rows.specs.Callbacks.{pumped}
use Rattle.spec_rows.specs.States.{Backs, Held}
use Rattle.spec_rows.specs.ServerRow.{seat_for}
use Rattle.spec_model.specs.Calls.{call_seated}
use Rattle.afs_num.specs.declared.types.Head.{Head}
use Rattle.afs_callees.specs.Called.{call_to}
use Rattle.afs_server_parts.specs.Turning.{sent_turns}
use Rattle.afs_server_parts.specs.declared.ending.Ended.{Ended}
use Rattle.afs_callbacks.specs.States.{backs_at, CallbackState}
use Rattle.afs_callbacks.proofs.Drawing.{pumped_draws}
use Rattle.afs_callbacks.proofs.Lasting.{lasting_promised}
use Rattle.afs_callbacks.proofs.Withdrawn.{filter_few}
use Rattle.afs_volstore.specs.Stores.{Store}
use Rattle.spec_volrows.specs.VolLaws.{AreApart}
use Rattle.spec_volrows.specs.VolRow.{gave, holds_of, transactions_after, After}
use Rattle.spec_volrows.specs.VolRow as row_after
use Rattle.spec_volrows.specs.VolStates.{Transaction, VolState}
use Rattle.spec_volrows.specs.VolSteps.{held_vol, replies_to, vol_repeats, vol_turn, VolTurn}
use Rattle.afs_volserv.specs.Handling.{backs_then, DrawsFew, IsStep}
use Rattle.afs_volserv.specs.Seen.{vol_seen, AreAskedByForward, CanRelease, ServesVolumes, StandsBeside, VolMemory}
use Rattle.afs_volanswers.specs.Flagged.{AreAlone, AreFlagged}
use Rattle.afs_volserv.specs.Sending.{again_then, rests_then, sent_then, waits_again, waits_then, IsSent}
use Rattle.afs_sharing.specs.Lasting.{lasting_of}

-- what is left of promises and breaks
abbrev pub kept_after : ℕ → CallbackState → Ended → CallbackState
kept_after now k e = record { lists = expired now k.lists; callees = e.callees.items; held = e.held }

-- what a step did of which these messages go out, with these lines
abbrev pub turn_of : {D : Type 0} → VolState → CallbackState → Store D → ℕ → ℕ → List Line → List Message → VolTurn
turn_of {D} v k s now last ls ms = record { lasting = lasting_of s.durable; vol = v; backs = record (backs_then k s now) { last_call = last }; lines = ls; sent = ms }

module _ {D : Type 0} (k l : CallbackState) (s u : Store D) (now last : ℕ) (ms : List Message) (e : Ended) (plan : IsSent now last ms k s e) (kept : l ≡ kept_after now k e) (store : u ≡ record s { drawn = e.last; holds = u.holds }) where
  turn : row.CallbackStep
  turn = sent_turns ms (record (backs_then k s now) { last_call = last })

  drawn : u.drawn ≡ e.last
  drawn = ap (λ (x : Store D). x.drawn) store

  beside : StandsBeside k s → StandsBeside l u
  beside h = subst (λ (x : CallbackState). StandsBeside x u) (sym kept) (subst (λ (x : Store D). StandsBeside (kept_after now k e) x) (sym store) (record {
    nodes = record { node = h.nodes.node; owed = plan.owed; calls = plan.calls };
    promises = lasting_promised now k.lists.promises h.promises;
  }))

  few_drawn : last ≤ s.drawn + 1 → DrawsFew k l s u
  few_drawn most =
      let is : e.last ≡ (pumped s.node s.durable.boot (sent_turns ms (record (backs_then k s now) { last_call = last }))).backs.last_call = ap (λ (b : Backs). b.last_call) plan.ends.backs in
      let few = pumped_draws s.node s.durable.boot (sent_turns ms (record (backs_then k s now) { last_call = last })) plan.owed in
      let less = filter_few (λ (p : Promise). nat_lt now p.expiry) k.lists.promises in
      record {
        calls = omega (arith, drawn, is, few, most);
        breaks = subst (λ (x : CallbackState). x.lists.last_owed + length x.lists.promises ≤ k.lists.last_owed + length k.lists.promises) (sym kept) (omega (arith, less));
      }

  pub stepped : (old new : VolMemory) (ls : List Line) (outs : Outs) → StandsBeside k s → last ≤ s.drawn + 1 → outs ≡ record e.outs { lines = ls } → ServesVolumes new u → new.boot ≡ old.boot → (length old.held < old.room → CanRelease new) →
      IsStep (turn_of (vol_seen new) k s now last ls ms) old new k l s u outs
  stepped old new ls outs stands most given serves boot release = record {
    makes = record {
      vol = refl;
      lasting = ap (λ (x : Store D). lasting_of x.durable) store;
      backs = (λ i. backs_at (kept i) (drawn i)) ∙ plan.ends.backs;
      lines = ap (λ (o : Outs). o.lines) given;
      sent = subst (λ (o : Outs). parcels_read o.parcels ≡ messages_spelled (pumped s.node s.durable.boot (sent_turns ms (record (backs_then k s now) { last_call = last }))).sent) (sym given) plan.ends.sent;
    };
    order = record { serves = serves; beside = beside stands; boot = boot; release = release };
    draws = few_drawn most;
    store = store ∙ (λ i. record s { drawn = sym drawn i; holds = u.holds });
  }

-- ---- what a server and its store keep together

module _ {D : Type 0} (old new : VolMemory) (s u : Store D) (n : ℕ) (store : u ≡ record s { drawn = n; holds = u.holds }) (h : ServesVolumes old s) where
  pub serves_as : new.boot ≡ old.boot → AreTo (call_to new.callees) → AreAskedByForward (call_to new.callees) → AreApart s.durable.volumes new.last new.transactions → AreFlagged new.transactions → u.holds.table ≡ holds_of new.transactions → ServesVolumes new u
  serves_as boot to asked apart flagged holds = subst (λ (x : Store D). ServesVolumes new x) (sym store) (record {
    node = h.node;
    boot = boot ∙ h.boot;
    kept = h.kept;
    calls = to;
    asked = asked;
    apart = apart;
    flagged = flagged;
    holds = holds;
  })

-- with the same memory
pub serves_on : {D : Type 0} (m : VolMemory) (s u : Store D) (n : ℕ) → u ≡ record s { drawn = n } → ServesVolumes m s → ServesVolumes m u
serves_on {D} m s u n store h = subst (λ (x : Store D). ServesVolumes m x) (sym store) (record { node = h.node; boot = h.boot; kept = h.kept; calls = h.calls; asked = h.asked; apart = h.apart; flagged = h.flagged; holds = h.holds })

pub with_holds : {D : Type 0} (s u : Store D) (n : ℕ) → u ≡ record s { drawn = n } → u ≡ record s { drawn = n; holds = u.holds }
with_holds {D} s u n store = store ∙ (λ i. record s { drawn = n; holds = ap (λ (x : Store D). x.holds) (sym store) i })

pub can_still : (m : VolMemory) → length m.held < m.room → CanRelease m
can_still m more = omega (arith, more)

-- ---- a kept reply is asked again

pub again_none : {D : Type 0} (m : VolMemory) (k : CallbackState) (s : Store D) (clock : ℕ) (reply : Message) (ws : List ℕ) → (length ws == 0) ≡ true → sent_then m k s clock (reply ∷ []) ≡ again_then m k s clock reply ws
again_none {D} m k s clock reply [] e = refl
again_none {D} m k s clock reply (w ∷ ws) e = let is = eqb-true (length (w ∷ ws)) 0 e in absurd (omega (arith, is))

pub again_some : {D : Type 0} (m : VolMemory) (k : CallbackState) (s : Store D) (clock : ℕ) (reply : Message) (ws : List ℕ) → (length ws == 0) ≡ false → waits_then m k s clock reply ws ≡ again_then m k s clock reply ws
again_some {D} m k s clock reply [] e = absurd cc
again_some {D} m k s clock reply (w ∷ ws) e = refl

abbrev given_or_rests : {D : Type 0} → VolMemory → CallbackState → Store D → ℕ → Message → Option (List ℕ) → VolTurn
given_or_rests {D} m k s clock reply None = rests_then m k s clock
given_or_rests {D} m k s clock reply (Some ws) = again_then m k s clock reply ws

repeats_held : {D : Type 0} (b : Bool) (m : VolMemory) (k : CallbackState) (s : Store D) (clock : ℕ) (reply : Message) →
    given_or_rests m k s clock reply (cond b (Some []) None) ≡ cond b (again_then m k s clock reply []) (rests_then m k s clock)
repeats_held {D} true m k s clock reply = refl
repeats_held {D} false m k s clock reply = refl

repeats_in : {D : Type 0} (m : VolMemory) (k : CallbackState) (s : Store D) (clock : ℕ) (reply : Message) (o : Option Held) (good : Bool) →
    given_or_rests m k s clock reply (waits_again (backs_then k s clock).lists.owed o good) ≡ vol_repeats (lasting_of s.durable) (vol_seen m) (backs_then k s clock) reply o good
repeats_in {D} m k s clock reply (Some h) good = repeats_held (h.again && row.is_ready (backs_then k s clock).lists.owed h) m k s clock reply
repeats_in {D} m k s clock reply None true = refl
repeats_in {D} m k s clock reply None false = refl

pub repeats_none : {D : Type 0} (m : VolMemory) (k : CallbackState) (s : Store D) (clock : ℕ) (reply : Message) (o : Option Held) (good : Bool) → None ≡ waits_again (backs_then k s clock).lists.owed o good →
    rests_then m k s clock ≡ vol_repeats (lasting_of s.durable) (vol_seen m) (backs_then k s clock) reply o good
repeats_none {D} m k s clock reply o good e = ap (given_or_rests m k s clock reply) e ∙ repeats_in m k s clock reply o good

pub repeats_some : {D : Type 0} (m : VolMemory) (k : CallbackState) (s : Store D) (clock : ℕ) (reply : Message) (o : Option Held) (good : Bool) (ws : List ℕ) → Some ws ≡ waits_again (backs_then k s clock).lists.owed o good →
    again_then m k s clock reply ws ≡ vol_repeats (lasting_of s.durable) (vol_seen m) (backs_then k s clock) reply o good
repeats_some {D} m k s clock reply o good ws e = ap (given_or_rests m k s clock reply) e ∙ repeats_in m k s clock reply o good

-- ---- transactions

set_few_by : (a b : Bool) (n : ℕ) (x : Transaction) (p : ℕ × Transaction) (ps rest : Table Transaction) → length rest ≤ length ps + 1 → length (cond a ((n, x) ∷ ps) (cond b ((n, x) ∷ p ∷ ps) (p ∷ rest))) ≤ length (p ∷ ps) + 1
set_few_by true b n x p ps rest few = omega arith
set_few_by false true n x p ps rest few = omega arith
set_few_by false false n x p ps rest few = omega (arith, few)

set_few : (n : ℕ) (x : Transaction) (ts : Table Transaction) → length (set n x ts) ≤ length ts + 1
set_few n x [] = omega arith
set_few n x (p ∷ ps) = set_few_by (nat_eq p.0 n) (nat_lt n p.0) n x p ps (set n x ps) (set_few n x ps)

rest_few_by : (b : Bool) (p : ℕ × Transaction) (ps rest : Table Transaction) → length rest ≤ length ps → length (cond b (p ∷ rest) rest) ≤ length (p ∷ ps)
rest_few_by true p ps rest few = omega (arith, few)
rest_few_by false p ps rest few = omega (arith, few)

rest_few : (q : ℕ × Transaction → Bool) (ts : Table Transaction) → length (filter q ts) ≤ length ts
rest_few q [] = omega arith
rest_few q (p ∷ ps) = rest_few_by (q p) p ps (filter q ps) (rest_few q ps)

gave_few : (n : ℕ) (bytes : List ℕ) (o : Option Transaction) (ts : Table Transaction) → length (gave n bytes o ts) ≤ length ts + 1
gave_few n bytes None ts = omega arith
gave_few n bytes (Some t) ts = set_few n (record t { given = bytes }) ts

-- at most one begins
pub few_after : (last : ℕ) (after : After) (ts : Table Transaction) → length (transactions_after last after ts) ≤ length ts + 1
few_after last row_after.stay ts = omega arith
few_after last (row_after.begins id family flags stamp) ts = set_few (last + 1) (record { volume = id; family = family; flags = flags; stamp = stamp; given = [] }) ts
few_after last (row_after.ends number) ts = let few = rest_few (λ (p : ℕ × Transaction). not (nat_eq p.0 number)) ts in omega (arith, few)
few_after last (row_after.gives number bytes) ts = gave_few number bytes (get number ts) ts

pub alone_of : {D : Type 0} (m : VolMemory) (s : Store D) → ServesVolumes m s → AreAlone m.transactions
alone_of {D} m s h = record { ascend = h.apart.ascend; alone = h.apart.alone }

-- ---- a step of which messages go out, and nothing else happens

pub plain : (outs : Outs) (e : Ended) → outs ≡ e.outs → e.outs.lines ≡ [] → outs ≡ record e.outs { lines = [] }
plain outs e given none = given ∙ (λ i. record e.outs { lines = none i })

pub sent_step : {D : Type 0} (m : VolMemory) (k l : CallbackState) (s u : Store D) (now last : ℕ) (ms : List Message) (e : Ended) (outs : Outs) → last ≡ s.drawn → IsSent now last ms k s e → l ≡ kept_after now k e → u ≡ record s { drawn = e.last } → outs ≡ e.outs →
    StandsBeside k s → ServesVolumes m s → IsStep (sent_then m k s now ms) m m k l s u outs
sent_step {D} m k l s u now last ms e outs first plan kept store given stands serves =
    let sent = subst (λ (n : ℕ). IsSent now n ms k s e) first plan in
    stepped k l s u now s.drawn ms e sent kept (with_holds s u e.last store) m m [] outs stands (omega arith) (plain outs e given sent.lines) (serves_on m s u e.last store serves) refl (can_still m)

pub draws_on : {D : Type 0} (k : CallbackState) (s : Store D) (now last : ℕ) (ms : List Message) (e : Ended) → last ≡ s.drawn → IsSent now last ms k s e → s.drawn ≤ e.last
draws_on {D} k s now last ms e first plan = subst (λ (n : ℕ). n ≤ e.last) first plan.drawn

-- where one more reply waits
pub waits_step : {D : Type 0} (m new : VolMemory) (k l : CallbackState) (s u : Store D) (now last : ℕ) (ms : List Message) (e : Ended) (outs : Outs) (reply : Message) (ws : List ℕ) → last ≡ s.drawn → IsSent now last ms k s e → ms ≡ [] → l ≡ kept_after now k e →
    u ≡ record s { drawn = e.last } → outs ≡ e.outs → new ≡ record m { held = m.held ++ held_vol reply ws true ∷ []; room = new.room } → CanRelease new → StandsBeside k s → ServesVolumes m s → IsStep (waits_then m k s now reply ws) m new k l s u outs
waits_step {D} m new k l s u now last ms e outs reply ws first plan none kept store given is release stands serves =
    let sent = subst (λ (n : ℕ). IsSent now n ms k s e) first plan in
    let moved = serves_on m s u e.last store serves in
    let there : ServesVolumes new u = subst (λ (x : VolMemory). ServesVolumes x u) (sym is) (record { node = moved.node; boot = moved.boot; kept = moved.kept; calls = moved.calls; asked = moved.asked; apart = moved.apart; flagged = moved.flagged; holds = moved.holds }) in
    let made = stepped k l s u now s.drawn ms e sent kept (with_holds s u e.last store) m new [] outs stands (omega arith) (plain outs e given sent.lines) there (ap (λ (x : VolMemory). x.boot) is) (λ more. release) in
    subst (λ (t : VolTurn). IsStep t m new k l s u outs) (λ i. turn_of (vol_seen (is i)) k s now s.drawn [] (none i)) made

-- ---- a call runs, and is answered

pub answer_step : {D : Type 0} (m new : VolMemory) (k l : CallbackState) (s t u : Store D) (now : ℕ) (e : Ended) (outs : Outs) (head : Head) (reply : Message) (ts : Table Transaction) (last : ℕ) → IsSent now s.drawn (reply ∷ []) k s e → l ≡ kept_after now k e →
    t ≡ record s { holds = t.holds } → t.holds.table ≡ holds_of ts → u ≡ record t { drawn = e.last } → outs ≡ e.outs → new ≡ record m { seats = call_seated (seat_for head reply) m.seats; transactions = ts; last = last } →
    AreApart s.durable.volumes last ts → AreFlagged ts → StandsBeside k s → ServesVolumes m s →
    IsStep (vol_turn s.node (lasting_of s.durable) (vol_seen m) (backs_then k s now) (replies_to head reply ts last)) m new k l s u outs
answer_step {D} m new k l s t u now e outs head reply ts last plan kept rest held store given is apart flagged stands serves =
    let holds : u.holds ≡ t.holds = ap (λ (x : Store D). x.holds) store in
    let moved : u ≡ record s { drawn = e.last; holds = u.holds } = store ∙ (λ i. record (rest i) { drawn = e.last; holds = sym holds i }) in
    let there = serves_as m (record m { seats = call_seated (seat_for head reply) m.seats; transactions = ts; last = last }) s u e.last moved serves refl serves.calls serves.asked apart flagged (ap (λ (x : Store D). x.holds.table) store ∙ held) in
    let made = stepped k l s u now s.drawn (reply ∷ []) e plan kept moved m new [] outs stands (omega arith) (plain outs e given plan.lines) (subst (λ (x : VolMemory). ServesVolumes x u) (sym is) there) (ap (λ (x : VolMemory). x.boot) is)
    (λ more. subst CanRelease (sym is) (can_still m more)) in
    subst (λ (x : VolTurn). IsStep x m new k l s u outs) (λ i. turn_of (vol_seen (is i)) k s now s.drawn [] (reply ∷ [])) made
