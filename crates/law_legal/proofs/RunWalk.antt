-- A walk over the runs of a cell, however many servers it has: a fact that every kind of step keeps holds after every entry.
use Rattle.law_legal.specs.Once.{past_of}
use Rattle.spec_history.specs.declared.acts.Act.{Act}
use Rattle.spec_history.specs.declared.lines.Line.TheVariants as lines
use Rattle.afs_num.specs.declared.messages.Message.{Message}
use Rattle.afs_num.specs.declared.messages.Received.TheVariants.{Whole}
use Rattle.afs_num.specs.declared.types.Node.{Node}
use Rattle.afs_num.specs.declared.types.Node.TheVariants.{Admin, Client, Loc, Server}
use Rattle.spec_history.specs.declared.lines.Line.{Line}
use Rattle.spec_rows.specs.ClientRow.{begin_row, client_row, timeout_row, act_by, act_of, is_sought, seek_timeout_row, sought_by, sought_or}
use Rattle.law_legal.proofs.BaseLaws.{some_of}
use Rattle.spec_rows.specs.Going.{ClientState, Going, Seek}
use Rattle.law_legal.proofs.RunSteps.{loc_becomes, blow_line, calls_at, server_falls, server_moves, server_rises, server_set, server_stays, falls_is, sets_is, stays_is}
use Rattle.spec_rows.specs.Hosts as hosts
use Rattle.spec_rows.specs.Hosts.{begun_from, crashed, ends, served, sets}
use Rattle.spec_rows.specs.LocRow.{loc_can_start, loc_revived}
use Rattle.spec_rows.specs.LocSteps.{loc_kind, loc_start_row, LocHost}
use Rattle.spec_rows.specs.ServerHosts.{can_start}
use Rattle.spec_rows.specs.Runs.{loc_stepped, loc_restarted, loc_up, unarmed, Armed, Blow, Cell, Entry, Fall, Input, Leads, Luck, Moved, Outcome, at_rest, back_timed, begins, begun_by, begun_by_disk, client_falls, client_moves, client_rises, client_starts, client_stops, comes_up, fails_early, fails_midway, given_at, given_to, gives, has_host, in_boot, in_step, is_away, is_full, message_at, moved, nothing, server_armed, server_ends, server_given, server_restarted, server_served, server_stopped, server_timed, server_waits, server_wakes, sets_fail, sets_stop, without_boot_record, starts_again, stops, struck, ticked, ticks, voided, waited_by, waits, wakes, sought_for, start}
use Rattle.spec_rows.specs.LocSteps.{LocHost}
use Rattle.law_legal.proofs.RunSteps.{loc_becomes}
use Rattle.spec_history.specs.declared.lines.Line.{Line}
use Rattle.spec_history.specs.declared.scripts.Script.{Script}
use Rattle.law_legal.proofs.DatabaseKeeps.{IsAskedOf, IsLocStep, cut_loc, line_loc, served_loc, started_loc, stays_loc, fail_line, IsSetLine, set_loc, stop_line, loc_midway, loc_early, loc_full, loc_falls}
use Rattle.law_legal.proofs.DatabaseDoes.{IsSoundLoc}
use Rattle.spec_rows.specs.LocRow.{loc_can_start}
use Rattle.spec_rows.specs.ServerSteps.{back_timeout_row, server_row, wake_row}
use Rattle.spec_rows.specs.States.{BackCall}
use Rattle.std.proofs.Common.{◌+◌, zero, suc, ◌≡◌, ℕ, Bool, true, false, cond, List, [], ◌∷◌, Option, Some, None, refl, sym, subst, ◌∙◌}

-- ---- every kind of step

-- what a client is given is no answer for which its act waits at the location database
abbrev pub IsUnsought : ℕ → ClientState → Message → Type 0
IsUnsought n c m = (k : Seek) → c.seeking ≡ Some k → is_sought (Client n) c k m.head m.carried ≡ false

-- where Q holds before a step, M holds of it
pub record EachMove (Q : Cell → List Entry → Type 0) (M : Cell → List Entry → Moved → Type 0) : Type 0 where
  pub void : (c : Cell) (past : List Entry) → Q c past → M c past (voided c)
  pub ticked : (c : Cell) (past : List Entry) (n : ℕ) → Q c past → M c past (ticked c (suc n))
  -- of a client: an act begins, a message is given, a call is timed out, it stops, it begins again
  pub begun : (c : Cell) (past : List Entry) (n : ℕ) (act : Act) → Q c past → (c.clients n).running ≡ None → (c.clients n).seeking ≡ None → M c past (client_moves c n (begin_row (Client n) (c.clients n) c.clock act))
  pub told : (c : Cell) (past : List Entry) (n place : ℕ) (m : Message) → Q c past → message_at c.sent place ≡ Some m → m.head.to ≡ Client n → IsUnsought n (c.clients n) m → M c past (client_moves c n (client_row (Client n) (c.clients n) c.clock place (Whole m)))
  -- an act that waits for the location database: its answer comes, or its call is timed out
  pub sought : (c : Cell) (past : List Entry) (n place : ℕ) (m : Message) (k : Seek) → Q c past → message_at c.sent place ≡ Some m → m.head.to ≡ Client n → (c.clients n).seeking ≡ Some k → is_sought (Client n) (c.clients n) k m.head m.carried ≡ true → M c past (client_moves c n (sought_by (Client n) (c.clients n) c.clock place k m.head m.carried))
  pub missed : (c : Cell) (past : List Entry) (n : ℕ) (k : Seek) → Q c past → (c.clients n).running ≡ None → (c.clients n).seeking ≡ Some k → M c past (client_moves c n (seek_timeout_row (Client n) (c.clients n) k))
  pub waited : (c : Cell) (past : List Entry) (n : ℕ) (act : Going) → Q c past → (c.clients n).running ≡ Some act → M c past (client_moves c n (timeout_row (Client n) (c.clients n) act))
  pub fallen : (c : Cell) (past : List Entry) (n : ℕ) → Q c past → M c past (client_falls c n)
  pub risen : (c : Cell) (past : List Entry) (n : ℕ) → Q c past → M c past (client_rises c n)
  -- of the location database, whatever it does
  pub loc : (c : Cell) (past : List Entry) (l : LocHost) (ls : List Line) (ms : List Message) → Q c past → IsLocStep c l ls ms → M c past (loc_becomes c l ls ms)
  -- of a server that is up: it serves a message or is cut short in that, it stops, its disk is set, a call of its own is timed out, time passes
  pub served : (c : Cell) (past : List Entry) (i place : ℕ) (m : Message) (armed : Armed) → Q c past → (c.hosts i).down ≡ None → message_at c.sent place ≡ Some m → m.head.to ≡ Server i → M c past (server_moves c i armed (server_row (Server i) (c.hosts i).state c.clock place (Whole m)))
  pub cut : (c : Cell) (past : List Entry) (i place : ℕ) (m : Message) (t : Blow) → Q c past → (c.hosts i).down ≡ None → message_at c.sent place ≡ Some m → m.head.to ≡ Server i → M c past (server_falls c i (lines.Given place ∷ blow_line i t.stops ∷ []) (in_step m c.clock t))
  pub stopped : (c : Cell) (past : List Entry) (i : ℕ) → Q c past → (c.hosts i).down ≡ None → M c past (server_falls c i (lines.Crash (Server i) ∷ []) at_rest)
  pub stop_set : (c : Cell) (past : List Entry) (i calls pick : ℕ) (armed : Armed) → Q c past → (c.hosts i).down ≡ None → M c past (server_set c i (lines.Stop (Server i) calls pick) armed)
  pub fail_set : (c : Cell) (past : List Entry) (i call : ℕ) (armed : Armed) → Q c past → (c.hosts i).down ≡ None → M c past (server_set c i (lines.Fail (Server i) call) armed)
  pub timed : (c : Cell) (past : List Entry) (i : ℕ) (n : Node) (b : BackCall) (armed : Armed) → Q c past → (c.hosts i).down ≡ None → (c.hosts i).state.backs.calls n ≡ Some b → M c past (server_moves c i armed (back_timeout_row (Server i) (c.hosts i).state c.clock n b))
  pub woken : (c : Cell) (past : List Entry) (i : ℕ) (armed : Armed) → Q c past → (c.hosts i).down ≡ None → M c past (server_moves c i armed (wake_row (Server i) (c.hosts i).state c.clock))
  -- of one that is down: it comes up, its disk fails before or while its boot record is written, or that doesn't fit
  pub started : (c : Cell) (past : List Entry) (i : ℕ) (after : Bool) (fall : Fall) → Q c past → (c.hosts i).down ≡ Some fall → M c past (server_rises c i (begun_by_disk (Server i) (c.hosts i).state after fall))
  pub early : (c : Cell) (past : List Entry) (i : ℕ) (fall : Fall) → Q c past → (c.hosts i).down ≡ Some fall → M c past (server_falls c i (lines.Fault (Server i) ∷ []) fall)
  pub midway : (c : Cell) (past : List Entry) (i : ℕ) (after : Bool) (fall : Fall) → Q c past → (c.hosts i).down ≡ Some fall → M c past (server_stays c i (begun_by_disk (Server i) (c.hosts i).state after fall) (lines.Fault (Server i)) in_boot)
  pub full : (c : Cell) (past : List Entry) (i : ℕ) (after : Bool) (fall : Fall) → Q c past → (c.hosts i).down ≡ Some fall → M c past (server_stays c i (begun_by_disk (Server i) (c.hosts i).state after fall) (lines.Full (Server i)) at_rest)

-- ---- every input

either : (Q : Cell → List Entry → Type 0) (M : Cell → List Entry → Moved → Type 0) (c : Cell) (past : List Entry) (t : Bool) (m k : Moved) → M c past m → M c past k → M c past (cond t m k)
either Q M c past true m k a b = a
either Q M c past false m k a b = b

served_by : (Q : Cell → List Entry → Type 0) (M : Cell → List Entry → Moved → Type 0) (E : EachMove Q M) (c : Cell) (past : List Entry) (i place : ℕ) (m : Message) (b : Option Blow) → Q c past → (c.hosts i).down ≡ None → message_at c.sent place ≡ Some m → m.head.to ≡ Server i → M c past (server_served c i place m b)
served_by Q M E c past i place m None h up at to = E.served c past i place m _ h up at to
served_by Q M E c past i place m (Some b) h up at to = falls_is (M c past) c i (lines.Given place ∷ blow_line i b.stops ∷ []) (in_step m c.clock b) (E.cut c past i place m b h up at to)

received_by : (Q : Cell → List Entry → Type 0) (M : Cell → List Entry → Moved → Type 0) (E : EachMove Q M) (c : Cell) (past : List Entry) (i place : ℕ) (luck : Luck) (m : Message) (d : Option Fall) → Q c past → (c.hosts i).down ≡ d → message_at c.sent place ≡ Some m → m.head.to ≡ Server i → M c past (server_given c i place luck m d)
received_by Q M E c past i place luck m None h up at to = served_by Q M E c past i place m (struck (c.hosts i).armed luck (calls_at c i m)) h up at to
received_by Q M E c past i place luck m (Some fall) h up at to = E.void c past h

-- ---- the location database, whatever is asked of what it does

abbrev LocMoves : (Moved → Type 0) → Cell → Type 0
LocMoves R c = (l : LocHost) (ls : List Line) (ms : List Message) → IsLocStep c l ls ms → R (loc_becomes c l ls ms)

loc_served_to : (R : Moved → Type 0) (c : Cell) (place : ℕ) (m : Message) (b : Option Blow) → LocMoves R c → c.loc.down ≡ None → IsSoundLoc c.loc.state → message_at c.sent place ≡ Some m → m.head.to ≡ Loc → R (loc_stepped c (hosts.served_by loc_kind c.loc c.clock place m b))
loc_served_to R c place m None w up s at to = w _ _ _ (served_loc c place m _ up s at to)
loc_served_to R c place m (Some b) w up s at to = w _ _ _ (cut_loc c place m b _ up s at to)

pub loc_received_to : (R : Moved → Type 0) (c : Cell) (place : ℕ) (luck : Luck) (m : Message) (d : Option Fall) → c.loc.down ≡ d → R (voided c) → LocMoves R c → IsSoundLoc c.loc.state → message_at c.sent place ≡ Some m → m.head.to ≡ Loc → R (loc_up c (served loc_kind c.loc c.clock place luck m) d)
loc_received_to R c place luck m None is v w s at to = loc_served_to R c place m (struck c.loc.armed luck (loc_kind.device_calls c.loc.state c.clock (Whole m))) w is s at to
loc_received_to R c place luck m (Some fall) is v w s at to = v

pub loc_stopped_to : (R : Moved → Type 0) (c : Cell) (d : Option Fall) → c.loc.down ≡ d → R (voided c) → LocMoves R c → IsSoundLoc c.loc.state → R (loc_up c (crashed loc_kind c.loc) d)
loc_stopped_to R c None is v w s = w _ _ _ (line_loc c (lines.Crash Loc) (Some at_rest) unarmed refl tt (loc_falls at_rest is refl refl (λ e. absurd cc) tt refl tt refl) (λ S l. tt) s)
loc_stopped_to R c (Some fall) is v w s = v

loc_ends_to : (R : Moved → Type 0) (c : Cell) (after : Bool) (fall : Fall) (out : Outcome) → c.loc.down ≡ Some fall → LocMoves R c → IsSoundLoc c.loc.state → R (loc_stepped c (ends loc_kind c.loc c.clock c.count (begun_from loc_kind c.loc.state after fall) fall out))
loc_ends_to R c after fall comes_up is w s = w _ _ _ (started_loc c after fall unarmed is s)
loc_ends_to R c after fall fails_early is w s = w _ _ _ (line_loc c (lines.Fault Loc) (Some fall) unarmed refl tt (loc_early fall is refl refl refl refl) (λ S l. subst IsAskedOf is l.cut) s)
loc_ends_to R c after fall fails_midway is w s = w _ _ _ (stays_loc c after fall in_boot (lines.Fault Loc) unarmed is refl tt (loc_midway after fall is refl refl refl refl) tt s)
loc_ends_to R c after fall is_full is w s = w _ _ _ (stays_loc c after fall at_rest (lines.Full Loc) unarmed is refl tt (loc_full after fall is refl refl refl refl) tt s)

pub loc_restarted_to : (R : Moved → Type 0) (c : Cell) (after : Bool) (out : Outcome) (d : Option Fall) → c.loc.down ≡ d → R (voided c) → LocMoves R c → IsSoundLoc c.loc.state → R (loc_restarted c after out d)
loc_restarted_to R c after out None is v w s = v
loc_restarted_to R c after out (Some fall) is v w s = loc_ends_to R c after fall (without_boot_record (loc_can_start (begun_from loc_kind c.loc.state after fall).state) out) is w s

pub loc_armed_to : (R : Moved → Type 0) (c : Cell) (l : Line) (armed : Armed) (d : Option Fall) → c.loc.down ≡ d → IsSetLine l → R (voided c) → LocMoves R c → IsSoundLoc c.loc.state → R (loc_up c (sets c.loc l armed) d)
loc_armed_to R c l armed None is k v w s = w _ _ _ (set_loc c l armed is k s)
loc_armed_to R c l armed (Some fall) is k v w s = v

-- what a client is given, whatever it waits for
sought_if : (Q : Cell → List Entry → Type 0) (M : Cell → List Entry → Moved → Type 0) (E : EachMove Q M) (c : Cell) (past : List Entry) (n place : ℕ) (m : Message) (k : Seek) (t : Bool) → is_sought (Client n) (c.clients n) k m.head m.carried ≡ t → Q c past → message_at c.sent place ≡ Some m → m.head.to ≡ Client n → (c.clients n).seeking ≡ Some k
    → M c past (client_moves c n (cond t (sought_by (Client n) (c.clients n) c.clock place k m.head m.carried) (client_row (Client n) (c.clients n) c.clock place (Whole m))))
sought_if Q M E c past n place m k true e h at to s = E.sought c past n place m k h at to s e
sought_if Q M E c past n place m k false e h at to s = E.told c past n place m h at to (λ l z. subst (λ (x : Seek). is_sought (Client n) (c.clients n) x m.head m.carried ≡ false) (some_of k l (sym s ∙ z)) e)

guest_by : (Q : Cell → List Entry → Type 0) (M : Cell → List Entry → Moved → Type 0) (E : EachMove Q M) (c : Cell) (past : List Entry) (n place : ℕ) (m : Message) (o : Option Seek) → Q c past → message_at c.sent place ≡ Some m → m.head.to ≡ Client n → (c.clients n).seeking ≡ o → M c past (client_moves c n (sought_or (Client n) (c.clients n) c.clock place m o))
guest_by Q M E c past n place m None h at to s = E.told c past n place m h at to (λ k z. (let no_ : None ≡ Some k = sym s ∙ z in absurd cc))
guest_by Q M E c past n place m (Some k) h at to s = sought_if Q M E c past n place m k (is_sought (Client n) (c.clients n) k m.head m.carried) refl h at to s

to_by : (Q : Cell → List Entry → Type 0) (M : Cell → List Entry → Moved → Type 0) (E : EachMove Q M) (c : Cell) (past : List Entry) (place : ℕ) (luck : Luck) (m : Message) (to : Node) → IsSoundLoc c.loc.state → Q c past → message_at c.sent place ≡ Some m → m.head.to ≡ to → M c past (given_to c place luck m to)
to_by Q M E c past place luck m (Server i) s h at to = either Q M c past (has_host c i) _ _ (received_by Q M E c past i place luck m (c.hosts i).down h refl at to) (E.void c past h)
to_by Q M E c past place luck m (Client n) s h at to = either Q M c past (is_away c n) _ _ (E.void c past h) (guest_by Q M E c past n place m (c.clients n).seeking h at to refl)
to_by Q M E c past place luck m Loc s h at to = loc_received_to (M c past) c place luck m c.loc.down refl (E.void c past h) (λ l ls ms st. E.loc c past l ls ms h st) s at to
to_by Q M E c past place luck m (Admin n) s h at to = E.void c past h

at_by : (Q : Cell → List Entry → Type 0) (M : Cell → List Entry → Moved → Type 0) (E : EachMove Q M) (c : Cell) (past : List Entry) (place : ℕ) (luck : Luck) (m : Option Message) → IsSoundLoc c.loc.state → Q c past → message_at c.sent place ≡ m → M c past (given_at c place luck m)
at_by Q M E c past place luck None s h at = E.void c past h
at_by Q M E c past place luck (Some m) s h at = to_by Q M E c past place luck m m.head.to s h at refl

pub idle_by : (r : Option Going) (k : Option Seek) → act_by r k ≡ None → (r ≡ None) × (k ≡ None)
idle_by None None e = (refl, refl)
idle_by None (Some k) e = absurd cc
idle_by (Some a) k e = absurd cc

begun_by' : (Q : Cell → List Entry → Type 0) (M : Cell → List Entry → Moved → Type 0) (E : EachMove Q M) (c : Cell) (past : List Entry) (n : ℕ) (act : Act) (g : Option Going) → Q c past → act_of (c.clients n) ≡ g → M c past (begun_by c n act g)
begun_by' Q M E c past n act None h e = let q = idle_by (c.clients n).running (c.clients n).seeking e in E.begun c past n act h q.0 q.1
begun_by' Q M E c past n act (Some g) h e = E.void c past h

missed_by : (Q : Cell → List Entry → Type 0) (M : Cell → List Entry → Moved → Type 0) (E : EachMove Q M) (c : Cell) (past : List Entry) (n : ℕ) (o : Option Seek) → Q c past → (c.clients n).running ≡ None → (c.clients n).seeking ≡ o → M c past (sought_for c n o)
missed_by Q M E c past n None h r e = E.void c past h
missed_by Q M E c past n (Some k) h r e = E.missed c past n k h r e

waited_by' : (Q : Cell → List Entry → Type 0) (M : Cell → List Entry → Moved → Type 0) (E : EachMove Q M) (c : Cell) (past : List Entry) (n : ℕ) (g : Option Going) → Q c past → (c.clients n).running ≡ g → M c past (waited_by c n g)
waited_by' Q M E c past n None h e = missed_by Q M E c past n (c.clients n).seeking h e refl
waited_by' Q M E c past n (Some act) h e = E.waited c past n act h e

stopped_by : (Q : Cell → List Entry → Type 0) (M : Cell → List Entry → Moved → Type 0) (E : EachMove Q M) (c : Cell) (past : List Entry) (i : ℕ) (d : Option Fall) → Q c past → (c.hosts i).down ≡ d → M c past (server_stopped c i d)
stopped_by Q M E c past i None h e = falls_is (M c past) c i (lines.Crash (Server i) ∷ []) at_rest (E.stopped c past i h e)
stopped_by Q M E c past i (Some fall) h e = E.void c past h

ends_by : (Q : Cell → List Entry → Type 0) (M : Cell → List Entry → Moved → Type 0) (E : EachMove Q M) (c : Cell) (past : List Entry) (i : ℕ) (after : Bool) (fall : Fall) (out : Outcome) → Q c past → (c.hosts i).down ≡ Some fall → M c past (server_ends c i (begun_by_disk (Server i) (c.hosts i).state after fall) fall out)
ends_by Q M E c past i after fall comes_up h e = E.started c past i after fall h e
ends_by Q M E c past i after fall fails_early h e = falls_is (M c past) c i (lines.Fault (Server i) ∷ []) fall (E.early c past i fall h e)
ends_by Q M E c past i after fall fails_midway h e = stays_is (M c past) c i (begun_by_disk (Server i) (c.hosts i).state after fall) (lines.Fault (Server i)) in_boot (E.midway c past i after fall h e)
ends_by Q M E c past i after fall is_full h e = stays_is (M c past) c i (begun_by_disk (Server i) (c.hosts i).state after fall) (lines.Full (Server i)) at_rest (E.full c past i after fall h e)

restarted_by : (Q : Cell → List Entry → Type 0) (M : Cell → List Entry → Moved → Type 0) (E : EachMove Q M) (c : Cell) (past : List Entry) (i : ℕ) (after : Bool) (out : Outcome) (d : Option Fall) → Q c past → (c.hosts i).down ≡ d → M c past (server_restarted c i after out d)
restarted_by Q M E c past i after out None h e = E.void c past h
restarted_by Q M E c past i after out (Some fall) h e = ends_by Q M E c past i after fall (without_boot_record (can_start (begun_by_disk (Server i) (c.hosts i).state after fall).state) out) h e

stop_by : (Q : Cell → List Entry → Type 0) (M : Cell → List Entry → Moved → Type 0) (E : EachMove Q M) (c : Cell) (past : List Entry) (i calls pick : ℕ) (armed : Armed) (d : Option Fall) → Q c past → (c.hosts i).down ≡ d → M c past (server_armed c i (sets (c.hosts i) (lines.Stop (Server i) calls pick) armed) d)
stop_by Q M E c past i calls pick armed None h e = sets_is (M c past) c i (lines.Stop (Server i) calls pick) armed (E.stop_set c past i calls pick armed h e)
stop_by Q M E c past i calls pick armed (Some fall) h e = E.void c past h

fail_by : (Q : Cell → List Entry → Type 0) (M : Cell → List Entry → Moved → Type 0) (E : EachMove Q M) (c : Cell) (past : List Entry) (i call : ℕ) (armed : Armed) (d : Option Fall) → Q c past → (c.hosts i).down ≡ d → M c past (server_armed c i (sets (c.hosts i) (lines.Fail (Server i) call) armed) d)
fail_by Q M E c past i call armed None h e = sets_is (M c past) c i (lines.Fail (Server i) call) armed (E.fail_set c past i call armed h e)
fail_by Q M E c past i call armed (Some fall) h e = E.void c past h

back_by : (Q : Cell → List Entry → Type 0) (M : Cell → List Entry → Moved → Type 0) (E : EachMove Q M) (c : Cell) (past : List Entry) (i : ℕ) (n : Node) (b : Option BackCall) → Q c past → (c.hosts i).down ≡ None → (c.hosts i).state.backs.calls n ≡ b → M c past (back_timed c i n b)
back_by Q M E c past i n None h up at = E.void c past h
back_by Q M E c past i n (Some b) h up at = E.timed c past i n b _ h up at

timed_by : (Q : Cell → List Entry → Type 0) (M : Cell → List Entry → Moved → Type 0) (E : EachMove Q M) (c : Cell) (past : List Entry) (i : ℕ) (n : Node) (d : Option Fall) → Q c past → (c.hosts i).down ≡ d → M c past (server_timed c i n d)
timed_by Q M E c past i n None h up = back_by Q M E c past i n ((c.hosts i).state.backs.calls n) h up refl
timed_by Q M E c past i n (Some fall) h up = E.void c past h

woken_by : (Q : Cell → List Entry → Type 0) (M : Cell → List Entry → Moved → Type 0) (E : EachMove Q M) (c : Cell) (past : List Entry) (i : ℕ) (d : Option Fall) → Q c past → (c.hosts i).down ≡ d → M c past (server_wakes c i d)
woken_by Q M E c past i None h up = E.woken c past i _ h up
woken_by Q M E c past i (Some fall) h up = E.void c past h

pub each_moved : (Q : Cell → List Entry → Type 0) (M : Cell → List Entry → Moved → Type 0) (E : EachMove Q M) (c : Cell) (past : List Entry) (x : Input) → IsSoundLoc c.loc.state → Q c past → M c past (moved c x)
unfolding moved
each_moved Q M E c past (begins n act) s h = either Q M c past (is_away c n) _ _ (E.void c past h) (begun_by' Q M E c past n act (act_of (c.clients n)) h refl)
each_moved Q M E c past (gives place luck) s h = at_by Q M E c past place luck (message_at c.sent place) s h refl
each_moved Q M E c past (waits n) s h = either Q M c past (is_away c n) _ _ (E.void c past h) (waited_by' Q M E c past n (c.clients n).running h refl)
each_moved Q M E c past (ticks zero) s h = E.void c past h
each_moved Q M E c past (ticks (suc n)) s h = E.ticked c past n h
each_moved Q M E c past (client_stops n) s h = either Q M c past (is_away c n) _ _ (E.void c past h) (E.fallen c past n h)
each_moved Q M E c past (client_starts n) s h = either Q M c past (c.away n) _ _ (E.risen c past n h) (E.void c past h)
each_moved Q M E c past (stops zero) s h = loc_stopped_to (M c past) c c.loc.down refl (E.void c past h) (λ l ls ms st. E.loc c past l ls ms h st) s
each_moved Q M E c past (stops (suc i)) s h = either Q M c past (has_host c (suc i)) _ _ (stopped_by Q M E c past (suc i) (c.hosts (suc i)).down h refl) (E.void c past h)
each_moved Q M E c past (starts_again zero after out) s h = loc_restarted_to (M c past) c after out c.loc.down refl (E.void c past h) (λ l ls ms st. E.loc c past l ls ms h st) s
each_moved Q M E c past (starts_again (suc i) after out) s h = either Q M c past (has_host c (suc i)) _ _ (restarted_by Q M E c past (suc i) after out (c.hosts (suc i)).down h refl) (E.void c past h)
each_moved Q M E c past (sets_stop zero calls pick) s h = loc_armed_to (M c past) c (lines.Stop Loc calls pick) _ c.loc.down refl (stop_line calls pick) (E.void c past h) (λ l ls ms st. E.loc c past l ls ms h st) s
each_moved Q M E c past (sets_stop (suc i) calls pick) s h = either Q M c past (has_host c (suc i)) _ _ (stop_by Q M E c past (suc i) calls pick _ (c.hosts (suc i)).down h refl) (E.void c past h)
each_moved Q M E c past (sets_fail zero call) s h = loc_armed_to (M c past) c (lines.Fail Loc call) _ c.loc.down refl (fail_line call) (E.void c past h) (λ l ls ms st. E.loc c past l ls ms h st) s
each_moved Q M E c past (sets_fail (suc i) call) s h = either Q M c past (has_host c (suc i)) _ _ (fail_by Q M E c past (suc i) call _ (c.hosts (suc i)).down h refl) (E.void c past h)
each_moved Q M E c past (server_waits i n) s h = either Q M c past (has_host c i) _ _ (timed_by Q M E c past i n (c.hosts i).down h refl) (E.void c past h)
each_moved Q M E c past (wakes i) s h = either Q M c past (has_host c i) _ _ (woken_by Q M E c past i (c.hosts i).down h refl) (E.void c past h)
each_moved Q M E c past nothing s h = E.void c past h

-- ---- a run

-- it holds behind the step
abbrev pub Behind : (Cell → List Entry → Type 0) → Cell → List Entry → Moved → Type 0
Behind P c past m = P m.cell (m.entry ∷ past)

-- every step keeps it
abbrev pub IsKept : (Cell → List Entry → Type 0) → Type 0
IsKept P = (c : Cell) (past : List Entry) (x : Input) → IsSoundLoc c.loc.state → P c past → Behind P c past (moved c x)

sound_moves : EachMove (λ c past. IsSoundLoc c.loc.state) (Behind (λ c past. IsSoundLoc c.loc.state))
sound_moves = record {
  void = λ c past h. h;
  ticked = λ c past n h. h;
  begun = λ c past n act h r z. h;
  told = λ c past n place m h at to un. h;
  sought = λ c past n place m k h at to z e. h;
  missed = λ c past n k h r z. h;
  waited = λ c past n act h r. h;
  fallen = λ c past n h. h;
  risen = λ c past n h. h;
  loc = λ c past l ls ms h st. st.sound;
  served = λ c past i place m armed h up at to. h;
  cut = λ c past i place m t h up at to. h;
  stopped = λ c past i h up. h;
  stop_set = λ c past i calls pick armed h up. h;
  fail_set = λ c past i call armed h up. h;
  timed = λ c past i n b armed h up at. h;
  woken = λ c past i armed h up. h;
  started = λ c past i after fall h down. h;
  early = λ c past i fall h down. h;
  midway = λ c past i after fall h down. h;
  full = λ c past i after fall h down. h;
}

-- what the location database keeps of its callers is its own replies
pub sound_moved : (c : Cell) (past : List Entry) (x : Input) → IsSoundLoc c.loc.state → IsSoundLoc (moved c x).cell.loc.state
sound_moved c past x s = each_moved (λ c past. IsSoundLoc c.loc.state) (Behind (λ c past. IsSoundLoc c.loc.state)) sound_moves c past x s s

pub run_keeps_from : (P : Cell → List Entry → Type 0) → IsKept P → (xs : List Input) (c : Cell) (past es : List Entry) (end : Cell) → IsSoundLoc c.loc.state → P c past → Leads c xs es end → P end (past_of past es)
run_keeps_from P w [] c past [] end s h r = subst (λ (x : Cell). P x past) (sym r) h
run_keeps_from P w [] c past (e ∷ es) end s h r = absurd r
run_keeps_from P w (x ∷ xs) c past [] end s h r = absurd r
run_keeps_from P w (x ∷ xs) c past (e ∷ es) end s h r =
    subst (λ (y : Entry). P end (past_of (y ∷ past) es)) (sym r.0) (run_keeps_from P w xs (moved c x).cell ((moved c x).entry ∷ past) es end (sound_moved c past x s) (w c past x s h) r.1)

pub first_sound : (s : Script) → IsSoundLoc (start s).loc.state
first_sound s = record { seats = λ n seat m e. absurd cc; kept = λ n seat m e. absurd cc }

pub run_keeps : (P : Cell → List Entry → Type 0) → IsKept P → (xs : List Input) (s : Script) (past es : List Entry) (end : Cell) → P (start s) past → Leads (start s) xs es end → P end (past_of past es)
run_keeps P w xs s past es end h r = run_keeps_from P w xs (start s) past es end (first_sound s) h r
