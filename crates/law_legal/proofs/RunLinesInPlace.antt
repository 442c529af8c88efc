-- Each line of a run stands where it may, however many servers a cell has.
use Rattle.spec_breaks.specs.declared.types.OwedBreak.{OwedBreak}
use Rattle.spec_history.specs.declared.lines.Line.{Line}
use Rattle.spec_history.specs.declared.lines.Line.TheVariants as lines
use Rattle.spec_history.specs.declared.scripts.Script.{Script}
use Rattle.spec_ideal.specs.Operations.{Found}
use Rattle.law_legal.proofs.ActSteps.{begins_acts, falls_acts, given_acts, rises_acts, waits_acts, missed_acts}
use Rattle.law_legal.proofs.OwedPasses.{all_lines}
use Rattle.law_legal.proofs.BaseLaws.{both, same_node-true}
use Rattle.law_legal.proofs.VolumeChanges.{run_each}
use Rattle.law_legal.proofs.ServerChooses.{risen_lines, one_from}
use Rattle.law_legal.proofs.CallKeysOnce.{IsKnown, any_told, by_key}
use Rattle.law_legal.proofs.RunWalk.{Behind, EachMove, IsKept, each_moved}
use Rattle.law_legal.proofs.ActCallsInRuns.{KnownAsked, asked_first, asked_kept, sought_acts_in}
use Rattle.law_legal.proofs.ActCalls.{handed_same}
use Rattle.law_legal.proofs.PromiseLists.{owes_all, risen_is}
use Rattle.law_legal.specs.Breaks.{HasOwe}
use Rattle.law_legal.specs.Ideal.{set_up_entry}
use Rattle.law_legal.specs.Legal.{GoodRestart, IsInPlace, IsOfDisk, IsOfServer, IsUnderChange}
use Rattle.law_legal.specs.Parts.{EachLine, LinesAreInPlace}
use Rattle.law_legal.specs.Past.{has_begun, has_given}
use Rattle.spec_model.specs.Calls.{call_seat, key_of}
use Rattle.afs_num.specs.Nodes.{same_node}
use Rattle.afs_num.specs.declared.histories.Actor.TheVariants as actors
use Rattle.afs_num.specs.declared.histories.Version.{Version}
use Rattle.afs_num.specs.declared.messages.Carried.{Carried}
use Rattle.afs_num.specs.declared.messages.Carried.TheVariants as carried
use Rattle.afs_num.specs.declared.messages.Message.{Message}
use Rattle.afs_num.specs.declared.messages.Received.TheVariants.{Whole}
use Rattle.afs_num.specs.declared.types.Fid.{Fid}
use Rattle.afs_num.specs.declared.types.Head.{Head}
use Rattle.afs_num.specs.declared.types.Node.{Node}
use Rattle.afs_num.specs.declared.types.Node.TheVariants.{Client, Server}
use Rattle.spec_rows.specs.Callbacks.{CallbackStep, expired, held_under, is_back_awaited, is_ready, is_seat_of, key_answered, new_owes, owe_line, quit_line, renews_by, repeats_by, risen_turn, settle_line, settles_by, still_owed, turn_for, turned_by, turned_in}
use Rattle.law_legal.proofs.RunSteps.{blow_line}
use Rattle.spec_rows.specs.Runs.{Cell, Entry, Fall, Moved, at_rest, begun_by_disk, in_boot, in_step, start}
use Rattle.spec_rows.specs.ServerRow.{Decision, begun_after, decides, does, drops, granted, granted_in, versions_made, promise_ticks, refuses, repeats, saves, shows, tells_boot, versioned}
use Rattle.spec_rows.specs.ServerSteps.{back_timeout_row, server_row, start_row, wake_row}
use Rattle.spec_rows.specs.States.{BackCall, Backs, Held, ServerState}
use Rattle.std.proofs.Common.{zero, suc, ◌≡◌, ℕ, ◌+◌, ◌≤◌, ◌<◌, ◌⊎◌, inl, inr, arith, Bool, true, false, cond, List, [], ◌∷◌, map, length, Option, Some, None, refl, sym, ap, subst, ◌∙◌}
use Rattle.std.proofs.Math.Nat.{eq-or-lt_of_le}
use Rattle.std.specs.Prelude.{◌&&◌, nat_lt}
use Rattle.law_legal.proofs.VolumesAreIdeal.{own_from}

-- ---- lines of a server that may stand anywhere in its entry

abbrev is_calm : Node → Line → Bool
is_calm me (lines.Grant n c f index expiry) = same_node n me
is_calm me (lines.Crash n) = same_node n me
is_calm me (lines.Fault n) = same_node n me
is_calm me (lines.Full n) = same_node n me
is_calm me (lines.Owe n c what k) = same_node n me
is_calm me (lines.Settle n c k) = same_node n me
is_calm me (lines.Quit n c k) = same_node n me
is_calm me l = false

abbrev AreCalm : Node → List Line → Type 0
AreCalm me ls = all_lines (is_calm me) ls ≡ true

abbrev InPlace : Script → ℕ → List Entry → List Line → List Line → Type 0
InPlace S i past own ls = EachLine (IsInPlace S) (actors.Node (Server i)) past own ls

of_disk : (i : ℕ) (n : Node) → same_node n (Server i) ≡ true → IsOfDisk (actors.Node (Server i)) n
of_disk i n e = subst (IsOfDisk (actors.Node (Server i))) (sym (same_node-true n (Server i) e)) refl

of_server : (i : ℕ) (n : Node) → same_node n (Server i) ≡ true → IsOfServer (actors.Node (Server i)) n
of_server i n e = subst (IsOfServer (actors.Node (Server i))) (sym (same_node-true n (Server i) e)) refl

calm_line : (S : Script) (i : ℕ) (l : Line) (past : List Entry) (own next : List Line) → is_calm (Server i) l ≡ true → IsInPlace S (actors.Node (Server i)) l past own next
calm_line S i (lines.Grant n c f index expiry) past own next h = of_server i n h
calm_line S i (lines.Crash n) past own next h = ap actors.Node (sym (same_node-true n (Server i) h))
calm_line S i (lines.Fault n) past own next h = of_disk i n h
calm_line S i (lines.Full n) past own next h = of_disk i n h
calm_line S i (lines.Owe n c what k) past own next h = of_server i n h
calm_line S i (lines.Settle n c k) past own next h = of_server i n h
calm_line S i (lines.Quit n c k) past own next h = of_server i n h
calm_line S i l past own next h = absurd cc

calm_each : (S : Script) (i : ℕ) (past : List Entry) (own ls : List Line) → AreCalm (Server i) ls → InPlace S i past own ls
calm_each S i past own [] h = tt
calm_each S i past own (l ∷ ls) h = let q = both (is_calm (Server i) l) (all_lines (is_calm (Server i)) ls) h in (calm_line S i l past own ls q.0, calm_each S i past (l ∷ own) ls q.1)

-- no message is given by them, and nothing begins
calm_given : (me : Node) (l : Line) (ls : List Line) → is_calm me l ≡ true → has_given (l ∷ ls) ≡ has_given ls
calm_given me (lines.Given place) ls h = absurd cc
calm_given me l ls h = refl

calm_begun : (me n : Node) (l : Line) (ls : List Line) → is_calm me l ≡ true → has_begun n (l ∷ ls) ≡ has_begun n ls
calm_begun me n (lines.Begin m act) ls h = absurd cc
calm_begun me n l ls h = refl

calm_tail : (me n : Node) (ls : List Line) → AreCalm me ls → (has_given ls ≡ false) × (has_begun n ls ≡ false)
calm_tail me n [] h = (refl, refl)
calm_tail me n (l ∷ ls) h = let q = both (is_calm me l) (all_lines (is_calm me) ls) h in let r = calm_tail me n ls q.1 in (calm_given me l ls q.0 ∙ r.0, calm_begun me n l ls q.0 ∙ r.1)

owes_calm : (me : Node) (os : List OwedBreak) → AreCalm me (map (owe_line me) os)
owes_calm me [] = refl
owes_calm me (o ∷ os) = one_from me _ (owes_calm me os)

settles_calm : (me n : Node) (os : List OwedBreak) → AreCalm me (map (settle_line me n) os)
settles_calm me n [] = refl
settles_calm me n (o ∷ os) = one_from me _ (settles_calm me n os)

quits_calm : (me n : Node) (os : List OwedBreak) → AreCalm me (map (quit_line me n) os)
quits_calm me n [] = refl
quits_calm me n (o ∷ os) = one_from me _ (quits_calm me n os)

granted_calm : (me client : Node) (expiry : ℕ) (fs : List Found) (ls : List Line) → AreCalm me ls → AreCalm me (granted me client expiry fs ls)
granted_calm me client expiry [] ls h = h
granted_calm me client expiry (f ∷ fs) ls h = one_from me _ (granted_calm me client expiry fs ls h)

either_calm : (t : Bool) (me : Node) (a b : CallbackStep) → AreCalm me a.lines → AreCalm me b.lines → AreCalm me (cond t a b).lines
either_calm true me a b h k = h
either_calm false me a b h k = k

repeats_calm : (me : Node) (b : Backs) (reply : Message) (o : Option Held) (good : Bool) → AreCalm me (repeats_by b reply o good).lines
repeats_calm me b reply (Some w) good = either_calm (w.again && is_ready b.lists.owed w) me _ _ refl refl
repeats_calm me b reply None true = refl
repeats_calm me b reply None false = refl

for_calm : (me : Node) (x : ServerState) (clock : ℕ) (b : Backs) (d : Decision) → AreCalm me (turn_for me x clock b d).lines
for_calm me x clock b drops = refl
for_calm me x clock b (tells_boot head) = refl
for_calm me x clock b (repeats reply) = repeats_calm me b reply (held_under (key_answered reply) b.held) (is_seat_of reply (call_seat reply.head.to x.lasting.kept))
for_calm me x clock b (refuses head code) = refl
for_calm me x clock b (shows head r) = refl
for_calm me x clock b (saves head c) = owes_calm me (new_owes head.from (versions_made c) b.lists)

settled_calm : (me : Node) (boot : ℕ) (head : Head) (b : Backs) (o : Option BackCall) → AreCalm me (settles_by me boot head b o).lines
settled_calm me boot head b None = refl
settled_calm me boot head b (Some c) = either_calm (is_back_awaited boot c head) me _ _ (settles_calm me head.from (still_owed c b)) refl

renewed_calm : (me : Node) (boot : ℕ) (head : Head) (b : Backs) (o : Option BackCall) → AreCalm me (renews_by me boot head b o).lines
renewed_calm me boot head b None = refl
renewed_calm me boot head b (Some c) = either_calm (is_back_awaited boot c head) me _ _ refl refl

carried_calm : (me : Node) (x : ServerState) (clock : ℕ) (b : Backs) (d : Decision) (head : Head) (c : Carried) → AreCalm me (turned_by me x clock b d head c).lines
carried_calm me x clock b d head (carried.Call user call) = for_calm me x clock b d
carried_calm me x clock b d head (carried.Refusal code) = either_calm (same_node head.to me) me _ _ (settled_calm me x.lasting.boot head b (b.calls head.from)) refl
carried_calm me x clock b d head (carried.Reply reply) = either_calm (same_node head.to me) me _ _ (settled_calm me x.lasting.boot head b (b.calls head.from)) refl
carried_calm me x clock b d head carried.Notice = either_calm (same_node head.to me) me _ _ (renewed_calm me x.lasting.boot head b (b.calls head.from)) refl

-- ---- the steps of a server

under_each : (S : Script) (i : ℕ) (past : List Entry) (own : List Line) (vs : List Version) (ls : List Line) → IsUnderChange own → ((o : List Line) → InPlace S i past o ls) → InPlace S i past own (versioned vs ls)
under_each S i past own [] ls u h = h own
under_each S i past own (v ∷ vs) ls u h = (u, under_each S i past (lines.Version v ∷ own) vs ls u h)

does_each : (S : Script) (i : ℕ) (past : List Entry) (x : ServerState) (clock place : ℕ) (d : Decision) (ls : List Line) → AreCalm (Server i) ls → InPlace S i past [] (does (Server i) x clock place d ls).lines
does_each S i past x clock place drops ls h = (refl, calm_each S i past _ ls h)
does_each S i past x clock place (tells_boot head) ls h = (refl, calm_each S i past _ ls h)
does_each S i past x clock place (repeats reply) ls h = (refl, calm_each S i past _ ls h)
does_each S i past x clock place (refuses head code) ls h = (refl, calm_each S i past _ ls h)
does_each S i past x clock place (shows head r) ls h = (refl, calm_each S i past _ _ (granted_calm (Server i) head.from (clock + promise_ticks) r.granted ls h))
does_each S i past x clock place (saves head c) ls h = (refl, (refl, under_each S i past (lines.Change (Server i) (key_of head) (length (versions_made c)) ∷ lines.Given place ∷ []) (versions_made c) _ tt (λ o. calm_each S i past o _ (granted_calm (Server i) head.from (clock + promise_ticks) (granted_in c) ls h))))

pub serves_each : (S : Script) (i : ℕ) (past : List Entry) (x : ServerState) (clock place : ℕ) (m : Message) → InPlace S i past [] (server_row (Server i) x clock place (Whole m)).lines
unfolding server_row
serves_each S i past x clock place m =
    let d : Decision = decides (Server i) x clock (Whole m) in
    does_each S i past x clock place d (turned_in (Server i) x clock (expired clock x.backs) d (Whole m)).lines (carried_calm (Server i) x clock (expired clock x.backs) d m.head m.carried)

timed_by : (S : Script) (i : ℕ) (past : List Entry) (t : Bool) (a b : CallbackStep) → InPlace S i past [] a.lines → InPlace S i past [] b.lines → InPlace S i past [] (cond t a b).lines
timed_by S i past true a b h k = h
timed_by S i past false a b h k = k

times_each : (S : Script) (i : ℕ) (past : List Entry) (x : ServerState) (clock : ℕ) (n : Node) (c : BackCall) → InPlace S i past [] (back_timeout_row (Server i) x clock n c).lines
unfolding back_timeout_row
times_each S i past x clock n c =
    let calm : AreCalm (Server i) (map (quit_line (Server i) n) (still_owed c (expired clock x.backs))) = quits_calm (Server i) n (still_owed c (expired clock x.backs)) in
    timed_by S i past (nat_lt c.tries 2) _ _ ((refl, ((refl, refl), (refl, refl))), tt) ((refl, ((refl, refl), calm_tail (Server i) (Server i) _ calm)), calm_each S i past _ _ calm)

wakes_each : (S : Script) (i : ℕ) (past : List Entry) (x : ServerState) (clock : ℕ) → InPlace S i past [] (wake_row (Server i) x clock).lines
unfolding wake_row
wakes_each S i past x clock = tt

-- what stands first in a restart: nothing, or the change that was found, with its versions
after_each : (S : Script) (i : ℕ) (past : List Entry) (x : ServerState) (clock : ℕ) (d : Decision) (ls : List Line) → ((own : List Line) → InPlace S i past own ls) → InPlace S i past [] ((begun_after (Server i) x clock d).before ls)
after_each S i past x clock (saves head c) ls h = (refl, under_each S i past (lines.Change (Server i) (key_of head) (length (versions_made c)) ∷ []) (versions_made c) ls tt h)
after_each S i past x clock d ls h = h []

disk_each : (S : Script) (i : ℕ) (past : List Entry) (x : ServerState) (after : Bool) (fall : Fall) (ls : List Line) → ((own : List Line) → InPlace S i past own ls) → InPlace S i past [] ((begun_by_disk (Server i) x after fall).before ls)
disk_each S i past x after at_rest ls h = h []
disk_each S i past x false (in_step m clock hit) ls h = h []
disk_each S i past x true (in_step m clock hit) ls h = after_each S i past x clock (decides (Server i) x clock (Whole m)) ls h
disk_each S i past x false in_boot ls h = h []
disk_each S i past x true in_boot ls h = h []

-- every client is owed a break on all
owed_by : (me : Node) (k j : ℕ) (X : Type 0) → (k + 1 ≡ j) ⊎ (k + 1 < j) → (k + 1 < j → X) → ((me ≡ me) × ((Client (k + 1) ≡ Client j) × (◌≡◌ {A = Option Fid} None None))) ⊎ X
owed_by me k j X (inl e) w = inl (refl, (ap Client e, refl))
owed_by me k j X (inr l) w = inr (w l)

all_owed : (me : Node) (expiry k m j : ℕ) → k + 1 ≤ j → j ≤ k + m → HasOwe me (Client j) None (map (owe_line me) (owes_all expiry k m))
all_owed me expiry k zero j a b = let x : k + 1 ≤ j = a in let y : j ≤ k + zero = b in absurd (omega arith)
all_owed me expiry k (suc m) j a b = owed_by me k j _ (eq-or-lt_of_le a) (λ l. let x : k + 1 < j = l in let y : j ≤ k + suc m = b in all_owed me expiry (k + 1) m j (omega arith) (omega arith))

rises_all : (S : Script) (i clock count : ℕ) → count ≡ S.clients → GoodRestart S (Server i) (risen_turn (Server i) clock count).lines
rises_all S i clock count same j a b =
    subst (λ (t : CallbackStep). HasOwe (Server i) (Client j) None t.lines) (sym (risen_is (Server i) clock count))
    (all_owed (Server i) (clock + promise_ticks) 0 count j (let x : 1 ≤ j = a in omega arith) (let y : j ≤ S.clients = b in let z : count ≡ S.clients = same in omega arith))

starts_each : (S : Script) (i : ℕ) (past : List Entry) (x : ServerState) (clock count : ℕ) (after : Bool) (fall : Fall) → count ≡ S.clients → InPlace S i past [] (start_row (Server i) clock count (begun_by_disk (Server i) x after fall)).lines
unfolding start_row
starts_each S i past x clock count after fall same =
    disk_each S i past x after fall (risen_lines (Server i) clock count (begun_by_disk (Server i) x after fall)) (λ own. ((refl, rises_all S i clock count same), calm_each S i past _ (risen_turn (Server i) clock count).lines (owes_calm (Server i) (risen_turn (Server i) clock count).backs.lists.owed)))

-- ---- every step. The cell has as many clients as the script

abbrev pub Counts : Script → Cell → List Entry → Type 0
Counts s c past = c.count ≡ s.clients

counts_moves : (s : Script) → EachMove (Counts s) (Behind (Counts s))
counts_moves s = record {
  void = λ c past h. h;
  ticked = λ c past n h. h;
  begun = λ c past n act h r z. h;
  told = λ c past n place m h at to un. h;
  sought = λ c past n place m k h at to z e. h;
  missed = λ c past n k h r z. h;
  waited = λ c past n act h r. h;
  fallen = λ c past n h. h;
  risen = λ c past n h. h;
  loc = λ c past l ls ms h st. h;
  served = λ c past i place m armed h up at to. h;
  cut = λ c past i place m t h up at to. h;
  stopped = λ c past i h up. h;
  stop_set = λ c past i calls pick armed h up. h;
  fail_set = λ c past i call armed h up. h;
  timed = λ c past i n b armed h up at. h;
  woken = λ c past i armed h up. h;
  started = λ c past i after fall h down. h;
  early = λ c past i fall h down. h;
  midway = λ c past i after fall h down. h;
  full = λ c past i after fall h down. h;
}

abbrev pub Placed : Script → Cell → List Entry → Type 0
Placed s c past = KnownAsked s c past × Counts s c past

pub placed_kept : (s : Script) → IsKept (Placed s)
placed_kept s c past x so h = (asked_kept s c past x so h.0, each_moved (Counts s) (Behind (Counts s)) (counts_moves s) c past x so h.1)

abbrev pub PlacedStep : Script → Cell → List Entry → Moved → Type 0
PlacedStep s c past m = EachLine (IsInPlace s) m.entry.actor past [] m.entry.lines

stays_each : (s : Script) (c : Cell) (past : List Entry) (i : ℕ) (after : Bool) (fall : Fall) (l : Line) → is_calm (Server i) l ≡ true → InPlace s i past [] ((begun_by_disk (Server i) (c.hosts i).state after fall).before (l ∷ []))
stays_each s c past i after fall l h = disk_each s i past (c.hosts i).state after fall (l ∷ []) (λ own. calm_each s i past own (l ∷ []) (rw h refl))

blow_each : (s : Script) (i place : ℕ) (past : List Entry) (t : Bool) → InPlace s i past [] (lines.Given place ∷ blow_line i t ∷ [])
blow_each s i place past true = (refl, (refl, tt))
blow_each s i place past false = (refl, (refl, tt))

pub placed_moves : (s : Script) → EachMove (Placed s) (PlacedStep s)
placed_moves s = record {
  void = λ c past h. (refl, tt);
  ticked = λ c past n h. ((refl, (omega arith, (refl, refl))), tt);
  begun = λ c past n act h r z. (begins_acts n (c.clients n) c.clock act r z).each s past (h.0.1.table n) (h.0.1.acts n);
  told = λ c past n place m h at to un. (given_acts (by_key (IsKnown h.0.0.keys.callees c.clients)) any_told n (c.clients n) c.clock place m (h.0.0.keys.replies n) (h.0.1.seats n)).each s past (h.0.1.table n) (h.0.1.acts n);
  sought = λ c past n place m k h at to z e. (sought_acts_in s c past n place m k h.0.1 at z e).each s past (h.0.1.table n) (h.0.1.acts n);
  missed = λ c past n k h r z. (missed_acts n (c.clients n) k r z).each s past (h.0.1.table n) (h.0.1.acts n);
  waited = λ c past n act h r. (waits_acts n (c.clients n) act r).each s past (h.0.1.table n) (h.0.1.acts n);
  fallen = λ c past n h. (falls_acts n c.handed (c.clients n) (handed_same s c past (h.0.1) n)).each s past (h.0.1.table n) (h.0.1.acts n);
  risen = λ c past n h. (rises_acts n (c.clients n)).each s past (h.0.1.table n) (h.0.1.acts n);
  loc = λ c past l ls ms h st. st.places s past;
  served = λ c past i place m armed h up at to. serves_each s i past (c.hosts i).state c.clock place m;
  cut = λ c past i place m t h up at to. blow_each s i place past t.stops;
  stopped = λ c past i h up. (refl, tt);
  stop_set = λ c past i calls pick armed h up. ((refl, (refl, refl)), tt);
  fail_set = λ c past i call armed h up. ((refl, (refl, refl)), tt);
  timed = λ c past i n b armed h up at. times_each s i past (c.hosts i).state c.clock n b;
  woken = λ c past i armed h up. wakes_each s i past (c.hosts i).state c.clock;
  started = λ c past i after fall h down. starts_each s i past (c.hosts i).state c.clock c.count after fall h.1;
  early = λ c past i fall h down. (refl, tt);
  midway = λ c past i after fall h down. stays_each s c past i after fall (lines.Fault (Server i)) (own_from i);
  full = λ c past i after fall h down. stays_each s c past i after fall (lines.Full (Server i)) (own_from i);
}

pub placed_first : (s : Script) → Placed s (start s) (set_up_entry s ∷ [])
placed_first s = (asked_first s, refl)

pub run_placed : LinesAreInPlace
run_placed s h end r =
    run_each (Placed s) (λ past e. EachLine (IsInPlace s) e.actor past [] e.lines) (placed_kept s) (λ c past x so k. each_moved (Placed s) (PlacedStep s) (placed_moves s) c past x so k) r.inputs s (set_up_entry s ∷ []) h end (placed_first s) r.leads
