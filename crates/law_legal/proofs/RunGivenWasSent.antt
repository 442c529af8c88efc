-- What an entry of a run is given was sent before, to its node, however many servers a cell has.
use Rattle.law_legal.proofs.ClientCalls.{sought_tame}
use Rattle.law_legal.proofs.CallKeysOnce.{IsKnown, any_told, by_key}
use Rattle.law_legal.proofs.DatabaseLines.{is_of_loc}
use Rattle.spec_breaks.specs.declared.types.OwedBreak.{OwedBreak}
use Rattle.spec_history.specs.declared.acts.Act.{Act}
use Rattle.spec_history.specs.declared.lines.Line.{Line}
use Rattle.spec_history.specs.declared.lines.Line.TheVariants as lines
use Rattle.spec_history.specs.declared.scripts.Script.{Script}
use Rattle.spec_ideal.specs.Operations.{volume_changed}
use Rattle.law_legal.proofs.OwedPasses.{all_lines}
use Rattle.law_legal.proofs.BaseLaws.{both}
use Rattle.law_legal.proofs.VolumeChanges.{run_each}
use Rattle.law_legal.proofs.ServerChooses.{risen_lines}
use Rattle.law_legal.proofs.ServerHearsInRuns.{client_given}
use Rattle.law_legal.proofs.ServerHears.{served_given, replies_to}
use Rattle.law_legal.proofs.RunsKnown.{Known, known_first, known_kept}
use Rattle.law_legal.proofs.RunWalk.{EachMove, each_moved}
use Rattle.law_legal.proofs.OwedLines.{disk_lines}
use Rattle.law_legal.specs.Ideal.{set_up_entry}
use Rattle.law_legal.specs.Lives.{IsDelivered, IsTo}
use Rattle.law_legal.specs.Parts.{EachEntry}
use Rattle.law_legal.specs.Past.{given_message, has_given, sent_of}
use Rattle.afs_num.specs.declared.histories.Actor.{Actor}
use Rattle.afs_num.specs.declared.histories.Actor.TheVariants as actors
use Rattle.afs_num.specs.declared.messages.Message.{Message}
use Rattle.afs_num.specs.declared.messages.Received.TheVariants.{Whole}
use Rattle.afs_num.specs.declared.types.Node.{Node}
use Rattle.afs_num.specs.declared.types.Node.TheVariants.{Client, Server}
use Rattle.spec_rows.specs.Callbacks.{expired, owe_line, quit_line, quits, retries, risen_turn, still_owed}
use Rattle.spec_rows.specs.ClientRow.{Look, Walked, begin_row, begins_by, call_of, client_row, dead_code, dropped, gift_of, given_up_in, gives_by, gives_up, goes_by, in_order, looked, most_reads, timeout_row, tries_again, trusted_in, untrusted_in, walked, seek_timeout_row, timeout_line, seeks_on, sought_by, sought_ends}
use Rattle.spec_rows.specs.Going.{ClientState, Going, Need, answers, began, gives_back, next, Seek}
use Rattle.law_legal.proofs.RunSteps.{blow_line, server_falls, server_moves, server_rises, server_set, server_stays, loc_becomes}
use Rattle.spec_rows.specs.Runs.{Cell, Entry, Fall, Moved, RunsTo, at_rest, begun_by_disk, client_falls, client_moves, client_rises, in_boot, message_at, start, ticked, voided}
use Rattle.spec_rows.specs.ServerSteps.{back_timeout_row, server_row, start_row, wake_row}
use Rattle.spec_rows.specs.States.{BackCall, Backs, CacheEntry, Gift, ServerState}
use Rattle.std.specs.Prelude.{⊤}
use Rattle.std.proofs.Common.{suc, ◌≡◌, ℕ, ◌+◌, Bool, true, false, cond, List, [], ◌∷◌, map, Option, Some, None, refl, sym, ap, subst, ◌∙◌, nat_lt}

-- ---- an entry that is given nothing

abbrev Ungiven : List Line → Type 0
Ungiven ls = has_given ls ≡ false

ungiven_delivered : (who : Actor) (past : List Entry) (ls : List Line) → Ungiven ls → IsDelivered who past ls
ungiven_delivered who past ls none has = let no : true ≡ false = sym has ∙ none in absurd cc

looked_ungiven : (me : Node) (looks : List Look) (ls : List Line) → Ungiven ls → Ungiven (looked me looks ls)
looked_ungiven me [] ls h = h
looked_ungiven me (l ∷ looks) ls h = looked_ungiven me looks ls h

dropped_ungiven : (me : Node) (es : List CacheEntry) (ls : List Line) → Ungiven ls → Ungiven (dropped me es ls)
dropped_ungiven me [] ls h = h
dropped_ungiven me (e ∷ es) ls h = dropped_ungiven me es ls h

goes_ungiven : (me : Node) (x : ClientState) (act : Act) (w : Walked) (need : Need) → Ungiven (goes_by me x (λ ls. lines.Begin me act ∷ ls) w need).lines
goes_ungiven me x act w (answers n) = looked_ungiven me w.looks _ refl
goes_ungiven me x act w need = looked_ungiven me w.looks [] refl

gives_ungiven : (me : Node) (x : ClientState) (act : Act) (a : Going) (es : List CacheEntry) (gs : List Gift) → Ungiven (gives_by me x (λ ls. lines.Begin me act ∷ dropped me es ls) a gs).lines
gives_ungiven me x act a es [] = dropped_ungiven me es _ refl
gives_ungiven me x act a es (g ∷ gs) = dropped_ungiven me es [] refl

first_ungiven : (me : Node) (x : ClientState) (clock : ℕ) (act : Act) (a : Going) (need : Need) → Ungiven (begins_by me x clock (λ ls. lines.Begin me act ∷ ls) a need).lines
first_ungiven me x clock act a gives_back = gives_ungiven me (record x { cache = untrusted_in clock x.cache }) act a (trusted_in clock x.cache) (in_order (map gift_of (trusted_in clock x.cache)))
first_ungiven me x clock act a need = let w : Walked = walked (most_reads a) clock a x.cache in goes_ungiven me x act w (next w.act)

pub begun_ungiven : (me : Node) (x : ClientState) (clock : ℕ) (act : Act) → Ungiven (begin_row me x clock act).lines
unfolding begin_row
begun_ungiven me x clock act = first_ungiven me (record x { busy = 0; moved = 0 }) clock act (began x.table act) (next (began x.table act))

tries_ungiven : (me : Node) (x : ClientState) (act : Going) (t : Bool) → Ungiven (cond t (tries_again me x act) (gives_up me x (call_of x act))).lines
tries_ungiven me x act true = refl
tries_ungiven me x act false = dropped_ungiven me (given_up_in (volume_changed (call_of x act)) x.cache) (lines.Answer me dead_code ∷ []) refl

pub waited_ungiven : (me : Node) (x : ClientState) (act : Going) → Ungiven (timeout_row me x act).lines
waited_ungiven me x act = tries_ungiven me x act (nat_lt x.tries 2)

-- ---- a server's

abbrev is_ungiven : Line → Bool
is_ungiven (lines.Given place) = false
is_ungiven l = true

all_ungiven : (ls : List Line) → all_lines is_ungiven ls ≡ true → Ungiven ls
all_ungiven [] h = refl
all_ungiven (lines.Given place ∷ ls) h = absurd cc
all_ungiven (l ∷ ls) h = all_ungiven ls (both (is_ungiven l) (all_lines is_ungiven ls) h).1

owes_ungiven : (me : Node) (os : List OwedBreak) → all_lines is_ungiven (map (owe_line me) os) ≡ true
owes_ungiven me [] = refl
owes_ungiven me (o ∷ os) = owes_ungiven me os

quits_ungiven : (me n : Node) (os : List OwedBreak) → Ungiven (map (quit_line me n) os)
quits_ungiven me n [] = refl
quits_ungiven me n (o ∷ os) = quits_ungiven me n os

back_ungiven : (me : Node) (boot : ℕ) (n : Node) (k : BackCall) (b : Backs) (t : Bool) → Ungiven (cond t (retries me boot n k b) (quits me boot n k b)).lines
back_ungiven me boot n k b true = refl
back_ungiven me boot n k b false = quits_ungiven me n (still_owed k b)

timed_ungiven : (me : Node) (x : ServerState) (clock : ℕ) (n : Node) (k : BackCall) → Ungiven (back_timeout_row me x clock n k).lines
unfolding back_timeout_row
timed_ungiven me x clock n k = back_ungiven me x.lasting.boot n k (expired clock x.backs) (nat_lt k.tries 2)

woken_ungiven : (me : Node) (x : ServerState) (clock : ℕ) → Ungiven (wake_row me x clock).lines
unfolding wake_row
woken_ungiven me x clock = refl

found_ungiven : (me : Node) (x : ServerState) (after : Bool) (fall : Fall) (ls : List Line) → all_lines is_ungiven ls ≡ true → Ungiven ((begun_by_disk me x after fall).before ls)
found_ungiven me x after fall ls h = all_ungiven ((begun_by_disk me x after fall).before ls) (disk_lines is_ungiven (λ n key z. refl) (λ v. refl) me x after fall ls h)

started_ungiven : (me : Node) (x : ServerState) (clock count : ℕ) (after : Bool) (fall : Fall) → Ungiven (start_row me clock count (begun_by_disk me x after fall)).lines
unfolding start_row
started_ungiven me x clock count after fall = found_ungiven me x after fall (risen_lines me clock count (begun_by_disk me x after fall)) (owes_ungiven me (risen_turn me clock count).backs.lists.owed)

-- ---- one that is given a message

given_delivered : (n : Node) (past : List Entry) (ls : List Line) (m : Message) → given_message ls (sent_of past) ≡ Some m → m.head.to ≡ n → IsDelivered (actors.Node n) past ls
given_delivered n past ls m is to has = subst (IsTo (actors.Node n)) (sym is) (ap actors.Node (sym to))

-- ---- every step

abbrev pub DeliveredStep : Cell → List Entry → Moved → Type 0
DeliveredStep c past m = IsDelivered m.entry.actor past m.entry.lines

ungiven_step : (past : List Entry) (m : Moved) → Ungiven m.entry.lines → IsDelivered m.entry.actor past m.entry.lines
ungiven_step past m none = ungiven_delivered m.entry.actor past m.entry.lines none

missed_by : (me : Node) (x : ClientState) (k : Seek) (t : Bool) → Ungiven (cond t (seeks_on me x k) (sought_ends me x (λ ls. timeout_line me x 3 ∷ ls) dead_code)).lines
missed_by me x k true = refl
missed_by me x k false = refl

pub missed_ungiven : (me : Node) (x : ClientState) (k : Seek) → Ungiven (seek_timeout_row me x k).lines
missed_ungiven me x k = missed_by me x k (nat_lt x.tries 2)

abbrev any_node : Node → ℕ → Type 0
any_node q boot = ⊤

-- the database's answer
pub sought_given : (c : Cell) (past : List Entry) (n place : ℕ) (m : Message) (k : Seek) → Known c past → message_at c.sent place ≡ Some m → given_message (sought_by (Client n) (c.clients n) c.clock place k m.head m.carried).lines (sent_of past) ≡ Some m
sought_given c past n place m k K at =
    (sought_tame any_told any_told any_node n (c.clients n) c.clock place k m.head m.carried (λ b. tt) (replies_to (by_key (IsKnown K.keys.callees c.clients)) any_told any_told any_told (λ h x. tt) (λ h x. x) (c.clients n).seats (K.keys.replies n))).given (sent_of past)
    ∙ (ap (λ (ms : List Message). message_at ms place) K.hears.told ∙ at)

pub delivered_moves : EachMove Known DeliveredStep
delivered_moves = record {
  void = λ c past h. ungiven_step past (voided c) refl;
  ticked = λ c past n h. ungiven_step past (ticked c (suc n)) refl;
  begun = λ c past n act h r z0. ungiven_step past (client_moves c n (begin_row (Client n) (c.clients n) c.clock act)) (begun_ungiven (Client n) (c.clients n) c.clock act);
  told = λ c past n place m h at to un. given_delivered (Client n) past (client_row (Client n) (c.clients n) c.clock place (Whole m)).lines m ((client_given c past n place m h.hears to at).given (sent_of past) ∙ (ap (λ (ms : List Message). message_at ms place) h.hears.told ∙ at)) to;
  sought = λ c past n place m k h at to z e. given_delivered (Client n) past (sought_by (Client n) (c.clients n) c.clock place k m.head m.carried).lines m (sought_given c past n place m k h at) to;
  missed = λ c past n k h r z. ungiven_step past (client_moves c n (seek_timeout_row (Client n) (c.clients n) k)) (missed_ungiven (Client n) (c.clients n) k);
  loc = λ c past l ls ms h st. st.delivered past h.hears.told;
  waited = λ c past n act h r. ungiven_step past (client_moves c n (timeout_row (Client n) (c.clients n) act)) (waited_ungiven (Client n) (c.clients n) act);
  fallen = λ c past n h. ungiven_step past (client_falls c n) refl;
  risen = λ c past n h. ungiven_step past (client_rises c n) refl;
  served = λ c past i place m armed h up at to. given_delivered (Server i) past (server_row (Server i) (c.hosts i).state c.clock place (Whole m)).lines m (served_given i (c.hosts i).state c.clock place m (sent_of past) ∙ (ap (λ (ms : List Message). message_at ms place) h.hears.told ∙ at)) to;
  cut = λ c past i place m t h up at to. given_delivered (Server i) past (lines.Given place ∷ blow_line i t.stops ∷ []) m (ap (λ (ms : List Message). message_at ms place) h.hears.told ∙ at) to;
  stopped = λ c past i h up. ungiven_step past (server_falls c i (lines.Crash (Server i) ∷ []) at_rest) refl;
  stop_set = λ c past i calls pick armed h up. ungiven_step past (server_set c i (lines.Stop (Server i) calls pick) armed) refl;
  fail_set = λ c past i call armed h up. ungiven_step past (server_set c i (lines.Fail (Server i) call) armed) refl;
  timed = λ c past i n b armed h up at. ungiven_step past (server_moves c i armed (back_timeout_row (Server i) (c.hosts i).state c.clock n b)) (timed_ungiven (Server i) (c.hosts i).state c.clock n b);
  woken = λ c past i armed h up. ungiven_step past (server_moves c i armed (wake_row (Server i) (c.hosts i).state c.clock)) (woken_ungiven (Server i) (c.hosts i).state c.clock);
  started = λ c past i after fall h down. ungiven_step past (server_rises c i (begun_by_disk (Server i) (c.hosts i).state after fall)) (started_ungiven (Server i) (c.hosts i).state c.clock c.count after fall);
  early = λ c past i fall h down. ungiven_step past (server_falls c i (lines.Fault (Server i) ∷ []) fall) refl;
  midway = λ c past i after fall h down. ungiven_step past (server_stays c i (begun_by_disk (Server i) (c.hosts i).state after fall) (lines.Fault (Server i)) in_boot) (found_ungiven (Server i) (c.hosts i).state after fall (lines.Fault (Server i) ∷ []) refl);
  full = λ c past i after fall h down. ungiven_step past (server_stays c i (begun_by_disk (Server i) (c.hosts i).state after fall) (lines.Full (Server i)) at_rest) (found_ungiven (Server i) (c.hosts i).state after fall (lines.Full (Server i) ∷ []) refl);
}

pub run_delivered : (s : Script) (h : List Entry) (end : Cell) → RunsTo h s end → EachEntry (λ past e. IsDelivered e.actor past e.lines) (set_up_entry s ∷ []) h
run_delivered s h end r =
    run_each Known (λ past e. IsDelivered e.actor past e.lines) known_kept (λ c past x so k. each_moved Known DeliveredStep delivered_moves c past x so k) r.inputs s (set_up_entry s ∷ []) h end (known_first s) r.leads
