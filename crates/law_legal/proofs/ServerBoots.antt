-- Which boot each server is in, by the lines, however many a cell has.
use Rattle.law_legal.proofs.OwedPasses.{all_lines}
use Rattle.law_legal.proofs.BaseLaws.{at_put, both, node_apart, same_node-refl}
use Rattle.law_legal.proofs.BaseWords.{up_boot}
use Rattle.law_legal.specs.Legal.{AreRising}
use Rattle.law_legal.specs.Past.{last_boot, lines_of, onto, boot_risen, server_boot}
use Rattle.spec_breaks.specs.declared.types.OwedBreak.{OwedBreak}
use Rattle.spec_history.specs.declared.lines.Line.{Line}
use Rattle.spec_history.specs.declared.lines.Line.TheVariants as lines
use Rattle.spec_ideal.specs.Operations.{Found}
use Rattle.afs_num.specs.Nodes.{same_node}
use Rattle.afs_num.specs.declared.histories.Version.{Version}
use Rattle.afs_num.specs.declared.messages.Carried.{Carried}
use Rattle.afs_num.specs.declared.messages.Carried.TheVariants as carried
use Rattle.afs_num.specs.declared.messages.Message.{Message}
use Rattle.afs_num.specs.declared.messages.Received.TheVariants.{Whole}
use Rattle.afs_num.specs.declared.types.Head.{Head}
use Rattle.afs_num.specs.declared.types.Node.{Node}
use Rattle.afs_num.specs.declared.types.Node.TheVariants.{Server, Client, Loc, Admin}
use Rattle.spec_rows.specs.Callbacks.{CallbackStep, expired, held_under, is_back_awaited, is_ready, is_seat_of, key_answered, new_owes, owe_line, put, quit_line, renews_by, repeats_by, risen_turn, settle_line, settles_by, still_owed, turn_for, turned_by, turned_in}
use Rattle.law_legal.proofs.RunSteps.{blow_line}
use Rattle.spec_rows.specs.Steps.{Begun}
use Rattle.spec_rows.specs.Runs.{Entry, Fall, at_rest, begun_by_disk, in_boot, in_step, ServerHost}
use Rattle.spec_rows.specs.ServerRow.{Decision, begun_after, decides, does, drops, granted, granted_in, versions_made, promise_ticks, refuses, repeats, saves, shows, tells_boot, versioned}
use Rattle.spec_rows.specs.ServerSteps.{back_timeout_row, server_row, start_row, wake_row}
use Rattle.spec_rows.specs.States.{BackCall, Backs, Held, ServerState}
use Rattle.spec_model.specs.Calls.{call_seat, key_of}
use Rattle.std.proofs.Common.{◌≡◌, ℕ, ◌+◌, ◌≤◌, ◌<◌, ◌⊎◌, inl, inr, arith, Bool, true, false, cond, List, [], ◌∷◌, ◌++◌, map, Option, Some, None, refl, sym, ap, subst, ◌∙◌}
use Rattle.std.specs.Prelude.{⊤, ◌&&◌, length, not, nat_lt}
use Rattle.law_legal.proofs.OwedLoadBreaks.{onto_both}

-- ---- lines that stop no server, and begin none

abbrev pub is_server : Node → Bool
is_server (Server i) = true
is_server n = false

abbrev pub is_standing : Line → Bool
is_standing (lines.Crash n) = not (is_server n)
is_standing (lines.Fault n) = not (is_server n)
is_standing (lines.Restart n boot) = not (is_server n)
is_standing l = true

-- lines of steps in which no node stops or begins again
abbrev pub is_running : Line → Bool
is_running (lines.Crash n) = false
is_running (lines.Fault n) = false
is_running (lines.Restart n boot) = false
is_running (lines.Full n) = false
is_running l = true

stop_apart : (n : Node) (j : ℕ) → not (is_server n) ≡ true → same_node n (Server j) ≡ false
stop_apart (Server i) j h = absurd cc
stop_apart (Client i) j h = refl
stop_apart (Admin i) j h = refl
stop_apart Loc j h = refl

-- its boot, and its last one, are what they were
pub record Same (j : ℕ) (a b : List Line) : Type 0 where
  pub boot : server_boot (Server j) a ≡ server_boot (Server j) b
  pub last : last_boot (Server j) a ≡ last_boot (Server j) b

one_same : (j : ℕ) (l : Line) (o : List Line) → is_standing l ≡ true → Same j (l ∷ o) o
one_same j (lines.Crash n) o h = record { boot = ap (λ (t : Bool). cond t None (server_boot (Server j) o)) (stop_apart n j h); last = refl }
one_same j (lines.Fault n) o h = record { boot = ap (λ (t : Bool). cond t None (server_boot (Server j) o)) (stop_apart n j h); last = refl }
one_same j (lines.Restart n boot) o h = record {
  boot = ap (λ (t : Bool). cond t (boot_risen (server_boot (Server j) o) boot) (server_boot (Server j) o)) (stop_apart n j h);
  last = ap (λ (t : Bool). cond t boot (last_boot (Server j) o)) (stop_apart n j h);
}
one_same j l o h = record { boot = refl; last = refl }

then_same : {j : ℕ} {a b c : List Line} → Same j a b → Same j b c → Same j a c
then_same h k = record { boot = h.boot ∙ k.boot; last = h.last ∙ k.last }

pub all_same : (j : ℕ) (ls o : List Line) → all_lines is_standing ls ≡ true → Same j (onto o ls) o
all_same j [] o h = record { boot = refl; last = refl }
all_same j (l ∷ ls) o h = let q = both (is_standing l) (all_lines is_standing ls) h in then_same (all_same j ls (l ∷ o) q.1) (one_same j l o q.0)

one_rises : (l : Line) (o ls : List Line) → is_standing l ≡ true → AreRising (l ∷ o) ls → AreRising o (l ∷ ls)
one_rises (lines.Restart (Server i) boot) o ls h r = absurd cc
one_rises (lines.Restart (Client i) boot) o ls h r = (tt, r)
one_rises (lines.Restart (Admin i) boot) o ls h r = (tt, r)
one_rises (lines.Restart Loc boot) o ls h r = (tt, r)
one_rises l o ls h r = (tt, r)

all_rise : (ls o : List Line) → all_lines is_standing ls ≡ true → AreRising o ls
all_rise [] o h = tt
all_rise (l ∷ ls) o h = let q = both (is_standing l) (all_lines is_standing ls) h in one_rises l o ls q.0 (all_rise ls (l ∷ o) q.1)

rise_both : (a b o : List Line) → AreRising o a → AreRising (onto o a) b → AreRising o (a ++ b)
rise_both [] b o h k = k
rise_both (l ∷ a) b o h k = (h.0, rise_both a b (l ∷ o) h.1 k)

pub standing_both : (a b : List Line) → all_lines is_standing a ≡ true → all_lines is_standing b ≡ true → all_lines is_standing (a ++ b) ≡ true
standing_both [] b h k = k
standing_both (l ∷ a) b h k = let q = both (is_standing l) (all_lines is_standing a) h in rw (q.0, standing_both a b q.1 k) refl

-- ---- what holds after every entry

-- the boots that were begun rise
abbrev pub HaveRisen : List Entry → Type 0
HaveRisen [] = ⊤
HaveRisen (e ∷ past) = AreRising (lines_of past) e.lines × HaveRisen past

pub record Boots (hosts : ℕ → ServerHost) (past : List Entry) : Type 0 where
  pub now : (j : ℕ) → server_boot (Server j) (lines_of past) ≡ up_boot (hosts j).down (hosts j).state.lasting.boot
  pub last : (j : ℕ) → last_boot (Server j) (lines_of past) ≤ (hosts j).state.lasting.boot
  pub risen : HaveRisen past

pub still_boots : (hosts : ℕ → ServerHost) (e : Entry) (past : List Entry) → all_lines is_standing e.lines ≡ true → Boots hosts past → Boots hosts (e ∷ past)
still_boots hosts e past h B = record {
  now = λ j. (all_same j e.lines (lines_of past) h).boot ∙ B.now j;
  last = λ j. subst (λ (n : ℕ). n ≤ (hosts j).state.lasting.boot) (sym (all_same j e.lines (lines_of past) h).last) (B.last j);
  risen = (all_rise e.lines (lines_of past) h, B.risen);
}

-- one server's step
host_boots : (hosts : ℕ → ServerHost) (i : ℕ) (h : ServerHost) (e : Entry) (past : List Entry) → server_boot (Server i) (lines_of (e ∷ past)) ≡ up_boot h.down h.state.lasting.boot → last_boot (Server i) (lines_of (e ∷ past)) ≤ h.state.lasting.boot
    → ((j : ℕ) → (i ≡ j → ⊥) → Same j (lines_of (e ∷ past)) (lines_of past)) → AreRising (lines_of past) e.lines → Boots hosts past → Boots (put i h hosts) (e ∷ past)
host_boots hosts i h e past now last others rise B = record {
  now = λ j. at_put i j (λ (x : ServerHost). server_boot (Server j) (lines_of (e ∷ past)) ≡ up_boot x.down x.state.lasting.boot) h hosts
      (λ same. subst (λ (k : ℕ). server_boot (Server k) (lines_of (e ∷ past)) ≡ up_boot h.down h.state.lasting.boot) same now) (λ ne. (others j ne).boot ∙ B.now j);
  last = λ j. at_put i j (λ (x : ServerHost). last_boot (Server j) (lines_of (e ∷ past)) ≤ x.state.lasting.boot) h hosts
      (λ same. subst (λ (k : ℕ). last_boot (Server k) (lines_of (e ∷ past)) ≤ h.state.lasting.boot) same last) (λ ne. subst (λ (n : ℕ). n ≤ (hosts j).state.lasting.boot) (sym (others j ne).last) (B.last j));
  risen = (rise, B.risen);
}

-- one that leaves it up or down
pub step_boots : (hosts : ℕ → ServerHost) (i : ℕ) (h : ServerHost) (e : Entry) (past : List Entry) → all_lines is_standing e.lines ≡ true → h.down ≡ (hosts i).down → h.state.lasting.boot ≡ (hosts i).state.lasting.boot → Boots hosts past → Boots (put i h hosts) (e ∷ past)
step_boots hosts i h e past stand down boot B = host_boots hosts i h e past
    ((all_same i e.lines (lines_of past) stand).boot ∙ (B.now i ∙ rw (down, boot) refl))
    (subst (λ (n : ℕ). n ≤ h.state.lasting.boot) (sym (all_same i e.lines (lines_of past) stand).last) (subst (λ (n : ℕ). last_boot (Server i) (lines_of past) ≤ n) (sym boot) (B.last i)))
    (λ j ne. all_same j e.lines (lines_of past) stand) (all_rise e.lines (lines_of past) stand) B

-- ---- a server stops, or stays down

abbrev pub IsStop : ℕ → Line → Type 0
IsStop i l = (l ≡ lines.Crash (Server i)) ⊎ (l ≡ lines.Fault (Server i))

pub blow_stops : (i : ℕ) (t : Bool) → IsStop i (blow_line i t)
blow_stops i true = inl refl
blow_stops i false = inr refl

stop_none : (i : ℕ) (l : Line) (o : List Line) → IsStop i l → server_boot (Server i) (l ∷ o) ≡ None
stop_none i l o (inl e) = subst (λ (k : Line). server_boot (Server i) (k ∷ o) ≡ None) (sym e) (rw (same_node-refl (Server i)) refl)
stop_none i l o (inr e) = subst (λ (k : Line). server_boot (Server i) (k ∷ o) ≡ None) (sym e) (rw (same_node-refl (Server i)) refl)

stop_last : (i j : ℕ) (l : Line) (o : List Line) → IsStop i l → last_boot (Server j) (l ∷ o) ≡ last_boot (Server j) o
stop_last i j l o (inl e) = subst (λ (k : Line). last_boot (Server j) (k ∷ o) ≡ last_boot (Server j) o) (sym e) refl
stop_last i j l o (inr e) = subst (λ (k : Line). last_boot (Server j) (k ∷ o) ≡ last_boot (Server j) o) (sym e) refl

server_apart : (i j : ℕ) → (i ≡ j → ⊥) → same_node (Server i) (Server j) ≡ false
server_apart i j ne = node_apart (Server i) (Server j) (λ e. ne cc)

stop_same : (i j : ℕ) (l : Line) (o : List Line) → (i ≡ j → ⊥) → IsStop i l → Same j (l ∷ o) o
stop_same i j l o ne (inl e) = record { boot = subst (λ (k : Line). server_boot (Server j) (k ∷ o) ≡ server_boot (Server j) o) (sym e) (ap (λ (t : Bool). cond t None (server_boot (Server j) o)) (server_apart i j ne)); last = stop_last i j l o (inl e) }
stop_same i j l o ne (inr e) = record { boot = subst (λ (k : Line). server_boot (Server j) (k ∷ o) ≡ server_boot (Server j) o) (sym e) (ap (λ (t : Bool). cond t None (server_boot (Server j) o)) (server_apart i j ne)); last = stop_last i j l o (inr e) }

stop_rises : (i : ℕ) (l : Line) (o : List Line) → IsStop i l → AreRising o (l ∷ [])
stop_rises i l o (inl e) = subst (λ (k : Line). AreRising o (k ∷ [])) (sym e) (tt, tt)
stop_rises i l o (inr e) = subst (λ (k : Line). AreRising o (k ∷ [])) (sym e) (tt, tt)

-- behind lines that stop nothing it stops; it is in the same boot then, or in a later one that it doesn't tell
pub stop_boots : (hosts : ℕ → ServerHost) (i : ℕ) (h : ServerHost) (e : Entry) (past : List Entry) (front : List Line) (l : Line) → e.lines ≡ front ++ l ∷ [] → all_lines is_standing front ≡ true → IsStop i l → up_boot h.down h.state.lasting.boot ≡ None → (hosts i).state.lasting.boot ≤ h.state.lasting.boot
    → Boots hosts past → Boots (put i h hosts) (e ∷ past)
stop_boots hosts i h e past front l are stand stops down grows B =
    let at : lines_of (e ∷ past) ≡ l ∷ onto (lines_of past) front = ap (onto (lines_of past)) are ∙ onto_both (lines_of past) front (l ∷ []) in
    let was : last_boot (Server i) (lines_of past) ≤ (hosts i).state.lasting.boot = B.last i in
    let more : (hosts i).state.lasting.boot ≤ h.state.lasting.boot = grows in
    let then : last_boot (Server i) (lines_of past) ≤ h.state.lasting.boot = omega arith in
    host_boots hosts i h e past
    (ap (server_boot (Server i)) at ∙ (stop_none i l (onto (lines_of past) front) stops ∙ sym down))
    (subst (λ (n : ℕ). n ≤ h.state.lasting.boot) (sym (ap (last_boot (Server i)) at ∙ (stop_last i i l (onto (lines_of past) front) stops ∙ (all_same i front (lines_of past) stand).last))) then)
    (λ j ne. subst (λ (ls : List Line). Same j ls (lines_of past)) (sym at) (then_same (stop_same i j l (onto (lines_of past) front) ne stops) (all_same j front (lines_of past) stand)))
    (subst (AreRising (lines_of past)) (sym are) (rise_both front (l ∷ []) (lines_of past) (all_rise front (lines_of past) stand) (stop_rises i l (onto (lines_of past) front) stops))) B

-- one that was down stays so, without a stop
pub down_boots : (hosts : ℕ → ServerHost) (i : ℕ) (h : ServerHost) (e : Entry) (past : List Entry) → all_lines is_standing e.lines ≡ true → up_boot (hosts i).down (hosts i).state.lasting.boot ≡ None → up_boot h.down h.state.lasting.boot ≡ None → (hosts i).state.lasting.boot ≤ h.state.lasting.boot → Boots hosts past → Boots (put i h hosts) (e ∷ past)
down_boots hosts i h e past stand was down grows B =
    let at : last_boot (Server i) (lines_of past) ≤ (hosts i).state.lasting.boot = B.last i in
    let more : (hosts i).state.lasting.boot ≤ h.state.lasting.boot = grows in
    let then : last_boot (Server i) (lines_of past) ≤ h.state.lasting.boot = omega arith in
    host_boots hosts i h e past ((all_same i e.lines (lines_of past) stand).boot ∙ (B.now i ∙ (was ∙ sym down)))
    (subst (λ (n : ℕ). n ≤ h.state.lasting.boot) (sym (all_same i e.lines (lines_of past) stand).last) then)
    (λ j ne. all_same j e.lines (lines_of past) stand) (all_rise e.lines (lines_of past) stand) B

-- ---- a server begins again

pub rise_boots : (hosts : ℕ → ServerHost) (i : ℕ) (h : ServerHost) (e : Entry) (past : List Entry) (front notes : List Line) → e.lines ≡ front ++ lines.Restart (Server i) h.state.lasting.boot ∷ notes → all_lines is_standing front ≡ true → all_lines is_standing notes ≡ true
    → up_boot (hosts i).down (hosts i).state.lasting.boot ≡ None → h.down ≡ None → (hosts i).state.lasting.boot < h.state.lasting.boot → Boots hosts past → Boots (put i h hosts) (e ∷ past)
rise_boots hosts i h e past front notes are stand note was up grows B =
    let b : ℕ = h.state.lasting.boot in
    let o : List Line = onto (lines_of past) front in
    let rise : Line = lines.Restart (Server i) b in
    let at : lines_of (e ∷ past) ≡ onto (rise ∷ o) notes = ap (onto (lines_of past)) are ∙ onto_both (lines_of past) front (rise ∷ notes) in
    let none : server_boot (Server i) o ≡ None = (all_same i front (lines_of past) stand).boot ∙ (B.now i ∙ was) in
    let told : last_boot (Server i) o ≡ last_boot (Server i) (lines_of past) = (all_same i front (lines_of past) stand).last in
    let before : last_boot (Server i) (lines_of past) ≤ (hosts i).state.lasting.boot = B.last i in
    let more : (hosts i).state.lasting.boot < b = grows in
    let above : last_boot (Server i) o < b = subst (λ (n : ℕ). n < b) (sym told) (omega arith) in
    let begun : server_boot (Server i) (rise ∷ o) ≡ Some b = rw (same_node-refl (Server i), none) refl in
    let own : last_boot (Server i) (rise ∷ o) ≡ b = rw (same_node-refl (Server i)) refl in
    host_boots hosts i h e past
    (ap (server_boot (Server i)) at ∙ ((all_same i notes (rise ∷ o) note).boot ∙ (begun ∙ ap (λ (d : Option Fall). up_boot d b) (sym up))))
    (subst (λ (n : ℕ). n ≤ b) (sym (ap (last_boot (Server i)) at ∙ ((all_same i notes (rise ∷ o) note).last ∙ own))) (omega arith))
    (λ j ne. subst (λ (ls : List Line). Same j ls (lines_of past)) (sym at) (then_same (all_same j notes (rise ∷ o) note)
    (then_same (record { boot = ap (λ (t : Bool). cond t (boot_risen (server_boot (Server j) o) b) (server_boot (Server j) o)) (server_apart i j ne); last = ap (λ (t : Bool). cond t b (last_boot (Server j) o)) (server_apart i j ne) }) (all_same j front (lines_of past) stand))))
    (subst (AreRising (lines_of past)) (sym are) (rise_both front (rise ∷ notes) (lines_of past) (all_rise front (lines_of past) stand) ((none, above), all_rise notes (rise ∷ o) note))) B

-- ---- the lines of a server's steps: none of them stops or begins again

pub owes_running : (me : Node) (os : List OwedBreak) → all_lines is_running (map (owe_line me) os) ≡ true
owes_running me [] = refl
owes_running me (o ∷ os) = owes_running me os

settles_running : (me n : Node) (os : List OwedBreak) → all_lines is_running (map (settle_line me n) os) ≡ true
settles_running me n [] = refl
settles_running me n (o ∷ os) = settles_running me n os

quits_running : (me n : Node) (os : List OwedBreak) → all_lines is_running (map (quit_line me n) os) ≡ true
quits_running me n [] = refl
quits_running me n (o ∷ os) = quits_running me n os

granted_running : (me client : Node) (expiry : ℕ) (fs : List Found) (ls : List Line) → all_lines is_running ls ≡ true → all_lines is_running (granted me client expiry fs ls) ≡ true
granted_running me client expiry [] ls h = h
granted_running me client expiry (f ∷ fs) ls h = granted_running me client expiry fs ls h

versioned_running : (vs : List Version) (ls : List Line) → all_lines is_running ls ≡ true → all_lines is_running (versioned vs ls) ≡ true
versioned_running [] ls h = h
versioned_running (v ∷ vs) ls h = versioned_running vs ls h

versioned_standing : (vs : List Version) (ls : List Line) → all_lines is_standing ls ≡ true → all_lines is_standing (versioned vs ls) ≡ true
versioned_standing [] ls h = h
versioned_standing (v ∷ vs) ls h = versioned_standing vs ls h

-- of a turn's
abbrev IsRunning : CallbackStep → Type 0
IsRunning t = all_lines is_running t.lines ≡ true

either_running : (t : Bool) (a b : CallbackStep) → IsRunning a → IsRunning b → IsRunning (cond t a b)
either_running true a b h k = h
either_running false a b h k = k

repeats_running : (b : Backs) (reply : Message) (o : Option Held) (good : Bool) → IsRunning (repeats_by b reply o good)
repeats_running b reply (Some w) good = either_running (w.again && is_ready b.lists.owed w) _ _ refl refl
repeats_running b reply None true = refl
repeats_running b reply None false = refl

for_running : (me : Node) (x : ServerState) (clock : ℕ) (b : Backs) (d : Decision) → IsRunning (turn_for me x clock b d)
for_running me x clock b drops = refl
for_running me x clock b (tells_boot head) = refl
for_running me x clock b (repeats reply) = repeats_running b reply (held_under (key_answered reply) b.held) (is_seat_of reply (call_seat reply.head.to x.lasting.kept))
for_running me x clock b (refuses head code) = refl
for_running me x clock b (shows head r) = refl
for_running me x clock b (saves head c) = owes_running me (new_owes head.from (versions_made c) b.lists)

settled_running : (me : Node) (boot : ℕ) (head : Head) (b : Backs) (o : Option BackCall) → IsRunning (settles_by me boot head b o)
settled_running me boot head b None = refl
settled_running me boot head b (Some c) = either_running (is_back_awaited boot c head) _ _ (settles_running me head.from (still_owed c b)) refl

renewed_running : (me : Node) (boot : ℕ) (head : Head) (b : Backs) (o : Option BackCall) → IsRunning (renews_by me boot head b o)
renewed_running me boot head b None = refl
renewed_running me boot head b (Some c) = either_running (is_back_awaited boot c head) _ _ refl refl

carried_running : (me : Node) (x : ServerState) (clock : ℕ) (b : Backs) (d : Decision) (head : Head) (c : Carried) → IsRunning (turned_by me x clock b d head c)
carried_running me x clock b d head (carried.Call user call) = for_running me x clock b d
carried_running me x clock b d head (carried.Refusal code) = either_running (same_node head.to me) _ _ (settled_running me x.lasting.boot head b (b.calls head.from)) refl
carried_running me x clock b d head (carried.Reply reply) = either_running (same_node head.to me) _ _ (settled_running me x.lasting.boot head b (b.calls head.from)) refl
carried_running me x clock b d head carried.Notice = either_running (same_node head.to me) _ _ (renewed_running me x.lasting.boot head b (b.calls head.from)) refl

does_running : (me : Node) (x : ServerState) (clock place : ℕ) (d : Decision) (ls : List Line) → all_lines is_running ls ≡ true → all_lines is_running (does me x clock place d ls).lines ≡ true
does_running me x clock place drops ls h = h
does_running me x clock place (tells_boot head) ls h = h
does_running me x clock place (repeats reply) ls h = h
does_running me x clock place (refuses head code) ls h = h
does_running me x clock place (shows head g) ls h = granted_running me head.from (clock + promise_ticks) g.granted ls h
does_running me x clock place (saves head c) ls h = versioned_running (versions_made c) _ (granted_running me head.from (clock + promise_ticks) (granted_in c) ls h)

pub serves_running : (me : Node) (x : ServerState) (clock place : ℕ) (m : Message) → all_lines is_running (server_row me x clock place (Whole m)).lines ≡ true
unfolding server_row
serves_running me x clock place m =
    let d : Decision = decides me x clock (Whole m) in
    does_running me x clock place d (turned_in me x clock (expired clock x.backs) d (Whole m)).lines (carried_running me x clock (expired clock x.backs) d m.head m.carried)

pub times_running : (me : Node) (x : ServerState) (clock : ℕ) (n : Node) (c : BackCall) → all_lines is_running (back_timeout_row me x clock n c).lines ≡ true
unfolding back_timeout_row
times_running me x clock n c = either_running (nat_lt c.tries 2) _ _ refl (quits_running me n (still_owed c (expired clock x.backs)))

pub wakes_running : (me : Node) (x : ServerState) (clock : ℕ) → all_lines is_running (wake_row me x clock).lines ≡ true
unfolding wake_row
wakes_running me x clock = refl

running_standing : (l : Line) → is_running l ≡ true → is_standing l ≡ true
running_standing (lines.Crash n) h = absurd cc
running_standing (lines.Fault n) h = absurd cc
running_standing (lines.Restart n boot) h = absurd cc
running_standing (lines.Full n) h = absurd cc
running_standing l h = refl

all_standing : (ls : List Line) → all_lines is_running ls ≡ true → all_lines is_standing ls ≡ true
all_standing [] h = refl
all_standing (l ∷ ls) h = let q = both (is_running l) (all_lines is_running ls) h in rw (running_standing l q.0, all_standing ls q.1) refl

pub owes_standing : (me : Node) (os : List OwedBreak) → all_lines is_standing (map (owe_line me) os) ≡ true
owes_standing me os = all_standing (map (owe_line me) os) (owes_running me os)

pub serves_standing : (me : Node) (x : ServerState) (clock place : ℕ) (m : Message) → all_lines is_standing (server_row me x clock place (Whole m)).lines ≡ true
serves_standing me x clock place m = all_standing (server_row me x clock place (Whole m)).lines (serves_running me x clock place m)

pub times_standing : (me : Node) (x : ServerState) (clock : ℕ) (n : Node) (c : BackCall) → all_lines is_standing (back_timeout_row me x clock n c).lines ≡ true
times_standing me x clock n c = all_standing (back_timeout_row me x clock n c).lines (times_running me x clock n c)

pub wakes_standing : (me : Node) (x : ServerState) (clock : ℕ) → all_lines is_standing (wake_row me x clock).lines ≡ true
wakes_standing me x clock = all_standing (wake_row me x clock).lines (wakes_running me x clock)

-- ---- what a restart begins with

-- lines of a finished step stand before its own
pub record HasFront (f : Begun ServerState) : Type 0 where
  pub before : (ls : List Line) → f.before ls ≡ f.before [] ++ ls
  pub standing : all_lines is_standing (f.before []) ≡ true

versions_front : (vs : List Version) (ls : List Line) → versioned vs ls ≡ versioned vs [] ++ ls
versions_front [] ls = refl
versions_front (v ∷ vs) ls = ap (λ (x : List Line). lines.Version v ∷ x) (versions_front vs ls)

after_front : (me : Node) (x : ServerState) (clock : ℕ) (d : Decision) → HasFront (begun_after me x clock d)
after_front me x clock (saves head c) = record { before = λ ls. ap (λ (y : List Line). lines.Change me (key_of head) (length (versions_made c)) ∷ y) (versions_front (versions_made c) ls); standing = versioned_standing (versions_made c) [] refl }
after_front me x clock d = record { before = λ ls. refl; standing = refl }

pub disk_front : (me : Node) (x : ServerState) (after : Bool) (fall : Fall) → HasFront (begun_by_disk me x after fall)
disk_front me x after at_rest = record { before = λ ls. refl; standing = refl }
disk_front me x false (in_step m clock hit) = record { before = λ ls. refl; standing = refl }
disk_front me x true (in_step m clock hit) = after_front me x clock (decides me x clock (Whole m))
disk_front me x false in_boot = record { before = λ ls. refl; standing = refl }
disk_front me x true in_boot = record { before = λ ls. refl; standing = refl }

pub started_lines : (i clock count : ℕ) (f : Begun ServerState) → (start_row (Server i) clock count f).lines ≡ f.before (lines.Restart (Server i) (f.state.lasting.boot + 1) ∷ (risen_turn (Server i) clock count).lines)
unfolding start_row
started_lines i clock count f = refl

pub notes_standing : (i clock count : ℕ) → all_lines is_standing (risen_turn (Server i) clock count).lines ≡ true
notes_standing i clock count = owes_standing (Server i) (risen_turn (Server i) clock count).backs.lists.owed
