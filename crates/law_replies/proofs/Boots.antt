-- In which boot each server is, as lines tell it: so it is in the cell.
use Rattle.std.proofs.Common.{◌≡◌, ℕ, ◌+◌, Bool, true, false, cond, List, [], ◌∷◌, ◌++◌, Option, Some, None, refl, sym, ap, subst, ◌∙◌}
use Rattle.std.specs.Prelude.{map, not, length}
use Rattle.afs_num.specs.Nodes.{same_node}
use Rattle.afs_num.specs.declared.histories.Version.{Version}
use Rattle.afs_num.specs.declared.messages.Message.{Message}
use Rattle.afs_num.specs.declared.messages.Received.TheVariants.{Whole}
use Rattle.afs_num.specs.declared.types.Head.{Head}
use Rattle.afs_num.specs.declared.types.Node.{Node}
use Rattle.afs_num.specs.declared.types.Node.TheVariants.{Admin, Client, Loc, Server}
use Rattle.spec_breaks.specs.declared.types.OwedBreak.{OwedBreak}
use Rattle.spec_history.specs.declared.lines.Line.{Line}
use Rattle.spec_history.specs.declared.lines.Line.TheVariants as lines
use Rattle.spec_history.specs.declared.scripts.Script.{Script}
use Rattle.spec_fold.specs.Effects.{effect_by, vanished_lines}
use Rattle.spec_model.proofs.Basics.{both}
use Rattle.spec_model.specs.Calls.{is_sent_again, key_of}
use Rattle.spec_records.specs.Durable.{Durable}
use Rattle.spec_rows.specs.Callbacks.{call_timed_out, expired, owe_line, quit_line, risen_turn, still_owed, turned_in, CallbackStep}
use Rattle.spec_rows.specs.Hosts.{at_rest, begun_from, comes_up, crashed, ends, fails_early, fails_midway, fall_line, in_boot, in_step, is_full, restarted, served_by, set_to_fail, set_to_stop, without_boot_record, struck, Blow, Fall, HostStep, Outcome}
use Rattle.spec_rows.specs.Runs.{Entry}
use Rattle.spec_rows.specs.ServerRow as file
use Rattle.spec_rows.specs.ServerRow.{begun_after, does, granted, granted_in, is_client, promise_ticks, versioned, versions_made, Decision}
use Rattle.spec_rows.specs.ServerSteps.{back_timeout_row, wake_row}
use Rattle.spec_rows.specs.States.{durable_of, BackCall, Backs, ServerState}
use Rattle.spec_rows.specs.LocRow.{LocState}
use Rattle.spec_rows.specs.Steps.{Begun, Step}
use Rattle.spec_adminrows.specs.AdminRow.{AdminState}
use Rattle.spec_copyrows.specs.Sites.{CopyState}
use Rattle.spec_volrows.proofs.VolKeeping.{deeds_are_writable}
use Rattle.spec_volrows.proofs.VolTurns.{deeds_are_shown}
use Rattle.spec_volrows.specs.FileRow.{file_row, file_start}
use Rattle.spec_volrows.specs.NodeHosts.{file_begun, node_begun, node_kind, node_timed_out, node_woken, piece_timed_out, NodeHost}
use Rattle.spec_volrows.specs.VolLaws.{is_saved, IsWritable, OfSaved, ShowsDeed}
use Rattle.spec_volrows.specs.VolRow.{holds_of}
use Rattle.spec_volrows.specs.VolStates.{NodeState, PieceCall}
use Rattle.spec_volrows.specs.VolSteps as vols
use Rattle.spec_volrows.specs.VolSteps.{deed_head, deed_lines, from_of, is_of_client, node_back_timeout_row, node_begun_after, node_file_decides, node_row, node_start_row, node_wake_row, owes_of, piece_timeout_row, vol_begun_after, vol_decides, vol_timed, vol_turned_by, Deed, VolDecision}
use Rattle.spec_runs.specs.NodeRuns.{node_moved, node_start, server_stepped, CellInput, NodeCell, NodeMoved}
use Rattle.law_walks.proofs.EachKind.{each}
use Rattle.law_keys.proofs.FileSeats.{back_keeps, wake_keeps}
use Rattle.law_keys.proofs.Memories.{Memory, Steps}
use Rattle.law_keys.proofs.VolSeats.{memory, piece_keeps}
use Rattle.law_keys.proofs.Walk.{row_steps}
use Rattle.law_keys.specs.Ran.{server_ran, RanCall}
use Rattle.law_latest.proofs.AdminLines as admins
use Rattle.law_latest.proofs.AdminLines.{admin_tells, AdminTells}
use Rattle.law_latest.proofs.ClientLines.{client_tells}
use Rattle.law_latest.proofs.CopyLines.{copy_begun_tells, copy_missed_tells, copy_tells, copy_waited_tells, CopyTells}
use Rattle.law_latest.proofs.LocLines.{database_tells, loc_restarted, loc_served, LocTells}
use Rattle.law_latest.proofs.ServerLines.{carried_told, deed_told, granted_told, owes_told, server_tells, timed_told, turned_told_by, vanished_told, weaker, AreOfServer}
use Rattle.law_legal.proofs.BaseLaws.{at_put, node_apart, same_node-refl}
use Rattle.law_legal.proofs.BaseWords.{up_boot}
use Rattle.law_legal.proofs.OwedLoadBreaks.{onto_both}
use Rattle.law_legal.proofs.OwedPasses as law
use Rattle.law_legal.proofs.RunSetUp.{first_passed}
use Rattle.law_legal.proofs.ServerBoots.{all_same, is_server, is_standing}
use Rattle.law_legal.specs.Ideal.{set_up_entry}
use Rattle.law_legal.specs.Past.{lines_of, onto, server_boot}
use Rattle.law_places.proofs.Turning.{all_lines, all_on}

abbrev AreStanding : List Line → Type 0
AreStanding ls = all_lines is_standing ls ≡ true

-- ---- by kinds of lines: no server stops or begins again

as_law : (ls : List Line) → AreStanding ls → law.all_lines is_standing ls ≡ true
as_law [] h = refl
as_law (l ∷ ls) h = let k = both (is_standing l) (all_lines is_standing ls) h in rw (k.0, as_law ls k.1) refl

boot_same : (j : ℕ) (ls o : List Line) → AreStanding ls → server_boot (Server j) (onto o ls) ≡ server_boot (Server j) o
boot_same j ls o h = (all_same j ls o (as_law ls h)).boot

client_one : (l : Line) → client_tells l ≡ true → is_standing l ≡ true
client_one (lines.Crash n) h = absurd cc
client_one (lines.Fault n) h = absurd cc
client_one (lines.Restart n boot) h = absurd cc
client_one l h = refl

admin_one : (l : Line) → admin_tells l ≡ true → is_standing l ≡ true
admin_one (lines.Crash n) h = absurd cc
admin_one (lines.Fault n) h = absurd cc
admin_one (lines.Restart n boot) h = absurd cc
admin_one l h = refl

server_one : (l : Line) → server_tells l ≡ true → is_standing l ≡ true
server_one (lines.Crash n) h = absurd cc
server_one (lines.Fault n) h = absurd cc
server_one (lines.Restart n boot) h = absurd cc
server_one l h = refl

loc_apart : (n : Node) → same_node n Loc ≡ true → not (is_server n) ≡ true
loc_apart Loc h = refl
loc_apart (Server j) h = absurd cc
loc_apart (Client j) h = absurd cc
loc_apart (Admin j) h = absurd cc

database_one : (l : Line) → database_tells l ≡ true → is_standing l ≡ true
database_one (lines.Crash n) h = loc_apart n h
database_one (lines.Fault n) h = loc_apart n h
database_one (lines.Restart n boot) h = loc_apart n h
database_one l h = refl

of_client : (s : Step CopyState) → CopyTells s → AreStanding s.lines
of_client s h = weaker client_tells is_standing client_one s.lines h.told

of_admin : (s : Step AdminState) → AdminTells s → AreStanding s.lines
of_admin s h = weaker admin_tells is_standing admin_one s.lines h.told

of_database : (s : HostStep LocState) → LocTells s → AreStanding s.lines
of_database s h = weaker database_tells is_standing database_one s.lines h.told

of_server : (ls : List Line) → AreOfServer ls → AreStanding ls
of_server ls h = weaker server_tells is_standing server_one ls h

-- ---- a server's rows

versioned_stand : (vs : List Version) (xs : List Line) → AreStanding xs → AreStanding (versioned vs xs)
versioned_stand [] xs k = k
versioned_stand (v ∷ vs) xs k = versioned_stand vs xs k

does_stand : (me : Node) (x : ServerState) (clock place : ℕ) (d : Decision) (ls : List Line) → AreOfServer ls → AreStanding (does me x clock place d ls).lines
does_stand me x clock place file.drops ls h = of_server ls h
does_stand me x clock place (file.tells_boot head) ls h = of_server ls h
does_stand me x clock place (file.repeats reply) ls h = of_server ls h
does_stand me x clock place (file.refuses head code) ls h = of_server ls h
does_stand me x clock place (file.shows head r) ls h = of_server (granted me head.from (clock + promise_ticks) r.granted ls) (granted_told me head.from (clock + promise_ticks) r.granted ls h)
does_stand me x clock place (file.saves head c) ls h = versioned_stand (versions_made c) (granted me head.from (clock + promise_ticks) (granted_in c) ls) (of_server (granted me head.from (clock + promise_ticks) (granted_in c) ls) (granted_told me head.from (clock + promise_ticks) (granted_in c) ls h))

file_stands : (me : Node) (s : NodeState) (clock place : ℕ) (m : Message) → AreStanding (file_row me (holds_of s.vol.transactions) s.file clock place (Whole m)).lines
unfolding file_row
file_stands me s clock place m =
    let d : Decision = node_file_decides me s clock (Whole m) in
    let t : CallbackStep = turned_in me s.file clock (expired clock s.file.backs) d (Whole m) in
    does_stand me s.file clock place d t.lines (carried_told me s.file clock (expired clock s.file.backs) d m.head m.carried)

saved_stands : (me : Node) (s : NodeState) (clock place : ℕ) (m : Message) (head : Head) (x : Deed) → is_of_client (from_of (Whole m)) ≡ false → vol_decides me (durable_of s.file.lasting) s.vol (Whole m) ≡ vols.saves head x → AreStanding (node_row me s clock place (Whole m)).lines
saved_stands me s clock place m head x other is =
    let d : Durable = durable_of s.file.lasting in
    let shown : ShowsDeed me s clock place head x (node_row me s clock place (Whole m)) = deeds_are_shown me s clock place (Whole m) head x other is in
    let writable = subst (OfSaved (IsWritable d)) is (deeds_are_writable me d s.vol (Whole m)) in
    let owes : List Line = map (owe_line me) (owes_of x.withdraws (expired clock s.file.backs).lists) in
    subst AreStanding (sym shown.lines)
    (of_server (effect_by me (deed_head head x) x.body d ++ owes) (all_on server_tells (effect_by me (deed_head head x) x.body d) owes (deed_told me (deed_head head x) x.body d writable.taken) (owes_told me (owes_of x.withdraws (expired clock s.file.backs).lists))))

quiet_stands : (me : Node) (s : NodeState) (clock place : ℕ) (m : Message) → is_of_client (from_of (Whole m)) ≡ false → is_saved (vol_decides me (durable_of s.file.lasting) s.vol (Whole m)) ≡ false → AreStanding (node_row me s clock place (Whole m)).lines
unfolding node_row
quiet_stands me s clock place m other quiet = rw other (of_server (vol_turned_by me s.file.lasting s.vol (expired clock s.file.backs) (vol_decides me (durable_of s.file.lasting) s.vol (Whole m)) m.head m.carried).lines
    (turned_told_by me s.file.lasting s.vol (expired clock s.file.backs) (vol_decides me (durable_of s.file.lasting) s.vol (Whole m)) m.head m.carried quiet))

vol_stands : (me : Node) (s : NodeState) (clock place : ℕ) (m : Message) (d : VolDecision) → is_of_client (from_of (Whole m)) ≡ false → vol_decides me (durable_of s.file.lasting) s.vol (Whole m) ≡ d → AreStanding (node_row me s clock place (Whole m)).lines
vol_stands me s clock place m (vols.saves head x) other is = saved_stands me s clock place m head x other is
vol_stands me s clock place m d other is = quiet_stands me s clock place m other (ap is_saved is)

row_by : (b : Bool) (me : Node) (s : NodeState) (clock place : ℕ) (m : Message) → is_of_client (from_of (Whole m)) ≡ b → AreStanding (node_row me s clock place (Whole m)).lines
unfolding node_row
row_by true me s clock place m is = rw is (file_stands me s clock place m)
row_by false me s clock place m is = vol_stands me s clock place m (vol_decides me (durable_of s.file.lasting) s.vol (Whole m)) is refl

row_stands : (me : Node) (s : NodeState) (clock place : ℕ) (m : Message) → AreStanding (node_row me s clock place (Whole m)).lines
row_stands me s clock place m = row_by (is_of_client (from_of (Whole m))) me s clock place m refl

piece_stands : (me : Node) (s : NodeState) (clock : ℕ) (n : Node) (c : PieceCall) → AreStanding (piece_timeout_row me s clock n c).lines
unfolding piece_timeout_row
piece_stands me s clock n c = of_server (vol_timed me s.file.lasting s.vol (expired clock s.file.backs) n c (s.vol.sendings n)).lines (timed_told me s.file.lasting s.vol (expired clock s.file.backs) n c (s.vol.sendings n))

quits_stand : (me n : Node) (os : List OwedBreak) → AreStanding (map (quit_line me n) os)
quits_stand me n [] = refl
quits_stand me n (o ∷ os) = quits_stand me n os

either_stands : (t : Bool) (a b : CallbackStep) → AreStanding a.lines → AreStanding b.lines → AreStanding (cond t a b).lines
either_stands true a b h k = h
either_stands false a b h k = k

late_stands : (me : Node) (boot : ℕ) (n : Node) (c : BackCall) (b : Backs) → AreStanding (call_timed_out me boot n c b).lines
late_stands me boot n c b = either_stands (is_sent_again c.tries) _ _ refl (quits_stand me n (still_owed c b))

back_stands : (me : Node) (s : NodeState) (clock : ℕ) (n : Node) (c : BackCall) → AreStanding (node_back_timeout_row me s clock n c).lines
unfolding node_back_timeout_row back_timeout_row
back_stands me s clock n c = late_stands me s.file.lasting.boot n c (expired clock s.file.backs)

woken_stands : (me : Node) (s : NodeState) (clock : ℕ) → AreStanding (node_wake_row me s clock).lines
unfolding node_wake_row wake_row
woken_stands me s clock = refl

-- ---- what a restart tells first

record Fronted (f : Begun NodeState) : Type 0 where
  front : List Line
  is : (ls : List Line) → f.before ls ≡ front ++ ls
  stands : AreStanding front

versioned_front : (vs : List Version) (ls : List Line) → versioned vs ls ≡ versioned vs [] ++ ls
versioned_front [] ls = refl
versioned_front (v ∷ vs) ls = ap (λ (xs : List Line). lines.Version v ∷ xs) (versioned_front vs ls)

plain_front : (s : NodeState) → Fronted (record { state = s; before = λ ls. ls })
plain_front s = record { front = []; is = λ ls. refl; stands = refl }

file_front : (me : Node) (s : NodeState) (clock : ℕ) (d : Decision) → Fronted (node_begun s (begun_after me s.file clock d))
file_front me s clock file.drops = record { front = []; is = λ ls. refl; stands = refl }
file_front me s clock (file.tells_boot head) = record { front = []; is = λ ls. refl; stands = refl }
file_front me s clock (file.repeats reply) = record { front = []; is = λ ls. refl; stands = refl }
file_front me s clock (file.refuses head code) = record { front = []; is = λ ls. refl; stands = refl }
file_front me s clock (file.shows head r) = record { front = []; is = λ ls. refl; stands = refl }
file_front me s clock (file.saves head c) = record {
  front = lines.Change me (key_of head) (length (versions_made c)) ∷ versioned (versions_made c) [];
  is = λ ls. ap (λ (xs : List Line). lines.Change me (key_of head) (length (versions_made c)) ∷ xs) (versioned_front (versions_made c) ls);
  stands = versioned_stand (versions_made c) [] refl;
}

vol_front : (me : Node) (s : NodeState) (d : VolDecision) → OfSaved (IsWritable (durable_of s.file.lasting)) d → Fronted (node_begun s (vol_begun_after me s.file d))
vol_front me s vols.drops w = record { front = []; is = λ ls. refl; stands = refl }
vol_front me s (vols.tells_boot head) w = record { front = []; is = λ ls. refl; stands = refl }
vol_front me s (vols.repeats reply) w = record { front = []; is = λ ls. refl; stands = refl }
vol_front me s (vols.replies_to head reply ts last) w = record { front = []; is = λ ls. refl; stands = refl }
vol_front me s (vols.dispatches head x) w = record { front = []; is = λ ls. refl; stands = refl }
vol_front me s (vols.saves head x) w = record { front = deed_lines me head x s.file.lasting; is = λ ls. refl; stands = of_server (effect_by me (deed_head head x) x.body (durable_of s.file.lasting)) (deed_told me (deed_head head x) x.body (durable_of s.file.lasting) w.taken) }

cut_front : (b : Bool) (me : Node) (s : NodeState) (clock : ℕ) (m : Message)
    → Fronted (node_begun s (cond b (begun_after me s.file clock (node_file_decides me s clock (Whole m))) (vol_begun_after me s.file (vol_decides me (durable_of s.file.lasting) s.vol (Whole m)))))
cut_front true me s clock m = file_front me s clock (node_file_decides me s clock (Whole m))
cut_front false me s clock m = vol_front me s (vol_decides me (durable_of s.file.lasting) s.vol (Whole m)) (deeds_are_writable me (durable_of s.file.lasting) s.vol (Whole m))

begun_front : (me : Node) (s : NodeState) (after : Bool) (fall : Fall) → Fronted (begun_from (node_kind me) s after fall)
begun_front me s after at_rest = record { front = []; is = λ ls. refl; stands = refl }
begun_front me s false (in_step m clock b) = record { front = []; is = λ ls. refl; stands = refl }
begun_front me s true (in_step m clock b) = cut_front (is_of_client (from_of (Whole m))) me s clock m
begun_front me s false in_boot = record { front = []; is = λ ls. refl; stands = refl }
begun_front me s true in_boot = record { front = vanished_lines me s.file.lasting.volumes; is = λ ls. refl; stands = of_server (vanished_lines me s.file.lasting.volumes) (vanished_told me s.file.lasting.volumes) }

-- ---- a server's step, behind these lines

server_number : (i j : ℕ) → Server i ≡ Server j → i ≡ j
server_number i j e = cc

stop_own : (i : ℕ) (b : Bool) (o : List Line) → server_boot (Server i) (fall_line (Server i) b ∷ o) ≡ None
stop_own i true o = rw (same_node-refl (Server i)) refl
stop_own i false o = rw (same_node-refl (Server i)) refl

stop_other : (i j : ℕ) (b : Bool) (o : List Line) → (i ≡ j → ⊥) → server_boot (Server j) (fall_line (Server i) b ∷ o) ≡ server_boot (Server j) o
stop_other i j true o ne = rw (node_apart (Server i) (Server j) (λ e. ne (server_number i j e))) refl
stop_other i j false o ne = rw (node_apart (Server i) (Server j) (λ e. ne (server_number i j e))) refl

abbrev boot_in : NodeHost → Option ℕ
boot_in h = up_boot h.down h.state.file.lasting.boot

record TellsBoot (i : ℕ) (o : List Line) (s : HostStep NodeState) : Type 0 where
  own : server_boot (Server i) (onto o s.lines) ≡ boot_in s.host
  others : (j : ℕ) → (i ≡ j → ⊥) → server_boot (Server j) (onto o s.lines) ≡ server_boot (Server j) o

steps_boot : (me : Node) (a b : Memory) (new : List RanCall) → Steps me a b new → b.boot ≡ a.boot
steps_boot me a b [] k = k.boot
steps_boot me a b (r ∷ []) k = k.stores.boot
steps_boot me a b (r ∷ q ∷ rs) k = absurd k

module _ (i : ℕ) (o : List Line) (h : NodeHost) (was : server_boot (Server i) o ≡ boot_in h) where
  stands_so : (s : HostStep NodeState) → AreStanding s.lines → boot_in s.host ≡ boot_in h → TellsBoot i o s
  stands_so s stand same = record { own = boot_same i s.lines o stand ∙ (was ∙ sym same); others = λ j ne. boot_same j s.lines o stand }

  -- in the boot in which it is up
  goes_on : (s : HostStep NodeState) → AreStanding s.lines → h.down ≡ None → s.host.down ≡ None → s.host.state.file.lasting.boot ≡ h.state.file.lasting.boot → TellsBoot i o s
  goes_on s stand up still same = stands_so s stand (rw (up, still, same) refl)

  -- behind lines in which nobody stops
  stops_so : (s : HostStep NodeState) (front : List Line) (b : Bool) → s.lines ≡ front ++ (fall_line (Server i) b ∷ []) → AreStanding front → boot_in s.host ≡ None → TellsBoot i o s
  stops_so s front b is stand down =
      let at : onto o s.lines ≡ fall_line (Server i) b ∷ onto o front = ap (onto o) is ∙ onto_both o front (fall_line (Server i) b ∷ []) in
      record {
        own = ap (server_boot (Server i)) at ∙ (stop_own i b (onto o front) ∙ sym down);
        others = λ j ne. ap (server_boot (Server j)) at ∙ (stop_other i j b (onto o front) ne ∙ boot_same j front o stand);
      }

  serves_by : (clock place : ℕ) (m : Message) (b : Option Blow) → h.down ≡ None → TellsBoot i o (served_by (node_kind (Server i)) h clock place m b)
  serves_by clock place m None up =
      goes_on (served_by (node_kind (Server i)) h clock place m None) (row_stands (Server i) h.state clock place m) up refl
      (steps_boot (Server i) (memory h.state) (memory (node_row (Server i) h.state clock place (Whole m)).state) (server_ran (Server i) h.state clock m) (row_steps (Server i) h.state clock place m))
  serves_by clock place m (Some b) up = stops_so (served_by (node_kind (Server i)) h clock place m (Some b)) (lines.Given place ∷ []) b.stops refl refl refl

  piece_boot : (clock : ℕ) (n : Node) (p : PieceCall) → h.down ≡ None → TellsBoot i o (piece_timed_out (Server i) h clock n p)
  piece_boot clock n p up = goes_on (piece_timed_out (Server i) h clock n p) (piece_stands (Server i) h.state clock n p) up refl (piece_keeps (Server i) h.state clock n p).boot

  break_boot : (clock : ℕ) (n : Node) (b : BackCall) → h.down ≡ None → TellsBoot i o (node_timed_out (Server i) h clock n b)
  break_boot clock n b up = goes_on (node_timed_out (Server i) h clock n b) (back_stands (Server i) h.state clock n b) up refl (back_keeps (Server i) h.state clock n b).boot

  woken_boot : (clock : ℕ) → h.down ≡ None → TellsBoot i o (node_woken (Server i) h clock)
  woken_boot clock up = goes_on (node_woken (Server i) h clock) (woken_stands (Server i) h.state clock) up refl (wake_keeps (Server i) h.state clock).boot

  -- ---- a restart

  -- the line of its restart, and then notes
  rises_by : (f : Begun NodeState) (s : HostStep NodeState) (boot : ℕ) (notes : List Line) → Fronted f → s.lines ≡ f.before (lines.Restart (Server i) boot ∷ notes) → AreStanding notes → server_boot (Server i) o ≡ None → boot_in s.host ≡ Some boot → TellsBoot i o s
  rises_by f s boot notes z is stand down up =
      let rise : Line = lines.Restart (Server i) boot in
      let at : onto o s.lines ≡ onto (rise ∷ onto o z.front) notes = ap (onto o) (is ∙ z.is (rise ∷ notes)) ∙ onto_both o z.front (rise ∷ notes) in
      let none : server_boot (Server i) (onto o z.front) ≡ None = boot_same i z.front o z.stands ∙ down in
      let begun : server_boot (Server i) (rise ∷ onto o z.front) ≡ Some boot = rw (same_node-refl (Server i), none) refl in
      record {
        own = ap (server_boot (Server i)) at ∙ (boot_same i notes (rise ∷ onto o z.front) stand ∙ (begun ∙ sym up));
        others = λ j ne.
            let apart : server_boot (Server j) (rise ∷ onto o z.front) ≡ server_boot (Server j) (onto o z.front) = rw (node_apart (Server i) (Server j) (λ e. ne (server_number i j e))) refl in
            ap (server_boot (Server j)) at ∙ (boot_same j notes (rise ∷ onto o z.front) stand ∙ (apart ∙ boot_same j z.front o z.stands));
      }

  rises_so : (clock count : ℕ) (f : Begun NodeState) (s : HostStep NodeState) → Fronted f → s.lines ≡ (node_start_row (Server i) clock count (file_begun f)).lines → s.host.down ≡ None → s.host.state ≡ (node_start_row (Server i) clock count (file_begun f)).state → server_boot (Server i) o ≡ None → TellsBoot i o s
  unfolding node_start_row file_start
  rises_so clock count f s z is up same down =
      rises_by f s (f.state.file.lasting.boot + 1) (vanished_lines (Server i) f.state.file.lasting.volumes ++ (risen_turn (Server i) clock count).lines) z is
      (of_server (vanished_lines (Server i) f.state.file.lasting.volumes ++ (risen_turn (Server i) clock count).lines) (all_on server_tells (vanished_lines (Server i) f.state.file.lasting.volumes) (risen_turn (Server i) clock count).lines (vanished_told (Server i) f.state.file.lasting.volumes) (owes_told (Server i) (risen_turn (Server i) clock count).backs.lists.owed)))
      down (rw (up, same) refl)

  one_more : (l : Line) → is_standing l ≡ true → AreStanding (l ∷ [])
  one_more l h = rw h refl

  ends_boot : (clock count : ℕ) (f : Begun NodeState) (fall : Fall) (out : Outcome) → Fronted f → server_boot (Server i) o ≡ None → TellsBoot i o (ends (node_kind (Server i)) h clock count f fall out)
  ends_boot clock count f fall comes_up z down = rises_so clock count f (ends (node_kind (Server i)) h clock count f fall comes_up) z refl refl refl down
  ends_boot clock count f fall fails_early z down = stops_so (ends (node_kind (Server i)) h clock count f fall fails_early) [] false refl refl refl
  ends_boot clock count f fall fails_midway z down = stops_so (ends (node_kind (Server i)) h clock count f fall fails_midway) z.front false (z.is (lines.Fault (Server i) ∷ [])) z.stands refl
  ends_boot clock count f fall is_full z down =
      let s : HostStep NodeState = ends (node_kind (Server i)) h clock count f fall is_full in
      let stand : AreStanding s.lines = subst AreStanding (sym (z.is (lines.Full (Server i) ∷ []))) (all_on is_standing z.front (lines.Full (Server i) ∷ []) z.stands refl) in
      record { own = boot_same i s.lines o stand ∙ down; others = λ j ne. boot_same j s.lines o stand }

  restarts_boot : (clock count : ℕ) (after : Bool) (out : Outcome) (fall : Fall) → h.down ≡ Some fall → TellsBoot i o (restarted (node_kind (Server i)) h clock count after out fall)
  restarts_boot clock count after out fall down =
      ends_boot clock count (begun_from (node_kind (Server i)) h.state after fall) fall (without_boot_record ((node_kind (Server i)).can_start (begun_from (node_kind (Server i)) h.state after fall).state) out) (begun_front (Server i) h.state after fall)
      (was ∙ ap (λ (d : Option Fall). up_boot d h.state.file.lasting.boot) down)

-- ---- a cell

abbrev pub BootsAre : NodeCell → List Line → Type 0
BootsAre c ls = (j : ℕ) → server_boot (Server j) ls ≡ boot_in (c.hosts j)

module _ (c : NodeCell) (o : List Line) (was : BootsAre c o) where
  record Next (m : NodeMoved) : Type 0 where
    boots : BootsAre m.cell (onto o m.entry.lines)

  host_next : (i : ℕ) (s : HostStep NodeState) → TellsBoot i o s → Next (server_stepped c i s)
  host_next i s k = record {
    boots = λ j. at_put i j (λ (x : NodeHost). server_boot (Server j) (onto o s.lines) ≡ boot_in x) s.host c.hosts (λ same. subst (λ (q : ℕ). server_boot (Server q) (onto o s.lines) ≡ boot_in s.host) same k.own) (λ ne. k.others j ne ∙ was j);
  }

  standing_next : (m : NodeMoved) → m.cell.hosts ≡ c.hosts → AreStanding m.entry.lines → Next m
  standing_next m hosts stand = record { boots = λ j. boot_same j m.entry.lines o stand ∙ (was j ∙ ap (λ (f : ℕ → NodeHost). boot_in (f j)) (sym hosts)) }

  next : (x : CellInput) → Next (node_moved c x)
  next x = each Next c (record {
    void = standing_next _ refl refl;
    ticks = λ n. standing_next _ refl refl;
    servers = record {
      serves = λ i place luck m up g. host_next i _ (serves_by i o (c.hosts i) (was i) c.clock place m (struck (c.hosts i).armed luck _) up.up);
      crashes = λ i up. host_next i _ (stops_so i o (c.hosts i) (was i) (crashed (node_kind (Server i)) (c.hosts i)) [] true refl refl refl);
      stop_set = λ i calls pick up. host_next i _ (stands_so i o (c.hosts i) (was i) (set_to_stop (node_kind (Server i)) (c.hosts i) calls pick) refl refl);
      fail_set = λ i call up. host_next i _ (stands_so i o (c.hosts i) (was i) (set_to_fail (node_kind (Server i)) (c.hosts i) call) refl refl);
      restarts = λ i after out fall there down. host_next i _ (restarts_boot i o (c.hosts i) (was i) c.clock c.count after out fall down);
      piece_late = λ i n p up is. host_next i _ (piece_boot i o (c.hosts i) (was i) c.clock n p up.up);
      break_late = λ i n b up is. host_next i _ (break_boot i o (c.hosts i) (was i) c.clock n b up.up);
      wakes = λ i up. host_next i _ (woken_boot i o (c.hosts i) (was i) c.clock up.up);
    };
    database = record {
      serves = λ place luck m up g. standing_next _ refl (of_database _ (loc_served c.loc c.clock place luck m));
      crashes = λ up. standing_next _ refl refl;
      stop_set = λ calls pick up. standing_next _ refl refl;
      fail_set = λ call up. standing_next _ refl refl;
      restarts = λ after out fall down. standing_next _ refl (of_database _ (loc_restarted c.loc c.clock c.count after out fall));
    };
    clients = record {
      begins = λ n act up idle. standing_next _ refl (of_client _ (copy_begun_tells (Client n) (c.clients n) c.clock act));
      given = λ n place m up g. standing_next _ refl (of_client _ (copy_tells (Client n) (c.clients n) c.clock place m));
      seek_late = λ n k up is. standing_next _ refl (of_client _ (copy_missed_tells (Client n) (c.clients n) k));
      late = λ n act up is. standing_next _ refl (of_client _ (copy_waited_tells (Client n) (c.clients n) act));
      stops = λ n up. standing_next _ refl refl;
      starts = λ n away. standing_next _ refl refl;
    };
    admins = record {
      begins = λ n act up idle. standing_next _ refl (of_admin _ (admins.begun_tells (Admin n) (c.admins n) act));
      given = λ n place m up g. standing_next _ refl (of_admin _ (admins.given_tells (Admin n) (c.admins n) place m));
      late = λ n r up is. standing_next _ refl (of_admin _ (admins.waited_tells (Admin n) (c.admins n) r));
      stops = λ n up. standing_next _ refl refl;
      starts = λ n gone. standing_next _ refl refl;
    };
  }) x

pub boots_next : (c : NodeCell) (es : List Entry) → BootsAre c (lines_of es) → (x : CellInput) → BootsAre (node_moved c x).cell (lines_of ((node_moved c x).entry ∷ es))
boots_next c es was x = (next c (lines_of es) was x).boots

pub boots_first : (s : Script) → BootsAre (node_start s) (lines_of (set_up_entry s ∷ []))
boots_first s j = first_passed (λ (o : List Line). server_boot (Server j) o ≡ Some 1) (λ v o h. h) s.volumes [] refl
