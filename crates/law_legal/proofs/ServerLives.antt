-- A server that is up goes on or stops, and one that is down does nothing but begin again, in the next boot that it may not have written,
-- however many a cell has.
use Rattle.spec_breaks.specs.declared.types.OwedBreak.{OwedBreak}
use Rattle.spec_history.specs.declared.lines.Line.{Line}
use Rattle.spec_history.specs.declared.lines.Line.TheVariants as lines
use Rattle.spec_history.specs.declared.scripts.Script.{Script}
use Rattle.law_legal.proofs.OwedPasses.{all_lines}
use Rattle.law_legal.proofs.BaseLaws.{at_put, both, node_apart, same_node-refl}
use Rattle.law_legal.proofs.ServerBoots.{HasFront, all_same, disk_front, is_running, is_server, is_standing, notes_standing, serves_running, started_lines, times_running, wakes_running}
use Rattle.law_legal.proofs.VolumeChanges.{run_each}
use Rattle.law_legal.proofs.ServerHears.{served_boot, started_boot, timed_state, woken_state}
use Rattle.law_legal.proofs.OwedLoadBreaks.{onto_both}
use Rattle.law_legal.proofs.RunWalk.{EachMove, IsKept, each_moved}
use Rattle.law_legal.proofs.RunLinesInPlace.{Placed, PlacedStep, placed_first, placed_kept, placed_moves}
use Rattle.law_legal.proofs.RunSetUp.{AreVersions, all_versions}
use Rattle.law_legal.proofs.BaseWords.{up_boot}
use Rattle.law_legal.specs.Ideal.{first_lines, set_up_entry}
use Rattle.law_legal.specs.Legal.{IsInPlace, IsOfDisk}
use Rattle.law_legal.specs.Lives.{AreCalls, AreOwes, IsHostLived, IsStart, TellsNoStop, last_written, boot_written}
use Rattle.law_legal.specs.Parts.{EachEntry, EachLine}
use Rattle.law_legal.specs.Past.{lines_of, onto, server_boot}
use Rattle.afs_num.specs.Nodes.{same_node}
use Rattle.afs_num.specs.declared.histories.Actor.{Actor}
use Rattle.afs_num.specs.declared.histories.Actor.TheVariants as actors
use Rattle.afs_num.specs.declared.histories.Version.{Version}
use Rattle.afs_num.specs.declared.messages.Message.{Message}
use Rattle.afs_num.specs.declared.messages.Received.TheVariants.{Whole}
use Rattle.afs_num.specs.declared.types.Node.{Node}
use Rattle.afs_num.specs.declared.types.Node.TheVariants.{Admin, Client, Loc, Server}
use Rattle.spec_rows.specs.Callbacks.{Started, owe_line, put, risen_turn, starts, starts_by}
use Rattle.spec_rows.specs.ClientRow.{begin_row, client_row, timeout_row, seek_timeout_row, sought_by}
use Rattle.law_legal.proofs.RunSteps.{blow_line, server_falls, server_moves, server_set, server_stays, loc_becomes}
use Rattle.spec_rows.specs.Runs.{Armed, Cell, Entry, Fall, Moved, RunsTo, at_rest, begun_by_disk, client_falls, client_moves, client_rises, in_boot, in_step, start, ticked, unarmed, voided, ServerHost}
use Rattle.spec_rows.specs.ServerRow.{Decision, begun_after, decides, drops, versions_made, refuses, repeats, saves, shows, tells_boot, versioned}
use Rattle.spec_rows.specs.ServerSteps.{back_timeout_row, server_row, start_row, wake_row}
use Rattle.spec_rows.specs.States.{BackCall, ServerState}
use Rattle.spec_rows.specs.Steps.{Step, Begun}
use Rattle.std.proofs.Common.{suc, ◌+◌, ◌≤◌, ◌≡◌, ◌⊎◌, inl, inr, ℕ, Bool, true, false, cond, List, [], ◌∷◌, ◌++◌, map, Option, Some, None, refl, sym, ap, subst, ◌∙◌, arith}
use Rattle.std.proofs.Math.Nat.{le_of_eq, le_refl, le_trans}
use Rattle.std.specs.Prelude.{⊤, ◌&&◌, not}

-- ---- the boots that may be on a server's disk

running_written : (s : Node) (ls o : List Line) → all_lines is_running ls ≡ true → last_written s (onto o ls) ≡ last_written s o
running_written s [] o h = refl
running_written s (lines.Crash n ∷ ls) o h = absurd cc
running_written s (lines.Fault n ∷ ls) o h = absurd cc
running_written s (lines.Restart n boot ∷ ls) o h = absurd cc
running_written s (l ∷ ls) o h = running_written s ls (l ∷ o) (both (is_running l) (all_lines is_running ls) h).1

stop_apart : (n : Node) (i : ℕ) → not (is_server n) ≡ true → same_node n (Server i) ≡ false
stop_apart (Server k) i h = absurd cc
stop_apart (Client k) i h = refl
stop_apart (Admin k) i h = refl
stop_apart Loc i h = refl

standing_written : (i : ℕ) (ls o : List Line) → all_lines is_standing ls ≡ true → last_written (Server i) (onto o ls) ≡ last_written (Server i) o
standing_written i [] o h = refl
standing_written i (lines.Fault n ∷ ls) o h =
    let q = both (not (is_server n)) (all_lines is_standing ls) h in
    standing_written i ls (lines.Fault n ∷ o) q.1 ∙ ap (λ (t : Bool). cond t (boot_written (server_boot (Server i) o) (last_written (Server i) o)) (last_written (Server i) o)) (stop_apart n i q.0)
standing_written i (lines.Restart n boot ∷ ls) o h =
    let q = both (not (is_server n)) (all_lines is_standing ls) h in
    standing_written i ls (lines.Restart n boot ∷ o) q.1 ∙ ap (λ (t : Bool). cond t boot (last_written (Server i) o)) (stop_apart n i q.0)
standing_written i (l ∷ ls) o h = standing_written i ls (l ∷ o) (both (is_standing l) (all_lines is_standing ls) h).1

-- those of other nodes' entries leave it
other_server : (who : Actor) (n : Node) (i : ℕ) → (who ≡ actors.Node (Server i) → ⊥) → IsOfDisk who n → same_node n (Server i) ≡ false
other_server who (Server k) i other of = node_apart (Server k) (Server i) (λ e. other (of ∙ ap actors.Node e))
other_server who (Client k) i other of = absurd of
other_server who (Admin k) i other of = absurd of
other_server who Loc i other of = refl

others_written : (s : Script) (who : Actor) (i : ℕ) (past : List Entry) (own ls o : List Line) → (who ≡ actors.Node (Server i) → ⊥) → EachLine (IsInPlace s) who past own ls → last_written (Server i) (onto o ls) ≡ last_written (Server i) o
others_written s who i past own [] o other p = refl
others_written s who i past own (lines.Fault n ∷ ls) o other p =
    others_written s who i past (lines.Fault n ∷ own) ls (lines.Fault n ∷ o) other p.1 ∙ ap (λ (t : Bool). cond t (boot_written (server_boot (Server i) o) (last_written (Server i) o)) (last_written (Server i) o)) (other_server who n i other p.0)
others_written s who i past own (lines.Restart n boot ∷ ls) o other p =
    others_written s who i past (lines.Restart n boot ∷ own) ls (lines.Restart n boot ∷ o) other p.1 ∙ ap (λ (t : Bool). cond t boot (last_written (Server i) o)) (node_apart n (Server i) (λ e. other (p.0.0 ∙ ap actors.Node e)))
others_written s who i past own (l ∷ ls) o other p = others_written s who i past (l ∷ own) ls (l ∷ o) other p.1

-- a failure of its own disk raises it at most
least : (o : Option ℕ) (n : ℕ) → n ≤ boot_written o n
least None n = omega arith
least (Some boot) n = le_refl n

fault_least : (t : Bool) (o : Option ℕ) (n : ℕ) → n ≤ cond t (boot_written o n) n
fault_least true o n = least o n
fault_least false o n = le_refl n

blow_least : (i : ℕ) (t : Bool) (o : List Line) → last_written (Server i) o ≤ last_written (Server i) (blow_line i t ∷ o)
blow_least i true o = le_refl _
blow_least i false o = fault_least (same_node (Server i) (Server i)) (server_boot (Server i) o) (last_written (Server i) o)

-- the boot that its disk has, or may have since a restart failed
abbrev pub reached : ℕ → Option Fall → ℕ
reached boot None = boot
reached boot (Some at_rest) = boot
reached boot (Some (in_step m clock hit)) = boot
reached boot (Some in_boot) = boot + 1

found_after : (me : Node) (x : ServerState) (clock : ℕ) (d : Decision) → (begun_after me x clock d).state.lasting.boot ≡ x.lasting.boot
found_after me x clock drops = refl
found_after me x clock (tells_boot head) = refl
found_after me x clock (repeats reply) = refl
found_after me x clock (refuses head code) = refl
found_after me x clock (shows head r) = refl
found_after me x clock (saves head c) = refl

found : (me : Node) (x : ServerState) (after : Bool) (fall : Fall) → (begun_by_disk me x after fall).state.lasting.boot ≤ reached x.lasting.boot (Some fall)
found me x after at_rest = le_refl _
found me x false (in_step m clock hit) = le_refl _
found me x true (in_step m clock hit) = le_of_eq (found_after me x clock (decides me x clock (Whole m)))
found me x false in_boot = omega arith
found me x true in_boot = le_refl _

-- ---- the entries of a server

pub goes_on : (ls : List Line) → all_lines is_running ls ≡ true → TellsNoStop ls
goes_on [] h = tt
goes_on (lines.Crash n ∷ ls) h = absurd cc
goes_on (lines.Fault n ∷ ls) h = absurd cc
goes_on (lines.Restart n boot ∷ ls) h = absurd cc
goes_on (lines.Full n ∷ ls) h = absurd cc
goes_on (l ∷ ls) h = goes_on ls (both (is_running l) (all_lines is_running ls) h).1

blow_lived : (i place boot most : ℕ) (t : Bool) → IsHostLived (Some boot) most (lines.Given place ∷ blow_line i t ∷ []) []
blow_lived i place boot most true = inr (tt, refl)
blow_lived i place boot most false = inr (tt, refl)

all_owes : (me : Node) (os : List OwedBreak) → AreOwes (map (owe_line me) os)
all_owes me [] = tt
all_owes me (o ∷ os) = all_owes me os

calls_both : (a b : List Message) → AreCalls a → AreCalls b → AreCalls (a ++ b)
calls_both [] b h k = k
calls_both (m ∷ a) b h k = (h.0, calls_both a b h.1 k)

start_calls : (me : Node) (boot : ℕ) (t : Started) (o : OwedBreak) (c : Option BackCall) → AreCalls t.sent → AreCalls (starts_by me boot t o c).sent
start_calls me boot t o None h = calls_both t.sent _ h (tt, tt)
start_calls me boot t o (Some c) h = h

starts_calls : (me : Node) (boot : ℕ) (os : List OwedBreak) (t : Started) → AreCalls t.sent → AreCalls (starts me boot os t).sent
starts_calls me boot [] t h = h
starts_calls me boot (o ∷ os) t h = starts_calls me boot os (starts_by me boot t o (t.backs.calls o.client)) (start_calls me boot t o (t.backs.calls o.client) h)

pub start_sends : (i clock count : ℕ) (f : Begun ServerState) → AreCalls (start_row (Server i) clock count f).sent
unfolding start_row
start_sends i clock count f = starts_calls (Server i) (f.state.lasting.boot + 1) (risen_turn (Server i) clock count).backs.lists.owed _ tt

-- what a restart finds stands first
behind_versions : (most : ℕ) (vs : List Version) (ls : List Line) (sent : List Message) → IsStart most ls sent → IsStart most (versioned vs ls) sent
behind_versions most [] ls sent h = h
behind_versions most (v ∷ vs) ls sent h = behind_versions most vs ls sent h

behind_change : (most : ℕ) (me : Node) (x : ServerState) (clock : ℕ) (d : Decision) (ls : List Line) (sent : List Message) → IsStart most ls sent → IsStart most ((begun_after me x clock d).before ls) sent
behind_change most me x clock (saves head c) ls sent h = behind_versions most (versions_made c) ls sent h
behind_change most me x clock d ls sent h = h

behind_disk : (most : ℕ) (me : Node) (x : ServerState) (after : Bool) (fall : Fall) (ls : List Line) (sent : List Message) → IsStart most ls sent → IsStart most ((begun_by_disk me x after fall).before ls) sent
behind_disk most me x after at_rest ls sent h = h
behind_disk most me x false (in_step m clock hit) ls sent h = h
behind_disk most me x true (in_step m clock hit) ls sent h = behind_change most me x clock (decides me x clock (Whole m)) ls sent h
behind_disk most me x false in_boot ls sent h = h
behind_disk most me x true in_boot ls sent h = h

-- ---- what holds after every entry

abbrev WrittenBy : (ℕ → ServerHost) → List Line → Type 0
WrittenBy hosts ls = (i : ℕ) → reached (hosts i).state.lasting.boot (hosts i).down ≤ last_written (Server i) ls

abbrev WrittenIn : Cell → List Entry → Type 0
WrittenIn c past = WrittenBy c.hosts (lines_of past)

abbrev pub Written : Script → Cell → List Entry → Type 0
Written s c past = Placed s c past × WrittenIn c past

-- what is asked of a server's entry
abbrev pub IsServerLived : Actor → List Entry → List Line → List Message → Type 0
IsServerLived (actors.Node (Server i)) past ls sent = IsHostLived (server_boot (Server i) (lines_of past)) (last_written (Server i) (lines_of past) + 1) ls sent
IsServerLived who past ls sent = ⊤

record Hosts (past : List Entry) (m : Moved) : Type 0 where
  good : IsServerLived m.entry.actor past m.entry.lines m.entry.sent
  written : WrittenIn m.cell (m.entry ∷ past)

abbrev HostedStep : Cell → List Entry → Moved → Type 0
HostedStep c past m = Hosts past m

-- no server's
none_lived : (who : Actor) (past : List Entry) (ls : List Line) (sent : List Message) → ((i : ℕ) → who ≡ actors.Node (Server i) → ⊥) → IsServerLived who past ls sent
none_lived (actors.Node (Server i)) past ls sent other = absurd (other i refl)
none_lived (actors.Node (Client j)) past ls sent other = tt
none_lived (actors.Node (Admin i)) past ls sent other = tt
none_lived (actors.Node Loc) past ls sent other = tt
none_lived actors.Clock past ls sent other = tt
none_lived actors.Nobody past ls sent other = tt

besides_hosts : (s : Script) (c : Cell) (past : List Entry) (m : Moved) → Written s c past → EachLine (IsInPlace s) m.entry.actor past [] m.entry.lines → ((i : ℕ) → m.entry.actor ≡ actors.Node (Server i) → ⊥) → m.cell.hosts ≡ c.hosts → Hosts past m
besides_hosts s c past m h p other same = record {
  good = none_lived m.entry.actor past m.entry.lines m.entry.sent other;
  written = subst (λ (hosts : ℕ → ServerHost). WrittenBy hosts (lines_of (m.entry ∷ past))) (sym same)
      (λ i. subst (λ (n : ℕ). reached (c.hosts i).state.lasting.boot (c.hosts i).down ≤ n) (sym (others_written s m.entry.actor i past [] m.entry.lines (lines_of past) (other i) p)) (h.1 i));
}

one_server : (i j : ℕ) → actors.Node (Server i) ≡ actors.Node (Server j) → i ≡ j
one_server i j e = cc

own_written : (s : Script) (c : Cell) (past : List Entry) (i : ℕ) (x : ServerHost) (ls : List Line) → Written s c past → EachLine (IsInPlace s) (actors.Node (Server i)) past [] ls → reached x.state.lasting.boot x.down ≤ last_written (Server i) (onto (lines_of past) ls) → WrittenBy (put i x c.hosts) (onto (lines_of past) ls)
own_written s c past i x ls h p own j =
    at_put i j (λ (y : ServerHost). reached y.state.lasting.boot y.down ≤ last_written (Server j) (onto (lines_of past) ls)) x c.hosts (λ same. subst (λ (k : ℕ). reached x.state.lasting.boot x.down ≤ last_written (Server k) (onto (lines_of past) ls)) same own)
    (λ other. subst (λ (n : ℕ). reached (c.hosts j).state.lasting.boot (c.hosts j).down ≤ n) (sym (others_written s (actors.Node (Server i)) j past [] ls (lines_of past) (λ e. other (one_server i j e)) p)) (h.1 j))

up_now : (c : Cell) (past : List Entry) (i : ℕ) → WrittenIn c past → (c.hosts i).down ≡ None → (c.hosts i).state.lasting.boot ≤ last_written (Server i) (lines_of past)
up_now c past i h up = subst (λ (d : Option Fall). reached (c.hosts i).state.lasting.boot d ≤ last_written (Server i) (lines_of past)) up (h i)

down_now : (c : Cell) (past : List Entry) (i : ℕ) (fall : Fall) → WrittenIn c past → (c.hosts i).down ≡ Some fall → reached (c.hosts i).state.lasting.boot (Some fall) ≤ last_written (Server i) (lines_of past)
down_now c past i fall h down = subst (λ (d : Option Fall). reached (c.hosts i).state.lasting.boot d ≤ last_written (Server i) (lines_of past)) down (h i)

-- whether it is up, the lines tell
as_up : (s : Script) (c : Cell) (past : List Entry) (i : ℕ) (ls : List Line) (sent : List Message) → Written s c past → (c.hosts i).down ≡ None → IsHostLived (Some (c.hosts i).state.lasting.boot) (last_written (Server i) (lines_of past) + 1) ls sent → IsServerLived (actors.Node (Server i)) past ls sent
as_up s c past i ls sent h up = subst (λ (o : Option ℕ). IsHostLived o (last_written (Server i) (lines_of past) + 1) ls sent) (sym (h.0.0.0.hears.boots.now i ∙ ap (λ (d : Option Fall). up_boot d (c.hosts i).state.lasting.boot) up))

is_none : (c : Cell) (s : Script) (past : List Entry) (i : ℕ) (fall : Fall) → Written s c past → (c.hosts i).down ≡ Some fall → server_boot (Server i) (lines_of past) ≡ None
is_none c s past i fall h down = h.0.0.0.hears.boots.now i ∙ ap (λ (d : Option Fall). up_boot d (c.hosts i).state.lasting.boot) down

as_down : (s : Script) (c : Cell) (past : List Entry) (i : ℕ) (fall : Fall) (ls : List Line) (sent : List Message) → Written s c past → (c.hosts i).down ≡ Some fall → IsStart (last_written (Server i) (lines_of past) + 1) ls sent → IsServerLived (actors.Node (Server i)) past ls sent
as_down s c past i fall ls sent h down = subst (λ (o : Option ℕ). IsHostLived o (last_written (Server i) (lines_of past) + 1) ls sent) (sym (is_none c s past i fall h down))

-- a step of one that goes on
goes_hosts : (s : Script) (c : Cell) (past : List Entry) (i : ℕ) (x : ServerHost) (ls : List Line) (sent : List Message) → Written s c past → EachLine (IsInPlace s) (actors.Node (Server i)) past [] ls → (c.hosts i).down ≡ None → x.down ≡ None → x.state.lasting.boot ≡ (c.hosts i).state.lasting.boot → all_lines is_running ls ≡ true
    → IsServerLived (actors.Node (Server i)) past ls sent × WrittenBy (put i x c.hosts) (onto (lines_of past) ls)
goes_hosts s c past i x ls sent h p up down boot run = (
  as_up s c past i ls sent h up (inl (goes_on ls run)),
  own_written s c past i x ls h p
      (subst (λ (n : ℕ). reached x.state.lasting.boot x.down ≤ n) (sym (running_written (Server i) ls (lines_of past) run))
      (subst (λ (d : Option Fall). reached x.state.lasting.boot d ≤ last_written (Server i) (lines_of past)) (sym down) (subst (λ (n : ℕ). n ≤ last_written (Server i) (lines_of past)) (sym boot) (up_now c past i h.1 up)))),
)

serves_hosts : (s : Script) (c : Cell) (past : List Entry) (i : ℕ) (armed : Armed) (st : Step ServerState) → Written s c past → EachLine (IsInPlace s) (actors.Node (Server i)) past [] st.lines → (c.hosts i).down ≡ None → st.state.lasting.boot ≡ (c.hosts i).state.lasting.boot → all_lines is_running st.lines ≡ true → Hosts past (server_moves c i armed st)
serves_hosts s c past i armed st h p up boot run =
    let q = goes_hosts s c past i (record { state = st.state; down = None; armed = armed }) st.lines st.sent h p up refl boot run in
    record { good = q.0; written = q.1 }

set_hosts : (s : Script) (c : Cell) (past : List Entry) (i : ℕ) (l : Line) (armed : Armed) → Written s c past → EachLine (IsInPlace s) (actors.Node (Server i)) past [] (l ∷ []) → (c.hosts i).down ≡ None → all_lines is_running (l ∷ []) ≡ true → Hosts past (server_set c i l armed)
set_hosts s c past i l armed h p up run =
    let q = goes_hosts s c past i (record (c.hosts i) { armed = armed }) (l ∷ []) [] h p up up refl run in
    record { good = q.0; written = q.1 }

-- one that leaves its state
falls_hosts : (s : Script) (c : Cell) (past : List Entry) (i : ℕ) (ls : List Line) (fall : Fall) → Written s c past → EachLine (IsInPlace s) (actors.Node (Server i)) past [] ls → IsServerLived (actors.Node (Server i)) past ls [] → reached (c.hosts i).state.lasting.boot (Some fall) ≤ last_written (Server i) (lines_of past)
    → last_written (Server i) (lines_of past) ≤ last_written (Server i) (onto (lines_of past) ls) → Hosts past (server_falls c i ls fall)
falls_hosts s c past i ls fall h p good reach more = record { good = good; written = own_written s c past i (record (c.hosts i) { down = Some fall; armed = unarmed }) ls h p (le_trans reach more) }

-- one that stays down
abbrev found_at : Cell → ℕ → Bool → Fall → Begun ServerState
found_at c i after fall = begun_by_disk (Server i) (c.hosts i).state after fall

stays_hosts : (s : Script) (c : Cell) (past : List Entry) (i : ℕ) (after : Bool) (was : Fall) (l : Line) (fall : Fall) → Written s c past → EachLine (IsInPlace s) (actors.Node (Server i)) past [] ((found_at c i after was).before (l ∷ [])) → (c.hosts i).down ≡ Some was → IsStart (last_written (Server i) (lines_of past) + 1) (l ∷ []) []
    → reached (found_at c i after was).state.lasting.boot (Some fall) ≤ last_written (Server i) (onto (lines_of past) ((found_at c i after was).before (l ∷ []))) → Hosts past (server_stays c i (found_at c i after was) l fall)
stays_hosts s c past i after was l fall h p down good reach =
    let f : Begun ServerState = found_at c i after was in
    record {
      good = as_down s c past i was (f.before (l ∷ [])) [] h down (behind_disk (last_written (Server i) (lines_of past) + 1) (Server i) (c.hosts i).state after was (l ∷ []) [] good);
      written = own_written s c past i (record { state = f.state; down = Some fall; armed = unarmed }) (f.before (l ∷ [])) h p reach;
    }

-- behind what is found
behind_front : (f : Begun ServerState) (past : List Entry) (ls : List Line) → HasFront f → onto (lines_of past) (f.before ls) ≡ onto (onto (lines_of past) (f.before [])) ls
behind_front f past ls front = ap (onto (lines_of past)) (front.before ls) ∙ onto_both (lines_of past) (f.before []) ls

midway_least : (s : Script) (c : Cell) (past : List Entry) (i : ℕ) (after : Bool) (was : Fall) → Written s c past → (c.hosts i).down ≡ Some was → (found_at c i after was).state.lasting.boot + 1 ≤ last_written (Server i) (onto (lines_of past) ((found_at c i after was).before (lines.Fault (Server i) ∷ [])))
midway_least s c past i after was h down =
    let f : Begun ServerState = found_at c i after was in
    let front : HasFront f = disk_front (Server i) (c.hosts i).state after was in
    let o : List Line = onto (lines_of past) (f.before []) in
    let none : server_boot (Server i) o ≡ None = (all_same i (f.before []) (lines_of past) front.standing).boot ∙ is_none c s past i was h down in
    let same : last_written (Server i) o ≡ last_written (Server i) (lines_of past) = standing_written i (f.before []) (lines_of past) front.standing in
    let more : last_written (Server i) (lines.Fault (Server i) ∷ o) ≡ last_written (Server i) (lines_of past) + 1 =
    ap (λ (t : Bool). cond t (boot_written (server_boot (Server i) o) (last_written (Server i) o)) (last_written (Server i) o)) (same_node-refl (Server i)) ∙ (ap (λ (b : Option ℕ). boot_written b (last_written (Server i) o)) none ∙ ap (λ (n : ℕ). n + 1) same) in
    let low : f.state.lasting.boot ≤ last_written (Server i) (lines_of past) = le_trans (found (Server i) (c.hosts i).state after was) (down_now c past i was h.1 down) in
    subst (λ (n : ℕ). f.state.lasting.boot + 1 ≤ n) (sym (ap (last_written (Server i)) (behind_front f past (lines.Fault (Server i) ∷ []) front) ∙ more)) (omega arith)

full_least : (s : Script) (c : Cell) (past : List Entry) (i : ℕ) (after : Bool) (was : Fall) → Written s c past → (c.hosts i).down ≡ Some was → (found_at c i after was).state.lasting.boot ≤ last_written (Server i) (onto (lines_of past) ((found_at c i after was).before (lines.Full (Server i) ∷ [])))
full_least s c past i after was h down =
    let f : Begun ServerState = found_at c i after was in
    let front : HasFront f = disk_front (Server i) (c.hosts i).state after was in
    subst (λ (n : ℕ). f.state.lasting.boot ≤ n) (sym (ap (last_written (Server i)) (behind_front f past (lines.Full (Server i) ∷ []) front) ∙ standing_written i (f.before []) (lines_of past) front.standing))
    (le_trans (found (Server i) (c.hosts i).state after was) (down_now c past i was h.1 down))

-- one that comes up
started_good : (s : Script) (c : Cell) (past : List Entry) (i : ℕ) (after : Bool) (was : Fall) → Written s c past → (c.hosts i).down ≡ Some was → IsServerLived (actors.Node (Server i)) past (start_row (Server i) c.clock c.count (found_at c i after was)).lines (start_row (Server i) c.clock c.count (found_at c i after was)).sent
started_good s c past i after was h down =
    let f : Begun ServerState = found_at c i after was in
    let most : ℕ = last_written (Server i) (lines_of past) + 1 in
    let sent : List Message = (start_row (Server i) c.clock c.count f).sent in
    let low : f.state.lasting.boot ≤ last_written (Server i) (lines_of past) = le_trans (found (Server i) (c.hosts i).state after was) (down_now c past i was h.1 down) in
    subst (λ (ls : List Line). IsServerLived (actors.Node (Server i)) past ls sent) (sym (started_lines i c.clock c.count f))
    (as_down s c past i was _ sent h down (behind_disk most (Server i) (c.hosts i).state after was (lines.Restart (Server i) (f.state.lasting.boot + 1) ∷ (risen_turn (Server i) c.clock c.count).lines) sent
    (omega arith, (all_owes (Server i) (risen_turn (Server i) c.clock c.count).backs.lists.owed, start_sends i c.clock c.count f))))

started_written : (i clock count : ℕ) (f : Begun ServerState) (past : List Entry) → HasFront f → (start_row (Server i) clock count f).state.lasting.boot ≡ last_written (Server i) (onto (lines_of past) (start_row (Server i) clock count f).lines)
started_written i clock count f past front =
    let o : List Line = onto (lines_of past) (f.before []) in
    let l : Line = lines.Restart (Server i) (f.state.lasting.boot + 1) in
    let notes : List Line = (risen_turn (Server i) clock count).lines in
    started_boot i clock count f
    ∙ sym (ap (λ (ls : List Line). last_written (Server i) (onto (lines_of past) ls)) (started_lines i clock count f)
    ∙ (ap (last_written (Server i)) (behind_front f past (l ∷ notes) front)
    ∙ (standing_written i notes (l ∷ o) (notes_standing i clock count)
    ∙ ap (λ (t : Bool). cond t (f.state.lasting.boot + 1) (last_written (Server i) o)) (same_node-refl (Server i)))))

-- ---- every step

hosted_moves : (s : Script) → EachMove (Written s) HostedStep
hosted_moves s = (let q : EachMove (Placed s) (PlacedStep s) = placed_moves s in record {
  void = λ c past h. besides_hosts s c past (voided c) h (q.void c past h.0) (λ i e. absurd cc) refl;
  ticked = λ c past n h. besides_hosts s c past (ticked c (suc n)) h (q.ticked c past n h.0) (λ i e. absurd cc) refl;
  begun = λ c past n act h r z0. besides_hosts s c past (client_moves c n (begin_row (Client n) (c.clients n) c.clock act)) h (q.begun c past n act h.0 r z0) (λ i e. absurd cc) refl;
  told = λ c past n place m h at to un. besides_hosts s c past (client_moves c n (client_row (Client n) (c.clients n) c.clock place (Whole m))) h (q.told c past n place m h.0 at to un) (λ i e. absurd cc) refl;
  sought = λ c past n place m k h at to z e. besides_hosts s c past (client_moves c n (sought_by (Client n) (c.clients n) c.clock place k m.head m.carried)) h (q.sought c past n place m k h.0 at to z e) (λ i e'. absurd cc) refl;
  missed = λ c past n k h r z. besides_hosts s c past (client_moves c n (seek_timeout_row (Client n) (c.clients n) k)) h (q.missed c past n k h.0 r z) (λ i e'. absurd cc) refl;
  loc = λ c past l ls ms h st. besides_hosts s c past (loc_becomes c l ls ms) h (q.loc c past l ls ms h.0 st) (λ i e'. absurd cc) refl;
  waited = λ c past n act h r. besides_hosts s c past (client_moves c n (timeout_row (Client n) (c.clients n) act)) h (q.waited c past n act h.0 r) (λ i e. absurd cc) refl;
  fallen = λ c past n h. besides_hosts s c past (client_falls c n) h (q.fallen c past n h.0) (λ i e. absurd cc) refl;
  risen = λ c past n h. besides_hosts s c past (client_rises c n) h (q.risen c past n h.0) (λ i e. absurd cc) refl;
  served = λ c past i place m armed h up at to. serves_hosts s c past i armed (server_row (Server i) (c.hosts i).state c.clock place (Whole m)) h (q.served c past i place m armed h.0 up at to) up (served_boot i (c.hosts i).state c.clock place m) (serves_running (Server i) (c.hosts i).state c.clock place m);
  cut = λ c past i place m t h up at to. falls_hosts s c past i (lines.Given place ∷ blow_line i t.stops ∷ []) (in_step m c.clock t) h (q.cut c past i place m t h.0 up at to) (as_up s c past i _ [] h up (blow_lived i place (c.hosts i).state.lasting.boot (last_written (Server i) (lines_of past) + 1) t.stops)) (up_now c past i h.1 up) (blow_least i t.stops (lines.Given place ∷ lines_of past));
  stopped = λ c past i h up. falls_hosts s c past i (lines.Crash (Server i) ∷ []) at_rest h (q.stopped c past i h.0 up) (as_up s c past i _ [] h up (inr (tt, refl))) (up_now c past i h.1 up) (le_refl _);
  stop_set = λ c past i calls pick armed h up. set_hosts s c past i (lines.Stop (Server i) calls pick) armed h (q.stop_set c past i calls pick armed h.0 up) up refl;
  fail_set = λ c past i call armed h up. set_hosts s c past i (lines.Fail (Server i) call) armed h (q.fail_set c past i call armed h.0 up) up refl;
  timed = λ c past i n b armed h up at. serves_hosts s c past i armed (back_timeout_row (Server i) (c.hosts i).state c.clock n b) h (q.timed c past i n b armed h.0 up at) up (timed_state i (c.hosts i).state c.clock n b).1 (times_running (Server i) (c.hosts i).state c.clock n b);
  woken = λ c past i armed h up. serves_hosts s c past i armed (wake_row (Server i) (c.hosts i).state c.clock) h (q.woken c past i armed h.0 up) up (woken_state i (c.hosts i).state c.clock).1 (wakes_running (Server i) (c.hosts i).state c.clock);
  started = λ c past i after fall h down. (let st : Step ServerState = start_row (Server i) c.clock c.count (found_at c i after fall) in record {
    good = started_good s c past i after fall h down;
    written = own_written s c past i (record { state = st.state; down = None; armed = unarmed }) st.lines h (q.started c past i after fall h.0 down) (le_of_eq (started_written i c.clock c.count (found_at c i after fall) past (disk_front (Server i) (c.hosts i).state after fall)));
  });
  early = λ c past i fall h down. falls_hosts s c past i (lines.Fault (Server i) ∷ []) fall h (q.early c past i fall h.0 down) (as_down s c past i fall _ [] h down (refl, refl)) (down_now c past i fall h.1 down) (blow_least i false (lines_of past));
  midway = λ c past i after fall h down. stays_hosts s c past i after fall (lines.Fault (Server i)) in_boot h (q.midway c past i after fall h.0 down) down (refl, refl) (midway_least s c past i after fall h down);
  full = λ c past i after fall h down. stays_hosts s c past i after fall (lines.Full (Server i)) at_rest h (q.full c past i after fall h.0 down) down (refl, refl) (full_least s c past i after fall h down);
})

written_kept : (s : Script) → IsKept (Written s)
written_kept s c past x so h = (placed_kept s c past x so h.0, (each_moved (Written s) HostedStep (hosted_moves s) c past x so h).written)

-- the set-up tells versions alone
pub first_running : (ls : List Line) → AreVersions ls → all_lines is_running ls ≡ true
first_running [] h = refl
first_running (lines.Version v ∷ ls) h = first_running ls h
first_running (l ∷ ls) h = absurd h

written_first : (s : Script) → Written s (start s) (set_up_entry s ∷ [])
written_first s = (placed_first s, λ i. le_of_eq (sym (running_written (Server i) (first_lines s.volumes) [] (first_running (first_lines s.volumes) (all_versions s.volumes)))))

pub run_hosted : (s : Script) (h : List Entry) (end : Cell) → RunsTo h s end → EachEntry (λ past e. IsServerLived e.actor past e.lines e.sent) (set_up_entry s ∷ []) h
run_hosted s h end r =
    run_each (Written s) (λ past e. IsServerLived e.actor past e.lines e.sent) (written_kept s) (λ c past x so k. (each_moved (Written s) HostedStep (hosted_moves s) c past x so k).good) r.inputs s (set_up_entry s ∷ []) h end (written_first s) r.leads
