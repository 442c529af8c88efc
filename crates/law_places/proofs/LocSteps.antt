-- The steps of the location database tell nothing of where volumes accept stores, and what it sends and keeps are replies.
use Rattle.std.proofs.Common.{◌≡◌, ℕ, Bool, true, false, cond, List, [], ◌∷◌, Option, Some, None, refl}
use Rattle.std.specs.Prelude.{⊤, nat_eq, if◌then◌else◌}
use Rattle.afs_num.specs.Nodes.{same_node}
use Rattle.afs_num.specs.declared.messages.Call.TheVariants as ask
use Rattle.afs_num.specs.declared.messages.Carried.{Carried}
use Rattle.afs_num.specs.declared.messages.Carried.TheVariants as carried
use Rattle.afs_num.specs.declared.messages.Message.{Message}
use Rattle.afs_num.specs.declared.messages.Received.TheVariants.{Whole}
use Rattle.afs_num.specs.declared.types.Head.{Head}
use Rattle.afs_num.specs.declared.types.Node.TheVariants.{Loc}
use Rattle.spec_history.specs.declared.lines.Line.{Line}
use Rattle.spec_history.specs.declared.lines.Line.TheVariants as lines
use Rattle.spec_ideal.specs.Tables.{get, Table}
use Rattle.spec_model.specs.Calls.{admitted, Admitted}
use Rattle.spec_model.specs.Calls as pairs
use Rattle.spec_records.specs.Entries.{site_of}
use Rattle.spec_records.specs.LocDurable.{loc_has_room}
use Rattle.spec_records.specs.LocEffects.{deed_told, located_lines, lock_before, lock_told, same_site, site_before}
use Rattle.spec_records.specs.LocRecords.{leaves, removes, sets, EntryDeed, Listed, Lock}
use Rattle.spec_rows.specs.Hosts.{at_rest, begun_from, comes_up, crashed, ends, fails_early, fails_midway, fall_line, in_boot, in_step, is_full, restarted, served, served_by, set_to_fail, set_to_stop, struck, Blow, Fall, HostStep, Luck, Outcome}
use Rattle.spec_rows.specs.LocRow.{admits, decided, drops, hears, loc_decides, loc_durable_of, loc_op, refuses, repeats, runs, runs_received, saves, shows, tells_boot, LocDecision, LocResult, LocState}
use Rattle.spec_rows.specs.LocRow as results
use Rattle.spec_rows.specs.LocSteps.{loc_begun_after, loc_kind, loc_row, loc_start_row, loc_told, LocHost}
use Rattle.spec_rows.specs.ServerRow.{no_room}
use Rattle.spec_rows.specs.Steps.{Begun}
use Rattle.law_places.proofs.Copies.{admitted_copies, placed_copies, seated_copies, AdmittedCopies, AllCopies, Copies, SeatsCopy}
use Rattle.law_places.proofs.Turning.{all_on, is_still, AreStill}

-- ---- what it tells

new_still : (b : Bool) (l : Line) → is_still l ≡ true → AreStill (if b then [] else l ∷ [])
new_still true l h = refl
new_still false l h = rw h refl

gone_still : (v : ℕ) (b : Bool) → AreStill (if b then lines.Recovered v ∷ lines.Unlocked v ∷ [] else lines.Unlocked v ∷ [])
gone_still v true = refl
gone_still v false = refl

lock_still : (v : ℕ) (before after : Option Lock) → AreStill (lock_told v before after)
lock_still v None (Some l) = refl
lock_still v (Some k) (Some l) = new_still (nat_eq k.stamp l.stamp) (lines.Locked v l.stamp l.operation) refl
lock_still v (Some k) None = gone_still v k.forced
lock_still v None None = refl

located_still : (v : ℕ) (before after : Option ℕ) → AreStill (located_lines v before after)
located_still v before None = refl
located_still v before (Some i) = new_still (same_site before (Some i)) (lines.Located v _) refl

deed_still : (deed : EntryDeed) (t : Table Listed) → AreStill (deed_told deed t)
deed_still (sets l) t =
    all_on is_still (lock_told l.entry.read_write (lock_before (get l.entry.read_write t)) l.lock) _ (lock_still l.entry.read_write (lock_before (get l.entry.read_write t)) l.lock) (located_still l.entry.read_write (site_before (get l.entry.read_write t)) (site_of l.entry))
deed_still (removes e) t = refl
deed_still leaves t = refl

told_still : (s : LocState) (d : LocDecision) → AreStill (loc_told s d)
told_still s (saves head c) = deed_still c.deed s.lasting.entries
told_still s drops = refl
told_still s (tells_boot head) = refl
told_still s (repeats reply) = refl
told_still s (refuses head code) = refl
told_still s (shows head reply) = refl

-- ---- what it decides

abbrev LocDecides : LocDecision → Type 0
LocDecides (repeats reply) = Copies reply
LocDecides drops = ⊤
LocDecides (tells_boot head) = ⊤
LocDecides (refuses head code) = ⊤
LocDecides (shows head reply) = ⊤
LocDecides (saves head c) = ⊤

either_decides : (b : Bool) (x y : LocDecision) → LocDecides x → LocDecides y → LocDecides (cond b x y)
either_decides true x y h k = h
either_decides false x y h k = k

result_decides : (s : LocState) (head : Head) (r : LocResult) → LocDecides (decided s head r)
result_decides s head (results.refused code) = tt
result_decides s head (results.reads reply) = tt
result_decides s head (results.changes c) = either_decides (loc_has_room (loc_durable_of s.lasting) (results.loc_record_of s.lasting.boot head c)) (saves head c) (refuses head no_room) tt tt

carried_decides : (s : LocState) (head : Head) (c : Carried) → LocDecides (results.runs_carried s head c)
carried_decides s head (carried.Call user (ask.Location call)) = result_decides s head (loc_op head.stamp call s.lasting)
carried_decides s head (carried.Call user (ask.File call)) = tt
carried_decides s head (carried.Call user (ask.Volume call)) = tt
carried_decides s head (carried.Refusal code) = tt
carried_decides s head (carried.Reply reply) = tt
carried_decides s head carried.Notice = tt

admits_decides : (s : LocState) (head : Head) (c : Carried) (o : Admitted Message) → AdmittedCopies o → LocDecides (admits s head (Whole (record { head = head; carried = c })) o)
admits_decides s head c pairs.runs h = either_decides (same_node head.from Loc) _ _ tt (carried_decides s head c)
admits_decides s head c (pairs.kept reply) h = h
admits_decides s head c pairs.in_progress h = tt
admits_decides s head c pairs.older h = tt
admits_decides s head c (pairs.wrong_boot boot) h = tt

hears_decides : (s : LocState) (head : Head) (c : Carried) → SeatsCopy s.seats → LocDecides (hears s head c)
hears_decides s head (carried.Call user call) h =
    either_decides (same_node head.to Loc) _ drops (admits_decides s head (carried.Call user call) (admitted s.lasting.boot s.seats head) (admitted_copies s.lasting.boot s.seats head h)) tt
hears_decides s head (carried.Refusal code) h = tt
hears_decides s head (carried.Reply reply) h = tt
hears_decides s head carried.Notice h = tt

-- ---- a step

pub record LocCopies (s : LocState) : Type 0 where
  pub seats : SeatsCopy s.seats
  pub kept : SeatsCopy s.lasting.kept

pub record LocQuiet (a : LocState) (s : HostStep LocState) : Type 0 where
  pub told : AreStill s.lines
  pub sent : AllCopies s.sent
  pub copies : LocCopies s.host.state

sent_copies : (s : LocState) (d : LocDecision) → LocDecides d → AllCopies (results.loc_sent s d)
sent_copies s drops h = tt
sent_copies s (tells_boot head) h = (tt, tt)
sent_copies s (repeats reply) h = (h, tt)
sent_copies s (refuses head code) h = (tt, tt)
sent_copies s (shows head reply) h = (tt, tt)
sent_copies s (saves head c) h = (tt, tt)

saved_copies : (head : Head) (c : results.LocChange) (s : LocState) → LocCopies s → LocCopies (results.loc_saved head c s)
saved_copies head c s k = record { seats = seated_copies _ s.seats tt k.seats; kept = placed_copies _ s.lasting.kept tt k.kept }

left_copies : (s : LocState) (d : LocDecision) → LocCopies s → LocCopies (results.loc_left s d)
left_copies s drops k = k
left_copies s (tells_boot head) k = k
left_copies s (repeats reply) k = k
left_copies s (refuses head code) k = record { seats = seated_copies _ s.seats tt k.seats; kept = k.kept }
left_copies s (shows head reply) k = record { seats = seated_copies _ s.seats tt k.seats; kept = k.kept }
left_copies s (saves head c) k = saved_copies head c s k

fall_still : (stops : Bool) → AreStill (fall_line Loc stops ∷ [])
fall_still true = refl
fall_still false = refl

serve_by : (h : LocHost) (clock place : ℕ) (m : Message) (o : Option Blow) → LocCopies h.state → LocQuiet h.state (served_by loc_kind h clock place m o)
unfolding loc_row
serve_by h clock place m None k =
    let d : LocDecision = loc_decides h.state (Whole m) in
    record { told = told_still h.state d; sent = sent_copies h.state d (hears_decides h.state m.head m.carried k.seats); copies = left_copies h.state d k }
serve_by h clock place m (Some b) k = record { told = fall_still b.stops; sent = tt; copies = k }

pub loc_served : (h : LocHost) (clock place : ℕ) (luck : Luck) (m : Message) → LocCopies h.state → LocQuiet h.state (served loc_kind h clock place luck m)
loc_served h clock place luck m k = serve_by h clock place m (struck h.armed luck _) k

pub loc_crashed : (h : LocHost) → LocCopies h.state → LocQuiet h.state (crashed loc_kind h)
loc_crashed h k = record { told = refl; sent = tt; copies = k }

pub loc_stop_set : (h : LocHost) (calls pick : ℕ) → LocCopies h.state → LocQuiet h.state (set_to_stop loc_kind h calls pick)
loc_stop_set h calls pick k = record { told = refl; sent = tt; copies = k }

pub loc_fail_set : (h : LocHost) (call : ℕ) → LocCopies h.state → LocQuiet h.state (set_to_fail loc_kind h call)
loc_fail_set h call k = record { told = refl; sent = tt; copies = k }

-- ---- a restart

record LocBegins (f : Begun LocState) : Type 0 where
  told : (ls : List Line) → AreStill ls → AreStill (f.before ls)
  copies : LocCopies f.state

after_begins : (s : LocState) (d : LocDecision) → LocCopies s → LocBegins (loc_begun_after s d)
after_begins s (saves head c) k = record { told = λ ls h. all_on is_still (deed_told c.deed s.lasting.entries) ls (deed_still c.deed s.lasting.entries) h; copies = saved_copies head c s k }
after_begins s drops k = record { told = λ ls h. h; copies = k }
after_begins s (tells_boot head) k = record { told = λ ls h. h; copies = k }
after_begins s (repeats reply) k = record { told = λ ls h. h; copies = k }
after_begins s (refuses head code) k = record { told = λ ls h. h; copies = k }
after_begins s (shows head reply) k = record { told = λ ls h. h; copies = k }

begins : (s : LocState) (after : Bool) (fall : Fall) → LocCopies s → LocBegins (begun_from loc_kind s after fall)
begins s after at_rest k = record { told = λ ls h. h; copies = k }
begins s false (in_step m clock b) k = record { told = λ ls h. h; copies = k }
begins s true (in_step m clock b) k = after_begins s (loc_decides s (Whole m)) k
begins s false in_boot k = record { told = λ ls h. h; copies = k }
begins s true in_boot k = record { told = λ ls h. h; copies = record { seats = k.kept; kept = k.kept } }

ends_by : (h : LocHost) (clock count : ℕ) (f : Begun LocState) (fall : Fall) (o : Outcome) → LocCopies h.state → LocBegins f → LocQuiet h.state (ends loc_kind h clock count f fall o)
unfolding loc_start_row
ends_by h clock count f fall comes_up k b = record { told = b.told _ refl; sent = tt; copies = record { seats = b.copies.kept; kept = b.copies.kept } }
ends_by h clock count f fall fails_early k b = record { told = refl; sent = tt; copies = k }
ends_by h clock count f fall fails_midway k b = record { told = b.told _ refl; sent = tt; copies = b.copies }
ends_by h clock count f fall is_full k b = record { told = b.told _ refl; sent = tt; copies = b.copies }

pub loc_restarted : (h : LocHost) (clock count : ℕ) (after : Bool) (o : Outcome) (fall : Fall) → LocCopies h.state → LocQuiet h.state (restarted loc_kind h clock count after o fall)
loc_restarted h clock count after o fall k = ends_by h clock count (begun_from loc_kind h.state after fall) fall _ k (begins h.state after fall k)
