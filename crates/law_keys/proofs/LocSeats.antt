-- What a step of the location database does to what it remembers of callers.
use Rattle.std.proofs.Common.{◌≡◌, inr, ℕ, ℤ, ◌+◌, Bool, true, false, cond, List, Option, Some, None, refl, sym, subst, arith}
use Rattle.std.specs.Prelude.{⊤, filter, length, not, nat_lt}
use Rattle.afs_num.specs.Nodes.{same_node}
use Rattle.afs_num.specs.Names.{volume_name_ok}
use Rattle.afs_num.specs.declared.location_calls.LocCall.{LocCall}
use Rattle.afs_num.specs.declared.location_calls.LocCall.TheVariants as calls
use Rattle.afs_num.specs.declared.location_calls.LocEntry.{LocEntry}
use Rattle.afs_num.specs.declared.location_calls.LocReply.TheVariants as replies
use Rattle.afs_num.specs.declared.messages.Call.TheVariants as ask
use Rattle.afs_num.specs.declared.messages.Carried.{Carried}
use Rattle.afs_num.specs.declared.messages.Carried.TheVariants as carried
use Rattle.afs_num.specs.declared.messages.Message.{Message}
use Rattle.afs_num.specs.declared.messages.Received.TheVariants.{Whole}
use Rattle.afs_num.specs.declared.types.Head.{Head}
use Rattle.afs_num.specs.declared.types.Node.TheVariants.{Loc}
use Rattle.spec_model.specs.Calls.{admitted, call_seat, call_seated, Admitted}
use Rattle.spec_model.specs.Calls as pairs
use Rattle.spec_ideal.specs.Tables.{Table}
use Rattle.spec_records.specs.LocDurable.{loc_has_room}
use Rattle.spec_records.specs.LocRecords.{Listed}
use Rattle.spec_rows.specs.LocRow.{admits, any_other, called, decided, drops, entry_fits, hears, holds, is_barred, is_named, is_operation, locks_for, shares_id, with_entry, with_lock, loc_decides, loc_durable_of, loc_lasting_after, loc_left, loc_op, loc_record_of, refuses, repeats, reply_to, runs_carried, saves, shows, tells_boot, LocChange, LocDecision, LocLasting, LocResult, LocState}
use Rattle.spec_rows.specs.LocRow as row
use Rattle.spec_rows.specs.LocSteps.{loc_begun_after, loc_row, loc_start_row}
use Rattle.spec_rows.specs.ServerRow.{seat_for}
use Rattle.spec_rows.specs.States.{Seat}
use Rattle.spec_rows.specs.Steps.{Begun}
use Rattle.law_legal.proofs.BaseLaws.{runs_admitted, same_node-true}
use Rattle.law_keys.specs.Ran.{database_ran, ran_of_loc, that_changed}
use Rattle.law_keys.specs.Replied.{loc_tells_change}
use Rattle.law_keys.proofs.Deciding.{MayRun}
use Rattle.law_keys.proofs.Memories.{pair_of, placed_own, placed_sits, seated_own, seated_sits, Done, Finds, Memory, Rises, Runs, Steps, Stores}
use Rattle.law_keys.proofs.VolSeats.{above_pair}

-- ---- what it remembers

abbrev pub loc_memory_by : LocLasting → List Seat → Memory
loc_memory_by l seats = record { boot = l.boot; last = λ n. pair_of (call_seat n seats); kept = λ n. pair_of (call_seat n l.kept) }

abbrev pub loc_memory : LocState → Memory
loc_memory s = loc_memory_by s.lasting s.seats

-- ---- of which header a decision is, and that a call which runs is above its caller's last one

abbrev pub OfHead : Head → LocDecision → Type 0
OfHead head (refuses h code) = h ≡ head
OfHead head (shows h reply) = (h ≡ head) × (loc_tells_change reply ≡ false)
OfHead head (saves h c) = h ≡ head
OfHead head drops = ⊤
OfHead head (tells_boot h) = ⊤
OfHead head (repeats reply) = ⊤

abbrev pub RunsBy : ℕ → List Seat → Head → LocDecision → Type 0
RunsBy boot seats head (refuses h code) = MayRun Loc boot seats head
RunsBy boot seats head (shows h reply) = MayRun Loc boot seats head
RunsBy boot seats head (saves h c) = MayRun Loc boot seats head
RunsBy boot seats head drops = ⊤
RunsBy boot seats head (tells_boot h) = ⊤
RunsBy boot seats head (repeats reply) = ⊤

runs_all : (boot : ℕ) (seats : List Seat) (head : Head) (d : LocDecision) → MayRun Loc boot seats head → RunsBy boot seats head d
runs_all boot seats head (refuses h code) k = k
runs_all boot seats head (shows h reply) k = k
runs_all boot seats head (saves h c) k = k
runs_all boot seats head drops k = tt
runs_all boot seats head (tells_boot h) k = tt
runs_all boot seats head (repeats reply) k = tt

pub record Decides (s : LocState) (head : Head) (d : LocDecision) : Type 0 where
  pub of : OfHead head d
  pub runs : RunsBy s.lasting.boot s.seats head d

-- a call that reads is told of no change
abbrev Reads : LocResult → Type 0
Reads (row.refused code) = ⊤
Reads (row.reads reply) = loc_tells_change reply ≡ false
Reads (row.changes c) = ⊤

either_reads : (b : Bool) (x y : LocResult) → Reads x → Reads y → Reads (cond b x y)
either_reads true x y h k = h
either_reads false x y h k = k

unless_reads : (b : Bool) (code : ℤ) (more : LocResult) → Reads more → Reads (cond b (row.refused code) more)
unless_reads true code more h = tt
unless_reads false code more h = h

fits_reads : (old : Option LocEntry) (new : LocEntry) (t : Table Listed) (more : LocResult) → Reads more → Reads (entry_fits old new t more)
fits_reads old new t more h =
    unless_reads (not (volume_name_ok new.name)) row.bad_name _
    (unless_reads (any_other old (shares_id new) t) row.taken_id _
    (unless_reads (any_other old (is_named new.name) t) row.taken_name _ (unless_reads (nat_lt row.most_listed_sites (length new.sites)) row.too_many_sites more h)))

entry_reads : (o : Option Listed) (more : Listed → LocResult) → ((l : Listed) → Reads (more l)) → Reads (with_entry o more)
entry_reads None more k = tt
entry_reads (Some l) more k = k l

lock_reads : (stamp : ℕ) (o : Option Listed) (more : Listed → LocResult) → ((l : Listed) → Reads (more l)) → Reads (with_lock stamp o more)
lock_reads stamp o more k = entry_reads o _ (λ l. either_reads (holds stamp l.lock) (more l) _ (k l) tt)

for_reads : (d : LocLasting) (operation force : ℕ) (l : Listed) → Reads (locks_for d operation force l)
for_reads d operation force l =
    unless_reads (is_barred l.lock force) row.is_locked _ (either_reads (is_operation operation) _ _ (either_reads (nat_lt d.next_stamp _) _ _ tt tt) tt)

call_reads : (stamp : ℕ) (call : LocCall) (d : LocLasting) → Reads (loc_op stamp call d)
call_reads stamp (calls.CreateEntry e) d = fits_reads None e d.entries _ (either_reads (nat_lt d.next_stamp _) _ _ tt tt)
call_reads stamp (calls.DeleteEntry id) d = lock_reads stamp (row.found_id id d.entries) _ (λ l. tt)
call_reads stamp (calls.GetEntryById id) d = entry_reads (row.found_id id d.entries) (λ l. row.reads (replies.GetEntryById l.entry)) (λ l. refl)
call_reads stamp (calls.GetEntryByName name) d = entry_reads (row.found_name name d.entries) (λ l. row.reads (replies.GetEntryByName l.entry)) (λ l. refl)
call_reads stamp calls.GetNewVolumeId d = either_reads (nat_lt d.next_id _) _ _ tt tt
call_reads stamp (calls.ReplaceEntry id e) d = lock_reads stamp (row.found_id id d.entries) _ (λ l. fits_reads (Some l.entry) e d.entries _ tt)
call_reads stamp (calls.SetLock id operation force) d = entry_reads (row.found_id id d.entries) (locks_for d operation force) (for_reads d operation force)
call_reads stamp (calls.ReleaseLock id) d = lock_reads stamp (row.found_id id d.entries) _ (λ l. tt)
call_reads stamp (calls.ListEntry index) d = entry_reads (row.nth index (row.all_listed d.entries)) (λ l. row.reads (replies.ListEntry (index + 1) l.entry)) (λ l. refl)

module _ (s : LocState) (head : Head) where
  either_of : (b : Bool) (x y : LocDecision) → OfHead head x → OfHead head y → OfHead head (cond b x y)
  either_of true x y h k = h
  either_of false x y h k = k

  result_of : (r : LocResult) → Reads r → OfHead head (decided s head r)
  result_of (row.refused code) h = refl
  result_of (row.reads reply) h = (refl, h)
  result_of (row.changes c) h = either_of (loc_has_room (loc_durable_of s.lasting) (loc_record_of s.lasting.boot head c)) _ _ refl refl

  carried_of : (c : Carried) → OfHead head (runs_carried s head c)
  carried_of (carried.Call user (ask.Location call)) = result_of (loc_op head.stamp call s.lasting) (call_reads head.stamp call s.lasting)
  carried_of (carried.Call user (ask.File call)) = refl
  carried_of (carried.Call user (ask.Volume call)) = refl
  carried_of (carried.Refusal code) = tt
  carried_of (carried.Reply reply) = tt
  carried_of carried.Notice = tt

  admits_decides : (c : Carried) (a : Admitted Message) → head.to ≡ Loc → admitted s.lasting.boot s.seats head ≡ a → Decides s head (admits s head (Whole (record { head = head; carried = c })) a)
  admits_decides c pairs.runs to is =
      let k = runs_admitted s.lasting.boot s.seats head is in
      record { of = either_of (same_node head.from Loc) _ _ refl (carried_of c); runs = runs_all s.lasting.boot s.seats head _ (to, (k.0, k.1)) }
  admits_decides c (pairs.kept reply) to is = record { of = tt; runs = tt }
  admits_decides c pairs.in_progress to is = record { of = tt; runs = tt }
  admits_decides c pairs.older to is = record { of = tt; runs = tt }
  admits_decides c (pairs.wrong_boot boot) to is = record { of = tt; runs = tt }

  called_by : (b : Bool) (c : Carried) → same_node head.to Loc ≡ b → Decides s head (cond b (admits s head (Whole (record { head = head; carried = c })) (admitted s.lasting.boot s.seats head)) drops)
  called_by true c e = admits_decides c (admitted s.lasting.boot s.seats head) (same_node-true head.to Loc e) refl
  called_by false c e = record { of = tt; runs = tt }

  hears_decides : (c : Carried) → Decides s head (hears s head c)
  hears_decides (carried.Call user call) = called_by (same_node head.to Loc) (carried.Call user call) refl
  hears_decides (carried.Refusal code) = record { of = tt; runs = tt }
  hears_decides (carried.Reply reply) = record { of = tt; runs = tt }
  hears_decides carried.Notice = record { of = tt; runs = tt }

-- ---- what is decided is done

module _ (s : LocState) where
  abbrev here : Memory
  here = loc_memory s

  call_runs : (head : Head) (changed : Bool) → MayRun Loc s.lasting.boot s.seats head → Runs Loc here (record { callee = Loc; boot = s.lasting.boot; head = head; changed = changed })
  call_runs head changed may = record { callee = refl; boot = refl; above = above_pair (call_seat head.from s.seats) head.epoch head.number may.1.1; named = record { callee = may.0; boot = may.1.0 } }

  takes_done : (l : LocLasting) (head : Head) (reply : Message) (changed : Bool) → MayRun Loc s.lasting.boot s.seats head
      → Stores here (loc_memory_by l (call_seated (seat_for head reply) s.seats)) (record { callee = Loc; boot = s.lasting.boot; head = head; changed = changed })
      → Done Loc here (loc_memory_by l (call_seated (seat_for head reply) s.seats)) (record { callee = Loc; boot = s.lasting.boot; head = head; changed = changed })
  takes_done l head reply changed may stores = record {
    runs = call_runs head changed may;
    stores = stores;
    own = seated_own (seat_for head reply) s.seats;
    last = λ n. seated_sits (seat_for head reply) s.seats n;
  }

  none_stored : (w : List Seat) (head : Head) → Stores here (loc_memory_by s.lasting w) (record { callee = Loc; boot = s.lasting.boot; head = head; changed = false })
  none_stored w head = record { boot = refl; own = λ did. absurd cc; kept = λ n. inr refl }

  change_stored : (w : List Seat) (head : Head) (c : LocChange) → Stores here (loc_memory_by (loc_lasting_after head c s.lasting) w) (record { callee = Loc; boot = s.lasting.boot; head = head; changed = true })
  change_stored w head c = record {
    boot = refl;
    own = λ did. placed_own (seat_for head (reply_to s.lasting.boot head c.reply)) s.lasting.kept;
    kept = λ n. placed_sits (seat_for head (reply_to s.lasting.boot head c.reply)) s.lasting.kept n;
  }

  left_steps : (d : LocDecision) (head : Head) → OfHead head d → RunsBy s.lasting.boot s.seats head d → Steps Loc here (loc_memory (loc_left s d)) (ran_of_loc s.lasting.boot d)
  left_steps drops head of runs = record { boot = refl; last = λ n. refl; kept = λ n. refl }
  left_steps (tells_boot h) head of runs = record { boot = refl; last = λ n. refl; kept = λ n. refl }
  left_steps (repeats reply) head of runs = record { boot = refl; last = λ n. refl; kept = λ n. refl }
  left_steps (refuses h code) head of runs = takes_done s.lasting h _ false (subst (MayRun Loc s.lasting.boot s.seats) (sym of) runs) (none_stored _ h)
  left_steps (shows h reply) head of runs = takes_done s.lasting h _ false (subst (MayRun Loc s.lasting.boot s.seats) (sym of.0) runs) (none_stored _ h)
  left_steps (saves h c) head of runs = takes_done (loc_lasting_after h c s.lasting) h _ true (subst (MayRun Loc s.lasting.boot s.seats) (sym of) runs) (change_stored _ h c)

  finds_by : (d : LocDecision) (head : Head) → OfHead head d → RunsBy s.lasting.boot s.seats head d → Finds Loc here (loc_memory (loc_begun_after s d).state) (filter that_changed (ran_of_loc s.lasting.boot d))
  finds_by drops head of runs = record { boot = omega (arith); kept = λ n. refl }
  finds_by (tells_boot h) head of runs = record { boot = omega (arith); kept = λ n. refl }
  finds_by (repeats reply) head of runs = record { boot = omega (arith); kept = λ n. refl }
  finds_by (refuses h code) head of runs = record { boot = omega (arith); kept = λ n. refl }
  finds_by (shows h reply) head of runs = record { boot = omega (arith); kept = λ n. refl }
  finds_by (saves h c) head of runs = record { runs = call_runs h true (subst (MayRun Loc s.lasting.boot s.seats) (sym of) runs); stores = change_stored _ h c }

pub loc_decides_so : (s : LocState) (m : Message) → Decides s m.head (loc_decides s (Whole m))
loc_decides_so s m = hears_decides s m.head m.carried

pub loc_steps : (s : LocState) (clock place : ℕ) (m : Message) → Steps Loc (loc_memory s) (loc_memory (loc_row s place (Whole m)).state) (database_ran s clock m)
unfolding loc_row
loc_steps s clock place m = let k : Decides s m.head _ = loc_decides_so s m in left_steps s (loc_decides s (Whole m)) m.head k.of k.runs

pub loc_finds : (s : LocState) (clock : ℕ) (m : Message) → Finds Loc (loc_memory s) (loc_memory (loc_begun_after s (loc_decides s (Whole m))).state) (filter that_changed (database_ran s clock m))
loc_finds s clock m = let k : Decides s m.head _ = loc_decides_so s m in finds_by s (loc_decides s (Whole m)) m.head k.of k.runs

pub loc_rises : (f : Begun LocState) → Rises (loc_memory f.state) (loc_memory (loc_start_row f).state)
unfolding loc_start_row
loc_rises f = record { boot = omega (arith); last = λ n. refl; kept = λ n. refl }
