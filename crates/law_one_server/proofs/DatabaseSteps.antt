-- What a step of the location database does to its entries: nothing, or what the call of one message does that was sent.
use Rattle.std.proofs.Common.{◌≡◌, ◌⊎◌, inl, inr, ℕ, ℤ, ◌+◌, suc, Bool, true, false, cond, List, Option, Some, None, refl, sym, ap, subst, ◌∙◌, nat_lt}
use Rattle.std.specs.Prelude.{⊤, length, not}
use Rattle.afs_num.specs.Names.{volume_name_ok}
use Rattle.afs_num.specs.Nodes.{same_node}
use Rattle.afs_num.specs.declared.location_calls.LocCall.{LocCall}
use Rattle.afs_num.specs.declared.location_calls.LocCall.TheVariants as calls
use Rattle.afs_num.specs.declared.location_calls.LocEntry.{LocEntry}
use Rattle.afs_num.specs.declared.location_calls.LocReply.{LocReply}
use Rattle.afs_num.specs.declared.location_calls.LocReply.TheVariants as replies
use Rattle.afs_num.specs.declared.messages.Call.TheVariants as ask
use Rattle.afs_num.specs.declared.messages.Carried.{Carried}
use Rattle.afs_num.specs.declared.messages.Carried.TheVariants as carried
use Rattle.afs_num.specs.declared.messages.Message.{Message}
use Rattle.afs_num.specs.declared.messages.Received.TheVariants.{Whole}
use Rattle.afs_num.specs.declared.types.Head.{Head}
use Rattle.afs_num.specs.declared.types.Node.TheVariants.{Loc}
use Rattle.spec_ideal.specs.Tables.{get}
use Rattle.spec_model.specs.Calls.{admitted, Admitted}
use Rattle.spec_model.specs.Calls as pairs
use Rattle.spec_records.specs.LocDurable.{entries_after, loc_has_room}
use Rattle.spec_records.specs.LocRecords.{leaves, removes, sets, Listed, Lock}
use Rattle.spec_rows.specs.Hosts.{at_rest, begun_from, comes_up, ends, fails_early, fails_midway, in_boot, in_step, is_full, restarted, served, served_by, without_boot_record, struck, Blow, Fall, HostStep, Luck, Outcome}
use Rattle.spec_rows.specs.LocRow.{admits, any_other, decided, drops, entry_fits, found_id, hears, holds, is_barred, is_force, is_named, is_operation, loc_decides, loc_durable_of, loc_left, loc_op, loc_record_of, locks_for, made_for, refuses, repeats, runs_carried, saves, shares_id, shows, tells_boot, with_entry, with_lock, LocChange, LocDecision, LocLasting, LocResult, LocState}
use Rattle.spec_rows.specs.LocRow as row
use Rattle.spec_rows.specs.LocSteps.{loc_begun_after, loc_kind, loc_row, loc_start_row, LocHost}
use Rattle.spec_rows.specs.Runs.{message_at}
use Rattle.spec_rows.specs.ServerRow.{no_room, not_served}
use Rattle.spec_rows.specs.Steps.{Begun}
use Rattle.spec_runs.specs.NodeRuns.{loc_stepped, node_moved, CellInput, NodeCell, NodeMoved}
use Rattle.law_stamps.specs.Told.{entries_in}
use Rattle.law_walks.specs.Messages.{FallIs}
use Rattle.law_walks.proofs.EachKind.{each}
use Rattle.law_families.specs.Entries.{AreKeyed}
use Rattle.law_families.proofs.Entries.{found_own}
use Rattle.law_locks.proofs.Walk.{WasSent}

-- ---- what each call does

abbrev pub locked_as : LocLasting → LocEntry → ℕ → Bool → LocReply → LocChange
locked_as d e operation forced reply = record {
  deed = sets (record { entry = e; lock = Some (record { operation = operation; stamp = d.next_stamp; forced = forced }) });
  next_id = d.next_id;
  next_stamp = d.next_stamp + 1;
  reply = reply;
}

abbrev pub set_as : LocLasting → LocEntry → Option Lock → LocReply → LocChange
set_as d e lock reply = record { deed = sets (record { entry = e; lock = lock }); next_id = d.next_id; next_stamp = d.next_stamp; reply = reply }

abbrev pub gone : LocLasting → LocEntry → LocChange
gone d e = record { deed = removes e; next_id = d.next_id; next_stamp = d.next_stamp; reply = replies.DeleteEntry }

abbrev pub drawn : LocLasting → LocChange
drawn d = record { deed = leaves; next_id = d.next_id + 1; next_stamp = d.next_stamp; reply = replies.GetNewVolumeId d.next_id }

-- R is to be shown of each call that changes the entries, as it does, under this stamp.
pub record OfCalls (d : LocLasting) (stamp : ℕ) (R : LocCall → LocChange → Type 0) : Type 0 where
  pub locks : (id operation force : ℕ) (l : Listed) → get l.entry.read_write d.entries ≡ Some l → R (calls.SetLock id operation force) (locked_as d l.entry operation (is_force force) (replies.SetLock d.next_stamp l.entry))
  pub makes : (e : LocEntry) → any_other None (shares_id e) d.entries ≡ false → R (calls.CreateEntry e) (locked_as d e made_for false (replies.CreateEntry d.next_stamp))
  pub frees : (id : ℕ) (l : Listed) → get l.entry.read_write d.entries ≡ Some l → holds stamp l.lock ≡ true → R (calls.ReleaseLock id) (set_as d l.entry None replies.ReleaseLock)
  pub writes : (id : ℕ) (e : LocEntry) (l : Listed) → get l.entry.read_write d.entries ≡ Some l → holds stamp l.lock ≡ true → R (calls.ReplaceEntry id e) (set_as d e l.lock replies.ReplaceEntry)
  pub deletes : (id : ℕ) (l : Listed) → get l.entry.read_write d.entries ≡ Some l → holds stamp l.lock ≡ true → R (calls.DeleteEntry id) (gone d l.entry)
  pub draws : R calls.GetNewVolumeId (drawn d)

module _ (d : LocLasting) (keyed : AreKeyed d.entries) (stamp : ℕ) (R : LocCall → LocChange → Type 0) (k : OfCalls d stamp R) where
  abbrev pub Is : LocCall → LocResult → Type 0
  Is call (row.refused code) = ⊤
  Is call (row.reads reply) = ⊤
  Is call (row.changes c) = R call c

  unless_is : (call : LocCall) (b : Bool) (code : ℤ) (more : LocResult) → (b ≡ false → Is call more) → Is call (cond b (row.refused code) more)
  unless_is call true code more h = tt
  unless_is call false code more h = h refl

  when_is : (call : LocCall) (b : Bool) (x : LocResult) (code : ℤ) → (b ≡ true → Is call x) → Is call (cond b x (row.refused code))
  when_is call true x code h = h refl
  when_is call false x code h = tt

  entry_is : (call : LocCall) (o : Option Listed) (more : Listed → LocResult) → ((l : Listed) → o ≡ Some l → Is call (more l)) → Is call (with_entry o more)
  entry_is call None more h = tt
  entry_is call (Some l) more h = h l refl

  lock_is : (call : LocCall) (o : Option Listed) (more : Listed → LocResult) → ((l : Listed) → o ≡ Some l → holds stamp l.lock ≡ true → Is call (more l)) → Is call (with_lock stamp o more)
  lock_is call o more h = entry_is call o _ (λ l is. when_is call (holds stamp l.lock) (more l) row.is_locked (λ held. h l is held))

  fits_is : (call : LocCall) (old : Option LocEntry) (new : LocEntry) (more : LocResult) → (any_other old (shares_id new) d.entries ≡ false → Is call more) → Is call (entry_fits old new d.entries more)
  fits_is call old new more h =
      unless_is call (not (volume_name_ok new.name)) row.bad_name _ (λ good.
      unless_is call (any_other old (shares_id new) d.entries) row.taken_id _ (λ free.
      unless_is call (any_other old (is_named new.name) d.entries) row.taken_name _ (λ named. unless_is call (nat_lt row.most_listed_sites (length new.sites)) row.too_many_sites more (λ few. h free))))

  found_at : (id : ℕ) (l : Listed) → found_id id d.entries ≡ Some l → get l.entry.read_write d.entries ≡ Some l
  found_at id l is = found_own _ d.entries l keyed is

  pub each_call : (call : LocCall) → Is call (loc_op stamp call d)
  each_call (calls.CreateEntry e) = fits_is (calls.CreateEntry e) None e _ (λ free. when_is (calls.CreateEntry e) (nat_lt d.next_stamp _) _ no_room (λ can. k.makes e free))
  each_call (calls.DeleteEntry id) = lock_is (calls.DeleteEntry id) (found_id id d.entries) _ (λ l is held. k.deletes id l (found_at id l is) held)
  each_call (calls.GetEntryById id) = entry_is (calls.GetEntryById id) (found_id id d.entries) _ (λ l is. tt)
  each_call (calls.GetEntryByName name) = entry_is (calls.GetEntryByName name) (row.found_name name d.entries) _ (λ l is. tt)
  each_call calls.GetNewVolumeId = when_is calls.GetNewVolumeId (nat_lt d.next_id _) _ no_room (λ can. k.draws)
  each_call (calls.ReplaceEntry id e) = lock_is (calls.ReplaceEntry id e) (found_id id d.entries) _ (λ l is held. fits_is (calls.ReplaceEntry id e) (Some l.entry) e _ (λ free. k.writes id e l (found_at id l is) held))
  each_call (calls.SetLock id operation force) = entry_is (calls.SetLock id operation force) (found_id id d.entries) _ (λ l is.
      unless_is (calls.SetLock id operation force) (is_barred l.lock force) row.is_locked _ (λ free.
      when_is (calls.SetLock id operation force) (is_operation operation) _ row.no_such_operation (λ good. when_is (calls.SetLock id operation force) (nat_lt d.next_stamp _) _ no_room (λ can. k.locks id operation force l (found_at id l is)))))
  each_call (calls.ReleaseLock id) = lock_is (calls.ReleaseLock id) (found_id id d.entries) _ (λ l is held. k.frees id l (found_at id l is) held)
  each_call (calls.ListEntry index) = entry_is (calls.ListEntry index) (row.nth index (row.all_listed d.entries)) _ (λ l is. tt)

-- ---- what it decides

-- the call of this message was served, and changes this
pub record IsServed (s : LocState) (m : Message) (c : LocChange) : Type 0 where
  pub user : List ℕ
  pub call : LocCall
  pub says : m.carried ≡ carried.Call user (ask.Location call)
  pub does : loc_op m.head.stamp call s.lasting ≡ row.changes c

abbrev pub Serves : LocState → Message → LocDecision → Type 0
Serves s m drops = ⊤
Serves s m (tells_boot head) = ⊤
Serves s m (repeats reply) = ⊤
Serves s m (refuses head code) = ⊤
Serves s m (shows head reply) = ⊤
Serves s m (saves head c) = IsServed s m c

module _ (s : LocState) where
  either_serves : (m : Message) (b : Bool) (x y : LocDecision) → Serves s m x → Serves s m y → Serves s m (cond b x y)
  either_serves m true x y h j = h
  either_serves m false x y h j = j

  result_serves : (head : Head) (user : List ℕ) (call : LocCall) (r : LocResult) → loc_op head.stamp call s.lasting ≡ r → Serves s (record { head = head; carried = carried.Call user (ask.Location call) }) (decided s head r)
  result_serves head user call (row.refused code) is = tt
  result_serves head user call (row.reads reply) is = tt
  result_serves head user call (row.changes c) is =
      either_serves (record { head = head; carried = carried.Call user (ask.Location call) }) (loc_has_room (loc_durable_of s.lasting) (loc_record_of s.lasting.boot head c)) (saves head c) (refuses head no_room) (record { user = user; call = call; says = refl; does = is }) tt

  carried_serves : (head : Head) (x : Carried) → Serves s (record { head = head; carried = x }) (runs_carried s head x)
  carried_serves head (carried.Call user (ask.Location call)) = result_serves head user call (loc_op head.stamp call s.lasting) refl
  carried_serves head (carried.Call user (ask.File call)) = tt
  carried_serves head (carried.Call user (ask.Volume call)) = tt
  carried_serves head (carried.Refusal code) = tt
  carried_serves head (carried.Reply reply) = tt
  carried_serves head carried.Notice = tt

  admits_serves : (head : Head) (x : Carried) (o : Admitted Message) → Serves s (record { head = head; carried = x }) (admits s head (Whole (record { head = head; carried = x })) o)
  admits_serves head x pairs.runs = either_serves (record { head = head; carried = x }) (same_node head.from Loc) (refuses head not_served) (runs_carried s head x) tt (carried_serves head x)
  admits_serves head x (pairs.kept reply) = tt
  admits_serves head x pairs.in_progress = tt
  admits_serves head x pairs.older = tt
  admits_serves head x (pairs.wrong_boot boot) = tt

  pub hears_serves : (head : Head) (x : Carried) → Serves s (record { head = head; carried = x }) (hears s head x)
  hears_serves head (carried.Call user call) = either_serves (record { head = head; carried = carried.Call user call }) (same_node head.to Loc) _ drops (admits_serves head (carried.Call user call) (admitted s.lasting.boot s.seats head)) tt
  hears_serves head (carried.Refusal code) = tt
  hears_serves head (carried.Reply reply) = tt
  hears_serves head carried.Notice = tt
