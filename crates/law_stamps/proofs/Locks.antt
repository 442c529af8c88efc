-- The locks of the location database, and the stamp that it draws next.
use Rattle.std.proofs.Common.{◌≡◌, ◌≤◌, ◌<◌, ℕ, ℤ, ◌+◌, Bool, true, false, cond, [], ◌∷◌, Option, Some, None, subst, arith}
use Rattle.std.proofs.Math.Nat.{le_refl}
use Rattle.std.specs.Prelude.{⊤, nat_eq, nat_lt, find, length, not}
use Rattle.std.specs.List.{AllByRecursion}
use Rattle.afs_num.specs.Names.{volume_name_ok}
use Rattle.afs_num.specs.Nodes.{same_node}
use Rattle.afs_num.specs.declared.location_calls.LocCall.{LocCall}
use Rattle.afs_num.specs.declared.location_calls.LocCall.TheVariants as calls
use Rattle.afs_num.specs.declared.location_calls.LocEntry.{LocEntry}
use Rattle.afs_num.specs.declared.location_calls.LocReply.{LocReply}
use Rattle.afs_num.specs.declared.location_calls.LocReply.TheVariants as replies
use Rattle.afs_num.specs.declared.messages.Call.TheVariants as ask
use Rattle.afs_num.specs.declared.messages.Carried.{Carried}
use Rattle.afs_num.specs.declared.messages.Carried.TheVariants as carried
use Rattle.afs_num.specs.declared.messages.Message.{Message}
use Rattle.afs_num.specs.declared.messages.Received.TheVariants.{Whole}
use Rattle.afs_num.specs.declared.types.Head.{Head}
use Rattle.afs_num.specs.declared.types.Node.TheVariants.{Loc}
use Rattle.spec_ideal.specs.Tables.{get, set, unset, Table}
use Rattle.spec_model.specs.Calls.{admitted, Admitted}
use Rattle.spec_model.specs.Calls as pairs
use Rattle.spec_records.specs.LocDurable.{entries_after, loc_has_room}
use Rattle.spec_records.specs.LocRecords.{leaves, removes, sets, EntryDeed, Listed, Lock}
use Rattle.spec_rows.specs.Hosts.{at_rest, begun_from, comes_up, ends, fails_early, fails_midway, in_boot, in_step, is_full, restarted, served, served_by, without_boot_record, struck, Blow, Fall, Luck, Outcome}
use Rattle.spec_rows.specs.LocRow.{admits, all_listed, any_other, decided, drops, entry_fits, found_id, hears, holds, is_barred, is_force, is_named, is_operation, loc_decides, loc_durable_of, loc_left, loc_op, loc_record_of, loc_saved, locks_for, refuses, repeats, roomed, saves, sets_to, shares_id, shows, tells_boot, with_entry, with_lock, LocChange, LocDecision, LocLasting, LocResult, LocState}
use Rattle.spec_rows.specs.LocRow as row
use Rattle.spec_rows.specs.LocSteps.{loc_begun_after, loc_kind, loc_row, loc_start_row, LocHost}
use Rattle.spec_rows.specs.Steps.{Begun}
use Rattle.spec_rows.specs.ServerRow.{no_room}

-- ---- locks below a stamp

abbrev pub IsBelow : ℕ → Option Lock → Type 0
IsBelow n None = ⊤
IsBelow n (Some k) = k.stamp < n

abbrev pub AreBelow : ℕ → Table Listed → Type 0
AreBelow n t = AllByRecursion (λ (p : ℕ × Listed). IsBelow n p.1.lock) t

higher : (n m : ℕ) (o : Option Lock) → n ≤ m → IsBelow n o → IsBelow m o
higher n m None le h = tt
higher n m (Some k) le h = omega (arith, le, h)

all_higher : (n m : ℕ) (t : Table Listed) → n ≤ m → AreBelow n t → AreBelow m t
all_higher n m [] le h = tt
all_higher n m (p ∷ ps) le h = (higher n m p.1.lock le h.0, all_higher n m ps le h.1)

set_by : (n : ℕ) (a b : Bool) (x p : ℕ × Listed) (ps later : Table Listed) → IsBelow n x.1.lock → IsBelow n p.1.lock → AreBelow n ps → AreBelow n later → AreBelow n (cond a (x ∷ ps) (cond b (x ∷ p ∷ ps) (p ∷ later)))
set_by n true b x p ps later h k all rest = (h, all)
set_by n false true x p ps later h k all rest = (h, (k, all))
set_by n false false x p ps later h k all rest = (k, rest)

pub set_below : (n id : ℕ) (l : Listed) (t : Table Listed) → IsBelow n l.lock → AreBelow n t → AreBelow n (set id l t)
set_below n id l [] h all = (h, tt)
set_below n id l (p ∷ ps) h all = set_by n (nat_eq p.0 id) (nat_lt id p.0) (id, l) p ps (set id l ps) h all.0 all.1 (set_below n id l ps h all.1)

kept_by : (n : ℕ) (b : Bool) (p : ℕ × Listed) (rest : Table Listed) → IsBelow n p.1.lock → AreBelow n rest → AreBelow n (cond b (p ∷ rest) rest)
kept_by n true p rest h all = (h, all)
kept_by n false p rest h all = all

unset_below : (n id : ℕ) (t : Table Listed) → AreBelow n t → AreBelow n (unset id t)
unset_below n id [] all = tt
unset_below n id (p ∷ ps) all = kept_by n (not (nat_eq p.0 id)) p (unset id ps) all.0 (unset_below n id ps all.1)

get_by : (n : ℕ) (b : Bool) (x : Listed) (o : Option Listed) (l : Listed) → IsBelow n x.lock → (o ≡ Some l → IsBelow n l.lock) → cond b (Some x) o ≡ Some l → IsBelow n l.lock
get_by n true x o l h later e = let same : x ≡ l = cc in subst (λ (y : Listed). IsBelow n y.lock) same h
get_by n false x o l h later e = later e

pub get_below : (n id : ℕ) (t : Table Listed) (l : Listed) → AreBelow n t → get id t ≡ Some l → IsBelow n l.lock
get_below n id [] l all e = absurd cc
get_below n id (p ∷ ps) l all e = get_by n (nat_eq p.0 id) p.1 (get id ps) l all.0 (get_below n id ps l all.1) e

-- one that is found among all
abbrev FoundBelow : ℕ → Option Listed → Type 0
FoundBelow n None = ⊤
FoundBelow n (Some l) = IsBelow n l.lock

found_by : (n : ℕ) (b : Bool) (l : Listed) (o : Option Listed) → IsBelow n l.lock → FoundBelow n o → FoundBelow n (cond b (Some l) o)
found_by n true l o h k = h
found_by n false l o h k = k

found_below : (n : ℕ) (test : Listed → Bool) (t : Table Listed) → AreBelow n t → FoundBelow n (find test (all_listed t))
found_below n test [] all = tt
found_below n test (p ∷ ps) all = found_by n (test p.1) p.1 (find test (all_listed ps)) all.0 (found_below n test ps all.1)

-- ---- what a call does

abbrev DeedBelow : ℕ → EntryDeed → Type 0
DeedBelow n (sets l) = IsBelow n l.lock
DeedBelow n (removes e) = ⊤
DeedBelow n leaves = ⊤

-- no stamp falls, and a lock that is set has one that was drawn
record ChangeDraws (n : ℕ) (c : LocChange) : Type 0 where
  rises : n ≤ c.next_stamp
  below : DeedBelow c.next_stamp c.deed

abbrev ResultDraws : ℕ → LocResult → Type 0
ResultDraws n (row.refused code) = ⊤
ResultDraws n (row.reads reply) = ⊤
ResultDraws n (row.changes c) = ChangeDraws n c

either : (n : ℕ) (b : Bool) (x y : LocResult) → ResultDraws n x → ResultDraws n y → ResultDraws n (cond b x y)
either n true x y h k = h
either n false x y h k = k

unless_draws : (n : ℕ) (b : Bool) (code : ℤ) (more : LocResult) → ResultDraws n more → ResultDraws n (cond b (row.refused code) more)
unless_draws n true code more h = tt
unless_draws n false code more h = h

fits_draws : (n : ℕ) (old : Option LocEntry) (new : LocEntry) (t : Table Listed) (more : LocResult) → ResultDraws n more → ResultDraws n (entry_fits old new t more)
fits_draws n old new t more h =
    unless_draws n (not (volume_name_ok new.name)) row.bad_name _
    (unless_draws n (any_other old (shares_id new) t) row.taken_id _
    (unless_draws n (any_other old (is_named new.name) t) row.taken_name _ (unless_draws n (nat_lt row.most_listed_sites (length new.sites)) row.too_many_sites more h)))

entry_draws : (n : ℕ) (o : Option Listed) (more : Listed → LocResult) → FoundBelow n o → ((l : Listed) → IsBelow n l.lock → ResultDraws n (more l)) → ResultDraws n (with_entry o more)
entry_draws n None more h k = tt
entry_draws n (Some l) more h k = k l h

lock_draws : (n stamp : ℕ) (o : Option Listed) (more : Listed → LocResult) → FoundBelow n o → ((l : Listed) → IsBelow n l.lock → ResultDraws n (more l)) → ResultDraws n (with_lock stamp o more)
lock_draws n stamp o more h k = entry_draws n o _ h (λ l below. either n (holds stamp l.lock) (more l) _ (k l below) tt)

locks_draws : (d : LocLasting) (e : LocEntry) (operation : ℕ) (forced : Bool) (reply : LocReply) → ResultDraws d.next_stamp (row.locks d e operation forced reply)
locks_draws d e operation forced reply = either d.next_stamp (nat_lt d.next_stamp _) (row.changes (record {
  deed = sets (record { entry = e; lock = Some (record { operation = operation; stamp = d.next_stamp; forced = forced }) });
  next_id = d.next_id;
  next_stamp = d.next_stamp + 1;
  reply = reply;
})) _ (record { rises = omega arith; below = omega arith }) tt

sets_draws : (d : LocLasting) (e : LocEntry) (lock : Option Lock) (reply : LocReply) → IsBelow d.next_stamp lock → ResultDraws d.next_stamp (sets_to d e lock reply)
sets_draws d e lock reply h = record { rises = le_refl d.next_stamp; below = h }

for_draws : (d : LocLasting) (operation force : ℕ) (l : Listed) → ResultDraws d.next_stamp (locks_for d operation force l)
for_draws d operation force l = either d.next_stamp (is_barred l.lock force) _ _ tt (either d.next_stamp (is_operation operation) _ _ (locks_draws d l.entry operation (is_force force) _) tt)

call_draws : (stamp : ℕ) (call : LocCall) (d : LocLasting) → AreBelow d.next_stamp d.entries → ResultDraws d.next_stamp (loc_op stamp call d)
call_draws stamp (calls.CreateEntry e) d h = fits_draws d.next_stamp None e d.entries _ (locks_draws d e row.made_for false _)
call_draws stamp (calls.DeleteEntry id) d h = lock_draws d.next_stamp stamp (found_id id d.entries) _ (found_below d.next_stamp _ d.entries h) (λ l below. record { rises = le_refl d.next_stamp; below = tt })
call_draws stamp (calls.GetEntryById id) d h = entry_draws d.next_stamp (found_id id d.entries) _ (found_below d.next_stamp _ d.entries h) (λ l below. tt)
call_draws stamp (calls.GetEntryByName name) d h = entry_draws d.next_stamp (row.found_name name d.entries) _ (found_below d.next_stamp _ d.entries h) (λ l below. tt)
call_draws stamp calls.GetNewVolumeId d h = either d.next_stamp (nat_lt d.next_id _) _ _ (record { rises = le_refl d.next_stamp; below = tt }) tt
call_draws stamp (calls.ReplaceEntry id e) d h =
    lock_draws d.next_stamp stamp (found_id id d.entries) _ (found_below d.next_stamp _ d.entries h) (λ l below. fits_draws d.next_stamp (Some l.entry) e d.entries _ (sets_draws d e l.lock _ below))
call_draws stamp (calls.SetLock id operation force) d h = entry_draws d.next_stamp (found_id id d.entries) _ (found_below d.next_stamp _ d.entries h) (λ l below. for_draws d operation force l)
call_draws stamp (calls.ReleaseLock id) d h = lock_draws d.next_stamp stamp (found_id id d.entries) _ (found_below d.next_stamp _ d.entries h) (λ l below. sets_draws d l.entry None _ tt)
call_draws stamp (calls.ListEntry index) d h = listed (row.nth index (all_listed d.entries))
  where
    listed : (o : Option Listed) → ResultDraws d.next_stamp (with_entry o (λ l. row.reads (replies.ListEntry (index + 1) l.entry)))
    listed None = tt
    listed (Some l) = tt

-- ---- what it decides

abbrev Draws : LocState → LocDecision → Type 0
Draws s (saves head c) = ChangeDraws s.lasting.next_stamp c
Draws s drops = ⊤
Draws s (tells_boot head) = ⊤
Draws s (repeats reply) = ⊤
Draws s (refuses head code) = ⊤
Draws s (shows head reply) = ⊤

either_draws : (s : LocState) (b : Bool) (x y : LocDecision) → Draws s x → Draws s y → Draws s (cond b x y)
either_draws s true x y h k = h
either_draws s false x y h k = k

result_draws : (s : LocState) (head : Head) (r : LocResult) → ResultDraws s.lasting.next_stamp r → Draws s (decided s head r)
result_draws s head (row.refused code) h = tt
result_draws s head (row.reads reply) h = tt
result_draws s head (row.changes c) h = either_draws s (loc_has_room (loc_durable_of s.lasting) (loc_record_of s.lasting.boot head c)) (saves head c) (refuses head no_room) h tt

carried_draws : (s : LocState) (head : Head) (c : Carried) → AreBelow s.lasting.next_stamp s.lasting.entries → Draws s (row.runs_carried s head c)
carried_draws s head (carried.Call user (ask.Location call)) h = result_draws s head (loc_op head.stamp call s.lasting) (call_draws head.stamp call s.lasting h)
carried_draws s head (carried.Call user (ask.File call)) h = tt
carried_draws s head (carried.Call user (ask.Volume call)) h = tt
carried_draws s head (carried.Refusal code) h = tt
carried_draws s head (carried.Reply reply) h = tt
carried_draws s head carried.Notice h = tt

admits_draws : (s : LocState) (head : Head) (c : Carried) (o : Admitted Message) → AreBelow s.lasting.next_stamp s.lasting.entries → Draws s (admits s head (Whole (record { head = head; carried = c })) o)
admits_draws s head c pairs.runs h = either_draws s (same_node head.from Loc) _ _ tt (carried_draws s head c h)
admits_draws s head c (pairs.kept reply) h = tt
admits_draws s head c pairs.in_progress h = tt
admits_draws s head c pairs.older h = tt
admits_draws s head c (pairs.wrong_boot boot) h = tt

decides_draws : (s : LocState) (m : Message) → AreBelow s.lasting.next_stamp s.lasting.entries → Draws s (loc_decides s (Whole m))
decides_draws s m h = hears_draws m.head m.carried
  where
    hears_draws : (head : Head) (c : Carried) → Draws s (hears s head c)
    hears_draws head (carried.Call user call) = either_draws s (same_node head.to Loc) _ drops (admits_draws s head (carried.Call user call) (admitted s.lasting.boot s.seats head) h) tt
    hears_draws head (carried.Refusal code) = tt
    hears_draws head (carried.Reply reply) = tt
    hears_draws head carried.Notice = tt

-- ---- its steps

pub record Drawn (s : LocState) : Type 0 where
  pub below : AreBelow s.lasting.next_stamp s.lasting.entries

pub record Draw (a b : LocState) : Type 0 where
  pub drawn : Drawn b
  pub rises : a.lasting.next_stamp ≤ b.lasting.next_stamp

same_draw : (s : LocState) → Drawn s → Draw s s
same_draw s h = record { drawn = h; rises = le_refl s.lasting.next_stamp }

deed_below : (n m : ℕ) (deed : EntryDeed) (t : Table Listed) → n ≤ m → DeedBelow m deed → AreBelow n t → AreBelow m (entries_after deed t)
deed_below n m (sets l) t le h all = set_below m l.entry.read_write l t h (all_higher n m t le all)
deed_below n m (removes e) t le h all = unset_below m e.read_write t (all_higher n m t le all)
deed_below n m leaves t le h all = all_higher n m t le all

saved_draw : (s : LocState) (head : Head) (c : LocChange) → Drawn s → ChangeDraws s.lasting.next_stamp c → Draw s (loc_saved head c s)
saved_draw s head c h k = record { drawn = record { below = deed_below s.lasting.next_stamp c.next_stamp c.deed s.lasting.entries k.rises k.below h.below }; rises = k.rises }

left_draw : (s : LocState) (d : LocDecision) → Drawn s → Draws s d → Draw s (loc_left s d)
left_draw s (saves head c) h k = saved_draw s head c h k
left_draw s drops h k = same_draw s h
left_draw s (tells_boot head) h k = same_draw s h
left_draw s (repeats reply) h k = same_draw s h
left_draw s (refuses head code) h k = record { drawn = record { below = h.below }; rises = le_refl s.lasting.next_stamp }
left_draw s (shows head reply) h k = record { drawn = record { below = h.below }; rises = le_refl s.lasting.next_stamp }

serve_by : (h : LocHost) (clock place : ℕ) (m : Message) (o : Option Blow) → Drawn h.state → Draw h.state (served_by loc_kind h clock place m o).host.state
unfolding loc_row
serve_by h clock place m None k = left_draw h.state (loc_decides h.state (Whole m)) k (decides_draws h.state m k.below)
serve_by h clock place m (Some b) k = same_draw h.state k

pub serve_draws : (h : LocHost) (clock place : ℕ) (luck : Luck) (m : Message) → Drawn h.state → Draw h.state (served loc_kind h clock place luck m).host.state
serve_draws h clock place luck m k = serve_by h clock place m (struck h.armed luck (loc_kind.device_calls h.state clock (Whole m))) k

pub none_draws : (s : LocState) → Drawn s → Draw s s
none_draws s h = same_draw s h

after_draws : (s : LocState) (d : LocDecision) → Drawn s → Draws s d → Draw s (loc_begun_after s d).state
after_draws s (saves head c) h k = saved_draw s head c h k
after_draws s drops h k = same_draw s h
after_draws s (tells_boot head) h k = same_draw s h
after_draws s (repeats reply) h k = same_draw s h
after_draws s (refuses head code) h k = same_draw s h
after_draws s (shows head reply) h k = same_draw s h

begun_draws : (s : LocState) (after : Bool) (fall : Fall) → Drawn s → Draw s (begun_from loc_kind s after fall).state
begun_draws s after at_rest h = same_draw s h
begun_draws s false (in_step m clock b) h = same_draw s h
begun_draws s true (in_step m clock b) h = after_draws s (loc_decides s (Whole m)) h (decides_draws s m h.below)
begun_draws s false in_boot h = same_draw s h
begun_draws s true in_boot h = record { drawn = record { below = h.below }; rises = le_refl s.lasting.next_stamp }

ends_draws : (h : LocHost) (clock count : ℕ) (f : Begun LocState) (fall : Fall) (o : Outcome) → Drawn h.state → Draw h.state f.state → Draw h.state (ends loc_kind h clock count f fall o).host.state
unfolding loc_start_row
ends_draws h clock count f fall comes_up k b = record { drawn = record { below = b.drawn.below }; rises = b.rises }
ends_draws h clock count f fall fails_early k b = same_draw h.state k
ends_draws h clock count f fall fails_midway k b = b
ends_draws h clock count f fall is_full k b = b

pub restart_draws : (h : LocHost) (clock count : ℕ) (after : Bool) (o : Outcome) (fall : Fall) → Drawn h.state → Draw h.state (restarted loc_kind h clock count after o fall).host.state
restart_draws h clock count after o fall k = ends_draws h clock count (begun_from loc_kind h.state after fall) fall (without_boot_record (loc_kind.can_start (begun_from loc_kind h.state after fall).state) o) k (begun_draws h.state after fall k)
