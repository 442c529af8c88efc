-- The entries of the location database, and the volume number that it draws next: entries stay sound, where those that calls write are.
use Rattle.std.proofs.Common.{◌≡◌, ◌≤◌, ◌<◌, ℕ, ℤ, ◌+◌, Bool, true, false, cond, [], ◌∷◌, Option, Some, None, refl, subst, arith}
use Rattle.std.proofs.Math.Nat.{le_refl}
use Rattle.std.specs.Prelude.{⊤, nat_eq, nat_lt, find, length, not}
use Rattle.std.specs.List.{AllByRecursion}
use Rattle.afs_num.specs.Names.{volume_name_ok}
use Rattle.afs_num.specs.Nodes.{same_node}
use Rattle.afs_num.specs.declared.location_calls.LocCall.{LocCall}
use Rattle.afs_num.specs.declared.location_calls.LocCall.TheVariants as calls
use Rattle.afs_num.specs.declared.location_calls.LocEntry.{LocEntry}
use Rattle.afs_num.specs.declared.location_calls.LocReply.{LocReply}
use Rattle.afs_num.specs.declared.location_calls.LocReply.TheVariants as replies
use Rattle.afs_num.specs.declared.messages.Call.TheVariants as ask
use Rattle.afs_num.specs.declared.messages.Carried.{Carried}
use Rattle.afs_num.specs.declared.messages.Carried.TheVariants as carried
use Rattle.afs_num.specs.declared.messages.Message.{Message}
use Rattle.afs_num.specs.declared.messages.Received.TheVariants.{Whole}
use Rattle.afs_num.specs.declared.types.Head.{Head}
use Rattle.afs_num.specs.declared.types.Node.TheVariants.{Loc}
use Rattle.spec_ideal.specs.Tables.{get, set, unset, Table}
use Rattle.spec_model.specs.Calls.{admitted, Admitted}
use Rattle.spec_model.specs.Calls as pairs
use Rattle.spec_records.specs.LocDurable.{entries_after, loc_has_room}
use Rattle.spec_records.specs.LocRecords.{leaves, removes, sets, EntryDeed, Listed, Lock}
use Rattle.spec_rows.specs.LocRow.{admits, all_listed, any_other, decided, drops, entry_fits, found_id, hears, holds, is_barred, is_force, is_named, is_operation, loc_decides, loc_durable_of, loc_op, loc_record_of, loc_saved, locks_for, refuses, repeats, saves, sets_to, shares_id, shows, tells_boot, with_entry, with_lock, LocChange, LocDecision, LocLasting, LocResult, LocState}
use Rattle.spec_rows.specs.LocRow as row
use Rattle.spec_rows.specs.ServerRow.{no_room}
use Rattle.law_numbers.specs.Numbers.{IsDrawn, IsSound, WritesSound}

-- ---- sound entries

pub still_drawn : (n m k : ℕ) → n ≤ m → IsDrawn n k → IsDrawn m k
still_drawn n m k le h = let low : k < n = h.1 in (h.0, omega (arith, le, low))

pub still_sound : (n m : ℕ) (e : LocEntry) → n ≤ m → IsSound n e → IsSound m e
still_sound n m e le h = (still_drawn n m e.read_write le h.0, h.1)

abbrev pub EntriesAre : ℕ → Table Listed → Type 0
EntriesAre n t = AllByRecursion (λ (p : ℕ × Listed). IsSound n p.1.entry) t

all_still : (n m : ℕ) (t : Table Listed) → n ≤ m → EntriesAre n t → EntriesAre m t
all_still n m [] le h = tt
all_still n m (p ∷ ps) le h = (still_sound n m p.1.entry le h.0, all_still n m ps le h.1)

set_by : (n : ℕ) (a b : Bool) (x p : ℕ × Listed) (ps later : Table Listed) → IsSound n x.1.entry → IsSound n p.1.entry → EntriesAre n ps → EntriesAre n later → EntriesAre n (cond a (x ∷ ps) (cond b (x ∷ p ∷ ps) (p ∷ later)))
set_by n true b x p ps later h k all rest = (h, all)
set_by n false true x p ps later h k all rest = (h, (k, all))
set_by n false false x p ps later h k all rest = (k, rest)

pub set_sound : (n id : ℕ) (l : Listed) (t : Table Listed) → IsSound n l.entry → EntriesAre n t → EntriesAre n (set id l t)
set_sound n id l [] h all = (h, tt)
set_sound n id l (p ∷ ps) h all = set_by n (nat_eq p.0 id) (nat_lt id p.0) (id, l) p ps (set id l ps) h all.0 all.1 (set_sound n id l ps h all.1)

kept_by : (n : ℕ) (b : Bool) (p : ℕ × Listed) (rest : Table Listed) → IsSound n p.1.entry → EntriesAre n rest → EntriesAre n (cond b (p ∷ rest) rest)
kept_by n true p rest h all = (h, all)
kept_by n false p rest h all = all

unset_sound : (n id : ℕ) (t : Table Listed) → EntriesAre n t → EntriesAre n (unset id t)
unset_sound n id [] all = tt
unset_sound n id (p ∷ ps) all = kept_by n (not (nat_eq p.0 id)) p (unset id ps) all.0 (unset_sound n id ps all.1)

get_by : (n : ℕ) (b : Bool) (x : Listed) (o : Option Listed) (l : Listed) → IsSound n x.entry → (o ≡ Some l → IsSound n l.entry) → cond b (Some x) o ≡ Some l → IsSound n l.entry
get_by n true x o l h later e = let same : x ≡ l = cc in subst (λ (y : Listed). IsSound n y.entry) same h
get_by n false x o l h later e = later e

pub get_sound : (n id : ℕ) (t : Table Listed) (l : Listed) → EntriesAre n t → get id t ≡ Some l → IsSound n l.entry
get_sound n id [] l all e = absurd cc
get_sound n id (p ∷ ps) l all e = get_by n (nat_eq p.0 id) p.1 (get id ps) l all.0 (get_sound n id ps l all.1) e

-- one that is found among all
abbrev FoundSound : ℕ → Option Listed → Type 0
FoundSound n None = ⊤
FoundSound n (Some l) = IsSound n l.entry

found_by : (n : ℕ) (b : Bool) (l : Listed) (o : Option Listed) → IsSound n l.entry → FoundSound n o → FoundSound n (cond b (Some l) o)
found_by n true l o h k = h
found_by n false l o h k = k

found_sound : (n : ℕ) (test : Listed → Bool) (t : Table Listed) → EntriesAre n t → FoundSound n (find test (all_listed t))
found_sound n test [] all = tt
found_sound n test (p ∷ ps) all = found_by n (test p.1) p.1 (find test (all_listed ps)) all.0 (found_sound n test ps all.1)

-- ---- what a call does

abbrev DeedSound : ℕ → EntryDeed → Type 0
DeedSound n (sets l) = IsSound n l.entry
DeedSound n (removes e) = ⊤
DeedSound n leaves = ⊤

-- what a reply tells: an entry that is sound, or the number that was the next before
abbrev pub Tells : ℕ → ℕ → LocReply → Type 0
Tells n m (replies.SetLock stamp e) = IsSound m e
Tells n m (replies.GetNewVolumeId k) = (k ≡ n) × (n < m)
Tells n m reply = ⊤

-- The next number doesn't fall.
pub record ChangeDraws (n : ℕ) (c : LocChange) : Type 0 where
  pub rises : n ≤ c.next_id
  pub deed : DeedSound c.next_id c.deed
  pub tells : Tells n c.next_id c.reply

abbrev ResultDraws : ℕ → LocResult → Type 0
ResultDraws n (row.refused code) = ⊤
ResultDraws n (row.reads reply) = Tells n n reply
ResultDraws n (row.changes c) = ChangeDraws n c

either : (n : ℕ) (b : Bool) (x y : LocResult) → ResultDraws n x → ResultDraws n y → ResultDraws n (cond b x y)
either n true x y h k = h
either n false x y h k = k

unless_draws : (n : ℕ) (b : Bool) (code : ℤ) (more : LocResult) → ResultDraws n more → ResultDraws n (cond b (row.refused code) more)
unless_draws n true code more h = tt
unless_draws n false code more h = h

fits_draws : (n : ℕ) (old : Option LocEntry) (new : LocEntry) (t : Table Listed) (more : LocResult) → ResultDraws n more → ResultDraws n (entry_fits old new t more)
fits_draws n old new t more h =
    unless_draws n (not (volume_name_ok new.name)) row.bad_name _
    (unless_draws n (any_other old (shares_id new) t) row.taken_id _
    (unless_draws n (any_other old (is_named new.name) t) row.taken_name _ (unless_draws n (nat_lt row.most_listed_sites (length new.sites)) row.too_many_sites more h)))

entry_draws : (n : ℕ) (o : Option Listed) (more : Listed → LocResult) → FoundSound n o → ((l : Listed) → IsSound n l.entry → ResultDraws n (more l)) → ResultDraws n (with_entry o more)
entry_draws n None more h k = tt
entry_draws n (Some l) more h k = k l h

lock_draws : (n stamp : ℕ) (o : Option Listed) (more : Listed → LocResult) → FoundSound n o → ((l : Listed) → IsSound n l.entry → ResultDraws n (more l)) → ResultDraws n (with_lock stamp o more)
lock_draws n stamp o more h k = entry_draws n o _ h (λ l sound. either n (holds stamp l.lock) (more l) _ (k l sound) tt)

locks_draws : (d : LocLasting) (e : LocEntry) (operation : ℕ) (forced : Bool) (reply : LocReply) → IsSound d.next_id e → Tells d.next_id d.next_id reply → ResultDraws d.next_id (row.locks d e operation forced reply)
locks_draws d e operation forced reply h tells = either d.next_id (nat_lt d.next_stamp _) (row.changes (record {
  deed = sets (record { entry = e; lock = Some (record { operation = operation; stamp = d.next_stamp; forced = forced }) });
  next_id = d.next_id;
  next_stamp = d.next_stamp + 1;
  reply = reply;
})) _ (record { rises = le_refl d.next_id; deed = h; tells = tells }) tt

sets_draws : (d : LocLasting) (e : LocEntry) (lock : Option Lock) (reply : LocReply) → IsSound d.next_id e → Tells d.next_id d.next_id reply → ResultDraws d.next_id (sets_to d e lock reply)
sets_draws d e lock reply h tells = record { rises = le_refl d.next_id; deed = h; tells = tells }

for_draws : (d : LocLasting) (operation force : ℕ) (l : Listed) → IsSound d.next_id l.entry → ResultDraws d.next_id (locks_for d operation force l)
for_draws d operation force l h = either d.next_id (is_barred l.lock force) _ _ tt (either d.next_id (is_operation operation) _ _ (locks_draws d l.entry operation (is_force force) _ h h) tt)

one_more : (n : ℕ) → n < n + 1
one_more n = omega (arith)

no_less : (n : ℕ) → n ≤ n + 1
no_less n = omega (arith)

call_draws : (stamp : ℕ) (call : LocCall) (d : LocLasting) → WritesSound d.next_id call → EntriesAre d.next_id d.entries → ResultDraws d.next_id (loc_op stamp call d)
call_draws stamp (calls.CreateEntry e) d own h = fits_draws d.next_id None e d.entries _ (locks_draws d e row.made_for false _ own tt)
call_draws stamp (calls.DeleteEntry id) d own h = lock_draws d.next_id stamp (found_id id d.entries) _ (found_sound d.next_id _ d.entries h) (λ l sound. record { rises = le_refl d.next_id; deed = tt; tells = tt })
call_draws stamp (calls.GetEntryById id) d own h = entry_draws d.next_id (found_id id d.entries) _ (found_sound d.next_id _ d.entries h) (λ l sound. tt)
call_draws stamp (calls.GetEntryByName name) d own h = entry_draws d.next_id (row.found_name name d.entries) _ (found_sound d.next_id _ d.entries h) (λ l sound. tt)
call_draws stamp calls.GetNewVolumeId d own h = either d.next_id (nat_lt d.next_id _) _ _ (record { rises = no_less d.next_id; deed = tt; tells = (refl, one_more d.next_id) }) tt
call_draws stamp (calls.ReplaceEntry id e) d own h =
    lock_draws d.next_id stamp (found_id id d.entries) _ (found_sound d.next_id _ d.entries h) (λ l sound. fits_draws d.next_id (Some l.entry) e d.entries _ (sets_draws d e l.lock _ own.0 tt))
call_draws stamp (calls.SetLock id operation force) d own h = entry_draws d.next_id (found_id id d.entries) _ (found_sound d.next_id _ d.entries h) (λ l sound. for_draws d operation force l sound)
call_draws stamp (calls.ReleaseLock id) d own h = lock_draws d.next_id stamp (found_id id d.entries) _ (found_sound d.next_id _ d.entries h) (λ l sound. sets_draws d l.entry None _ sound tt)
call_draws stamp (calls.ListEntry index) d own h = listed (row.nth index (all_listed d.entries))
  where
    listed : (o : Option Listed) → ResultDraws d.next_id (with_entry o (λ l. row.reads (replies.ListEntry (index + 1) l.entry)))
    listed None = tt
    listed (Some l) = tt

-- ---- what it decides on a message: a call in it writes what is sound

abbrev pub CarriesSound : ℕ → Carried → Type 0
CarriesSound n (carried.Call user (ask.Location call)) = WritesSound n call
CarriesSound n (carried.Call user (ask.File call)) = ⊤
CarriesSound n (carried.Call user (ask.Volume call)) = ⊤
CarriesSound n (carried.Refusal code) = ⊤
CarriesSound n (carried.Reply reply) = ⊤
CarriesSound n carried.Notice = ⊤

-- it is a call of the database
abbrev pub IsLocationCall : Carried → Type 0
IsLocationCall (carried.Call user (ask.Location call)) = ⊤
IsLocationCall (carried.Call user (ask.File call)) = ⊥
IsLocationCall (carried.Call user (ask.Volume call)) = ⊥
IsLocationCall (carried.Refusal code) = ⊥
IsLocationCall (carried.Reply reply) = ⊥
IsLocationCall carried.Notice = ⊥

-- what it answers is to this call of it
pub record Answers (head h : Head) (x : Carried) (A : Type 0) : Type 0 where
  pub its : h ≡ head
  pub asked : IsLocationCall x
  pub so : A

abbrev pub Draws : ℕ → Head → Carried → LocDecision → Type 0
Draws n head x (saves h c) = Answers head h x (ChangeDraws n c)
Draws n head x (shows h reply) = Answers head h x (Tells n n reply)
Draws n head x drops = ⊤
Draws n head x (tells_boot h) = ⊤
Draws n head x (repeats reply) = ⊤
Draws n head x (refuses h code) = ⊤

either_draws : (n : ℕ) (head : Head) (c : Carried) (b : Bool) (x y : LocDecision) → Draws n head c x → Draws n head c y → Draws n head c (cond b x y)
either_draws n head c true x y h k = h
either_draws n head c false x y h k = k

module _ (s : LocState) (all : EntriesAre s.lasting.next_id s.lasting.entries) where
  abbrev next : ℕ
  next = s.lasting.next_id

  result_draws : (head : Head) (x : Carried) (r : LocResult) → IsLocationCall x → ResultDraws next r → Draws next head x (decided s head r)
  result_draws head x (row.refused code) asked h = tt
  result_draws head x (row.reads reply) asked h = record { its = refl; asked = asked; so = h }
  result_draws head x (row.changes c) asked h = either_draws next head x (loc_has_room (loc_durable_of s.lasting) (loc_record_of s.lasting.boot head c)) (saves head c) (refuses head no_room) (record { its = refl; asked = asked; so = h }) tt

  carried_draws : (head : Head) (c : Carried) → CarriesSound next c → Draws next head c (row.runs_carried s head c)
  carried_draws head (carried.Call user (ask.Location call)) own = result_draws head (carried.Call user (ask.Location call)) (loc_op head.stamp call s.lasting) tt (call_draws head.stamp call s.lasting own all)
  carried_draws head (carried.Call user (ask.File call)) own = tt
  carried_draws head (carried.Call user (ask.Volume call)) own = tt
  carried_draws head (carried.Refusal code) own = tt
  carried_draws head (carried.Reply reply) own = tt
  carried_draws head carried.Notice own = tt

  admits_draws : (head : Head) (c : Carried) (o : Admitted Message) → CarriesSound next c → Draws next head c (admits s head (Whole (record { head = head; carried = c })) o)
  admits_draws head c pairs.runs own = either_draws next head c (same_node head.from Loc) _ _ tt (carried_draws head c own)
  admits_draws head c (pairs.kept reply) own = tt
  admits_draws head c pairs.in_progress own = tt
  admits_draws head c pairs.older own = tt
  admits_draws head c (pairs.wrong_boot boot) own = tt

  hears_draws : (head : Head) (c : Carried) → CarriesSound next c → Draws next head c (hears s head c)
  hears_draws head (carried.Call user call) own = either_draws next head (carried.Call user call) (same_node head.to Loc) _ drops (admits_draws head (carried.Call user call) (admitted s.lasting.boot s.seats head) own) tt
  hears_draws head (carried.Refusal code) own = tt
  hears_draws head (carried.Reply reply) own = tt
  hears_draws head carried.Notice own = tt

  pub decides_draws : (m : Message) → CarriesSound next m.carried → Draws next m.head m.carried (loc_decides s (Whole m))
  decides_draws m own = hears_draws m.head m.carried own

-- ---- its state

-- a number that is drawn is that of a volume, and the entries are sound
pub record Drawn (s : LocState) : Type 0 where
  pub first : 1 ≤ s.lasting.next_id
  pub entries : EntriesAre s.lasting.next_id s.lasting.entries

deed_sound : (n m : ℕ) (deed : EntryDeed) (t : Table Listed) → n ≤ m → DeedSound m deed → EntriesAre n t → EntriesAre m (entries_after deed t)
deed_sound n m (sets l) t le h all = set_sound m l.entry.read_write l t h (all_still n m t le all)
deed_sound n m (removes e) t le h all = unset_sound m e.read_write t (all_still n m t le all)
deed_sound n m leaves t le h all = all_still n m t le all

saved_drawn : (s : LocState) (head : Head) (c : LocChange) → Drawn s → ChangeDraws s.lasting.next_id c → Drawn (loc_saved head c s)
saved_drawn s head c h k = let low : 1 ≤ s.lasting.next_id = h.first in let up : s.lasting.next_id ≤ c.next_id = k.rises in record { first = omega (arith, low, up); entries = deed_sound s.lasting.next_id c.next_id c.deed s.lasting.entries k.rises k.deed h.entries }

-- and how it goes on
pub record DrawsOn (a b : LocState) : Type 0 where
  pub drawn : Drawn b
  pub rises : a.lasting.next_id ≤ b.lasting.next_id

pub same_on : (s : LocState) → Drawn s → DrawsOn s s
same_on s h = record { drawn = h; rises = le_refl s.lasting.next_id }

pub saved_on : (s : LocState) (head : Head) (c : LocChange) → Drawn s → ChangeDraws s.lasting.next_id c → DrawsOn s (loc_saved head c s)
saved_on s head c h k = record { drawn = saved_drawn s head c h k; rises = k.rises }
