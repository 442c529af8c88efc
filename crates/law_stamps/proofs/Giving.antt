-- Which call the location database gives a stamp: its steps and restarts.
use Rattle.std.proofs.Common.{◌≡◌, ◌≤◌, ◌<◌, ℕ, ℤ, ◌+◌, Bool, true, false, cond, List, [], ◌∷◌, Option, Some, None, refl, sym, ap, subst, arith, ◌∙◌, nat_eq, nat_lt}
use Rattle.std.proofs.Math.Nat.{le_refl}
use Rattle.std.proofs.lemmas.Bool.{le-ltb, lt-ltb}
use Rattle.std.specs.Prelude.{⊤, length, not, if◌then◌else◌}
use Rattle.std.specs.List.{AllByRecursion}
use Rattle.afs_num.specs.Names.{volume_name_ok}
use Rattle.afs_num.specs.Nodes.{node_number, same_node}
use Rattle.afs_num.specs.declared.location_calls.LocCall.{LocCall}
use Rattle.afs_num.specs.declared.location_calls.LocCall.TheVariants as calls
use Rattle.afs_num.specs.declared.location_calls.LocEntry.{LocEntry}
use Rattle.afs_num.specs.declared.location_calls.LocReply.{LocReply}
use Rattle.afs_num.specs.declared.location_calls.LocReply.TheVariants as replies
use Rattle.afs_num.specs.declared.messages.Call.TheVariants as ask
use Rattle.afs_num.specs.declared.messages.Carried.{Carried}
use Rattle.afs_num.specs.declared.messages.Carried.TheVariants as carried
use Rattle.afs_num.specs.declared.messages.Message.{Message}
use Rattle.afs_num.specs.declared.messages.Received.TheVariants.{Whole}
use Rattle.afs_num.specs.declared.types.Head.{Head}
use Rattle.afs_num.specs.declared.types.Key.{Key}
use Rattle.afs_num.specs.declared.types.Node.{Node}
use Rattle.afs_num.specs.declared.types.Node.TheVariants.{Loc}
use Rattle.spec_ideal.specs.Tables.{Table}
use Rattle.spec_model.specs.Calls.{admitted, call_seat, call_seated, other_seats, pair_below, paired, repeated, Admitted, key_of}
use Rattle.spec_model.specs.Calls as pairs
use Rattle.spec_records.specs.LocDurable.{loc_has_room}
use Rattle.spec_records.specs.LocRecords.{Listed}
use Rattle.spec_rows.specs.Hosts.{at_rest, begun_from, comes_up, ends, fails_early, fails_midway, in_boot, in_step, is_full, restarted, served, served_by, without_boot_record, struck, Blow, Fall, Luck, Outcome}
use Rattle.spec_rows.specs.LocRow.{admits, any_other, decided, drops, entry_fits, hears, holds, is_barred, is_force, is_named, is_operation, loc_decides, loc_durable_of, loc_left, loc_op, loc_record_of, loc_saved, loc_sent, locks_for, refuses, repeats, reply_to, saves, shares_id, shows, tells_boot, with_entry, with_lock, LocChange, LocDecision, LocLasting, LocResult, LocState}
use Rattle.spec_rows.specs.LocRow as row
use Rattle.spec_rows.specs.LocSteps.{loc_begun_after, loc_kind, loc_row, loc_start_row, LocHost}
use Rattle.spec_rows.specs.ServerRow.{no_room, seat_placed}
use Rattle.spec_rows.specs.States.{Seat}
use Rattle.spec_rows.specs.Steps.{Begun}
use Rattle.law_places.proofs.Copies.{all_filter, all_more}
use Rattle.law_stamps.specs.Given.{given_by, given_in, IsTheirs}

-- ---- kept replies

abbrev KeptIs : (Message → Type 0) → Option Message → Type 0
KeptIs P None = ⊤
KeptIs P (Some m) = P m

abbrev pub SeatIs : (Message → Type 0) → Seat → Type 0
SeatIs P seat = KeptIs P seat.reply

abbrev pub SeatsAre : (Message → Type 0) → List Seat → Type 0
SeatsAre P seats = AllByRecursion (SeatIs P) seats

abbrev FoundIs : (Message → Type 0) → Option Seat → Type 0
FoundIs P None = ⊤
FoundIs P (Some seat) = SeatIs P seat

-- a kept reply that is sent again
abbrev AdmittedIs : (Message → Type 0) → Admitted Message → Type 0
AdmittedIs P (pairs.kept reply) = P reply
AdmittedIs P pairs.runs = ⊤
AdmittedIs P pairs.in_progress = ⊤
AdmittedIs P pairs.older = ⊤
AdmittedIs P (pairs.wrong_boot boot) = ⊤

module _ (P : Message → Type 0) where
  seated_is : (seat : Seat) (seats : List Seat) → SeatIs P seat → SeatsAre P seats → SeatsAre P (call_seated seat seats)
  seated_is seat seats h k = all_more (SeatIs P) (other_seats seat.caller seats) (seat ∷ []) (all_filter (SeatIs P) _ seats k) (h, tt)

  placed_by : (a b : Bool) (x s : Seat) (seats rest : List Seat) → SeatIs P x → SeatIs P s → SeatsAre P seats → SeatsAre P rest → SeatsAre P (if a then x ∷ seats else (if b then x ∷ s ∷ seats else s ∷ rest))
  placed_by true b x s seats rest h k all later = (h, all)
  placed_by false true x s seats rest h k all later = (h, (k, all))
  placed_by false false x s seats rest h k all later = (k, later)

  placed_is : (seat : Seat) (seats : List Seat) → SeatIs P seat → SeatsAre P seats → SeatsAre P (seat_placed seat seats)
  placed_is x [] h k = (h, tt)
  placed_is x (s ∷ seats) h k = placed_by (same_node s.caller x.caller) (nat_lt (node_number x.caller) (node_number s.caller)) x s seats (seat_placed x seats) h k.0 k.1 (placed_is x seats h k.1)

  found_by : (b : Bool) (s : Seat) (o : Option Seat) → SeatIs P s → FoundIs P o → FoundIs P (if b then Some s else o)
  found_by true s o h k = h
  found_by false s o h k = k

  found_is : (n : Node) (seats : List Seat) → SeatsAre P seats → FoundIs P (call_seat n seats)
  found_is n [] h = tt
  found_is n (s ∷ seats) h = found_by (same_node s.caller n) s (call_seat n seats) h.0 (found_is n seats h.1)

  again_is : (o : Option Message) → KeptIs P o → AdmittedIs P (repeated o)
  again_is None h = tt
  again_is (Some m) h = h

  compared_by : (a b : Bool) (o : Option Message) → KeptIs P o → AdmittedIs P (if a then pairs.older else (if b then pairs.runs else repeated o))
  compared_by true b o h = tt
  compared_by false true o h = tt
  compared_by false false o h = again_is o h

  paired_is : (epoch number : ℕ) (o : Option Seat) → FoundIs P o → AdmittedIs P (paired epoch number o)
  paired_is epoch number None h = tt
  paired_is epoch number (Some seat) h = compared_by (pair_below epoch number seat.epoch seat.number) (pair_below seat.epoch seat.number epoch number) seat.reply h

  admitted_by : (b : Bool) (boot : ℕ) (o : Admitted Message) → AdmittedIs P o → AdmittedIs P (if b then o else pairs.wrong_boot boot)
  admitted_by true boot o h = h
  admitted_by false boot o h = tt

  admitted_is : (boot : ℕ) (seats : List Seat) (head : Head) → SeatsAre P seats → AdmittedIs P (admitted boot seats head)
  admitted_is boot seats head h = admitted_by (nat_eq head.boot boot) boot _ (paired_is head.epoch head.number (call_seat head.from seats) (found_is head.from seats h))

-- what holds of each message more weakly holds of all
pub weaker_all : {A : Type 0} (P Q : A → Type 0) (xs : List A) → ((x : A) → P x → Q x) → AllByRecursion P xs → AllByRecursion Q xs
weaker_all {A} P Q [] more h = tt
weaker_all {A} P Q (x ∷ xs) more h = (more x h.0, weaker_all P Q xs more h.1)

weaker_kept : (P Q : Message → Type 0) (o : Option Message) → ((m : Message) → P m → Q m) → KeptIs P o → KeptIs Q o
weaker_kept P Q None more h = tt
weaker_kept P Q (Some m) more h = more m h

weaker_seats : (P Q : Message → Type 0) (seats : List Seat) → ((m : Message) → P m → Q m) → SeatsAre P seats → SeatsAre Q seats
weaker_seats P Q seats more h = weaker_all (SeatIs P) (SeatIs Q) seats (λ seat k. weaker_kept P Q seat.reply more k) h

-- ---- what a call gives

-- nothing, or the next stamp, which is drawn then
abbrev Gives : ℕ → Option ℕ → ℕ → Type 0
Gives n None m = n ≤ m
Gives n (Some stamp) m = (stamp ≡ n) × (n < m)

abbrev ChangeGives : ℕ → LocChange → Type 0
ChangeGives n c = Gives n (given_by c.reply) c.next_stamp

abbrev ResultGives : ℕ → LocResult → Type 0
ResultGives n (row.refused code) = ⊤
ResultGives n (row.reads reply) = given_by reply ≡ None
ResultGives n (row.changes c) = ChangeGives n c

either : (n : ℕ) (b : Bool) (x y : LocResult) → ResultGives n x → ResultGives n y → ResultGives n (cond b x y)
either n true x y h k = h
either n false x y h k = k

unless_gives : (n : ℕ) (b : Bool) (code : ℤ) (more : LocResult) → ResultGives n more → ResultGives n (cond b (row.refused code) more)
unless_gives n true code more h = tt
unless_gives n false code more h = h

fits_gives : (n : ℕ) (old : Option LocEntry) (new : LocEntry) (t : Table Listed) (more : LocResult) → ResultGives n more → ResultGives n (entry_fits old new t more)
fits_gives n old new t more h =
    unless_gives n (not (volume_name_ok new.name)) row.bad_name _
    (unless_gives n (any_other old (shares_id new) t) row.taken_id _
    (unless_gives n (any_other old (is_named new.name) t) row.taken_name _ (unless_gives n (nat_lt row.most_listed_sites (length new.sites)) row.too_many_sites more h)))

entry_gives : (n : ℕ) (o : Option Listed) (more : Listed → LocResult) → ((l : Listed) → ResultGives n (more l)) → ResultGives n (with_entry o more)
entry_gives n None more k = tt
entry_gives n (Some l) more k = k l

read_gives : (n : ℕ) (o : Option Listed) (f : Listed → LocReply) → ((l : Listed) → given_by (f l) ≡ None) → ResultGives n (with_entry o (λ l. row.reads (f l)))
read_gives n None f h = tt
read_gives n (Some l) f h = h l

lock_gives : (n stamp : ℕ) (o : Option Listed) (more : Listed → LocResult) → ((l : Listed) → ResultGives n (more l)) → ResultGives n (with_lock stamp o more)
lock_gives n stamp o more k = entry_gives n o _ (λ l. either n (holds stamp l.lock) (more l) _ (k l) tt)

next_above : (n : ℕ) → n < n + 1
next_above n = omega (arith)

for_gives : (d : LocLasting) (operation force : ℕ) (l : Listed) → ResultGives d.next_stamp (locks_for d operation force l)
for_gives d operation force l =
    unless_gives d.next_stamp (is_barred l.lock force) row.is_locked _
    (either d.next_stamp (is_operation operation) _ _ (either d.next_stamp (nat_lt d.next_stamp _) _ _ (refl, next_above d.next_stamp) tt) tt)

call_gives : (stamp : ℕ) (call : LocCall) (d : LocLasting) → ResultGives d.next_stamp (loc_op stamp call d)
call_gives stamp (calls.CreateEntry e) d = fits_gives d.next_stamp None e d.entries _ (either d.next_stamp (nat_lt d.next_stamp _) _ _ (refl, next_above d.next_stamp) tt)
call_gives stamp (calls.DeleteEntry id) d = lock_gives d.next_stamp stamp _ _ (λ l. le_refl d.next_stamp)
call_gives stamp (calls.GetEntryById id) d = read_gives d.next_stamp (row.found_id id d.entries) (λ l. replies.GetEntryById l.entry) (λ l. refl)
call_gives stamp (calls.GetEntryByName name) d = read_gives d.next_stamp (row.found_name name d.entries) (λ l. replies.GetEntryByName l.entry) (λ l. refl)
call_gives stamp calls.GetNewVolumeId d = either d.next_stamp (nat_lt d.next_id _) _ _ (le_refl d.next_stamp) tt
call_gives stamp (calls.ReplaceEntry id e) d = lock_gives d.next_stamp stamp _ _ (λ l. fits_gives d.next_stamp (Some l.entry) e d.entries _ (le_refl d.next_stamp))
call_gives stamp (calls.SetLock id operation force) d = entry_gives d.next_stamp _ _ (for_gives d operation force)
call_gives stamp (calls.ReleaseLock id) d = lock_gives d.next_stamp stamp _ _ (λ l. le_refl d.next_stamp)
call_gives stamp (calls.ListEntry index) d = read_gives d.next_stamp (row.nth index (row.all_listed d.entries)) (λ l. replies.ListEntry (index + 1) l.entry) (λ l. refl)

-- ---- what it decides

abbrev DecidesOn : (Message → Type 0) → ℕ → LocDecision → Type 0
DecidesOn P n (repeats reply) = P reply
DecidesOn P n drops = ⊤
DecidesOn P n (tells_boot head) = ⊤
DecidesOn P n (refuses head code) = ⊤
DecidesOn P n (shows head reply) = given_by reply ≡ None
DecidesOn P n (saves head c) = ChangeGives n c

module _ (P : Message → Type 0) (s : LocState) (seats : SeatsAre P s.seats) where
  abbrev Decides : LocDecision → Type 0
  Decides d = DecidesOn P s.lasting.next_stamp d

  either_decides : (b : Bool) (x y : LocDecision) → Decides x → Decides y → Decides (cond b x y)
  either_decides true x y h k = h
  either_decides false x y h k = k

  result_decides : (head : Head) (r : LocResult) → ResultGives s.lasting.next_stamp r → Decides (decided s head r)
  result_decides head (row.refused code) h = tt
  result_decides head (row.reads reply) h = h
  result_decides head (row.changes c) h = either_decides (loc_has_room (loc_durable_of s.lasting) (loc_record_of s.lasting.boot head c)) (saves head c) (refuses head no_room) h tt

  carried_decides : (head : Head) (c : Carried) → Decides (row.runs_carried s head c)
  carried_decides head (carried.Call user (ask.Location call)) = result_decides head (loc_op head.stamp call s.lasting) (call_gives head.stamp call s.lasting)
  carried_decides head (carried.Call user (ask.File call)) = tt
  carried_decides head (carried.Call user (ask.Volume call)) = tt
  carried_decides head (carried.Refusal code) = tt
  carried_decides head (carried.Reply reply) = tt
  carried_decides head carried.Notice = tt

  admits_decides : (head : Head) (c : Carried) (o : Admitted Message) → AdmittedIs P o → Decides (admits s head (Whole (record { head = head; carried = c })) o)
  admits_decides head c pairs.runs h = either_decides (same_node head.from Loc) _ _ tt (carried_decides head c)
  admits_decides head c (pairs.kept reply) h = h
  admits_decides head c pairs.in_progress h = tt
  admits_decides head c pairs.older h = tt
  admits_decides head c (pairs.wrong_boot boot) h = tt

  hears_decides : (head : Head) (c : Carried) → Decides (hears s head c)
  hears_decides head (carried.Call user call) =
      either_decides (same_node head.to Loc) _ drops (admits_decides head (carried.Call user call) (admitted s.lasting.boot s.seats head) (admitted_is P s.lasting.boot s.seats head seats)) tt
  hears_decides head (carried.Refusal code) = tt
  hears_decides head (carried.Reply reply) = tt
  hears_decides head carried.Notice = tt

-- ---- whose a stamp is

-- from this stamp on they are this call's
abbrev from_on : ℕ → Key → (ℕ → Key) → ℕ → Key
from_on n key owner stamp = cond (nat_lt stamp n) (owner stamp) key

-- all replies that it keeps give stamps so
pub record Gave (owner : ℕ → Key) (s : LocState) : Type 0 where
  pub seats : SeatsAre (IsTheirs owner s.lasting.next_stamp) s.seats
  pub kept : SeatsAre (IsTheirs owner s.lasting.next_stamp) s.lasting.kept

-- What comes of a step that sends these: the stamps that were drawn before it stay whose they were.
pub record Give (owner : ℕ → Key) (a b : LocState) (messages : List Message) : Type 0 where
  pub now : ℕ → Key
  pub stays : (stamp : ℕ) → stamp < a.lasting.next_stamp → now stamp ≡ owner stamp
  pub rises : a.lasting.next_stamp ≤ b.lasting.next_stamp
  pub sent : AllByRecursion (IsTheirs now b.lasting.next_stamp) messages
  pub gave : Gave now b

pub still_theirs : (owner now : ℕ → Key) (n k : ℕ) → n ≤ k → ((stamp : ℕ) → stamp < n → now stamp ≡ owner stamp) → (m : Message) → IsTheirs owner n m → IsTheirs now k m
still_theirs owner now n k le same m h stamp e =
    let below : stamp < n = (h stamp e).0 in
    (omega (arith, below, le), (h stamp e).1 ∙ sym (same stamp below))

pub none_given : (owner : ℕ → Key) (s : LocState) → Gave owner s → Give owner s s []
none_given owner s h = record { now = owner; stays = λ stamp below. refl; rises = le_refl s.lasting.next_stamp; sent = tt; gave = h }

-- it keeps, and sends, one more reply without a stamp
one_told : (owner : ℕ → Key) (s : LocState) (head : Head) (m : Message) → given_in m.carried ≡ None → Gave owner s → Give owner s (row.loc_keeps head m s) (m ∷ [])
one_told owner s head m none h =
    let quiet : IsTheirs owner s.lasting.next_stamp m = λ stamp e. let no : None ≡ Some stamp = sym none ∙ e in absurd cc in
    record { now = owner; stays = λ stamp below. refl; rises = le_refl s.lasting.next_stamp; sent = (quiet, tt); gave = record { seats = seated_is (IsTheirs owner s.lasting.next_stamp) _ s.seats quiet h.seats; kept = h.kept } }

own_now : (n : ℕ) (key : Key) (owner : ℕ → Key) (stamp : ℕ) → stamp ≡ n → key ≡ from_on n key owner stamp
own_now n key owner stamp same = sym (ap (λ (b : Bool). cond b (owner stamp) key) (le-ltb stamp n (subst (λ (k : ℕ). k ≤ stamp) same (le_refl stamp))))

own_before : (n : ℕ) (key : Key) (owner : ℕ → Key) (stamp : ℕ) → stamp < n → from_on n key owner stamp ≡ owner stamp
own_before n key owner stamp below = ap (λ (b : Bool). cond b (owner stamp) key) (lt-ltb stamp n below)

gives_on : (n m : ℕ) (o : Option ℕ) → Gives n o m → n ≤ m
gives_on n m None h = h
gives_on n m (Some stamp) h = let more : n < m = h.1 in omega (arith, more)

saved_gives : (owner : ℕ → Key) (s : LocState) (head : Head) (c : LocChange) → ChangeGives s.lasting.next_stamp c → Gave owner s → Give owner s (loc_saved head c s) (reply_to s.lasting.boot head c.reply ∷ [])
saved_gives owner s head c k h =
    let n : ℕ = s.lasting.next_stamp in
    let now : ℕ → Key = from_on n (key_of head) owner in
    let new : IsTheirs now c.next_stamp (reply_to s.lasting.boot head c.reply) =
    λ stamp e. let one : (stamp ≡ n) × (n < c.next_stamp) = subst (λ (o : Option ℕ). Gives n o c.next_stamp) e k in (subst (λ (x : ℕ). x < c.next_stamp) (sym one.0) one.1, own_now n (key_of head) owner stamp one.0) in
    let more : (m : Message) → IsTheirs owner n m → IsTheirs now c.next_stamp m = still_theirs owner now n c.next_stamp (gives_on n c.next_stamp (given_by c.reply) k) (own_before n (key_of head) owner) in
    record {
      now = now;
      stays = own_before n (key_of head) owner;
      rises = gives_on n c.next_stamp (given_by c.reply) k;
      sent = (new, tt);
      gave = record {
        seats = seated_is (IsTheirs now c.next_stamp) _ s.seats new (weaker_seats (IsTheirs owner n) (IsTheirs now c.next_stamp) s.seats more h.seats);
        kept = placed_is (IsTheirs now c.next_stamp) _ s.lasting.kept new (weaker_seats (IsTheirs owner n) (IsTheirs now c.next_stamp) s.lasting.kept more h.kept);
      };
    }

left_gives : (owner : ℕ → Key) (s : LocState) (d : LocDecision) → DecidesOn (IsTheirs owner s.lasting.next_stamp) s.lasting.next_stamp d → Gave owner s → Give owner s (loc_left s d) (loc_sent s d)
left_gives owner s drops k h = none_given owner s h
left_gives owner s (tells_boot head) k h = record { now = owner; stays = λ stamp below. refl; rises = le_refl s.lasting.next_stamp; sent = ((λ stamp e. absurd cc), tt); gave = h }
left_gives owner s (repeats reply) k h = record { now = owner; stays = λ stamp below. refl; rises = le_refl s.lasting.next_stamp; sent = (k, tt); gave = h }
left_gives owner s (refuses head code) k h = one_told owner s head _ refl h
left_gives owner s (shows head reply) k h = one_told owner s head _ k h
left_gives owner s (saves head c) k h = saved_gives owner s head c k h

decides_on : (owner : ℕ → Key) (s : LocState) (m : Message) → Gave owner s → DecidesOn (IsTheirs owner s.lasting.next_stamp) s.lasting.next_stamp (loc_decides s (Whole m))
decides_on owner s m h = hears_decides (IsTheirs owner s.lasting.next_stamp) s h.seats m.head m.carried

-- ---- its steps

serve_by : (owner : ℕ → Key) (h : LocHost) (clock place : ℕ) (m : Message) (o : Option Blow) → Gave owner h.state → Give owner h.state (served_by loc_kind h clock place m o).host.state (served_by loc_kind h clock place m o).sent
unfolding loc_row
serve_by owner h clock place m None k = left_gives owner h.state (loc_decides h.state (Whole m)) (decides_on owner h.state m k) k
serve_by owner h clock place m (Some b) k = none_given owner h.state k

pub serve_gives : (owner : ℕ → Key) (h : LocHost) (clock place : ℕ) (luck : Luck) (m : Message) → Gave owner h.state → Give owner h.state (served loc_kind h clock place luck m).host.state (served loc_kind h clock place luck m).sent
serve_gives owner h clock place luck m k = serve_by owner h clock place m (struck h.armed luck (loc_kind.device_calls h.state clock (Whole m))) k

-- ---- a restart sends nothing

unsent : (owner : ℕ → Key) (a b : LocState) (sent : List Message) → Give owner a b sent → Give owner a b []
unsent owner a b sent h = record { now = h.now; stays = h.stays; rises = h.rises; sent = tt; gave = h.gave }

after_gives : (owner : ℕ → Key) (s : LocState) (d : LocDecision) → DecidesOn (IsTheirs owner s.lasting.next_stamp) s.lasting.next_stamp d → Gave owner s → Give owner s (loc_begun_after s d).state []
after_gives owner s (saves head c) k h = unsent owner s _ _ (saved_gives owner s head c k h)
after_gives owner s drops k h = none_given owner s h
after_gives owner s (tells_boot head) k h = none_given owner s h
after_gives owner s (repeats reply) k h = none_given owner s h
after_gives owner s (refuses head code) k h = none_given owner s h
after_gives owner s (shows head reply) k h = none_given owner s h

revived : (owner : ℕ → Key) (a b : LocState) → Give owner a b [] → (c : LocState) → c.lasting.next_stamp ≡ b.lasting.next_stamp → c.lasting.kept ≡ b.lasting.kept → c.seats ≡ b.lasting.kept → Give owner a c []
revived owner a b h c next kept seats = record {
  now = h.now;
  stays = h.stays;
  rises = subst (λ (n : ℕ). a.lasting.next_stamp ≤ n) (sym next) h.rises;
  sent = tt;
  gave = record {
    seats = subst (λ (n : ℕ). SeatsAre (IsTheirs h.now n) c.seats) (sym next) (subst (SeatsAre (IsTheirs h.now b.lasting.next_stamp)) (sym seats) h.gave.kept);
    kept = subst (λ (n : ℕ). SeatsAre (IsTheirs h.now n) c.lasting.kept) (sym next) (subst (SeatsAre (IsTheirs h.now b.lasting.next_stamp)) (sym kept) h.gave.kept);
  };
}

begun_gives : (owner : ℕ → Key) (s : LocState) (after : Bool) (fall : Fall) → Gave owner s → Give owner s (begun_from loc_kind s after fall).state []
begun_gives owner s after at_rest h = none_given owner s h
begun_gives owner s false (in_step m clock b) h = none_given owner s h
begun_gives owner s true (in_step m clock b) h = after_gives owner s (loc_decides s (Whole m)) (decides_on owner s m h) h
begun_gives owner s false in_boot h = none_given owner s h
begun_gives owner s true in_boot h = revived owner s s (none_given owner s h) _ refl refl refl

ends_gives : (owner : ℕ → Key) (h : LocHost) (clock count : ℕ) (f : Begun LocState) (fall : Fall) (o : Outcome) → Gave owner h.state → Give owner h.state f.state [] → Give owner h.state (ends loc_kind h clock count f fall o).host.state (ends loc_kind h clock count f fall o).sent
unfolding loc_start_row
ends_gives owner h clock count f fall comes_up k b = revived owner h.state f.state b _ refl refl refl
ends_gives owner h clock count f fall fails_early k b = none_given owner h.state k
ends_gives owner h clock count f fall fails_midway k b = b
ends_gives owner h clock count f fall is_full k b = b

pub restart_gives : (owner : ℕ → Key) (h : LocHost) (clock count : ℕ) (after : Bool) (o : Outcome) (fall : Fall) → Gave owner h.state → Give owner h.state (restarted loc_kind h clock count after o fall).host.state (restarted loc_kind h clock count after o fall).sent
restart_gives owner h clock count after o fall k = ends_gives owner h clock count (begun_from loc_kind h.state after fall) fall (without_boot_record (loc_kind.can_start (begun_from loc_kind h.state after fall).state) o) k (begun_gives owner h.state after fall k)
