use Rattle.law_legal.proofs.ServerBoots.{is_running}
use Rattle.spec_rows.specs.Going.{no_entry}
use Rattle.law_legal.specs.LocLaws.{IsLookupNumber, IsToldIn, TellsLookup}
use Rattle.spec_model.specs.FsRows.{call_number}
use Rattle.afs_num.specs.declared.calls.FsCall.TheVariants as files
use Rattle.law_legal.proofs.DatabaseLines.{is_of_loc, is_told, told_are, told_gives, told_none, told_places}
use Rattle.spec_history.specs.declared.lines.Line.{Line}
use Rattle.spec_history.specs.declared.lines.Line.TheVariants as lines
use Rattle.spec_history.specs.declared.scripts.Script.{Script}
use Rattle.spec_ideal.specs.Tables.{Table, set}
use Rattle.law_legal.proofs.OwedPasses.{all_lines}
use Rattle.law_legal.proofs.BaseLaws.{IfReply, OfClient, OfNotice, OfReply, ByClient, LastSeat, kept_last, Each, IfCall, IsLookup, OfCall, at_seat, same_node-true, some_of, each_map, by_client}
use Rattle.law_legal.proofs.ClientCalls.{IsUncalled, placed}
use Rattle.law_legal.proofs.ServerRefusesForGood.{IsSentBy}
use Rattle.law_legal.proofs.ServerSeats as seats
use Rattle.law_legal.specs.Legal.{IsInPlace, TellsNoDeed}
use Rattle.law_legal.specs.Parts.{EachLine}
use Rattle.law_legal.specs.Past.{given_message, has_given, sent_of}
use Rattle.law_legal.specs.Lives.{IsDelivered, IsTo, TellsStop}
use Rattle.spec_model.specs.Calls as pairs
use Rattle.spec_model.specs.Calls.{Admitted, admitted, call_seat, call_seated, paired}
use Rattle.afs_num.specs.Nodes.{same_node}
use Rattle.afs_num.specs.declared.histories.Actor.TheVariants as actors
use Rattle.afs_num.specs.declared.location_calls.LocCall.{LocCall}
use Rattle.afs_num.specs.declared.location_calls.LocCall.TheVariants as calls
use Rattle.afs_num.specs.declared.location_calls.LocSite.{LocSite}
use Rattle.afs_num.specs.declared.messages.Call.TheVariants as ask
use Rattle.afs_num.specs.declared.messages.Carried.{Carried}
use Rattle.afs_num.specs.declared.messages.Carried.TheVariants as carried
use Rattle.afs_num.specs.declared.messages.Message.{Message}
use Rattle.afs_num.specs.declared.messages.Received.TheVariants.{Whole}
use Rattle.afs_num.specs.declared.messages.Reply.TheVariants as tell
use Rattle.afs_num.specs.declared.types.Head.{Head}
use Rattle.afs_num.specs.declared.types.Node.{Node}
use Rattle.afs_num.specs.declared.types.Node.TheVariants.{Admin, Client, Loc, Server}
use Rattle.spec_records.specs.Entries.{entry_of_line, same_entry, same_sites}
use Rattle.spec_records.specs.LocDurable.{listed_line}
use Rattle.spec_records.specs.LocRecords.{Listed}
use Rattle.spec_history.specs.declared.scripts.VolumeLine.{VolumeLine}
use Rattle.afs_num.specs.declared.location_calls.LocReply.TheVariants as answers
use Rattle.spec_rows.specs.ClientRow.{has_location}
use Rattle.std.specs.Str.{bytes_eq}
use Rattle.std.proofs.Common.{inl, inr, eq-eqb}
use Rattle.law_legal.proofs.VolumeNames.{bytes_itself}
use Rattle.spec_rows.specs.LocRow.{has_id, LocDecision, LocResult, LocState, admits, all_listed, changes, decided, drops, found_id, found_name, hears, loc_decides, loc_op, loc_revived, reads, refused, refuses, repeats, runs, runs_carried, saves, shows, tells_boot, with_entry, loc_left, loc_sent}
use Rattle.spec_rows.specs.LocSteps.{LocHost, loc_begun_after, loc_does, loc_kind, loc_row, loc_start_row}
use Rattle.spec_rows.specs.Hosts.{begun_from, fall_line}
use Rattle.afs_num.specs.declared.calls.FsCall.{FsCall}
use Rattle.spec_rows.specs.Runs.{counts_later, first_entries, listed_by, location_by, locations, locations_in, start, Armed, Entry, Cell, Fall, at_rest, in_boot, in_step, message_at, Blow}
use Rattle.spec_rows.specs.ServerRow.{seat_for, not_served, replied, whole}
use Rattle.spec_rows.specs.States.{Location, Seat}
use Rattle.spec_rows.specs.Steps.{Begun}
use Rattle.std.proofs.Common.{◌≡◌, ◌⊎◌, ◌+◌, ℕ, Bool, true, false, cond, List, [], ◌∷◌, Option, Some, None, refl, sym, ap, subst, nat_eq, ◌∙◌, pos}
use Rattle.std.specs.Prelude.{⊤, ◌||◌, find, nat_lt}
use Rattle.law_legal.proofs.DatabaseDoes.{AreAlone, BegunLoc, DoesLoc, IsBackTo, IsOfLoc, IsSoundLoc, IsUnderKey, disk_loc, does_alone, does_back, does_loc, does_under, hears_back, hears_due, hears_under}

-- ---- what it has, where nobody changes that: the script's volumes

abbrev pub AreOfScript : Script → List Listed → Type 0
AreOfScript S [] = ⊤
AreOfScript S (l ∷ ls) = (has_location l.entry (locations S) ≡ true) × AreOfScript S ls

abbrev pub AreToldIn : Script → List Seat → Type 0
AreToldIn S ss = (n : Node) (seat : Seat) (m : Message) → call_seat n ss ≡ Some seat → seat.reply ≡ Some m → TellsLookup S m

-- these replies are of this boot
abbrev pub AreNow : ℕ → List Seat → Type 0
AreNow boot ss = (n : Node) (seat : Seat) (m : Message) → call_seat n ss ≡ Some seat → seat.reply ≡ Some m → m.head.boot ≡ boot

-- the header names the call
abbrev pub IsNumberedCall : Head → List ℕ → FsCall → Type 0
IsNumberedCall head user call = head.opcode ≡ call_number call

abbrev pub IsAskedOf : Option Fall → Type 0
IsAskedOf (Some (in_step m clock hit)) = IfCall IsNumberedCall m
IsAskedOf o = ⊤

pub record ListsLoc (S : Script) (l : LocHost) : Type 0 where
  pub entries : AreOfScript S (all_listed l.state.lasting.entries)
  pub seats : AreToldIn S l.state.seats
  pub kept : AreToldIn S l.state.lasting.kept
  pub cut : IsAskedOf l.down
  pub now : AreNow l.state.lasting.boot l.state.seats
  pub forgets : l.state.lasting.kept ≡ []

-- a decision that changes nothing
abbrev IsMild : Script → LocDecision → Type 0
IsMild S drops = ⊤
IsMild S (tells_boot head) = ⊤
IsMild S (repeats m) = TellsLookup S m
IsMild S (refuses head code) = (j : ℕ) → head.from ≡ Client j → IsLookupNumber head.opcode → code ≡ pos no_entry
IsMild S (shows head reply) = IsToldIn S (carried.Reply (tell.Location reply))
IsMild S (saves head c) = ⊥

either_mild : (S : Script) (t : Bool) (a b : LocDecision) → IsMild S a → IsMild S b → IsMild S (cond t a b)
either_mild S true a b h k = h
either_mild S false a b h k = k

found_by : (S : Script) (t : Bool) (o : Option Listed) (x l : Listed) → cond t (Some x) o ≡ Some l → has_location x.entry (locations S) ≡ true → (o ≡ Some l → has_location l.entry (locations S) ≡ true) → has_location l.entry (locations S) ≡ true
found_by S true o x l e h w = subst (λ (y : Listed). has_location y.entry (locations S) ≡ true) (some_of x l e) h
found_by S false o x l e h w = w e

found_of : (S : Script) (p : Listed → Bool) (ls : List Listed) (l : Listed) → find p ls ≡ Some l → AreOfScript S ls → has_location l.entry (locations S) ≡ true
found_of S p [] l e h = absurd cc
found_of S p (x ∷ ls) l e h = found_by S (p x) (find p ls) x l e h.0 (λ q. found_of S p ls l q h.1)

id_mild : (S : Script) (s : LocState) (head : Head) (o : Option Listed) → ((l : Listed) → o ≡ Some l → has_location l.entry (locations S) ≡ true) → IsMild S (decided s head (with_entry o (λ l. reads (answers.GetEntryById l.entry))))
id_mild S s head None w = λ j from q. refl
id_mild S s head (Some l) w = (l.entry, (refl, w l refl))

name_mild : (S : Script) (s : LocState) (head : Head) (o : Option Listed) → ((l : Listed) → o ≡ Some l → has_location l.entry (locations S) ≡ true) → IsMild S (decided s head (with_entry o (λ l. reads (answers.GetEntryByName l.entry))))
name_mild S s head None w = λ j from q. refl
name_mild S s head (Some l) w = (l.entry, (refl, w l refl))

lookup_mild : (S : Script) (s : LocState) (head : Head) (call : LocCall) → IsLookup call → AreOfScript S (all_listed s.lasting.entries) → IsMild S (decided s head (loc_op head.stamp call s.lasting))
lookup_mild S s head (calls.GetEntryById id) is h = id_mild S s head (found_id id s.lasting.entries) (λ l e. found_of S (λ (x : Listed). has_id id x.entry) (all_listed s.lasting.entries) l e h)
lookup_mild S s head (calls.GetEntryByName name) is h = name_mild S s head (found_name name s.lasting.entries) (λ l e. found_of S (λ (x : Listed). bytes_eq x.entry.name name) (all_listed s.lasting.entries) l e h)
lookup_mild S s head call is h = absurd is

-- no call of a file server has the number of a look-up
file_number : (call : FsCall) → (nat_eq (call_number call) 503 || nat_eq (call_number call) 504) ≡ false
file_number files.GetTime = refl
file_number call = refl

lookup_by : (n : ℕ) → IsLookupNumber n → (nat_eq n 503 || nat_eq n 504) ≡ true
lookup_by n (inl e) = ap (λ (k : ℕ). nat_eq k 503 || nat_eq k 504) e
lookup_by n (inr e) = ap (λ (k : ℕ). nat_eq k 503 || nat_eq k 504) e

no_lookup : (call : FsCall) → IsLookupNumber (call_number call) → ⊥
no_lookup call q = (let no : true ≡ false = sym (lookup_by (call_number call) q) ∙ file_number call in absurd cc)

carried_mild : (S : Script) (s : LocState) (head : Head) (x : Carried) → OfCall (ByClient IsNumberedCall) head x → AreOfScript S (all_listed s.lasting.entries) → IsMild S (runs_carried s head x)
carried_mild S s head (carried.Call user (ask.Location call)) w h = lookup_mild S s head call w.1.1 h
carried_mild S s head (carried.Call user (ask.File call)) w h = λ j from q. absurd (no_lookup call (subst IsLookupNumber (by_client j head.from (IsNumberedCall head user call) from w) q))
carried_mild S s head (carried.Call user (ask.Volume call)) w h = absurd w
carried_mild S s head (carried.Refusal code) w h = tt
carried_mild S s head (carried.Reply reply) w h = tt
carried_mild S s head carried.Notice w h = tt

kept_told : (S : Script) (t : Bool) (boot : ℕ) (ss : List Seat) (head : Head) (m : Message) → AreToldIn S ss → cond t (paired head.epoch head.number (call_seat head.from ss)) (pairs.wrong_boot boot) ≡ pairs.kept m → TellsLookup S m
kept_told S true boot ss head m h e = let l : LastSeat head.epoch head.number (call_seat head.from ss) m = kept_last head.epoch head.number (call_seat head.from ss) m e in h head.from l.seat m l.at l.reply
kept_told S false boot ss head m h e = absurd cc

-- it makes no calls itself
itself_mild : (S : Script) (t : Bool) (head : Head) (d : LocDecision) → same_node head.from Loc ≡ t → IsMild S d → IsMild S (cond t (refuses head not_served) d)
itself_mild S true head d e h = λ j from q. absurd (let no : Loc ≡ Client j = sym (same_node-true head.from Loc e) ∙ from in let no' : ⊥ = cc in no')
itself_mild S false head d e h = h

admits_mild : (S : Script) (s : LocState) (head : Head) (x : Carried) (o : Admitted Message) → OfCall (ByClient IsNumberedCall) head x → AreOfScript S (all_listed s.lasting.entries) → AreToldIn S s.seats → admitted s.lasting.boot s.seats head ≡ o → IsMild S (admits s head (whole head x) o)
admits_mild S s head x pairs.runs w h k e = itself_mild S (same_node head.from Loc) head (runs_carried s head x) refl (carried_mild S s head x w h)
admits_mild S s head x (pairs.kept reply) w h k e = kept_told S (nat_eq head.boot s.lasting.boot) s.lasting.boot s.seats head reply k e
admits_mild S s head x pairs.in_progress w h k e = tt
admits_mild S s head x pairs.older w h k e = tt
admits_mild S s head x (pairs.wrong_boot boot) w h k e = tt

hears_mild : (S : Script) (s : LocState) (head : Head) (x : Carried) → OfCall (ByClient IsNumberedCall) head x → AreOfScript S (all_listed s.lasting.entries) → AreToldIn S s.seats → IsMild S (hears s head x)
hears_mild S s head (carried.Call user call) w h k = either_mild S (same_node head.to Loc) (admits s head (whole head (carried.Call user call)) (admitted s.lasting.boot s.seats head)) drops (admits_mild S s head (carried.Call user call) (admitted s.lasting.boot s.seats head) w h k refl) tt
hears_mild S s head (carried.Refusal code) w h k = tt
hears_mild S s head (carried.Reply reply) w h k = tt
hears_mild S s head carried.Notice w h k = tt

-- what it repeats is of this boot
abbrev IsNow : LocState → LocDecision → Type 0
IsNow s (repeats m) = m.head.boot ≡ s.lasting.boot
IsNow s d = ⊤

either_now : (s : LocState) (t : Bool) (a b : LocDecision) → IsNow s a → IsNow s b → IsNow s (cond t a b)
either_now s true a b h k = h
either_now s false a b h k = k

decided_now : (s : LocState) (head : Head) (r : LocResult) → IsNow s (decided s head r)
decided_now s head (refused code) = tt
decided_now s head (reads reply) = tt
decided_now s head (changes c) = either_now s _ (saves head c) (refuses head _) tt tt

carried_now : (s : LocState) (head : Head) (x : Carried) → IsNow s (runs_carried s head x)
carried_now s head (carried.Call user (ask.Location call)) = decided_now s head (loc_op head.stamp call s.lasting)
carried_now s head (carried.Call user (ask.File call)) = tt
carried_now s head (carried.Call user (ask.Volume call)) = tt
carried_now s head (carried.Refusal code) = tt
carried_now s head (carried.Reply reply) = tt
carried_now s head carried.Notice = tt

kept_now : (t : Bool) (boot : ℕ) (ss : List Seat) (head : Head) (m : Message) → AreNow boot ss → cond t (paired head.epoch head.number (call_seat head.from ss)) (pairs.wrong_boot boot) ≡ pairs.kept m → m.head.boot ≡ boot
kept_now true boot ss head m h e = let l : LastSeat head.epoch head.number (call_seat head.from ss) m = kept_last head.epoch head.number (call_seat head.from ss) m e in h head.from l.seat m l.at l.reply
kept_now false boot ss head m h e = absurd cc

admits_now : (s : LocState) (head : Head) (x : Carried) (o : Admitted Message) → AreNow s.lasting.boot s.seats → admitted s.lasting.boot s.seats head ≡ o → IsNow s (admits s head (whole head x) o)
admits_now s head x pairs.runs h e = either_now s (same_node head.from Loc) (refuses head not_served) (runs_carried s head x) tt (carried_now s head x)
admits_now s head x (pairs.kept reply) h e = kept_now (nat_eq head.boot s.lasting.boot) s.lasting.boot s.seats head reply h e
admits_now s head x pairs.in_progress h e = tt
admits_now s head x pairs.older h e = tt
admits_now s head x (pairs.wrong_boot boot) h e = tt

hears_now : (s : LocState) (head : Head) (x : Carried) → AreNow s.lasting.boot s.seats → IsNow s (hears s head x)
hears_now s head (carried.Call user call) h = either_now s (same_node head.to Loc) (admits s head (whole head (carried.Call user call)) (admitted s.lasting.boot s.seats head)) drops (admits_now s head (carried.Call user call) (admitted s.lasting.boot s.seats head) h refl) tt
hears_now s head (carried.Refusal code) h = tt
hears_now s head (carried.Reply reply) h = tt
hears_now s head carried.Notice h = tt

one_now : (boot : ℕ) (head : Head) (x : Carried) (ss : List Seat) → AreNow boot ss → AreNow boot (call_seated (seat_for head (replied boot head x)) ss)
one_now boot head x ss k n = at_seat (seat_for head (replied boot head x)) n ss (λ (o : Option Seat). (seat : Seat) (m : Message) → o ≡ Some seat → seat.reply ≡ Some m → m.head.boot ≡ boot)
    (λ own seat m e r. ap (λ (y : Message). y.head.boot) (sym (some_of (replied boot head x) m (ap (λ (q : Seat). q.reply) (some_of (seat_for head (replied boot head x)) seat e) ∙ r)))) (λ other. k n)

-- and so is all that it sends
does_now : (S : Script) (s : LocState) (place : ℕ) (d : LocDecision) → IsMild S d → IsNow s d → Each (λ (m : Message). m.head.boot ≡ s.lasting.boot) (loc_does s place d).sent
does_now S s place drops w h = tt
does_now S s place (tells_boot head) w h = (refl, tt)
does_now S s place (repeats m) w h = (h, tt)
does_now S s place (refuses head code) w h = (refl, tt)
does_now S s place (shows head reply) w h = (refl, tt)
does_now S s place (saves head c) w h = absurd w

one_told : (S : Script) (boot : ℕ) (head : Head) (x : Carried) (ss : List Seat) → TellsLookup S (replied boot head x) → AreToldIn S ss → AreToldIn S (call_seated (seat_for head (replied boot head x)) ss)
one_told S boot head x ss h k n = at_seat (seat_for head (replied boot head x)) n ss (λ (o : Option Seat). (seat : Seat) (m : Message) → o ≡ Some seat → seat.reply ≡ Some m → TellsLookup S m)
    (λ own seat m e r. subst (TellsLookup S) (some_of (replied boot head x) m (ap (λ (q : Seat). q.reply) (some_of (seat_for head (replied boot head x)) seat e) ∙ r)) h) (λ other. k n)

abbrev pub Lists : Script → LocHost → List Message → Type 0
Lists S l ms = ListsLoc S l × Each (TellsLookup S) ms

does_lists : (S : Script) (s : LocState) (place : ℕ) (d : LocDecision) (armed : Armed) → IsMild S d → AreOfScript S (all_listed s.lasting.entries) → AreToldIn S s.seats → AreToldIn S s.lasting.kept → AreNow s.lasting.boot s.seats → s.lasting.kept ≡ [] → Lists S (record { state = (loc_does s place d).state; down = None; armed = armed }) (loc_does s place d).sent
does_lists S s place drops armed w e h k u f = (record { entries = e; seats = h; kept = k; cut = tt; now = u; forgets = f }, tt)
does_lists S s place (tells_boot head) armed w e h k u f = (record { entries = e; seats = h; kept = k; cut = tt; now = u; forgets = f }, ((λ j to q. tt), tt))
does_lists S s place (repeats m) armed w e h k u f = (record { entries = e; seats = h; kept = k; cut = tt; now = u; forgets = f }, (w, tt))
does_lists S s place (refuses head code) armed w e h k u f = (record { entries = e; seats = one_told S s.lasting.boot head (carried.Refusal (record { 0 = code })) s.seats w h; kept = k; cut = tt; now = one_now s.lasting.boot head (carried.Refusal (record { 0 = code })) s.seats u; forgets = f }, (w, tt))
does_lists S s place (shows head reply) armed w e h k u f = (record { entries = e; seats = one_told S s.lasting.boot head (carried.Reply (tell.Location reply)) s.seats (λ j to q. w) h; kept = k; cut = tt; now = one_now s.lasting.boot head (carried.Reply (tell.Location reply)) s.seats u; forgets = f }, ((λ j to q. w), tt))
does_lists S s place (saves head c) armed w e h k u f = absurd w

mild_after : (S : Script) (s : LocState) (d : LocDecision) → IsMild S d → (loc_begun_after s d).state ≡ s
mild_after S s drops w = refl
mild_after S s (tells_boot head) w = refl
mild_after S s (repeats m) w = refl
mild_after S s (refuses head code) w = refl
mild_after S s (shows head reply) w = refl
mild_after S s (saves head c) w = absurd w

-- and tells nothing first
mild_before : (S : Script) (s : LocState) (d : LocDecision) (ls : List Line) → IsMild S d → (loc_begun_after s d).before ls ≡ ls
mild_before S s drops ls w = refl
mild_before S s (tells_boot head) ls w = refl
mild_before S s (repeats m) ls w = refl
mild_before S s (refuses head code) ls w = refl
mild_before S s (shows head reply) ls w = refl
mild_before S s (saves head c) ls w = absurd w

disk_before : (S : Script) (l : LocHost) (after : Bool) (fall : Fall) (ls : List Line) → l.down ≡ Some fall → ListsLoc S l → (begun_from loc_kind l.state after fall).before ls ≡ ls
disk_before S l after at_rest ls e h = refl
disk_before S l false (in_step m clock hit) ls e h = refl
disk_before S l true (in_step m clock hit) ls e h =
    let w : IfCall IsNumberedCall m = subst IsAskedOf e h.cut in
    mild_before S l.state (loc_decides l.state (Whole m)) ls (hears_mild S l.state m.head m.carried w h.entries h.seats)
disk_before S l false in_boot ls e h = refl
disk_before S l true in_boot ls e h = refl

-- nor does it tell of locks and places in what it does
does_quiet : (S : Script) (s : LocState) (place : ℕ) (d : LocDecision) → IsMild S d → TellsNoDeed (loc_does s place d).lines
does_quiet S s place drops w = tt
does_quiet S s place (tells_boot head) w = tt
does_quiet S s place (repeats m) w = tt
does_quiet S s place (refuses head code) w = tt
does_quiet S s place (shows head reply) w = tt
does_quiet S s place (saves head c) w = absurd w

pub record ListsState (S : Script) (s : LocState) : Type 0 where
  pub entries : AreOfScript S (all_listed s.lasting.entries)
  pub seats : AreToldIn S s.seats
  pub kept : AreToldIn S s.lasting.kept
  pub now : AreNow s.lasting.boot s.seats
  pub forgets : s.lasting.kept ≡ []

-- where it kept none, none is of another boot
none_now : (boot : ℕ) (ss : List Seat) → ss ≡ [] → AreNow boot ss
none_now boot ss none = subst (AreNow boot) (sym none) (λ n seat m e. absurd cc)

disk_lists : (S : Script) (l : LocHost) (after : Bool) (fall : Fall) → l.down ≡ Some fall → ListsLoc S l → ListsState S (begun_from loc_kind l.state after fall).state
disk_lists S l after at_rest e h = record { entries = h.entries; seats = h.seats; kept = h.kept; now = h.now; forgets = h.forgets }
disk_lists S l false (in_step m clock hit) e h = record { entries = h.entries; seats = h.seats; kept = h.kept; now = h.now; forgets = h.forgets }
disk_lists S l true (in_step m clock hit) e h =
    let w : IfCall IsNumberedCall m = subst IsAskedOf e h.cut in
    subst (ListsState S) (sym (mild_after S l.state (loc_decides l.state (Whole m)) (hears_mild S l.state m.head m.carried w h.entries h.seats))) (record { entries = h.entries; seats = h.seats; kept = h.kept; now = h.now; forgets = h.forgets })
disk_lists S l false in_boot e h = record { entries = h.entries; seats = h.seats; kept = h.kept; now = h.now; forgets = h.forgets }
disk_lists S l true in_boot e h = record { entries = h.entries; seats = h.kept; kept = h.kept; now = none_now (l.state.lasting.boot + 1) l.state.lasting.kept h.forgets; forgets = h.forgets }

-- ---- a step of it, whatever it is given

-- the message stands among these
abbrev pub StandsAmong : List Message → Message → Type 0
StandsAmong sent m = (place : ℕ) × (message_at sent place ≡ Some m)

-- what it was given when it fell
abbrev pub cut_on : Fall → Option Message
cut_on at_rest = None
cut_on (in_step m clock hit) = Some m
cut_on in_boot = None

-- it did what its row says, on what it was given
pub record HasServed (sent : List Message) (h l : LocHost) (ls : List Line) (ms : List Message) (m : Message) : Type 0 where
  pub left : l.state ≡ loc_left h.state (loc_decides h.state (Whole m))
  pub on : given_message ls sent ≡ Some m
  pub answered : ms ≡ loc_sent h.state (loc_decides h.state (Whole m))

-- a step that was cut short was on a message that had been sent
abbrev pub CutsSent : List Message → Fall → Type 0
CutsSent sent at_rest = Unit {0}
CutsSent sent (in_step m clock hit) = StandsAmong sent m
CutsSent sent in_boot = Unit {0}

-- How it lives in a step: it goes on, or falls; or it is down, and its restart fails before it began, or behind what an interrupted step left, or it
-- begins again
pub data LivesLoc (sent : List Message) (h l : LocHost) (ls : List Line) (ms : List Message) : Type 0 where
  loc_goes : h.down ≡ None → l.down ≡ None → l.state.lasting.boot ≡ h.state.lasting.boot → all_lines is_running ls ≡ true → ((l.state ≡ h.state) × (given_message ls sent ≡ None)) ⊎ ((m : Message) × (StandsAmong sent m × HasServed sent h l ls ms m)) → LivesLoc sent h l ls ms
  loc_falls : (fall : Fall) → h.down ≡ None → l.down ≡ Some fall → l.state ≡ h.state → (fall ≡ in_boot → ⊥) → TellsStop ls → ms ≡ [] → CutsSent sent fall → given_message ls sent ≡ cut_on fall → LivesLoc sent h l ls ms
  loc_early : (fall : Fall) → h.down ≡ Some fall → l.down ≡ Some fall → l.state ≡ h.state → ls ≡ lines.Fault Loc ∷ [] → ms ≡ [] → LivesLoc sent h l ls ms
  loc_midway : (after : Bool) (fall : Fall) → h.down ≡ Some fall → l.down ≡ Some in_boot → l.state ≡ (begun_from loc_kind h.state after fall).state → ls ≡ (begun_from loc_kind h.state after fall).before (lines.Fault Loc ∷ []) → ms ≡ [] → LivesLoc sent h l ls ms
  loc_full : (after : Bool) (fall : Fall) → h.down ≡ Some fall → l.down ≡ Some at_rest → l.state ≡ (begun_from loc_kind h.state after fall).state → ls ≡ (begun_from loc_kind h.state after fall).before (lines.Full Loc ∷ []) → ms ≡ [] → LivesLoc sent h l ls ms
  loc_rises : (after : Bool) (fall : Fall) → h.down ≡ Some fall → l.down ≡ None → l.state ≡ loc_revived (begun_from loc_kind h.state after fall).state
      → ls ≡ (begun_from loc_kind h.state after fall).before (lines.Restart Loc ((begun_from loc_kind h.state after fall).state.lasting.boot + 1) ∷ []) → ms ≡ [] → LivesLoc sent h l ls ms

pub record IsLocStep (c : Cell) (l : LocHost) (ls : List Line) (ms : List Message) : Type 0 where
  pub place : Option ℕ
  pub given : (sent : List Message) → given_message ls sent ≡ placed place sent
  pub to : (m : Message) → placed place c.sent ≡ Some m → m.head.to ≡ Loc
  pub lines : all_lines is_of_loc ls ≡ true
  pub places : (S : Script) (past : List Entry) → EachLine (IsInPlace S) (actors.Node Loc) past [] ls
  pub sent : Each IsOfLoc ms
  pub back : (m : Message) → placed place c.sent ≡ Some m → Each (IsBackTo m.head m.carried) ms
  pub none : placed place c.sent ≡ None → ms ≡ []
  pub sound : IsSoundLoc l.state
  pub delivered : (past : List Entry) → sent_of past ≡ c.sent → IsDelivered (actors.Node Loc) past ls
  pub lives : LivesLoc c.sent c.loc l ls ms
  pub notices : Each (λ (m : Message). OfNotice (m.head.boot ≡ c.loc.state.lasting.boot) m.carried) ms
  pub keys : (m : Message) → placed place c.sent ≡ Some m → Each (IsUnderKey m.head) ms
  pub alone : AreAlone ms
  -- while it is down it is given nothing
  pub idle : (fall : Fall) → c.loc.down ≡ Some fall → place ≡ None
  -- where it has the script's volumes, and is asked for them alone
  pub lists : (S : Script) → ListsLoc S c.loc → ((m : Message) → placed place c.sent ≡ Some m → IfCall IsNumberedCall m) → Lists S l ms
  -- and then it does nothing with locks and places
  pub quiet : (S : Script) → ListsLoc S c.loc → ((m : Message) → placed place c.sent ≡ Some m → IfCall IsNumberedCall m) → TellsNoDeed ls
  -- and what it sends is of its boot
  pub now : (S : Script) → ListsLoc S c.loc → ((m : Message) → placed place c.sent ≡ Some m → IfCall IsNumberedCall m) → Each (λ (m : Message). m.head.boot ≡ c.loc.state.lasting.boot) ms

-- one that is given a message
given_step : (c : Cell) (l : LocHost) (place : ℕ) (told ls : List Line) (m : Message) (ms : List Message) → c.loc.down ≡ None → ls ≡ lines.Given place ∷ told → all_lines is_told told ≡ true → message_at c.sent place ≡ Some m → m.head.to ≡ Loc → Each IsOfLoc ms → Each (IsBackTo m.head m.carried) ms → IsSoundLoc l.state → LivesLoc c.sent c.loc l ls ms → Each (λ (x : Message). OfNotice (x.head.boot ≡ c.loc.state.lasting.boot) x.carried) ms → Each (IsUnderKey m.head) ms → AreAlone ms → ((S : Script) → ListsLoc S c.loc → IfCall IsNumberedCall m → Lists S l ms) → ((S : Script) → ListsLoc S c.loc → IfCall IsNumberedCall m → TellsNoDeed ls) → ((S : Script) → ListsLoc S c.loc → IfCall IsNumberedCall m → Each (λ (x : Message). x.head.boot ≡ c.loc.state.lasting.boot) ms) → IsLocStep c l ls ms
given_step c l place told ls m ms up e are at to sent back sound lives notices keys alone lists quiet now = record {
  idle = λ fall down. (let no_ : None ≡ Some fall = sym up ∙ down in absurd cc);
  lives = lives;
  notices = notices;
  keys = λ other q. subst (λ (y : Message). Each (IsUnderKey y.head) ms) (some_of m other (sym at ∙ q)) keys;
  alone = alone;
  place = Some place;
  given = λ all. ap (λ (k : List Line). given_message k all) e;
  to = λ other q. subst (λ (x : Message). x.head.to ≡ Loc) (some_of m other (sym at ∙ q)) to;
  lines = subst (λ (k : List Line). all_lines is_of_loc k ≡ true) (sym e) (told_are told are);
  places = λ S past. subst (EachLine (IsInPlace S) (actors.Node Loc) past []) (sym e) (refl, told_places S told past (lines.Given place ∷ []) are);
  sent = sent;
  back = λ other q. subst (λ (y : Message). Each (IsBackTo y.head y.carried) ms) (some_of m other (sym at ∙ q)) back;
  none = λ q. (let no_ : None ≡ Some m = sym q ∙ at in absurd cc);
  sound = sound;
  delivered = λ past told has. subst (λ (k : List Line). IsTo (actors.Node Loc) (given_message k (sent_of past))) (sym e) (subst (IsTo (actors.Node Loc)) (sym (ap (λ (all : List Message). message_at all place) told ∙ at)) (ap actors.Node (sym to)));
  lists = λ S h w. lists S h (w m at);
  quiet = λ S h w. quiet S h (w m at);
  now = λ S h w. now S h (w m at);
}

-- and one on no message
told_step : (c : Cell) (l : LocHost) (ls : List Line) → all_lines is_told ls ≡ true → IsSoundLoc l.state → LivesLoc c.sent c.loc l ls [] → ((S : Script) → ListsLoc S c.loc → ListsLoc S l) → ((S : Script) → ListsLoc S c.loc → TellsNoDeed ls) → IsLocStep c l ls []
told_step c l ls are sound lives lists quiet = record {
  idle = λ fall down. refl;
  lives = lives;
  notices = tt;
  keys = λ m q. tt;
  alone = tt;
  place = None;
  given = λ all. told_gives ls all are;
  to = λ m q. absurd cc;
  lines = told_are ls are;
  places = λ S past. told_places S ls past [] are;
  sent = tt;
  back = λ m q. tt;
  none = λ q. refl;
  sound = sound;
  delivered = λ past told has. (let no : true ≡ false = sym has ∙ told_none ls are in absurd cc);
  lists = λ S h w. (lists S h, tt);
  quiet = λ S h w. quiet S h;
  now = λ S h w. tt;
}

pub served_loc : (c : Cell) (place : ℕ) (m : Message) (armed : Armed) → c.loc.down ≡ None → IsSoundLoc c.loc.state → message_at c.sent place ≡ Some m → m.head.to ≡ Loc → IsLocStep c (record { state = (loc_row c.loc.state place (Whole m)).state; down = None; armed = armed }) (loc_row c.loc.state place (Whole m)).lines (loc_row c.loc.state place (Whole m)).sent
unfolding loc_row
served_loc c place m armed up h at to =
    let d : DoesLoc place c.loc.state.lasting.boot (loc_does c.loc.state place (loc_decides c.loc.state (Whole m))) = does_loc c.loc.state place (loc_decides c.loc.state (Whole m)) (hears_due c.loc.state m.head m.carried h.seats) h in
    given_step c _ place d.told _ m _ up d.lines d.are at to d.sent (does_back m.head m.carried c.loc.state place (loc_decides c.loc.state (Whole m)) (hears_back c.loc.state m.head m.carried h.seats)) d.sound (loc_goes up refl d.boot (subst (λ (k : List Line). all_lines is_running k ≡ true) (sym d.lines) d.running) (inr (m, ((place, at), record { left = refl; on = ap (λ (k : List Line). given_message k c.sent) d.lines ∙ at; answered = refl })))) d.notices (does_under m.head c.loc.state place (loc_decides c.loc.state (Whole m)) (hears_under c.loc.state m.head m.carried h.seats)) (does_alone c.loc.state place (loc_decides c.loc.state (Whole m))) (λ S h w. does_lists S c.loc.state place (loc_decides c.loc.state (Whole m)) armed (hears_mild S c.loc.state m.head m.carried w h.entries h.seats) h.entries h.seats h.kept h.now h.forgets)
    (λ S h w. does_quiet S c.loc.state place (loc_decides c.loc.state (Whole m)) (hears_mild S c.loc.state m.head m.carried w h.entries h.seats))
    (λ S h w. does_now S c.loc.state place (loc_decides c.loc.state (Whole m)) (hears_mild S c.loc.state m.head m.carried w h.entries h.seats) (hears_now c.loc.state m.head m.carried h.now))

blow_told : (t : Bool) → all_lines is_told (fall_line Loc t ∷ []) ≡ true
blow_told true = refl
blow_told false = refl

blow_stops : (place : ℕ) (t : Bool) → TellsStop (lines.Given place ∷ fall_line Loc t ∷ [])
blow_stops place true = tt
blow_stops place false = tt

blow_quiet : (place : ℕ) (t : Bool) → TellsNoDeed (lines.Given place ∷ fall_line Loc t ∷ [])
blow_quiet place true = tt
blow_quiet place false = tt

pub cut_loc : (c : Cell) (place : ℕ) (m : Message) (b : Blow) (armed : Armed) → c.loc.down ≡ None → IsSoundLoc c.loc.state → message_at c.sent place ≡ Some m → m.head.to ≡ Loc → IsLocStep c (record c.loc { down = Some (in_step m c.clock b); armed = armed }) (lines.Given place ∷ fall_line Loc b.stops ∷ []) []
cut_loc c place m b armed up h at to = given_step c _ place (fall_line Loc b.stops ∷ []) (lines.Given place ∷ fall_line Loc b.stops ∷ []) m [] up refl (blow_told b.stops) at to tt tt h (loc_falls (in_step m c.clock b) up refl refl (λ e. absurd cc) (blow_stops place b.stops) refl (place, at) at) tt tt tt (λ S l w. (record { entries = l.entries; seats = l.seats; kept = l.kept; cut = w; now = l.now; forgets = l.forgets }, tt)) (λ S l w. blow_quiet place b.stops) (λ S l w. tt)

-- its disk is set: nothing else is told in that entry
pub record IsSetLine (l : Line) : Type 0 where
  pub of : is_of_loc l ≡ true
  pub given : (sent : List Message) → given_message (l ∷ []) sent ≡ None
  pub none : has_given (l ∷ []) ≡ false
  pub runs : all_lines is_running (l ∷ []) ≡ true
  pub quiet : TellsNoDeed (l ∷ [])
  pub places : (S : Script) (past : List Entry) → EachLine (IsInPlace S) (actors.Node Loc) past [] (l ∷ [])

pub stop_line : (calls pick : ℕ) → IsSetLine (lines.Stop Loc calls pick)
stop_line calls pick = record { of = refl; given = λ sent. refl; none = refl; runs = refl; quiet = tt; places = λ S past. ((refl, (refl, refl)), tt) }

pub fail_line : (call : ℕ) → IsSetLine (lines.Fail Loc call)
fail_line call = record { of = refl; given = λ sent. refl; none = refl; runs = refl; quiet = tt; places = λ S past. ((refl, (refl, refl)), tt) }

pub set_loc : (c : Cell) (x : Line) (armed : Armed) → c.loc.down ≡ None → IsSetLine x → IsSoundLoc c.loc.state → IsLocStep c (record c.loc { armed = armed }) (x ∷ []) []
set_loc c x armed up k h = record {
  idle = λ fall down. refl;
  lives = loc_goes up up refl k.runs (inl (refl, k.given c.sent));
  notices = tt;
  keys = λ m q. tt;
  alone = tt;
  place = None;
  given = λ all. k.given all;
  to = λ m q. absurd cc;
  lines = rw (k.of) refl;
  places = k.places;
  sent = tt;
  back = λ m q. tt;
  none = λ q. refl;
  sound = h;
  delivered = λ past told has. (let no : true ≡ false = sym has ∙ k.none in absurd cc);
  lists = λ S l w. (record { entries = l.entries; seats = l.seats; kept = l.kept; cut = l.cut; now = l.now; forgets = l.forgets }, tt);
  quiet = λ S l w. k.quiet;
  now = λ S l w. tt;
}

-- what falls or stays down: one line, behind what a restart tells
pub line_loc : (c : Cell) (x : Line) (down : Option Fall) (armed : Armed) → is_told x ≡ true → TellsNoDeed (x ∷ []) → LivesLoc c.sent c.loc (record c.loc { down = down; armed = armed }) (x ∷ []) [] → ((S : Script) → ListsLoc S c.loc → IsAskedOf down) → IsSoundLoc c.loc.state → IsLocStep c (record c.loc { down = down; armed = armed }) (x ∷ []) []
line_loc c x down armed e quiet lives cut h = told_step c _ (x ∷ []) (rw e refl) h lives (λ S l. record { entries = l.entries; seats = l.seats; kept = l.kept; cut = cut S l; now = l.now; forgets = l.forgets }) (λ S l. quiet)

pub stays_loc : (c : Cell) (after : Bool) (fall down : Fall) (x : Line) (armed : Armed) → c.loc.down ≡ Some fall → is_told x ≡ true → TellsNoDeed (x ∷ []) → LivesLoc c.sent c.loc (record { state = (begun_from loc_kind c.loc.state after fall).state; down = Some down; armed = armed }) ((begun_from loc_kind c.loc.state after fall).before (x ∷ [])) [] → IsAskedOf (Some down) → IsSoundLoc c.loc.state → IsLocStep c (record { state = (begun_from loc_kind c.loc.state after fall).state; down = Some down; armed = armed }) ((begun_from loc_kind c.loc.state after fall).before (x ∷ [])) []
stays_loc c after fall down x armed is e quiet lives cut h =
    let b : BegunLoc (begun_from loc_kind c.loc.state after fall) = disk_loc c.loc.state after fall h in
    told_step c _ _ (b.told (x ∷ []) (rw e refl)) b.sound lives
    (λ S l. let d : ListsState S (begun_from loc_kind c.loc.state after fall).state = disk_lists S c.loc after fall is l in record { entries = d.entries; seats = d.seats; kept = d.kept; cut = cut; now = d.now; forgets = d.forgets })
    (λ S l. subst TellsNoDeed (sym (disk_before S c.loc after fall (x ∷ []) is l)) quiet)

pub started_loc : (c : Cell) (after : Bool) (fall : Fall) (armed : Armed) → c.loc.down ≡ Some fall → IsSoundLoc c.loc.state → IsLocStep c (record { state = (loc_start_row (begun_from loc_kind c.loc.state after fall)).state; down = None; armed = armed }) (loc_start_row (begun_from loc_kind c.loc.state after fall)).lines (loc_start_row (begun_from loc_kind c.loc.state after fall)).sent
unfolding loc_start_row
started_loc c after fall armed is h =
    let f : Begun LocState = begun_from loc_kind c.loc.state after fall in
    let b : BegunLoc f = disk_loc c.loc.state after fall h in
    told_step c _ (f.before (lines.Restart Loc (f.state.lasting.boot + 1) ∷ [])) (b.told (lines.Restart Loc (f.state.lasting.boot + 1) ∷ []) refl) (record { seats = b.sound.kept; kept = b.sound.kept }) (loc_rises after fall is refl refl refl refl)
    (λ S l. let d : ListsState S f.state = disk_lists S c.loc after fall is l in record { entries = d.entries; seats = d.kept; kept = d.kept; cut = tt; now = none_now (f.state.lasting.boot + 1) f.state.lasting.kept d.forgets; forgets = d.forgets })
    (λ S l. subst TellsNoDeed (sym (disk_before S c.loc after fall (lines.Restart Loc (f.state.lasting.boot + 1) ∷ []) is l)) tt)

-- what it sends is its own, and no call
pub loc_own : (c : Cell) (l : LocHost) (ls : List Line) (ms : List Message) → IsLocStep c l ls ms → Each (IsSentBy Loc) ms
loc_own c l ls ms st = each_map IsOfLoc (IsSentBy Loc) (λ m x. x.0) ms st.sent

pub loc_uncalled : (c : Cell) (l : LocHost) (ls : List Line) (ms : List Message) → IsLocStep c l ls ms → Each IsUncalled ms
loc_uncalled c l ls ms st = each_map IsOfLoc IsUncalled (λ m x. x.1) ms st.sent

-- ---- what it sends, as a message to a client

client_any : (n : Node) (X : Type 0) → X → OfClient n X
client_any (Client n) X h = h
client_any (Server n) X h = tt
client_any (Admin n) X h = tt
client_any Loc X h = tt

reply_any : (P : Type 0) (x : Carried) → P → OfReply P x
reply_any P (carried.Call user call) h = tt
reply_any P (carried.Refusal code) h = h
reply_any P (carried.Reply reply) h = h
reply_any P carried.Notice h = tt

notice_any : (P : Type 0) (x : Carried) → P → OfNotice P x
notice_any P (carried.Call user call) h = tt
notice_any P (carried.Refusal code) h = tt
notice_any P (carried.Reply reply) h = tt
notice_any P carried.Notice h = h

pub no_server_loc : (head : Head) (i : ℕ) → head.from ≡ Loc → head.from ≡ Server i → ⊥
no_server_loc head i e f = let no : Loc ≡ Server i = sym e ∙ f in absurd cc

pub loc_reply : (P : Message → Type 0) (m : Message) → (m.head.from ≡ Loc → P m) → IsOfLoc m → IfReply P m
loc_reply P m w h = reply_any (OfClient m.head.to (P m)) m.carried (client_any m.head.to (P m) (w h.0.from))

pub loc_notice : (P : Message → Type 0) (m : Message) → (m.head.from ≡ Loc → P m) → IsOfLoc m → OfNotice (P m) m.carried
loc_notice P m w h = notice_any (P m) m.carried (w h.0.from)

-- ---- at the start

sites_itself : (ss : List LocSite) → same_sites ss ss ≡ true
sites_itself [] = refl
sites_itself (s ∷ ss) = rw (eq-eqb s.server s.server refl, eq-eqb s.flags s.flags refl, sites_itself ss) refl

same_itself : (l : Location) → same_entry l l ≡ true
same_itself l = rw (bytes_itself l.name, eq-eqb l.read_write l.read_write refl, eq-eqb l.read_only l.read_only refl, eq-eqb l.backup l.backup refl, eq-eqb l.flags l.flags refl, sites_itself l.sites) refl

has_first : (l : Location) (ls : List Location) → has_location l (l ∷ ls) ≡ true
has_first l ls = rw (same_itself l) refl

or_more : (a b : Bool) → b ≡ true → (a || b) ≡ true
or_more true b e = refl
or_more false b e = e

has_later : (l k : Location) (ls : List Location) → has_location l ls ≡ true → has_location l (k ∷ ls) ≡ true
has_later l k ls e = or_more (same_entry l k) (has_location l ls) e

-- of a list of locations
abbrev AreAmong : List Location → List Listed → Type 0
AreAmong ls [] = ⊤
AreAmong ls (x ∷ xs) = (has_location x.entry ls ≡ true) × AreAmong ls xs

among_more : (k : Location) (ls : List Location) (xs : List Listed) → AreAmong ls xs → AreAmong (k ∷ ls) xs
among_more k ls [] h = tt
among_more k ls (x ∷ xs) h = (has_later x.entry k ls h.0, among_more k ls xs h.1)

among_three : (t u : Bool) (ls : List Location) (n : ℕ) (x : Listed) (p : ℕ × Listed) (ps rest : Table Listed) → (has_location x.entry ls ≡ true) → AreAmong ls (all_listed (p ∷ ps)) → AreAmong ls (all_listed rest) → AreAmong ls (all_listed (cond t ((n, x) ∷ ps) (cond u ((n, x) ∷ p ∷ ps) (p ∷ rest))))
among_three true u ls n x p ps rest h k r = (h, k.1)
among_three false true ls n x p ps rest h k r = (h, k)
among_three false false ls n x p ps rest h k r = (k.0, r)

among_set : (ls : List Location) (n : ℕ) (x : Listed) (t : Table Listed) → has_location x.entry ls ≡ true → AreAmong ls (all_listed t) → AreAmong ls (all_listed (set n x t))
among_set ls n x [] h k = (h, tt)
among_set ls n x (p ∷ ps) h k = among_three (nat_eq p.0 n) (nat_lt n p.0) ls n x p ps (set n x ps) h k (among_set ls n x ps h k.1)

among_by : (t : Bool) (v : VolumeLine) (vs : List VolumeLine) → AreAmong (locations_in vs) (all_listed (first_entries vs)) → AreAmong (location_by t v (locations_in vs)) (all_listed (listed_by t v (first_entries vs)))
among_by true v vs h = h
among_by false v vs h = among_set (entry_of_line v ∷ locations_in vs) v.id (listed_line v) (first_entries vs) (has_first (entry_of_line v) (locations_in vs)) (among_more (entry_of_line v) (locations_in vs) (all_listed (first_entries vs)) h)

first_among : (vs : List VolumeLine) → AreAmong (locations_in vs) (all_listed (first_entries vs))
first_among [] = tt
first_among (v ∷ vs) = among_by (counts_later v.id vs) v vs (first_among vs)

of_script : (S : Script) (xs : List Listed) → AreAmong (locations S) xs → AreOfScript S xs
of_script S [] h = tt
of_script S (x ∷ xs) h = (h.0, of_script S xs h.1)

pub first_lists : (S : Script) → ListsLoc S (start S).loc
first_lists S = record { entries = of_script S (all_listed (first_entries S.volumes)) (first_among S.volumes); seats = λ n seat m e. absurd cc; kept = λ n seat m e. absurd cc; cut = tt; now = λ n seat m e. absurd cc; forgets = refl }
