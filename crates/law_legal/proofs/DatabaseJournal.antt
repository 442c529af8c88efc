-- What the database keeps is the fold of the records that its journal gets, whatever it is given and however often it begins again.
use Rattle.law_legal.specs.Database.{IsInOrder}
use Rattle.spec_model.specs.Calls.{admitted, Admitted}
use Rattle.spec_model.specs.Calls as pairs
use Rattle.afs_num.specs.declared.messages.Call.TheVariants as ask
use Rattle.afs_num.specs.declared.messages.Carried.TheVariants as carried
use Rattle.spec_shape.specs.Taking.{◌>>=◌}
use Rattle.afs_num.specs.declared.messages.Message.{Message}
use Rattle.afs_num.specs.declared.messages.Received.{Received}
use Rattle.std.specs.List.{AllByRecursion}
use Rattle.std.specs.Prelude.{nat_lt}
use Rattle.afs_num.specs.declared.types.Head.{Head}
use Rattle.afs_num.specs.declared.messages.Carried.{Carried}
use Rattle.spec_records.specs.LocDurable.{loc_has_room, LocDurable, listed_line, loc_folded, first_stamp}
use Rattle.spec_rows.specs.States.{Seat}
use Rattle.law_legal.proofs.BaseLaws.{some_of}
use Rattle.spec_history.specs.declared.scripts.VolumeLine.{VolumeLine}
use Rattle.law_legal.proofs.DatabaseCalls.{drawn_set, loc_ordered, loc_start_folds, loc_folds, keyed_set}
use Rattle.spec_ideal.specs.Tables.{Table}
use Rattle.spec_records.specs.LocRecords.{LocRecord, Listed}
use Rattle.afs_num.specs.Nodes.{node_number, same_node, IsNode}
use Rattle.law_legal.specs.DatabaseRuns.{AreOfNodes, IsStored, record_saved, begins_again, loc_all_folded, journal_of, LocEvent, loc_behind_all, loc_behind, records_of, LocJournalIsFolded, IsOfNode, is_given}
use Rattle.afs_num.specs.declared.types.Node.TheVariants.{Loc}
use Rattle.spec_rows.specs.LocRow.{admits, called, changes, decided, drops, hears, loc_decides, loc_durable_of, loc_left, loc_op, loc_record_of, reads, refused, refuses, repeats, reply_to, runs, runs_carried, runs_received, saves, shows, tells_boot, LocDecision, LocResult, LocState}
use Rattle.spec_rows.specs.ServerRow.{no_room, not_served, seat_for, seat_placed, whole}
use Rattle.spec_rows.specs.Runs.{counts_later, first_entries, listed_by}
use Rattle.afs_num.specs.declared.messages.Received.TheVariants.{Nothing, Unreadable, Whole, Unserved}
use Rattle.afs_num.specs.declared.location_calls.LocCall.{LocCall}
use Rattle.std.proofs.Common.{◌≡◌, ◌+◌, ℕ, Bool, true, false, cond, List, [], ◌∷◌, ◌++◌, Option, Some, None, refl, sym, ap, ◌∙◌}

-- ---- what is saved was made by a call

abbrev WasMade : LocState → LocDecision → Type 0
WasMade s drops = Unit {0}
WasMade s (tells_boot x) = Unit {0}
WasMade s (repeats m) = Unit {0}
WasMade s (refuses x code) = Unit {0}
WasMade s (shows x reply) = Unit {0}
WasMade s (saves x c) = IsNode x.from × ((stamp : ℕ) × ((call : LocCall) × (loc_op stamp call s.lasting ≡ changes c)))

either_made : (s : LocState) (t : Bool) (a b : LocDecision) → WasMade s a → WasMade s b → WasMade s (cond t a b)
either_made s true a b h k = h
either_made s false a b h k = k

decided_made : (s : LocState) (head : Head) (stamp : ℕ) (call : LocCall) (r : LocResult) → loc_op stamp call s.lasting ≡ r → IsNode head.from → WasMade s (decided s head r)
decided_made s head stamp call (refused code) e node = tt
decided_made s head stamp call (reads reply) e node = tt
decided_made s head stamp call (changes c) e node = either_made s (loc_has_room (loc_durable_of s.lasting) (loc_record_of s.lasting.boot head c)) (saves head c) (refuses head no_room) (node, (stamp, (call, e))) tt

carried_made : (s : LocState) (head : Head) (x : Carried) → IsNode head.from → WasMade s (runs_carried s head x)
carried_made s head (carried.Call user (ask.Location call)) node = decided_made s head head.stamp call (loc_op head.stamp call s.lasting) refl node
carried_made s head (carried.Call user (ask.File call)) node = tt
carried_made s head (carried.Call user (ask.Volume call)) node = tt
carried_made s head (carried.Refusal code) node = tt
carried_made s head (carried.Reply reply) node = tt
carried_made s head carried.Notice node = tt

received_made : (s : LocState) (head : Head) (r : Received) → IsNode head.from → WasMade s (runs_received s head r)
received_made s head Nothing node = tt
received_made s head (Unserved other) node = tt
received_made s head (Unreadable other) node = tt
received_made s head (Whole m) node = carried_made s head m.carried node

runs_made : (s : LocState) (head : Head) (r : Received) → IsNode head.from → WasMade s (runs s head r)
runs_made s head r node = either_made s (same_node head.from Loc) (refuses head not_served) (runs_received s head r) tt (received_made s head r node)

admits_made : (s : LocState) (head : Head) (r : Received) (o : Admitted Message) → IsNode head.from → WasMade s (admits s head r o)
admits_made s head r pairs.runs node = runs_made s head r node
admits_made s head r (pairs.kept reply) node = tt
admits_made s head r pairs.in_progress node = tt
admits_made s head r pairs.older node = tt
admits_made s head r (pairs.wrong_boot boot) node = tt

called_made : (s : LocState) (head : Head) (r : Received) → IsNode head.from → WasMade s (called s head r)
called_made s head r node = either_made s (same_node head.to Loc) (admits s head r (admitted s.lasting.boot s.seats head)) drops (admits_made s head r (admitted s.lasting.boot s.seats head) node) tt

hears_made : (s : LocState) (head : Head) (x : Carried) → IsNode head.from → WasMade s (hears s head x)
hears_made s head (carried.Call user call) node = called_made s head (whole head (carried.Call user call)) node
hears_made s head (carried.Refusal code) node = tt
hears_made s head (carried.Reply reply) node = tt
hears_made s head carried.Notice node = tt

decides_made : (s : LocState) (r : Received) → IsOfNode r → WasMade s (loc_decides s r)
decides_made s Nothing node = tt
decides_made s (Unserved head) node = called_made s head (Unserved head) node
decides_made s (Unreadable head) node = called_made s head (Unreadable head) node
decides_made s (Whole m) node = hears_made s m.head m.carried node

-- ---- replies are kept for nodes

abbrev OfNodes : List Seat → Type 0
OfNodes seats = AllByRecursion (λ (x : Seat). IsNode x.caller) seats

nodes_by : (x : Seat) (a b : Bool) (y : Seat) (seats rest : List Seat) → IsNode x.caller → OfNodes (y ∷ seats) → OfNodes rest → OfNodes (cond a (x ∷ seats) (cond b (x ∷ y ∷ seats) (y ∷ rest)))
nodes_by x true b y seats rest n h ih = (n, h.1)
nodes_by x false true y seats rest n h ih = (n, h)
nodes_by x false false y seats rest n h ih = (h.0, ih)

nodes_placed : (x : Seat) (seats : List Seat) → IsNode x.caller → OfNodes seats → OfNodes (seat_placed x seats)
nodes_placed x [] n h = (n, tt)
nodes_placed x (y ∷ seats) n h = nodes_by x (same_node y.caller x.caller) (nat_lt (node_number x.caller) (node_number y.caller)) y seats (seat_placed x seats) n h (nodes_placed x seats n h.1)

-- ---- one event

record IsFolded (s : LocState) (rs : List LocRecord) (t : LocState) : Type 0 where
  stored : IsStored t
  folded : loc_all_folded rs (loc_durable_of s.lasting) ≡ Some (loc_durable_of t.lasting)

left_folded : (s : LocState) (d : LocDecision) → IsStored s → WasMade s d → IsFolded s (record_saved s d) (loc_left s d)
left_folded s drops h w = record { stored = h; folded = refl }
left_folded s (tells_boot head) h w = record { stored = h; folded = refl }
left_folded s (repeats reply) h w = record { stored = h; folded = refl }
left_folded s (refuses head code) h w = record { stored = record { order = h.order; callers = h.callers }; folded = refl }
left_folded s (shows head reply) h w = record { stored = record { order = h.order; callers = h.callers }; folded = refl }
left_folded s (saves head c) h w = record {
  stored = record {
    order = (loc_ordered w.1.0 w.1.1.0 s.lasting c w.1.1.1 h.order).1;
    callers = nodes_placed (seat_for head (reply_to s.lasting.boot head c.reply)) s.lasting.kept w.0 h.callers;
  };
  folded = ap (λ (o : Option LocDurable). o >>= loc_all_folded []) (loc_folds s.lasting head w.1.0 w.1.1.0 c w.1.1.1 h.order.keyed w.0 h.callers);
}

-- who calls, in an event
abbrev IsOfEvent : LocEvent → Type 0
IsOfEvent (is_given r) = IsOfNode r
IsOfEvent begins_again = Unit {0}

event_folded : (s : LocState) (e : LocEvent) → IsStored s → IsOfEvent e → IsFolded s (records_of s e) (loc_behind s e)
event_folded s (is_given r) h n = left_folded s (loc_decides s r) h (decides_made s r n)
event_folded s begins_again h n = record {
  stored = record { order = h.order; callers = h.callers };
  folded = ap (λ (o : Option LocDurable). o >>= loc_all_folded []) (loc_start_folds s.lasting);
}

-- ---- one behind the other

more_by : (rs more : List LocRecord) (o : Option LocDurable) (e : LocDurable) → ((d : LocDurable) → loc_all_folded rs d ≡ Some e → loc_all_folded (rs ++ more) d ≡ loc_all_folded more e) → (o >>= loc_all_folded rs) ≡ Some e → (o >>= loc_all_folded (rs ++ more)) ≡ loc_all_folded more e
more_by rs more None e ih h = (let no : None ≡ Some e = h in absurd cc)
more_by rs more (Some d) e ih h = ih d h

folded_more : (rs more : List LocRecord) (d e : LocDurable) → loc_all_folded rs d ≡ Some e → loc_all_folded (rs ++ more) d ≡ loc_all_folded more e
folded_more [] more d e h = ap (loc_all_folded more) (some_of d e h)
folded_more (r ∷ rs) more d e h = more_by rs more (loc_folded r d) e (λ x k. folded_more rs more x e k) h

first_node : (e : LocEvent) (es : List LocEvent) → AreOfNodes (e ∷ es) → IsOfEvent e × AreOfNodes es
first_node (is_given r) es n = n
first_node begins_again es n = (tt, n)

all_folded : (es : List LocEvent) (s : LocState) → IsStored s → AreOfNodes es → loc_all_folded (journal_of s es) (loc_durable_of s.lasting) ≡ Some (loc_durable_of (loc_behind_all s es).lasting)
all_folded [] s h n = refl
all_folded (e ∷ es) s h n =
    let b = first_node e es n in
    let f : IsFolded s (records_of s e) (loc_behind s e) = event_folded s e h b.0 in
    folded_more (records_of s e) (journal_of (loc_behind s e) es) (loc_durable_of s.lasting) (loc_durable_of (loc_behind s e).lasting) f.folded ∙ all_folded es (loc_behind s e) f.stored b.1

-- ---- set-up

keyed_listed : (b : Bool) (v : VolumeLine) (t : Table Listed) → IsInOrder first_stamp t → IsInOrder first_stamp (listed_by b v t)
keyed_listed true v t h = h
keyed_listed false v t h = record { keyed = keyed_set (listed_line v) t h.keyed; drawn = drawn_set first_stamp v.id (listed_line v) t tt h.drawn }

first_ordered : (vs : List VolumeLine) → IsInOrder first_stamp (first_entries vs)
first_ordered [] = record { keyed = tt; drawn = tt }
first_ordered (v ∷ vs) = keyed_listed (counts_later v.id vs) v (first_entries vs) (first_ordered vs)

pub journal_folded : LocJournalIsFolded
journal_folded = (λ s es h n. all_folded es s h n, λ s. record { order = first_ordered s.volumes; callers = tt })
