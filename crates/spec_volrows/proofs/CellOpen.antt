-- The servers of a cell stay open, whatever comes.
use Rattle.std.proofs.Common.{◌≡◌, ℕ, zero, suc, Bool, true, false, cond, List, [], ◌∷◌, Option, Some, None, refl, sym, subst}
use Rattle.std.specs.Prelude.{nat_eq}
use Rattle.afs_num.specs.declared.messages.Message.{Message}
use Rattle.afs_num.specs.declared.messages.Received.TheVariants.{Whole}
use Rattle.afs_num.specs.declared.types.Node.{Node}
use Rattle.afs_num.specs.declared.types.Node.TheVariants.{Loc, Server, Client, Admin}
use Rattle.spec_history.specs.declared.acts.Act.{Act}
use Rattle.spec_history.specs.declared.scripts.Script.{Script}
use Rattle.spec_rows.specs.Going.{Going, Seek}
use Rattle.spec_rows.specs.Hosts.{at_rest, begun_from, comes_up, crashed, ends, fails_early, fails_midway, in_boot, in_step, is_full, restarted, served, served_by, set_to_fail, set_to_stop, without_boot_record, struck, Blow, Fall, HostStep, Luck, Outcome}
use Rattle.spec_rows.specs.LocRow.{LocState}
use Rattle.spec_rows.specs.Runs.{back_timed, begins, begun_by, client_starts, client_stops, given_at, given_to, gives, has_host, if_host, is_away, loc_restarted, loc_up, message_at, moved, nothing, server_stepped, server_armed, server_given, server_restarted, server_stopped, server_timed, server_waits, server_wakes, sets_fail, sets_stop, sought_for, start, starts_again, stops, ticks, waited_by, waits, wakes, Cell, Entry, Input, Leads, Moved}
use Rattle.spec_rows.specs.ServerHosts.{can_start, server_kind, timed_out, woken, ServerHost}
use Rattle.spec_rows.specs.ServerRow.{begun_after, decides, revived, Decision}
use Rattle.spec_rows.specs.ServerSteps.{start_row}
use Rattle.spec_rows.specs.States.{BackCall, ServerState}
use Rattle.spec_rows.specs.Steps.{Begun, Step}
use Rattle.spec_volrows.specs.CellLaws.{CellsStayOpen, HasOpenHosts}
use Rattle.spec_volrows.specs.FileLaws.{IsOpen}
use Rattle.spec_volrows.specs.FileRow.{file_start}
use Rattle.spec_volrows.proofs.FileOpen.{open_plain, open_stay}
use Rattle.spec_volrows.proofs.FirstOpen.{first_open}

-- ---- one host

served_open : (me : Node) (h : ServerHost) (clock place : ℕ) (m : Message) (o : Option Blow) → IsOpen h.state → IsOpen (served_by (server_kind me) h clock place m o).host.state
served_open me h clock place m None open' = subst (λ (s : Step ServerState). IsOpen s.state) (open_plain.row me h.state clock place (Whole m) open') (open_stay.given me [] h.state clock place (Whole m) open')
served_open me h clock place m (Some b) open' = open'

-- what a restart leaves beside its lines is what the file server's begins with
start_open : (me : Node) (clock count : ℕ) (begun : Begun ServerState) → IsOpen begun.state → IsOpen (start_row me clock count begun).state
start_open me clock count begun open' = subst (λ (s : Step ServerState). IsOpen s.state) (open_plain.start me clock count begun open') (open_stay.started me clock count begun open')

revived_open : (s : ServerState) → IsOpen s → IsOpen (revived s)
unfolding file_start
revived_open s open' = let z = open_stay.started Loc 0 0 (record { state = s; before = λ ls. ls }) open' in record { forwardings = z.forwardings; volumes = z.volumes }

pub begun_open : (me : Node) (s : ServerState) (after : Bool) (fall : Fall) → IsOpen s → IsOpen (begun_from (server_kind me) s after fall).state
begun_open me s after at_rest open' = open'
begun_open me s false (in_step m clock b) open' = open'
begun_open me s true (in_step m clock b) open' = subst (λ (d : Decision). IsOpen (begun_after me s clock d).state) (open_plain.decided me s clock (Whole m) open') (open_stay.cut me [] s clock (Whole m) open')
begun_open me s false in_boot open' = open'
begun_open me s true in_boot open' = revived_open s open'

ends_open : (me : Node) (h : ServerHost) (clock count : ℕ) (f : Begun ServerState) (fall : Fall) (o : Outcome) → IsOpen h.state → IsOpen f.state → IsOpen (ends (server_kind me) h clock count f fall o).host.state
ends_open me h clock count f fall comes_up open' begun = start_open me clock count f begun
ends_open me h clock count f fall fails_early open' begun = open'
ends_open me h clock count f fall fails_midway open' begun = begun
ends_open me h clock count f fall is_full open' begun = begun

restarted_open : (me : Node) (h : ServerHost) (clock count : ℕ) (after : Bool) (o : Outcome) (fall : Fall) → IsOpen h.state → IsOpen (restarted (server_kind me) h clock count after o fall).host.state
restarted_open me h clock count after o fall open' =
    let begun = begun_open me h.state after fall open' in
    ends_open me h clock count (begun_from (server_kind me) h.state after fall) fall (without_boot_record (can_start (begun_from (server_kind me) h.state after fall).state) o) open' begun

-- ---- the cell

StaysOpen : Moved → Type 0
StaysOpen m = HasOpenHosts m.cell

either : (b : Bool) (m n : Moved) → StaysOpen m → StaysOpen n → StaysOpen (cond b m n)
either true m n h k = h
either false m n h k = k

put_open : (b : Bool) (h other : ServerHost) → IsOpen h.state → IsOpen other.state → IsOpen (cond b h other).state
put_open true h other open' o = open'
put_open false h other open' o = o

placed_open : (c : Cell) (i : ℕ) (s : HostStep ServerState) → HasOpenHosts c → IsOpen s.host.state → StaysOpen (server_stepped c i s)
unfolding StaysOpen
placed_open c i s h one = λ j. put_open (nat_eq i j) s.host (c.hosts j) one (h j)

loc_open : (c : Cell) (s : HostStep LocState) (o : Option Fall) → HasOpenHosts c → StaysOpen (loc_up c s o)
unfolding StaysOpen
loc_open c s None h = h
loc_open c s (Some fall) h = h

loc_risen : (c : Cell) (after : Bool) (o : Outcome) (down : Option Fall) → HasOpenHosts c → StaysOpen (loc_restarted c after o down)
unfolding StaysOpen
loc_risen c after o None h = h
loc_risen c after o (Some fall) h = h

-- a message

server_open : (c : Cell) (i place : ℕ) (luck : Luck) (m : Message) (o : Option Fall) → HasOpenHosts c → StaysOpen (server_given c i place luck m o)
unfolding StaysOpen
server_open c i place luck m None h =
    placed_open c i (served (server_kind (Server i)) (c.hosts i) c.clock place luck m) h (served_open (Server i) (c.hosts i) c.clock place m (struck (c.hosts i).armed luck ((server_kind (Server i)).device_calls (c.hosts i).state c.clock (Whole m))) (h i))
server_open c i place luck m (Some fall) h = h

to_open : (c : Cell) (place : ℕ) (luck : Luck) (m : Message) (n : Node) → HasOpenHosts c → StaysOpen (given_to c place luck m n)
unfolding StaysOpen
to_open c place luck m (Server i) h = either (has_host c i) _ _ (server_open c i place luck m (c.hosts i).down h) h
to_open c place luck m (Client n) h = either (is_away c n) _ _ h h
to_open c place luck m Loc h = loc_open c _ c.loc.down h
to_open c place luck m (Admin n) h = h

at_open : (c : Cell) (place : ℕ) (luck : Luck) (o : Option Message) → HasOpenHosts c → StaysOpen (given_at c place luck o)
unfolding StaysOpen
at_open c place luck None h = h
at_open c place luck (Some m) h = to_open c place luck m m.head.to h

-- a client's step

begun_by_open : (c : Cell) (n : ℕ) (act : Act) (o : Option Going) → HasOpenHosts c → StaysOpen (begun_by c n act o)
unfolding StaysOpen
begun_by_open c n act None h = h
begun_by_open c n act (Some other) h = h

sought_open : (c : Cell) (n : ℕ) (o : Option Seek) → HasOpenHosts c → StaysOpen (sought_for c n o)
unfolding StaysOpen
sought_open c n None h = h
sought_open c n (Some k) h = h

waited_open : (c : Cell) (n : ℕ) (o : Option Going) → HasOpenHosts c → StaysOpen (waited_by c n o)
unfolding StaysOpen
waited_open c n None h = sought_open c n (c.clients n).seeking h
waited_open c n (Some act) h = h

-- a server's, but for messages

stopped_open : (c : Cell) (i : ℕ) (o : Option Fall) → HasOpenHosts c → StaysOpen (server_stopped c i o)
unfolding StaysOpen
stopped_open c i None h = placed_open c i (crashed (server_kind (Server i)) (c.hosts i)) h (h i)
stopped_open c i (Some fall) h = h

risen_open : (c : Cell) (i : ℕ) (after : Bool) (o : Outcome) (down : Option Fall) → HasOpenHosts c → StaysOpen (server_restarted c i after o down)
unfolding StaysOpen
risen_open c i after o None h = h
risen_open c i after o (Some fall) h = placed_open c i (restarted (server_kind (Server i)) (c.hosts i) c.clock c.count after o fall) h (restarted_open (Server i) (c.hosts i) c.clock c.count after o fall (h i))

armed_open : (c : Cell) (i : ℕ) (s : HostStep ServerState) (o : Option Fall) → HasOpenHosts c → IsOpen s.host.state → StaysOpen (server_armed c i s o)
unfolding StaysOpen
armed_open c i s None h one = placed_open c i s h one
armed_open c i s (Some fall) h one = h

timed_open : (c : Cell) (i : ℕ) (n : Node) (o : Option BackCall) → HasOpenHosts c → StaysOpen (back_timed c i n o)
unfolding StaysOpen
timed_open c i n None h = h
timed_open c i n (Some b) h = placed_open c i (timed_out (Server i) (c.hosts i) c.clock n b) h (open_stay.late (Server i) (c.hosts i).state c.clock n b (h i))

late_open : (c : Cell) (i : ℕ) (n : Node) (o : Option Fall) → HasOpenHosts c → StaysOpen (server_timed c i n o)
unfolding StaysOpen
late_open c i n None h = timed_open c i n ((c.hosts i).state.backs.calls n) h
late_open c i n (Some fall) h = h

woken_open : (c : Cell) (i : ℕ) (o : Option Fall) → HasOpenHosts c → StaysOpen (server_wakes c i o)
unfolding StaysOpen
woken_open c i None h = placed_open c i (woken (Server i) (c.hosts i) c.clock) h (open_stay.woken (Server i) (c.hosts i).state c.clock (h i))
woken_open c i (Some fall) h = h

moved_open : (c : Cell) (x : Input) → HasOpenHosts c → StaysOpen (moved c x)
unfolding StaysOpen moved
moved_open c (begins n act) h = either (is_away c n) _ _ h (begun_by_open c n act _ h)
moved_open c (gives place luck) h = at_open c place luck (message_at c.sent place) h
moved_open c (waits n) h = either (is_away c n) _ _ h (waited_open c n (c.clients n).running h)
moved_open c (ticks zero) h = h
moved_open c (ticks (suc n)) h = h
moved_open c (client_stops n) h = either (is_away c n) _ _ h h
moved_open c (client_starts n) h = either (c.away n) _ _ h h
moved_open c (stops zero) h = loc_open c _ c.loc.down h
moved_open c (stops (suc i)) h = either (has_host c (suc i)) _ _ (stopped_open c (suc i) (c.hosts (suc i)).down h) h
moved_open c (starts_again zero after o) h = loc_risen c after o c.loc.down h
moved_open c (starts_again (suc i) after o) h = either (has_host c (suc i)) _ _ (risen_open c (suc i) after o (c.hosts (suc i)).down h) h
moved_open c (sets_stop zero calls pick) h = loc_open c _ c.loc.down h
moved_open c (sets_stop (suc i) calls pick) h = either (has_host c (suc i)) _ _ (armed_open c (suc i) (set_to_stop (server_kind (Server (suc i))) (c.hosts (suc i)) calls pick) (c.hosts (suc i)).down h (h (suc i))) h
moved_open c (sets_fail zero call) h = loc_open c _ c.loc.down h
moved_open c (sets_fail (suc i) call) h = either (has_host c (suc i)) _ _ (armed_open c (suc i) (set_to_fail (server_kind (Server (suc i))) (c.hosts (suc i)) call) (c.hosts (suc i)).down h (h (suc i))) h
moved_open c (server_waits i n) h = either (has_host c i) _ _ (late_open c i n (c.hosts i).down h) h
moved_open c (wakes i) h = either (has_host c i) _ _ (woken_open c i (c.hosts i).down h) h
moved_open c nothing h = h

leads_open : (c : Cell) (xs : List Input) (es : List Entry) (end : Cell) → HasOpenHosts c → Leads c xs es end → HasOpenHosts end
unfolding StaysOpen
leads_open c [] [] end h leads = subst HasOpenHosts (sym leads) h
leads_open c (x ∷ xs) (e ∷ es) end h leads = leads_open (moved c x).cell xs es end (moved_open c x h) leads.1
leads_open c [] (e ∷ es) end h leads = absurd leads
leads_open c (x ∷ xs) [] end h leads = absurd leads

pub cells_open : CellsStayOpen
unfolding StaysOpen
cells_open = record { first = first_open; moves = moved_open; runs = λ s xs es end leads. leads_open (start s) xs es end (first_open s) leads }
