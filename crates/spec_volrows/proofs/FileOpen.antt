-- A server without volume calls stays open, and its steps are those of a file server without a volume server.
use Rattle.std.proofs.Common.{◌≡◌, ◌+◌, ◌++◌, ℕ, length, Bool, true, false, cond, List, [], ◌∷◌, Option, Some, None, Result, Ok, Err, refl, sym, ap, ◌∙◌}
use Rattle.std.specs.Prelude.{⊤, nat_eq, nat_lt, filter}
use Rattle.std.specs.List.{AllByRecursion}
use Rattle.afs_num.specs.declared.types.Fid.{Fid}
use Rattle.afs_num.specs.declared.types.Head.{Head}
use Rattle.afs_num.specs.declared.types.Node.{Node}
use Rattle.afs_num.specs.Nodes.{same_node}
use Rattle.afs_num.specs.declared.calls.FsCall.{FsCall}
use Rattle.afs_num.specs.declared.calls.FsCall.TheVariants as calls
use Rattle.afs_num.specs.declared.messages.Carried.{Carried}
use Rattle.afs_num.specs.declared.messages.Carried.TheVariants as carried
use Rattle.afs_num.specs.declared.messages.Call.TheVariants as ask
use Rattle.afs_num.specs.declared.messages.Message.{Message}
use Rattle.afs_num.specs.declared.messages.Received.{Received}
use Rattle.afs_num.specs.declared.messages.Received.TheVariants.{Nothing, Unserved, Unreadable, Whole}
use Rattle.spec_history.specs.declared.lines.Line.{Line}
use Rattle.spec_history.specs.declared.lines.Line.TheVariants as lines
use Rattle.afs_num.specs.declared.histories.Version.{Version}
use Rattle.spec_shape.specs.Reading.{◌>>=◌}
use Rattle.spec_ideal.specs.Operations as operations
use Rattle.spec_ideal.specs.Operations.{Caller, op, volume_called, the_user}
use Rattle.spec_ideal.specs.Tables.{Table, get, set}
use Rattle.spec_ideal.specs.Volumes.{Volume}
use Rattle.spec_model.specs.Calls.{Admitted, admitted, key_of}
use Rattle.spec_model.specs.Calls as pairs
use Rattle.spec_records.specs.Durable.{Stored, has_room}
use Rattle.spec_records.proofs.Kept.{same_rest}
use Rattle.spec_rows.specs.Callbacks.{expired, risen_turn, turned_in}
use Rattle.spec_rows.specs.ServerRow.{admits, begun_after, called, decided, decides, does, drops, hears, in_volume, is_client, is_unflagged, versions_made, no_room, not_served, record_of, refuses, repeats, revived, runs_carried, runs_received, saved, saves, serves_call, several, shows, sight_by, sight_in, sights, stored_by, tells_boot, versioned, whole, with_volume, Change, Decision, Sight}
use Rattle.spec_rows.specs.ServerSteps.{back_timeout_row, done, server_row, start_row, stepped, wake_row}
use Rattle.spec_rows.specs.States.{BackCall, ServerState, durable_of}
use Rattle.spec_rows.specs.Steps.{begun_before, Begun}
use Rattle.spec_fold.specs.Effects.{vanished_lines}
use Rattle.spec_fold.proofs.Vanishing.{none_vanish}
use Rattle.spec_volrows.specs.FileLaws.{IsOpen, OpenServersArePlain, OpenServersStayOpen, TellsFirst}
use Rattle.spec_volrows.specs.FileRow.{closed_code, file_admits, file_called, file_carried, file_decides, file_hears, file_in, file_received, file_row, file_serves, file_sight, file_sights, file_start, file_volume, sight_unless, start_lines, unless_closed}

-- ---- what is decided

some_is : {A : Type 0} (x y : A) → Some x ≡ Some y → x ≡ y
some_is {A} x y e = cc

get_by : (b : Bool) (p : ℕ × Stored) (o : Option Stored) (s : Stored) → p.1.volume.flags ≡ 0 → (o ≡ Some s → s.volume.flags ≡ 0) → cond b (Some p.1) o ≡ Some s → s.volume.flags ≡ 0
get_by true p o s h later e = ap (λ (x : Stored). x.volume.flags) (sym (some_is p.1 s e)) ∙ h
get_by false p o s h later e = later e

flags_zero : (n : ℕ) (t : Table Stored) (s : Stored) → AllByRecursion (λ (p : ℕ × Stored). p.1.volume.flags ≡ 0) t → get n t ≡ Some s → s.volume.flags ≡ 0
flags_zero n [] s all e = absurd cc
flags_zero n (p ∷ ps) s all e = get_by (nat_eq p.0 n) p (get n ps) s all.0 (flags_zero n ps s all.1) e

not_closed : (s : ServerState) (id : ℕ) (st : Stored) → IsOpen s → get id s.lasting.volumes ≡ Some st → closed_code st None ≡ None
not_closed s id st open' there = rw (flags_zero id s.lasting.volumes st open'.volumes there) refl

volume_by : (s : ServerState) (clock : ℕ) (head : Head) (caller : Caller) (call : FsCall) (id : ℕ) (o : Option Stored) → IsOpen s → get id s.lasting.volumes ≡ o → file_in [] s clock head caller call id o ≡ in_volume s clock head caller call id o
volume_by s clock head caller call id None open' there = rw open'.forwardings refl
volume_by s clock head caller call id (Some st) open' there =
    ap (λ (c : Option ℕ). unless_closed head c (decided s clock head caller call id st (op id caller call st.volume))) (not_closed s id st open' there)

sight_is : (s : ServerState) (caller : Caller) (f : Fid) (o : Option Stored) → IsOpen s → get f.volume s.lasting.volumes ≡ o → file_sight [] s.lasting caller f o ≡ sight_in caller f o
sight_is s caller f None open' there = rw open'.forwardings refl
sight_is s caller f (Some st) open' there = ap (λ (c : Option ℕ). sight_unless c (sight_by st (op f.volume caller (calls.FetchStatus f) st.volume))) (not_closed s f.volume st open' there)

-- ---- a change is of a volume that is there

Found : ServerState → Decision → Type 0
Found s (saves head c) = get c.id s.lasting.volumes ≡ Some c.before
Found s drops = ⊤
Found s (tells_boot head) = ⊤
Found s (repeats reply) = ⊤
Found s (refuses head code) = ⊤
Found s (shows head r) = ⊤

either : (s : ServerState) (b : Bool) (d e : Decision) → Found s d → Found s e → Found s (cond b d e)
either s true d e h k = h
either s false d e h k = k

decided_found : (s : ServerState) (clock : ℕ) (head : Head) (caller : Caller) (call : FsCall) (id : ℕ) (st : Stored) (r : operations.Result) → get id s.lasting.volumes ≡ Some st → Found s (decided s clock head caller call id st r)
unfolding Found
decided_found s clock head caller call id st (operations.refused code) there = tt
decided_found s clock head caller call id st (operations.reads shown) there = tt
decided_found s clock head caller call id st operations.no_operation there = tt
decided_found s clock head caller call id st (operations.changes es n) there =
    let c : Change = record { id = id; caller = caller; call = call; before = st; edits = es; shown = n } in
    either s (has_room (durable_of s.lasting) (record_of s.lasting.boot head clock c)) (saves head c) (refuses head no_room) there tt

closed_found : (s : ServerState) (head : Head) (o : Option ℕ) (d : Decision) → Found s d → Found s (unless_closed head o d)
unfolding Found
closed_found s head None d h = h
closed_found s head (Some code) d h = tt

in_found : (holds : Table ℕ) (s : ServerState) (clock : ℕ) (head : Head) (caller : Caller) (call : FsCall) (id : ℕ) (o : Option Stored) → get id s.lasting.volumes ≡ o → Found s (file_in holds s clock head caller call id o)
unfolding Found
in_found holds s clock head caller call id None there = tt
in_found holds s clock head caller call id (Some st) there = closed_found s head (closed_code st (get id holds)) _ (decided_found s clock head caller call id st (op id caller call st.volume) there)

with_found : (holds : Table ℕ) (s : ServerState) (clock : ℕ) (head : Head) (caller : Caller) (call : FsCall) (o : Option ℕ) → Found s (file_volume holds s clock head caller call o)
unfolding Found
with_found holds s clock head caller call None = tt
with_found holds s clock head caller call (Some id) = in_found holds s clock head caller call id (get id s.lasting.volumes) refl

several_found : (s : ServerState) (head : Head) (caller : Caller) (o : Result (List Sight) ℕ) → Found s (several head caller o)
unfolding Found
several_found s head caller (Err code) = tt
several_found s head caller (Ok xs) = tt

serves_found : (holds : Table ℕ) (s : ServerState) (clock : ℕ) (head : Head) (user : List ℕ) (call : FsCall) → Found s (file_serves holds s clock head user call)
unfolding Found
serves_found holds s clock head user (calls.GiveUpCallBacks fids callbacks) = tt
serves_found holds s clock head user calls.GetTime = tt
serves_found holds s clock head user (calls.BulkStatus fids) = several_found s head (the_user user) _
serves_found holds s clock head user call = with_found holds s clock head (the_user user) call (volume_called call)

carried_found : (holds : Table ℕ) (s : ServerState) (clock : ℕ) (head : Head) (c : Carried) → Found s (file_carried holds s clock head c)
unfolding Found
carried_found holds s clock head (carried.Call user (ask.File call)) = serves_found holds s clock head user call
carried_found holds s clock head (carried.Call user (ask.Volume call)) = tt
carried_found holds s clock head (carried.Call user (ask.Location call)) = tt
carried_found holds s clock head (carried.Refusal code) = tt
carried_found holds s clock head (carried.Reply reply) = tt
carried_found holds s clock head carried.Notice = tt

received_found : (holds : Table ℕ) (s : ServerState) (clock : ℕ) (head : Head) (r : Received) → Found s (file_received holds s clock head r)
unfolding Found
received_found holds s clock head Nothing = tt
received_found holds s clock head (Unserved other) = tt
received_found holds s clock head (Unreadable other) = tt
received_found holds s clock head (Whole m) = carried_found holds s clock head m.carried

admits_found : (holds : Table ℕ) (s : ServerState) (clock : ℕ) (head : Head) (r : Received) (a : Admitted Message) → Found s (file_admits holds s clock head r a)
unfolding Found
admits_found holds s clock head r pairs.runs = either s (is_client head.from) (file_received holds s clock head r) (refuses head not_served) (received_found holds s clock head r) tt
admits_found holds s clock head r (pairs.kept reply) = tt
admits_found holds s clock head r pairs.in_progress = tt
admits_found holds s clock head r pairs.older = tt
admits_found holds s clock head r (pairs.wrong_boot boot) = tt

called_found : (me : Node) (holds : Table ℕ) (s : ServerState) (clock : ℕ) (head : Head) (r : Received) → Found s (file_called me holds s clock head r)
unfolding Found
called_found me holds s clock head r = either s (same_node head.to me) (file_admits holds s clock head r (admitted s.lasting.boot s.seats head)) drops (admits_found holds s clock head r (admitted s.lasting.boot s.seats head)) tt

hears_found : (me : Node) (holds : Table ℕ) (s : ServerState) (clock : ℕ) (head : Head) (c : Carried) → Found s (file_hears me holds s clock head c)
unfolding Found
hears_found me holds s clock head (carried.Call user call) = called_found me holds s clock head (whole head (carried.Call user call))
hears_found me holds s clock head (carried.Refusal code) = tt
hears_found me holds s clock head (carried.Reply reply) = tt
hears_found me holds s clock head carried.Notice = tt

decides_found : (me : Node) (holds : Table ℕ) (s : ServerState) (clock : ℕ) (r : Received) → Found s (file_decides me holds s clock r)
unfolding Found
decides_found me holds s clock Nothing = tt
decides_found me holds s clock (Unserved head) = called_found me holds s clock head (Unserved head)
decides_found me holds s clock (Unreadable head) = called_found me holds s clock head (Unreadable head)
decides_found me holds s clock (Whole m) = hears_found me holds s clock m.head m.carried

-- ---- it stays open

set_by : (a b : Bool) (n : ℕ) (x : Stored) (p : ℕ × Stored) (ps : Table Stored) → x.volume.flags ≡ 0 → p.1.volume.flags ≡ 0 → AllByRecursion (λ (q : ℕ × Stored). q.1.volume.flags ≡ 0) ps → AllByRecursion (λ (q : ℕ × Stored). q.1.volume.flags ≡ 0) (set n x ps) →
    AllByRecursion (λ (q : ℕ × Stored). q.1.volume.flags ≡ 0) (cond a ((n, x) ∷ ps) (cond b ((n, x) ∷ p ∷ ps) (p ∷ set n x ps)))
set_by true b n x p ps h k all later = (h, all)
set_by false true n x p ps h k all later = (h, (k, all))
set_by false false n x p ps h k all later = (k, later)

all_set : (n : ℕ) (x : Stored) (t : Table Stored) → x.volume.flags ≡ 0 → AllByRecursion (λ (q : ℕ × Stored). q.1.volume.flags ≡ 0) t → AllByRecursion (λ (q : ℕ × Stored). q.1.volume.flags ≡ 0) (set n x t)
all_set n x [] h all = (h, tt)
all_set n x (p ∷ ps) h all = set_by (nat_eq p.0 n) (nat_lt n p.0) n x p ps h all.0 all.1 (all_set n x ps h all.1)

filter_by : (b : Bool) (p : ℕ × Stored) (rest : Table Stored) → p.1.volume.flags ≡ 0 → AllByRecursion (λ (q : ℕ × Stored). q.1.volume.flags ≡ 0) rest → AllByRecursion (λ (q : ℕ × Stored). q.1.volume.flags ≡ 0) (cond b (p ∷ rest) rest)
filter_by true p rest h all = (h, all)
filter_by false p rest h all = all

all_filter : (t : Table Stored) → AllByRecursion (λ (q : ℕ × Stored). q.1.volume.flags ≡ 0) t → AllByRecursion (λ (q : ℕ × Stored). q.1.volume.flags ≡ 0) (filter is_unflagged t)
all_filter [] all = tt
all_filter (p ∷ ps) all = filter_by (is_unflagged p) p (filter is_unflagged ps) all.0 (all_filter ps all.1)

same_flags : (clock : ℕ) (c : Change) → (stored_by clock c).volume.flags ≡ c.before.volume.flags
same_flags clock c = ap (λ (v : Volume). v.flags) (same_rest c.id c.edits c.before.volume)

saved_open : (s : ServerState) (clock : ℕ) (head : Head) (c : Change) → get c.id s.lasting.volumes ≡ Some c.before → IsOpen s → IsOpen (saved head clock c s)
saved_open s clock head c there h = record {
  forwardings = h.forwardings;
  volumes = all_set c.id (stored_by clock c) s.lasting.volumes (same_flags clock c ∙ flags_zero c.id s.lasting.volumes c.before h.volumes there) h.volumes;
}

does_open : (me : Node) (s : ServerState) (clock place : ℕ) (d : Decision) (tail : List Line) → Found s d → IsOpen s → IsOpen (does me s clock place d tail).state
unfolding Found
does_open me s clock place drops tail f h = h
does_open me s clock place (tells_boot head) tail f h = h
does_open me s clock place (repeats reply) tail f h = h
does_open me s clock place (refuses head code) tail f h = record { forwardings = h.forwardings; volumes = h.volumes }
does_open me s clock place (shows head r) tail f h = record { forwardings = h.forwardings; volumes = h.volumes }
does_open me s clock place (saves head c) tail f h = saved_open s clock head c f h

given_open : (me : Node) (holds : Table ℕ) (s : ServerState) (clock place : ℕ) (m : Received) → IsOpen s → IsOpen (file_row me holds s clock place m).state
unfolding file_row
given_open me holds s clock place m h = let z = does_open me s clock place (file_decides me holds s clock m) [] (decides_found me holds s clock m) h in record { forwardings = z.forwardings; volumes = z.volumes }

late_open : (me : Node) (s : ServerState) (clock : ℕ) (n : Node) (c : BackCall) → IsOpen s → IsOpen (back_timeout_row me s clock n c).state
unfolding back_timeout_row
late_open me s clock n c h = record { forwardings = h.forwardings; volumes = h.volumes }

woken_open : (me : Node) (s : ServerState) (clock : ℕ) → IsOpen s → IsOpen (wake_row me s clock).state
unfolding wake_row
woken_open me s clock h = record { forwardings = h.forwardings; volumes = h.volumes }

cut_open : (me : Node) (s : ServerState) (clock : ℕ) (d : Decision) → Found s d → IsOpen s → IsOpen (begun_after me s clock d).state
unfolding Found
cut_open me s clock (saves head c) f h = saved_open s clock head c f h
cut_open me s clock drops f h = h
cut_open me s clock (tells_boot head) f h = h
cut_open me s clock (repeats reply) f h = h
cut_open me s clock (refuses head code) f h = h
cut_open me s clock (shows head r) f h = h

started_open : (me : Node) (clock count : ℕ) (begun : Begun ServerState) → IsOpen begun.state → IsOpen (file_start me clock count begun).state
unfolding file_start
started_open me clock count begun h = record { forwardings = h.forwardings; volumes = all_filter begun.state.lasting.volumes h.volumes }

pub open_stay : OpenServersStayOpen
open_stay = record {
  given = given_open;
  late = late_open;
  woken = woken_open;
  cut = λ me holds s clock m h. cut_open me s clock (file_decides me holds s clock m) (decides_found me holds s clock m) h;
  started = started_open;
}

-- ---- the steps of an open server are plain

join : Result Sight ℕ → Result (List Sight) ℕ → Result (List Sight) ℕ
join o os = o >>= λ x. (os >>= λ xs. Ok (x ∷ xs))

sights_plain : (s : ServerState) (caller : Caller) (fs : List Fid) → IsOpen s → file_sights [] s.lasting caller fs ≡ sights s.lasting.volumes caller fs
unfolding join
sights_plain s caller [] h = refl
sights_plain s caller (f ∷ fs) h =
    ap (λ (o : Result Sight ℕ). join o (file_sights [] s.lasting caller fs)) (sight_is s caller f (get f.volume s.lasting.volumes) h refl)
    ∙ ap (λ (os : Result (List Sight) ℕ). join (sight_in caller f (get f.volume s.lasting.volumes)) os) (sights_plain s caller fs h)

volume_plain : (s : ServerState) (clock : ℕ) (head : Head) (caller : Caller) (call : FsCall) (o : Option ℕ) → IsOpen s → file_volume [] s clock head caller call o ≡ with_volume s clock head caller call o
volume_plain s clock head caller call None h = refl
volume_plain s clock head caller call (Some id) h = volume_by s clock head caller call id (get id s.lasting.volumes) h refl

serves_plain : (s : ServerState) (clock : ℕ) (head : Head) (user : List ℕ) (call : FsCall) → IsOpen s → file_serves [] s clock head user call ≡ serves_call s clock head user call
serves_plain s clock head user (calls.GiveUpCallBacks fids callbacks) h = refl
serves_plain s clock head user calls.GetTime h = refl
serves_plain s clock head user (calls.BulkStatus fids) h = ap (several head (the_user user)) (sights_plain s (the_user user) fids h)
serves_plain s clock head user call h = volume_plain s clock head (the_user user) call (volume_called call) h

carried_plain : (s : ServerState) (clock : ℕ) (head : Head) (c : Carried) → IsOpen s → file_carried [] s clock head c ≡ runs_carried s clock head c
carried_plain s clock head (carried.Call user (ask.File call)) h = serves_plain s clock head user call h
carried_plain s clock head (carried.Call user (ask.Volume call)) h = refl
carried_plain s clock head (carried.Call user (ask.Location call)) h = refl
carried_plain s clock head (carried.Refusal code) h = refl
carried_plain s clock head (carried.Reply reply) h = refl
carried_plain s clock head carried.Notice h = refl

received_plain : (s : ServerState) (clock : ℕ) (head : Head) (m : Received) → IsOpen s → file_received [] s clock head m ≡ runs_received s clock head m
received_plain s clock head Nothing h = refl
received_plain s clock head (Unserved other) h = refl
received_plain s clock head (Unreadable other) h = refl
received_plain s clock head (Whole m) h = carried_plain s clock head m.carried h

admits_plain : (s : ServerState) (clock : ℕ) (head : Head) (m : Received) (a : Admitted Message) → IsOpen s → file_admits [] s clock head m a ≡ admits s clock head m a
admits_plain s clock head m pairs.runs h = ap (λ (d : Decision). cond (is_client head.from) d (refuses head not_served)) (received_plain s clock head m h)
admits_plain s clock head m (pairs.kept reply) h = refl
admits_plain s clock head m pairs.in_progress h = refl
admits_plain s clock head m pairs.older h = refl
admits_plain s clock head m (pairs.wrong_boot boot) h = refl

called_plain : (me : Node) (s : ServerState) (clock : ℕ) (head : Head) (m : Received) → IsOpen s → file_called me [] s clock head m ≡ called me s clock head m
called_plain me s clock head m h = ap (λ (d : Decision). cond (same_node head.to me) d drops) (admits_plain s clock head m (admitted s.lasting.boot s.seats head) h)

hears_plain : (me : Node) (s : ServerState) (clock : ℕ) (head : Head) (c : Carried) → IsOpen s → file_hears me [] s clock head c ≡ hears me s clock head c
hears_plain me s clock head (carried.Call user call) h = called_plain me s clock head (whole head (carried.Call user call)) h
hears_plain me s clock head (carried.Refusal code) h = refl
hears_plain me s clock head (carried.Reply reply) h = refl
hears_plain me s clock head carried.Notice h = refl

decides_plain : (me : Node) (s : ServerState) (clock : ℕ) (m : Received) → IsOpen s → file_decides me [] s clock m ≡ decides me s clock m
decides_plain me s clock Nothing h = refl
decides_plain me s clock (Unserved head) h = called_plain me s clock head (Unserved head) h
decides_plain me s clock (Unreadable head) h = called_plain me s clock head (Unreadable head) h
decides_plain me s clock (Whole m) h = hears_plain me s clock m.head m.carried h

row_plain : (me : Node) (s : ServerState) (clock place : ℕ) (m : Received) → IsOpen s → file_row me [] s clock place m ≡ server_row me s clock place m
unfolding file_row server_row
row_plain me s clock place m h = ap (λ (d : Decision). done me s clock place d (turned_in me s clock (expired clock s.backs) d m)) (decides_plain me s clock m h)

start_plain : (me : Node) (clock count : ℕ) (begun : Begun ServerState) → IsOpen begun.state → file_start me clock count begun ≡ start_row me clock count begun
unfolding file_start start_row
start_plain me clock count begun h =
    let turn = risen_turn me clock count in
    ap (λ (ls : List Line). stepped me (revived begun.state) (begun.before (lines.Restart me (begun.state.lasting.boot + 1) ∷ (ls ++ turn.lines))) turn)
    (none_vanish me begun.state.lasting.volumes h.volumes)

tells_before : (s : ServerState) → TellsFirst (begun_before s)
tells_before s ls = refl

versioned_first : (vs : List Version) (ls : List Line) → versioned vs ls ≡ versioned vs [] ++ ls
versioned_first [] ls = refl
versioned_first (v ∷ vs) ls = ap (λ (k : List Line). lines.Version v ∷ k) (versioned_first vs ls)

tells_after : (me : Node) (s : ServerState) (clock : ℕ) (d : Decision) → TellsFirst (begun_after me s clock d)
tells_after me s clock (saves head c) ls = ap (λ (k : List Line). lines.Change me (key_of head) (length (versions_made c)) ∷ k) (versioned_first (versions_made c) ls)
tells_after me s clock drops ls = refl
tells_after me s clock (tells_boot head) ls = refl
tells_after me s clock (repeats reply) ls = refl
tells_after me s clock (refuses head code) ls = refl
tells_after me s clock (shows head r) ls = refl

pub open_plain : OpenServersArePlain
open_plain = record { decided = decides_plain; row = row_plain; start = start_plain; tells = λ me s clock d. (tells_before s, tells_after me s clock d) }
