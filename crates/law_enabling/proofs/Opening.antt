-- What a server's step brings into service is in service behind it: its records enable volumes that they leave with flags 0, and a start that
-- follows deletes none of those.
use Rattle.spec_model.specs.Calls.{key_of}
use Rattle.std.proofs.Common.{◌≡◌, ℕ, ◌+◌, Bool, true, false, cond, List, [], ◌∷◌, ◌++◌, Option, Some, None, refl, sym, ap, subst, ◌∙◌, nat_eq, eq-eqb, eqb-true, if◌then◌else◌}
use Rattle.std.specs.Prelude.{⊤, ◌&&◌, not, map, filter}
use Rattle.std.specs.List.{AllByRecursion}
use Rattle.afs_num.specs.declared.histories.Version.{Version}
use Rattle.afs_num.specs.declared.messages.Message.{Message}
use Rattle.afs_num.specs.declared.messages.Received.TheVariants.{Whole}
use Rattle.afs_num.specs.declared.records.RecordBody.{RecordBody}
use Rattle.afs_num.specs.declared.records.RecordBody.TheVariants as bodies
use Rattle.afs_num.specs.declared.records.RecordHead.{RecordHead}
use Rattle.afs_num.specs.declared.types.Head.{Head}
use Rattle.afs_num.specs.declared.types.Node.{Node}
use Rattle.spec_history.specs.declared.lines.Line.{Line}
use Rattle.spec_history.specs.declared.lines.Line.TheVariants as lines
use Rattle.spec_ideal.specs.SetUp.{first_versions}
use Rattle.spec_ideal.specs.Tables.{get, set, Table}
use Rattle.spec_ideal.specs.Volumes.{has_bit}
use Rattle.spec_model.proofs.Basics.{both}
use Rattle.spec_records.specs.Durable.{is_flagged, Durable, Stored}
use Rattle.spec_fold.specs.Deeds.{can_take, created, done_by, flagged, on_stored}
use Rattle.spec_fold.specs.Effects.{effect_by, flag_lines, lines_told_of, made_lines, released_lines, turn_lines, vanish_lines, vanished_lines, version_lines, whole_lines}
use Rattle.spec_rows.specs.Callbacks.{expired, owe_line, risen_turn, turned_in}
use Rattle.spec_rows.specs.Hosts.{at_rest, begun_from, comes_up, ends, fails_early, fails_midway, fall_line, in_boot, in_step, is_full, restarted, served, served_by, without_boot_record, struck, Blow, Fall, Luck, Outcome}
use Rattle.spec_rows.specs.ServerHosts.{can_start}
use Rattle.spec_rows.specs.ServerRow as files
use Rattle.spec_rows.specs.ServerRow.{begun_after, does, granted, granted_in, is_unflagged, versions_made, promise_ticks, versioned, Decision}
use Rattle.spec_rows.specs.ServerSteps.{back_timeout_row, wake_row}
use Rattle.spec_rows.specs.States.{durable_of, BackCall, Lasting, ServerState}
use Rattle.spec_rows.specs.Steps.{Begun}
use Rattle.spec_volrows.proofs.VolKeeping.{deeds_are_writable}
use Rattle.spec_volrows.proofs.VolTurns.{deeds_are_shown}
use Rattle.spec_volrows.specs.FileRow.{file_decides, file_row, file_start}
use Rattle.spec_volrows.specs.NodeHosts.{node_begun, node_kind, node_timed_out, node_woken, piece_timed_out, NodeHost}
use Rattle.spec_volrows.specs.VolLaws.{is_saved, IsWritable, OfSaved, ShowsDeed}
use Rattle.spec_volrows.specs.VolRow.{holds_of}
use Rattle.spec_volrows.specs.VolStates.{NodeState, PieceCall}
use Rattle.spec_volrows.specs.VolSteps as vols
use Rattle.spec_volrows.specs.VolSteps.{deed_done, deed_head, deed_lines, dispatches, from_of, is_of_client, node_back_timeout_row, node_begun_after, node_file_decides, node_row, node_start_row, node_wake_row, owes_of, piece_timeout_row, replies_to, vol_begun_after, vol_decides, Deed, VolDecision}
use Rattle.law_places.specs.Accepting.{is_in_service, has_in_service}
use Rattle.law_places.proofs.ServerLines.{volumes_of}
use Rattle.law_places.proofs.Shifting.{set_serves, stamp_volumes}
use Rattle.law_places.proofs.Turning.{all_lines, is_still, AreStill}
use Rattle.law_places.proofs.ServerLines.{carried_still, granted_still, late_still, owes_still, timed_still, turned_still_by}

-- ---- lines of a server, whose volumes are these behind them

-- a volume that is enabled is in service there
abbrev pub IsOpen : Node → Table Stored → Line → Type 0
IsOpen me t (lines.Enable v n) = (n ≡ me) × (has_in_service t v ≡ true)
IsOpen me t l = ⊤

abbrev pub AreOpen : Node → Table Stored → List Line → Type 0
AreOpen me t ls = AllByRecursion (IsOpen me t) ls

-- those in service stay in service
abbrev Keeps : Table Stored → Table Stored → Type 0
Keeps a b = (volume : ℕ) → has_in_service a volume ≡ true → has_in_service b volume ≡ true

module _ (me : Node) (t : Table Stored) where
  still_one : (l : Line) → is_still l ≡ true → IsOpen me t l
  still_one (lines.Enable v n) h = absurd cc
  still_one l h = tt

  still_open : (ls : List Line) → AreStill ls → AreOpen me t ls
  still_open [] h = tt
  still_open (l ∷ ls) h = let q = both (is_still l) (all_lines is_still ls) h in (still_one l q.0, still_open ls q.1)

  open_on : (xs ys : List Line) → AreOpen me t xs → AreOpen me t ys → AreOpen me t (xs ++ ys)
  open_on [] ys h k = k
  open_on (x ∷ xs) ys h k = (h.0, open_on xs ys h.1 k)

  versioned_open : (vs : List Version) (ls : List Line) → AreOpen me t ls → AreOpen me t (versioned vs ls)
  versioned_open [] ls h = h
  versioned_open (v ∷ vs) ls h = (tt, versioned_open vs ls h)

  whole_open : (vs : List Version) → AreOpen me t (version_lines vs)
  whole_open [] = tt
  whole_open (v ∷ vs) = (tt, whole_open vs)

kept_one : (me : Node) (a b : Table Stored) (l : Line) → Keeps a b → IsOpen me a l → IsOpen me b l
kept_one me a b (lines.Enable v n) k h = (h.0, k v h.1)
kept_one me a b l k h = tt

kept_open : (me : Node) (a b : Table Stored) (ls : List Line) → Keeps a b → AreOpen me a ls → AreOpen me b ls
kept_open me a b [] k h = tt
kept_open me a b (l ∷ ls) k h = (kept_one me a b l k h.0, kept_open me a b ls k h.1)

-- ---- a file server's step

does_open : (me : Node) (x : ServerState) (clock place : ℕ) (d : Decision) (ls : List Line) (t : Table Stored) → AreStill ls → AreOpen me t (does me x clock place d ls).lines
does_open me x clock place files.drops ls t h = (tt, still_open me t ls h)
does_open me x clock place (files.tells_boot head) ls t h = (tt, still_open me t ls h)
does_open me x clock place (files.repeats reply) ls t h = (tt, still_open me t ls h)
does_open me x clock place (files.refuses head code) ls t h = (tt, still_open me t ls h)
does_open me x clock place (files.shows head r) ls t h = (tt, still_open me t _ (granted_still me head.from (clock + promise_ticks) r.granted ls h))
does_open me x clock place (files.saves head c) ls t h = (tt, (tt, versioned_open me t (versions_made c) _ (still_open me t _ (granted_still me head.from (clock + promise_ticks) (granted_in c) ls h))))

file_open : (me : Node) (holds : Table ℕ) (x : ServerState) (clock place : ℕ) (m : Message) (t : Table Stored) → AreOpen me t (file_row me holds x clock place (Whole m)).lines
unfolding file_row
file_open me holds x clock place m t =
    let d : Decision = file_decides me holds x clock (Whole m) in
    does_open me x clock place d (turned_in me x clock (expired clock x.backs) d (Whole m)).lines t (carried_still me x clock (expired clock x.backs) d m.head m.carried)

-- ---- what a volume server writes

set_open : (id : ℕ) (x : Stored) (t : Table Stored) → is_in_service (Some x) ≡ true → has_in_service (set id x t) id ≡ true
set_open id x t h = set_serves id id x t ∙ (ap (λ (b : Bool). cond b (is_in_service (Some x)) (has_in_service t id)) (eq-eqb id id refl) ∙ h)

create_by : (me : Node) (id : ℕ) (s : Stored) (t : Table Stored) (b : Bool) → (b ≡ true → has_in_service t id ≡ true) → AreOpen me t (if b then whole_lines me id s ++ lines.Enable id me ∷ [] else [])
create_by me id s t true h = open_on me t (whole_lines me id s) (lines.Enable id me ∷ []) (tt, whole_open me t (first_versions id s.volume.vnodes)) ((refl, h refl), tt)
create_by me id s t false h = tt

made_open : (me : Node) (id : ℕ) (s : Stored) (t : Table Stored) (b : Bool) → AreOpen me t (if b then whole_lines me id s else [])
made_open me id s t true = (tt, whole_open me t (first_versions id s.volume.vnodes))
made_open me id s t false = tt

turn_open : (me : Node) (id : ℕ) (t : Table Stored) (was is : Bool) → (is ≡ true → has_in_service t id ≡ true) → AreOpen me t (turn_lines me id was is)
turn_open me id t true false h = (tt, tt)
turn_open me id t false true h = ((refl, h refl), tt)
turn_open me id t true true h = tt
turn_open me id t false false h = tt

released_open : (me : Node) (id : ℕ) (s : Stored) (t : Table Stored) (b c : Bool) → AreOpen me t (if b then (if c then lines.Released s.volume.family id s.volume.release me ∷ [] else []) else [])
released_open me id s t true true = (tt, tt)
released_open me id s t true false = tt
released_open me id s t false c = tt

flags_by : (me : Node) (id flags : ℕ) (s : Stored) (t : Table Stored) (k : Bool) → ((k && nat_eq flags 0) ≡ true → has_in_service t id ≡ true) →
    AreOpen me t (if k then made_lines me id flags s ++ turn_lines me id (nat_eq s.volume.flags 0) (nat_eq flags 0) else (if nat_eq flags 0 then released_lines me id s else []))
flags_by me id flags s t true h =
    open_on me t (made_lines me id flags s) (turn_lines me id (nat_eq s.volume.flags 0) (nat_eq flags 0)) (made_open me id s t (nat_eq flags 0 && s.is_new)) (turn_open me id t (nat_eq s.volume.flags 0) (nat_eq flags 0) h)
flags_by me id flags s t false h = released_open me id s t (nat_eq flags 0) (nat_eq s.volume.kind 1)

flags_open : (me : Node) (id flags : ℕ) (o : Option Stored) (d : Durable) → AreOpen me (on_stored id (flagged flags) o d).volumes (lines_told_of (flag_lines me id flags) o)
flags_open me id flags None d = tt
flags_open me id flags (Some s) d = flags_by me id flags s (set id (flagged flags s) d.volumes) (nat_eq s.volume.kind 0) (set_open id (flagged flags s) d.volumes)

vanish_open : (me : Node) (id : ℕ) (t : Table Stored) (b : Bool) → AreOpen me t (if b then lines.Vanish id me ∷ [] else [])
vanish_open me id t true = (tt, tt)
vanish_open me id t false = tt

deletes_open : (me : Node) (id : ℕ) (t : Table Stored) (o : Option Stored) → AreOpen me t (lines_told_of (vanish_lines me id) o)
deletes_open me id t None = tt
deletes_open me id t (Some s) = vanish_open me id t (nat_eq s.volume.kind 0)

body_open : (me : Node) (h : RecordHead) (body : RecordBody) (d : Durable) → can_take body d ≡ true → AreOpen me (done_by body d).volumes (effect_by me h body d)
body_open me h (bodies.First volumes) d can = absurd cc
body_open me h (bodies.Change id counter unique vnodes removed) d can = absurd cc
body_open me h (bodies.Boot boot) d can = absurd cc
body_open me h (bodies.Create id family name kind flags quota is_new) d can =
    let s : Stored = created family name kind flags quota is_new in create_by me id s (set id s d.volumes) (nat_eq s.volume.kind 0 && nat_eq s.volume.flags 0) (set_open id s d.volumes)
body_open me h (bodies.Delete id) d can = deletes_open me id (done_by (bodies.Delete id) d).volumes (get id d.volumes)
body_open me h (bodies.Flags id flags) d can = flags_open me id flags (get id d.volumes) d
body_open me h body d can = tt

deed_open : (me : Node) (l : Lasting) (head : Head) (x : Deed) → can_take x.body (durable_of l) ≡ true → AreOpen me (deed_done head x l).volumes (deed_lines me head x l)
deed_open me l head x can = subst (λ (t : Table Stored). AreOpen me t (deed_lines me head x l)) (sym (stamp_volumes (deed_head head x) (done_by x.body (durable_of l)))) (body_open me (deed_head head x) x.body (durable_of l) can)

-- ---- a message

-- the volumes behind the step, and its lines
abbrev RowOpen : Node → NodeState → ℕ → ℕ → Message → Type 0
RowOpen me s clock place m = AreOpen me (volumes_of (node_row me s clock place (Whole m)).state) (node_row me s clock place (Whole m)).lines

saved_open : (me : Node) (s : NodeState) (clock place : ℕ) (m : Message) (head : Head) (x : Deed) → is_of_client (from_of (Whole m)) ≡ false → vol_decides me (durable_of s.file.lasting) s.vol (Whole m) ≡ vols.saves head x → RowOpen me s clock place m
saved_open me s clock place m head x other is =
    let l : Lasting = s.file.lasting in
    let shown : ShowsDeed me s clock place head x (node_row me s clock place (Whole m)) = deeds_are_shown me s clock place (Whole m) head x other is in
    let writable = subst (OfSaved (IsWritable (durable_of l))) is (deeds_are_writable me (durable_of l) s.vol (Whole m)) in
    let t : Table Stored = (deed_done head x l).volumes in
    let owes : List Line = map (owe_line me) (owes_of x.withdraws (expired clock s.file.backs).lists) in
    let all : AreOpen me t (lines.Given place ∷ (deed_lines me head x l ++ owes)) = (tt, open_on me t (deed_lines me head x l) owes (deed_open me l head x writable.taken) (still_open me t owes (owes_still me (owes_of x.withdraws (expired clock s.file.backs).lists)))) in
    subst (λ (ls : List Line). AreOpen me (volumes_of (node_row me s clock place (Whole m)).state) ls) (sym shown.lines)
    (subst (λ (k : Lasting). AreOpen me k.volumes (lines.Given place ∷ (deed_lines me head x l ++ owes))) (sym shown.lasting) all)

quiet_open : (me : Node) (s : NodeState) (clock place : ℕ) (m : Message) (t : Table Stored) → is_of_client (from_of (Whole m)) ≡ false → is_saved (vol_decides me (durable_of s.file.lasting) s.vol (Whole m)) ≡ false → AreOpen me t (node_row me s clock place (Whole m)).lines
unfolding node_row
quiet_open me s clock place m t other quiet' =
    rw other (tt, still_open me t _ (turned_still_by me s.file.lasting s.vol (expired clock s.file.backs) (vol_decides me (durable_of s.file.lasting) s.vol (Whole m)) m.head m.carried quiet'))

vol_by : (me : Node) (s : NodeState) (clock place : ℕ) (m : Message) (d : VolDecision) → is_of_client (from_of (Whole m)) ≡ false → vol_decides me (durable_of s.file.lasting) s.vol (Whole m) ≡ d → RowOpen me s clock place m
vol_by me s clock place m (vols.saves head x) other is = saved_open me s clock place m head x other is
vol_by me s clock place m d other is = quiet_open me s clock place m _ other (ap is_saved is)

client_open : (me : Node) (s : NodeState) (clock place : ℕ) (m : Message) (t : Table Stored) → is_of_client (from_of (Whole m)) ≡ true → AreOpen me t (node_row me s clock place (Whole m)).lines
unfolding node_row
client_open me s clock place m t client = rw client (file_open me (holds_of s.vol.transactions) s.file clock place m t)

row_by : (me : Node) (s : NodeState) (clock place : ℕ) (m : Message) (b : Bool) → is_of_client (from_of (Whole m)) ≡ b → RowOpen me s clock place m
row_by me s clock place m true is = client_open me s clock place m _ is
row_by me s clock place m false is = vol_by me s clock place m (vol_decides me (durable_of s.file.lasting) s.vol (Whole m)) is refl

fall_open : (me : Node) (t : Table Stored) (stops : Bool) → IsOpen me t (fall_line me stops)
fall_open me t true = tt
fall_open me t false = tt

serve_by : (me : Node) (h : NodeHost) (clock place : ℕ) (m : Message) (o : Option Blow) → AreOpen me (volumes_of (served_by (node_kind me) h clock place m o).host.state) (served_by (node_kind me) h clock place m o).lines
serve_by me h clock place m None = row_by me h.state clock place m (is_of_client (from_of (Whole m))) refl
serve_by me h clock place m (Some b) = (tt, (fall_open me (volumes_of h.state) b.stops, tt))

pub serve_open : (me : Node) (h : NodeHost) (clock place : ℕ) (luck : Luck) (m : Message) → AreOpen me (volumes_of (served (node_kind me) h clock place luck m).host.state) (served (node_kind me) h clock place luck m).lines
serve_open me h clock place luck m = serve_by me h clock place m (struck h.armed luck _)

-- ---- timeouts, and as time passes

pub piece_open : (me : Node) (h : NodeHost) (clock : ℕ) (n : Node) (c : PieceCall) (t : Table Stored) → AreOpen me t (piece_timed_out me h clock n c).lines
unfolding piece_timeout_row
piece_open me h clock n c t = still_open me t _ (timed_still me h.state.file.lasting h.state.vol (expired clock h.state.file.backs) n c (h.state.vol.sendings n))

pub break_open : (me : Node) (h : NodeHost) (clock : ℕ) (n : Node) (c : BackCall) (t : Table Stored) → AreOpen me t (node_timed_out me h clock n c).lines
unfolding node_back_timeout_row back_timeout_row
break_open me h clock n c t = still_open me t _ (late_still me h.state.file.lasting.boot n c (expired clock h.state.file.backs))

pub wake_open : (me : Node) (h : NodeHost) (clock : ℕ) (t : Table Stored) → AreOpen me t (node_woken me h clock).lines
unfolding node_wake_row wake_row
wake_open me h clock t = tt

-- ---- a restart

-- What it begins with tells first what led there, whatever lines follow, and whichever volumes that leaves.
abbrev Leads : Node → Begun NodeState → Type 0
Leads me f = (t : Table Stored) (ls : List Line) → Keeps (volumes_of f.state) t → AreOpen me t ls → AreOpen me t (f.before ls)

file_leads : (me : Node) (s : NodeState) (clock : ℕ) (d : Decision) → Leads me (node_begun s (begun_after me s.file clock d))
file_leads me s clock files.drops t ls k h = h
file_leads me s clock (files.tells_boot head) t ls k h = h
file_leads me s clock (files.repeats reply) t ls k h = h
file_leads me s clock (files.refuses head code) t ls k h = h
file_leads me s clock (files.shows head r) t ls k h = h
file_leads me s clock (files.saves head c) t ls k h = (tt, versioned_open me t (versions_made c) ls h)

vol_leads : (me : Node) (s : NodeState) (d : VolDecision) → OfSaved (IsWritable (durable_of s.file.lasting)) d → Leads me (node_begun s (vol_begun_after me s.file d))
vol_leads me s vols.drops w t ls k h = h
vol_leads me s (vols.tells_boot head) w t ls k h = h
vol_leads me s (vols.repeats reply) w t ls k h = h
vol_leads me s (replies_to head reply ts last) w t ls k h = h
vol_leads me s (dispatches head x) w t ls k h = h
vol_leads me s (vols.saves head x) w t ls k h =
    let l : Lasting = s.file.lasting in open_on me t (deed_lines me head x l) ls (kept_open me (deed_done head x l).volumes t (deed_lines me head x l) k (deed_open me l head x w.taken)) h

after_by : (me : Node) (s : NodeState) (clock : ℕ) (m : Message) (b : Bool) →
    Leads me (node_begun s (if b then begun_after me s.file clock (node_file_decides me s clock (Whole m)) else vol_begun_after me s.file (vol_decides me (durable_of s.file.lasting) s.vol (Whole m))))
after_by me s clock m true = file_leads me s clock (node_file_decides me s clock (Whole m))
after_by me s clock m false = vol_leads me s (vol_decides me (durable_of s.file.lasting) s.vol (Whole m)) (deeds_are_writable me (durable_of s.file.lasting) s.vol (Whole m))

if_open : (me : Node) (id : ℕ) (t : Table Stored) (b c : Bool) → AreOpen me t (if b then (if c then lines.Vanish id me ∷ [] else []) else [])
if_open me id t true c = vanish_open me id t c
if_open me id t false c = tt

vanished_open : (me : Node) (t u : Table Stored) → AreOpen me t (vanished_lines me u)
vanished_open me t [] = tt
vanished_open me t (p ∷ ps) = open_on me t (if is_flagged p.1 then vanish_lines me p.0 p.1 else []) (vanished_lines me ps) (if_open me p.0 t (is_flagged p.1) (nat_eq p.1.volume.kind 0)) (vanished_open me t ps)

begun_leads : (me : Node) (s : NodeState) (after : Bool) (fall : Fall) → Leads me (begun_from (node_kind me) s after fall)
begun_leads me s after at_rest t ls k h = h
begun_leads me s false (in_step m clock b) t ls k h = h
begun_leads me s true (in_step m clock b) t ls k h = after_by me s clock m (is_of_client (from_of (Whole m))) t ls k h
begun_leads me s false in_boot t ls k h = h
begun_leads me s true in_boot t ls k h = open_on me t (vanished_lines me (volumes_of s)) ls (vanished_open me t (volumes_of s)) h

-- a start leaves each volume that has no flag
unflagged_by : (n : ℕ) (k f : Bool) → nat_eq n 0 ≡ f → (k && f) ≡ true → not (has_bit 1 n) ≡ true
unflagged_by n k true is h = ap (λ (i : ℕ). not (has_bit 1 i)) (eqb-true n 0 is)
unflagged_by n true false is h = absurd cc
unflagged_by n false false is h = absurd cc

in_service_unflagged : (p : ℕ × Stored) → is_in_service (Some p.1) ≡ true → is_unflagged p ≡ true
in_service_unflagged p h = unflagged_by p.1.volume.flags (nat_eq p.1.volume.kind 0) (nat_eq p.1.volume.flags 0) refl h

kept_by : (p : ℕ × Stored) (ps : Table Stored) (volume : ℕ) (same keep : Bool) → nat_eq p.0 volume ≡ same → is_unflagged p ≡ keep → is_in_service (if same then Some p.1 else get volume ps) ≡ true → (has_in_service ps volume ≡ true → has_in_service (filter is_unflagged ps) volume ≡ true) →
    has_in_service (if keep then p ∷ filter is_unflagged ps else filter is_unflagged ps) volume ≡ true
kept_by p ps volume true true same is h later = rw same h
kept_by p ps volume true false same is h later = let no : true ≡ false = sym (in_service_unflagged p h) ∙ is in absurd cc
kept_by p ps volume false true same is h later = rw same (later h)
kept_by p ps volume false false same is h later = later h

started_keeps : (t : Table Stored) → Keeps t (filter is_unflagged t)
started_keeps [] volume h = h
started_keeps (p ∷ ps) volume h = kept_by p ps volume (nat_eq p.0 volume) (is_unflagged p) refl refl h (started_keeps ps volume)

ends_open : (me : Node) (h : NodeHost) (clock count : ℕ) (f : Begun NodeState) (fall : Fall) (o : Outcome) → Leads me f → AreOpen me (volumes_of (ends (node_kind me) h clock count f fall o).host.state) (ends (node_kind me) h clock count f fall o).lines
unfolding node_start_row file_start
ends_open me h clock count f fall comes_up leads =
    let t : Table Stored = volumes_of f.state in
    let u : Table Stored = filter is_unflagged t in
    leads u (lines.Restart me (f.state.file.lasting.boot + 1) ∷ (vanished_lines me t ++ (risen_turn me clock count).lines)) (started_keeps t) (tt, open_on me u (vanished_lines me t) (risen_turn me clock count).lines (vanished_open me u t) (still_open me u (risen_turn me clock count).lines (owes_still me (risen_turn me clock count).backs.lists.owed)))
ends_open me h clock count f fall fails_early leads = (tt, tt)
ends_open me h clock count f fall fails_midway leads = leads (volumes_of f.state) (lines.Fault me ∷ []) (λ volume h. h) (tt, tt)
ends_open me h clock count f fall is_full leads = leads (volumes_of f.state) (lines.Full me ∷ []) (λ volume h. h) (tt, tt)

pub restart_open : (me : Node) (h : NodeHost) (clock count : ℕ) (after : Bool) (o : Outcome) (fall : Fall) → AreOpen me (volumes_of (restarted (node_kind me) h clock count after o fall).host.state) (restarted (node_kind me) h clock count after o fall).lines
restart_open me h clock count after o fall =
    let f : Begun NodeState = begun_from (node_kind me) h.state after fall in ends_open me h clock count f fall (without_boot_record (can_start f.state.file) o) (begun_leads me h.state after fall)
