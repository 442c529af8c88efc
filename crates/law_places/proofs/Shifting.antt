-- What the records of a server tell of its volumes, and what they make of them.
use Rattle.std.proofs.Common.{◌≡◌, ℕ, ◌+◌, ◌≤◌, Bool, true, false, cond, List, [], ◌∷◌, ◌++◌, Option, Some, None, is_some, refl, sym, ap, subst, ◌∙◌, nat_eq, nat_lt, eq-eqb, eqb-true, arith, if◌then◌else◌}
use Rattle.std.specs.Prelude.{⊤, ◌&&◌, not, length, filter}
use Rattle.afs_num.specs.Nodes.{same_node}
use Rattle.afs_num.specs.declared.histories.Version.{Version}
use Rattle.afs_num.specs.declared.records.RecordBody.{RecordBody}
use Rattle.afs_num.specs.declared.records.RecordBody.TheVariants as bodies
use Rattle.afs_num.specs.declared.records.RecordHead.{RecordHead}
use Rattle.afs_num.specs.declared.types.Node.{Node}
use Rattle.spec_history.specs.declared.lines.Line.{Line}
use Rattle.spec_history.specs.declared.lines.Line.TheVariants as lines
use Rattle.spec_ideal.specs.SetUp.{first_versions}
use Rattle.spec_ideal.specs.Tables.{get, set, unset, AscendsFrom, Table}
use Rattle.spec_ideal.proofs.Tables.{ascends_lower, ascends_set, ascends_unset, get_below, get_set, get_unset}
use Rattle.spec_ideal.specs.VnodeMaps.{most_vnodes}
use Rattle.spec_records.specs.Sound.{is_sound}
use Rattle.spec_records.specs.Durable.{is_flagged, with_stamp, Durable, Stored}
use Rattle.spec_dumps.specs.Clones.{cloned, recloned}
use Rattle.spec_dumps.specs.Dumps.{Dump}
use Rattle.spec_dumps.specs.Fields.{FieldTaken, took, cut_at, bad_at}
use Rattle.spec_dumps.specs.Restores.{allowed_with, restored_from, finished_by, made_or, restored_vnodes, stored_with, Timed}
use Rattle.spec_dumps.specs.Streams.{dump_at}
use Rattle.spec_fold.specs.Deeds.{can_take, clone_made, clone_put, created, done_by, flagged, has_volume, has_volume_room, on_stored, or_as_was, with_release}
use Rattle.spec_fold.specs.Effects.{create_lines, effect_by, flag_lines, lines_told_of, made_lines, released_lines, turn_lines, vanish_lines, vanished_lines, version_lines, whole_lines}
use Rattle.spec_rows.specs.ServerRow.{is_unflagged}
use Rattle.spec_model.proofs.Basics.{both, same_node-refl}
use Rattle.law_places.specs.Accepting.{is_in_service, has_in_service, accepts_behind_lines}
use Rattle.law_places.specs.Standing.{AreGoodAt}
use Rattle.law_places.proofs.Turning.{all_on, good_on, here_turned, is_own, still_good, still_turned, stills_own, turned_on, AreOwn, AreStill, StandAt}

-- ---- one volume

-- Lines that turn this volume alone, and none but this server's; and they lead from whether it was in service to whether it is.
pub record TurnsOne (me : Node) (id : ℕ) (was is : Bool) (ls : List Line) : Type 0 where
  pub own : AreOwn me ls
  pub off : (other : ℕ) (b : Bool) → nat_eq id other ≡ false → accepts_behind_lines other me b ls ≡ b
  pub on : accepts_behind_lines id me was ls ≡ is
  pub good_off : (other : ℕ) (b : Bool) → nat_eq id other ≡ false → StandAt other me b ls
  pub good : StandAt id me was ls

-- Lines that turn nothing, and stand well whatever is in service.
pub record Passes (ls : List Line) : Type 0 where
  pub own : (me : Node) → AreOwn me ls
  pub turns : (id : ℕ) (me : Node) (was : Bool) → accepts_behind_lines id me was ls ≡ was
  pub good : (id : ℕ) (me : Node) (was : Bool) → StandAt id me was ls

still_passes : (ls : List Line) → AreStill ls → Passes ls
still_passes ls h = record { own = λ me. stills_own me ls h; turns = λ id me was. still_turned id me was ls h; good = λ id me was. still_good id me was ls h }

pass_turns : (me : Node) (id : ℕ) (was : Bool) (ls : List Line) → Passes ls → TurnsOne me id was was ls
pass_turns me id was ls h = record { own = h.own me; off = λ other b apart. h.turns other me b; on = h.turns id me was; good_off = λ other b apart. h.good other me b; good = h.good id me was }

none_turns : (me : Node) (id : ℕ) (was : Bool) → TurnsOne me id was was []
none_turns me id was = pass_turns me id was [] (still_passes [] refl)

behind_turns : (me : Node) (id : ℕ) (was is : Bool) (front ls : List Line) → Passes front → TurnsOne me id was is ls → TurnsOne me id was is (front ++ ls)
behind_turns me id was is front ls h t = record {
  own = all_on (is_own me) front ls (h.own me) t.own;
  off = λ other b apart. turned_on other me b front ls ∙ (ap (λ (x : Bool). accepts_behind_lines other me x ls) (h.turns other me b) ∙ t.off other b apart);
  on = turned_on id me was front ls ∙ (ap (λ (x : Bool). accepts_behind_lines id me x ls) (h.turns id me was) ∙ t.on);
  good_off = λ other b apart under. good_on other me b under front ls (h.good other me b under) (subst (λ (x : Bool). StandAt other me x ls) (sym (h.turns other me b)) (t.good_off other b apart));
  good = λ under. good_on id me was under front ls (h.good id me was under) (subst (λ (x : Bool). StandAt id me x ls) (sym (h.turns id me was)) t.good);
}

-- of another volume the line doesn't speak
off_line : (id other : ℕ) (me : Node) (x : Bool) → nat_eq id other ≡ false → (nat_eq id other && same_node me me) ≡ true → x ≡ true
off_line id other me x apart e = let z : true ≡ false = sym (both (nat_eq id other) (same_node me me) e).0 ∙ apart in absurd cc

off_line_not : (id other : ℕ) (me : Node) (x : Bool) → nat_eq id other ≡ false → (nat_eq id other && same_node me me) ≡ true → x ≡ false
off_line_not id other me x apart e = let z : true ≡ false = sym (both (nat_eq id other) (same_node me me) e).0 ∙ apart in absurd cc

enable_turns : (me : Node) (id : ℕ) → TurnsOne me id false true (lines.Enable id me ∷ [])
enable_turns me id = record {
  own = rw (same_node-refl me) refl;
  off = λ other b apart. here_turned id other me true b false apart;
  on = here_turned id id me true false true (eq-eqb id id refl);
  good_off = λ other b apart under. (off_line_not id other me b apart, tt);
  good = λ under. ((λ e. refl), tt);
}

fence_turns : (me : Node) (id : ℕ) → TurnsOne me id true false (lines.Fence id me ∷ [])
fence_turns me id = record {
  own = rw (same_node-refl me) refl;
  off = λ other b apart. here_turned id other me false b false apart;
  on = here_turned id id me false true true (eq-eqb id id refl);
  good_off = λ other b apart under. (off_line id other me b apart, tt);
  good = λ under. ((λ e. refl), tt);
}

vanish_turns : (me : Node) (id : ℕ) (was : Bool) → TurnsOne me id was false (lines.Vanish id me ∷ [])
vanish_turns me id was = record {
  own = rw (same_node-refl me) refl;
  off = λ other b apart. here_turned id other me false b false apart;
  on = here_turned id id me false was true (eq-eqb id id refl);
  good_off = λ other b apart under. (tt, tt);
  good = λ under. (tt, tt);
}

-- ---- the lines of records

-- versions that are no change's
versions_own : (me : Node) (vs : List Version) → AreOwn me (version_lines vs)
versions_own me [] = refl
versions_own me (v ∷ vs) = versions_own me vs

versions_turned : (id : ℕ) (me : Node) (was : Bool) (vs : List Version) → accepts_behind_lines id me was (version_lines vs) ≡ was
versions_turned id me was [] = refl
versions_turned id me was (v ∷ vs) = versions_turned id me was vs

versions_good : (id : ℕ) (me : Node) (was : Bool) (vs : List Version) → AreGoodAt id me was false (version_lines vs)
versions_good id me was [] = tt
versions_good id me was (v ∷ vs) = ((λ e. absurd cc), versions_good id me was vs)

pub whole_passes : (server : Node) (id : ℕ) (s : Stored) → Passes (whole_lines server id s)
whole_passes server id s = let vs = first_versions id s.volume.vnodes in record {
  own = λ me. versions_own me vs;
  turns = λ k me was. versions_turned k me was vs;
  good = λ k me was under. (tt, versions_good k me was vs);
}

create_by : (me : Node) (id : ℕ) (s : Stored) (b : Bool) → TurnsOne me id false b (if b then whole_lines me id s ++ lines.Enable id me ∷ [] else [])
create_by me id s true = behind_turns me id false true (whole_lines me id s) (lines.Enable id me ∷ []) (whole_passes me id s) (enable_turns me id)
create_by me id s false = none_turns me id false

create_turns : (me : Node) (id : ℕ) (s : Stored) → TurnsOne me id false (is_in_service (Some s)) (create_lines me id s)
create_turns me id s = create_by me id s (nat_eq s.volume.kind 0 && nat_eq s.volume.flags 0)

vanish_by : (me : Node) (id : ℕ) (b f : Bool) → TurnsOne me id (b && f) false (if b then lines.Vanish id me ∷ [] else [])
vanish_by me id true f = vanish_turns me id f
vanish_by me id false f = none_turns me id false

deletes_turns : (me : Node) (id : ℕ) (o : Option Stored) → TurnsOne me id (is_in_service o) false (lines_told_of (vanish_lines me id) o)
deletes_turns me id None = none_turns me id false
deletes_turns me id (Some s) = vanish_by me id (nat_eq s.volume.kind 0) (nat_eq s.volume.flags 0)

turn_by : (me : Node) (id : ℕ) (was is : Bool) → TurnsOne me id was is (turn_lines me id was is)
turn_by me id true false = fence_turns me id
turn_by me id false true = enable_turns me id
turn_by me id true true = none_turns me id true
turn_by me id false false = none_turns me id false

made_by : (me : Node) (id : ℕ) (s : Stored) (b : Bool) → Passes (if b then whole_lines me id s else [])
made_by me id s true = whole_passes me id s
made_by me id s false = still_passes [] refl

released_by : (id : ℕ) (s : Stored) (me : Node) (b : Bool) → AreStill (if b then lines.Released s.volume.family id s.volume.release me ∷ [] else [])
released_by id s me true = refl
released_by id s me false = refl

told_if : (b : Bool) (ls : List Line) → AreStill ls → AreStill (if b then ls else [])
told_if true ls h = h
told_if false ls h = refl

flags_by : (me : Node) (id flags : ℕ) (s : Stored) (b : Bool) →
    TurnsOne me id (b && nat_eq s.volume.flags 0) (b && nat_eq flags 0) (if b then made_lines me id flags s ++ turn_lines me id (nat_eq s.volume.flags 0) (nat_eq flags 0) else (if nat_eq flags 0 then released_lines me id s else []))
flags_by me id flags s true =
    behind_turns me id (nat_eq s.volume.flags 0) (nat_eq flags 0) (made_lines me id flags s) (turn_lines me id (nat_eq s.volume.flags 0) (nat_eq flags 0)) (made_by me id s (nat_eq flags 0 && s.is_new)) (turn_by me id (nat_eq s.volume.flags 0) (nat_eq flags 0))
flags_by me id flags s false = pass_turns me id false (if nat_eq flags 0 then released_lines me id s else []) (still_passes (if nat_eq flags 0 then released_lines me id s else []) (told_if (nat_eq flags 0) (released_lines me id s) (released_by id s me (nat_eq s.volume.kind 1))))

flags_turns : (me : Node) (id flags : ℕ) (s : Stored) → TurnsOne me id (is_in_service (Some s)) (is_in_service (Some (flagged flags s))) (flag_lines me id flags s)
flags_turns me id flags s = flags_by me id flags s (nat_eq s.volume.kind 0)

-- ---- all volumes of a server

-- The lines are the server's own, and lead from what was in service there to what is.
pub record Shifts (me : Node) (a b : Table Stored) (ls : List Line) : Type 0 where
  pub own : AreOwn me ls
  pub turns : (id : ℕ) → accepts_behind_lines id me (has_in_service a id) ls ≡ has_in_service b id
  pub good : (id : ℕ) → StandAt id me (has_in_service a id) ls

abbrev pub Same : Table Stored → Table Stored → Type 0
Same a b = (id : ℕ) → has_in_service a id ≡ has_in_service b id

pub still_shifts : (me : Node) (a b : Table Stored) (ls : List Line) → AreStill ls → Same a b → Shifts me a b ls
still_shifts me a b ls h same = record { own = stills_own me ls h; turns = λ id. still_turned id me (has_in_service a id) ls h ∙ same id; good = λ id. still_good id me (has_in_service a id) ls h }

pub then_shifts : (me : Node) (a b c : Table Stored) (xs ys : List Line) → Shifts me a b xs → Shifts me b c ys → Shifts me a c (xs ++ ys)
then_shifts me a b c xs ys h k = record {
  own = all_on (is_own me) xs ys h.own k.own;
  turns = λ id. turned_on id me (has_in_service a id) xs ys ∙ (ap (λ (x : Bool). accepts_behind_lines id me x ys) (h.turns id) ∙ k.turns id);
  good = λ id under. good_on id me (has_in_service a id) under xs ys (h.good id under) (subst (λ (x : Bool). StandAt id me x ys) (sym (h.turns id)) (k.good id));
}

one_by : (me : Node) (id : ℕ) (a : Table Stored) (is : Bool) (ls : List Line) (k : ℕ) (e : Bool) → nat_eq id k ≡ e → TurnsOne me id (has_in_service a id) is ls → accepts_behind_lines k me (has_in_service a k) ls ≡ cond e is (has_in_service a k)
one_by me id a is ls k true e h = subst (λ (j : ℕ). accepts_behind_lines j me (has_in_service a j) ls ≡ is) (eqb-true id k e) h.on
one_by me id a is ls k false e h = h.off k (has_in_service a k) e

good_by : (me : Node) (id : ℕ) (a : Table Stored) (is : Bool) (ls : List Line) (k : ℕ) (e : Bool) → nat_eq id k ≡ e → TurnsOne me id (has_in_service a id) is ls → StandAt k me (has_in_service a k) ls
good_by me id a is ls k true e h = subst (λ (j : ℕ). StandAt j me (has_in_service a j) ls) (eqb-true id k e) h.good
good_by me id a is ls k false e h = h.good_off k (has_in_service a k) e

one_shifts : (me : Node) (id : ℕ) (a b : Table Stored) (is : Bool) (ls : List Line) → TurnsOne me id (has_in_service a id) is ls → ((k : ℕ) → has_in_service b k ≡ cond (nat_eq id k) is (has_in_service a k)) → Shifts me a b ls
one_shifts me id a b is ls h all = record { own = h.own; turns = λ k. one_by me id a is ls k (nat_eq id k) refl h ∙ sym (all k); good = λ k. good_by me id a is ls k (nat_eq id k) refl h }

-- ---- tables

pick : (b : Bool) (x y : Option Stored) → is_in_service (if b then x else y) ≡ cond b (is_in_service x) (is_in_service y)
pick true x y = refl
pick false x y = refl

pub set_serves : (id k : ℕ) (x : Stored) (t : Table Stored) → has_in_service (set id x t) k ≡ cond (nat_eq id k) (is_in_service (Some x)) (has_in_service t k)
set_serves id k x t = ap is_in_service (get_set k id x t) ∙ pick (nat_eq id k) (Some x) (get k t)

unset_serves : (id k : ℕ) (t : Table Stored) → has_in_service (unset id t) k ≡ cond (nat_eq id k) false (has_in_service t k)
unset_serves id k t = ap is_in_service (get_unset k id t) ∙ pick (nat_eq id k) None (get k t)

same_by : (id k : ℕ) (x : Bool) (t : Table Stored) (e : Bool) → nat_eq id k ≡ e → x ≡ has_in_service t id → has_in_service t k ≡ cond e x (has_in_service t k)
same_by id k x t true e h = ap (has_in_service t) (sym (eqb-true id k e)) ∙ sym h
same_by id k x t false e h = refl

-- a volume in the place of one that was in service just where it is
pub set_same : (id : ℕ) (x : Stored) (t : Table Stored) → is_in_service (Some x) ≡ has_in_service t id → Same t (set id x t)
set_same id x t h k = same_by id k (is_in_service (Some x)) t (nat_eq id k) refl h ∙ sym (set_serves id k x t)

none_serves : (o : Option Stored) → is_some o ≡ false → is_in_service o ≡ false
none_serves None h = refl
none_serves (Some s) h = absurd cc

-- ---- a dump that is restored leaves kind and flags

allowed_same : (s x : Stored) (b : Bool) (n : ℕ) → is_in_service (Some x) ≡ is_in_service (Some s) → is_in_service (Some (or_as_was s (made_or n (if b then Some x else None)))) ≡ is_in_service (Some s)
allowed_same s x true n h = h
allowed_same s x false n h = refl

with_same : (id n : ℕ) (s : Stored) (d : Dump) (o : Option (Table Timed)) → is_in_service (Some (or_as_was s (made_or n (allowed_with id s d o)))) ≡ is_in_service (Some s)
with_same id n s d None = refl
with_same id n s d (Some t) = let x : Stored = stored_with id s d t in allowed_same s x (not (nat_lt most_vnodes (length x.volume.vnodes)) && is_sound x.volume) n refl

taken_same : (id : ℕ) (s : Stored) (bytes : List ℕ) (t : FieldTaken Dump) → is_in_service (Some (or_as_was s (finished_by id s bytes t))) ≡ is_in_service (Some s)
taken_same id s bytes (took d rest) = with_same id _ s d (restored_vnodes d.live d.images s)
taken_same id s bytes (cut_at left) = refl
taken_same id s bytes (bad_at left) = refl

finished_same : (id : ℕ) (s : Stored) (bytes : List ℕ) → is_in_service (Some (or_as_was s (restored_from id s bytes))) ≡ is_in_service (Some s)
unfolding restored_from
finished_same id s bytes = taken_same id s bytes (dump_at bytes)

-- ---- what a volume server writes

-- A clone that isn't there yet is no read-write volume.
abbrev pub IsCopy : Durable → RecordBody → Type 0
IsCopy d (bodies.Clone source id name kind release) = has_volume id d ≡ false → nat_eq kind 0 ≡ false
IsCopy d body = ⊤

create_shifts : (me : Node) (id : ℕ) (x : Stored) (t : Table Stored) → is_some (get id t) ≡ false → Shifts me t (set id x t) (create_lines me id x)
create_shifts me id x t none =
    one_shifts me id t (set id x t) (is_in_service (Some x)) (create_lines me id x)
    (subst (λ (was : Bool). TurnsOne me id was (is_in_service (Some x)) (create_lines me id x)) (sym (none_serves (get id t) none)) (create_turns me id x)) (λ k. set_serves id k x t)

put_shifts : (me : Node) (source id : ℕ) (name : List ℕ) (kind release : ℕ) (s : Stored) (o : Option Stored) (d : Durable) → get source d.volumes ≡ Some s → get id d.volumes ≡ o → (is_some o ≡ false → nat_eq kind 0 ≡ false) →
    Shifts me d.volumes (clone_put source id name kind release s o d).volumes []
put_shifts me source id name kind release s None d there is copy =
    let t : Table Stored = d.volumes in
    let u : Table Stored = set source (with_release release s) t in
    let one : Same t u = set_same source (with_release release s) t (sym (ap is_in_service there)) in
    let kept : has_in_service t id ≡ false = ap is_in_service is in
    let new : is_in_service (Some (cloned name kind release s)) ≡ false = ap (λ (b : Bool). b && true) (copy refl) in
    let two : Same u (set id (cloned name kind release s) u) = set_same id (cloned name kind release s) u (new ∙ (sym kept ∙ one id)) in
    still_shifts me t _ [] refl (λ k. one k ∙ two k)
put_shifts me source id name kind release s (Some old) d there is copy =
    let t : Table Stored = d.volumes in
    let u : Table Stored = set source (with_release release s) t in
    let one : Same t u = set_same source (with_release release s) t (sym (ap is_in_service there)) in
    let two : Same u (set id (recloned old release s) u) = set_same id (recloned old release s) u (sym (ap is_in_service is) ∙ one id) in
    still_shifts me t _ [] refl (λ k. one k ∙ two k)

clone_shifts : (me : Node) (source id : ℕ) (name : List ℕ) (kind release : ℕ) (o : Option Stored) (d : Durable) → get source d.volumes ≡ o → (is_some (get id d.volumes) ≡ false → nat_eq kind 0 ≡ false) →
    Shifts me d.volumes (clone_made source id name kind release o d).volumes []
clone_shifts me source id name kind release None d there copy = still_shifts me d.volumes d.volumes [] refl (λ k. refl)
clone_shifts me source id name kind release (Some s) d there copy = put_shifts me source id name kind release s (get id d.volumes) d there refl copy

restore_shifts : (me : Node) (id : ℕ) (dump : List ℕ) (o : Option Stored) (d : Durable) → get id d.volumes ≡ o → Shifts me d.volumes (on_stored id (λ s. or_as_was s (restored_from id s dump)) o d).volumes []
restore_shifts me id dump None d is = still_shifts me d.volumes d.volumes [] refl (λ k. refl)
restore_shifts me id dump (Some s) d is =
    still_shifts me d.volumes _ [] refl (set_same id (or_as_was s (restored_from id s dump)) d.volumes (finished_same id s dump ∙ sym (ap is_in_service is)))

flags_shifts : (me : Node) (id flags : ℕ) (o : Option Stored) (d : Durable) → get id d.volumes ≡ o → Shifts me d.volumes (on_stored id (flagged flags) o d).volumes (lines_told_of (flag_lines me id flags) o)
flags_shifts me id flags None d is = still_shifts me d.volumes d.volumes [] refl (λ k. refl)
flags_shifts me id flags (Some s) d is =
    one_shifts me id d.volumes (set id (flagged flags s) d.volumes) (is_in_service (Some (flagged flags s))) (flag_lines me id flags s)
    (subst (λ (was : Bool). TurnsOne me id was (is_in_service (Some (flagged flags s))) (flag_lines me id flags s)) (sym (ap is_in_service is)) (flags_turns me id flags s)) (λ k. set_serves id k (flagged flags s) d.volumes)

is_off : (b : Bool) → not b ≡ true → b ≡ false
is_off true h = absurd cc
is_off false h = refl

pub deed_shifts : (me : Node) (h : RecordHead) (body : RecordBody) (d : Durable) → can_take body d ≡ true → IsCopy d body → Shifts me d.volumes (done_by body d).volumes (effect_by me h body d)
deed_shifts me h (bodies.First volumes) d can copy = absurd cc
deed_shifts me h (bodies.Change id counter unique vnodes removed) d can copy = absurd cc
deed_shifts me h (bodies.Boot boot) d can copy = absurd cc
deed_shifts me h (bodies.Create id family name kind flags quota is_new) d can copy =
    create_shifts me id (created family name kind flags quota is_new) d.volumes (is_off (has_volume id d) (both (not (has_volume id d)) (has_volume_room d) can).0)
deed_shifts me h (bodies.Delete id) d can copy =
    one_shifts me id d.volumes (unset id d.volumes) false (lines_told_of (vanish_lines me id) (get id d.volumes)) (deletes_turns me id (get id d.volumes)) (λ k. unset_serves id k d.volumes)
deed_shifts me h (bodies.Clone source id name kind release) d can copy = clone_shifts me source id name kind release (get source d.volumes) d refl copy
deed_shifts me h (bodies.Restore id dump) d can copy = restore_shifts me id dump (get id d.volumes) d refl
deed_shifts me h (bodies.Flags id flags) d can copy = flags_shifts me id flags (get id d.volumes) d refl
deed_shifts me h (bodies.Forward id to) d can copy = still_shifts me d.volumes d.volumes [] refl (λ k. refl)
deed_shifts me h bodies.Stamp d can copy = still_shifts me d.volumes d.volumes [] refl (λ k. refl)

pub stamp_volumes : (h : RecordHead) (d : Durable) → (with_stamp h d).volumes ≡ d.volumes
stamp_volumes h d = by (nat_eq h.stamp 0)
  where
    by : (b : Bool) → (if b then d else record d { stamps = set h.family h.stamp d.stamps }).volumes ≡ d.volumes
    by true = refl
    by false = refl

-- ---- the volumes stand by ascending numbers, whatever is written

put_ascends : (source id : ℕ) (name : List ℕ) (kind release : ℕ) (s : Stored) (o : Option Stored) (d : Durable) → AscendsFrom 0 d.volumes → AscendsFrom 0 (clone_put source id name kind release s o d).volumes
put_ascends source id name kind release s None d up = ascends_set 0 id _ _ (omega arith) (ascends_set 0 source _ _ (omega arith) up)
put_ascends source id name kind release s (Some old) d up = ascends_set 0 id _ _ (omega arith) (ascends_set 0 source _ _ (omega arith) up)

clone_ascends : (source id : ℕ) (name : List ℕ) (kind release : ℕ) (o : Option Stored) (d : Durable) → AscendsFrom 0 d.volumes → AscendsFrom 0 (clone_made source id name kind release o d).volumes
clone_ascends source id name kind release None d up = up
clone_ascends source id name kind release (Some s) d up = put_ascends source id name kind release s (get id d.volumes) d up

stored_ascends : (id : ℕ) (f : Stored → Stored) (o : Option Stored) (d : Durable) → AscendsFrom 0 d.volumes → AscendsFrom 0 (on_stored id f o d).volumes
stored_ascends id f None d up = up
stored_ascends id f (Some s) d up = ascends_set 0 id _ _ (omega arith) up

pub deed_ascends : (body : RecordBody) (d : Durable) → AscendsFrom 0 d.volumes → AscendsFrom 0 (done_by body d).volumes
deed_ascends (bodies.First volumes) d up = up
deed_ascends (bodies.Change id counter unique vnodes removed) d up = up
deed_ascends (bodies.Boot boot) d up = up
deed_ascends (bodies.Create id family name kind flags quota is_new) d up = ascends_set 0 id _ _ (omega arith) up
deed_ascends (bodies.Delete id) d up = ascends_unset 0 id _ up
deed_ascends (bodies.Clone source id name kind release) d up = clone_ascends source id name kind release (get source d.volumes) d up
deed_ascends (bodies.Restore id dump) d up = stored_ascends id _ (get id d.volumes) d up
deed_ascends (bodies.Flags id flags) d up = stored_ascends id _ (get id d.volumes) d up
deed_ascends (bodies.Forward id to) d up = up
deed_ascends bodies.Stamp d up = up

-- ---- a start

kept_ascends : (m : ℕ) (t : Table Stored) → AscendsFrom m t → AscendsFrom m (filter is_unflagged t)
kept_ascends m [] up = tt
kept_ascends m (p ∷ ps) up = by (is_unflagged p) (kept_ascends (p.0 + 1) ps up.1)
  where
    by : (b : Bool) → AscendsFrom (p.0 + 1) (filter is_unflagged ps) → AscendsFrom m (if b then p ∷ filter is_unflagged ps else filter is_unflagged ps)
    by true rest = (up.0, rest)
    by false rest = ascends_lower m (p.0 + 1) (filter is_unflagged ps) (omega (arith, up.0)) rest

pub started_ascends : (t : Table Stored) → AscendsFrom 0 t → AscendsFrom 0 (filter is_unflagged t)
started_ascends t up = kept_ascends 0 t up

vanish_one : (me : Node) (p : ℕ × Stored) (b : Bool) → TurnsOne me p.0 (is_in_service (Some p.1)) (if b then false else is_in_service (Some p.1)) (if b then vanish_lines me p.0 p.1 else [])
vanish_one me p true = vanish_by me p.0 (nat_eq p.1.volume.kind 0) (nat_eq p.1.volume.flags 0)
vanish_one me p false = none_turns me p.0 _

vanished_own : (me : Node) (t : Table Stored) → AreOwn me (vanished_lines me t)
vanished_own me [] = refl
vanished_own me (p ∷ ps) = all_on (is_own me) (if is_flagged p.1 then vanish_lines me p.0 p.1 else []) (vanished_lines me ps) (vanish_one me p (is_flagged p.1)).own (vanished_own me ps)

-- none of a number below
number_off : (n k : ℕ) → k + 1 ≤ n → nat_eq n k ≡ false
number_off n k le = by (nat_eq n k) refl
  where
    by : (e : Bool) → nat_eq n k ≡ e → e ≡ false
    by true e = let same : n ≡ k = eqb-true n k e in (let no : k + 1 ≤ k = subst (λ (x : ℕ). k + 1 ≤ x) same le in absurd (omega (arith, no)))
    by false e = refl

vanished_off : (me : Node) (k : ℕ) (b : Bool) (m : ℕ) (t : Table Stored) → k + 1 ≤ m → AscendsFrom m t → accepts_behind_lines k me b (vanished_lines me t) ≡ b
vanished_off me k b m [] le up = refl
vanished_off me k b m (p ∷ ps) le up =
    let first = (if is_flagged p.1 then vanish_lines me p.0 p.1 else []) in
    turned_on k me b first (vanished_lines me ps)
    ∙ (ap (λ (x : Bool). accepts_behind_lines k me x (vanished_lines me ps)) ((vanish_one me p (is_flagged p.1)).off k b (number_off p.0 k (omega (arith, le, up.0)))) ∙ vanished_off me k b (p.0 + 1) ps (omega (arith, le, up.0)) up.1)

start_here : (me : Node) (p : ℕ × Stored) (ps : Table Stored) (k : ℕ) (f : Bool) → is_flagged p.1 ≡ f → nat_eq p.0 k ≡ true → AscendsFrom (p.0 + 1) ps →
    accepts_behind_lines k me (is_in_service (Some p.1)) ((if f then vanish_lines me p.0 p.1 else []) ++ vanished_lines me ps) ≡ has_in_service (if not f then p ∷ filter is_unflagged ps else filter is_unflagged ps) k
start_here me p ps k f is e up =
    let same : p.0 ≡ k = eqb-true p.0 k e in
    let one = subst (λ (j : ℕ). accepts_behind_lines j me (is_in_service (Some p.1)) (if f then vanish_lines me p.0 p.1 else []) ≡ (if f then false else is_in_service (Some p.1))) same (vanish_one me p f).on in
    turned_on k me (is_in_service (Some p.1)) (if f then vanish_lines me p.0 p.1 else []) (vanished_lines me ps)
    ∙ (ap (λ (x : Bool). accepts_behind_lines k me x (vanished_lines me ps)) one
    ∙ (vanished_off me k _ (p.0 + 1) ps (omega (arith, same)) up
    ∙ by f))
  where
    by : (b : Bool) → (if b then false else is_in_service (Some p.1)) ≡ has_in_service (if not b then p ∷ filter is_unflagged ps else filter is_unflagged ps) k
    by true = sym (ap is_in_service (get_below (p.0 + 1) k (filter is_unflagged ps) (let same : p.0 ≡ k = eqb-true p.0 k e in omega (arith, same)) (kept_ascends (p.0 + 1) ps up)))
    by false = rw e refl

start_there : (me : Node) (p : ℕ × Stored) (ps : Table Stored) (k : ℕ) (f : Bool) → nat_eq p.0 k ≡ false → accepts_behind_lines k me (has_in_service ps k) (vanished_lines me ps) ≡ has_in_service (filter is_unflagged ps) k →
    accepts_behind_lines k me (has_in_service ps k) ((if f then vanish_lines me p.0 p.1 else []) ++ vanished_lines me ps) ≡ has_in_service (if not f then p ∷ filter is_unflagged ps else filter is_unflagged ps) k
start_there me p ps k f e later =
    turned_on k me (has_in_service ps k) (if f then vanish_lines me p.0 p.1 else []) (vanished_lines me ps)
    ∙ (ap (λ (x : Bool). accepts_behind_lines k me x (vanished_lines me ps)) ((vanish_one me p f).off k (has_in_service ps k) e) ∙ (later ∙ by f))
  where
    by : (b : Bool) → has_in_service (filter is_unflagged ps) k ≡ has_in_service (if not b then p ∷ filter is_unflagged ps else filter is_unflagged ps) k
    by true = refl
    by false = rw e refl

turns_by : (me : Node) (p : ℕ × Stored) (ps : Table Stored) (k : ℕ) (e : Bool) → nat_eq p.0 k ≡ e → AscendsFrom (p.0 + 1) ps → accepts_behind_lines k me (has_in_service ps k) (vanished_lines me ps) ≡ has_in_service (filter is_unflagged ps) k →
    accepts_behind_lines k me (is_in_service (if e then Some p.1 else get k ps)) (vanished_lines me (p ∷ ps)) ≡ has_in_service (filter is_unflagged (p ∷ ps)) k
turns_by me p ps k true e up later = start_here me p ps k (is_flagged p.1) refl e up
turns_by me p ps k false e up later = start_there me p ps k (is_flagged p.1) e later

start_turns : (me : Node) (k m : ℕ) (t : Table Stored) → AscendsFrom m t → accepts_behind_lines k me (has_in_service t k) (vanished_lines me t) ≡ has_in_service (filter is_unflagged t) k
start_turns me k m [] up = refl
start_turns me k m (p ∷ ps) up = turns_by me p ps k (nat_eq p.0 k) refl up.1 (start_turns me k (p.0 + 1) ps up.1)

vanish_good : (me : Node) (k : ℕ) (b : Bool) (p : ℕ × Stored) (f : Bool) → StandAt k me b (if f then vanish_lines me p.0 p.1 else [])
vanish_good me k b p true = by (nat_eq p.1.volume.kind 0)
  where
    by : (t : Bool) → StandAt k me b (if t then lines.Vanish p.0 me ∷ [] else [])
    by true under = (tt, tt)
    by false under = tt
vanish_good me k b p false = λ under. tt

vanished_good : (me : Node) (k : ℕ) (b : Bool) (t : Table Stored) → StandAt k me b (vanished_lines me t)
vanished_good me k b [] under = tt
vanished_good me k b (p ∷ ps) under = good_on k me b under (if is_flagged p.1 then vanish_lines me p.0 p.1 else []) (vanished_lines me ps) (vanish_good me k b p (is_flagged p.1) under) (vanished_good me k (accepts_behind_lines k me b (if is_flagged p.1 then vanish_lines me p.0 p.1 else [])) ps)

-- those with a flag vanish, and were out of service
pub start_shifts : (me : Node) (t : Table Stored) → AscendsFrom 0 t → Shifts me t (filter is_unflagged t) (vanished_lines me t)
start_shifts me t up = record { own = vanished_own me t; turns = λ k. start_turns me k 0 t up; good = λ k. vanished_good me k (has_in_service t k) t }
