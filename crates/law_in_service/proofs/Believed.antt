-- What servers tell a recovery of the volume in service goes on being so while it holds the lock, and what they tell now is so.
use Rattle.std.proofs.Common.{◌≡◌, ◌⊎◌, ◌≤◌, ◌<◌, ◌+◌, inl, inr, ℕ, zero, suc, Bool, true, false, cond, List, [], ◌∷◌, Option, Some, None, is_some, refl, sym, ap, subst, ◌∙◌, arith, eqb-true, eq-eqb, nat_eq}
use Rattle.std.proofs.Math.Nat.{le_trans}
use Rattle.std.specs.Prelude.{⊤, ◌&&◌, ◌||◌, filter, map}
use Rattle.std.specs.List.{list_any}
use Rattle.afs_num.specs.declared.messages.Call.{Call}
use Rattle.afs_num.specs.declared.messages.Call.TheVariants as ask
use Rattle.afs_num.specs.declared.messages.Carried.{Carried}
use Rattle.afs_num.specs.declared.messages.Carried.TheVariants as carried
use Rattle.afs_num.specs.declared.messages.Message.{Message}
use Rattle.afs_num.specs.declared.messages.Received.TheVariants.{Whole}
use Rattle.afs_num.specs.declared.messages.Reply.{Reply}
use Rattle.afs_num.specs.declared.messages.Reply.TheVariants as tell
use Rattle.afs_num.specs.declared.records.RecordBody.{RecordBody}
use Rattle.afs_num.specs.declared.records.RecordBody.TheVariants as bodies
use Rattle.afs_num.specs.declared.types.Head.{Head}
use Rattle.afs_num.specs.declared.types.Node.TheVariants.{Admin, Server}
use Rattle.afs_num.specs.declared.volume_calls.ListedVolume.{ListedVolume}
use Rattle.afs_num.specs.declared.volume_calls.VolCall.{VolCall}
use Rattle.afs_num.specs.declared.volume_calls.VolCall.TheVariants as calls
use Rattle.afs_num.specs.declared.volume_calls.VolReply.TheVariants as volumes
use Rattle.spec_history.specs.declared.scripts.Script.{Script}
use Rattle.spec_ideal.specs.Tables.{get, AscendsFrom, Table}
use Rattle.spec_ideal.specs.Volumes.{has_bit}
use Rattle.spec_ideal.proofs.Tables.{get_set}
use Rattle.spec_records.specs.Durable.{stamp_of, Durable, Stored}
use Rattle.spec_fold.specs.Deeds.{done_by, flagged, on_stored}
use Rattle.spec_rows.specs.Hosts.{at_rest, in_boot, in_step, Fall}
use Rattle.spec_rows.specs.ServerRow.{reply_head}
use Rattle.spec_rows.specs.States.{ServerState}
use Rattle.spec_adminrows.specs.Acts.{asks_at}
use Rattle.spec_adminrows.specs.Asks.{at_server, family, offline}
use Rattle.spec_adminrows.specs.declared.places.Cause.TheVariants as causes
use Rattle.spec_adminrows.specs.declared.places.Hold.{Hold}
use Rattle.spec_adminrows.specs.declared.places.Mend.{Mend}
use Rattle.spec_adminrows.specs.declared.places.Mending.{Mending}
use Rattle.spec_adminrows.specs.declared.places.Mending.TheVariants as mending
use Rattle.spec_adminrows.specs.declared.places.Place.{Place}
use Rattle.spec_adminrows.specs.declared.places.Place.TheVariants as places
use Rattle.spec_adminrows.specs.declared.places.Purpose.TheVariants as purposes
use Rattle.spec_adminrows.specs.declared.turns.Ask.{Ask}
use Rattle.spec_adminrows.specs.declared.turns.Errand.{Errand}
use Rattle.spec_volrows.specs.VolRow.{family_of, found, is_of_family, list_of, volume_listed}
use Rattle.spec_volrows.specs.VolStates.{NodeState, VolState}
use Rattle.spec_volrows.specs.VolSteps.{dispatches, drops, repeats, replies_to, saves, tells_boot, vol_decides, Deed, VolDecision}
use Rattle.spec_runs.specs.NodeRuns.{node_moved, node_start, CellInput, NodeCell}
use Rattle.law_places.specs.Accepting.{cell_behind, is_in_service, serves_at}
use Rattle.law_stamps.specs.Stamps.{next_stamp, stored_stamp}
use Rattle.law_stamp_owners.proofs.PlaceStamps.{stamp_at_place}
use Rattle.law_stored_stamps.proofs.Rising.{stamps_rise}
use Rattle.law_families.specs.Families.{volumes_in}
use Rattle.law_families.proofs.Opening.{of_family_is}
use Rattle.law_families.proofs.Turns.{IsWell}
use Rattle.law_families.proofs.Walk.{first_stands, next, AllStand, WellBy}
use Rattle.law_fences.specs.Claims.{Counts, Finds}
use Rattle.law_fences.specs.Fences.{disk_at}
use Rattle.law_fences.proofs.Fencing.{are_true}
use Rattle.law_keys.specs.Replied.{is_told}
use Rattle.law_keys.proofs.Deciding.{vol_decides_so}
use Rattle.law_numbers.specs.Numbers.{IsNumbered}
use Rattle.law_courses.specs.Courses.{ask_in, course_in, course_on, AreOnCourse, Course, IsOnCourse, IsUpTo, Question, WasAnswered, Way}
use Rattle.law_courses.specs.Tasks.{mends, task_at}
use Rattle.law_courses.proofs.Runs.{Stepped}
use Rattle.law_locks.specs.Grips.{grip_at, AreGripped, GripIs}
use Rattle.law_locks.specs.Lines.{IsDrawnFor}
use Rattle.law_locks.proofs.Walk.{grips_are_drawn}
use Rattle.law_one_server.specs.Knows.{listed_site, lock_at, IsAt, IsOver, Knows}
use Rattle.law_one_server.proofs.ActsNumbered.{are_numbered}
use Rattle.law_one_server.proofs.CallsRun.{IsLeft}
use Rattle.law_one_server.proofs.FencesOnCourse.{call_in, IsSome}
use Rattle.law_one_server.proofs.KnownGroundDatabase.{not_over}
use Rattle.law_one_server.proofs.KnownWalk.{stepped}
use Rattle.law_one_server.proofs.StampsOfOneTask.{some}
use Rattle.law_recovered.proofs.Believed.{ask_is, called, told_is, IsCalled}
use Rattle.law_recovered.proofs.Content.{decides_content, Content, IfTells, IsFlagging}
use Rattle.law_recovered.proofs.Ending.{knows}
use Rattle.law_recovered.proofs.Holding.{still_serves, IsDeleted, IsDeleting}
use Rattle.law_recovered.proofs.Locks.{lock_was}
use Rattle.law_recovered.proofs.Own.{Holds}
use Rattle.law_recovered.proofs.Prior.{before_it, IsEarly, Prior, WasPrior}
use Rattle.law_recovered.proofs.Replies.{Answers, IsFresh, IsPlain}
use Rattle.law_recovered.proofs.Tests.{copies_turn, copy_test, first_of, found_behind, second_of, stays, MakesCopy}
use Rattle.law_recovered.proofs.Truth.{head_of, is_call, listing, Listing}
use Rattle.law_recovered.proofs.Turned.{ascending}
use Rattle.law_recovered.proofs.Written.{decided_saves, BodyAsked, IsSaved, IsWithin, Saves, SetsFlags}
use Rattle.law_vanishing.specs.Deletions.{IsLetGo, LetsGo}
use Rattle.law_vanishing.proofs.Deleting.{deleted_elsewhere}
use Rattle.law_in_service.proofs.Strays.{is_read_write, none_strays}
use Rattle.law_in_service.proofs.Open.{is_open_in, IsElsewhere, IsOpen, StandsOpen, Tells}

-- ---- what is asked of replies

-- those that a recovery has to believe
abbrev pub IsTelling : Reply → Type 0
IsTelling (tell.Volume (volumes.ListVols ls)) = ⊤
IsTelling (tell.Volume volumes.SetFlags) = ⊤
IsTelling reply = ⊥

-- such a reply to an administrator is to a call that it made, and tells what is so
abbrev pub IsTrue : Course → NodeCell → Message → Type 0
IsTrue course c m = (n : ℕ) (reply : Reply) → m.head.to ≡ Admin n → m.carried ≡ carried.Reply reply → IsTelling reply →
    IsUpTo m.head.epoch m.head.number (c.admins n) × Tells course c (course n m.head.epoch m.head.number).place reply

telling_not_plain : (reply : Reply) → IsPlain (carried.Reply reply) → IsTelling reply → ⊥
telling_not_plain (tell.Volume (volumes.ListVols ls)) plain telling = plain
telling_not_plain (tell.Volume volumes.SetFlags) plain telling = plain
telling_not_plain reply plain telling = telling

pub plain_true : (course : Course) (c : NodeCell) (m : Message) → IsPlain m.carried → IsTrue course c m
plain_true course c m plain n reply to says telling = absurd (telling_not_plain reply (subst IsPlain says plain) telling)

-- ---- what a list has

record IsThere (volume : ℕ) (t : Table Stored) : Type 0 where
  x : Stored
  there : get volume t ≡ Some x
  family : x.volume.family ≡ volume
  flags : x.volume.flags ≡ 0

abbrev AreListed : ℕ → Table Stored → Type 0
AreListed volume t = list_any (is_open_in volume) (map volume_listed t) ≡ true

further : (volume : ℕ) (p : ℕ × Stored) (ps : Table Stored) → AscendsFrom (p.0 + 1) ps → IsThere volume ps → IsThere volume (p ∷ ps)
further volume p ps up h = record { x = h.x; there = found_behind p ps volume h.x (nat_eq p.0 volume) up refl h.there; family = h.family; flags = h.flags }

there_by : (volume : ℕ) (p : ℕ × Stored) (ps qs : Table Stored) (its shown : Bool) → AscendsFrom (p.0 + 1) ps → is_of_family volume p ≡ its → (nat_eq p.0 volume && nat_eq p.1.volume.flags 0) ≡ shown → AreListed volume (cond its (p ∷ qs) qs) →
    (AreListed volume qs → IsThere volume ps) → IsThere volume (p ∷ ps)
there_by volume p ps qs true true up its shown e later = record {
  x = p.1;
  there = ap (λ (b : Bool). cond b (Some p.1) (get volume ps)) (first_of (nat_eq p.0 volume) (nat_eq p.1.volume.flags 0) shown);
  family = eqb-true p.1.volume.family volume its;
  flags = eqb-true p.1.volume.flags 0 (second_of (nat_eq p.0 volume) (nat_eq p.1.volume.flags 0) shown);
}
there_by volume p ps qs true false up its shown e later = further volume p ps up (later (subst (λ (b : Bool). (b || list_any (is_open_in volume) (map volume_listed qs)) ≡ true) shown e))
there_by volume p ps qs false shown' up its shown e later = further volume p ps up (later e)

is_listed_there : (volume m : ℕ) (t : Table Stored) → AscendsFrom m t → AreListed volume (filter (is_of_family volume) t) → IsThere volume t
is_listed_there volume m [] up e = absurd cc
is_listed_there volume m (p ∷ ps) up e =
    there_by volume p ps (filter (is_of_family volume) ps) (is_of_family volume p) (nat_eq p.0 volume && nat_eq p.1.volume.flags 0) up.1 refl refl e (is_listed_there volume (p.0 + 1) ps up.1)

-- what is in service behind a write is so behind a start, too
still_there : (volume : ℕ) (x : Stored) (was now : Table Stored) → IsLeft was now → x.volume.flags ≡ 0 → get volume was ≡ Some x → get volume now ≡ Some x
still_there volume x was now (inl same) flags there = ap (get volume) same ∙ there
still_there volume x was now (inr kept) flags there = ap (get volume) kept ∙ stays volume was x (ap (has_bit 1) flags) there

serves_by : (x : Stored) (o : Option Stored) → o ≡ Some x → nat_eq x.volume.kind 0 ≡ true → x.volume.flags ≡ 0 → is_in_service o ≡ true
serves_by x o there kind flags =
    ap is_in_service there ∙ (ap (λ (b : Bool). b && nat_eq x.volume.flags 0) kind ∙ ap (λ (k : ℕ). nat_eq k 0) flags)

-- ---- what a decision tells

module _ (dur : Durable) (r : Message) (now : ServerState) (head : Head) (call : VolCall) where
  -- that flags are set
  record Flagging (x : VolDecision) : Type 0 where
    h : Head
    deed : Deed
    is : x ≡ saves h deed
    flags : IsFlagging call deed.body
    left : IsLeft (done_by deed.body dur).volumes now.lasting.volumes

  flagging : (x : VolDecision) → Answers dur r now x → Content dur head call x → r.carried ≡ carried.Reply (tell.Volume volumes.SetFlags) → Flagging x
  flagging (replies_to h reply ts last) a k says =
      let z : IsFlagging call bodies.Stamp = subst (λ (y : Carried). IfTells dur call bodies.Stamp (head.stamp ≤ stamp_of (family_of call) dur) y) (ap (λ (y : Message). y.carried) a.0 ∙ says) k in
      let none : bodies.Stamp ≡ bodies.Flags z.id z.flags = z.writes in absurd cc
  flagging (saves h x) a k says =
      let z : IsFlagging call x.body = subst (λ (y : Carried). IfTells dur call x.body ((x.family ≡ family_of call) × ((x.stamp ≡ head.stamp) × (nat_eq head.stamp 0 ≡ false))) y) (ap (λ (y : Message). y.carried) a.0 ∙ says) k in
      record { h = h; deed = x; is = refl; flags = z; left = a.1.0 }
  flagging drops a k says = absurd a
  flagging (tells_boot h) a k says = absurd a
  flagging (repeats reply) a k says = absurd a
  flagging (dispatches h x) a k says = absurd a

-- ---- a server whose memory counts

well_live : (o : Option Fall) (s : NodeState) → WellBy o s → Counts o → IsWell s
well_live None s h counts = h
well_live (Some (in_step m clock b)) s h counts = h
well_live (Some at_rest) s h counts = absurd counts
well_live (Some in_boot) s h counts = absurd counts

stands_on : (c : NodeCell) (xs : List CellInput) → AllStand c → AllStand (cell_behind c xs)
stands_on c [] h = h
stands_on c (x ∷ xs) h = stands_on (node_moved c x).cell xs (next c h x)

some_of : (o : Option Stored) → is_some o ≡ true → (x : Stored) × (o ≡ Some x)
some_of None e = absurd cc
some_of (Some x) e = (x, refl)

-- ---- where a recovery deletes

record AtDelete (e : Errand) (p : Place) : Type 0 where
  m : Mend
  step : Mending
  is : p ≡ places.Mends m step
  server : ℕ
  number : ℕ
  asks : asks_at e p ≡ at_server m.stamp server (calls.DeleteVolume m.volume number)

at_delete : (e : Errand) (p : Place) → IsDeleting p → AtDelete e p
at_delete e (places.Mends m (mending.Deletes s t)) is = record { m = m; step = mending.Deletes s t; is = refl; server = s; number = t; asks = refl }
at_delete e (places.Mends m (mending.Dropped spot t)) is = record { m = m; step = mending.Dropped spot t; is = refl; server = spot.server; number = t; asks = refl }
at_delete e p is = absurd is

-- a recovery lets its volume go nowhere
none_goes : (p q : Place) (m : Mend) (step : Mending) → p ≡ q → q ≡ places.Mends m step → LetsGo p → ⊥
none_goes p q m step same is lets = subst LetsGo (same ∙ is) lets

named_by : (c : NodeCell) (volume stamp server : ℕ) → IsAt c volume stamp server → (IsOver c volume stamp → ⊥) → listed_site c volume ≡ Some server
named_by c volume stamp server (inl named) never = named
named_by c volume stamp server (inr over) never = absurd (never over)

-- by what question a recovery went, the database goes by it while the lock is held
pub its_name : (s : Script) (inputs : List CellInput) → IsNumbered s → 1 ≤ s.servers → (n e k : ℕ) (m : Mend) (step : Mending) → (course_in s inputs n e k).place ≡ places.Mends m step → (volume stamp : ℕ) → m.volume ≡ volume → m.stamp ≡ stamp →
    lock_at (cell_behind (node_start s) inputs) volume ≡ Some stamp → listed_site (cell_behind (node_start s) inputs) volume ≡ Some m.named
its_name s inputs numbered servers n e k m step at volume stamp of under held =
    let c : NodeCell = cell_behind (node_start s) inputs in
    let known : IsAt c m.volume m.stamp m.named = subst (Knows c) at (knows s inputs numbered servers n e k) in
    named_by c volume stamp m.named (subst (λ (b : ℕ). IsAt c volume b m.named) under (subst (λ (v : ℕ). IsAt c v m.stamp m.named) of known)) (not_over s inputs servers volume stamp held)

module _ (s : Script) (done : List CellInput) (numbered : IsNumbered s) (servers : 1 ≤ s.servers) where
  abbrev c : NodeCell
  c = cell_behind (node_start s) done

  abbrev course : Course
  course = course_in s done

  -- ---- one more input

  module _ (x : CellInput) where
    abbrev d : NodeCell
    d = (node_moved c x).cell

    abbrev later : Course
    later = course_on course d.admins

    abbrev t : Stepped course c (node_moved c x)
    t = stepped s done x

    abbrev g : AreGripped course c
    g = grips_are_drawn s done

    abbrev G : ℕ → ℕ → Type 0
    G = IsDrawnFor g.entry_of (next_stamp c)

    gripped : (n e k : ℕ) (p : Place) → (course n e k).place ≡ p → GripIs G (grip_at p)
    gripped n e k p is = subst (λ (q : Place). GripIs G (grip_at q)) is (g.drawn n e k)

    rose : (i f stamp : ℕ) → stamp ≤ stored_stamp c i f → stamp ≤ stored_stamp d i f
    rose i f stamp le = le_trans le (stamps_rise s done x i f)

    -- ---- its own deletion

    module _ (volume server stamp : ℕ) (held : lock_at c volume ≡ Some stamp) (z : IsDeleted s done x volume server stamp) where
      abbrev q : Question
      q = course z.own.n z.m.head.epoch z.m.head.number

      a : AtDelete q.errand q.place
      a = at_delete q.errand q.place z.at

      asked : ask.Volume (calls.DeleteVolume a.m.volume a.number) ≡ ask.Volume (calls.DeleteVolume volume z.number)
      asked = sym (ap (λ (y : Ask). y.call) a.asks) ∙ (z.own.on.asks ∙ ap ask.Volume z.is)

      of : a.m.volume ≡ volume
      of = let same : ask.Volume (calls.DeleteVolume a.m.volume a.number) ≡ ask.Volume (calls.DeleteVolume volume z.number) = asked in cc

      under : a.m.stamp ≡ stamp
      under = sym (ap (λ (y : Ask). y.stamp) a.asks) ∙ (sym z.own.on.stamp ∙ z.own.same)

      same_admin : (n k : ℕ) → z.m.head.from ≡ Admin n → z.m.head.from ≡ Admin k → n ≡ k
      same_admin n k from is = let e : Admin n ≡ Admin k = sym from ∙ is in cc

      not_there : listed_site c volume ≡ Some server → ⊥
      not_there = by (deleted_elsewhere s done server volume numbered servers (record {
        host = z.host;
        place = z.place;
        m = z.m;
        sent = z.sent;
        to = z.to;
        user = z.user;
        number = z.number;
        asks = z.says ∙ ap (λ (y : VolCall). carried.Call z.user (ask.Volume y)) z.is;
        live = z.live;
        runs = z.runs;
        t = z.t;
        there = z.there;
        on = z.on;
        stored = z.stored;
      }))
        where
          by : IsLetGo s done z.m ⊎ (listed_site c volume ≡ Some server → ⊥) → listed_site c volume ≡ Some server → ⊥
          by (inl lets) named = none_goes (course lets.admin z.m.head.epoch z.m.head.number).place q.place a.m a.step (ap (λ (n : ℕ). (course n z.m.head.epoch z.m.head.number).place) (same_admin lets.admin z.own.n lets.from z.own.from)) a.is lets.lets
          by (inr other) named = other named

      elsewhere : IsElsewhere later d volume stamp server
      elsewhere = record {
        n = z.own.n;
        e = z.m.head.epoch;
        k = z.m.head.number;
        up_to = t.up z.own.n z.m.head.epoch z.m.head.number z.own.on.up_to;
        m = a.m;
        step = a.step;
        at = ap (λ (y : Question). y.place) (t.stays z.own.n z.m.head.epoch z.m.head.number z.own.on.up_to) ∙ a.is;
        of = of;
        under = under;
        other = λ same. not_there (its_name s done numbered servers z.own.n z.m.head.epoch z.m.head.number a.m a.step a.is volume stamp of under held ∙ ap Some (sym same));
      }

    -- ---- what was told before

    still_elsewhere : (volume stamp server : ℕ) → IsElsewhere course c volume stamp server → IsElsewhere later d volume stamp server
    still_elsewhere volume stamp server z = record {
      n = z.n;
      e = z.e;
      k = z.k;
      up_to = t.up z.n z.e z.k z.up_to;
      m = z.m;
      step = z.step;
      at = ap (λ (y : Question). y.place) (t.stays z.n z.e z.k z.up_to) ∙ z.at;
      of = z.of;
      under = z.under;
      other = z.other;
    }

    still_open : (n e k server volume stamp : ℕ) (p : Place) → (course n e k).place ≡ p → stamp_at_place p ≡ stamp → task_at p ≡ Some mends → stamp < next_stamp c → stamp ≤ stored_stamp c server volume → lock_at d volume ≡ Some stamp →
        (lock_at c volume ≡ Some stamp → IsOpen course c volume stamp server) → IsOpen later d volume stamp server
    still_open n e k server volume stamp p is under task low stored locked before = by (before its)
      where
        its : lock_at c volume ≡ Some stamp
        its = lock_was s done x volume stamp low locked

        holds : Holds s done volume
        holds = record { n = n; e = e; k = k; stamp = stamp; under = ap stamp_at_place is ∙ under; task = ap task_at is ∙ task; locked = its }

        goes : (serves_at d volume server ≡ true) ⊎ IsDeleted s done x volume server stamp → IsOpen later d volume stamp server
        goes (inl serves) = inl serves
        goes (inr z) = inr (elsewhere volume server stamp its z)

        by : IsOpen course c volume stamp server → IsOpen later d volume stamp server
        by (inl serves) = goes (still_serves s done x volume server holds stored serves)
        by (inr z) = inr (still_elsewhere volume stamp server z)

    still_tells : (n e k : ℕ) (p : Place) (reply : Reply) → (course n e k).place ≡ p → Tells course c p reply → Tells later d p reply
    still_tells n e k (places.Surveys h (purposes.Mends cause) server left seen) (tell.Volume (volumes.ListVols ls)) is told = (
      rose server (family h) h.stamp told.0,
      λ locked has.
          still_open n e k server (family h) h.stamp (places.Surveys h (purposes.Mends cause) server left seen) is refl refl (gripped n e k (places.Surveys h (purposes.Mends cause) server left seen) is).0.1 told.0 locked (λ held. told.1 held has),
    )
    still_tells n e k (places.Mends m (mending.Opens number)) (tell.Volume volumes.SetFlags) is told = (
      rose m.named m.volume m.stamp told.0,
      λ locked. still_open n e k m.named m.volume m.stamp (places.Mends m (mending.Opens number)) is refl refl (gripped n e k (places.Mends m (mending.Opens number)) is).0.1 told.0 locked told.1,
    )
    still_tells n e k p reply is told = tt

    pub old_true : (m : Message) → IsTrue course c m → IsTrue later d m
    old_true m h n reply to says telling =
        let z = h n reply to says telling in (
          t.up n m.head.epoch m.head.number z.0,
          subst (λ (q : Question). Tells later d q.place reply) (sym (t.stays n m.head.epoch m.head.number z.0)) (still_tells n m.head.epoch m.head.number (course n m.head.epoch m.head.number).place reply refl z.1),
        )

    -- ---- what is told now

    module _ (r : Message) (f : IsFresh c d r) (n : ℕ) (user : List ℕ) (from : f.m.head.from ≡ Admin n) where
      abbrev i : ℕ
      i = f.i

      abbrev dur : Durable
      dur = disk_at c i

      abbrev v : VolState
      v = (c.hosts i).state.vol

      abbrev decision : VolDecision
      decision = vol_decides (Server i) dur v (Whole f.m)

      server_is : (j : ℕ) → f.m.head.to ≡ Server j → i ≡ j
      server_is j to = let e : Server i ≡ Server j = sym f.to ∙ to in cc

      well : IsWell (c.hosts i).state
      well = well_live (c.hosts i).down (c.hosts i).state ((stands_on (node_start s) done (first_stands s)).hosts i).well f.live

      -- a volume that is there with flags 0
      serves_on : (volume : ℕ) (y : Stored) (was : Table Stored) → IsLeft was (volumes_in d i) → get volume was ≡ Some y → nat_eq y.volume.kind 0 ≡ true → y.volume.flags ≡ 0 → serves_at d volume i ≡ true
      serves_on volume y was left there kind flags = serves_by y (get volume (volumes_in d i)) (still_there volume y was (volumes_in d i) left flags there) kind flags

      -- a list
      list_is : (a b : ℕ) → calls.ListVols a ≡ calls.ListVols b → a ≡ b
      list_is a b e = cc

      listed_now : (h : Hold) (server : ℕ) (ls : List ListedVolume) → f.m.carried ≡ carried.Call user (ask.Volume (calls.ListVols (family h))) → f.m.head.to ≡ Server server → f.m.head.stamp ≡ h.stamp → r.carried ≡ carried.Reply (tell.Volume (volumes.ListVols ls)) →
          (h.stamp ≤ stored_stamp d server (family h)) × (lock_at d (family h) ≡ Some h.stamp → list_any (is_open_in (family h)) ls ≡ true → IsOpen later d (family h) h.stamp server)
      listed_now h server ls is to stamp says =
          let call : VolCall = calls.ListVols (family h) in
          let z : Listing dur r (d.hosts i).state.file f.m.head call ls = listing dur r (d.hosts i).state.file f.m.head call ls decision f.answers (decides_content (Server i) dur v f.m user call is) says (λ k. stamps_rise s done x i k) in
          let same : i ≡ server = server_is server to in
          let fam : family h ≡ z.list.family = list_is (family h) z.list.family z.list.is in (
            subst (λ (j : ℕ). h.stamp ≤ stored_stamp d j (family h)) same (subst (λ (b : ℕ). b ≤ stored_stamp d i (family h)) stamp z.stored),
            λ locked has. inl (subst (λ (j : ℕ). serves_at d (family h) j ≡ true) same
                (by z.left (is_listed_there (family h) 0 dur.volumes (ascending copy_test MakesCopy copies_turn s done i) (sym (ap (list_any (is_open_in (family h))) (z.list.has ∙ ap (λ (k : ℕ). list_of k dur) (sym fam))) ∙ has)))),
          )
        where
          by : IsLeft dur.volumes (volumes_in d i) → IsThere (family h) dur.volumes → serves_at d (family h) i ≡ true
          by left y = serves_on (family h) y.x dur.volumes left y.there (is_read_write (family h) y.x (get (family h) dur.volumes) y.there (none_strays s done numbered i (family h)) y.family) y.flags

      -- flags that are set, in the transaction that was claimed
      module _ (m : Mend) (number : ℕ) (is : f.m.carried ≡ carried.Call user (ask.Volume (calls.SetFlags m.volume number 0))) (to : f.m.head.to ≡ Server m.named) (stamp : f.m.head.stamp ≡ m.stamp) (says : r.carried ≡ carried.Reply (tell.Volume volumes.SetFlags)) where
        abbrev call : VolCall
        call = calls.SetFlags m.volume number 0

        its : Flagging dur r (d.hosts i).state.file f.m.head call decision
        its = flagging dur r (d.hosts i).state.file f.m.head call decision f.answers (decides_content (Server i) dur v f.m user call is) says

        saved : IsSaved dur v f.m.head f.m.carried its.deed
        saved = subst (Saves dur v f.m.head f.m.carried) its.is (decided_saves (Server i) dur v f.m)

        sets : SetsFlags v.transactions saved.call its.flags.id its.flags.flags
        sets = subst (BodyAsked dur v.transactions saved.call) its.flags.writes saved.asked

        saved_call : saved.call ≡ call
        saved_call = let e : carried.Call saved.user (ask.Volume saved.call) ≡ carried.Call user (ask.Volume call) = sym saved.is_call ∙ is in cc

        family_is : sets.family ≡ m.volume
        family_is = let e : calls.SetFlags sets.family sets.number its.flags.flags ≡ calls.SetFlags m.volume number 0 = sym sets.is ∙ saved_call in cc

        number_is : sets.number ≡ number
        number_is = let e : calls.SetFlags sets.family sets.number its.flags.flags ≡ calls.SetFlags m.volume number 0 = sym sets.is ∙ saved_call in cc

        flags_is : its.flags.flags ≡ 0
        flags_is = let e : calls.SetFlags sets.family sets.number its.flags.flags ≡ calls.SetFlags m.volume number 0 = sym sets.is ∙ saved_call in cc

        stored_is : stored_stamp c i m.volume ≡ f.m.head.stamp
        stored_is = subst (λ (k : ℕ). stamp_of k dur ≡ f.m.head.stamp) (ap family_of saved_call) (saved.stored (subst IsWithin (sym its.flags.writes) tt))

        finds : Finds c i m.volume number f.m sets.within.t
        finds = record {
          user = user;
          call = call;
          is_call = is;
          live = f.live;
          runs = saved.runs;
          stored = stored_is;
          there = subst (λ (k : ℕ). found k number v.transactions ≡ Some sets.within.t) family_is (subst (λ (k : ℕ). found sets.family k v.transactions ≡ Some sets.within.t) number_is sets.within.there);
        }

        same_le : (a b : ℕ) → a ≡ b → b ≤ a
        same_le a b e = omega (arith, e)

        -- where the claim is true
        module _ (claim : sets.within.t.volume ≡ m.volume) where
          found_in : (get number v.transactions ≡ Some sets.within.t) × (nat_eq sets.within.t.family m.volume ≡ true)
          found_in = of_family_is m.volume (get number v.transactions) sets.within.t finds.there

          y : (z : Stored) × (get sets.within.t.volume dur.volumes ≡ Some z)
          y = some_of (get sets.within.t.volume dur.volumes) (well.apart.there number sets.within.t found_in.0)

          there : get m.volume dur.volumes ≡ Some y.0
          there = subst (λ (k : ℕ). get k dur.volumes ≡ Some y.0) claim y.1

          own : y.0.volume.family ≡ m.volume
          own = well.all number sets.within.t found_in.0 y.0 y.1 ∙ eqb-true sets.within.t.family m.volume found_in.1

          writes : its.deed.body ≡ bodies.Flags m.volume 0
          writes = its.flags.writes ∙ (ap (λ (k : ℕ). bodies.Flags k its.flags.flags) (sym sets.within.on ∙ claim) ∙ ap (bodies.Flags m.volume) flags_is)

          left : IsLeft (done_by (bodies.Flags m.volume 0) dur).volumes (volumes_in d i)
          left = subst (λ (b : RecordBody). IsLeft (done_by b dur).volumes (volumes_in d i)) writes its.left

          written : get m.volume (done_by (bodies.Flags m.volume 0) dur).volumes ≡ Some (flagged 0 y.0)
          written =
              ap (λ (o : Option Stored). get m.volume (on_stored m.volume (flagged 0) o dur).volumes) there
              ∙ (get_set m.volume m.volume (flagged 0 y.0) dur.volumes ∙ ap (λ (b : Bool). cond b (Some (flagged 0 y.0)) (get m.volume dur.volumes)) (eq-eqb m.volume m.volume refl))

          opened_now : (m.stamp ≤ stored_stamp d m.named m.volume) × StandsOpen later d m
          opened_now =
              let same : i ≡ m.named = server_is m.named to in (
                subst (λ (j : ℕ). m.stamp ≤ stored_stamp d j m.volume) same (rose i m.volume m.stamp (same_le (stored_stamp c i m.volume) m.stamp (stored_is ∙ stamp))),
                λ locked. inl (subst (λ (j : ℕ). serves_at d m.volume j ≡ true) same
                    (serves_on m.volume (flagged 0 y.0) (done_by (bodies.Flags m.volume 0) dur).volumes left written (is_read_write m.volume y.0 (get m.volume dur.volumes) there (none_strays s done numbered i m.volume) own) refl)),
              )

      -- ---- the claim: the transaction was told just before

      module _ (on : AreOnCourse course c) (m : Mend) (number : ℕ) (at : (course n f.m.head.epoch f.m.head.number).place ≡ places.Mends m (mending.Opens number)) (way : Way course c.sent n f.m.head.epoch f.m.head.number)
          (is : f.m.carried ≡ carried.Call user (ask.Volume (calls.SetFlags m.volume number 0))) (to : f.m.head.to ≡ Server m.named) (stamp : f.m.head.stamp ≡ m.stamp) (says : r.carried ≡ carried.Reply (tell.Volume volumes.SetFlags)) where
        abbrev e : ℕ
        e = f.m.head.epoch

        abbrev X : Type 0
        X = (sets m number is to stamp says).within.t.volume ≡ m.volume

        no_mend : (course n e zero).place ≡ places.Mends m (mending.Opens number) → ⊥
        no_mend same = let zero_is : (course n e zero).place ≡ places.Seeks causes.Asked = ap (λ (q : Question). q.place) ((are_numbered s done).zero_asks n e) in let none : places.Seeks causes.Asked ≡ places.Mends m (mending.Opens number) = sym zero_is ∙ same in absurd cc

        is_some_stamp : m.stamp ≡ 0 → ⊥
        is_some_stamp none = some s done n e f.m.head.number mends (ap task_at at) (ap stamp_at_place at ∙ none)

        one_more : (j : ℕ) → suc j ≡ j + 1
        one_more j = omega (arith)

        by_told : (j : ℕ) → f.m.head.number ≡ suc j → (b : Question) (u : WasAnswered c.sent n e j (course n e j) b) → (course n e j).place ≡ places.Mends m mending.Begins → u.reply ≡ tell.Volume (volumes.TransCreate number) → IsCalled course c n e j (ask_in (course n e j)).callee → X
        by_told j k b u at_u told y =
            let asks_u : ask_in (course n e j) ≡ asks_at (course n e j).errand (places.Mends m mending.Begins) = ask_is s done n e j (places.Mends m mending.Begins) at_u in
            let call_u : ask.Volume (calls.TransCreate m.volume m.volume offline) ≡ y.call = sym (ap (λ (q : Ask). q.call) asks_u) ∙ y.asks in
            let same : i ≡ m.named = server_is m.named to in
            let from_u : u.m.head.from ≡ Server i = u.callee ∙ (ap (λ (q : Ask). q.callee) asks_u ∙ ap Server (sym same)) in
            are_true s done n i e j number m.volume m.volume m.stamp f.m (sets m number is to stamp says).within.t is_some_stamp
            (record {
              call = y.m;
              asked = record { place = y.place; at = y.at; from = y.from; to = y.to ∙ (ap (λ (q : Ask). q.callee) asks_u ∙ ap Server (sym same)); in_epoch = y.in_epoch; of_number = y.of_number; under = y.stamp ∙ ap (λ (q : Ask). q.stamp) asks_u };
              for_one = record { user = y.user; call = calls.TransCreate m.volume m.volume offline; asks = y.is ∙ ap (carried.Call y.user) (sym call_u); begins = (refl, refl) };
              place = u.place;
              reply = u.m;
              at = u.there;
              from = from_u;
              to = u.to;
              in_epoch = u.in_epoch;
              of_number = u.of_number;
              tells = inl (u.says ∙ ap carried.Reply told);
            })
            (record { place = f.place; at = f.sent; from = from; to = f.to; in_epoch = refl; of_number = k ∙ one_more j; under = stamp })
            (finds m number is to stamp says)

        by_number : (k : ℕ) → f.m.head.number ≡ k → (course n e k).place ≡ places.Mends m (mending.Opens number) → Way course c.sent n e k → X
        by_number zero is_k at_k way_k = absurd (no_mend at_k)
        by_number (suc j) is_k at_k way_k = before (before_it c.sent n e j (course n e j) (course n e (suc j)) way_k.0)
          where
            before : IsEarly (course n e (suc j)).place ⊎ WasPrior c.sent n e j (course n e j) (course n e (suc j)) → X
            before (inl early) = absurd (subst IsEarly at_k early)
            before (inr u) =
                let p : Prior (places.Mends m (mending.Opens number)) (course n e j).place u.answered'.reply = subst (λ (q : Place). Prior q (course n e j).place u.answered'.reply) at_k u.prior in
                let told : is_told u.answered'.m.carried ≡ true = told_is s done u.answered'.m.carried u.answered'.reply u.answered'.says (ap (λ (q : Reply). is_told (carried.Reply q)) p.1) in
                by_told j is_k (course n e (suc j)) u.answered' p.0 p.1 (called s done on n e j (course n e (suc j)) u.answered' told)

        claim : X
        claim = by_number f.m.head.number refl at way

      -- ---- what the reply tells then

      module _ (on : AreOnCourse course c) (call : Call) (carries : f.m.carried ≡ carried.Call user call) (its : IsOnCourse course c.sent n (c.admins n) f.m.head call) where
        abbrev its_question : Question
        its_question = course n f.m.head.epoch f.m.head.number

        new_tells : (p : Place) (reply : Reply) → its_question.place ≡ p → r.carried ≡ carried.Reply reply → Tells later d p reply
        new_tells (places.Surveys h (purposes.Mends cause) server left seen) (tell.Volume (volumes.ListVols ls)) is says =
            let asks : ask_in its_question ≡ asks_at its_question.errand (places.Surveys h (purposes.Mends cause) server left seen) = ask_is s done n f.m.head.epoch f.m.head.number _ is in
            listed_now h server ls (carries ∙ ap (carried.Call user) (sym its.asks ∙ ap (λ (a : Ask). a.call) asks)) (its.callee ∙ ap (λ (a : Ask). a.callee) asks) (its.stamp ∙ ap (λ (a : Ask). a.stamp) asks) says
        new_tells (places.Mends m (mending.Opens number)) (tell.Volume volumes.SetFlags) is says =
            let asks : ask_in its_question ≡ asks_at its_question.errand (places.Mends m (mending.Opens number)) = ask_is s done n f.m.head.epoch f.m.head.number _ is in
            let it_carries : f.m.carried ≡ carried.Call user (ask.Volume (calls.SetFlags m.volume number 0)) = carries ∙ ap (carried.Call user) (sym its.asks ∙ ap (λ (a : Ask). a.call) asks) in
            let to : f.m.head.to ≡ Server m.named = its.callee ∙ ap (λ (a : Ask). a.callee) asks in
            let stamp : f.m.head.stamp ≡ m.stamp = its.stamp ∙ ap (λ (a : Ask). a.stamp) asks in
            opened_now m number it_carries to stamp says (claim on m number is its.way it_carries to stamp says)
        new_tells p reply is says = tt

    pub new_true : (r : Message) → IsFresh c d r → IsTrue later d r
    new_true r f n reply to says telling =
        let dur : Durable = disk_at c f.i in
        let v : VolState = (c.hosts f.i).state.vol in
        let head : r.head ≡ reply_head dur.boot f.m.head = head_of dur r (d.hosts f.i).state.file f.m.head (vol_decides (Server f.i) dur v (Whole f.m)) f.answers (vol_decides_so (Server f.i) dur v f.m).of in
        let z : IsSome f.m.carried = call_in f.m.carried (is_call (Server f.i) dur v f.m.head f.m.carried r (d.hosts f.i).state.file f.answers) in
        let from : f.m.head.from ≡ Admin n = sym (ap (λ (h : Head). h.to) head) ∙ to in
        let its : IsOnCourse course c.sent n (c.admins n) f.m.head z.call = t.before.calls f.place n f.m z.user z.call f.sent from z.is in
        let tells : Tells later d (course n f.m.head.epoch f.m.head.number).place reply = new_tells r f n z.user from t.before z.call z.is its (course n f.m.head.epoch f.m.head.number).place reply refl says in
        subst (λ (h : Head). IsUpTo h.epoch h.number (d.admins n) × Tells later d (later n h.epoch h.number).place reply) (sym head)
        (t.up n f.m.head.epoch f.m.head.number its.up_to, subst (λ (q : Question). Tells later d q.place reply) (sym (t.stays n f.m.head.epoch f.m.head.number its.up_to)) tells)
