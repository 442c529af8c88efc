-- What servers tell a recovery is so as long as it holds the lock: a list has all copies of the volume that its server has, and a copy that a server
-- deleted is gone.
use Rattle.std.proofs.Common.{◌≡◌, ◌⊎◌, ◌≤◌, ◌<◌, ◌+◌, inl, inr, ℕ, zero, suc, Bool, true, false, cond, List, [], ◌∷◌, ◌++◌, Option, Some, None, is_some, refl, sym, ap, subst, ◌∙◌, arith, nat_eq, eqb-true, eq-eqb}
use Rattle.std.proofs.Math.Nat.{le_trans}
use Rattle.std.specs.Prelude.{⊤, ◌||◌, filter, map, not}
use Rattle.std.specs.List.{list_any, AllByRecursion}
use Rattle.afs_num.specs.declared.messages.Call.{Call}
use Rattle.afs_num.specs.declared.messages.Call.TheVariants as ask
use Rattle.afs_num.specs.declared.messages.Carried.{Carried}
use Rattle.afs_num.specs.declared.messages.Carried.TheVariants as carried
use Rattle.afs_num.specs.declared.messages.Message.{Message}
use Rattle.afs_num.specs.declared.messages.Received.TheVariants.{Whole}
use Rattle.afs_num.specs.declared.messages.Reply.{Reply}
use Rattle.afs_num.specs.declared.messages.Reply.TheVariants as tell
use Rattle.afs_num.specs.declared.records.RecordBody.{RecordBody}
use Rattle.afs_num.specs.declared.records.RecordBody.TheVariants as bodies
use Rattle.afs_num.specs.declared.types.Head.{Head}
use Rattle.afs_num.specs.declared.types.Node.{Node}
use Rattle.afs_num.specs.declared.types.Node.TheVariants.{Admin, Server}
use Rattle.afs_num.specs.declared.volume_calls.ListedVolume.{ListedVolume}
use Rattle.afs_num.specs.declared.volume_calls.VolCall.{VolCall}
use Rattle.afs_num.specs.declared.volume_calls.VolCall.TheVariants as calls
use Rattle.afs_num.specs.declared.volume_calls.VolReply.TheVariants as volumes
use Rattle.spec_history.specs.declared.scripts.Script.{Script}
use Rattle.spec_ideal.specs.Tables.{get, unset, AscendsFrom, Table}
use Rattle.spec_ideal.proofs.Tables.{get_set, get_unset}
use Rattle.spec_fold.specs.Deeds.{done_by}
use Rattle.spec_records.specs.Durable.{or_zero, stamp_of, with_stamp, Durable, Stored}
use Rattle.spec_rows.specs.Runs.{message_at}
use Rattle.spec_rows.specs.ServerRow.{is_unflagged, reply_head}
use Rattle.spec_rows.specs.States.{ServerState}
use Rattle.spec_adminrows.specs.Acts.{asks_at}
use Rattle.spec_adminrows.specs.Asks.{family}
use Rattle.spec_adminrows.specs.declared.places.Cause.{Cause}
use Rattle.spec_adminrows.specs.declared.places.Hold.{Hold}
use Rattle.spec_adminrows.specs.declared.places.Mend.{Mend}
use Rattle.spec_adminrows.specs.declared.places.Mending.TheVariants as mending
use Rattle.spec_adminrows.specs.declared.places.Place.{Place}
use Rattle.spec_adminrows.specs.declared.places.Place.TheVariants as places
use Rattle.spec_adminrows.specs.declared.places.Purpose.TheVariants as purposes
use Rattle.spec_adminrows.specs.declared.places.Seen.{Seen}
use Rattle.spec_volrows.specs.VolLaws.{stamp_at}
use Rattle.spec_volrows.specs.VolRow.{family_of, is_of_family, list_of, volume_listed}
use Rattle.spec_volrows.specs.VolStates.{VolState}
use Rattle.spec_volrows.specs.VolSteps.{deed_head, dispatches, drops, repeats, replies_to, saves, tells_boot, vol_decides, vol_hears, Deed, VolDecision}
use Rattle.spec_runs.specs.NodeRuns.{has_host, node_moved, node_start, CellInput, NodeCell}
use Rattle.law_places.specs.Accepting.{cell_behind}
use Rattle.law_stamps.specs.Stamps.{next_stamp, stored_stamp}
use Rattle.law_stamp_owners.proofs.PlaceStamps.{stamp_at_place}
use Rattle.law_families.specs.Families.{volumes_in}
use Rattle.law_families.proofs.Walk.{read_write_is_family}
use Rattle.law_fences.specs.Fences.{disk_at}
use Rattle.law_keys.specs.Asked.{IsCall}
use Rattle.law_keys.proofs.Deciding.{vol_decides_so, OfHead}
use Rattle.law_courses.specs.Courses.{ask_in, course_in, course_on, AreOnCourse, Course, IsOnCourse, IsUpTo, Question}
use Rattle.law_courses.specs.Tasks.{mends, task_at}
use Rattle.law_courses.proofs.Runs.{Stepped}
use Rattle.law_locks.specs.Grips.{grip_at, AreGripped, GripIs}
use Rattle.law_locks.specs.Lines.{IsDrawnFor}
use Rattle.law_locks.proofs.Walk.{grips_are_drawn}
use Rattle.law_one_server.specs.Knows.{lock_at}
use Rattle.law_stored_stamps.proofs.Rising.{stamps_rise}
use Rattle.law_one_server.proofs.KnownWalk.{stepped}
use Rattle.law_one_server.proofs.FencesOnCourse.{call_in, IsSome}
use Rattle.law_one_server.proofs.CallsRun.{IsLeft}
use Rattle.law_recovered.specs.Copies.{has_copy_at, is_copy}
use Rattle.law_recovered.proofs.Content.{decides_content, Content, IfTells, IsDeletion, IsList}
use Rattle.law_recovered.proofs.Holding.{none_comes}
use Rattle.law_recovered.proofs.Locks.{lock_was}
use Rattle.law_recovered.proofs.Mended.{is_listed, Tells}
use Rattle.law_recovered.proofs.Own.{Holds}
use Rattle.law_recovered.proofs.Replies.{Answers, AreStored, IsFresh, IsPlain}
use Rattle.law_recovered.proofs.Tests.{copies_turn, copy_test, kept_found, MakesCopy}
use Rattle.law_recovered.proofs.Turned.{ascending}
use Rattle.law_recovered.proofs.Written.{decided_saves, BodyAsked, Deletes, IsSaved, Saves}

-- ---- what is asked of replies

-- those that a recovery has to believe
abbrev pub IsTelling : Reply → Type 0
IsTelling (tell.Volume (volumes.ListVols ls)) = ⊤
IsTelling (tell.Volume volumes.DeleteVolume) = ⊤
IsTelling reply = ⊥

-- such a reply to an administrator is to a call that it made, and tells what is so
abbrev pub IsTrue : Course → NodeCell → Message → Type 0
IsTrue course c m = (n : ℕ) (reply : Reply) → m.head.to ≡ Admin n → m.carried ≡ carried.Reply reply → IsTelling reply →
    IsUpTo m.head.epoch m.head.number (c.admins n) × Tells c (course n m.head.epoch m.head.number).place reply

telling_not_plain : (reply : Reply) → IsPlain (carried.Reply reply) → IsTelling reply → ⊥
telling_not_plain (tell.Volume (volumes.ListVols ls)) plain telling = plain
telling_not_plain (tell.Volume volumes.DeleteVolume) plain telling = plain
telling_not_plain reply plain telling = telling

pub plain_true : (course : Course) (c : NodeCell) (m : Message) → IsPlain m.carried → IsTrue course c m
plain_true course c m plain n reply to says telling = absurd (telling_not_plain reply (subst IsPlain says plain) telling)

-- ---- what a list has

list_by : (volume family : ℕ) (p : ℕ × Stored) (ps : List (ℕ × Stored)) (same its : Bool) → nat_eq p.0 volume ≡ same → is_of_family family p ≡ its → (same ≡ true → its ≡ true) → (same ≡ false → list_any (is_listed volume) (map volume_listed ps) ≡ true) →
    list_any (is_listed volume) (map volume_listed (cond its (p ∷ ps) ps)) ≡ true
list_by volume family p ps true true here of own later = ap (λ (b : Bool). b || list_any (is_listed volume) (map volume_listed ps)) here
list_by volume family p ps true false here of own later = let no : false ≡ true = own refl in absurd cc
list_by volume family p ps false true here of own later = ap (λ (b : Bool). b || list_any (is_listed volume) (map volume_listed ps)) here ∙ later refl
list_by volume family p ps false false here of own later = later refl

found_here : (volume : ℕ) (p : ℕ × Stored) (ps : Table Stored) (x : Stored) (same : Bool) → nat_eq p.0 volume ≡ same → cond same (Some p.1) (get volume ps) ≡ Some x → (same ≡ true → p.1 ≡ x) × (same ≡ false → get volume ps ≡ Some x)
found_here volume p ps x true is e = (λ t. cc, λ f. absurd cc)
found_here volume p ps x false is e = (λ t. absurd cc, λ f. e)

pub has_listed : (volume : ℕ) (t : Table Stored) (x : Stored) → get volume t ≡ Some x → x.volume.family ≡ volume → list_any (is_listed volume) (map volume_listed (filter (is_of_family volume) t)) ≡ true
has_listed volume [] x there own = absurd cc
has_listed volume (p ∷ ps) x there own =
    let z = found_here volume p ps x (nat_eq p.0 volume) refl there in
    list_by volume volume p (filter (is_of_family volume) ps) (nat_eq p.0 volume) (is_of_family volume p) refl refl
    (λ same. ap (λ (s : Stored). nat_eq s.volume.family volume) (z.0 same) ∙ (ap (λ (k : ℕ). nat_eq k volume) own ∙ eq-eqb volume volume refl)) (λ other. has_listed volume ps x (z.1 other) own)

pub copy_of : (o : Option Stored) → is_copy o ≡ true → (x : Stored) × ((o ≡ Some x) × (x.volume.kind ≡ 0))
copy_of None e = absurd cc
copy_of (Some x) e = (x, (refl, eqb-true x.volume.kind 0 e))

-- what isn't there isn't there behind a start
gone_by : (volume : ℕ) (p : ℕ × Stored) (ps qs : Table Stored) (same keep : Bool) → nat_eq p.0 volume ≡ same → cond same (Some p.1) (get volume ps) ≡ None → (get volume ps ≡ None → get volume qs ≡ None) → get volume (cond keep (p ∷ qs) qs) ≡ None
gone_by volume p ps qs true keep is e later = absurd cc
gone_by volume p ps qs false true is e later = ap (λ (b : Bool). cond b (Some p.1) (get volume qs)) is ∙ later e
gone_by volume p ps qs false false is e later = later e

still_gone : (volume : ℕ) (t : Table Stored) → get volume t ≡ None → get volume (filter is_unflagged t) ≡ None
still_gone volume [] e = refl
still_gone volume (p ∷ ps) e = gone_by volume p ps (filter is_unflagged ps) (nat_eq p.0 volume) (is_unflagged p) refl e (still_gone volume ps)

pub deleted_gone : (d : Durable) (volume : ℕ) (now : Table Stored) → IsLeft (done_by (bodies.Delete volume) d).volumes now → is_copy (get volume now) ≡ false
deleted_gone d volume now left = ap is_copy (by left)
  where
    none : get volume (unset volume d.volumes) ≡ None
    none = get_unset volume volume d.volumes ∙ ap (λ (b : Bool). cond b None (get volume d.volumes)) (eq-eqb volume volume refl)

    by : IsLeft (done_by (bodies.Delete volume) d).volumes now → get volume now ≡ None
    by (inl is) = ap (get volume) is ∙ none
    by (inr is) = ap (get volume) is ∙ still_gone volume (unset volume d.volumes) none

-- ---- what a decision tells

pub is_call : (me : Node) (dur : Durable) (v : VolState) (head : Head) (x : Carried) (r : Message) (now : ServerState) → Answers dur r now (vol_hears me dur v head x) → IsCall x
is_call me dur v head (carried.Call user call) r now a = tt
is_call me dur v head (carried.Refusal code) r now a = absurd a
is_call me dur v head (carried.Reply reply) r now a = absurd a
is_call me dur v head carried.Notice r now a = absurd a

module _ (dur : Durable) (r : Message) (now : ServerState) where
  pub head_of : (head : Head) (x : VolDecision) → Answers dur r now x → OfHead dur.boot head x → r.head ≡ reply_head dur.boot head
  head_of head (replies_to h reply ts last) a of = ap (λ (y : Message). y.head) (sym a.0) ∙ of.1.0
  head_of head (saves h x) a of = ap (λ (y : Message). y.head) (sym a.0) ∙ of.1
  head_of head drops a of = absurd a
  head_of head (tells_boot h) a of = absurd a
  head_of head (repeats reply) a of = absurd a
  head_of head (dispatches h x) a of = absurd a

  module _ (head : Head) (call : VolCall) where
    -- a list
    pub record Listing (ls : List ListedVolume) : Type 0 where
      pub list : IsList dur call ls
      pub left : IsLeft dur.volumes now.lasting.volumes
      pub stored : head.stamp ≤ stamp_at now (family_of call)

    raised_to : (h : Head) (x : Deed) → x.family ≡ family_of call → x.stamp ≡ head.stamp → nat_eq head.stamp 0 ≡ false → head.stamp ≤ stamp_of (family_of call) (with_stamp (deed_head h x) (done_by x.body dur))
    raised_to h x its is some =
        let e : Durable = done_by x.body dur in
        let here : stamp_of (family_of call) (with_stamp (deed_head h x) e) ≡ head.stamp = rw (its, is, some) (ap or_zero (get_set (family_of call) (family_of call) head.stamp e.stamps) ∙ rw (eq-eqb (family_of call) (family_of call) refl) refl) in
        grind (arith, here)

    pub listing : (ls : List ListedVolume) (x : VolDecision) → Answers dur r now x → Content dur head call x → r.carried ≡ carried.Reply (tell.Volume (volumes.ListVols ls)) → ((f : ℕ) → stamp_of f dur ≤ stamp_at now f) → Listing ls
    listing ls (replies_to h reply ts last) a k says rose =
        let z = subst (λ (y : Carried). IfTells dur call bodies.Stamp (head.stamp ≤ stamp_of (family_of call) dur) y) (ap (λ (y : Message). y.carried) a.0 ∙ says) k in
        record { list = z.0.0; left = a.1; stored = le_trans z.1 (rose (family_of call)) }
    listing ls (saves h x) a k says rose =
        let z = subst (λ (y : Carried). IfTells dur call x.body ((x.family ≡ family_of call) × ((x.stamp ≡ head.stamp) × (nat_eq head.stamp 0 ≡ false))) y) (ap (λ (y : Message). y.carried) a.0 ∙ says) k in
        record {
          list = z.0.0;
          left = subst (λ (b : RecordBody). IsLeft (done_by b dur).volumes now.lasting.volumes) z.0.1 a.1.0;
          stored = le_trans (raised_to h x z.1.0 z.1.1.0 z.1.1.1) (a.1.1 (family_of call));
        }
    listing ls drops a k says rose = absurd a
    listing ls (tells_boot h) a k says rose = absurd a
    listing ls (repeats reply) a k says rose = absurd a
    listing ls (dispatches h x) a k says rose = absurd a

    -- a deletion
    pub record Deletion (x : VolDecision) : Type 0 where
      pub h : Head
      pub deed : Deed
      pub is : x ≡ saves h deed
      pub deletes : IsDeletion call deed.body
      pub left : IsLeft (done_by deed.body dur).volumes now.lasting.volumes

    pub deletion : (x : VolDecision) → Answers dur r now x → Content dur head call x → r.carried ≡ carried.Reply (tell.Volume volumes.DeleteVolume) → Deletion x
    deletion (replies_to h reply ts last) a k says =
        let z : IsDeletion call bodies.Stamp = subst (λ (y : Carried). IfTells dur call bodies.Stamp (head.stamp ≤ stamp_of (family_of call) dur) y) (ap (λ (y : Message). y.carried) a.0 ∙ says) k in
        let no : bodies.Stamp ≡ bodies.Delete z.id = z.writes in absurd cc
    deletion (saves h x) a k says =
        let z : IsDeletion call x.body = subst (λ (y : Carried). IfTells dur call x.body ((x.family ≡ family_of call) × ((x.stamp ≡ head.stamp) × (nat_eq head.stamp 0 ≡ false))) y) (ap (λ (y : Message). y.carried) a.0 ∙ says) k in
        record { h = h; deed = x; is = refl; deletes = z; left = a.1.0 }
    deletion drops a k says = absurd a
    deletion (tells_boot h) a k says = absurd a
    deletion (repeats reply) a k says = absurd a
    deletion (dispatches h x) a k says = absurd a
