-- What a recovery is told goes on being so while it holds the lock, and what servers tell now is so.
use Rattle.std.proofs.Common.{◌≡◌, ◌⊎◌, ◌≤◌, ◌<◌, ◌+◌, inl, inr, ℕ, zero, suc, Bool, true, false, cond, List, [], ◌∷◌, ◌++◌, Option, Some, None, refl, sym, ap, subst, ◌∙◌, arith}
use Rattle.std.proofs.Math.Nat.{le_trans}
use Rattle.std.specs.Prelude.{⊤, filter, map}
use Rattle.std.specs.List.{list_any, AllByRecursion}
use Rattle.afs_num.specs.declared.messages.Call.{Call}
use Rattle.afs_num.specs.declared.messages.Call.TheVariants as ask
use Rattle.afs_num.specs.declared.messages.Carried.{Carried}
use Rattle.afs_num.specs.declared.messages.Carried.TheVariants as carried
use Rattle.afs_num.specs.declared.messages.Message.{Message}
use Rattle.afs_num.specs.declared.messages.Received.TheVariants.{Whole}
use Rattle.afs_num.specs.declared.messages.Reply.{Reply}
use Rattle.afs_num.specs.declared.messages.Reply.TheVariants as tell
use Rattle.afs_num.specs.declared.records.RecordBody.{RecordBody}
use Rattle.afs_num.specs.declared.records.RecordBody.TheVariants as bodies
use Rattle.afs_num.specs.declared.types.Head.{Head}
use Rattle.afs_num.specs.declared.types.Key.{Key}
use Rattle.afs_num.specs.declared.types.Node.{Node}
use Rattle.afs_num.specs.declared.types.Node.TheVariants.{Admin, Server}
use Rattle.afs_num.specs.declared.volume_calls.ListedVolume.{ListedVolume}
use Rattle.afs_num.specs.declared.volume_calls.VolCall.{VolCall}
use Rattle.afs_num.specs.declared.volume_calls.VolCall.TheVariants as calls
use Rattle.afs_num.specs.declared.volume_calls.VolReply.TheVariants as volumes
use Rattle.spec_history.specs.declared.scripts.Script.{Script}
use Rattle.spec_ideal.specs.Tables.{get, Table}
use Rattle.spec_records.specs.Durable.{stamp_of, Durable, Stored}
use Rattle.spec_fold.specs.Deeds.{done_by}
use Rattle.spec_rows.specs.Runs.{message_at}
use Rattle.spec_rows.specs.ServerRow.{is_unflagged, reply_head}
use Rattle.spec_adminrows.specs.Acts.{asks_at}
use Rattle.spec_adminrows.specs.Asks.{family, offline}
use Rattle.spec_adminrows.specs.declared.places.Hold.{Hold}
use Rattle.spec_adminrows.specs.declared.places.Cause.{Cause}
use Rattle.spec_adminrows.specs.declared.places.Cause.TheVariants as causes
use Rattle.spec_adminrows.specs.declared.places.Mend.{Mend}
use Rattle.spec_adminrows.specs.declared.places.Mending.{Mending}
use Rattle.spec_adminrows.specs.declared.places.Mending.TheVariants as mending
use Rattle.spec_adminrows.specs.declared.places.Place.{Place}
use Rattle.spec_adminrows.specs.declared.places.Place.TheVariants as places
use Rattle.spec_adminrows.specs.declared.places.Purpose.TheVariants as purposes
use Rattle.spec_adminrows.specs.declared.places.Seen.{Seen}
use Rattle.spec_adminrows.specs.declared.turns.Ask.{Ask}
use Rattle.spec_volrows.specs.VolRow.{family_of, found, list_of}
use Rattle.spec_volrows.specs.VolStates.{Transaction, VolState}
use Rattle.spec_volrows.specs.VolSteps.{saves, vol_decides, VolDecision}
use Rattle.spec_runs.specs.NodeRuns.{has_host, node_moved, node_start, CellInput, NodeCell}
use Rattle.law_places.specs.Accepting.{cell_behind}
use Rattle.law_legal.specs.Past.{answered_key}
use Rattle.law_stamps.specs.Stamps.{next_stamp, stored_stamp}
use Rattle.spec_model.specs.Calls.{key_of}
use Rattle.law_stamp_owners.proofs.PlaceStamps.{stamp_at_place}
use Rattle.law_walks.proofs.Seats.{found_at}
use Rattle.law_families.specs.Families.{volumes_in}
use Rattle.law_families.proofs.Walk.{read_write_is_family}
use Rattle.law_fences.specs.Claims.{Finds, WasSent, WasTold}
use Rattle.law_fences.specs.Fences.{disk_at}
use Rattle.law_keys.specs.Asked.{HasCall, IsCall, WasAsked}
use Rattle.law_keys.specs.Replied.{is_told}
use Rattle.law_keys.proofs.Deciding.{vol_decides_so}
use Rattle.law_keys.proofs.Sending.{replies_called}
use Rattle.law_courses.specs.Courses.{ask_in, course_in, course_on, AreOnCourse, Course, Follows, IsOnCourse, IsUpTo, Question, WasAnswered, Way}
use Rattle.law_courses.specs.Tasks.{mends, task_at}
use Rattle.law_courses.proofs.Runs.{Stepped}
use Rattle.law_locks.specs.Grips.{grip_at, AreGripped, GripIs}
use Rattle.law_locks.specs.Lines.{IsDrawnFor}
use Rattle.law_locks.proofs.Walk.{grips_are_drawn}
use Rattle.law_one_server.specs.Knows.{lock_at}
use Rattle.law_stored_stamps.proofs.Rising.{stamps_rise}
use Rattle.law_one_server.proofs.KnownWalk.{stepped}
use Rattle.law_one_server.proofs.FencesOnCourse.{call_in, IsSome}
use Rattle.law_one_server.proofs.ActsNumbered.{are_numbered}
use Rattle.law_one_server.proofs.StampsOfOneTask.{some}
use Rattle.law_one_server.proofs.CallsRun.{IsLeft}
use Rattle.law_recovered.specs.Copies.{has_copy_at, is_copy}
use Rattle.law_recovered.proofs.Claimed.{later_claim, AsksNone}
use Rattle.law_recovered.proofs.Content.{decides_content, IsDeletion, IsList}
use Rattle.law_recovered.proofs.Holding.{none_comes}
use Rattle.law_recovered.proofs.Locks.{lock_was}
use Rattle.law_recovered.proofs.Mended.{is_listed, Tells}
use Rattle.law_recovered.proofs.Own.{Holds}
use Rattle.law_recovered.proofs.Prior.{before_it, IsEarly, Prior, WasPrior}
use Rattle.law_recovered.proofs.Replies.{Answers, IsFresh}
use Rattle.law_recovered.proofs.Tests.{copies_turn, copy_test, kept_found, MakesCopy}
use Rattle.law_recovered.proofs.Truth.{copy_of, deleted_gone, deletion, has_listed, head_of, is_call, listing, Deletion, IsTelling, IsTrue, Listing}
use Rattle.law_recovered.proofs.Turned.{ascending}
use Rattle.law_recovered.proofs.Written.{decided_saves, BodyAsked, Deletes, IsSaved, IsWithin, Saves}

both : (b : Bool) → b ≡ false → b ≡ true → ⊥
both b e f = let no : true ≡ false = sym f ∙ e in absurd cc

-- the call that was answered, as it was sent
pub record IsCalled (course : Course) (c : NodeCell) (n e k : ℕ) (callee : Node) : Type 0 where
  pub place : ℕ
  pub m : Message
  pub at : message_at c.sent place ≡ Some m
  pub from : m.head.from ≡ Admin n
  pub to : m.head.to ≡ callee
  pub in_epoch : m.head.epoch ≡ e
  pub of_number : m.head.number ≡ k
  pub user : List ℕ
  pub call : Call
  pub is : m.carried ≡ carried.Call user call
  pub asks : (ask_in (course n e k)).call ≡ call
  pub stamp : m.head.stamp ≡ (ask_in (course n e k)).stamp

module _ (s : Script) (done : List CellInput) where
  abbrev c : NodeCell
  c = cell_behind (node_start s) done

  abbrev course : Course
  course = course_in s done

  module _ (on : AreOnCourse course c) where
    pub called : (n e k : ℕ) (q : Question) (w : WasAnswered c.sent n e k (course n e k) q) → is_told w.m.carried ≡ true → IsCalled course c n e k (ask_in (course n e k)).callee
    called n e k q w told =
        let x : WasAsked c w.m = found_at (HasCall c) w.place c.sent w.m (replies_called s done).sent w.there told in
        let z : IsSome x.call.carried = call_in x.call.carried x.is_call in
        let from : x.call.head.from ≡ Admin n = ap (λ (y : Key). y.node) x.key ∙ w.to in
        let in_epoch : x.call.head.epoch ≡ e = ap (λ (y : Key). y.epoch) x.key ∙ w.in_epoch in
        let of_number : x.call.head.number ≡ k = ap (λ (y : Key). y.number) x.key ∙ w.of_number in
        let its : IsOnCourse course c.sent n (c.admins n) x.call.head z.call = on.calls x.place n x.call z.user z.call x.at from z.is in
        let same : course n x.call.head.epoch x.call.head.number ≡ course n e k = ap (λ (i : ℕ). course n i x.call.head.number) in_epoch ∙ ap (course n e) of_number in
        record {
          place = x.place;
          m = x.call;
          at = x.at;
          from = from;
          to = x.to ∙ w.callee;
          in_epoch = in_epoch;
          of_number = of_number;
          user = z.user;
          call = z.call;
          is = z.is;
          asks = ap (λ (y : Question). (ask_in y).call) (sym same) ∙ its.asks;
          stamp = its.stamp ∙ ap (λ (y : Question). (ask_in y).stamp) same;
        }

  pub told_is : (x : Carried) (reply : Reply) → x ≡ carried.Reply reply → is_told (carried.Reply reply) ≡ true → is_told x ≡ true
  told_is x reply is e = ap is_told is ∙ e

  -- what was asked at a place
  pub ask_is : (n e k : ℕ) (p : Place) → (course n e k).place ≡ p → ask_in (course n e k) ≡ asks_at (course n e k).errand p
  ask_is n e k p is = ap (λ (z : Place). asks_at (course n e k).errand z) is

  -- ---- one more input

  module _ (x : CellInput) where
    abbrev d : NodeCell
    d = (node_moved c x).cell

    abbrev later : Course
    later = course_on course d.admins

    abbrev t : Stepped course c (node_moved c x)
    t = stepped s done x

    abbrev g : AreGripped course c
    g = grips_are_drawn s done

    abbrev G : ℕ → ℕ → Type 0
    G = IsDrawnFor g.entry_of (next_stamp c)

    gripped : (n e k : ℕ) (p : Place) → (course n e k).place ≡ p → GripIs G (grip_at p)
    gripped n e k p is = subst (λ (q : Place). GripIs G (grip_at q)) is (g.drawn n e k)

    rose : (i f stamp : ℕ) → stamp ≤ stored_stamp c i f → stamp ≤ stored_stamp d i f
    rose i f stamp le = le_trans le (stamps_rise s done x i f)

    -- ---- what was told before

    still_listed : (n e k server : ℕ) (volume stamp : ℕ) (p : Place) (X : Type 0) → (course n e k).place ≡ p → stamp_at_place p ≡ stamp → task_at p ≡ Some mends → stamp < next_stamp c → stamp ≤ stored_stamp c server volume → lock_at d volume ≡ Some stamp →
        (lock_at c volume ≡ Some stamp → has_copy_at c volume server ≡ true → X) → has_copy_at d volume server ≡ true → X
    still_listed n e k server volume stamp p X is under task low stored locked then has = by (has_copy_at c volume server) refl
      where
        its : lock_at c volume ≡ Some stamp
        its = lock_was s done x volume stamp low locked

        holds : Holds s done volume
        holds = record { n = n; e = e; k = k; stamp = stamp; under = ap stamp_at_place is ∙ under; task = ap task_at is ∙ task; locked = its }

        by : (b : Bool) → has_copy_at c volume server ≡ b → X
        by true there = then its there
        by false none = absurd (both (has_copy_at d volume server) (none_comes s done x volume server holds stored none) has)

    gone_on : (b : Bool) → (b ≡ true → ⊥) → b ≡ false
    gone_on true never = absurd (never refl)
    gone_on false never = refl

    still_tells : (n e k : ℕ) (p : Place) (reply : Reply) → (course n e k).place ≡ p → Tells c p reply → Tells d p reply
    still_tells n e k (places.Surveys h (purposes.Mends cause) server left seen) (tell.Volume (volumes.ListVols ls)) is told = (
      rose server (family h) h.stamp told.0,
      λ locked has.
          still_listed n e k server (family h) h.stamp (places.Surveys h (purposes.Mends cause) server left seen) (list_any (is_listed (family h)) ls ≡ true) is refl refl (gripped n e k (places.Surveys h (purposes.Mends cause) server left seen) is).0.1 told.0 locked told.1 has,
    )
    still_tells n e k (places.Mends m (mending.Deletes server number)) (tell.Volume volumes.DeleteVolume) is told = (
      rose server m.volume m.stamp told.0,
      λ locked. gone_on (has_copy_at d m.volume server) (λ has.
          still_listed n e k server m.volume m.stamp (places.Mends m (mending.Deletes server number)) ⊥ is refl refl (gripped n e k (places.Mends m (mending.Deletes server number)) is).0.1 told.0 locked (λ its there. both (has_copy_at c m.volume server) (told.1 its) there) has),
    )
    still_tells n e k p reply is told = tt

    pub old_true : (m : Message) → IsTrue course c m → IsTrue later d m
    old_true m h n reply to says telling =
        let z = h n reply to says telling in (
          t.up n m.head.epoch m.head.number z.0,
          subst (λ (q : Question). Tells d q.place reply) (sym (t.stays n m.head.epoch m.head.number z.0)) (still_tells n m.head.epoch m.head.number (course n m.head.epoch m.head.number).place reply refl z.1),
        )

    -- ---- what is told now

    module _ (r : Message) (f : IsFresh c d r) (n : ℕ) (user : List ℕ) (from : f.m.head.from ≡ Admin n) where
      abbrev i : ℕ
      i = f.i

      abbrev dur : Durable
      dur = disk_at c i

      abbrev v : VolState
      v = (c.hosts i).state.vol

      abbrev decision : VolDecision
      decision = vol_decides (Server i) dur v (Whole f.m)

      server_is : (j : ℕ) → f.m.head.to ≡ Server j → i ≡ j
      server_is j to = let e : Server i ≡ Server j = sym f.to ∙ to in cc

      -- a list
      listed_now : (h : Hold) (server : ℕ) (ls : List ListedVolume) → f.m.carried ≡ carried.Call user (ask.Volume (calls.ListVols (family h))) → f.m.head.to ≡ Server server → f.m.head.stamp ≡ h.stamp → r.carried ≡ carried.Reply (tell.Volume (volumes.ListVols ls)) →
          (h.stamp ≤ stored_stamp d server (family h)) × (lock_at d (family h) ≡ Some h.stamp → has_copy_at d (family h) server ≡ true → list_any (is_listed (family h)) ls ≡ true)
      listed_now h server ls is to stamp says =
          let call : VolCall = calls.ListVols (family h) in
          let z : Listing dur r (d.hosts i).state.file f.m.head call ls = listing dur r (d.hosts i).state.file f.m.head call ls decision f.answers (decides_content (Server i) dur v f.m user call is) says (λ k. stamps_rise s done x i k) in
          let same : i ≡ server = server_is server to in (
            subst (λ (j : ℕ). h.stamp ≤ stored_stamp d j (family h)) same (subst (λ (b : ℕ). b ≤ stored_stamp d i (family h)) stamp z.stored),
            λ locked has. has_by ls z (subst (λ (j : ℕ). has_copy_at d (family h) j ≡ true) (sym same) has),
          )
        where
          there_by : (y : Stored) → IsLeft dur.volumes (volumes_in d i) → get (family h) (volumes_in d i) ≡ Some y → get (family h) dur.volumes ≡ Some y
          there_by y (inl now) at = ap (get (family h)) (sym now) ∙ at
          there_by y (inr now) at = kept_found is_unflagged 0 (family h) dur.volumes y (ascending copy_test MakesCopy copies_turn s done i) (ap (get (family h)) (sym now) ∙ at)

          list_is : (a b : ℕ) → calls.ListVols a ≡ calls.ListVols b → a ≡ b
          list_is a b e = cc

          has_by : (ls : List ListedVolume) → Listing dur r (d.hosts i).state.file f.m.head (calls.ListVols (family h)) ls → has_copy_at d (family h) i ≡ true → list_any (is_listed (family h)) ls ≡ true
          has_by ls z has =
              let y = copy_of (get (family h) (volumes_in d i)) has in
              let there : get (family h) dur.volumes ≡ Some y.0 = there_by y.0 z.left y.1.0 in
              let own : y.0.volume.family ≡ family h = read_write_is_family s done i (family h) y.0 there y.1.1 in
              let fam : family h ≡ z.list.family = list_is (family h) z.list.family z.list.is in
              ap (list_any (is_listed (family h))) (z.list.has ∙ ap (λ (k : ℕ). list_of k dur) (sym fam)) ∙ has_listed (family h) dur.volumes y.0 there own

      -- a deletion, in the transaction that was claimed
      module _ (m : Mend) (server number : ℕ) (is : f.m.carried ≡ carried.Call user (ask.Volume (calls.DeleteVolume m.volume number))) (to : f.m.head.to ≡ Server server) (stamp : f.m.head.stamp ≡ m.stamp) (says : r.carried ≡ carried.Reply (tell.Volume volumes.DeleteVolume)) where
        abbrev call : VolCall
        call = calls.DeleteVolume m.volume number

        gone : Deletion dur r (d.hosts i).state.file f.m.head call decision
        gone = deletion dur r (d.hosts i).state.file f.m.head call decision f.answers (decides_content (Server i) dur v f.m user call is) says

        saved : IsSaved dur v f.m.head f.m.carried gone.deed
        saved = subst (Saves dur v f.m.head f.m.carried) gone.is (decided_saves (Server i) dur v f.m)

        deletes : Deletes v.transactions saved.call gone.deletes.id
        deletes = subst (BodyAsked dur v.transactions saved.call) gone.deletes.writes saved.asked

        saved_call : saved.call ≡ call
        saved_call = let e : carried.Call saved.user (ask.Volume saved.call) ≡ carried.Call user (ask.Volume call) = sym saved.is_call ∙ is in cc

        family_is : deletes.family ≡ m.volume
        family_is = let e : calls.DeleteVolume deletes.family deletes.number ≡ calls.DeleteVolume m.volume number = sym deletes.is ∙ saved_call in cc

        number_is : deletes.number ≡ number
        number_is = let e : calls.DeleteVolume deletes.family deletes.number ≡ calls.DeleteVolume m.volume number = sym deletes.is ∙ saved_call in cc

        stored_is : stored_stamp c i m.volume ≡ f.m.head.stamp
        stored_is = subst (λ (k : ℕ). stamp_of k dur ≡ f.m.head.stamp) (ap family_of saved_call) (saved.stored (subst IsWithin (sym gone.deletes.writes) tt))

        finds : Finds c i m.volume number f.m deletes.within.t
        finds = record {
          user = user;
          call = call;
          is_call = is;
          live = f.live;
          runs = saved.runs;
          stored = stored_is;
          there = subst (λ (k : ℕ). found k number v.transactions ≡ Some deletes.within.t) family_is (subst (λ (k : ℕ). found deletes.family k v.transactions ≡ Some deletes.within.t) number_is deletes.within.there);
        }

        same_le : (a b : ℕ) → a ≡ b → b ≤ a
        same_le a b e = omega (arith, e)

        -- where the claim is true
        deleted_now : deletes.within.t.volume ≡ m.volume → (m.stamp ≤ stored_stamp d server m.volume) × (lock_at d m.volume ≡ Some m.stamp → has_copy_at d m.volume server ≡ false)
        deleted_now claim =
            let same : i ≡ server = server_is server to in
            let id : gone.deletes.id ≡ m.volume = sym deletes.within.on ∙ claim in
            let none : has_copy_at d m.volume i ≡ false = deleted_gone dur m.volume (volumes_in d i) (subst (λ (b : RecordBody). IsLeft (done_by b dur).volumes (volumes_in d i)) (gone.deletes.writes ∙ ap bodies.Delete id) gone.left) in (
              subst (λ (j : ℕ). m.stamp ≤ stored_stamp d j m.volume) same (rose i m.volume m.stamp (same_le (stored_stamp c i m.volume) m.stamp (stored_is ∙ stamp))),
              λ locked. subst (λ (j : ℕ). has_copy_at d m.volume j ≡ false) same none,
            )

      -- ---- the claim: the transaction was told two calls before

      module _ (on : AreOnCourse course c) (m : Mend) (server number : ℕ) (at : (course n f.m.head.epoch f.m.head.number).place ≡ places.Mends m (mending.Deletes server number)) (way : Way course c.sent n f.m.head.epoch f.m.head.number)
          (is : f.m.carried ≡ carried.Call user (ask.Volume (calls.DeleteVolume m.volume number))) (to : f.m.head.to ≡ Server server) (stamp : f.m.head.stamp ≡ m.stamp) (says : r.carried ≡ carried.Reply (tell.Volume volumes.DeleteVolume)) where
        abbrev e : ℕ
        e = f.m.head.epoch

        abbrev X : Type 0
        X = (deletes m server number is to stamp says).within.t.volume ≡ m.volume

        none_early : (q : Place) → q ≡ places.Mends m (mending.Deletes server number) → IsEarly q → ⊥
        none_early q same early = subst IsEarly same early

        none_first : (q : Place) → q ≡ places.Mends m (mending.Points server number) → IsEarly q → ⊥
        none_first q same early = subst IsEarly same early

        no_mend : (k : ℕ) (step : Mending) → (course n e zero).place ≡ places.Mends m step → ⊥
        no_mend k step same = let zero_is : (course n e zero).place ≡ places.Seeks causes.Asked = ap (λ (q : Question). q.place) ((are_numbered s done).zero_asks n e) in let no : places.Seeks causes.Asked ≡ places.Mends m step = sym zero_is ∙ same in absurd cc

        is_some_stamp : m.stamp ≡ 0 → ⊥
        is_some_stamp none = some s done n e f.m.head.number mends (ap task_at at) (ap stamp_at_place at ∙ none)

        two_more : (j : ℕ) → suc (suc j) ≡ j + 2
        two_more j = omega (arith)

        one_more : (j : ℕ) → suc j ≡ j + 1
        one_more j = omega (arith)

        by_both : (j : ℕ) → f.m.head.number ≡ suc (suc j) → (a : Question) (w : WasAnswered c.sent n e (suc j) (course n e (suc j)) a) → (course n e (suc j)).place ≡ places.Mends m (mending.Points server number) →
            (b : Question) (u : WasAnswered c.sent n e j (course n e j) b) → (course n e j).place ≡ places.Mends m (mending.Takes server) → u.reply ≡ tell.Volume (volumes.TransCreate number) → (z : IsCalled course c n e (suc j) (ask_in (course n e (suc j))).callee) (y : IsCalled course c n e j (ask_in (course n e j)).callee) → X
        by_both j k a w at_w b u at_u told z y =
            let asks_w : ask_in (course n e (suc j)) ≡ asks_at (course n e (suc j)).errand (places.Mends m (mending.Points server number)) = ask_is n e (suc j) (places.Mends m (mending.Points server number)) at_w in
            let asks_u : ask_in (course n e j) ≡ asks_at (course n e j).errand (places.Mends m (mending.Takes server)) = ask_is n e j (places.Mends m (mending.Takes server)) at_u in
            let call_w : ask.Volume (calls.SetForwarding m.volume number m.named) ≡ z.call = sym (ap (λ (q : Ask). q.call) asks_w) ∙ z.asks in
            let call_u : ask.Volume (calls.TransCreate m.volume m.volume offline) ≡ y.call = sym (ap (λ (q : Ask). q.call) asks_u) ∙ y.asks in
            let same : i ≡ server = server_is server to in
            let from_u : u.m.head.from ≡ Server i = u.callee ∙ (ap (λ (q : Ask). q.callee) asks_u ∙ ap Server (sym same)) in
            later_claim s done n i e j number m.volume m.volume m.stamp f.m (deletes m server number is to stamp says).within.t is_some_stamp
            (record {
              call = y.m;
              asked = record { place = y.place; at = y.at; from = y.from; to = y.to ∙ (ap (λ (q : Ask). q.callee) asks_u ∙ ap Server (sym same)); in_epoch = y.in_epoch; of_number = y.of_number; under = y.stamp ∙ ap (λ (q : Ask). q.stamp) asks_u };
              for_one = record { user = y.user; call = calls.TransCreate m.volume m.volume offline; asks = y.is ∙ ap (carried.Call y.user) (sym call_u); begins = (refl, refl) };
              place = u.place;
              reply = u.m;
              at = u.there;
              from = from_u;
              to = u.to;
              in_epoch = u.in_epoch;
              of_number = u.of_number;
              tells = inl (u.says ∙ ap carried.Reply told);
            })
            z.place z.m z.at z.from z.in_epoch (z.of_number ∙ one_more j) (subst AsksNone (sym (z.is ∙ ap (carried.Call z.user) (sym call_w))) tt) (subst IsCall (sym z.is) tt)
            (record { place = f.place; at = f.sent; from = from; to = f.to; in_epoch = refl; of_number = k ∙ two_more j; under = stamp })
            (finds m server number is to stamp says)

        by_first : (j : ℕ) → f.m.head.number ≡ suc (suc j) → (a : Question) (w : WasAnswered c.sent n e (suc j) (course n e (suc j)) a) → (course n e (suc j)).place ≡ places.Mends m (mending.Points server number) → is_told w.m.carried ≡ true →
            IsEarly (course n e (suc j)).place ⊎ WasPrior c.sent n e j (course n e j) (course n e (suc j)) → X
        by_first j k a w at_w told (inl early) = absurd (none_first (course n e (suc j)).place at_w early)
        by_first j k a w at_w told (inr u) =
            let p : Prior (places.Mends m (mending.Points server number)) (course n e j).place u.answered'.reply = subst (λ (q : Place). Prior q (course n e j).place u.answered'.reply) at_w u.prior in
            let its : is_told u.answered'.m.carried ≡ true = told_is u.answered'.m.carried u.answered'.reply u.answered'.says (ap (λ (q : Reply). is_told (carried.Reply q)) p.1) in
            by_both j k a w at_w (course n e (suc j)) u.answered' p.0 p.1 (called on n e (suc j) a w told) (called on n e j (course n e (suc j)) u.answered' its)

        abbrev AtNumber : ℕ → Type 0
        AtNumber k = (course n e k).place ≡ places.Mends m (mending.Deletes server number)

        by_number : (k : ℕ) → f.m.head.number ≡ k → AtNumber k → Way course c.sent n e k → X
        by_number zero is_k at_k way_k = absurd (no_mend zero (mending.Deletes server number) at_k)
        by_number (suc zero) is_k at_k way_k = absurd (first_by (before_it c.sent n e zero (course n e zero) (course n e (suc zero)) way_k.0))
          where
            first_by : IsEarly (course n e (suc zero)).place ⊎ WasPrior c.sent n e zero (course n e zero) (course n e (suc zero)) → ⊥
            first_by (inl early) = none_early (course n e (suc zero)).place at_k early
            first_by (inr w) =
                let p : Prior (places.Mends m (mending.Deletes server number)) (course n e zero).place w.answered'.reply = subst (λ (q : Place). Prior q (course n e zero).place w.answered'.reply) at_k w.prior in
                no_mend zero (mending.Points server number) p.0
        by_number (suc (suc j)) is_k at_k way_k = second_by (before_it c.sent n e (suc j) (course n e (suc j)) (course n e (suc (suc j))) way_k.0)
          where
            second_by : IsEarly (course n e (suc (suc j))).place ⊎ WasPrior c.sent n e (suc j) (course n e (suc j)) (course n e (suc (suc j))) → X
            second_by (inl early) = absurd (none_early (course n e (suc (suc j))).place at_k early)
            second_by (inr w) =
                let p : Prior (places.Mends m (mending.Deletes server number)) (course n e (suc j)).place w.answered'.reply = subst (λ (q : Place). Prior q (course n e (suc j)).place w.answered'.reply) at_k w.prior in
                let its : is_told w.answered'.m.carried ≡ true = told_is w.answered'.m.carried w.answered'.reply w.answered'.says (ap (λ (q : Reply). is_told (carried.Reply q)) p.1) in
                by_first j is_k (course n e (suc (suc j))) w.answered' p.0 its (before_it c.sent n e j (course n e j) (course n e (suc j)) way_k.1.0)

        claim : X
        claim = by_number f.m.head.number refl at way

      -- ---- what the reply tells then

      module _ (on : AreOnCourse course c) (call : Call) (carries : f.m.carried ≡ carried.Call user call) (its : IsOnCourse course c.sent n (c.admins n) f.m.head call) where
        abbrev q : Question
        q = course n f.m.head.epoch f.m.head.number

        new_tells : (p : Place) (reply : Reply) → q.place ≡ p → r.carried ≡ carried.Reply reply → Tells d p reply
        new_tells (places.Surveys h (purposes.Mends cause) server left seen) (tell.Volume (volumes.ListVols ls)) is says =
            let asks : ask_in q ≡ asks_at q.errand (places.Surveys h (purposes.Mends cause) server left seen) = ask_is n f.m.head.epoch f.m.head.number _ is in
            listed_now h server ls (carries ∙ ap (carried.Call user) (sym its.asks ∙ ap (λ (a : Ask). a.call) asks)) (its.callee ∙ ap (λ (a : Ask). a.callee) asks) (its.stamp ∙ ap (λ (a : Ask). a.stamp) asks) says
        new_tells (places.Mends m (mending.Deletes server number)) (tell.Volume volumes.DeleteVolume) is says =
            let asks : ask_in q ≡ asks_at q.errand (places.Mends m (mending.Deletes server number)) = ask_is n f.m.head.epoch f.m.head.number _ is in
            let it_carries : f.m.carried ≡ carried.Call user (ask.Volume (calls.DeleteVolume m.volume number)) = carries ∙ ap (carried.Call user) (sym its.asks ∙ ap (λ (a : Ask). a.call) asks) in
            let to : f.m.head.to ≡ Server server = its.callee ∙ ap (λ (a : Ask). a.callee) asks in
            let stamp : f.m.head.stamp ≡ m.stamp = its.stamp ∙ ap (λ (a : Ask). a.stamp) asks in
            deleted_now m server number it_carries to stamp says (claim on m server number is its.way it_carries to stamp says)
        new_tells p reply is says = tt

    pub new_true : (r : Message) → IsFresh c d r → IsTrue later d r
    new_true r f n reply to says telling =
        let dur : Durable = disk_at c f.i in
        let v : VolState = (c.hosts f.i).state.vol in
        let head : r.head ≡ reply_head dur.boot f.m.head = head_of dur r (d.hosts f.i).state.file f.m.head (vol_decides (Server f.i) dur v (Whole f.m)) f.answers (vol_decides_so (Server f.i) dur v f.m).of in
        let z : IsSome f.m.carried = call_in f.m.carried (is_call (Server f.i) dur v f.m.head f.m.carried r (d.hosts f.i).state.file f.answers) in
        let from : f.m.head.from ≡ Admin n = sym (ap (λ (h : Head). h.to) head) ∙ to in
        let its : IsOnCourse course c.sent n (c.admins n) f.m.head z.call = t.before.calls f.place n f.m z.user z.call f.sent from z.is in
        let tells : Tells d (course n f.m.head.epoch f.m.head.number).place reply = new_tells r f n z.user from t.before z.call z.is its (course n f.m.head.epoch f.m.head.number).place reply refl says in
        subst (λ (h : Head). IsUpTo h.epoch h.number (d.admins n) × Tells d (later n h.epoch h.number).place reply) (sym head)
        (t.up n f.m.head.epoch f.m.head.number its.up_to, subst (λ (q : Question). Tells d q.place reply) (sym (t.stays n f.m.head.epoch f.m.head.number its.up_to)) tells)
