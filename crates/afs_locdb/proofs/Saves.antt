-- A change is made where there is room for its record; else its call is refused.
use Rattle.std.proofs.Common.{◌≡◌, ◌+◌, ℕ, Bool, true, false, List, [], ◌∷◌, Option, Some, None, inr, refl, sym, ap, subst, ◌∙◌, if◌then◌else◌}
use Rattle.std.specs.Prelude.{pos, Result, Ok, Err, IsErrOf}
use Rattle.afs_disk.specs.Disk.{Setting}
use Rattle.spec_history.specs.declared.lines.Outs.{Outs}
use Rattle.afs_num.specs.Nodes.{IsNode}
use Rattle.afs_num.specs.declared.messages.Message.{Message}
use Rattle.afs_num.specs.declared.types.Head.{Head}
use Rattle.spec_model.specs.Calls.{call_seated}
use Rattle.spec_model.specs.Messages.{parcels_read}
use Rattle.spec_records.specs.LocDurable.{can_do, loc_folded, loc_has_room, LocDurable}
use Rattle.spec_records.specs.LocRecords.{LocRecord}
use Rattle.spec_rows.specs.LocRow.{loc_lasting_after, loc_record_of, loc_saved, refuses, reply_to, roomed, saves, LocChange, LocDecision, LocLasting}
use Rattle.spec_rows.specs.ServerRow.{no_room, refusal, seat_for}
use Rattle.spec_rows.specs.LocSteps.{loc_begun_after}
use Rattle.afs_locdb.specs.Handling.{loc_record_decided, Answers, IsClosed, IsUntouched}
use Rattle.afs_locdb.specs.Saving.{Commits, DoesAll, IsChangeOf, IsInterrupted, IsMadeOf, LocStoreOf, Prepares, Puts}
use Rattle.afs_locdb.specs.Seen.{lasting_of, loc_seen, Database, IsInBoot}
use Rattle.afs_server_parts.specs.declared.faults.NodeFault.{NodeFault}
use Rattle.afs_server_parts.specs.declared.faults.NodeFault.TheVariants as nodes
use Rattle.afs_locdb.specs.declared.saving.Planned.{Planned}
use Rattle.afs_locdb.proofs.Saved.{lasting_left}
use Rattle.afs_saving.proofs.Still.{prepared_still}
use Rattle.afs_saving.specs.Kept.{AreToNodes}

abbrev some : {A : Type 0} → A → Option A
some x = Some x

some_is : {A : Type 0} (x y : A) → some x ≡ some y → x ≡ y
some_is x y e = cc

-- ---- whether there is room

pub was_prepared : {D : Type 0} (r : LocRecord) (s t : LocStoreOf D) (b : Bool) → b ≡ true → Prepares {E = NodeFault} r s t (Ok b) → t ≡ record s { disk = t.disk; prepared = Some r }
was_prepared {D} r s t true e is = is
was_prepared {D} r s t false e is = absurd cc

pub was_full : {D : Type 0} (r : LocRecord) (s t : LocStoreOf D) (b : Bool) → b ≡ false → Prepares {E = NodeFault} r s t (Ok b) → t ≡ record s { disk = t.disk }
was_full {D} r s t true e is = absurd cc
was_full {D} r s t false e is = is

-- either way, what a store has besides is the same
pub is_besides : {D : Type 0} (r : LocRecord) (s t : LocStoreOf D) (b : Bool) → Prepares {E = NodeFault} r s t (Ok b) → (t.node ≡ s.node) × ((t.durable ≡ s.durable) × (t.closed ≡ s.closed))
is_besides {D} r s t true is = (ap (λ (u : LocStoreOf D). u.node) is, (ap (λ (u : LocStoreOf D). u.durable) is, ap (λ (u : LocStoreOf D). u.closed) is))
is_besides {D} r s t false is = (ap (λ (u : LocStoreOf D). u.node) is, (ap (λ (u : LocStoreOf D). u.durable) is, ap (λ (u : LocStoreOf D). u.closed) is))

-- with another store in the place of its own
abbrev pub in_store : {D : Type 0} → LocStoreOf D → Database D → Database D
in_store {D} m old = record old { store = m }

-- a database whose callers are those of another is that one over its own store
pub placed_in : {D : Type 0} (old mid : Database D) → mid.boot ≡ old.boot → mid.seats ≡ old.seats → mid ≡ in_store mid.store old
placed_in {D} old mid boot seats = λ i. record { store = mid.store; boot = boot i; seats = seats i }

pub untouched : {D : Type 0} (old new : Database D) (m : LocStoreOf D) → m ≡ record old.store { disk = m.disk; prepared = m.prepared } → new ≡ in_store m old → IsUntouched old new
untouched {D} old new m same is = subst (λ (b : Database D). IsUntouched old b) (sym is) (ap (λ (u : LocStoreOf D). in_store u old) same)

-- nothing but the disk's room is another
pub same_store : {D : Type 0} (s t : LocStoreOf D) → t ≡ record s { disk = t.disk } → t ≡ record s { disk = t.disk; prepared = t.prepared }
same_store {D} s t is = is ∙ (λ i. record s { disk = t.disk; prepared = sym (ap (λ (u : LocStoreOf D). u.prepared) is) i })

-- memory was wanting
pub wanting : {D : Type 0} (d : LocDecision) (old new : Database D) (m : LocStoreOf D) (result : Result Outs NodeFault) → result ≡ Err nodes.OutOfMemory → m ≡ record old.store { disk = m.disk } → new ≡ in_store m old → DoesAll d old new result
wanting {D} d old new m result is same in_place =
    let left : new.store.prepared ≡ old.store.prepared = ap (λ (b : Database D). b.store.prepared) in_place ∙ ap (λ (u : LocStoreOf D). u.prepared) same in
    let prepared = prepared_still {T = Outs} (loc_record_decided old.store.durable.boot d) old.store.prepared new.store.prepared (Err nodes.OutOfMemory) tt left in
    subst (λ (r : Result Outs NodeFault). DoesAll d old new r) (sym is) (untouched old new m (same_store old.store m same) in_place, prepared)

module _ {D : Type 0} (head : Head) (c : LocChange) (old new : Database D) (m : LocStoreOf D) (p : Planned) where
  room_by : (b : Bool) → loc_has_room old.store.durable (loc_record_of old.store.durable.boot head c) ≡ b → b ≡ true → roomed (loc_seen old) head c ≡ saves head c
  room_by true e is = rw e refl
  room_by false e is = absurd cc

  full_by : (b : Bool) → loc_has_room old.store.durable (loc_record_of old.store.durable.boot head c) ≡ b → b ≡ false → roomed (loc_seen old) head c ≡ refuses head no_room
  full_by true e is = absurd cc
  full_by false e is = rw e refl

  pub is_roomed : (b : Bool) → IsChangeOf old head c p → b ≡ loc_has_room old.store.durable p.rec → b ≡ true → roomed (loc_seen old) head c ≡ saves head c
  is_roomed b change room has = room_by b (ap (loc_has_room old.store.durable) (sym change.rec_is) ∙ sym room) has

  pub is_full : (b : Bool) → IsChangeOf old head c p → b ≡ loc_has_room old.store.durable p.rec → b ≡ false → roomed (loc_seen old) head c ≡ refuses head no_room
  is_full b change room lacks = full_by b (ap (loc_has_room old.store.durable) (sym change.rec_is) ∙ sym room) lacks

  -- ---- with room

  saved_made : (outs : Outs) → m ≡ record old.store { disk = m.disk; prepared = Some p.rec } → IsChangeOf old head c p → can_do c.deed old.store.durable.entries ≡ true → IsNode head.from → AreToNodes old.store.durable.kept → IsInBoot old →
      Puts head p (in_store m old) new (Ok outs) → IsMadeOf (saves head c) old new outs
  saved_made outs prepared change can node are serves puts =
      let d = old.store.durable in
      let commits = puts.1.1.1 in
      let same : m.durable ≡ d = ap (λ (u : LocStoreOf D). u.durable) prepared in
      let same_node : m.node ≡ old.store.node = ap (λ (u : LocStoreOf D). u.node) prepared in
      let same_closed : m.closed ≡ old.store.closed = ap (λ (u : LocStoreOf D). u.closed) prepared in
      let same_count : m.count ≡ old.store.count = ap (λ (u : LocStoreOf D). u.count) prepared in
      let same_drawn : m.drawn ≡ old.store.drawn = ap (λ (u : LocStoreOf D). u.drawn) prepared in
      let fold : loc_folded (loc_record_of d.boot head c) d ≡ Some new.store.durable = ap (λ (r : LocRecord). loc_folded r d) (sym change.rec_is) ∙ (ap (loc_folded p.rec) (sym same) ∙ commits.1) in
      let lasting : lasting_of new.store.durable ≡ loc_lasting_after head c (lasting_of d) = lasting_left head c d new.store.durable can change.read node are fold in
      let seats : new.seats ≡ call_seated (seat_for head (reply_to d.boot head c.reply)) old.seats = puts.1.1.0 ∙ ap (λ (x : Message). call_seated (seat_for head x) old.seats) change.reply_is in
      let store : new.store ≡ record old.store { durable = new.store.durable; disk = new.store.disk; prepared = None; count = old.store.count + 1 } =
      commits.0 ∙ (λ i. record { durable = new.store.durable; disk = new.store.disk; node = same_node i; prepared = None; closed = same_closed i; count = same_count i + 1; drawn = same_drawn i }) in
      let none : new.store.prepared ≡ None = ap (λ (u : LocStoreOf D). u.prepared) store in
      let count : new.store.count ≡ old.store.count + 1 = ap (λ (u : LocStoreOf D). u.count) store in
      record {
        makes = record {
          state = λ i. record { lasting = lasting i; seats = seats i };
          lines = ap (λ (o : Outs). o.lines) puts.0 ∙ change.lines;
          sent = ap (λ (o : Outs). parcels_read o.parcels) puts.0 ∙ change.sent;
        };
        serves = record { boot = puts.1.0 ∙ (serves.boot ∙ sym (ap (λ (l : LocLasting). l.boot) lasting)); node = ap (λ (u : LocStoreOf D). u.node) store ∙ serves.node };
        store = store ∙ (λ i. record old.store { durable = new.store.durable; disk = new.store.disk; prepared = sym none i; count = sym count i });
        done = (fold, count);
        prepared = none;
      }

  interrupted : m ≡ record old.store { disk = m.disk; prepared = Some p.rec } → IsChangeOf old head c p → can_do c.deed old.store.durable.entries ≡ true → IsNode head.from → AreToNodes old.store.durable.kept →
      Commits {T = Outs} p.rec m new.store (Err nodes.Down) → IsInterrupted (saves head c) old new
  interrupted prepared change can node are closed =
      let d = old.store.durable in
      let same : m.durable ≡ d = ap (λ (u : LocStoreOf D). u.durable) prepared in
      let same_node : m.node ≡ old.store.node = ap (λ (u : LocStoreOf D). u.node) prepared in
      let same_count : m.count ≡ old.store.count = ap (λ (u : LocStoreOf D). u.count) prepared in
      let same_drawn : m.drawn ≡ old.store.drawn = ap (λ (u : LocStoreOf D). u.drawn) prepared in
      record {
        closed = closed ∙ (λ i. record { durable = same i; disk = new.store.disk; node = same_node i; prepared = None; closed = true; count = same_count i; drawn = same_drawn i });
        some = λ none. absurd cc;
        left = λ r has e folds_to. lasting_left head c d e can change.read node are (ap (λ (q : LocRecord). loc_folded q d) (some_is (loc_record_of d.boot head c) r has) ∙ folds_to);
      }

  prepared_same : m ≡ record old.store { disk = m.disk; prepared = Some p.rec } → m ≡ record old.store { disk = m.disk; prepared = m.prepared }
  prepared_same is = is ∙ (λ i. record old.store { disk = m.disk; prepared = sym (ap (λ (u : LocStoreOf D). u.prepared) is) i })

  saved_by : (result : Result Outs NodeFault) → m ≡ record old.store { disk = m.disk; prepared = Some p.rec } → IsChangeOf old head c p → can_do c.deed old.store.durable.entries ≡ true → IsNode head.from → AreToNodes old.store.durable.kept → IsInBoot old →
      Puts head p (in_store m old) new result → DoesAll (saves head c) old new result
  saved_by (Ok outs) prepared change can node are serves puts = saved_made outs prepared change can node are serves puts
  saved_by (Err nodes.OutOfMemory) prepared change can node are serves puts =
      let own = ap (λ (b : Database D). b.store.prepared) puts ∙ (ap (λ (u : LocStoreOf D). u.prepared) prepared ∙ ap (λ (r : LocRecord). Some r) change.rec_is) in
      (untouched old new m (prepared_same prepared) puts, inr own)
  saved_by (Err nodes.Down) prepared change can node are serves puts = interrupted prepared change can node are puts

  -- ---- without room

  refused_by : (result : Result Outs NodeFault) → m ≡ record old.store { disk = m.disk } → Answers head (refusal m.durable.boot head (pos 108)) (in_store m old) new result → (IsErrOf result nodes.Down → ⊥) → DoesAll (refuses head no_room) old new result
  refused_by (Ok outs) full answers up =
      let is = subst (λ (u : LocStoreOf D). Answers {E = NodeFault} head (refusal u.durable.boot head (pos 108)) (in_store u old) new (Ok outs)) full answers in
      let same = is.1.1 in
      let durable : new.store.durable ≡ old.store.durable = ap (λ (u : LocStoreOf D). u.durable) same in
      let disk : new.store.disk ≡ m.disk = ap (λ (u : LocStoreOf D). u.disk) same in
      let prepared : new.store.prepared ≡ old.store.prepared = ap (λ (u : LocStoreOf D). u.prepared) same in
      let count : new.store.count ≡ old.store.count = ap (λ (u : LocStoreOf D). u.count) same in
      record {
        makes = record { state = is.0.state; lines = is.0.lines; sent = is.0.sent };
        serves = is.1.0;
        store = same ∙ (λ i. record old.store { durable = sym durable i; disk = sym disk i; prepared = sym prepared i; count = sym count i });
        done = (durable, count);
        prepared = prepared;
      }
  refused_by (Err nodes.OutOfMemory) full answers up =
      (untouched old new m (same_store old.store m full) answers, ap (λ (b : Database D). b.store.prepared) answers ∙ ap (λ (u : LocStoreOf D). u.prepared) full)
  refused_by (Err nodes.Down) full answers up = absurd (up refl)

  -- ---- either way

  pub does_all : (result : Result Outs NodeFault) (b : Bool) → b ≡ loc_has_room old.store.durable p.rec → Prepares {E = NodeFault} p.rec old.store m (Ok b) → IsChangeOf old head c p → can_do c.deed old.store.durable.entries ≡ true → IsNode head.from → AreToNodes old.store.durable.kept → IsInBoot old →
      (b ≡ true → Puts head p (in_store m old) new result) → (b ≡ false → Answers head (refusal m.durable.boot head (pos 108)) (in_store m old) new result) → (b ≡ false → IsErrOf result nodes.Down → ⊥) → DoesAll (roomed (loc_seen old) head c) old new result
  does_all result true room prepares change can node are serves puts answers up =
      subst (λ (d : LocDecision). DoesAll d old new result) (sym (is_roomed true change room refl)) (saved_by result prepares change can node are serves (puts refl))
  does_all result false room prepares change can node are serves puts answers up =
      subst (λ (d : LocDecision). DoesAll d old new result) (sym (is_full false change room refl)) (refused_by result prepares (answers refl) (up refl))
