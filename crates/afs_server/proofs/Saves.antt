-- A change whose record is prepared, or for which there is no room, is done as the row does it.
use Rattle.std.proofs.Common.{◌≡◌, ◌≤◌, ◌+◌, ℕ, Bool, true, false, List, [], Option, Some, None, inr, refl, sym, ap, subst, ◌∙◌}
use Rattle.std.specs.Prelude.{Result, Ok, Err, pos, IsErrOf, IsSome}
use Rattle.afs_num.specs.Nodes.{IsNode}
use Rattle.afs_num.specs.declared.messages.Message.{Message}
use Rattle.afs_num.specs.declared.records.StoreRecord.{StoreRecord}
use Rattle.afs_num.specs.declared.types.Head.{Head}
use Rattle.afs_num.specs.declared.volumes.Change as made_of
use Rattle.spec_history.specs.declared.lines.Outs.{Outs}
use Rattle.spec_ideal.specs.Tables.{get}
use Rattle.spec_records.specs.Durable.{has_room, Durable}
use Rattle.spec_fold.specs.Fold.{folded}
use Rattle.spec_rows.specs.Callbacks as row
use Rattle.spec_rows.specs.Callbacks.{turn_for}
use Rattle.spec_rows.specs.ServerRow.{begun_after, no_room, record_of, refusal, refuses, roomed, saves, Change, Decision}
use Rattle.spec_rows.specs.States.{durable_of}
use Rattle.afs_callbacks.specs.States.{CallbackState}
use Rattle.afs_message.specs.Spelled.{Spells}
use Rattle.afs_volstore.specs.Stores.{Store}
use Rattle.afs_decisions.specs.Deciding.{IsMade}
use Rattle.afs_server.specs.Handling.{record_decided, server_seen, Answers}
use Rattle.afs_server.specs.Putting.{DoesAll, IsMadeOf}
use Rattle.afs_server_parts.specs.declared.turns.Stand.{Stand}
use Rattle.afs_server_parts.specs.Turning.{answer_turn}
use Rattle.afs_callbacks.specs.Saving.{change_kept, IsPlanned}
use Rattle.afs_server.specs.Saving.{IsPut, Puts}
use Rattle.afs_server.specs.Seen.{callbacks_of, Memory, Serves}
use Rattle.afs_server_parts.specs.declared.faults.NodeFault.{NodeFault}
use Rattle.afs_server_parts.specs.declared.faults.NodeFault.TheVariants as faults
use Rattle.afs_callbacks.specs.declared.saving.Planned.{Planned}
use Rattle.afs_server.proofs.Making.{as_planned}
use Rattle.afs_server.proofs.Folded.{folds, lasting_left, record_is, reply_is}
use Rattle.afs_server.proofs.Saved.{effects_as, saved_made}
use Rattle.afs_sharing.specs.Stores.{stand_of, IsClosed, SameStore, Prepares}
use Rattle.afs_sharing.specs.Lasting.{lasting_of}
use Rattle.afs_saving.proofs.Still.{prepared_still}

-- ---- what was planned, by what the store told

pub planned_as : {D : Type 0} (s : Store D) (clock : ℕ) (head : Head) (id : ℕ) (x y : made_of.Change) (old : Memory) (p : Planned) (who : Stand) (k : CallbackState) → x ≡ y → who ≡ stand_of s → k ≡ callbacks_of old →
    IsPlanned who clock head id x k p → IsPlanned (stand_of s) clock head id y (callbacks_of old) p
planned_as {D} s clock head id x y old p who k same stands seen plan =
    as_planned (λ (a : Stand) (j : CallbackState). IsPlanned a clock head id y j p) s old who k stands seen (subst (λ (z : made_of.Change). IsPlanned who clock head id z k p) same plan)

-- ---- whether there is room

pub was_prepared : {D : Type 0} (r : StoreRecord) (s t : Store D) (b : Bool) → b ≡ true → Prepares {E = NodeFault} r s t (Ok b) → t ≡ record s { prepared = Some r; disk = t.disk }
was_prepared {D} r s t true e is = is
was_prepared {D} r s t false e is = absurd cc

pub was_full : {D : Type 0} (r : StoreRecord) (s t : Store D) (b : Bool) → b ≡ false → Prepares {E = NodeFault} r s t (Ok b) → t ≡ record s { disk = t.disk }
was_full {D} r s t true e is = absurd cc
was_full {D} r s t false e is = is

-- either way, what a store has besides is the same
pub is_besides : {D : Type 0} (r : StoreRecord) (s t : Store D) (b : Bool) → Prepares {E = NodeFault} r s t (Ok b) → (t.node ≡ s.node) × ((t.durable ≡ s.durable) × ((t.drawn ≡ s.drawn) × (t.closed ≡ s.closed)))
is_besides {D} r s t true is = (ap (λ (u : Store D). u.node) is, (ap (λ (u : Store D). u.durable) is, (ap (λ (u : Store D). u.drawn) is, ap (λ (u : Store D). u.closed) is)))
is_besides {D} r s t false is = (ap (λ (u : Store D). u.node) is, (ap (λ (u : Store D). u.durable) is, (ap (λ (u : Store D). u.drawn) is, ap (λ (u : Store D). u.closed) is)))

pub same_store : {D : Type 0} (s t : Store D) → t ≡ record s { disk = t.disk } → SameStore s t
same_store {D} s t is = is ∙ (λ i. record s { disk = t.disk; prepared = sym (ap (λ (u : Store D). u.prepared) is) i })

-- memory was wanting
pub wanting : {D : Type 0} (clock : ℕ) (d : Decision) (turn : row.CallbackStep) (old : Memory) (s t : Store D) (result : Result Outs NodeFault) → result ≡ Err faults.OutOfMemory → t ≡ record s { disk = t.disk } → DoesAll clock d turn old old s t result
wanting {D} clock d turn old s t result is same =
    let prepared = prepared_still {T = Outs} (record_decided s.durable.boot clock d) s.prepared t.prepared (Err faults.OutOfMemory) tt (ap (λ (u : Store D). u.prepared) same) in
    subst (λ (r : Result Outs NodeFault). DoesAll clock d turn old old s t r) (sym is) (refl, (same_store s t same, prepared))

module _ {D : Type 0} (clock id : ℕ) (head : Head) (c : Change) (x : made_of.Change) (old : Memory) (s : Store D) (p : Planned) where
  the_record : IsMade clock id c x → IsPlanned (stand_of s) clock head id x (callbacks_of old) p → record_of s.durable.boot head clock c ≡ p.rec
  the_record is plan = record_is s.durable.boot clock id head c x p.kept is (subst (λ (m : Message). Spells m p.kept) (sym (reply_is s.durable.boot clock id head c x is)) plan.replied.kept) ∙ sym plan.rec

  room_by : (b : Bool) → has_room (durable_of (lasting_of s.durable)) (record_of s.durable.boot head clock c) ≡ b → b ≡ true → roomed (server_seen old s) clock head c ≡ saves head c
  room_by true e is = rw e refl
  room_by false e is = absurd cc

  full_by : (b : Bool) → has_room (durable_of (lasting_of s.durable)) (record_of s.durable.boot head clock c) ≡ b → b ≡ false → roomed (server_seen old s) clock head c ≡ refuses head no_room
  full_by true e is = absurd cc
  full_by false e is = rw e refl

  pub is_roomed : (b : Bool) → IsMade clock id c x → IsPlanned (stand_of s) clock head id x (callbacks_of old) p → b ≡ has_room s.durable p.rec → b ≡ true → roomed (server_seen old s) clock head c ≡ saves head c
  is_roomed b is plan room has = room_by b (ap (has_room s.durable) (the_record is plan) ∙ sym room) has

  pub is_full : (b : Bool) → IsMade clock id c x → IsPlanned (stand_of s) clock head id x (callbacks_of old) p → b ≡ has_room s.durable p.rec → b ≡ false → roomed (server_seen old s) clock head c ≡ refuses head no_room
  is_full b is plan room lacks = full_by b (ap (has_room s.durable) (the_record is plan) ∙ sym room) lacks

-- the fold takes the record
pub is_taken : (id clock : ℕ) (head : Head) (c : Change) (x : made_of.Change) (bytes : List ℕ) (d : Durable) (r : StoreRecord) → get id d.volumes ≡ Some c.before → IsMade clock id c x → r ≡ change_kept head id x bytes → IsSome (folded r d)
is_taken id clock head c x bytes d r there is same =
    subst (λ (q : StoreRecord). IsSome (folded q d)) (sym same) (subst (λ (o : Option Durable). IsSome o) (sym (folds head id x bytes c.before _ d there is.kept)) refl)

-- ---- with room

module _ {D : Type 0} (clock id : ℕ) (head : Head) (c : Change) (x : made_of.Change) (old new : Memory) (s mid t : Store D) (p : Planned) where
  put_from : mid ≡ record s { prepared = Some p.rec; disk = mid.disk } → IsPut p mid t → IsPut p s t
  put_from prepared put =
      let node : mid.node ≡ s.node = ap (λ (u : Store D). u.node) prepared in
      let closed : mid.closed ≡ s.closed = ap (λ (u : Store D). u.closed) prepared in
      let count : mid.count ≡ s.count = ap (λ (u : Store D). u.count) prepared in
      let durable : mid.durable ≡ s.durable = ap (λ (u : Store D). u.durable) prepared in
      let holds : mid.holds ≡ s.holds = ap (λ (u : Store D). u.holds) prepared in
      record {
        store = put.store ∙ (λ i. record { durable = t.durable; disk = t.disk; node = node i; prepared = None; closed = closed i; count = count i + 1; drawn = p.ended.last; holds = holds i });
        folds = ap (folded p.rec) (sym durable) ∙ put.folds;
      }

  closed_from : mid ≡ record s { prepared = Some p.rec; disk = mid.disk } → IsClosed mid t → IsClosed s t
  closed_from prepared is =
      let node : mid.node ≡ s.node = ap (λ (u : Store D). u.node) prepared in
      let durable : mid.durable ≡ s.durable = ap (λ (u : Store D). u.durable) prepared in
      let count : mid.count ≡ s.count = ap (λ (u : Store D). u.count) prepared in
      let drawn : mid.drawn ≡ s.drawn = ap (λ (u : Store D). u.drawn) prepared in
      let holds : mid.holds ≡ s.holds = ap (λ (u : Store D). u.holds) prepared in
      is ∙ (λ i. record { durable = durable i; disk = t.disk; node = node i; prepared = None; closed = true; count = count i; drawn = drawn i; holds = holds i })

  same_from : mid ≡ record s { prepared = Some p.rec; disk = mid.disk } → t ≡ mid → t ≡ record s { disk = t.disk; prepared = t.prepared }
  same_from prepared is =
      subst (λ (u : Store D). u ≡ record s { disk = u.disk; prepared = u.prepared }) (sym is)
      (prepared ∙ (λ i. record s { disk = mid.disk; prepared = sym (ap (λ (u : Store D). u.prepared) prepared) i }))

  own_left : mid ≡ record s { prepared = Some p.rec; disk = mid.disk } → IsMade clock id c x → IsPlanned (stand_of s) clock head id x (callbacks_of old) p → t ≡ mid → t.prepared ≡ Some (record_of s.durable.boot head clock c)
  own_left prepared is plan same =
      ap (λ (u : Store D). u.prepared) same ∙ (ap (λ (u : Store D). u.prepared) prepared ∙ ap (λ (r : StoreRecord). Some r) (sym (the_record clock id head c x old s p is plan)))

  left_as : get id s.durable.volumes ≡ Some c.before → IsMade clock id c x → IsNode head.from → Serves s.node old s.durable → IsPlanned (stand_of s) clock head id x (callbacks_of old) p →
      (r : StoreRecord) → ◌≡◌ {A = Option StoreRecord} (Some (record_of s.durable.boot head clock c)) (Some r) → (e : Durable) → folded r s.durable ≡ Some e →
      lasting_of e ≡ (begun_after s.node (server_seen old s) clock (saves head c)).state.lasting
  left_as there is node serves plan r recorded e folds_to =
      let spells = subst (λ (m : Message). Spells m p.kept) (sym (reply_is s.durable.boot clock id head c x is)) plan.replied.kept in
      let same : record_of s.durable.boot head clock c ≡ r = cc in
      lasting_left clock id head c x p.kept s.durable e there is spells node serves.kept (ap (λ (q : StoreRecord). folded q s.durable) (sym (record_is s.durable.boot clock id head c x p.kept is spells) ∙ same) ∙ folds_to)

  saved_by : (result : Result Outs NodeFault) → mid ≡ record s { prepared = Some p.rec; disk = mid.disk } → get id s.durable.volumes ≡ Some c.before → clock ≤ 1000000000 → IsMade clock id c x → IsNode head.from → Serves s.node old s.durable →
      IsPlanned (stand_of s) clock head id x (callbacks_of old) p → Puts head clock p old new mid t result → DoesAll clock (saves head c) (turn_for s.node (server_seen old s) clock (row.expired clock (server_seen old s).backs) (saves head c)) old new s t result
  saved_by (Ok outs) prepared there small is node serves plan puts = saved_made clock id head c x old new s t p outs there small is node serves plan puts.0 (put_from prepared puts.1.0) puts.1.1
  saved_by (Err faults.OutOfMemory) prepared there small is node serves plan puts = (puts.0, (same_from prepared puts.1, inr (own_left prepared is plan puts.1)))
  saved_by (Err faults.Down) prepared there small is node serves plan puts = record {
    closed = closed_from prepared puts;
    some = λ none. absurd cc;
    effects = effects_as clock id head c x old new s t p there is plan;
    left = left_as there is node serves plan;
  }

  pub saved_all : (result : Result Outs NodeFault) (b : Bool) → b ≡ has_room s.durable p.rec → b ≡ true → mid ≡ record s { prepared = Some p.rec; disk = mid.disk } → get id s.durable.volumes ≡ Some c.before → clock ≤ 1000000000 → IsMade clock id c x → IsNode head.from →
      Serves s.node old s.durable → IsPlanned (stand_of s) clock head id x (callbacks_of old) p → Puts head clock p old new mid t result →
      DoesAll clock (roomed (server_seen old s) clock head c) (turn_for s.node (server_seen old s) clock (row.expired clock (server_seen old s).backs) (roomed (server_seen old s) clock head c)) old new s t result
  saved_all result b room has prepared there small is node serves plan puts =
      subst (λ (d : Decision). DoesAll clock d (turn_for s.node (server_seen old s) clock (row.expired clock (server_seen old s).backs) d) old new s t result) (sym (is_roomed clock id head c x old s p b is plan room has))
      (saved_by result prepared there small is node serves plan puts)

  pub saved_record : (b : Bool) → IsMade clock id c x → IsPlanned (stand_of s) clock head id x (callbacks_of old) p → b ≡ has_room s.durable p.rec → b ≡ true → record_decided s.durable.boot clock (roomed (server_seen old s) clock head c) ≡ Some p.rec
  saved_record b is plan room has = ap (record_decided s.durable.boot clock) (is_roomed clock id head c x old s p b is plan room has) ∙ ap (λ (r : StoreRecord). Some r) (the_record clock id head c x old s p is plan)

  -- ---- without room

  refused_made : (outs : Outs) → mid ≡ record s { disk = mid.disk } → Answers {E = NodeFault} head (refusal mid.durable.boot head (pos 108)) [] (answer_turn (refusal mid.durable.boot head (pos 108)) [] false (row.expired clock (server_seen old mid).backs)) old new mid t (Ok outs) →
      IsMadeOf clock (refuses head no_room) (turn_for s.node (server_seen old s) clock (row.expired clock (server_seen old s).backs) (refuses head no_room)) old new s t outs
  refused_made outs full answers =
      let is = subst (λ (u : Store D). Answers {E = NodeFault} head (refusal u.durable.boot head (pos 108)) [] (answer_turn (refusal u.durable.boot head (pos 108)) [] false (row.expired clock (server_seen old u).backs)) old new u t (Ok outs)) full answers in
      let same = is.1.1 in
      let durable : t.durable ≡ s.durable = ap (λ (u : Store D). u.durable) same in
      let disk : t.disk ≡ mid.disk = ap (λ (u : Store D). u.disk) same in
      let prepared : t.prepared ≡ s.prepared = ap (λ (u : Store D). u.prepared) same in
      let count : t.count ≡ s.count = ap (λ (u : Store D). u.count) same in
      record {
        makes = record { state = is.0.state; lines = is.0.lines; sent = is.0.sent };
        serves = is.1.0;
        store = same ∙ (λ i. record s { durable = sym durable i; disk = sym disk i; prepared = sym prepared i; count = sym count i; drawn = t.drawn });
        done = (durable, count);
        prepared = prepared;
        effects = λ r recorded. absurd cc;
        few = tt;
      }

  pub refused_all : (outs : Outs) (b : Bool) → b ≡ has_room s.durable p.rec → b ≡ false → mid ≡ record s { disk = mid.disk } → IsMade clock id c x → IsPlanned (stand_of s) clock head id x (callbacks_of old) p →
      Answers {E = NodeFault} head (refusal mid.durable.boot head (pos 108)) [] (answer_turn (refusal mid.durable.boot head (pos 108)) [] false (row.expired clock (server_seen old mid).backs)) old new mid t (Ok outs) →
      DoesAll clock (roomed (server_seen old s) clock head c) (turn_for s.node (server_seen old s) clock (row.expired clock (server_seen old s).backs) (roomed (server_seen old s) clock head c)) old new s t (Ok outs)
  refused_all outs b room lacks full is plan answers =
      subst (λ (d : Decision). DoesAll clock d (turn_for s.node (server_seen old s) clock (row.expired clock (server_seen old s).backs) d) old new s t (Ok outs)) (sym (is_full clock id head c x old s p b is plan room lacks)) (refused_made outs full answers)

  pub refused_record : (b : Bool) → IsMade clock id c x → IsPlanned (stand_of s) clock head id x (callbacks_of old) p → b ≡ has_room s.durable p.rec → b ≡ false → record_decided s.durable.boot clock (roomed (server_seen old s) clock head c) ≡ None
  refused_record b is plan room lacks = ap (record_decided s.durable.boot clock) (is_full clock id head c x old s p b is plan room lacks)

  same_full : mid ≡ record s { disk = mid.disk } → t ≡ mid → t ≡ record s { disk = t.disk; prepared = t.prepared }
  same_full full is =
      subst (λ (u : Store D). u ≡ record s { disk = u.disk; prepared = u.prepared }) (sym is)
      (full ∙ (λ i. record s { disk = mid.disk; prepared = sym (ap (λ (u : Store D). u.prepared) full) i }))

  refused_any : (result : Result Outs NodeFault) (b : Bool) → b ≡ has_room s.durable p.rec → b ≡ false → mid ≡ record s { disk = mid.disk } → IsMade clock id c x → IsPlanned (stand_of s) clock head id x (callbacks_of old) p →
      Answers {E = NodeFault} head (refusal mid.durable.boot head (pos 108)) [] (answer_turn (refusal mid.durable.boot head (pos 108)) [] false (row.expired clock (server_seen old mid).backs)) old new mid t result →
      (IsErrOf result faults.Down → ⊥) →
      DoesAll clock (roomed (server_seen old s) clock head c) (turn_for s.node (server_seen old s) clock (row.expired clock (server_seen old s).backs) (roomed (server_seen old s) clock head c)) old new s t result
  refused_any (Ok outs) b room lacks full is plan answers up = refused_all outs b room lacks full is plan answers
  refused_any (Err faults.OutOfMemory) b room lacks full is plan answers up =
      let decided = record_decided s.durable.boot clock (roomed (server_seen old s) clock head c) in
      let same : t.prepared ≡ s.prepared = ap (λ (u : Store D). u.prepared) answers.1 ∙ ap (λ (u : Store D). u.prepared) full in
      (answers.0, (same_full full answers.1, prepared_still {T = Outs} decided s.prepared t.prepared (Err faults.OutOfMemory) tt same))
  refused_any (Err faults.Down) b room lacks full is plan answers up = absurd (up refl)

  -- ---- either way

  pub does_all : (result : Result Outs NodeFault) (b : Bool) → b ≡ has_room s.durable p.rec → Prepares {E = NodeFault} p.rec s mid (Ok b) → get id s.durable.volumes ≡ Some c.before → clock ≤ 1000000000 → IsMade clock id c x → IsNode head.from →
      Serves s.node old s.durable → IsPlanned (stand_of s) clock head id x (callbacks_of old) p →
      (b ≡ true → Puts head clock p old new mid t result) →
      (b ≡ false → Answers {E = NodeFault} head (refusal mid.durable.boot head (pos 108)) [] (answer_turn (refusal mid.durable.boot head (pos 108)) [] false (row.expired clock (server_seen old mid).backs)) old new mid t result) →
      (b ≡ false → IsErrOf result faults.Down → ⊥) →
      DoesAll clock (roomed (server_seen old s) clock head c) (turn_for s.node (server_seen old s) clock (row.expired clock (server_seen old s).backs) (roomed (server_seen old s) clock head c)) old new s t result
  does_all result true room prepares there small is node serves plan puts answers up = saved_all result true room refl prepares there small is node serves plan (puts refl)
  does_all result false room prepares there small is node serves plan puts answers up = refused_any result false room refl prepares is plan (answers refl) (up refl)
