-- What is planned, put on the disk and taken is the step of the row.
use Rattle.std.proofs.Common.{◌≡◌, ℕ, List, [], ◌∷◌, ◌++◌, map, false, Option, Some, refl, sym, ap, subst, ◌∙◌, arith, append-nil}
use Rattle.std.specs.Prelude.{Bool}
use Rattle.std.specs.List.{All}
use Rattle.afs_num.specs.Nodes.{IsNode}
use Rattle.afs_num.specs.declared.messages.Message.{Message}
use Rattle.afs_num.specs.declared.messages.Received.TheVariants.{Whole}
use Rattle.afs_num.specs.declared.records.StoreRecord.{StoreRecord}
use Rattle.afs_num.specs.declared.types.Head.{Head}
use Rattle.spec_history.specs.declared.lines.Line.{Line}
use Rattle.spec_history.specs.declared.lines.Outs.{Outs}
use Rattle.spec_breaks.specs.Promises.{expired, lasting_breaks, Lists}
use Rattle.spec_breaks.specs.declared.types.OwedBreak.{OwedBreak}
use Rattle.spec_fold.specs.Deeds.{done_by}
use Rattle.spec_fold.specs.Effects.{effect_of}
use Rattle.spec_fold.specs.Fold.{folded}
use Rattle.spec_ideal.specs.Tables.{Table}
use Rattle.afs_memory.specs.Telling.{in_words}
use Rattle.spec_model.specs.Messages.{parcels_read, received, spelled}
use Rattle.spec_records.specs.Durable.{Durable, Stored}
use Rattle.spec_rows.specs.Callbacks.{owe_line}
use Rattle.spec_rows.specs.States.{durable_of, Backs, Held, Lasting}
use Rattle.afs_callees.specs.Called.{call_to, known_to, AreGoodCalls, Callee}
use Rattle.afs_server_parts.specs.Ending.{backs_left, IsPlan}
use Rattle.afs_server_parts.specs.Turning.{sent_turns, IsBreakToNode}
use Rattle.afs_callbacks.proofs.Drawing.{pumped_draws}
use Rattle.afs_callbacks.specs.Answering.{with_lists}
use Rattle.afs_callbacks.specs.States.{backs_at, CallbackState, IsPromiseToNode}
use Rattle.afs_sendings.specs.Pieces.{AreTo}
use Rattle.spec_volrows.specs.VolLaws.{AreApart}
use Rattle.spec_volrows.specs.VolRow.{holds_of}
use Rattle.spec_volrows.specs.VolStates.{Sending, VolState}
use Rattle.spec_volrows.specs.VolSteps.{deed_done, deed_head, deed_lines, deed_record, owes_of, saves, vol_answers, vol_seated, withdraws_from, with_transactions, Deed, VolTurn}
use Rattle.afs_voldecisions.specs.Numbering.{Numbered}
use Rattle.afs_volanswers.specs.Deciding.{deed_of, CanBeSaved}
use Rattle.afs_volserv.specs.Handling.{backs_then, vol_turn_then, DrawsFew, IsLeftAgain, IsToldAgain, IsVolumeStep, MakesVolumes}
use Rattle.afs_volserv.specs.Saving.{held_on, held_or_none, sent_now, waits_by, IsPlanned, IsPut, IsTaken, IsWithdrawn}
use Rattle.afs_volserv.specs.Seen.{vol_seen, AreAskedByForward, ServesVolumes, StandsBeside, VolMemory}
use Rattle.afs_volanswers.specs.Flagged.{AreFlagged}
use Rattle.afs_volanswers.specs.declared.decided.Saving.{Saving}
use Rattle.afs_volserv.specs.declared.saving.Planned.{Planned}
use Rattle.afs_volstore.specs.Stores.{Store}
use Rattle.afs_volserv.proofs.Alike.{stamp_volumes, told_like}
use Rattle.afs_volserv.proofs.Folded.{kept_left, lasting_left, volumes_left}
use Rattle.afs_volserv.proofs.Gone.{gone_draws, gone_owed, gone_to_nodes}
use Rattle.afs_sharing.proofs.Drawn.{breaks_drawn}
use Rattle.afs_sharing.specs.Stores.{stand_of}
use Rattle.afs_sharing.specs.Lasting.{lasting_of}

some_is : {A : Type 0} (x y : A) → ◌≡◌ {A = Option A} (Some x) (Some y) → x ≡ y
some_is x y e = cc

-- a reply that goes out, or waits
pub answers_are : (l : Lasting) (v : VolState) (b : Backs) (ls : List Line) (reply : Message) (ws : List ℕ) (again : Bool) →
    vol_answers l v b ls reply ws again ≡ record { lasting = l; vol = record v { held = v.held ++ held_or_none (held_on reply ws again) }; backs = b; lines = ls; sent = sent_now reply ws }
answers_are l v b ls reply [] again = ap (λ (hs : List Held). record { lasting = l; vol = record v { held = hs }; backs = b; lines = ls; sent = reply ∷ [] }) (sym (append-nil v.held))
answers_are l v b ls reply (n ∷ ns) again = refl

-- its transactions
abbrev ordered : VolMemory → Numbered
ordered m = record { table = m.transactions; last = m.last }

module _ {D : Type 0} (now : ℕ) (head : Head) (x : Saving) (old : VolMemory) (k : CallbackState) (s : Store D) where
  -- what is written
  abbrev pub deed : Deed
  deed = deed_of s.durable.boot head x

  abbrev pub disk_before : Lasting
  disk_before = lasting_of s.durable

  -- the promises and owed breaks that it leaves
  abbrev lists_left : Lists
  lists_left = withdraws_from x.withdraws (expired now k.lists)

  abbrev waits_for : List OwedBreak → List ℕ
  waits_for breaks = waits_by now breaks k

  -- the turn of the row, with this reply, these breaks, these promises and transactions, and these replies that wait
  abbrev turned : Message → List OwedBreak → Numbered → List Held → VolTurn
  turned reply breaks ts held = record {
    lasting = deed_done head deed disk_before;
    vol = record (vol_seated head reply (with_transactions ts.table ts.last (vol_seen old))) { held = old.held ++ held };
    backs = record (backs_then k s now) { lists = lists_left };
    lines = deed_lines s.node head deed disk_before ++ map (owe_line s.node) breaks;
    sent = sent_now reply (waits_for breaks);
  }

  module _ (p : Planned) (plan : IsPlanned now head x k s p) where
    turn_is : vol_turn_then old k s now (saves head deed) ≡ turned p.reply p.breaks p.transactions (held_or_none p.waits)
    turn_is =
        let reply = sym plan.reply in
        let breaks = sym plan.breaks in
        let ts = sym plan.transactions in
        answers_are (deed_done head deed disk_before) (vol_seated head deed.reply (with_transactions deed.transactions deed.last (vol_seen old))) (record (backs_then k s now) { lists = lists_left })
        (deed_lines s.node head deed disk_before ++ map (owe_line s.node) (owes_of x.withdraws (expired now k.lists))) deed.reply (waits_for (owes_of x.withdraws (expired now k.lists))) false
        ∙ ((λ i. turned (reply i) (breaks i) (ts i) (held_or_none (held_on (reply i) (waits_for (breaks i)) false)))
        ∙ ap (λ (o : Option Held). turned p.reply p.breaks p.transactions (held_or_none o)) (sym plan.waits))

    planned_so : IsPlan (stand_of s) (sent_turns (sent_now p.reply (waits_for p.breaks)) (with_lists lists_left (backs_at k s.drawn))) [] p.ended
    planned_so =
        plan.ended.plan lists_left
        (gone_owed x.withdraws (expired now k.lists) ∙ ap (λ (os : List OwedBreak). lasting_breaks now k.lists.owed ++ os) (sym plan.breaks))

    told_here : deed_lines s.node head deed disk_before ≡ effect_of s.node p.rec s.durable
    told_here = told_like (durable_of disk_before) s.durable s.node (deed_head head deed) x.body ∙ ap (λ (r : StoreRecord). effect_of s.node r s.durable) (sym plan.rec)

    folds_so : (e : Durable) → folded p.rec s.durable ≡ Some e → folded (deed_record head deed) s.durable ≡ Some e
    folds_so e folds_to = ap (λ (r : StoreRecord). folded r s.durable) (sym plan.rec) ∙ folds_to

    left_so : ServesVolumes old s → CanBeSaved s.durable (vol_seen old) head.opcode x → IsNode head.from → (e : Durable) → folded p.rec s.durable ≡ Some e → lasting_of e ≡ deed_done head deed disk_before
    left_so serves can node e folds_to =
        lasting_left head deed s.durable e can.taken node serves.kept (subst (λ (m : Message). received (spelled m) ≡ Whole m) plan.reply plan.read) (folds_so e folds_to)

    -- what a restart tells and begins with, where the record stands on the disk
    pub told_again : map in_words (effect_of s.node p.rec s.durable) ≡ effect_of s.node p.rec s.durable → IsToldAgain (saves head deed) s
    told_again words r recorded f same ls =
        let is : deed_record head deed ≡ r = some_is _ r recorded in
        let rec : p.rec ≡ r = plan.rec ∙ is in
        ap (λ (l : Lasting). deed_lines s.node head deed l ++ ls) same
        ∙ (ap (λ (ks : List Line). ks ++ ls) (told_here ∙ sym words) ∙ ap (λ (q : StoreRecord). map in_words (effect_of s.node q s.durable) ++ ls) rec)

    pub left_again : ServesVolumes old s → CanBeSaved s.durable (vol_seen old) head.opcode x → IsNode head.from → IsLeftAgain (saves head deed) s
    left_again serves can node r recorded e folds_to f same =
        left_so serves can node e (ap (λ (q : StoreRecord). folded q s.durable) (plan.rec ∙ some_is _ r recorded) ∙ folds_to) ∙ ap (deed_done head deed) (sym same)

    module _ (new : VolMemory) (l : CallbackState) (u : Store D) (outs : Outs) (serves : ServesVolumes old s) (can : CanBeSaved s.durable (vol_seen old) head.opcode x) (node : IsNode head.from) (taken : IsTaken head p old new) (withdrawn : IsWithdrawn now p k l) (put : IsPut p s u) where
      lasting_now : lasting_of u.durable ≡ deed_done head deed disk_before
      lasting_now = left_so serves can node u.durable put.folds

      drawn_now : u.drawn ≡ p.ended.last
      drawn_now = ap (λ (t : Store D). t.drawn) put.store

      lists_now : l.lists ≡ lists_left
      lists_now = ap (λ (c : CallbackState). c.lists) withdrawn ∙ ap (λ (w : Option ℕ). withdraws_from w (expired now k.lists)) plan.withdraws

      backs_now : backs_at l u.drawn ≡ backs_left lists_left p.ended
      backs_now =
          let callees = ap (λ (c : CallbackState). c.callees) withdrawn in
          let held = ap (λ (c : CallbackState). c.held) withdrawn in
          λ i. record { lists = lists_now i; last_call = drawn_now i; calls = call_to (callees i); known = known_to (callees i); held = held i }

      makes_now : outs ≡ record p.ended.outs { lines = effect_of s.node p.rec s.durable ++ map (owe_line s.node) p.breaks } → MakesVolumes (turned p.reply p.breaks p.transactions (held_or_none p.waits)) s.node new l u outs
      makes_now given = record {
        vol = ap vol_seen taken.memory;
        lasting = lasting_now;
        backs = backs_now ∙ planned_so.ends.backs;
        lines = ap (λ (o : Outs). o.lines) given ∙ ap (λ (ls : List Line). ls ++ map (owe_line s.node) p.breaks) (sym told_here);
        sent = ap (λ (o : Outs). parcels_read o.parcels) given ∙ planned_so.ends.sent;
      }

      -- ---- what stays in order

      node_now : u.node ≡ s.node
      node_now = ap (λ (t : Store D). t.node) put.store

      boot_now : new.boot ≡ old.boot
      boot_now = ap (λ (m : VolMemory). m.boot) taken.memory

      volumes_now : (done_by x.body s.durable).volumes ≡ u.durable.volumes
      volumes_now =
          sym (volumes_left head deed s.durable u.durable can.taken (folds_so u.durable put.folds) ∙ stamp_volumes (deed_head head deed) (done_by x.body s.durable))

      last_now : x.transactions ≡ record { table = new.transactions; last = new.last }
      last_now = sym plan.transactions ∙ sym (ap (λ (m : VolMemory). ordered m) taken.memory)

      serves_now : ServesVolumes new u
      serves_now =
          let callees = ap (λ (m : VolMemory). m.callees) taken.memory in
          record {
            node = subst IsNode (sym node_now) serves.node;
            boot = boot_now ∙ (serves.boot ∙ sym (ap (λ (d : Lasting). d.boot) lasting_now));
            kept = kept_left head deed s.durable u.durable can.taken node serves.kept (folds_so u.durable put.folds);
            calls = subst (λ (cs : List (Callee (List Sending))). AreTo (call_to cs)) (sym callees) serves.calls;
            asked = subst (λ (cs : List (Callee (List Sending))). AreAskedByForward (call_to cs)) (sym callees) serves.asked;
            apart = subst (λ (v : Table Stored). AreApart v new.last new.transactions) volumes_now (subst (λ (ts : Numbered). AreApart (done_by x.body s.durable).volumes ts.last ts.table) last_now can.apart);
            flagged = subst (λ (ts : Numbered). AreFlagged ts.table) last_now can.flagged;
            holds = put.holds ∙ ap (λ (ts : Numbered). holds_of ts.table) (plan.transactions ∙ last_now);
          }

      beside_now : StandsBeside k s → StandsBeside l u
      beside_now beside = record {
        nodes = record {
          node = subst IsNode (sym node_now) beside.nodes.node;
          owed = subst (λ (ls : Lists). All IsBreakToNode ls.owed) (sym lists_now) planned_so.owed;
          calls = subst AreGoodCalls (sym (ap (λ (c : CallbackState). c.callees) withdrawn)) planned_so.calls;
        };
        promises = subst (λ (ls : Lists). All IsPromiseToNode ls.promises) (sym lists_now) (gone_to_nodes x.withdraws now k.lists beside.promises);
      }

      draws_now : DrawsFew k l s u
      draws_now =
          let most = pumped_draws s.node s.durable.boot (sent_turns (sent_now p.reply (waits_for p.breaks)) (with_lists lists_left (backs_at k s.drawn))) planned_so.owed in
          let last = ap (λ (b : Backs). b.last_call) (backs_now ∙ planned_so.ends.backs) in
          let less = gone_draws x.withdraws now k.lists in
          let same = ap breaks_drawn lists_now in
          record { calls = omega (arith, most, last); breaks = omega (arith, less, same) }

      store_now : u ≡ record s { durable = u.durable; disk = u.disk; prepared = u.prepared; count = u.count; drawn = u.drawn; holds = u.holds }
      store_now =
          let prepared = sym (ap (λ (t : Store D). t.prepared) put.store) in
          let count = sym (ap (λ (t : Store D). t.count) put.store) in
          let drawn = sym drawn_now in
          put.store ∙ (λ i. record s { durable = u.durable; disk = u.disk; prepared = prepared i; count = count i; drawn = drawn i; holds = u.holds })

      pub step_saved : StandsBeside k s → outs ≡ record p.ended.outs { lines = effect_of s.node p.rec s.durable ++ map (owe_line s.node) p.breaks } → map in_words (effect_of s.node p.rec s.durable) ≡ effect_of s.node p.rec s.durable →
          IsVolumeStep (saves head deed) (vol_turn_then old k s now (saves head deed)) old new k l s u outs
      step_saved beside given words = record {
        makes = subst (λ (t : VolTurn). MakesVolumes t s.node new l u outs) (sym turn_is) (makes_now given);
        order = record { serves = serves_now; beside = beside_now beside; boot = boot_now; release = λ lt. taken.release };
        draws = draws_now;
        store = store_now;
        done = (folds_so u.durable put.folds, ap (λ (t : Store D). t.count) put.store);
        prepared = ap (λ (t : Store D). t.prepared) put.store;
        effects = told_again words;
      }
