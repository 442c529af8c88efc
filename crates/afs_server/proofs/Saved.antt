-- A change that is planned, put on the disk and taken is the step of its row.
use Rattle.spec_model.specs.Calls.{key_of}
use Rattle.std.proofs.Common.{◌≡◌, ◌≤◌, ◌+◌, ℕ, List, [], ◌∷◌, ◌++◌, map, length, false, true, Option, Some, refl, sym, ap, subst, ◌∙◌, arith, lt-ltb}
use Rattle.std.specs.Prelude.{nat_lt}
use Rattle.std.specs.List.{All}
use Rattle.afs_num.specs.Nodes.{IsNode}
use Rattle.afs_num.specs.declared.histories.Version.{Version}
use Rattle.afs_num.specs.declared.messages.Message.{Message}
use Rattle.afs_num.specs.declared.records.StoreRecord.{StoreRecord}
use Rattle.afs_num.specs.declared.types.Head.{Head}
use Rattle.afs_num.specs.declared.types.Node.{Node}
use Rattle.afs_num.specs.declared.volumes.Change as made_of
use Rattle.spec_history.specs.declared.lines.Line.{Line}
use Rattle.spec_history.specs.declared.lines.Line.TheVariants as lines
use Rattle.spec_history.specs.declared.lines.Outs.{Outs}
use Rattle.spec_breaks.specs.Promises.{expired, grants_all, lasting, lasting_breaks, Lists}
use Rattle.spec_breaks.specs.declared.types.OwedBreak.{OwedBreak}
use Rattle.spec_ideal.specs.Operations.{Found}
use Rattle.spec_ideal.specs.Tables.{get}
use Rattle.spec_records.specs.Durable.{time_in, Durable}
use Rattle.spec_fold.specs.Fold.{folded}
use Rattle.spec_records.specs.Records.{FitsRecord}
use Rattle.spec_rows.specs.Callbacks as row
use Rattle.spec_rows.specs.Callbacks.{alls, fids_found, grants_found, new_owes, break_numbers, owe_line, pumped, turn_for, withdraws_all}
use Rattle.spec_rows.specs.ServerRow.{change_reply_to, granted, granted_in, versions_made, result, saved, saves, stored_by, versioned, Change}
use Rattle.spec_rows.specs.ServerSteps.{stepped}
use Rattle.spec_rows.specs.States.{Lasting, ServerState}
use Rattle.afs_callees.specs.Called.{AreGoodCalls}
use Rattle.afs_message.specs.Spelled.{Spells}
use Rattle.afs_callees.specs.Telling.{grant_line}
use Rattle.afs_server_parts.specs.Ending.{Ends, IsPlan}
use Rattle.afs_server_parts.specs.Turning.{IsBreakToNode, answer_turn}
use Rattle.afs_callees.specs.declared.telling.Grant.{Grant}
use Rattle.afs_volstore.specs.Stores.{Store}
use Rattle.afs_callbacks.specs.Answering.{reply_told, with_lists}
use Rattle.afs_decisions.specs.Deciding.{IsMade}
use Rattle.afs_server.specs.Handling.{server_seen, Makes}
use Rattle.afs_server.specs.Putting.{IsMadeOf, TellsAgain}
use Rattle.afs_callbacks.specs.Saving.{breaks_new, change_kept, change_lines, fids_changed, new_grants, withdraws_each, IsPlanned}
use Rattle.afs_server.specs.Saving.{IsPut, IsTaken}
use Rattle.afs_server.specs.Seen.{backs_seen, callbacks_of, Memory, Serves}
use Rattle.afs_callbacks.specs.States.{IsPromiseToNode}
use Rattle.afs_callbacks.specs.declared.saving.Planned.{Planned}
use Rattle.afs_server.proofs.Effects.{told_again}
use Rattle.afs_server.proofs.Folded.{durable_saved, folds, lasting_left, record_is, reply_is}
use Rattle.afs_callbacks.proofs.Granting.{granted_to_nodes, lines_granted}
use Rattle.afs_callbacks.proofs.Lasting.{lasting_promised}
use Rattle.afs_server.proofs.Making.{makes_stepped, Leaves}
use Rattle.afs_callbacks.proofs.Withdrawn.{change_grants, granted_fids, granted_first, left_to_nodes, new_owes_are, withdrawn_owed, withdraws_are}
use Rattle.afs_sharing.specs.Stores.{stand_of}
use Rattle.afs_sharing.specs.Lasting.{lasting_of}
use Rattle.afs_saving.specs.Kept.{AreToNodes}
use Rattle.afs_saving.proofs.Seats.{set_to_nodes}

some_is : {A : Type 0} (x y : A) → ◌≡◌ {A = Option A} (Some x) (Some y) → x ≡ y
some_is x y e = cc

-- ---- lines

versions_first : (vs : List Version) (ls : List Line) → versioned vs ls ≡ versioned vs [] ++ ls
versions_first [] ls = refl
versions_first (v ∷ vs) ls = ap (λ (ks : List Line). lines.Version v ∷ ks) (versions_first vs ls)

-- the lines of the code are those of the row
lines_are : (me : Node) (head : Head) (expiry : ℕ) (x : made_of.Change) (vs : List Version) (fs : List Found) (os : List OwedBreak) → x.versions ≡ vs → new_grants x.reply ≡ map (λ (f : Found). record { fid = f.fid; index = f.vnode.index }) fs →
    change_lines me head expiry x os ≡ lines.Change me (key_of head) (length vs) ∷ versioned vs (granted me head.from expiry fs (map (owe_line me) os))
lines_are me head expiry x vs fs os versions grants =
    let behind = map (owe_line me) os in
    ap (λ (ws : List Version). (lines.Change me (key_of head) (length ws) ∷ versioned ws []) ++ (map (grant_line me head.from expiry) (new_grants x.reply) ++ behind)) versions
    ∙ (ap (λ (gs : List Grant). lines.Change me (key_of head) (length vs) ∷ versioned vs [] ++ (map (grant_line me head.from expiry) gs ++ behind)) grants
    ∙ ap (λ (ls : List Line). lines.Change me (key_of head) (length vs) ∷ ls)
    (sym (versions_first vs _) ∙ ap (versioned vs) (lines_granted me head.from expiry fs behind)))

-- ---- the step

module _ {D : Type 0} (clock id : ℕ) (head : Head) (c : Change) (x : made_of.Change) (old new : Memory) (s t : Store D) (p : Planned) where
  -- the promises after the step, and the breaks that it owes
  abbrev lists_after : Lists
  lists_after = grants_found head.from (clock + 7200) (granted_in c) (withdraws_all head.from (versions_made c) (expired clock old.lists))

  abbrev owes : List OwedBreak
  owes = new_owes head.from (versions_made c) (expired clock old.lists)

  new_lists : clock ≤ 1000000000 → IsMade clock id c x → IsPlanned (stand_of s) clock head id x (callbacks_of old) p → IsTaken head clock p old new → new.lists ≡ lists_after
  new_lists small is plan taken =
      let fids : p.changed ≡ fids_changed (versions_made c) = plan.changed ∙ ap fids_changed is.versions in
      let grants : p.granted ≡ fids_found (granted_in c) = plan.granted ∙ granted_fids c.id c.caller (time_in (stored_by clock c)) (result c) c.shown c.call x.reply is.reply in
      let late : nat_lt clock (clock + 7200) ≡ true = lt-ltb clock (clock + 7200) (omega arith) in
      let same : grants_all head.from (clock + 7200) p.granted (withdraws_each head.from p.changed (expired clock old.lists)) ≡ grants_all head.from (clock + 7200) (fids_found (granted_in c)) (withdraws_each head.from (fids_changed (versions_made c)) (expired clock old.lists)) =
      λ i. grants_all head.from (clock + 7200) (grants i) (withdraws_each head.from (fids i) (expired clock old.lists)) in
      taken.lists
      ∙ (granted_first clock head.from (clock + 7200) p.changed p.granted old.lists late
      ∙ (same ∙ ap (grants_all head.from (clock + 7200) (fids_found (granted_in c))) (sym (withdraws_are head.from (versions_made c) (expired clock old.lists)))))

  breaks_are : IsMade clock id c x → breaks_new head.from (fids_changed x.versions) clock old.lists ≡ owes
  breaks_are is = ap (λ (vs : List Version). breaks_new head.from (fids_changed vs) clock old.lists) is.versions ∙ sym (new_owes_are head.from (versions_made c) (expired clock old.lists))

  owed_after : lists_after.owed ≡ lasting_breaks clock old.lists.owed ++ owes
  owed_after =
      ap (λ (l : Lists). l.owed) (withdraws_are head.from (versions_made c) (expired clock old.lists))
      ∙ (withdrawn_owed head.from (fids_changed (versions_made c)) (expired clock old.lists) ∙ ap (λ (os : List OwedBreak). lasting_breaks clock old.lists.owed ++ os) (sym (new_owes_are head.from (versions_made c) (expired clock old.lists))))

  spells_reply : IsMade clock id c x → IsPlanned (stand_of s) clock head id x (callbacks_of old) p → Spells (change_reply_to s.durable.boot head clock c) p.kept
  spells_reply is plan = subst (λ (m : Message). Spells m p.kept) (sym (reply_is s.durable.boot clock id head c x is)) plan.replied.kept

  -- the lines of the step
  abbrev told_lines : List Line
  told_lines = lines.Change s.node (key_of head) (length (versions_made c)) ∷ versioned (versions_made c) (granted s.node head.from (clock + 7200) (granted_in c) (map (owe_line s.node) owes))

  plan_as : IsMade clock id c x → IsPlanned (stand_of s) clock head id x (callbacks_of old) p → IsPlan (stand_of s) (turn_for s.node (server_seen old s) clock (row.expired clock (server_seen old s).backs) (saves head c)) told_lines p.ended
  plan_as is plan =
      let b = with_lists lists_after (backs_seen old s.drawn) in
      let all = alls (lasting_breaks clock old.lists.owed) in
      let told = reply_told s.durable.boot head (clock + 7200) x.reply in
      let first = plan.replied.answer lists_after (owed_after ∙ ap (λ (os : List OwedBreak). lasting_breaks clock old.lists.owed ++ os) (sym (breaks_are is))) in
      let second = subst (λ (os : List OwedBreak). IsPlan (stand_of s) (answer_turn told (break_numbers os ++ all) false b) (change_lines s.node head (clock + 7200) x os) p.ended) (breaks_are is) first in
      let third = subst (λ (m : Message). IsPlan (stand_of s) (answer_turn m (break_numbers owes ++ all) false b) (change_lines s.node head (clock + 7200) x owes) p.ended) (sym (reply_is s.durable.boot clock id head c x is)) second in
      record {
        ends = record { backs = third.ends.backs; sent = third.ends.sent };
        lines = third.lines ∙ lines_are s.node head (clock + 7200) x (versions_made c) (granted_in c) owes is.versions (sym (change_grants c.id c.caller (time_in (stored_by clock c)) (result c) c.shown c.call x.reply is.reply));
        drawn = third.drawn;
        owed = third.owed;
        calls = third.calls;
      }

  folds_as : IsPlanned (stand_of s) clock head id x (callbacks_of old) p → IsPut p s t → folded (change_kept head id x p.kept) s.durable ≡ Some t.durable
  folds_as plan put = ap (λ (r : StoreRecord). folded r s.durable) (sym plan.rec) ∙ put.folds

  lasting_as : get id s.durable.volumes ≡ Some c.before → IsMade clock id c x → IsNode head.from → Serves s.node old s.durable → IsPlanned (stand_of s) clock head id x (callbacks_of old) p → IsPut p s t →
      lasting_of t.durable ≡ (saved head clock c (server_seen old s)).lasting
  lasting_as there is node serves plan put = lasting_left clock id head c x p.kept s.durable t.durable there is (spells_reply is plan) node serves.kept (folds_as plan put)

  serves_as : get id s.durable.volumes ≡ Some c.before → clock ≤ 1000000000 → IsMade clock id c x → IsNode head.from → Serves s.node old s.durable → IsPlanned (stand_of s) clock head id x (callbacks_of old) p → IsTaken head clock p old new → IsPut p s t →
      Serves t.node new t.durable
  serves_as there small is node serves plan taken put =
      let me : t.node ≡ s.node = ap (λ (u : Store D). u.node) put.store in
      let lists = new_lists small is plan taken in
      let disk_as = lasting_as there is node serves plan put in
      let disk : durable_saved head id x p.kept (stored_by clock c) s.durable ≡ t.durable = some_is _ _ (sym (folds head id x p.kept c.before (stored_by clock c) s.durable there is.kept) ∙ folds_as plan put) in
      let promised = left_to_nodes head.from (fids_changed (versions_made c)) (expired clock old.lists) (lasting_promised clock old.lists.promises serves.promises) in
      record {
        node = subst IsNode (sym me) serves.node;
        boot = taken.boot ∙ (serves.boot ∙ sym (ap (λ (l : Lasting). l.boot) disk_as));
        kept = subst (λ (d : Durable). AreToNodes d.kept) disk (set_to_nodes head.from _ s.durable.kept node serves.kept);
        promises =
            subst (λ (l : Lists). All IsPromiseToNode l.promises) (sym lists)
            (granted_to_nodes head.from (clock + 7200) (fids_found (granted_in c)) (withdraws_all head.from (versions_made c) (expired clock old.lists)) node
            (subst (λ (l : Lists). All IsPromiseToNode l.promises) (sym (withdraws_are head.from (versions_made c) (expired clock old.lists))) promised));
        owed = subst (λ (l : Lists). All IsBreakToNode l.owed) (sym lists) (plan_as is plan).owed;
        calls = subst AreGoodCalls (sym taken.callees) (plan_as is plan).calls;
      }

  pub effects_as : get id s.durable.volumes ≡ Some c.before → IsMade clock id c x → IsPlanned (stand_of s) clock head id x (callbacks_of old) p → TellsAgain clock (saves head c) old s
  effects_as there is plan r recorded =
      told_again s.node clock id head c x p.kept (server_seen old s) s.durable r there is (subst FitsRecord plan.rec plan.fits)
      (sym (record_is s.durable.boot clock id head c x p.kept is (spells_reply is plan)) ∙ some_is _ r recorded)

  pub saved_made : (outs : Outs) → get id s.durable.volumes ≡ Some c.before → clock ≤ 1000000000 → IsMade clock id c x → IsNode head.from → Serves s.node old s.durable → IsPlanned (stand_of s) clock head id x (callbacks_of old) p → IsTaken head clock p old new →
      IsPut p s t → outs ≡ p.ended.outs → IsMadeOf clock (saves head c) (turn_for s.node (server_seen old s) clock (row.expired clock (server_seen old s).backs) (saves head c)) old new s t outs
  saved_made outs there small is node serves plan taken put given =
      let turn = turn_for s.node (server_seen old s) clock (row.expired clock (server_seen old s).backs) (saves head c) in
      let state : ServerState = saved head clock c (server_seen old s) in
      let left : Leaves state p.ended new t = record {
        lasting = lasting_as there is node serves plan put;
        seats = taken.seats (change_reply_to s.durable.boot head clock c) (spells_reply is plan);
        callees = taken.callees;
        held = taken.held;
        drawn = ap (λ (u : Store D). u.drawn) put.store;
      } in
      let ends = subst (λ (l : Lists). Ends l (pumped s.node s.durable.boot turn) p.ended) (sym (new_lists small is plan taken)) (plan_as is plan).ends in
      record {
        makes = subst (λ (o : Outs). Makes (stepped s.node state told_lines turn) [] new t o) (sym given) (makes_stepped s.node state [] told_lines turn p.ended new t left ends (plan_as is plan).lines);
        serves = serves_as there small is node serves plan taken put;
        store =
            let prepared = sym (ap (λ (u : Store D). u.prepared) put.store) in
            let count = sym (ap (λ (u : Store D). u.count) put.store) in
            let drawn = sym (ap (λ (u : Store D). u.drawn) put.store) in
            put.store ∙ (λ i. record s { durable = t.durable; disk = t.disk; prepared = prepared i; count = count i; drawn = drawn i });
        prepared = ap (λ (u : Store D). u.prepared) put.store;
        effects = effects_as there is plan;
        done = (ap (λ (r : StoreRecord). folded r s.durable) (record_is s.durable.boot clock id head c x p.kept is (spells_reply is plan)) ∙ folds_as plan put, ap (λ (u : Store D). u.count) put.store);
        few = tt;
      }
