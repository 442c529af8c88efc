use Rattle.std.proofs.Common.{◌≡◌, ◌≤◌, ◌+◌, List, true, length, arith, lt-ltb, ℕ, Option, None, Some, ap, sym, subst, ◌∙◌}
use Rattle.std.specs.Prelude.{nat_lt, Result, Ok, Err}
use Rattle.spec_history.specs.declared.lines.Outs.{Outs}
use Rattle.spec_breaks.specs.Promises.{expired, grants_all, lasting, withdrawn, Lists}
use Rattle.spec_breaks.specs.declared.types.Promise.{Promise}
use Rattle.spec_model.specs.Calls.{call_seated}
use Rattle.spec_records.specs.Durable.{Durable}
use Rattle.spec_fold.specs.Fold.{folded}
use Rattle.spec_records.specs.Records.{FitsRecord}
use Rattle.spec_rows.specs.ServerRow.{seat_for}
use Rattle.afs_callbacks.specs.Saving.{withdraws_each}
use Rattle.afs_callbacks.specs.States.{backs_at, CallbackState}
use Rattle.afs_server.specs.Saving.{IsPut, IsTaken}
use Rattle.afs_server.specs.Seen.{Memory}
use Rattle.afs_volstore.specs.Stores.{Store}
use Rattle.afs_message.specs.Spelled.{IsSpelling, Spells}
use Rattle.afs_server_parts.specs.declared.ending.Ended.{Ended}
use Rattle.afs_server_parts.specs.declared.faults.NodeFault.{NodeFault}
use Rattle.afs_server_parts.specs.declared.faults.NodeFault.TheVariants as nodes
use Rattle.afs_promise.specs.Found.{without_found}
use Rattle.afs_callbacks.proofs.Found.{found_held, found_then, found_withdrawn}
use Rattle.afs_callbacks.proofs.Holding.{all_few}
use Rattle.afs_saving.proofs.Still.{handed_up, is_still, out_of_memory, same_counts, same_disk, with_fault, with_value}
use Rattle.afs_volstore.specs.VolumeFold.{volume_fold}
use Rattle.afs_sharing.specs.Stores.{OnDisk}
use Rattle.afs_server.proofs.server.FileServer.put.Goals as goal

some_is : {A : Type 0} (x y : A) → ◌≡◌ {A = Option A} (Some x) (Some y) → x ≡ y
some_is x y e = cc

pub withdraw-requires-clause-held : goal.withdraw-requires-clause-held
withdraw-requires-clause-held g c =
    let granted = ap (λ (k : CallbackState). k.lists) c.in_ok-grant.ensures.ok in
    let now = c.args.now in
    let n = c.args.head.now.from in
    let p = c.args.planned in
    let old = c.args.self.now.lists in
    let lists : c.grant.new.self.lists ≡ grants_all n (now + 7200) p.granted old = granted ∙ (λ i. grants_all n (now + 7200) (c.as_slice.ensures i) (c.self.view_is i).lists) in
    let late : nat_lt now (now + 7200) ≡ true = lt-ltb now (now + 7200) (omega arith) in
    let given : c.deref.result.now ≡ p.withdrawn.items = c.deref.ensures.value ∙ c.into_rest-ended.ensures.withdrawn in
    subst (λ (ps : List Promise). length ps + length (without_found ps (lasting now c.grant.new.self.lists.promises)) ≤ length (lasting now c.grant.new.self.lists.promises)) (sym given)
    (found_held n p.changed (lasting now c.grant.new.self.lists.promises) p.withdrawn.items (found_then now n (now + 7200) p.changed p.granted old c.grant.new.self.lists p.withdrawn.items late lists c.requires.can.withdraws))

pub withdraw-requires-clause-number : goal.withdraw-requires-clause-number
withdraw-requires-clause-number g c =
    let granted = ap (λ (k : CallbackState). k.lists) c.in_ok-grant.ensures.ok in
    let lists : c.grant.new.self.lists ≡ grants_all c.args.head.now.from (c.args.now + 7200) c.args.planned.granted c.args.self.now.lists = granted ∙ (λ i. grants_all c.args.head.now.from (c.args.now + 7200) (c.as_slice.ensures i) (c.self.view_is i).lists) in
    all_few c.args.head.now.from (c.args.now + 7200) c.args.planned.granted c.args.self.now.lists c.grant.new.self.lists lists c.requires.can.draws

pub keep_reply-requires-clause-spelling : goal.keep_reply-requires-clause-spelling
keep_reply-requires-clause-spelling g c = subst IsSpelling (sym c.into_rest-ended.ensures.kept) c.requires.can.spelling

pub keep-outs-requires : goal.keep-outs-requires
keep-outs-requires g c =
    let commits = c.in_ok-commit.ensures.commits c.args.planned.rec c.requires.prepared in
    let same : c.commit.new.store.drawn ≡ c.args.store.now.drawn = ap (λ (u : Store g.row.D.Denot). u.drawn) commits.0 in
    let last : c.into_rest-ended.result.0.last ≡ c.args.planned.ended.last = ap (λ (e : Ended). e.last) c.into_rest-ended.ensures.ended in
    let drawn = c.requires.can.drawn in
    omega (arith, same, last, drawn)

pub commit-requires-clause-fits : goal.commit-requires-clause-fits
commit-requires-clause-fits g c = λ r is. let same : c.args.planned.rec ≡ r = some_is _ r (sym c.requires.prepared ∙ is) in subst FitsRecord same c.requires.can.fits

pub returns-clause-puts : goal.returns-clause-puts
returns-clause-puts g c =
    let old = c.args.self.now in
    let s = c.args.store.now in
    let p = c.args.planned in
    let head = c.args.head.now in
    let mid = c.commit.new.store in
    let t = c.keep-outs.new.store in
    let now = c.args.now in
    let granted = ap (λ (k : CallbackState). k.lists) c.in_ok-grant.ensures.ok in
    let promised : c.grant.new.self.lists ≡ grants_all head.from (now + 7200) p.granted old.lists = granted ∙ (λ i. grants_all head.from (now + 7200) (c.as_slice.ensures i) (c.self.view_is i).lists) in
    let late : nat_lt now (now + 7200) ≡ true = lt-ltb now (now + 7200) (omega arith) in
    let then = found_then now head.from (now + 7200) p.changed p.granted old.lists c.grant.new.self.lists p.withdrawn.items late promised c.requires.can.withdraws in
    let is : c.into_rest-ended.result.0 ≡ p.ended = c.into_rest-ended.ensures.ended in
    let given : c.deref.result.now ≡ p.withdrawn.items = c.deref.ensures.value ∙ c.into_rest-ended.ensures.withdrawn in
    let gone : c.withdraw.new.self.lists ≡ withdrawn (without_found p.withdrawn.items (lasting now c.grant.new.self.lists.promises)) p.withdrawn.items (expired now c.grant.new.self.lists) =
    ap (λ (k : CallbackState). k.lists) c.withdraw.ensures ∙ (λ i. withdrawn (without_found (given i) (lasting now c.grant.new.self.lists.promises)) (given i) (expired now c.grant.new.self.lists)) in
    let lists : c.withdraw.new.self.lists ≡ withdraws_each head.from p.changed (expired now (grants_all head.from (now + 7200) p.granted old.lists)) =
    gone
    ∙ (found_withdrawn head.from p.changed (expired now c.grant.new.self.lists) p.withdrawn.items then
    ∙ ap (λ (l : Lists). withdraws_each head.from p.changed (expired now l)) promised) in
    let memory : c.keep-outs.new.self ≡ record old { seats = c.keep_reply.new.callers.seats; lists = c.withdraw.new.self.lists; callees = p.ended.callees.items; held = p.ended.held } =
    c.keep-outs.ensures.server ∙ (λ i. record { boot = (c.keep_reply.ensures.boot ∙ (c.in_ok-reserve.ensures.boot ∙ ap (λ (m : Memory). m.boot) c.self.view_is)) i; seats = c.keep_reply.new.callers.seats; lists = c.withdraw.new.self.lists; callees = (is i).callees.items; held = (is i).held }) in
    let store : t ≡ record mid { drawn = p.ended.last } = c.keep-outs.ensures.store ∙ (λ i. record mid { drawn = (is i).last }) in
    let commits = c.in_ok-commit.ensures.commits p.rec c.requires.prepared in
    let durable : t.durable ≡ mid.durable = ap (λ (u : Store g.row.D.Denot). u.durable) store in
    let disk : t.disk ≡ mid.disk = ap (λ (u : Store g.row.D.Denot). u.disk) store in
    let reserved = c.in_ok-reserve.ensures.seats ∙ ap (λ (m : Memory). m.seats) c.self.view_is in (
      record {
        boot = ap (λ (m : Memory). m.boot) memory;
        seats = λ m spells. ap (λ (k : Memory). k.seats) memory ∙ (c.keep_reply.ensures.seats m (subst (λ (bytes : List ℕ). Spells m bytes) (sym c.into_rest-ended.ensures.kept) spells) ∙ ap (call_seated (seat_for head m)) reserved);
        lists = ap (λ (m : Memory). m.lists) memory ∙ lists;
        callees = ap (λ (m : Memory). m.callees) memory;
        held = ap (λ (m : Memory). m.held) memory;
      },
      (
        record {
          store =
              store
              ∙ ((λ i. record (commits.0 i) { drawn = p.ended.last })
              ∙ (λ i. record s { durable = sym durable i; disk = sym disk i; prepared = None; count = s.count + 1; drawn = p.ended.last }));
          folds = commits.1 ∙ ap (λ (d : Durable). Some d) (sym durable);
        },
        c.keep-outs.ensures.outs ∙ ap (λ (e : Ended). e.outs) is,
      ),
    )

pub returns-clause-disk : goal.returns-clause-disk
returns-clause-disk g c =
    let s = c.args.store.now in
    let p = c.args.planned in
    let store : c.keep-outs.new.store ≡ record c.commit.new.store { drawn = c.into_rest-ended.result.0.last } = c.keep-outs.ensures.store in
    let disk = ap (λ (u : Store g.row.D.Denot). u.disk) store in
    let told = c.in_ok-commit.ensures.disk p.rec c.requires.prepared in
    subst (λ (x : g.row.D.Denot). OnDisk g.D.Disk (Some p.rec) s.durable s.disk x (Ok c.keep-outs.result)) (sym disk)
    (with_value volume_fold g.D.Disk (Some p.rec) s.durable s.disk c.commit.new.store.disk tt c.keep-outs.result told)

pub returns-in_err-reserve-clause-disk : goal.returns-in_err-reserve-clause-disk
returns-in_err-reserve-clause-disk g c =
    let s = c.args.store.now in
    let is = out_of_memory c.from_residual.result c.from_residual.ensures.1 in
    subst (λ (r : Result Outs NodeFault). OnDisk g.D.Disk (Some c.args.planned.rec) s.durable s.disk s.disk r) (sym is)
    (is_still volume_fold g.D.Disk (Some c.args.planned.rec) s.durable s.disk s.disk (Err nodes.OutOfMemory) tt (same_disk g.D.Disk s.disk) (same_counts g.D.Disk s.disk))

pub returns-in_err-grant-clause-disk : goal.returns-in_err-grant-clause-disk
returns-in_err-grant-clause-disk g c =
    let s = c.args.store.now in
    let is = out_of_memory c.from_residual-in_err-grant.result c.from_residual-in_err-grant.ensures.1 in
    subst (λ (r : Result Outs NodeFault). OnDisk g.D.Disk (Some c.args.planned.rec) s.durable s.disk s.disk r) (sym is)
    (is_still volume_fold g.D.Disk (Some c.args.planned.rec) s.durable s.disk s.disk (Err nodes.OutOfMemory) tt (same_disk g.D.Disk s.disk) (same_counts g.D.Disk s.disk))

pub returns-in_err-commit-clause-disk : goal.returns-in_err-commit-clause-disk
returns-in_err-commit-clause-disk g c =
    let s = c.args.store.now in
    let is = handed_up c.from_residual-in_err-commit.result c.in_err-commit.field-0.0 c.from_residual-in_err-commit.ensures.1 in
    subst (λ (r : Result Outs NodeFault). OnDisk g.D.Disk (Some c.args.planned.rec) s.durable s.disk c.commit.new.store.disk r) (sym is)
    (with_fault volume_fold g.D.Disk (Some c.args.planned.rec) s.durable s.disk c.commit.new.store.disk c.in_err-commit.field-0.0 (c.in_err-commit.ensures.disk c.args.planned.rec c.requires.prepared))
