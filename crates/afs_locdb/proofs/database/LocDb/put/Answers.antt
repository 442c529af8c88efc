use Rattle.std.proofs.Common.{◌≡◌, Option, Some, refl, sym, ap, subst, ◌∙◌}
use Rattle.std.specs.Prelude.{Result, Ok, Err}
use Rattle.spec_history.specs.declared.lines.Outs.{Outs}
use Rattle.spec_records.specs.LocRecords.{FitsLocRecord}
use Rattle.afs_locdb.specs.Saving.{LocStoreOf, OnDisk}
use Rattle.afs_locdb.specs.Seen.{Database}
use Rattle.afs_server_parts.specs.declared.faults.NodeFault.{NodeFault}
use Rattle.afs_saving.proofs.Still.{handed_up, with_fault, with_value}
use Rattle.afs_locstore.specs.LocFold.{loc_fold}
use Rattle.afs_locdb.proofs.database.LocDb.put.Goals as goal

some_is : {A : Type 0} (x y : A) → ◌≡◌ {A = Option A} (Some x) (Some y) → x ≡ y
some_is x y e = cc

pub commit-requires-clause-fits : goal.commit-requires-clause-fits
commit-requires-clause-fits g c = λ r is.
    let here = ap (λ (b : Database g.row.D.Denot). b.store.prepared) c.self.view_is in
    let same : c.args.planned.rec ≡ r = some_is c.args.planned.rec r (sym c.requires.prepared ∙ (sym here ∙ is)) in
    subst FitsLocRecord same c.requires.fits

pub returns-clause-disk : goal.returns-clause-disk
returns-clause-disk g c =
    let here = ap (λ (b : Database g.row.D.Denot). b.store) c.self.view_is in
    let prepared = ap (λ (s : LocStoreOf g.row.D.Denot). s.prepared) here ∙ c.requires.prepared in
    subst (λ (s : LocStoreOf g.row.D.Denot). OnDisk g.D.Disk (Some c.args.planned.rec) s.durable s.disk c.commit.new.store.disk (Ok c.args.planned.outs)) here
    (with_value loc_fold g.D.Disk (Some c.args.planned.rec) _ _ c.commit.new.store.disk tt c.args.planned.outs (c.in_ok-commit.ensures.disk c.args.planned.rec prepared))

pub returns-in_err-commit-clause-disk : goal.returns-in_err-commit-clause-disk
returns-in_err-commit-clause-disk g c =
    let here = ap (λ (b : Database g.row.D.Denot). b.store) c.self.view_is in
    let prepared = ap (λ (s : LocStoreOf g.row.D.Denot). s.prepared) here ∙ c.requires.prepared in
    let is = handed_up c.from_residual-in_err-commit.result c.in_err-commit.field-0.0 c.from_residual-in_err-commit.ensures.1 in
    subst (λ (s : LocStoreOf g.row.D.Denot). OnDisk g.D.Disk (Some c.args.planned.rec) s.durable s.disk c.commit.new.store.disk c.from_residual-in_err-commit.result) here
    (subst (λ (r : Result Outs NodeFault). OnDisk g.D.Disk (Some c.args.planned.rec) c.self.inside.store.durable c.self.inside.store.disk c.commit.new.store.disk r) (sym is)
    (with_fault loc_fold g.D.Disk (Some c.args.planned.rec) _ _ c.commit.new.store.disk c.in_err-commit.field-0.0 (c.in_err-commit.ensures.disk c.args.planned.rec prepared)))
