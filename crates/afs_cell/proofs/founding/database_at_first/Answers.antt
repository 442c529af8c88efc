use Rattle.std.proofs.Common.{◌∙◌, ◌≡◌, ◌≤◌, ◌+◌, ◌↔◌, [], Some, None, ap, arith, min, subst, sym, ℕ}
use Rattle.std.specs.Prelude.{IsSome}
use Rattle.afs_num.specs.declared.types.Node.TheVariants.{Loc}
use Rattle.afs_disk.specs.Disk.{LeavesJust, Setting}
use Rattle.afs_disk.specs.Fuses.{last_of_counter, Fused}
use Rattle.spec_records.specs.LocDurable.{loc_set_up}
use Rattle.afs_store.specs.Stores.{IsCaused}
use Rattle.afs_locdb.specs.Creating.{IsSetUpSoFar}
use Rattle.afs_locdb.specs.Seen.{Database}
use Rattle.afs_cell.specs.Founding.{IsLocRefused}
use Rattle.afs_cell.specs.Refusing.{refused_as}
use Rattle.afs_cell.specs.declared.faults.SetupFault.{SetupFault}
use Rattle.afs_cell.proofs.FirstStores.{setting_of}
use Rattle.afs_cell.proofs.FirstDatabase.{first_database, refused_database}
use Rattle.afs_cell.proofs.founding.database_at_first.Goals as goal

-- what the set-up of a database may rely on
pub create-requires-clause-limit : goal.create-requires-clause-limit
create-requires-clause-limit g c =
    let disk : c.new.result.disk ≡ c.args.disk = ap (λ (f : Fused g.row.D.Denot). f.disk) c.new.ensures in
    subst (λ (n : ℕ). n ≤ 268435456) (sym (ap g.D.Disk.limit disk ∙ c.requires.capacity)) c.requires.script.capacity.1

pub create-requires-clause-lines : goal.create-requires-clause-lines
create-requires-clause-lines g c = (c.loc_set_ups_are_accepted.ensures c.args.script.now c.requires.script).0

pub over-requires-clause-up : goal.over-requires-clause-up
over-requires-clause-up g c = ap (λ (b : Database (Fused g.row.D.Denot)). b.store.closed) c.in-Ok.ensures.rest

pub over-requires-clause-unset : goal.over-requires-clause-unset
over-requires-clause-unset g c =
    let set = c.in-Ok.ensures.ok.0.same_setting ∙ ap (λ (f : Fused g.row.D.Denot). setting_of f) c.new.ensures in
    (ap (λ (x : Setting). x.stop) set, ap (λ (x : Setting). x.fail) set)

pub returns-in-Ok-clause-ok : goal.returns-in-Ok-clause-ok
returns-in-Ok-clause-ok g c =
    let b = c.in-Ok.database in
    let e = c.in-Ok.ensures in
    let m = e.ok.0 in
    let disk : c.new.result.disk ≡ c.args.disk = ap (λ (f : Fused g.row.D.Denot). f.disk) c.new.ensures in
    let none : c.new.result.calls ≡ 0 = ap (λ (f : Fused g.row.D.Denot). f.calls) c.new.ensures in
    let most : b.store.disk.calls ≤ c.new.result.calls + 12 = m.few in
    first_database g.D.Disk.seen g.D.Disk.may_leave g.D.Disk.faults g.D.Disk.limit c.args.script.now c.requires.script c.args.disk c.requires.capacity c.loc_set_ups_are_first.ensures c.numbers_ascend.ensures b c.over.result
    (subst (λ (d : g.row.D.Denot). loc_set_up (g.D.Disk.limit d) c.args.script.now.volumes ≡ Some b.store.durable) disk e.made) e.rest (omega (arith, most, none)) (m.same_limit ∙ ap g.D.Disk.limit disk)
    (subst (λ (d : g.row.D.Denot). g.D.Disk.faults b.store.disk.disk ≡ g.D.Disk.faults d) disk e.quiet.1) (subst (λ (d : g.row.D.Denot). IsSome (g.D.Disk.seen b.store.disk.disk) ↔ IsSome (g.D.Disk.seen d)) disk e.told) e.kept c.over.ensures.value c.over.ensures.can_run

pub returns-in-Err-clause-err : goal.returns-in-Err-clause-err
returns-in-Err-clause-err g c =
    let fuse = c.in-Err.fuse in
    let e = c.in-Err.ensures in
    let m = e.err.0 in
    let disk : c.new.result.disk ≡ c.args.disk = ap (λ (f : Fused g.row.D.Denot). f.disk) c.new.ensures in
    let now : ℕ = min (g.D.Disk.faults fuse.disk + fuse.tripped) last_of_counter in
    let refused =
    refused_database g.D.Disk.seen g.D.Disk.may_leave g.D.Disk.faults g.D.Disk.limit c.args.script.now c.requires.script c.args.disk c.requires.capacity c.loc_set_ups_are_accepted.ensures c.in-Err.fault fuse.disk fuse.calls (min (g.D.Disk.faults c.args.disk + 0) last_of_counter) now e.refusals
    (λ used capacity is. subst (λ (d : g.row.D.Denot). loc_set_up (g.D.Disk.limit d) c.args.script.now.volumes ≡ None) disk (e.full used capacity is).1.1)
    (subst (λ (f : Fused g.row.D.Denot). IsCaused (setting_of f) fuse.calls (min (g.D.Disk.faults f.disk + f.tripped) last_of_counter) now (g.D.Disk.faults f.disk) (g.D.Disk.faults fuse.disk) c.in-Err.fault) c.new.ensures e.err.1) (m.same_limit ∙ ap g.D.Disk.limit disk)
    (subst (λ (d : g.row.D.Denot). g.D.Disk.faults d ≤ g.D.Disk.faults fuse.disk) disk m.own_never_falls) (subst (λ (d : g.row.D.Denot). IsSome (g.D.Disk.seen fuse.disk) ↔ IsSome (g.D.Disk.seen d)) disk e.told)
    (λ none just bytes sees.
    let l = e.any_moment (subst (λ (d : g.row.D.Denot). g.D.Disk.seen d ≡ Some []) (sym disk) none) (subst (λ (d : g.row.D.Denot). LeavesJust [] (g.D.Disk.may_leave d)) (sym disk) just) in
    subst (λ (d : g.row.D.Denot). IsSetUpSoFar (g.D.Disk.limit d) c.args.script.now.volumes bytes) disk
    (l.each bytes (g.met.D.Disk.counts_now fuse.disk (g.D.Disk.moment c.new.result.disk) bytes l.later (g.met.D.Disk.leaves fuse.disk 1 bytes (g.met.D.Disk.shows fuse.disk ∙ sees))))) in
    subst (λ (x : SetupFault). IsLocRefused g.D.Disk.seen g.D.Disk.may_leave g.D.Disk.faults g.D.Disk.limit c.args.script.now c.args.disk (x, c.into_inner.result)) (sym c.refusal.ensures)
    (subst (λ (d : g.row.D.Denot). IsLocRefused g.D.Disk.seen g.D.Disk.may_leave g.D.Disk.faults g.D.Disk.limit c.args.script.now c.args.disk (refused_as c.in-Err.fault Loc, d)) (sym c.into_inner.ensures) refused)
