use Rattle.std.proofs.Common.{◌∙◌, ◌≡◌, ◌≤◌, ◌+◌, ◌↔◌, [], Some, None, ap, arith, map, min, refl, subst, sym, ℕ, List}
use Rattle.std.specs.Prelude.{IsSome}
use Rattle.std.specs.Borrow.{Bor}
use Rattle.afs_num.specs.declared.types.Node.TheVariants.{Server}
use Rattle.spec_history.specs.declared.scripts.VolumeLine.{VolumeLine}
use Rattle.afs_disk.specs.Disk.{LeavesJust}
use Rattle.afs_disk.specs.Fuses.{last_of_counter, Fused}
use Rattle.spec_fold.specs.SetUps.{set_up}
use Rattle.afs_grammar.specs.Lines.{lines_of_server}
use Rattle.afs_volstore.specs.Opening.{IsSetUpSoFar}
use Rattle.afs_volstore.specs.Stores.{IsCaused}
use Rattle.afs_cell.specs.FirstSeats.{IsRefusedAt}
use Rattle.afs_cell.specs.Refusing.{refused_as}
use Rattle.afs_cell.specs.declared.faults.SetupFault.{SetupFault}
use Rattle.afs_cell.proofs.FirstStores.{first_store, refused_store, same_back, setting_of}
use Rattle.afs_cell.proofs.seating.store_at_first.Goals as goal

pub returns-in_default-clause-err : goal.returns-in_default-clause-err
returns-in_default-clause-err g c = record { cause = refl; back = same_back g.D.Disk.seen g.D.Disk.may_leave g.D.Disk.faults g.D.Disk.limit c.args.script.now c.args.server c.args.disk }

pub returns-in-Ok-create-clause-ok : goal.returns-in-Ok-create-clause-ok
returns-in-Ok-create-clause-ok g c =
    let store = c.in-Ok-create.store in
    let e = c.in-Ok-create.ensures in
    let m = e.ok.0 in
    let ls : List VolumeLine = map (λ (l : Bor VolumeLine). l.now) c.as_slice.result.now in
    let lines : ls ≡ lines_of_server c.args.server c.args.script.now.volumes = ap (λ (bs : List (Bor VolumeLine)). map (λ (l : Bor VolumeLine). l.now) bs) c.as_slice.ensures.value ∙ c.in-Ok.ensures in
    let disk : c.new.result.disk ≡ c.args.disk = ap (λ (f : Fused g.row.D.Denot). f.disk) c.new.ensures in
    let none : c.new.result.calls ≡ 0 = ap (λ (f : Fused g.row.D.Denot). f.calls) c.new.ensures in
    let most : store.disk.calls ≤ c.new.result.calls + 12 = m.few in
    first_store g.D.Disk.seen g.D.Disk.may_leave g.D.Disk.faults g.D.Disk.limit c.args.script.now c.requires.script c.args.server c.args.disk ls c.set_ups_are_first.ensures c.numbers_ascend.ensures store lines c.requires.capacity
    (subst (λ (d : g.row.D.Denot). set_up (g.D.Disk.limit d) ls ≡ Some store.durable) disk e.made) e.rest e.free (m.same_setting ∙ ap (λ (f : Fused g.row.D.Denot). setting_of f) c.new.ensures) (omega (arith, most, none)) (m.same_limit ∙ ap g.D.Disk.limit disk)
    (subst (λ (d : g.row.D.Denot). g.D.Disk.faults store.disk.disk ≡ g.D.Disk.faults d) disk e.quiet.1) (subst (λ (d : g.row.D.Denot). IsSome (g.D.Disk.seen store.disk.disk) ↔ IsSome (g.D.Disk.seen d)) disk e.told) e.kept

pub returns-clause-err : goal.returns-clause-err
returns-clause-err g c =
    let fuse = c.in-Err.fuse in
    let e = c.in-Err.ensures in
    let m = e.err.0 in
    let ls : List VolumeLine = map (λ (l : Bor VolumeLine). l.now) c.as_slice.result.now in
    let lines : ls ≡ lines_of_server c.args.server c.args.script.now.volumes = ap (λ (bs : List (Bor VolumeLine)). map (λ (l : Bor VolumeLine). l.now) bs) c.as_slice.ensures.value ∙ c.in-Ok.ensures in
    let disk : c.new.result.disk ≡ c.args.disk = ap (λ (f : Fused g.row.D.Denot). f.disk) c.new.ensures in
    let now : ℕ = min (g.D.Disk.faults fuse.disk + fuse.tripped) last_of_counter in
    let refused =
    refused_store g.D.Disk.seen g.D.Disk.may_leave g.D.Disk.faults g.D.Disk.limit c.args.script.now c.requires.script c.args.server c.args.disk ls c.set_ups_are_accepted.ensures c.in-Err.fault fuse.disk fuse.calls (min (g.D.Disk.faults c.args.disk + 0) last_of_counter) now lines
    c.requires.capacity e.refusals (λ used capacity is. subst (λ (d : g.row.D.Denot). set_up (g.D.Disk.limit d) ls ≡ None) disk (e.full used capacity is).1.1)
    (subst (λ (f : Fused g.row.D.Denot). IsCaused (setting_of f) fuse.calls (min (g.D.Disk.faults f.disk + f.tripped) last_of_counter) now (g.D.Disk.faults f.disk) (g.D.Disk.faults fuse.disk) c.in-Err.fault) c.new.ensures e.err.1) (m.same_limit ∙ ap g.D.Disk.limit disk)
    (subst (λ (d : g.row.D.Denot). g.D.Disk.faults d ≤ g.D.Disk.faults fuse.disk) disk m.own_never_falls) (subst (λ (d : g.row.D.Denot). IsSome (g.D.Disk.seen fuse.disk) ↔ IsSome (g.D.Disk.seen d)) disk e.told)
    (λ none just bytes sees.
    let l = e.any_moment (subst (λ (d : g.row.D.Denot). g.D.Disk.seen d ≡ Some []) (sym disk) none) (subst (λ (d : g.row.D.Denot). LeavesJust [] (g.D.Disk.may_leave d)) (sym disk) just) in
    subst (λ (d : g.row.D.Denot). IsSetUpSoFar (g.D.Disk.limit d) ls bytes) disk
    (l.each bytes (g.met.D.Disk.counts_now fuse.disk (g.D.Disk.moment c.new.result.disk) bytes l.later (g.met.D.Disk.leaves fuse.disk 1 bytes (g.met.D.Disk.shows fuse.disk ∙ sees))))) in
    subst (λ (x : SetupFault). IsRefusedAt g.D.Disk.seen g.D.Disk.may_leave g.D.Disk.faults g.D.Disk.limit c.args.script.now c.args.server c.args.disk (x, c.into_inner.result)) (sym c.refusal.ensures)
    (subst (λ (d : g.row.D.Denot). IsRefusedAt g.D.Disk.seen g.D.Disk.may_leave g.D.Disk.faults g.D.Disk.limit c.args.script.now c.args.server c.args.disk (refused_as c.in-Err.fault (Server c.args.server), d)) (sym c.into_inner.ensures) refused)
