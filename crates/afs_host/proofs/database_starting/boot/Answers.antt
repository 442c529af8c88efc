use Rattle.std.specs.Prelude.{◌≡◌, ◌+◌, ℕ, List, true, false, Err, IsErrOf, IsSome}
use Rattle.std.proofs.Common.{refl, ap, sym, subst, ◌∙◌}
use Rattle.afs_num.specs.declared.faults.StoreFault.{StoreFault}
use Rattle.afs_num.specs.declared.faults.StoreFault.TheVariants as refusals
use Rattle.afs_num.specs.declared.types.Node.TheVariants.{Loc}
use Rattle.spec_history.specs.declared.lines.Line.{Line}
use Rattle.spec_history.specs.declared.lines.Line.TheVariants as lines
use Rattle.afs_disk.specs.Fuses.{Fused}
use Rattle.afs_journal.specs.Records.{whole_records}
use Rattle.spec_records.specs.LocDurable.{loc_can_boot, LocDurable}
use Rattle.spec_records.specs.LocRecords.{LocRecord}
use Rattle.spec_rows.specs.LocSteps.{loc_start_row}
use Rattle.afs_store.specs.Stores.{IsEarly, StoreOf}
use Rattle.afs_locdb.specs.Seen.{Database, SameBut}
use Rattle.afs_host.specs.LocStanding.{loc_keeping}
use Rattle.afs_host.specs.LocStarting.{loc_sight, LocRises}
use Rattle.afs_host.specs.Seats.{Resting}
use Rattle.afs_host.specs.Starting.{Stays}
use Rattle.afs_host.specs.Views.{shown_database}
use Rattle.afs_host.proofs.Blows.{none_cause}
use Rattle.afs_host.proofs.Booting.{failed_boots, failed_over, full_boots, full_failed, full_over, is_true, memory_failed, still_there, untouched, was_failed}
use Rattle.afs_host.proofs.LocRising.{fits_loc_boot, loc_fits, loc_risen_boots, loc_risen_over, LocBooted}
use Rattle.afs_host.proofs.database_starting.boot.Goals as goal

-- ---- there is no memory for the line that ends the restart

pub returns-in_default-clause-boots : goal.returns-in_default-clause-boots
returns-in_default-clause-boots g c = λ begun records found told b left.
    untouched loc_keeping loc_fits g.D.Disk begun records c.args.front c.args.store.store found (c.untold.ensures.kept c.requires.up) b (subst (λ (r : Resting g.row.D.Denot). g.D.Disk.may_leave r.disk b) c.untold.ensures.value left)

pub returns-in_default-clause-over : goal.returns-in_default-clause-over
returns-in_default-clause-over g c = ap (λ (r : Resting g.row.D.Denot). g.D.Disk.faults r.disk) c.untold.ensures.value

-- ---- the record of the boot is on the disk

pub returns-in-Ok-boot-clause-boots : goal.returns-in-Ok-boot-clause-boots
returns-in-Ok-boot-clause-boots g c = λ begun records found.
    let store = c.args.store in
    let e = c.in-Ok-boot.ensures in
    let booted : LocBooted store c.boot.new.self = record {
      can = is_true (loc_can_boot store.store.durable) (λ none. (e.room none).1 refl);
      boot = ap (λ (t : StoreOf (Fused g.row.D.Denot) LocRecord LocDurable). t.durable.boot) e.started.1;
      revived = e.revived refl;
    } in
    loc_risen_boots g.D.Disk c.args.front store c.boot.new.self booted begun records found c.rise.result (subst (λ (ls : List Line). LocRises c.boot.new.self ls c.rise.result) c.in-Ok.ensures.items c.rise.ensures)

pub returns-in-Ok-boot-clause-over : goal.returns-in-Ok-boot-clause-over
returns-in-Ok-boot-clause-over g c =
    let store = c.args.store in
    let e = c.in-Ok-boot.ensures in
    let booted : LocBooted store c.boot.new.self = record {
      can = is_true (loc_can_boot store.store.durable) (λ none. (e.room none).1 refl);
      boot = ap (λ (t : StoreOf (Fused g.row.D.Denot) LocRecord LocDurable). t.durable.boot) e.started.1;
      revived = e.revived refl;
    } in
    loc_risen_over g.D.Disk c.args.front store c.boot.new.self booted (e.served.quiet (λ failed. absurd cc)).1 c.rise.result (subst (λ (ls : List Line). LocRises c.boot.new.self ls c.rise.result) c.in-Ok.ensures.items c.rise.ensures)

-- ---- it doesn't fit

pub returns-in-Err-Full-clause-boots : goal.returns-in-Err-Full-clause-boots
returns-in-Err-Full-clause-boots g c = λ begun records found.
    let store = c.args.store in
    let e = c.in-Err-Full.ensures in
    let is = c.in-Err-Full.field-0-is in
    let err : IsErrOf {T = List Line} {E = StoreFault} (Err c.in-Err-Full.field-0) (refusals.Full c.in-Err-Full.field-0-0 c.in-Err-Full.field-0-1) = ap (λ (f : StoreFault). Err f) is in
    let same : SameBut store c.boot.new.self = subst (λ (f : StoreFault). IsEarly {T = List Line} (Err f) (SameBut store c.boot.new.self)) is e.early in
    let up = ap (λ (b : Database (Fused g.row.D.Denot)). b.store.closed) same ∙ c.requires.up in
    let told = subst (λ (ls : List Line). Stays (shown_database c.boot.new.self) ls (lines.Full Loc) c.stay.result) c.in-Ok.ensures.items c.stay.ensures.stays in
    full_boots loc_keeping loc_fits g.D.Disk begun records c.args.front store.store found g.met.D.Disk.counts_now c.boot.new.self.store loc_sight loc_start_row (ap (λ (b : Database (Fused g.row.D.Denot)). b.store) same)
    (e.full c.in-Err-Full.field-0-0 c.in-Err-Full.field-0-1 err).0 (c.stay.ensures.kept up) (c.stay.ensures.counted up) c.stay.ensures.capacity c.stay.result told

pub returns-in-Err-Full-clause-over : goal.returns-in-Err-Full-clause-over
returns-in-Err-Full-clause-over g c =
    let store = c.args.store in
    let e = c.in-Err-Full.ensures in
    let is = c.in-Err-Full.field-0-is in
    let err : IsErrOf {T = List Line} {E = StoreFault} (Err c.in-Err-Full.field-0) (refusals.Full c.in-Err-Full.field-0-0 c.in-Err-Full.field-0-1) = ap (λ (f : StoreFault). Err f) is in
    let told = subst (λ (ls : List Line). Stays (shown_database c.boot.new.self) ls (lines.Full Loc) c.stay.result) c.in-Ok.ensures.items c.stay.ensures.stays in
    full_over loc_keeping loc_sight g.D.Disk loc_start_row c.args.front store.store c.boot.new.self.store (e.full c.in-Err-Full.field-0-0 c.in-Err-Full.field-0-1 err).0
    (e.served.quiet (λ failed. full_failed c.in-Err-Full.field-0 c.in-Err-Full.field-0-0 c.in-Err-Full.field-0-1 is failed)).1 c.stay.result told

-- ---- the disk failed

pub returns-in-Err-Failed-clause-boots : goal.returns-in-Err-Failed-clause-boots
returns-in-Err-Failed-clause-boots g c = λ begun records found.
    let store = c.args.store in
    let e = c.in-Err-Failed.ensures in
    let is = c.in-Err-Failed.field-0-is in
    let err : IsErrOf {T = List Line} {E = StoreFault} (Err c.in-Err-Failed.field-0) refusals.Failed = ap (λ (f : StoreFault). Err f) is in
    let can : loc_can_boot store.store.durable ≡ true = is_true (loc_can_boot store.store.durable) (λ none. was_failed c.in-Err-Failed.field-0 store.store.durable.journal store.store.durable.capacity is (e.room none).0) in
    let stayed = c.stay-in-Err-Failed in
    let told = subst (λ (ls : List Line). Stays (shown_database c.boot.new.self) ls (lines.Fault Loc) stayed.result) c.in-Ok.ensures.items stayed.ensures.stays in
    failed_boots loc_keeping loc_fits g.D.Disk begun records c.args.front store.store found g.met.D.Disk.counts_now c.boot.new.self.store loc_sight loc_start_row (record {
      store = e.failed err;
      can = can;
      fits = fits_loc_boot store.store.durable can;
      around = λ bytes seen.
          let only = e.any_moment bytes seen in
          record { later = only.later; each = only.each; before = only.before };
      rose = none_cause (record { stop = store.store.disk.stop; fail = store.store.disk.fail }) c.boot.new.self.store.disk.calls _ c.requires.unset.0 c.requires.unset.1 (e.served.failed err).1;
      capacity = stayed.ensures.capacity;
    }) (λ bytes seen. g.met.D.Disk.leaves c.boot.new.self.store.disk.disk 1 bytes (g.met.D.Disk.shows c.boot.new.self.store.disk.disk ∙ seen)) stayed.result told

pub returns-in-Err-Failed-clause-over : goal.returns-in-Err-Failed-clause-over
returns-in-Err-Failed-clause-over g c =
    let store = c.args.store in
    let e = c.in-Err-Failed.ensures in
    let is = c.in-Err-Failed.field-0-is in
    let err : IsErrOf {T = List Line} {E = StoreFault} (Err c.in-Err-Failed.field-0) refusals.Failed = ap (λ (f : StoreFault). Err f) is in
    let can : loc_can_boot store.store.durable ≡ true = is_true (loc_can_boot store.store.durable) (λ none. was_failed c.in-Err-Failed.field-0 store.store.durable.journal store.store.durable.capacity is (e.room none).0) in
    let stayed = c.stay-in-Err-Failed in
    let told = subst (λ (ls : List Line). Stays (shown_database c.boot.new.self) ls (lines.Fault Loc) stayed.result) c.in-Ok.ensures.items stayed.ensures.stays in
    failed_over loc_keeping loc_sight g.D.Disk loc_start_row c.args.front store.store c.boot.new.self.store can
    (none_cause (record { stop = store.store.disk.stop; fail = store.store.disk.fail }) c.boot.new.self.store.disk.calls _ c.requires.unset.0 c.requires.unset.1 (e.served.failed err).1) stayed.result told

-- ---- memory ran out in it

pub returns-in-Err-OutOfMemory-clause-boots : goal.returns-in-Err-OutOfMemory-clause-boots
returns-in-Err-OutOfMemory-clause-boots g c = λ begun records found.
    let store = c.args.store in
    let e = c.in-Err-OutOfMemory.ensures in
    let left = c.untold-in-Err-OutOfMemory.ensures in
    let same : SameBut store c.boot.new.self = subst (λ (f : StoreFault). IsEarly {T = List Line} (Err f) (SameBut store c.boot.new.self)) c.in-Err-OutOfMemory.field-0-is e.early in
    let up = ap (λ (b : Database (Fused g.row.D.Denot)). b.store.closed) same ∙ c.requires.up in
    subst (λ (r : Resting g.row.D.Denot). IsSome (g.D.Disk.seen r.disk) → (b : List ℕ) → g.D.Disk.may_leave r.disk b → whole_records b ≡ records) (sym left.value)
    (still_there loc_keeping loc_fits g.D.Disk begun records c.args.front store.store found g.met.D.Disk.counts_now c.boot.new.self.store (ap (λ (b : Database (Fused g.row.D.Denot)). b.store) same) (left.kept up) (left.counted up) (λ bytes seen.
    let only = e.any_moment bytes seen in
    record { later = only.later; each = only.each; before = only.before }))

pub returns-in-Err-OutOfMemory-clause-over : goal.returns-in-Err-OutOfMemory-clause-over
returns-in-Err-OutOfMemory-clause-over g c =
    let is = c.in-Err-OutOfMemory.field-0-is in
    ap (λ (r : Resting g.row.D.Denot). g.D.Disk.faults r.disk) c.untold-in-Err-OutOfMemory.ensures.value
    ∙ (c.in-Err-OutOfMemory.ensures.served.quiet (λ failed. memory_failed c.in-Err-OutOfMemory.field-0 is failed)).1
