use Rattle.std.proofs.Common.{◌≡◌, ◌+◌, ◌<◌, ℕ, List, map, rules, inl, refl, sym, ap, subst, ◌∙◌}
use Rattle.std.specs.Prelude.{min, nat_lt}
use Rattle.afs_journal.proofs.Moments.{begins}
use Rattle.afs_journal.specs.Records.{whole_records}
use Rattle.spec_records.specs.LocDurable.{loc_boot_record, LocDurable}
use Rattle.afs_store.specs.Folds.{has_room}
use Rattle.afs_store.specs.Stores.{LeftAround, Stands}
use Rattle.afs_locstore.specs.LocFold.{loc_fold}
use Rattle.spec_rows.specs.States.{Seat}
use Rattle.afs_locdb.specs.Saving.{LocStoreOf}
use Rattle.afs_locdb.specs.Seen.{Database}
use Rattle.afs_locdb.proofs.Started.{boots, next_is, revived, store_started, was_below}
use Rattle.afs_saving.specs.Kept.{seat_kept}
use Rattle.afs_locdb.proofs.database.LocDb.boot.Goals as goal

pub returns-clause-started : goal.returns-clause-started
returns-clause-started g c =
    let same = ap (λ (b : Database g.row.D.Denot). b.store) c.self.view_is in
    (search rules, store_started c.args.self.now.store c.self.inside.store c.boot.new.self same c.in_ok-boot.ensures.started c.in_ok-boot.ensures.taken)

pub returns-clause-revived : goal.returns-clause-revived
returns-clause-revived g c = λ ok.
    let same = ap (λ (b : Database g.row.D.Denot). b.store) c.self.view_is in
    let kept = ap (λ (d : LocDurable). d.kept) c.held.ensures in
    let seats : c.in-Ok.callers.seats ≡ map seat_kept c.args.self.now.store.durable.kept = c.in-Ok.ensures.seats ∙ ap (map seat_kept) (sym kept) in
    revived c.args.self.now.store c.self.inside.store c.boot.new.self same c.in_ok-boot.ensures.started c.in_ok-boot.ensures.taken c.in-Ok.callers.seats c.args.self.now.seats seats

pub returns-clause-serves : goal.returns-clause-serves
returns-clause-serves g c = λ ok.
    let same = ap (λ (b : Database g.row.D.Denot). b.store) c.self.view_is in
    let kept = ap (λ (d : LocDurable). d.kept) c.held.ensures in
    let seats : c.in-Ok.callers.seats ≡ map seat_kept c.args.self.now.store.durable.kept = c.in-Ok.ensures.seats ∙ ap (map seat_kept) (sym kept) in
    let n = c.self.inside.store.durable.boot in
    let raised = was_below n 4294967295 (has_room loc_fold c.self.inside.store.durable (loc_boot_record (n + 1))) (nat_lt n 4294967295) refl (λ e. (c.in_ok-boot.ensures.room e).1 refl) in
    let below : c.args.self.now.store.durable.boot < 4294967295 = subst (λ (s : LocStoreOf g.row.D.Denot). s.durable.boot < 4294967295) same raised in
    let next = c.in-Ok.ensures.boot ∙ next_is c.args.self.now.store.durable.boot _ (c.saturating_add-next.ensures ∙ ap (λ (k : ℕ). min (k + 1) 4294967295) c.boot_number.ensures) below in
    boots c.args.self.now.store c.self.inside.store c.boot.new.self same c.in_ok-boot.ensures.started c.in_ok-boot.ensures.taken c.in-Ok.callers.boot c.in-Ok.callers.seats next c.requires.node seats

-- no device call was made: a crash leaves what stands there
pub returns-in-Err-clause-any_moment : goal.returns-in-Err-clause-any_moment
returns-in-Err-clause-any_moment g c = λ bytes told.
    let b = c.args.self.now.store in
    let kept = c.mark-kept.ensures.kept c.requires.open in
    begins g.D.Disk.moment g.D.Disk.left_since b.disk (LeftAround loc_fold (whole_records bytes) (loc_boot_record (b.durable.boot + 1)) b.durable)
    (λ x left. let same : x ≡ bytes = kept.durable bytes told x (g.met.D.Disk.just_now b.disk x left) in (inl (ap whole_records same), inl (subst (λ (y : List ℕ). Stands loc_fold y b.durable) (sym same) (kept.stands bytes told))))
