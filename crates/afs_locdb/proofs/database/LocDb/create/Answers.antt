use Rattle.std.proofs.Common.{◌≡◌, ◌∙◌, ◌+◌, ◌≤◌, [], List, ℕ, Some, None, false, ap, inl, is_some, length, rules, sym, subst}
use Rattle.afs_disk.specs.Disk.{LeavesOnly}
use Rattle.afs_journal.specs.Records.{whole_records, IsBeforeOrAfter}
use Rattle.afs_journal.proofs.Moments.{and_on, begins, weaker}
use Rattle.afs_num.specs.declared.types.Node.TheVariants.{Loc}
use Rattle.spec_records.specs.LocDurable.{loc_first_folded, loc_first_record, loc_set_up, nothing_listed}
use Rattle.spec_records.specs.LocRecords.{loc_record_bytes, LocRecord}
use Rattle.afs_locdb.specs.Creating.{IsSetUpSoFar}
use Rattle.afs_locdb.specs.Saving.{LocStoreOf}
use Rattle.afs_locdb.specs.Seen.{Database, Serves}
use Rattle.afs_locdb.proofs.Created.{first_boot, left_so_far, made_as, new_serves, not_none, nothing_there}
use Rattle.afs_locdb.proofs.database.LocDb.create.Goals as goal

pub returns-in-Err-clause-any_moment : goal.returns-in-Err-clause-any_moment
returns-in-Err-clause-any_moment g c = λ told only.
    begins g.D.Disk.moment g.D.Disk.left_since c.args.disk (IsSetUpSoFar (g.D.Disk.limit c.args.disk) c.args.volumes.now) (λ b left. inl (nothing_there b (only b (g.met.D.Disk.just_now c.args.disk b left))))

pub returns-then-len-capacity-clause-any_moment : goal.returns-then-len-capacity-clause-any_moment
returns-then-len-capacity-clause-any_moment g c = λ told only.
    begins g.D.Disk.moment g.D.Disk.left_since c.args.disk (IsSetUpSoFar (g.D.Disk.limit c.args.disk) c.args.volumes.now) (λ b left. inl (nothing_there b (only b (g.met.D.Disk.just_now c.args.disk b left))))

-- behind the test the record fits, so something is set up
pub returns-in-Err-begin-clause-room : goal.returns-in-Err-begin-clause-room
returns-in-Err-begin-clause-room g c = λ none.
    let limit = g.D.Disk.limit c.args.disk in
    let rec = c.in-Ok.first.0 in
    let le : length (loc_record_bytes rec) + 10 ≤ limit = search rules in
    absurd (not_none limit c.args.volumes.now (subst (λ (r : LocRecord). length (loc_record_bytes r) + 10 ≤ limit) c.in-Ok.ensures.value le) none)

pub returns-in-Err-store-clause-room : goal.returns-in-Err-store-clause-room
returns-in-Err-store-clause-room g c = λ none.
    let limit = g.D.Disk.limit c.args.disk in
    let rec = c.in-Ok.first.0 in
    let le : length (loc_record_bytes rec) + 10 ≤ limit = search rules in
    absurd (not_none limit c.args.volumes.now (subst (λ (r : LocRecord). length (loc_record_bytes r) + 10 ≤ limit) c.in-Ok.ensures.value le) none)

pub returns-in-Ok-store-clause-rest : goal.returns-in-Ok-store-clause-rest
returns-in-Ok-store-clause-rest g c =
    let limit = g.D.Disk.limit c.args.disk in
    let rec = c.in-Ok.first.0 in
    let st = c.in-Ok-store.store in
    let le : length (loc_record_bytes rec) + 10 ≤ limit = search rules in
    let made = subst (λ (n : ℕ). loc_first_folded rec (nothing_listed n) ≡ Some st.durable) c.in-Ok-begin.ensures.ok.0.same_limit c.in-Ok-store.ensures.made in
    let boot = first_boot limit c.args.volumes.now rec st.durable c.in-Ok.ensures.value le made in
    subst (λ (b : Database g.row.D.Denot). b ≡ record { store = record { durable = b.store.durable; disk = b.store.disk; node = Loc; prepared = None; closed = false; count = 1; drawn = 0 }; boot = 1; seats = [] }) (sym c.over.ensures)
    (λ i. record { store = c.in-Ok-store.ensures.rest i; boot = boot i; seats = [] })

pub returns-in-Ok-store-clause-serves : goal.returns-in-Ok-store-clause-serves
returns-in-Ok-store-clause-serves g c =
    let limit = g.D.Disk.limit c.args.disk in
    let ls = c.args.volumes.now in
    let rec = c.in-Ok.first.0 in
    let st = c.in-Ok-store.store in
    let le : length (loc_record_bytes rec) + 10 ≤ limit = search rules in
    let made = subst (λ (n : ℕ). loc_first_folded rec (nothing_listed n) ≡ Some st.durable) c.in-Ok-begin.ensures.ok.0.same_limit c.in-Ok-store.ensures.made in
    let boot = first_boot limit ls rec st.durable c.in-Ok.ensures.value le made in
    subst Serves (sym c.over.ensures)
    (new_serves limit ls (record { store = st; boot = st.durable.boot; seats = [] }) (subst (λ (r : LocRecord). length (loc_record_bytes r) + 10 ≤ limit) c.in-Ok.ensures.value le) (made_as limit ls rec st.durable c.in-Ok.ensures.value le made) boot
    (ap (λ (u : LocStoreOf g.row.D.Denot). u.node) c.in-Ok-store.ensures.rest))

pub returns-in-Ok-store-clause-any_moment : goal.returns-in-Ok-store-clause-any_moment
returns-in-Ok-store-clause-any_moment g c = λ told only.
    let disk = c.args.disk in
    let limit = g.D.Disk.limit disk in
    let ls = c.args.volumes.now in
    let rec = c.in-Ok.first.0 in
    let le : length (loc_record_bytes rec) + 10 ≤ limit = search rules in
    let j = c.in-Ok-begin.journal.disk in
    let none : LeavesOnly g.D.Disk.moment g.D.Disk.left_since disk j (IsSetUpSoFar limit ls) =
    weaker g.D.Disk.moment g.D.Disk.left_since disk j (IsSetUpSoFar limit ls) (λ (b : List ℕ). whole_records b ≡ []) (c.in-Ok-begin.ensures.any_moment told only) (λ b left. inl left) in
    let more = c.in-Ok-store.ensures.any_moment (ap is_some (c.in-Ok-begin.ensures.begun (ap is_some told)).now) in
    subst (λ (b : Database g.row.D.Denot). LeavesOnly g.D.Disk.moment g.D.Disk.left_since disk b.store.disk (IsSetUpSoFar limit ls)) (sym c.over.ensures)
    (and_on g.D.Disk.moment g.D.Disk.left_since disk j c.in-Ok-store.store.disk (IsSetUpSoFar limit ls) (IsBeforeOrAfter [] (loc_record_bytes rec)) none more
    (λ b left. left_so_far c.loc_records_are_read_again.ensures limit ls rec b c.in-Ok.ensures.value c.in-Ok.ensures.fits le left))

pub returns-in-Err-store-clause-any_moment : goal.returns-in-Err-store-clause-any_moment
returns-in-Err-store-clause-any_moment g c = λ told only.
    let disk = c.args.disk in
    let limit = g.D.Disk.limit disk in
    let ls = c.args.volumes.now in
    let rec = c.in-Ok.first.0 in
    let le : length (loc_record_bytes rec) + 10 ≤ limit = search rules in
    let j = c.in-Ok-begin.journal.disk in
    let none : LeavesOnly g.D.Disk.moment g.D.Disk.left_since disk j (IsSetUpSoFar limit ls) =
    weaker g.D.Disk.moment g.D.Disk.left_since disk j (IsSetUpSoFar limit ls) (λ (b : List ℕ). whole_records b ≡ []) (c.in-Ok-begin.ensures.any_moment told only) (λ b left. inl left) in
    let more = c.in-Err-store.ensures.any_moment (ap is_some (c.in-Ok-begin.ensures.begun (ap is_some told)).now) in
    and_on g.D.Disk.moment g.D.Disk.left_since disk j c.in-Err-store.refused.1 (IsSetUpSoFar limit ls) (IsBeforeOrAfter [] (loc_record_bytes rec)) none more
    (λ b left. left_so_far c.loc_records_are_read_again.ensures limit ls rec b c.in-Ok.ensures.value c.in-Ok.ensures.fits le left)
