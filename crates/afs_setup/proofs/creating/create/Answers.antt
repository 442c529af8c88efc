use Rattle.std.proofs.Common.{◌≡◌, ◌∙◌, ◌+◌, ◌≤◌, Bor, [], List, ℕ, Some, ap, inl, is_some, length, map, rules, sym}
use Rattle.afs_disk.specs.Disk.{LeavesOnly}
use Rattle.afs_journal.specs.Records.{whole_records, IsBeforeOrAfter}
use Rattle.afs_journal.proofs.Moments.{and_on, begins, weaker}
use Rattle.spec_history.specs.declared.scripts.VolumeLine.{VolumeLine}
use Rattle.spec_fold.specs.Fold.{first_folded}
use Rattle.spec_records.specs.Durable.{nothing_on, Durable}
use Rattle.spec_records.specs.Records.{record_bytes}
use Rattle.afs_volstore.specs.Opening.{IsSetUpSoFar}
use Rattle.afs_volstore.proofs.Created.{left_so_far, made_on, matched_on, not_none, nothing_there, on_ok, set_up_is, IsMade}
use Rattle.afs_setup.proofs.creating.create.Goals as goal

pub returns-clause-made : goal.returns-clause-made
returns-clause-made g c =
    let limit = g.D.Disk.limit c.args.disk in
    let ls = map (λ (l : Bor VolumeLine). l.now) c.args.volumes.now in
    let rec = c.in-Ok.first.0 in
    let le : length (record_bytes rec) + 10 ≤ limit = search rules in
    on_ok c.filled-store.result _ _ c.filled-store.ensures.made
    (λ s after. set_up_is limit ls rec s.durable c.in-Ok.ensures.value le (ap (λ (n : ℕ). first_folded rec (nothing_on n)) (sym c.in-Ok-begin.ensures.ok.0.same_limit) ∙ after))

pub returns-in-Err-clause-any_moment : goal.returns-in-Err-clause-any_moment
returns-in-Err-clause-any_moment g c = λ told only.
    let ls = map (λ (l : Bor VolumeLine). l.now) c.args.volumes.now in
    begins g.D.Disk.moment g.D.Disk.left_since c.args.disk (IsSetUpSoFar (g.D.Disk.limit c.args.disk) ls) (λ b left. inl (nothing_there b (only b (g.met.D.Disk.just_now c.args.disk b left))))

pub returns-then-len-capacity-clause-any_moment : goal.returns-then-len-capacity-clause-any_moment
returns-then-len-capacity-clause-any_moment g c = λ told only.
    let ls = map (λ (l : Bor VolumeLine). l.now) c.args.volumes.now in
    begins g.D.Disk.moment g.D.Disk.left_since c.args.disk (IsSetUpSoFar (g.D.Disk.limit c.args.disk) ls) (λ b left. inl (nothing_there b (only b (g.met.D.Disk.just_now c.args.disk b left))))

pub returns-clause-any_moment : goal.returns-clause-any_moment
returns-clause-any_moment g c = λ told only.
    let disk = c.args.disk in
    let limit = g.D.Disk.limit disk in
    let ls = map (λ (l : Bor VolumeLine). l.now) c.args.volumes.now in
    let rec = c.in-Ok.first.0 in
    let le : length (record_bytes rec) + 10 ≤ limit = search rules in
    let made : (e : Durable) × IsMade limit ls rec e = made_on c.records_are_read_again.ensures limit ls rec c.in-Ok.ensures.value c.in-Ok.ensures.fits le c.in-Ok.ensures.taken in
    let j = c.in-Ok-begin.journal.disk in
    let none : LeavesOnly g.D.Disk.moment g.D.Disk.left_since disk j (IsSetUpSoFar limit ls) =
    weaker g.D.Disk.moment g.D.Disk.left_since disk j (IsSetUpSoFar limit ls) (λ (b : List ℕ). whole_records b ≡ []) (c.in-Ok-begin.ensures.any_moment told only) (λ b left. inl left) in
    matched_on c.filled-store.result _ _ _ _ (c.filled-store.ensures.any_moment (ap is_some (c.in-Ok-begin.ensures.begun (ap is_some told)).now))
    (λ s more. and_on g.D.Disk.moment g.D.Disk.left_since disk j s.disk (IsSetUpSoFar limit ls) (IsBeforeOrAfter [] (record_bytes rec)) none more (λ b left. left_so_far limit ls rec b made left))
    (λ e more. and_on g.D.Disk.moment g.D.Disk.left_since disk j e.1 (IsSetUpSoFar limit ls) (IsBeforeOrAfter [] (record_bytes rec)) none more (λ b left. left_so_far limit ls rec b made left))

-- behind the test the record fits, so something is set up
pub returns-in-Err-begin-clause-room : goal.returns-in-Err-begin-clause-room
returns-in-Err-begin-clause-room g c = λ none.
    let limit = g.D.Disk.limit c.args.disk in
    let ls = map (λ (l : Bor VolumeLine). l.now) c.args.volumes.now in
    let rec = c.in-Ok.first.0 in
    let le : length (record_bytes rec) + 10 ≤ limit = search rules in
    absurd (not_none limit ls rec (made_on c.records_are_read_again.ensures limit ls rec c.in-Ok.ensures.value c.in-Ok.ensures.fits le c.in-Ok.ensures.taken) none)

pub returns-clause-room : goal.returns-clause-room
returns-clause-room g c = λ none.
    let limit = g.D.Disk.limit c.args.disk in
    let ls = map (λ (l : Bor VolumeLine). l.now) c.args.volumes.now in
    let rec = c.in-Ok.first.0 in
    let le : length (record_bytes rec) + 10 ≤ limit = search rules in
    absurd (not_none limit ls rec (made_on c.records_are_read_again.ensures limit ls rec c.in-Ok.ensures.value c.in-Ok.ensures.fits le c.in-Ok.ensures.taken) none)
