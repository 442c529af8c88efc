use Rattle.std.proofs.Common.{◌≡◌, ◌≤◌, List, true, false, length, nat_lt, rules, sym, subst, ◌∙◌, arith}
use Rattle.std.proofs.lemmas.Bool.Decides.{nat_tests}
use Rattle.std.proofs.lemmas.List.{length-map}
use Rattle.spec_ideal.specs.Operations.{most_file_bytes}
use Rattle.spec_ideal.specs.SetUp.{a_file_of, laid_in}
use Rattle.spec_ideal.specs.Soundness.{IsSound}
use Rattle.spec_ideal.specs.Volumes.{blocks_in, edited_all}
use Rattle.spec_ideal.proofs.Looks.{Distinct}
use Rattle.spec_ideal.proofs.Tables.{ascends_lower}
use Rattle.afs_changes.specs.Planning.{edit_seen, edits_seen}
use Rattle.afs_volume.specs.Giving.{volume_of}
use Rattle.afs_changes.specs.declared.edits.Edit.{Edit}
use Rattle.afs_volume.specs.declared.volume.Volume.{Volume}
use Rattle.afs_laying.proofs.Files.{code_as, failed, file_lays, filled_apart, filled_few, lays_as, long_refused, many_refused, not_false, not_true, passed}
use Rattle.afs_volume.proofs.Soundly.{volume_sound}
use Rattle.afs_laying.proofs.laying.plan_file.Goals as goal

sound : (w : Volume) → IsSound (volume_of w)
sound w = volume_sound w.head w.vnodes.table w.readable w.sound

pub returns-in_err-check : goal.returns-in_err-check
returns-in_err-check c =
    let w = c.args.volume.now in
    let f = failed _ 27 c.in_err-check.field-0.0 c.in_err-check.ensures in
    let long : nat_lt most_file_bytes (length c.args.contents.now) ≡ true = grind (arith, nat_tests, f.0, c.len.ensures.value) in
    lays_as w.head.id (volume_of w) (laid_in w.head.id (volume_of w) c.args.d.now c.args.name.now (a_file_of c.args.contents.now)) c.from_residual-in_err-check.result c.in_err-check.field-0.0 (search rules)
    (code_as (laid_in w.head.id (volume_of w) c.args.d.now c.args.name.now (a_file_of c.args.contents.now)) 27 c.in_err-check.field-0.0 f.1 (long_refused w.head.id c.args.d.now c.args.name.now c.args.contents.now (volume_of w) (sound w) c.in_ok-accepts_file.ensures.accepts long))

pub is_within_quota-requires-clause-apart : goal.is_within_quota-requires-clause-apart
is_within_quota-requires-clause-apart c =
    let w = c.args.volume.now in
    subst (λ (es : List Edit). Distinct (edits_seen es)) (sym c.as_slice.ensures) (filled_apart w.head.id c.args.d.now c.args.name.now c.args.contents.now (volume_of w) (edits_seen c.in_ok-edits.edits) (sound w) c.in_ok-edits.ensures)

pub is_within_quota-requires-clause-few : goal.is_within_quota-requires-clause-few
is_within_quota-requires-clause-few c =
    let w = c.args.volume.now in
    let two = filled_few w.head.id c.args.d.now c.args.name.now c.args.contents.now (volume_of w) (edits_seen c.in_ok-edits.edits) c.in_ok-edits.ensures in
    let long = length-map c.in_ok-edits.edits edit_seen in
    subst (λ (es : List Edit). length es ≤ 4) (sym c.as_slice.ensures) (omega (arith, two, long))

pub is_within_quota-requires-clause-ordered : goal.is_within_quota-requires-clause-ordered
is_within_quota-requires-clause-ordered c = let w = c.args.volume.now in ascends_lower 0 1 (volume_of w).vnodes (omega arith) (sound w).ascending

pub returns-in_err-check-2 : goal.returns-in_err-check-2
returns-in_err-check-2 c =
    let w = c.args.volume.now in
    let p = passed _ 27 _ c.in_ok-check.ensures in
    let f = failed _ 109 c.in_err-check-2.field-0.0 c.in_err-check-2.ensures in
    let short : nat_lt most_file_bytes (length c.args.contents.now) ≡ false = grind (arith, nat_tests, p, c.len.ensures.value) in
    let more = not_false (nat_lt w.head.quota (blocks_in (edited_all w.head.id (edits_seen c.as_slice.result.now) (volume_of w)).vnodes)) (sym c.is_within_quota.ensures ∙ f.0) in
    let over = subst (λ (es : List Edit). nat_lt w.head.quota (blocks_in (edited_all w.head.id (edits_seen es) (volume_of w)).vnodes) ≡ true) c.as_slice.ensures more in
    lays_as w.head.id (volume_of w) (laid_in w.head.id (volume_of w) c.args.d.now c.args.name.now (a_file_of c.args.contents.now)) c.from_residual-in_err-check-2.result c.in_err-check-2.field-0.0 (search rules)
    (code_as (laid_in w.head.id (volume_of w) c.args.d.now c.args.name.now (a_file_of c.args.contents.now)) 109 c.in_err-check-2.field-0.0 f.1
    (many_refused w.head.id c.args.d.now c.args.name.now c.args.contents.now (volume_of w) (edits_seen c.in_ok-edits.edits) (sound w) c.in_ok-edits.ensures short over))

pub returns : goal.returns
returns c =
    let w = c.args.volume.now in
    let p = passed _ 27 _ c.in_ok-check.ensures in
    let q = passed _ 109 _ c.in_ok-check-2.ensures in
    let short : nat_lt most_file_bytes (length c.args.contents.now) ≡ false = grind (arith, nat_tests, p, c.len.ensures.value) in
    let less = not_true (nat_lt w.head.quota (blocks_in (edited_all w.head.id (edits_seen c.as_slice.result.now) (volume_of w)).vnodes)) (sym c.is_within_quota.ensures ∙ q) in
    let enough = subst (λ (es : List Edit). nat_lt w.head.quota (blocks_in (edited_all w.head.id (edits_seen es) (volume_of w)).vnodes) ≡ false) c.as_slice.ensures less in
    file_lays w.head.id c.args.d.now c.args.name.now c.args.contents.now (volume_of w) (edits_seen c.in_ok-edits.edits) (sound w) c.in_ok-accepts_file.ensures.few c.in_ok-edits.ensures short enough
