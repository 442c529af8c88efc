use Rattle.std.proofs.Common.{◌≡◌, ◌-◌, ℕ, pos, length, take, slice_get, Some, None, Result, rules, sym, ap, subst}
use Rattle.std.specs.Option.{option_map}
use Rattle.spec_ideal.specs.SetUp.{a_file_of, laid_at}
use Rattle.spec_ideal.specs.Volumes.{Volume}
use Rattle.afs_laying.specs.Filled.{code_in, LaysEdits}
use Rattle.afs_volume.specs.Giving.{volume_of}
use Rattle.afs_laying.proofs.Files.{lays_as}
use Rattle.afs_laying.proofs.Led.{parted_is, parted_none, path_led, path_none, path_refused_as}
use Rattle.afs_laying.proofs.laying.plan_path.Goals as goal

pub returns-in_default : goal.returns-in_default
returns-in_default c =
    let w = c.args.volume.now in
    let path = c.args.path.now in
    let none : slice_get path (length path - 1) ≡ None = search rules in
    ap (λ (r : Result Volume ℕ). option_map pos (code_in r)) (path_none w.head.id path (a_file_of c.args.contents.now) (volume_of w) (parted_none path none))

pub returns-in_err-d : goal.returns-in_err-d
returns-in_err-d c =
    let w = c.args.volume.now in
    let path = c.args.path.now in
    let last : slice_get path (length path - 1) ≡ Some c.in-Some.name.now = search rules in
    lays_as w.head.id (volume_of w) (laid_at w.head.id path (a_file_of c.args.contents.now) (volume_of w)) c.from_residual.result c.in_err-d.field-0.0 (search rules)
    (path_refused_as w.head.id path (take (length path - 1) path) c.in-Some.name.now (a_file_of c.args.contents.now) (volume_of w) c.in_err-d.field-0.0 (parted_is path c.in-Some.name.now last) c.in_err-d.ensures.leads)

pub returns : goal.returns
returns c =
    let w = c.args.volume.now in
    let path = c.args.path.now in
    let last : slice_get path (length path - 1) ≡ Some c.in-Some.name.now = search rules in
    subst (λ (r : Result Volume ℕ). LaysEdits w.head.id (volume_of w) r c.plan_file.result)
    (sym (path_led w.head.id path (take (length path - 1) path) c.in-Some.name.now (a_file_of c.args.contents.now) (volume_of w) c.in_ok-d.d (parted_is path c.in-Some.name.now last) c.in_ok-d.ensures.leads))
    c.plan_file.ensures
