use Rattle.std.proofs.Common.{◌≡◌, ◌-◌, ℕ, List, pos, length, take, slice_get, Some, None, Result, rules, ap, sym, ◌∙◌}
use Rattle.std.specs.Option.{option_map}
use Rattle.spec_ideal.specs.SetUp.{laid_at, laid_in, Laid}
use Rattle.spec_ideal.specs.Volumes.{Volume}
use Rattle.afs_laying.specs.Filled.{code_in, IsCodeOf}
use Rattle.afs_volume.specs.Giving.{volume_of}
use Rattle.afs_reads.specs.declared.faults.OpFault.{OpFault}
use Rattle.afs_laying.proofs.Called.{refused_with}
use Rattle.afs_laying.proofs.Led.{parted_is, parted_none, path_led, path_none, path_refused_as}
use Rattle.afs_laying.proofs.laying_calls.last_in.Goals as goal

pub returns-in_default-clause-refused : goal.returns-in_default-clause-refused
returns-in_default-clause-refused c = λ x.
    let w = c.args.volume.now in
    let path = c.args.path.now in
    let none : slice_get path (length path - 1) ≡ None = search rules in
    ap (λ (r : Result Volume ℕ). option_map pos (code_in r)) (path_none w.head.id path x (volume_of w) (parted_none path none))

pub returns-in_err-directory-clause-refused : goal.returns-in_err-directory-clause-refused
returns-in_err-directory-clause-refused c =
    let w = c.args.volume.now in
    let path = c.args.path.now in
    let last : slice_get path (length path - 1) ≡ Some c.in-Some.name.now = search rules in
    refused_with (λ (e : OpFault). (x : Laid) → IsCodeOf (laid_at w.head.id path x (volume_of w)) e) c.from_residual.result c.in_err-directory.field-0.0 (search rules)
    (λ x. path_refused_as w.head.id path (take (length path - 1) path) c.in-Some.name.now x (volume_of w) c.in_err-directory.field-0.0 (parted_is path c.in-Some.name.now last) c.in_err-directory.ensures.leads)

pub returns-clause-found : goal.returns-clause-found
returns-clause-found c = λ x.
    let w = c.args.volume.now in
    let path = c.args.path.now in
    let last : slice_get path (length path - 1) ≡ Some c.in-Some.name.now = search rules in
    path_led w.head.id path (take (length path - 1) path) c.in-Some.name.now x (volume_of w) c.in_ok-directory.directory (parted_is path c.in-Some.name.now last) c.in_ok-directory.ensures.leads
    ∙ ap (λ (name : List ℕ). laid_in w.head.id (volume_of w) c.in_ok-directory.directory name x) (sym c.in_ok-name.ensures)
