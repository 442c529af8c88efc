use Rattle.std.proofs.Common.{refl, rules}
use Rattle.spec_ideal.specs.SetUp.{a_link_to, laid_at}
use Rattle.afs_volume.specs.Giving.{volume_of}
use Rattle.afs_laying.proofs.Called.{lays_refused}
use Rattle.afs_laying.proofs.laying_calls.lay_link_to.Goals as goal

pub returns-in_err-directory-clause-lays : goal.returns-in_err-directory-clause-lays
returns-in_err-directory-clause-lays c =
    let w = c.args.volume.now in
    lays_refused (laid_at w.head.id c.args.path.now (a_link_to c.args.target) (volume_of w)) w w c.from_residual.result c.in_err-directory.field-0.0 (search rules) (c.in_err-directory.ensures.refused (a_link_to c.args.target)) refl refl
