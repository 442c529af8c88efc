use Rattle.std.proofs.Common.{refl, rules}
use Rattle.afs_num.specs.declared.calls.FsCall.TheVariants as calls
use Rattle.spec_ideal.specs.SetUp.{acl_laid, called}
use Rattle.afs_volume.specs.Giving.{volume_of}
use Rattle.afs_laying.proofs.Called.{lays_as, lays_refused, list_led, list_refused}
use Rattle.afs_laying.proofs.laying_calls.lay_acl.Goals as goal

pub returns-in_err-fid-clause-lays : goal.returns-in_err-fid-clause-lays
returns-in_err-fid-clause-lays c =
    let w = c.args.volume.now in
    lays_refused (acl_laid w.head.id c.args.path.now c.args.acl (volume_of w)) w w c.from_residual.result c.in_err-fid.field-0.0 (search rules)
    (list_refused w.head.id c.args.path.now c.args.acl (volume_of w) c.in_err-fid.field-0.0 c.in_err-fid.ensures.leads) refl refl

pub returns-clause-lays : goal.returns-clause-lays
returns-clause-lays c =
    let w = c.args.volume.now in
    lays_as (acl_laid w.head.id c.args.path.now c.args.acl (volume_of w)) (called w.head.id (calls.StoreAcl c.in_ok-fid.fid c.args.acl) (volume_of w)) w c.lay_call.new.volume c.lay_call.result
    (list_led w.head.id c.args.path.now c.args.acl (volume_of w) c.in_ok-fid.fid c.in_ok-fid.ensures.leads) c.lay_call.ensures.lays
