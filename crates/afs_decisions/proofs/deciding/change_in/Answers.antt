use Rattle.std.proofs.Common.{subst}
use Rattle.afs_num.specs.declared.volumes.VolumeHead.{VolumeHead}
use Rattle.spec_ideal.specs.Operations.{the_user}
use Rattle.afs_decisions.specs.Deciding.{ChangesAs}
use Rattle.afs_decisions.proofs.Decisions.{change_can_be_told, change_decides, change_fits, is_on}
use Rattle.afs_decisions.proofs.deciding.change_in.Goals as goal

pub apply_ready-applied-requires-clause-on : goal.apply_ready-applied-requires-clause-on
apply_ready-applied-requires-clause-on c = is_on c.args.call.now c.args.volume.now.head.id c.requires.on

pub returns : goal.returns
returns c =
    let caller = the_user c.args.user.now in
    let w = c.args.volume.now in
    let call = c.args.call.now in
    let x = c.apply_ready-applied.result in
    let d = c.in_ok-decided.decided in
    let applies = c.apply_ready-applied.ensures.applies in
    let is : ChangesAs w.head.id x d = subst (λ (h : VolumeHead). ChangesAs h.id x d) c.head.ensures.value c.in_ok-decided.ensures in
    record {
      decides = λ new s there. change_decides s c.args.now c.args.head.now caller new w call x d c.requires.on there applies is;
      told = change_can_be_told c.args.head.now.opcode c.args.now caller w call x d c.requires.call.opcode applies c.apply_ready-applied.ensures.reply is;
      fits = change_fits c.args.now caller w call x d c.requires.on applies c.apply_ready-applied.ensures.fits is;
    }
