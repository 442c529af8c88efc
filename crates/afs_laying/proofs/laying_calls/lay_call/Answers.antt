use Rattle.std.proofs.Common.{List, sym, subst}
use Rattle.afs_laying.specs.Filled.{CanBeLaid}
use Rattle.afs_changes.specs.Planning.{edits_seen}
use Rattle.afs_volume.specs.Giving.{volume_of}
use Rattle.afs_changes.specs.declared.edits.Edit.{Edit}
use Rattle.afs_laying.proofs.Called.{can_be_laid}
use Rattle.afs_volume.proofs.Soundly.{volume_sound}
use Rattle.afs_laying.proofs.laying_calls.lay_call.Goals as goal

pub lay_edits-requires : goal.lay_edits-requires
lay_edits-requires c =
    let w = c.args.volume.now in
    subst (λ (es : List Edit). CanBeLaid w.head.id (volume_of w) (edits_seen es)) (sym c.as_slice.ensures)
    (can_be_laid w.head.id c.args.call (volume_of w) (edits_seen c.in_ok-plan.plan.edits) c.in_ok-plan.plan.shown (volume_sound w.head w.vnodes.table w.readable w.sound) c.in_ok-plan.ensures.few c.requires.on c.in_ok-plan.ensures.plan)
