use Rattle.std.proofs.Common.{subst}
use Rattle.afs_num.specs.declared.volumes.Change.{Change}
use Rattle.afs_patch.specs.Patching.{IsPatch}
use Rattle.afs_patch.proofs.Patches.{can_take_in}
use Rattle.afs_patch.proofs.patching.can_take.Goals as goal

pub returns : goal.returns
returns c = λ e.
    can_take_in c.as_slice.result.now c.args.volume.now c.args.ready.now (subst (λ (d : Change). IsPatch c.as_slice.result.now c.args.volume.now d) c.change.ensures (c.leaves_sound.ensures e)) c.requires.read c.requires.fits
