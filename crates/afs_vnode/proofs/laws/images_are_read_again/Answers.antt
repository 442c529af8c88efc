use Rattle.spec_ideal.proofs.VnodeImage.{image_again}
use Rattle.afs_vnode.proofs.laws.images_are_read_again.Goals as goal

pub returns : goal.returns
returns c = image_again
