use Rattle.std.proofs.Common.{◌≡◌, ◌++◌, true}
use Rattle.std.specs.List.{AllByRecursion}
use Rattle.std.specs.Vec.Iter.{into_iter_items}
use Rattle.afs_num.specs.declared.vnodes.Vnode as image
use Rattle.spec_ideal.specs.VnodeImage.{kind_fits, FitsImage}
use Rattle.spec_records.specs.Forms.{HasImageForm}
use Rattle.afs_setup.proofs.laying.images_told.Given as goal

abbrev pub invariant-loop-vnode : goal.invariant-loop-vnode
invariant-loop-vnode l = record {
  same : l.images ++ into_iter_items l.vnode-iterator ≡ l.fn.vnodes;
  fits : AllByRecursion FitsImage (into_iter_items l.vnode-iterator);
  kinds : AllByRecursion (λ (x : image.Vnode). kind_fits x.vnode x.kind ≡ true) (into_iter_items l.vnode-iterator);
  form : AllByRecursion HasImageForm l.images;
}
