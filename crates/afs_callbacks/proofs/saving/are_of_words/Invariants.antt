use Rattle.std.proofs.Common.{drop}
use Rattle.std.specs.List.{AllByRecursion}
use Rattle.afs_num.specs.declared.vnodes.Vnode.{Vnode}
use Rattle.spec_ideal.specs.VnodeImage.{image_words}
use Rattle.afs_xdr.specs.Words.{AreWords}
use Rattle.afs_callbacks.proofs.saving.are_of_words.Given as goal

abbrev pub invariant-loop-vnode : goal.invariant-loop-vnode
invariant-loop-vnode l = AllByRecursion (λ (v : Vnode). AreWords (image_words v)) (drop l.vnode-index l.vnodes) → AllByRecursion (λ (v : Vnode). AreWords (image_words v)) l.vnodes
