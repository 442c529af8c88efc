use Rattle.std.proofs.Common.{List, subst}
use Rattle.std.specs.List.{AllByRecursion}
use Rattle.afs_num.specs.declared.vnodes.Vnode.{Vnode}
use Rattle.spec_ideal.specs.VnodeImage.{image_words}
use Rattle.afs_xdr.specs.Words.{AreWords}
use Rattle.afs_callbacks.proofs.Recorded.{record_fits}
use Rattle.afs_callbacks.proofs.saving.change_record.Goals as goal

pub returns-clause-fits : goal.returns-clause-fits
returns-clause-fits c =
    let words = subst (λ (vs : List Vnode). AllByRecursion (λ (v : Vnode). AreWords (image_words v)) vs) c.as_slice.ensures c.are_of_words.ensures in
    let removed = subst AreWords c.as_slice-2.ensures c.are_words-2.ensures in
    record_fits c.args.head.now c.args.reply c.args.id c.args.counter c.args.unique c.args.vnodes c.args.removed c.requires.node c.requires.client c.are_words.ensures.0 c.are_words.ensures.1.0 c.requires.short
    c.ranges.id.fits c.ranges.counter.fits c.ranges.unique.fits c.requires.few.0 c.requires.few.1 c.requires.images words c.requires.kinds removed
