use Rattle.std.proofs.Common.{◌≡◌, ◌∙◌, List, ap, is_some, sym, subst, true}
use Rattle.std.specs.List.{AllByRecursion}
use Rattle.afs_num.specs.declared.vnodes.Vnode as image
use Rattle.afs_num.specs.declared.volumes.VolumeHead.{VolumeHead}
use Rattle.afs_num.specs.declared.records.StoredVolume.{StoredVolume}
use Rattle.spec_records.specs.Durable as durable
use Rattle.spec_records.specs.Durable.{by_number}
use Rattle.spec_records.specs.Forms.{HasImageForm}
use Rattle.spec_records.specs.Records.{volume_form}
use Rattle.afs_vnode.specs.Stores.{Held}
use Rattle.afs_volume.specs.Assembling.{make_volume}
use Rattle.afs_volume.specs.Seen.{FitsHead}
use Rattle.afs_setup.proofs.Laid.{are_told, is_stored, volume_fits, AreTold}
use Rattle.afs_readying.proofs.Readied.{made_again, told_again}
use Rattle.afs_setup.proofs.laying.volume_told.Goals as goal

pub images_told-requires-clause-fits : goal.images_told-requires-clause-fits
images_told-requires-clause-fits c =
    (are_told c.args.volume c.into_vnodes.result c.into_parts-head.result.1.table (ap (λ (h : Held). h.table) c.into_parts-head.ensures.vnodes) c.into_vnodes.ensures.table c.into_vnodes.ensures.vnodes c.requires.out).fits

pub images_told-requires-clause-kinds : goal.images_told-requires-clause-kinds
images_told-requires-clause-kinds c =
    (are_told c.args.volume c.into_vnodes.result c.into_parts-head.result.1.table (ap (λ (h : Held). h.table) c.into_parts-head.ensures.vnodes) c.into_vnodes.ensures.table c.into_vnodes.ensures.vnodes c.requires.out).kinds

pub returns-clause-told : goal.returns-clause-told
returns-clause-told c =
    let images = c.into_vnodes.result in
    let own : by_number images ≡ c.args.volume.vnodes.table = c.into_vnodes.ensures.table ∙ ap (λ (h : Held). h.table) c.into_parts-head.ensures.vnodes in
    let are : AreTold images = are_told c.args.volume images c.into_parts-head.result.1.table (ap (λ (h : Held). h.table) c.into_parts-head.ensures.vnodes) c.into_vnodes.ensures.table c.into_vnodes.ensures.vnodes c.requires.out in
    ap (λ (xs : List image.Vnode). record { head = c.head_in_words-head.result; vnodes = xs }) c.in_ok-vnodes.ensures.same
    ∙ is_stored c.args.volume c.head_in_words-head.result images (c.head_in_words-head.ensures.same ∙ c.into_parts-head.ensures.head) own are.ascends c.requires.times

pub returns-clause-fits : goal.returns-clause-fits
returns-clause-fits c =
    let images = c.into_vnodes.result in
    let h = c.head_in_words-head.result in
    let are : AreTold images = are_told c.args.volume images c.into_parts-head.result.1.table (ap (λ (s : Held). s.table) c.into_parts-head.ensures.vnodes) c.into_vnodes.ensures.table c.into_vnodes.ensures.vnodes c.requires.out in
    subst (λ (xs : List image.Vnode). volume_form.Fits (record { head = h; vnodes = xs })) (sym c.in_ok-vnodes.ensures.same)
    (volume_fits h images (subst FitsHead (sym c.head_in_words-head.ensures.same) c.into_parts-head.ensures.fits) c.head_in_words-head.ensures.words are (subst (AllByRecursion HasImageForm) c.in_ok-vnodes.ensures.same c.in_ok-vnodes.ensures.form))

pub returns-clause-taken : goal.returns-clause-taken
returns-clause-taken c =
    let images = c.into_vnodes.result in
    let h = c.head_in_words-head.result in
    let v = c.args.volume in
    let own : by_number images ≡ v.vnodes.table = c.into_vnodes.ensures.table ∙ ap (λ (s : Held). s.table) c.into_parts-head.ensures.vnodes in
    let are : AreTold images = are_told v images c.into_parts-head.result.1.table (ap (λ (s : Held). s.table) c.into_parts-head.ensures.vnodes) c.into_vnodes.ensures.table c.into_vnodes.ensures.vnodes c.requires.out in
    let head : v.head ≡ h = sym (c.head_in_words-head.ensures.same ∙ c.into_parts-head.ensures.head) in
    let makes : make_volume h (by_number images) ≡ true = ap (λ (k : VolumeHead). make_volume k (by_number images)) c.head_in_words-head.ensures.same ∙ (ap (make_volume c.into_parts-head.result.0) c.into_vnodes.ensures.table ∙ c.into_parts-head.ensures.whole) in
    ap is_some
    (ap (λ (xs : List image.Vnode). durable.stored_of (record { head = h; vnodes = xs })) c.in_ok-vnodes.ensures.same
    ∙ (ap durable.stored_of (sym (told_again h images v head (sym own))) ∙ made_again h images v head (sym own) are.few makes))
