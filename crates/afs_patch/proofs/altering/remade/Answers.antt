use Rattle.std.proofs.Common.{◌∙◌, ap, rules}
use Rattle.afs_num.specs.declared.volumes.VolumeHead.{VolumeHead}
use Rattle.afs_vnode.specs.Stores.{Held}
use Rattle.afs_patch.specs.Changing.{CantBeLeft}
use Rattle.afs_patch.proofs.Left.{cant_be_changed, is_remade, isnt_remade, AreLeft}
use Rattle.afs_patch.proofs.altering.remade.Goals as goal

pub returns-in_err-after-clause-bad : goal.returns-in_err-after-clause-bad
returns-in_err-after-clause-bad c = λ e.
    let left : CantBeLeft c.args.change.removed c.args.change.vnodes c.into_parts-head.result.1.table = search rules in
    cant_be_changed c.args.volume c.args.change c.into_parts-head.result.1.table (ap (λ (s : Held). s.table) c.into_parts-head.ensures.vnodes) c.requires.read left

pub returns-in-Ok-clause-made : goal.returns-in-Ok-clause-made
returns-in-Ok-clause-made c =
    let left : AreLeft c.args.volume c.args.change c.into_parts-head.result.1.table c.in_ok-after.after.table c.counted.result = record {
      vnodes = ap (λ (s : Held). s.table) c.into_parts-head.ensures.vnodes;
      there = c.in_ok-after.ensures.there;
      table = c.in_ok-after.ensures.table;
      head = c.counted.ensures ∙ ap (λ (h : VolumeHead). record h { counter = c.args.change.counter; unique = c.args.change.unique }) c.into_parts-head.ensures.head;
    } in
    is_remade c.args.volume c.in-Ok.volume c.args.change c.into_parts-head.result.1.table c.in_ok-after.after.table c.counted.result c.requires.read left c.in_ok-after.ensures.few c.in-Ok.ensures.parts.0 (ap (λ (s : Held). s.table) c.in-Ok.ensures.parts.1)

pub returns-in-Err-NotSound-clause-bad : goal.returns-in-Err-NotSound-clause-bad
returns-in-Err-NotSound-clause-bad c = λ e.
    let left : AreLeft c.args.volume c.args.change c.into_parts-head.result.1.table c.in_ok-after.after.table c.counted.result = record {
      vnodes = ap (λ (s : Held). s.table) c.into_parts-head.ensures.vnodes;
      there = c.in_ok-after.ensures.there;
      table = c.in_ok-after.ensures.table;
      head = c.counted.ensures ∙ ap (λ (h : VolumeHead). record h { counter = c.args.change.counter; unique = c.args.change.unique }) c.into_parts-head.ensures.head;
    } in
    isnt_remade c.args.volume c.args.change c.into_parts-head.result.1.table c.in_ok-after.after.table c.counted.result c.requires.read left (c.in-Err-NotSound.ensures.not_sound (search rules))

pub assemble-requires : goal.assemble-requires
assemble-requires c = rw c.counted.ensures (record { kind = c.into_parts-head.ensures.fits.kind; name = c.into_parts-head.ensures.fits.name })
