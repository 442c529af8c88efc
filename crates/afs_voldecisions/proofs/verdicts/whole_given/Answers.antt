use Rattle.std.proofs.Common.{◌≡◌, ◌∙◌, ℕ, List, [], Some, Ok, Err, ap, refl, rules, subst}
use Rattle.afs_num.specs.declared.records.RecordBody.TheVariants as bodies
use Rattle.afs_num.specs.declared.volumes.VolumeHead.{VolumeHead}
use Rattle.afs_num.specs.declared.volume_calls.VolReply.TheVariants as replies
use Rattle.spec_dumps.specs.Restores.{restored_from}
use Rattle.afs_volume.specs.Taking.{stored_of}
use Rattle.spec_volrows.specs.VolRow as row
use Rattle.afs_voldecisions.proofs.Restoring.{refused_is, restored_is}
use Rattle.afs_voldecisions.proofs.verdicts.whole_given.Goals as goal

pub returns-in-Ok : goal.returns-in-Ok
returns-in-Ok c =
    let number = c.args.number in
    let dump = c.args.given in
    let v = c.args.volume.now in
    let made = c.in-Ok.made in
    restored_is number dump v made c.restoring.result
    (c.restoring.ensures.verdict ∙ ap (λ (h : VolumeHead). row.writes replies.Restore (bodies.Restore h.id dump) (Some h.id) (row.gives number [])) c.head.ensures.value)
    (c.restoring.ensures.told c.requires) c.restoring.ensures.made c.in-Ok.ensures.id
    (subst (λ (bytes : List ℕ). restored_from v.head.id (stored_of v) bytes ≡ Ok (stored_of made)) c.as_slice.ensures c.in-Ok.ensures.ok)

pub returns-in-Err-Bad : goal.returns-in-Err-Bad
returns-in-Err-Bad c =
    let v = c.args.volume.now in
    let offset = c.in-Err-Bad.field-0-0 in
    let bad : restored_from v.head.id (stored_of v) c.as_slice.result.now ≡ Err offset = search rules in
    refused_is c.args.number offset c.args.given v c.forgetting.result c.forgetting.ensures.verdict (c.forgetting.ensures.told 102 refl) c.forgetting.ensures.unmade
    (subst (λ (bytes : List ℕ). restored_from v.head.id (stored_of v) bytes ≡ Err offset) c.as_slice.ensures bad)
