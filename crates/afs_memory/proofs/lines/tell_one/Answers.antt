use Rattle.std.proofs.Common.{◌≡◌, ◌++◌, ◌∷◌, [], ◌∙◌, List, Option, Some, None, ap, sym, map}
use Rattle.afs_num.specs.declared.histories.Version.{Version}
use Rattle.spec_ideal.specs.Volumes.{Vnode}
use Rattle.afs_volume.specs.Seen.{volume_seen}
use Rattle.afs_memory.specs.Telling.{outcome_at, told_at, value_there, version_within}
use Rattle.afs_shelves.proofs.Lists.{on_ok}
use Rattle.afs_memory.proofs.Told.{outcome_there}
use Rattle.afs_memory.proofs.lines.tell_one.Goals as goal

pub returns-in_ok-version-in-Some-image_at : goal.returns-in_ok-version-in-Some-image_at
returns-in_ok-version-in-Some-image_at c =
    let is : outcome_at c.args.images.now c.args.outcome ≡ outcome_at c.args.images.now (Some c.in-Some.place) = ap (outcome_at c.args.images.now) c.in-Some.is in
    let there = outcome_there c.args.images.now c.in-Some.place c.in-Some-image_at.image.now c.requires (sym c.in-Some-image_at.ensures) in
    on_ok c.push.result (c.push.new.self ≡ c.args.versions.now ++ c.in_ok-version-in-Some-image_at.field-0 ∷ []) _
    (λ pushed. pushed
    ∙ ap (λ (l : List Version). c.args.versions.now ++ l)
    (ap (λ (v : Version). v ∷ []) (sym c.in_ok-version-in-Some-image_at.ensures.within ∙ ap version_within c.in_ok-version-in-Some-image_at.ensures.value)
    ∙ sym (ap (λ (o : Option Vnode). map version_within (told_at c.args.volume.now.head.id (volume_seen c.args.volume.now.head c.args.volume.now.vnodes.table) c.args.number o)) (is ∙ there))))
    c.push.ensures.ok

pub returns-in-None-image_at : goal.returns-in-None-image_at
returns-in-None-image_at c =
    let is : outcome_at c.args.images.now c.args.outcome ≡ None = ap (outcome_at c.args.images.now) c.in-Some.is ∙ ap value_there (sym c.in-None-image_at.ensures) in
    on_ok c.tell_gone.result _ _
    (λ told. told ∙ sym (ap (λ (o : Option Vnode). c.args.versions.now ++ map version_within (told_at c.args.volume.now.head.id (volume_seen c.args.volume.now.head c.args.volume.now.vnodes.table) c.args.number o)) is))
    c.tell_gone.ensures
