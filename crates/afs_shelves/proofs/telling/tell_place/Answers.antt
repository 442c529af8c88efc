use Rattle.std.proofs.Common.{◌≡◌, ◌∙◌, ◌++◌, ◌∷◌, [], List, Option, Some, None, ap, sym, slice_get}
use Rattle.std.specs.Option.{option_map}
use Rattle.spec_history.specs.declared.lines.Line.{Line}
use Rattle.spec_history.specs.declared.lines.Line.TheVariants as lines
use Rattle.afs_num.specs.declared.histories.Version.{Version}
use Rattle.afs_num.specs.declared.vnodes.Vnode as image
use Rattle.afs_vnode.specs.Stores.{Held}
use Rattle.afs_shelves.proofs.Lists.{on_ok}
use Rattle.afs_shelves.proofs.Told.{no_place, place_told}
use Rattle.afs_shelves.proofs.telling.tell_place.Goals as goal

pub returns-in_ok-version-in-Some-clause-told : goal.returns-in_ok-version-in-Some-clause-told
returns-in_ok-version-in-Some-clause-told c =
    let v = c.args.volume.now in
    let x = c.in-Some.image.now in
    let there : slice_get v.vnodes.table c.args.place ≡ Some (x.vnode, x) = ap (λ (s : Held). slice_get s.table c.args.place) (sym c.vnodes.ensures) ∙ sym c.in-Some.ensures.pair in
    on_ok c.push.result (c.push.new.self ≡ c.args.lines.now ++ lines.Version c.in_ok-version-in-Some.version ∷ []) _
    (λ pushed. place_told v.head.id c.args.place v.vnodes.table (x.vnode, x) c.args.lines.now c.push.new.self there
    (pushed ∙ ap (λ (w : Version). c.args.lines.now ++ lines.Version w ∷ []) c.in_ok-version-in-Some.ensures.value))
    c.push.ensures.ok

pub returns-in-None-clause-told : goal.returns-in-None-clause-told
returns-in-None-clause-told c =
    no_place c.args.volume.now.head.id c.args.place c.args.volume.now.vnodes.table c.args.lines.now
    (ap (λ (s : Held). slice_get s.table c.args.place) (sym c.vnodes.ensures) ∙ sym c.in-None.ensures.pair)
