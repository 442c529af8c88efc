use Rattle.std.proofs.Common.{◌≡◌, ◌++◌, ◌∙◌, ap, sym, subst, List, ℕ, Some, None, slice_get, append-nil, rules}
use Rattle.std.specs.List.{flat_map}
use Rattle.afs_text.specs.FinalText.{vnode_text}
use Rattle.afs_volume.specs.Assembling.{IsReadablePlace}
use Rattle.afs_volume.specs.Seen.{all_seen, seen, IsReadable}
use Rattle.afs_final.specs.Telling.{shown_text, text_at}
use Rattle.afs_final.proofs.Places.{pushed, seen_at, shown_is, unseen_at}
use Rattle.afs_final.proofs.telling.push_vnode.Goals as goal

pub returns-in_ok-push-in-Some : goal.returns-in_ok-push-in-Some
returns-in_ok-push-in-Some c =
    let id = c.args.volume.now.head.id in
    let t = c.args.volume.now.vnodes.table in
    let x = c.in-Some.vnode.now in
    let there : slice_get t c.args.place ≡ Some (x.vnode, x) = search rules in
    let read : IsReadable x = subst IsReadablePlace there c.requires in
    let told : text_at (vnode_text id) (slice_get (all_seen t) c.args.place) ≡ vnode_text id (x.vnode, seen x) = ap (text_at (vnode_text id)) (seen_at t c.args.place (x.vnode, x) there) in
    pushed shown_text _ _ _ c.in_ok-push-in-Some.ensures.items ∙ ap (λ (s : List ℕ). flat_map shown_text c.args.all.now.items ++ s) (shown_is id x c.in_ok-version-in-Some.version read c.in_ok-version-in-Some.ensures ∙ sym told)

pub returns-in-None : goal.returns-in-None
returns-in-None c =
    let id = c.args.volume.now.head.id in
    let t = c.args.volume.now.vnodes.table in
    let none : slice_get t c.args.place ≡ None = search rules in
    sym (append-nil (flat_map shown_text c.args.all.now.items)) ∙ ap (λ (s : List ℕ). flat_map shown_text c.args.all.now.items ++ s) (sym (ap (text_at (vnode_text id)) (unseen_at t c.args.place none)))
