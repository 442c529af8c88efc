use Rattle.std.proofs.Common.{◌≡◌, ap, sym, subst, ◌∙◌, rules, ◌++◌, List, ℕ, slice_get}
use Rattle.std.specs.List.{flat_map}
use Rattle.spec_ideal.specs.Tables.{AscendsFrom}
use Rattle.afs_vnode.specs.Stores.{Held}
use Rattle.afs_text.specs.FinalText.{vnode_text}
use Rattle.afs_volume.specs.Seen.{all_seen}
use Rattle.afs_volume.proofs.Readable.{place_readable}
use Rattle.afs_final.specs.Telling.{text_at}
use Rattle.afs_final.proofs.Places.{all_taken, one_more}
use Rattle.afs_final.proofs.telling.vnodes_of.Goals as goal

pub push_vnode-requires : goal.push_vnode-requires
push_vnode-requires c =
    let same : c.vnodes.result.now ≡ c.args.volume.now.vnodes = c.vnodes.ensures in
    let up : AscendsFrom 0 c.args.volume.now.vnodes.table = subst (λ (h : Held). AscendsFrom 0 h.table) same c.len-place-end.ensures.ascends in
    place_readable 0 c.args.volume.now.vnodes.table c.loop-place.place up c.args.volume.now.readable

pub loop-place-preserved : goal.loop-place-preserved
loop-place-preserved c =
    let id = c.args.volume.now.head.id in
    let t = all_seen c.args.volume.now.vnodes.table in
    c.in_ok-push_vnode.ensures ∙ (ap (λ (s : List ℕ). s ++ text_at (vnode_text id) (slice_get t c.loop-place.place)) c.loop-place.invariant ∙ sym (one_more (vnode_text id) t c.loop-place.place))

pub returns : goal.returns
returns c = c.loop-place.invariant ∙ ap (flat_map (vnode_text c.args.volume.now.head.id)) (all_taken c.args.volume.now.vnodes.table c.loop-place.place (search rules))
