use Rattle.std.proofs.Common.{◌≡◌, ◌++◌, ◌∙◌, ap, sym, Bool, List, ℕ, Some, slice_get, rules}
use Rattle.std.specs.List.{flat_map}
use Rattle.afs_text.specs.FinalText.{volume_text}
use Rattle.spec_records.specs.Durable.{Stored}
use Rattle.afs_shelves.specs.Shelving.{stored_as}
use Rattle.afs_final.specs.Telling.{kept_text, text_at}
use Rattle.afs_final.proofs.Places.{goes_on, none_left, same_volume}
use Rattle.afs_final.proofs.telling.push_volumes.Goals as goal

pub loop-place-preserved : goal.loop-place-preserved
loop-place-preserved g c =
    let text = volume_text c.args.server in
    let vs = c.args.store.now.durable.volumes in
    let v = c.in-Some.volume.now in
    let there : (is_new : Bool) × (slice_get vs c.loop-place.place ≡ Some (v.head.id, stored_as is_new v)) = search rules in
    goes_on text vs c.loop-place.place _ _ (flat_map kept_text c.args.all.now.items) c.loop-place.invariant (c.in_ok-push_volume-in-Some.ensures ∙ ap (λ (t : List ℕ). flat_map kept_text c.loop-place.all.items ++ t) (sym (ap (text_at text) there.1 ∙ same_volume c.args.server v.head.id there.0 v)))

pub returns-in-None : goal.returns-in-None
returns-in-None g c =
    let vs = c.args.store.now.durable.volumes in
    c.loop-place.invariant ∙ ap (λ (ws : List (ℕ × Stored)). flat_map kept_text c.args.all.now.items ++ flat_map (volume_text c.args.server) ws) (none_left vs c.loop-place.place (search rules))
