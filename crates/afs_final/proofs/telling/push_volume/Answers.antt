use Rattle.std.proofs.Common.{◌++◌, ◌∙◌, ap, List, ℕ}
use Rattle.std.specs.List.{flat_map}
use Rattle.afs_text.specs.FinalText.{head_line_text, volume_text}
use Rattle.afs_final.specs.Telling.{kept_text}
use Rattle.afs_final.proofs.Places.{pushed}
use Rattle.afs_final.proofs.telling.push_volume.Goals as goal

pub returns : goal.returns
unfolding volume_text
returns c =
    let v = c.args.volume.now in
    pushed kept_text _ _ _ c.in_ok-push.ensures.items ∙ ap (λ (t : List ℕ). flat_map kept_text c.args.all.now.items ++ (head_line_text c.args.server v.head ++ t)) c.in_ok-vnodes.ensures
