-- An image that can be seen is the image of what it is seen as.
use Rattle.std.proofs.Common.{◌≡◌, ℕ, List, [], ◌∷◌, map, refl, sym, ap, ◌∙◌}
use Rattle.std.specs.List.{AllByRecursion}
use Rattle.afs_num.specs.declared.vnodes.Vnode as image
use Rattle.spec_ideal.specs.Images.{image_of}
use Rattle.spec_ideal.specs.Volumes.{Vnode}
use Rattle.afs_changes.specs.Drawing.{shown_by, IsLeft}
use Rattle.afs_volume.specs.Seen.{seen}
use Rattle.afs_changes.proofs.Drawn.{imaged}
use Rattle.afs_volume.proofs.Imaged.{image_again}

left_again : (time : ℕ) (x : image.Vnode) → IsLeft time x → image_of x.vnode time (seen x) ≡ x
left_again time x h = ap (λ (t : ℕ). image_of x.vnode t (seen x)) (sym h.time) ∙ image_again x h.readable

pub images_again : (time : ℕ) (xs : List image.Vnode) → AllByRecursion (IsLeft time) xs → map (imaged time) (shown_by xs) ≡ xs
images_again time [] h = refl
images_again time (x ∷ xs) h = rw (left_again time x h.0, images_again time xs h.1) refl
