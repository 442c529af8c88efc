-- The length of a volume, counted by the images of its vnodes.
use Rattle.std.proofs.Common.{◌≡◌, ℕ, zero, suc, ◌+◌, ◌≤◌, [], ◌∷◌, length, take, slice_get, nat_eq, refl, ap, arith}
use Rattle.std.proofs.lemmas.Bool.Decides.{nat_tests}
use Rattle.afs_num.specs.declared.vnodes.Vnode as image
use Rattle.spec_ideal.specs.Tables.{Table, AscendsFrom}
use Rattle.afs_volume.specs.Giving.{volume_of}
use Rattle.afs_volume.specs.Seen.{all_seen, seen, AreReadable, IsReadable}
use Rattle.afs_volume.specs.declared.volume.Volume.{Volume}
use Rattle.afs_volume.proofs.Imaged.{image_again}
use Rattle.afs_volume.proofs.Readable.{whole}
use Rattle.afs_volume.proofs.Taken.{later_by}
use Rattle.afs_grammar.specs.Lines.{filled_up}
use Rattle.afs_grammar.specs.Sizes.{vnode_size, vnodes_size, volume_size}
use Rattle.afs_ground.specs.Sizes.{image_size, images_size, size_in_place}

size_seen : (x : image.Vnode) → IsReadable x → vnode_size (seen x) ≡ image_size x
size_seen x h = ap image_size (image_again x h)

sizes_seen : (m : ℕ) (t : Table image.Vnode) → AscendsFrom m t → AreReadable t → vnodes_size (all_seen t) ≡ images_size t
unfolding all_seen
sizes_seen m [] up all = refl
sizes_seen m (p ∷ ps) up all =
    let one = size_seen p.1 (all p.0 p.1 (grind (arith, nat_tests))) in
    let more = sizes_seen (p.0 + 1) ps up.1 (λ n x e. all n x (later_by n x p ps (nat_eq p.0 n) refl up.1 e)) in
    omega (arith, one, more)

pub volume_is : (v : Volume) → AscendsFrom 0 v.vnodes.table → 44 + filled_up (length v.head.name) + images_size v.vnodes.table ≡ volume_size (volume_of v)
volume_is v up = let vnodes = sizes_seen 0 v.vnodes.table up v.readable in omega (arith, vnodes)

-- ---- one place after the other

nothing_taken : (i : ℕ) → images_size (take i []) ≡ 0
nothing_taken zero = refl
nothing_taken (suc i) = refl

next_take : (p : ℕ × image.Vnode) (ps : Table image.Vnode) (i : ℕ) → take (suc i + 1) (p ∷ ps) ≡ p ∷ take (i + 1) ps
next_take p ps i = ap (λ (k : ℕ). take k (p ∷ ps)) (let z : suc i + 1 ≡ suc (i + 1) = omega arith in z)

pub one_more_sized : (t : Table image.Vnode) (i : ℕ) → images_size (take (i + 1) t) ≡ images_size (take i t) + size_in_place (slice_get t i)
one_more_sized [] i = rw (nothing_taken (i + 1), nothing_taken i) refl
one_more_sized (p ∷ ps) zero = omega arith
one_more_sized (p ∷ ps) (suc i) = rw (next_take p ps i) (let more = one_more_sized ps i in omega (arith, more))

pub all_sized : (t : Table image.Vnode) (i : ℕ) → length t ≤ i → images_size (take i t) ≡ images_size t
all_sized t i le = ap images_size (whole t i le)
