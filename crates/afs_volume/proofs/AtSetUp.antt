-- The times of a volume at set-up are all 0.
use Rattle.std.proofs.Common.{◌≡◌, ℕ, [], ◌∷◌, map, refl, sym, ap, subst, ◌∙◌}
use Rattle.afs_num.specs.declared.vnodes.Vnode as image
use Rattle.afs_num.specs.declared.volumes.VolumeHead.{VolumeHead}
use Rattle.spec_ideal.specs.Tables.{Table}
use Rattle.spec_records.specs.Changes.{at_set_up}
use Rattle.spec_records.specs.Durable.{Stored}
use Rattle.afs_volume.specs.Seen.{all_seen, volume_seen}
use Rattle.afs_volume.specs.Taking.{stored_with, times_in, IsAtSetUp}
use Rattle.afs_volume.specs.declared.volume.Volume as volumes

abbrev zeroes : {A : Type 0} → Table A → Table ℕ
zeroes {A} t = map (λ (p : ℕ × A). (p.0, 0)) t

abbrev pub AreZero : Table ℕ → Type 0
AreZero t = zeroes t ≡ t

-- ---- volumes whose times are 0

same_numbers : (t : Table image.Vnode) → zeroes (times_in t) ≡ zeroes (all_seen t)
unfolding all_seen
same_numbers [] = refl
same_numbers (p ∷ ps) = ap (λ (ts : Table ℕ). (p.0, 0) ∷ ts) (same_numbers ps)

pub set_up_by : (head : VolumeHead) (t : Table image.Vnode) → AreZero (times_in t) → stored_with head t ≡ at_set_up (volume_seen head t)
set_up_by head t all = ap (λ (ts : Table ℕ). record (stored_with head t) { times = ts }) (sym all ∙ same_numbers t)

pub times_zero : (v : volumes.Volume) → IsAtSetUp v → AreZero (times_in v.vnodes.table)
times_zero v e = same_numbers v.vnodes.table ∙ sym (ap (λ (s : Stored). s.times) e)

pub new_at_set_up : (head : VolumeHead) (t : Table image.Vnode) → times_in t ≡ (1, 0) ∷ [] → stored_with head t ≡ at_set_up (volume_seen head t)
new_at_set_up head t is = set_up_by head t (ap (λ (ts : Table ℕ). zeroes ts) is ∙ sym is)

-- as it was
pub still_at_set_up : (old new : volumes.Volume) → new.head ≡ old.head → new.vnodes.table ≡ old.vnodes.table → IsAtSetUp old → IsAtSetUp new
still_at_set_up old new head table e = set_up_by new.head new.vnodes.table (subst (λ (t : Table image.Vnode). AreZero (times_in t)) (sym table) (times_zero old e))
