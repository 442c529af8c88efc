-- What set-up lays has the time 0.
use Rattle.std.proofs.Common.{◌≡◌, ℕ, List, [], ◌∷◌, ◌++◌, Option, Some, None, ap, subst, ◌∙◌}
use Rattle.spec_ideal.specs.Images.{Image}
use Rattle.spec_ideal.specs.Tables.{Table, get, set, unset}
use Rattle.spec_ideal.specs.Volumes.{Vnode, Volume, Edit, edit_number}
use Rattle.spec_records.specs.Changes.{image_left, images_left, numbers_gone, set_times, stored_between, unset_times}
use Rattle.spec_records.specs.Durable.{Stored}
use Rattle.afs_laying.specs.Filled.{at_once}
use Rattle.afs_volume.specs.Giving.{volume_of}
use Rattle.afs_volume.specs.Taking.{stored_of, times_in, IsAtSetUp}
use Rattle.afs_volume.specs.declared.volume.Volume as volumes
use Rattle.afs_volume.proofs.Folded.{some_is}
use Rattle.afs_volume.proofs.Taken.{mapped_set, mapped_unset}
use Rattle.afs_volume.proofs.AtSetUp.{AreZero, set_up_by, times_zero}

set_zero : (n : ℕ) (t : Table ℕ) → AreZero t → AreZero (set n 0 t)
set_zero n t all = mapped_set (λ (time : ℕ). 0) n 0 t ∙ ap (set n 0) all

gone_zero : (ns : List ℕ) (t : Table ℕ) → AreZero t → AreZero (unset_times ns t)
gone_zero [] t all = all
gone_zero (n ∷ ns) t all = gone_zero ns (unset n t) (mapped_unset (λ (time : ℕ). 0) n t ∙ ap (unset n) all)

one_zero : (n : ℕ) (o : Option Vnode) (is : List Image) (t : Table ℕ) → ((u : Table ℕ) → AreZero u → AreZero (set_times is u)) → AreZero t → AreZero (set_times (image_left 0 n o ++ is) t)
one_zero n None is t more all = more t all
one_zero n (Some x) is t more all = more (set n 0 t) (set_zero n t all)

left_zero : (es : List Edit) (after : Volume) (t : Table ℕ) → AreZero t → AreZero (set_times (images_left 0 es after) t)
left_zero [] after t all = all
left_zero (e ∷ es) after t all = one_zero (edit_number e) (get (edit_number e) after.vnodes) (images_left 0 es after) t (left_zero es after) all

pub laid_at_set_up : (old new : volumes.Volume) (es : List Edit) → Some (stored_between 0 es (at_once old.head.id es (volume_of old)) (stored_of old)) ≡ Some (stored_of new) → IsAtSetUp old → IsAtSetUp new
laid_at_set_up old new es is e =
    let after : Volume = at_once old.head.id es (volume_of old) in
    let zero = gone_zero (numbers_gone es (volume_of old) after) _ (left_zero es after (times_in old.vnodes.table) (times_zero old e)) in
    set_up_by new.head new.vnodes.table (subst AreZero (ap (λ (s : Stored). s.times) (some_is _ _ is)) zero)
