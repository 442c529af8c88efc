-- The fold of the record of a change puts the volume that the edits make.
use Rattle.std.proofs.Common.{◌≡◌, ℕ, List, true, Some, refl}
use Rattle.afs_num.specs.declared.records.RecordHead.{RecordHead}
use Rattle.spec_ideal.specs.Images.{image_of, value_of}
use Rattle.spec_ideal.specs.Tables.{get}
use Rattle.spec_ideal.specs.Volumes.{Edit, Vnode, counted, edited_all}
use Rattle.spec_records.specs.Changes.{change_record, stored_after}
use Rattle.spec_records.specs.Durable.{Durable, Stored, noted, placing, with_journal}
use Rattle.spec_records.specs.Laws.{CanBeStored}
use Rattle.spec_records.specs.Sound.{is_sound}
use Rattle.spec_records.proofs.Kept.{changed_is, value_back}
use Rattle.spec_fold.specs.Fold.{folded}
use Rattle.spec_fold.specs.Laws.{volume_put}

pub change_kept : (head : RecordHead) (id time : ℕ) (es : List Edit) (s : Stored) (d : Durable) → get id d.volumes ≡ Some s → CanBeStored id es s.volume → is_sound (counted (edited_all id es s.volume)) ≡ true →
    folded (change_record head id time es s.volume) d ≡ Some (with_journal (placing d (change_record head id time es s.volume)).journal (noted head (volume_put id (stored_after id time es s) d)))
unfolding folded
change_kept head id time es s d there can sound =
    let values : (n : ℕ) (x : Vnode) → get n (edited_all id es s.volume).vnodes ≡ Some x → value_of (image_of n time x) ≡ Some x = λ n x e. value_back n time x (can.sound.vnodes n x e).body (can.images n x e).names in
    rw (there, changed_is id time es s can.before can.sound.ascending values can.few sound) refl
