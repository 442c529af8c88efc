-- The result of making a volume of a dump is what the dump restores.
use Rattle.std.proofs.Common.{◌≡◌, Bool, true, false, List, Option, Some, None, Result, Ok, Err, IfOk, IfSome, nat_eq, refl, sym, ap, subst, ◌∙◌}
use Rattle.std.specs.Prelude.{◌&&◌, not}
use Rattle.std.specs.Option.{option_map}
use Rattle.afs_num.specs.declared.volumes.VolumeHead.{VolumeHead}
use Rattle.spec_ideal.specs.Images.{Image}
use Rattle.spec_ideal.specs.Tables.{Table}
use Rattle.spec_records.specs.Sound.{is_sound}
use Rattle.spec_dumps.specs.Restores.{is_other_family, restored_vnodes}
use Rattle.spec_dumps.specs.Streams.{FitsDump}
use Rattle.afs_vnode.specs.Stores.{table_of}
use Rattle.afs_volume.specs.Assembling.{make_volume}
use Rattle.afs_volume.specs.Seen.{volume_seen}
use Rattle.afs_volume.specs.Taking as taking
use Rattle.afs_volume.specs.declared.faults.AssembleFault.{AssembleFault}
use Rattle.afs_volume.specs.declared.faults.AssembleFault.TheVariants as faults
use Rattle.afs_volume.specs.declared.volume.Volume.{Volume}
use Rattle.afs_restore.specs.Filling.{filled, given_in, AreMade}
use Rattle.afs_restore.specs.Parts.{dump_in}
use Rattle.afs_restore.specs.Restoring.{MakesVolume}
use Rattle.afs_restore.specs.declared.headers.Told.{Told}
use Rattle.afs_restore.specs.declared.parts.Parts.{Parts}
use Rattle.afs_restore.proofs.Filled.{AreAll}
use Rattle.afs_restore.proofs.Given.{dump_list}
use Rattle.afs_restore.proofs.Restored.{filled_is, head_with, no_volume, none_restored, volume_is}

-- every index begins anew
abbrev pub anew_for : Volume → Told → Bool
anew_for old told = nat_eq old.head.kind 0 && not (nat_eq old.head.id told.family)

-- the vnodes that were filled in are all that the dump restores
all_of : (p : Parts) (old : Volume) (xs : Option (List Image)) → FitsDump (dump_in p) → xs ≡ filled (anew_for old p.headers.told) old.vnodes.table p.live.items (given_in p.live.items p.images.items) →
    AreAll (is_other_family old.head.id (taking.stored_of old) (dump_in p)) xs (restored_vnodes p.live.items p.images.items (taking.stored_of old))
all_of p old xs fits e =
    subst (λ (z : Option (List Image)). AreAll (is_other_family old.head.id (taking.stored_of old) (dump_in p)) z (restored_vnodes p.live.items p.images.items (taking.stored_of old))) (sym e)
    (filled_is old.head.id old.head old.vnodes.table p fits)

table_is : (t : Table Image) (xs : List Image) → Some t ≡ Some (table_of xs) → t ≡ table_of xs
table_is t xs e = cc

pub makes : (p : Parts) (old : Volume) (xs : Option (List Image)) (head : VolumeHead) (r : Result Volume AssembleFault) → FitsDump (dump_in p) → head ≡ head_with old.head p.headers.told →
    xs ≡ filled (anew_for old p.headers.told) old.vnodes.table p.live.items (given_in p.live.items p.images.items) → IfSome xs (AreMade p.live.items) → IfOk r (λ v. (v.head ≡ head) × (Some v.vnodes.table ≡ option_map table_of xs)) →
    (r ≡ Err faults.NotSound → IfSome xs (λ ys. make_volume head (table_of ys) ≡ false)) → MakesVolume (dump_in p) old r
makes p old None head (Ok v) fits is_head e made ok bad = absurd (let none = ok.1 in cc)
makes p old (Some xs) head (Ok v) fits is_head e made ok bad =
    let new : VolumeHead = head_with old.head p.headers.told in
    let own : v.head ≡ new = ok.0 ∙ is_head in
    let table : v.vnodes.table ≡ table_of xs = table_is v.vnodes.table xs ok.1 in
    let sound : is_sound (volume_seen new (table_of xs)) ≡ true = sym (ap (λ (z : VolumeHead). is_sound (volume_seen z v.vnodes.table)) own ∙ ap (λ (z : Table Image). is_sound (volume_seen new z)) table) ∙ v.sound in
    volume_is old.head.id old.head old.vnodes.table p xs (dump_list (dump_in p) fits) made (all_of p old (Some xs) fits e) sound
    ∙ ap Some (sym (ap (λ (z : VolumeHead). taking.stored_with z v.vnodes.table) own ∙ ap (λ (z : Table Image). taking.stored_with new z) table))
makes p old None head (Err faults.NotSound) fits is_head e made ok bad =
    none_restored old.head.id (taking.stored_of old) (dump_in p) (is_other_family old.head.id (taking.stored_of old) (dump_in p)) (all_of p old None fits e)
makes p old (Some xs) head (Err faults.NotSound) fits is_head e made ok bad =
    no_volume old.head.id old.head old.vnodes.table p xs made (all_of p old (Some xs) fits e) (ap (λ (z : VolumeHead). make_volume z (table_of xs)) (sym is_head) ∙ bad refl)
makes p old xs head (Err faults.OutOfMemory) fits is_head e made ok bad = tt
