-- What the row has of a disk differs from what stands there in the kept replies alone; records do the same to both.
use Rattle.std.proofs.Common.{◌≡◌, ℕ, Bool, true, false, cond, List, Option, Some, None, refl, ap, ◌∙◌}
use Rattle.std.specs.Prelude.{nat_eq}
use Rattle.afs_num.specs.declared.records.RecordBody.{RecordBody}
use Rattle.afs_num.specs.declared.records.RecordBody.TheVariants as bodies
use Rattle.afs_num.specs.declared.records.RecordHead.{RecordHead}
use Rattle.afs_num.specs.declared.types.Node.{Node}
use Rattle.spec_dumps.specs.Restores.{restored_from}
use Rattle.spec_fold.specs.Deeds.{can_take, clone_made, clone_put, done_by, flagged, on_stored, or_as_was}
use Rattle.spec_fold.specs.Effects.{effect_by}
use Rattle.spec_ideal.specs.Tables.{get, set}
use Rattle.spec_records.specs.Durable.{with_stamp, Durable, Stored}

-- with the boot, the replies, the journal and the capacity of this one
abbrev pub like : Durable → Durable → Durable
like r d = record d { boot = r.boot; kept = r.kept; journal = r.journal; capacity = r.capacity }

stored_like : (r d : Durable) (id : ℕ) (f : Stored → Stored) (o : Option Stored) → on_stored id f o (like r d) ≡ like r (on_stored id f o d)
stored_like r d id f None = refl
stored_like r d id f (Some s) = refl

put_like : (r d : Durable) (source id : ℕ) (name : List ℕ) (kind release : ℕ) (s : Stored) (o : Option Stored) → clone_put source id name kind release s o (like r d) ≡ like r (clone_put source id name kind release s o d)
put_like r d source id name kind release s None = refl
put_like r d source id name kind release s (Some old) = refl

clone_like : (r d : Durable) (source id : ℕ) (name : List ℕ) (kind release : ℕ) (o : Option Stored) → clone_made source id name kind release o (like r d) ≡ like r (clone_made source id name kind release o d)
clone_like r d source id name kind release None = refl
clone_like r d source id name kind release (Some s) = put_like r d source id name kind release s (get id d.volumes)

done_like : (r d : Durable) (body : RecordBody) → done_by body (like r d) ≡ like r (done_by body d)
done_like r d (bodies.First volumes) = refl
done_like r d (bodies.Change id counter unique vnodes removed) = refl
done_like r d (bodies.Boot boot) = refl
done_like r d (bodies.Create id family name kind flags quota is_new) = refl
done_like r d (bodies.Delete id) = refl
done_like r d (bodies.Clone source id name kind release) = clone_like r d source id name kind release (get source d.volumes)
done_like r d (bodies.Restore id dump) = stored_like r d id (λ s. or_as_was s (restored_from id s dump)) (get id d.volumes)
done_like r d (bodies.Flags id flags) = stored_like r d id (flagged flags) (get id d.volumes)
done_like r d (bodies.Forward id to) = refl
done_like r d bodies.Stamp = refl

stamp_by : (b : Bool) (r d : Durable) (family stamp : ℕ) →
    cond b (like r d) (record (like r d) { stamps = set family stamp d.stamps }) ≡ like r (cond b d (record d { stamps = set family stamp d.stamps }))
stamp_by true r d family stamp = refl
stamp_by false r d family stamp = refl

stamp_like : (r d : Durable) (h : RecordHead) → with_stamp h (like r d) ≡ like r (with_stamp h d)
stamp_like r d h = stamp_by (nat_eq h.stamp 0) r d h.family h.stamp

-- what a record does
pub deed_like : (r d : Durable) (h : RecordHead) (body : RecordBody) → with_stamp h (done_by body (like r d)) ≡ like r (with_stamp h (done_by body d))
deed_like r d h body = ap (with_stamp h) (done_like r d body) ∙ stamp_like r (done_by body d) h

-- whether it can be taken
pub can_like : (r d : Durable) (body : RecordBody) → can_take body (like r d) ≡ can_take body d
can_like r d (bodies.First volumes) = refl
can_like r d (bodies.Change id counter unique vnodes removed) = refl
can_like r d (bodies.Boot boot) = refl
can_like r d (bodies.Create id family name kind flags quota is_new) = refl
can_like r d (bodies.Delete id) = refl
can_like r d (bodies.Clone source id name kind release) = refl
can_like r d (bodies.Restore id dump) = refl
can_like r d (bodies.Flags id flags) = refl
can_like r d (bodies.Forward id to) = refl
can_like r d bodies.Stamp = refl

-- and what it tells
pub told_like : (r d : Durable) (me : Node) (h : RecordHead) (body : RecordBody) → effect_by me h body (like r d) ≡ effect_by me h body d
told_like r d me h (bodies.First volumes) = refl
told_like r d me h (bodies.Change id counter unique vnodes removed) = refl
told_like r d me h (bodies.Boot boot) = refl
told_like r d me h (bodies.Create id family name kind flags quota is_new) = refl
told_like r d me h (bodies.Delete id) = refl
told_like r d me h (bodies.Clone source id name kind release) = refl
told_like r d me h (bodies.Restore id dump) = refl
told_like r d me h (bodies.Flags id flags) = refl
told_like r d me h (bodies.Forward id to) = refl
told_like r d me h bodies.Stamp = refl

-- ---- what a record leaves alone

-- a volume's stamp is none of the volumes
volumes_by : (b : Bool) (d : Durable) (family stamp : ℕ) → (cond b d (record d { stamps = set family stamp d.stamps })).volumes ≡ d.volumes
volumes_by true d family stamp = refl
volumes_by false d family stamp = refl

pub stamp_volumes : (h : RecordHead) (d : Durable) → (with_stamp h d).volumes ≡ d.volumes
stamp_volumes h d = volumes_by (nat_eq h.stamp 0) d h.family h.stamp
