-- What a dump makes beforehand of a volume is what its record makes.
use Rattle.std.proofs.Common.{◌≡◌, ℕ, List, Bool, true, false, Some, sym, ap, ◌∙◌, subst}
use Rattle.std.specs.Prelude.{Ok, Err}
use Rattle.afs_num.specs.declared.records.RecordBody.TheVariants as bodies
use Rattle.spec_ideal.specs.Tables.{get}
use Rattle.spec_records.specs.Durable.{Durable, Stored}
use Rattle.spec_dumps.specs.Restores.{restored_from}
use Rattle.spec_dumps.specs.Streams.{is_ok}
use Rattle.spec_fold.specs.Deeds.{can_restore, can_take}
use Rattle.afs_volume.specs.Taking.{stored_of}
use Rattle.afs_volume.specs.declared.volume.Volume.{Volume}
use Rattle.afs_shelves.specs.Deeds.{IsRestoredIn}
use Rattle.afs_shelves.specs.Shelving.{shelved, stored_as}
use Rattle.afs_shelves.specs.declared.shelf.Shelf.{Shelf}
use Rattle.afs_shelves.proofs.Renewed.{finished_new, renewed}

some_is : {A : Type 0} (x y : A) → Some x ≡ Some y → x ≡ y
some_is {A} x y e = cc

-- ---- dumps

-- what a dump makes of a volume it makes of it where that is new, too
pub restored_as : (is_new : Bool) (id : ℕ) (dump : List ℕ) (old v : Volume) → restored_from id (stored_of old) dump ≡ Ok (stored_of v) → restored_from id (stored_as is_new old) dump ≡ Ok (stored_as is_new v)
restored_as is_new id dump old v e = finished_new is_new id (stored_of old) dump ∙ ap (renewed is_new) e

pub refused_as : (is_new : Bool) (id offset : ℕ) (dump : List ℕ) (old : Volume) → restored_from id (stored_of old) dump ≡ Err offset → restored_from id (stored_as is_new old) dump ≡ Err offset
refused_as is_new id offset dump old e = finished_new is_new id (stored_of old) dump ∙ ap (renewed is_new) e

pub restored_in : (d : Durable) (dump : List ℕ) (v : Volume) (old : Shelf) → get v.head.id d.volumes ≡ Some (shelved old) → restored_from v.head.id (stored_of old.volume) dump ≡ Ok (stored_of v) → IsRestoredIn d dump v
restored_in d dump v old there e s is =
    let same : shelved old ≡ s = some_is (shelved old) s (sym there ∙ is) in
    subst (λ (x : Stored). restored_from v.head.id x dump ≡ Ok (stored_as x.is_new v)) same (restored_as old.is_new v.head.id dump old.volume v e)

pub can_be_restored : (d : Durable) (id : ℕ) (dump : List ℕ) (old : Shelf) (s : Stored) → get id d.volumes ≡ Some (shelved old) → restored_from id (stored_of old.volume) dump ≡ Ok s → can_take (bodies.Restore id dump) d ≡ true
can_be_restored d id dump old s there e =
    ap (can_restore id dump) there ∙ ap is_ok (finished_new old.is_new id (stored_of old.volume) dump ∙ ap (renewed old.is_new) e)

pub cant_be_restored : (d : Durable) (id offset : ℕ) (dump : List ℕ) (old : Shelf) → get id d.volumes ≡ Some (shelved old) → restored_from id (stored_of old.volume) dump ≡ Err offset → can_take (bodies.Restore id dump) d ≡ false
cant_be_restored d id offset dump old there e = ap (can_restore id dump) there ∙ ap is_ok (refused_as old.is_new id offset dump old.volume e)
