-- What set-up lays by one operation.
use Rattle.std.proofs.Common.{◌≡◌, ℕ, ◌≤◌, ℤ, Bool, true, false, cond, nat_lt, pos, List, length, Some, Result, Ok, Err, ap, sym, subst}
use Rattle.std.specs.Option.{option_map}
use Rattle.std.specs.Prelude.{IfErr}
use Rattle.afs_num.specs.declared.calls.FsCall.{FsCall}
use Rattle.afs_num.specs.declared.calls.FsCall.TheVariants as calls
use Rattle.afs_num.specs.declared.types.Fid.{Fid}
use Rattle.spec_shape.specs.Reading.{◌>>=◌}
use Rattle.spec_ideal.specs.Operations as ops
use Rattle.spec_ideal.specs.Operations.{all_rights, changes, op, Found, IsOn}
use Rattle.spec_ideal.specs.SetUp.{acl_laid, called, laid_by, led, unless_over}
use Rattle.spec_ideal.specs.Soundness.{IsSound}
use Rattle.spec_ideal.specs.VnodeMaps.{most_vnodes}
use Rattle.spec_ideal.specs.Volumes.{Edit, Volume}
use Rattle.spec_ideal.proofs.Laid.{called_sound}
use Rattle.spec_ideal.proofs.Proper.{operations_change}
use Rattle.afs_laying.specs.Filled.{at_once, code_in, fid_in, CanBeLaid, IsCodeOf, Lays}
use Rattle.afs_reads.specs.Replying.{refusal_of}
use Rattle.afs_changes.specs.Planning.{Plans}
use Rattle.afs_reads.specs.declared.faults.OpFault.{OpFault}
use Rattle.afs_volume.specs.declared.volume.Volume as volumes
use Rattle.afs_reads.specs.declared.faults.OpFault.TheVariants as faults
use Rattle.afs_changes.proofs.Changed.{drawable, within}

pub called_is : (id : ℕ) (call : FsCall) (v : Volume) (es : List Edit) (m : ℕ) → op id all_rights call v ≡ changes es m → called id call v ≡ Ok (at_once id es v)
called_is id call v es m e = ap (λ (r : ops.Result). laid_by id r v) e

pub can_be_laid : (id : ℕ) (call : FsCall) (v : Volume) (es : List Edit) (m : ℕ) → IsSound v → length v.vnodes ≤ most_vnodes → IsOn id call → op id all_rights call v ≡ changes es m → CanBeLaid id v es
can_be_laid id call v es m h few on e =
    let ch = operations_change id all_rights call v es m h on e in
    record {
      sound = h;
      few = few;
      apart = ch.apart;
      one = ch.one;
      finds = ch.finds;
      fits = (within id all_rights call v es m e).fits;
      drawn = drawable id all_rights call v es m h on e;
      laid = called_sound id call v (at_once id es v) h (called_is id call v es m e);
    }

refused_by : (id : ℕ) (v : Volume) (r : ops.Result) (z : ℤ) → option_map pos (refusal_of r) ≡ Some z → option_map pos (code_in (laid_by id r v)) ≡ Some z
refused_by id v (ops.refused code) z e = e
refused_by id v (ops.reads shown) z e = absurd cc
refused_by id v (ops.changes es n) z e = absurd cc
refused_by id v ops.no_operation z e = absurd cc

-- a refusal of the operation is that of what it lays
pub refused_as : (id : ℕ) (call : FsCall) (v : Volume) (e : OpFault) → Plans (op id all_rights call v) (Err e) → IsCodeOf (called id call v) e
refused_as id call v (faults.Code code) h = refused_by id v (op id all_rights call v) code.0 h
refused_as id call v faults.OutOfMemory h = tt

-- ---- where a path leads, an access list is laid

list_by : (id : ℕ) (text : List ℕ) (v : Volume) (f : Fid) (r : Result Found ℕ) → fid_in r ≡ Some f → (r >>= λ at. called id (calls.StoreAcl at.fid text) v) ≡ called id (calls.StoreAcl f text) v
list_by id text v f (Ok found) is = ap (λ (g : Fid). called id (calls.StoreAcl g text) v) (let z : found.fid ≡ f = cc in z)
list_by id text v f (Err code) is = absurd cc

pub list_led : (id : ℕ) (path : List (List ℕ)) (text : List ℕ) (v : Volume) (f : Fid) → fid_in (led id v path) ≡ Some f → acl_laid id path text v ≡ called id (calls.StoreAcl f text) v
unfolding acl_laid
list_led id path text v f is = list_by id text v f (led id v path) is

none_led : (id : ℕ) (text : List ℕ) (v : Volume) (z : ℤ) (r : Result Found ℕ) → option_map pos (code_in r) ≡ Some z → option_map pos (code_in (r >>= λ at. called id (calls.StoreAcl at.fid text) v)) ≡ Some z
none_led id text v z (Ok found) is = absurd cc
none_led id text v z (Err code) is = is

pub list_refused : (id : ℕ) (path : List (List ℕ)) (text : List ℕ) (v : Volume) (e : OpFault) → IsCodeOf (led id v path) e → IsCodeOf (acl_laid id path text v) e
unfolding acl_laid
list_refused id path text v (faults.Code code) h = none_led id text v code.0 (led id v path) h
list_refused id path text v faults.OutOfMemory h = tt

-- ---- a refusal leaves the volume as it was

pub refused_with : {A : Type 0} (P : OpFault → Type 0) (res : Result A OpFault) (e : OpFault) → res ≡ Err e → P e → IfErr res P
refused_with {A} P res e is h = subst (λ (q : Result A OpFault). IfErr q P) (sym is) h

pub lays_refused : (r : Result Volume ℕ) (old new : volumes.Volume) (res : Result (Unit {0}) OpFault) (e : OpFault) → res ≡ Err e → IsCodeOf r e → new.head ≡ old.head → new.vnodes.table ≡ old.vnodes.table → Lays r old new res
lays_refused r old new res e is h head table = subst (λ (q : Result (Unit {0}) OpFault). Lays r old new q) (sym is) (h, (head, table))

-- what is laid another way
pub lays_as : (r s : Result Volume ℕ) (old new : volumes.Volume) (res : Result (Unit {0}) OpFault) → r ≡ s → Lays s old new res → Lays r old new res
lays_as r s old new res is h = subst (λ (q : Result Volume ℕ). Lays q old new res) (sym is) h

-- ---- a text that is too large

pub over_refused : (most n : ℕ) (r : Result Volume ℕ) → nat_lt most n ≡ true → unless_over most n r ≡ Err 27
over_refused most n r t = ap (λ (b : Bool). cond b (Err 27) r) t

pub over_not : (most n : ℕ) (r : Result Volume ℕ) → nat_lt most n ≡ false → unless_over most n r ≡ r
over_not most n r t = ap (λ (b : Bool). cond b (Err 27) r) t
