-- The families of a server's volumes: what each record of a volume server makes of them, and each change of a file server.
use Rattle.std.proofs.Common.{◌≡◌, ◌⊎◌, inl, inr, ℕ, Bool, true, false, cond, List, [], ◌∷◌, Option, Some, None, is_some, refl, sym, ap, subst, ◌∙◌, eqb-true}
use Rattle.std.specs.Prelude.{⊤, ◌&&◌, not, filter, length, nat_eq, nat_lt}
use Rattle.std.specs.List.{AllByRecursion}
use Rattle.afs_num.specs.declared.records.RecordBody.{RecordBody}
use Rattle.afs_num.specs.declared.records.RecordBody.TheVariants as bodies
use Rattle.spec_ideal.specs.Tables.{get, set, unset, Table}
use Rattle.spec_ideal.specs.VnodeMaps.{most_vnodes}
use Rattle.spec_ideal.specs.Volumes.{Volume}
use Rattle.spec_ideal.proofs.Tables.{get_set, get_unset}
use Rattle.spec_records.specs.Durable.{Durable, Stored}
use Rattle.spec_records.specs.Sound.{is_sound}
use Rattle.spec_records.proofs.Kept.{same_rest}
use Rattle.spec_dumps.specs.Clones.{cloned, recloned}
use Rattle.spec_dumps.specs.Dumps.{Dump}
use Rattle.spec_dumps.specs.Fields.{bad_at, cut_at, took, FieldTaken}
use Rattle.spec_dumps.specs.Restores.{allowed_with, restored_from, finished_by, made_or, restored_vnodes, stored_with, Timed}
use Rattle.spec_dumps.specs.Streams.{dump_at}
use Rattle.spec_fold.specs.Deeds.{clone_made, clone_put, created, done_by, flagged, has_volume, on_stored, or_as_was, with_release}
use Rattle.spec_rows.specs.ServerRow.{stored_by, Change}
use Rattle.spec_volrows.specs.VolLaws.{AreApart}
use Rattle.spec_volrows.specs.VolStates.{Transaction}

-- ---- what is found in a table

found_by : {A : Type 0} (b : Bool) (k n : ℕ) (x y : A) (o : Option A) → nat_eq k n ≡ b → cond b (Some x) o ≡ Some y → ((k ≡ n) × (x ≡ y)) ⊎ (o ≡ Some y)
found_by {A} true k n x y o is e = inl (eqb-true k n is, (let same : x ≡ y = cc in same))
found_by {A} false k n x y o is e = inr e

-- what was put there, or what was there before
pub put_found : {A : Type 0} (k n : ℕ) (x y : A) (t : Table A) → get n (set k x t) ≡ Some y → ((k ≡ n) × (x ≡ y)) ⊎ (get n t ≡ Some y)
put_found {A} k n x y t e = found_by (nat_eq k n) k n x y (get n t) refl (sym (get_set n k x t) ∙ e)

left_by : {A : Type 0} (b : Bool) (y : A) (o : Option A) → cond b None o ≡ Some y → o ≡ Some y
left_by {A} true y o e = absurd cc
left_by {A} false y o e = e

pub left_found : {A : Type 0} (k n : ℕ) (y : A) (t : Table A) → get n (unset k t) ≡ Some y → get n t ≡ Some y
left_found {A} k n y t e = left_by (nat_eq k n) y (get n t) (sym (get_unset n k t) ∙ e)

pub none_of : {A : Type 0} (o : Option A) → is_some o ≡ false → o ≡ None
none_of {A} None e = refl
none_of {A} (Some x) e = absurd cc

pub some_same : {A : Type 0} (x y : A) (o : Option A) → o ≡ Some x → o ≡ Some y → x ≡ y
some_same {A} x y o e f = cc

-- ---- families stay

-- a volume of this number and family was there
abbrev pub Had : Table Stored → ℕ → Stored → Type 0
Had v id y = (x : Stored) × ((get id v ≡ Some x) × (y.volume.family ≡ x.volume.family))

abbrev pub IsNewOrHad : Table Stored → ℕ → Stored → Type 0
IsNewOrHad v id y = (get id v ≡ None) ⊎ Had v id y

-- each volume that is there now is new, or is of the family of which it was
abbrev pub Follows : Table Stored → Table Stored → Type 0
Follows v w = (id : ℕ) (y : Stored) → get id w ≡ Some y → IsNewOrHad v id y

pub same_follows : (v : Table Stored) → Follows v v
same_follows v id y e = inr (y, (e, refl))

put_by : (v : Table Stored) (id k : ℕ) (y z : Stored) → IsNewOrHad v id y → IsNewOrHad v k z ⊎ ((id ≡ k) × (y ≡ z)) → IsNewOrHad v k z
put_by v id k y z h (inl later) = later
put_by v id k y z h (inr e) = subst (λ (j : ℕ). IsNewOrHad v j z) e.0 (subst (λ (s : Stored). IsNewOrHad v id s) e.1 h)

put_follows : (v w : Table Stored) (id : ℕ) (y : Stored) → IsNewOrHad v id y → Follows v w → Follows v (set id y w)
put_follows v w id y h k n z e = by (put_found id n y z w e)
  where
    by : ((id ≡ n) × (y ≡ z)) ⊎ (get n w ≡ Some z) → IsNewOrHad v n z
    by (inl here) = put_by v id n y z h (inr here)
    by (inr there) = k n z there

unset_follows : (v : Table Stored) (id : ℕ) → Follows v (unset id v)
unset_follows v id n z e = inr (z, (left_found id n z v e, refl))

-- ---- a read-write volume is its family

abbrev pub IsOwn : ℕ → Stored → Type 0
IsOwn id s = nat_eq s.volume.kind 0 ≡ true → s.volume.family ≡ id

abbrev pub AreOwn : Table Stored → Type 0
AreOwn v = AllByRecursion (λ (p : ℕ × Stored). IsOwn p.0 p.1) v

set_by : (a b : Bool) (n : ℕ) (x : Stored) (p : ℕ × Stored) (ps later : Table Stored) → IsOwn n x → IsOwn p.0 p.1 → AreOwn ps → AreOwn later → AreOwn (cond a ((n, x) ∷ ps) (cond b ((n, x) ∷ p ∷ ps) (p ∷ later)))
set_by true b n x p ps later h k all rest = (h, all)
set_by false true n x p ps later h k all rest = (h, (k, all))
set_by false false n x p ps later h k all rest = (k, rest)

pub all_set : (n : ℕ) (x : Stored) (t : Table Stored) → IsOwn n x → AreOwn t → AreOwn (set n x t)
all_set n x [] h all = (h, tt)
all_set n x (p ∷ ps) h all = set_by (nat_eq p.0 n) (nat_lt n p.0) n x p ps (set n x ps) h all.0 all.1 (all_set n x ps h all.1)

kept_by : (b : Bool) (p : ℕ × Stored) (rest : Table Stored) → IsOwn p.0 p.1 → AreOwn rest → AreOwn (cond b (p ∷ rest) rest)
kept_by true p rest h all = (h, all)
kept_by false p rest h all = all

pub all_kept : (keep : ℕ × Stored → Bool) (t : Table Stored) → AreOwn t → AreOwn (filter keep t)
all_kept keep [] all = tt
all_kept keep (p ∷ ps) all = kept_by (keep p) p (filter keep ps) all.0 (all_kept keep ps all.1)

get_by : (b : Bool) (n : ℕ) (p : ℕ × Stored) (o : Option Stored) (x : Stored) → nat_eq p.0 n ≡ b → IsOwn p.0 p.1 → (o ≡ Some x → IsOwn n x) → cond b (Some p.1) o ≡ Some x → IsOwn n x
get_by true n p o x is h later e = let same : p.1 ≡ x = cc in subst (IsOwn n) same (subst (λ (k : ℕ). IsOwn k p.1) (eqb-true p.0 n is) h)
get_by false n p o x is h later e = later e

pub all_get : (n : ℕ) (t : Table Stored) (x : Stored) → AreOwn t → get n t ≡ Some x → IsOwn n x
all_get n [] x all e = absurd cc
all_get n (p ∷ ps) x all e = get_by (nat_eq p.0 n) n p (get n ps) x refl all.0 (all_get n ps x all.1) e

-- ---- a volume in the place of one of its kind and family

pub record Alike (s x : Stored) : Type 0 where
  pub kind : x.volume.kind ≡ s.volume.kind
  pub family : x.volume.family ≡ s.volume.family

same_alike : (s : Stored) → Alike s s
same_alike s = record { kind = refl; family = refl }

alike_own : (id : ℕ) (s x : Stored) → Alike s x → IsOwn id s → IsOwn id x
alike_own id s x a h kind = a.family ∙ h (ap (λ (n : ℕ). nat_eq n 0) (sym a.kind) ∙ kind)

pub record Goes (v w : Table Stored) : Type 0 where
  pub follows : Follows v w
  pub own : AreOwn v → AreOwn w

pub same_goes : (v : Table Stored) → Goes v v
same_goes v = record { follows = same_follows v; own = λ h. h }

pub put_goes : (v : Table Stored) (id : ℕ) (s x : Stored) → get id v ≡ Some s → Alike s x → Goes v (set id x v)
put_goes v id s x there a = record {
  follows = put_follows v v id x (inr (s, (there, a.family))) (same_follows v);
  own = λ h. all_set id x v (alike_own id s x a (all_get id v s h there)) h;
}

-- a file server's change
pub change_goes : (clock : ℕ) (c : Change) (v : Table Stored) → get c.id v ≡ Some c.before → Goes v (set c.id (stored_by clock c) v)
change_goes clock c v there = put_goes v c.id c.before (stored_by clock c) there (record { kind = ap (λ (x : Volume). x.kind) (same_rest c.id c.edits c.before.volume); family = ap (λ (x : Volume). x.family) (same_rest c.id c.edits c.before.volume) })

-- ---- a dump that is restored

allowed_alike : (s x : Stored) (b : Bool) (n : ℕ) → Alike s x → Alike s (or_as_was s (made_or n (cond b (Some x) None)))
allowed_alike s x true n h = h
allowed_alike s x false n h = same_alike s

with_alike : (id n : ℕ) (s : Stored) (d : Dump) (o : Option (Table Timed)) → Alike s (or_as_was s (made_or n (allowed_with id s d o)))
with_alike id n s d None = same_alike s
with_alike id n s d (Some t) = let x : Stored = stored_with id s d t in allowed_alike s x (not (nat_lt most_vnodes (length x.volume.vnodes)) && is_sound x.volume) n (record { kind = refl; family = refl })

taken_alike : (id : ℕ) (s : Stored) (bytes : List ℕ) (t : FieldTaken Dump) → Alike s (or_as_was s (finished_by id s bytes t))
taken_alike id s bytes (took d rest) = with_alike id _ s d (restored_vnodes d.live d.images s)
taken_alike id s bytes (cut_at left) = same_alike s
taken_alike id s bytes (bad_at left) = same_alike s

finished_alike : (id : ℕ) (s : Stored) (bytes : List ℕ) → Alike s (or_as_was s (restored_from id s bytes))
unfolding restored_from
finished_alike id s bytes = taken_alike id s bytes (dump_at bytes)

-- ---- what a volume server writes

-- A new read-write volume has its own number as family, and isn't in service; a new clone is none; and a clone that is made anew is of the family of its volume.
abbrev pub IsFit : Durable → RecordBody → Type 0
IsFit d (bodies.Create id family name kind flags quota is_new) = (has_volume id d ≡ false) × ((nat_eq kind 0 ≡ true → family ≡ id) × (nat_eq flags 0 ≡ false))
IsFit d (bodies.Clone source id name kind release) =
    (has_volume id d ≡ false → nat_eq kind 0 ≡ false) × ((x old : Stored) → get source d.volumes ≡ Some x → get id d.volumes ≡ Some old → x.volume.family ≡ old.volume.family)
IsFit d body = ⊤

cloned_goes : (source id : ℕ) (name : List ℕ) (kind release : ℕ) (s : Stored) (o : Option Stored) (d : Durable) → get source d.volumes ≡ Some s → get id d.volumes ≡ o → IsFit d (bodies.Clone source id name kind release) → Goes d.volumes (clone_put source id name kind release s o d).volumes
cloned_goes source id name kind release s None d there is fit =
    let v : Table Stored = d.volumes in
    let one : Goes v (set source (with_release release s) v) = put_goes v source s (with_release release s) there (record { kind = refl; family = refl }) in
    let other : nat_eq kind 0 ≡ false = fit.0 (ap is_some is) in
    record {
      follows = put_follows v (set source (with_release release s) v) id (cloned name kind release s) (inl is) one.follows;
      own = λ h. all_set id (cloned name kind release s) (set source (with_release release s) v) (λ read_write. let no : true ≡ false = sym read_write ∙ other in absurd cc) (one.own h);
    }
cloned_goes source id name kind release s (Some old) d there is fit =
    let v : Table Stored = d.volumes in
    let one : Goes v (set source (with_release release s) v) = put_goes v source s (with_release release s) there (record { kind = refl; family = refl }) in
    let family : s.volume.family ≡ old.volume.family = fit.1 s old there is in
    record {
      follows = put_follows v (set source (with_release release s) v) id (recloned old release s) (inr (old, (is, family))) one.follows;
      own = λ h. all_set id (recloned old release s) (set source (with_release release s) v) (λ read_write. family ∙ all_get id v old h is read_write) (one.own h);
    }

clone_goes : (source id : ℕ) (name : List ℕ) (kind release : ℕ) (o : Option Stored) (d : Durable) → get source d.volumes ≡ o → IsFit d (bodies.Clone source id name kind release) → Goes d.volumes (clone_made source id name kind release o d).volumes
clone_goes source id name kind release None d is fit = same_goes d.volumes
clone_goes source id name kind release (Some s) d is fit = cloned_goes source id name kind release s (get id d.volumes) d is refl fit

stored_goes : (id : ℕ) (f : Stored → Stored) (o : Option Stored) (d : Durable) → get id d.volumes ≡ o → ((s : Stored) → Alike s (f s)) → Goes d.volumes (on_stored id f o d).volumes
stored_goes id f None d is h = same_goes d.volumes
stored_goes id f (Some s) d is h = put_goes d.volumes id s (f s) is (h s)

pub body_goes : (body : RecordBody) (d : Durable) → IsFit d body → Goes d.volumes (done_by body d).volumes
body_goes (bodies.First volumes) d fit = same_goes d.volumes
body_goes (bodies.Change id counter unique vnodes removed) d fit = same_goes d.volumes
body_goes (bodies.Boot boot) d fit = same_goes d.volumes
body_goes (bodies.Create id family name kind flags quota is_new) d fit =
    let x : Stored = created family name kind flags quota is_new in
    record { follows = put_follows d.volumes d.volumes id x (inl (none_of (get id d.volumes) fit.0)) (same_follows d.volumes); own = λ h. all_set id x d.volumes fit.1.0 h }
body_goes (bodies.Delete id) d fit = record { follows = unset_follows d.volumes id; own = λ h. all_kept _ d.volumes h }
body_goes (bodies.Clone source id name kind release) d fit = clone_goes source id name kind release (get source d.volumes) d refl fit
body_goes (bodies.Restore id dump) d fit = stored_goes id (λ s. or_as_was s (restored_from id s dump)) (get id d.volumes) d refl (λ s. finished_alike id s dump)
body_goes (bodies.Flags id flags) d fit = stored_goes id (flagged flags) (get id d.volumes) d refl (λ s. record { kind = refl; family = refl })
body_goes (bodies.Forward id to) d fit = same_goes d.volumes
body_goes bodies.Stamp d fit = same_goes d.volumes

-- ---- transactions

-- if the volume is there, it is of this family
abbrev pub IsOf : Table Stored → ℕ → ℕ → Type 0
IsOf v id family = (s : Stored) → get id v ≡ Some s → s.volume.family ≡ family

abbrev pub AreOf : Table Stored → Table Transaction → Type 0
AreOf v ts = (n : ℕ) (t : Transaction) → get n ts ≡ Some t → IsOf v t.volume t.family

no_volume : (o : Option Stored) → is_some o ≡ true → o ≡ None → ⊥
no_volume None e f = absurd cc
no_volume (Some s) e f = absurd cc

pub wide : (v w : Table Stored) (last : ℕ) (ts : Table Transaction) → Follows v w → AreApart v last ts → AreOf v ts → AreOf w ts
wide v w last ts follows apart all n t e s there = by (follows t.volume s there)
  where
    by : IsNewOrHad v t.volume s → s.volume.family ≡ t.family
    by (inl new) = absurd (no_volume (get t.volume v) (apart.there n t e) new)
    by (inr had) = had.1.1 ∙ all n t e had.0 had.1.0

pub begun_of : (v : Table Stored) (k : ℕ) (x : Transaction) (ts : Table Transaction) → IsOf v x.volume x.family → AreOf v ts → AreOf v (set k x ts)
begun_of v k x ts h all n t e = by (put_found k n x t ts e)
  where
    by : ((k ≡ n) × (x ≡ t)) ⊎ (get n ts ≡ Some t) → IsOf v t.volume t.family
    by (inl here) = subst (λ (y : Transaction). IsOf v y.volume y.family) here.1 h
    by (inr there) = all n t there

pub ended_of : (v : Table Stored) (k : ℕ) (ts : Table Transaction) → AreOf v ts → AreOf v (unset k ts)
ended_of v k ts all n t e = all n t (left_found k n t ts e)
