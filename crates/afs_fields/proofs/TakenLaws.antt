-- Fields that are read one after the other, and taken as they are read.
use Rattle.std.proofs.Common.{◌≡◌, ℕ, suc, ◌+◌, List, [], ◌∷◌, length, Option, Some, Result, Ok, Err, refl, sym, ap, subst, ◌∙◌, arith}
use Rattle.afs_xdr.specs.declared.faults.XdrFault.{XdrFault}
use Rattle.afs_xdr.specs.Words.{end_at}
use Rattle.spec_shape.specs.declared.faults.ShapeFault.{ShapeFault}
use Rattle.spec_shape.specs.declared.faults.ShapeFault.TheVariants as faults
use Rattle.spec_shape.specs.declared.kinds.Kind.{Kind}
use Rattle.spec_shape.specs.declared.kinds.Field.{Field}
use Rattle.spec_shape.specs.Reading.{◌>>=◌, in_place, field_at, fields_at, fields_to_end_at, GivesShape}
use Rattle.spec_shape.specs.Taking.{no_more, taken_behind}
use Rattle.spec_shape.specs.Taken.{IsFirst, fields_from_at, row_fields_at, TakesRead}
use Rattle.spec_shape.specs.Rows.{MessageTable, message_of}
use Rattle.spec_shape.specs.Bodies.{row_at, body_at}

-- ---- one field in front

abbrev with_first : Field → Result (List Field) ShapeFault → Result (List Field) ShapeFault
with_first f (Ok fs) = Ok (f ∷ fs)
with_first f (Err e) = Err e

last : (f : Field) (fs : List Field) (r : Result (Unit {0}) ShapeFault) → (r >>= λ nothing. Ok (f ∷ fs)) ≡ with_first f (r >>= λ nothing. Ok fs)
last f fs (Ok u) = refl
last f fs (Err e) = refl

abbrev put_first : Field → List Field × List ℕ → Result (List Field × List ℕ) ShapeFault
put_first f o = Ok (f ∷ o.0, o.1)

shifted : (f : Field) (place : ℕ) (r : Result (List Field × List ℕ) ShapeFault)
    → ((r >>= put_first f) >>= λ fs. in_place (length fs.0 + place) (end_at fs.1) >>= λ nothing. Ok fs.0) ≡ with_first f (r >>= λ fs. in_place (length fs.0 + (place + 1)) (end_at fs.1) >>= λ nothing. Ok fs.0)
shifted f place (Ok o) =
    let n : suc (length o.0) + place ≡ length o.0 + (place + 1) = omega arith in
    rw n (last f o.0 (in_place (length o.0 + (place + 1)) (end_at o.1)))
shifted f place (Err e) = refl

in_front : (place : ℕ) (k : Kind) (ks : List Kind) (bytes after : List ℕ) (f : Field) → field_at k bytes ≡ Ok (f, after) → fields_from_at place (k ∷ ks) bytes ≡ with_first f (fields_from_at (place + 1) ks after)
unfolding fields_from_at fields_at
in_front place k ks bytes after f e = rw e (shifted f place (fields_at (place + 1) ks after))

pub stops : (place : ℕ) (k : Kind) (ks : List Kind) (bytes : List ℕ) (e : XdrFault) → field_at k bytes ≡ Err e → fields_from_at place (k ∷ ks) bytes ≡ Err (faults.Field place e)
unfolding fields_from_at fields_at
stops place k ks bytes e h = rw h refl

-- ---- what is taken

both : {A V : Type 0} (first : List Field → Option (A × List Field)) (taken : List Field → Option V) (f : Field) (fs : List Field) (x : A) (v : V) → first (f ∷ fs) ≡ Some (x, fs) → taken fs ≡ Some v → taken_behind first taken (f ∷ fs) ≡ Some (x, v)
unfolding taken_behind
both first taken f fs x v e h = rw (e, h) refl

-- what was read in front stands in front of what was taken
pub goes_on : {A V : Type 0} (field : A → Field) (first : List Field → Option (A × List Field)) (taken : List Field → Option V) (place : ℕ) (k : Kind) (ks : List Kind) (bytes after : List ℕ) (x : A) (v : V) → IsFirst field first → field_at k bytes ≡ Ok (field x, after)
    → TakesRead taken (fields_from_at (place + 1) ks after) (Ok v) → TakesRead (taken_behind first taken) (fields_from_at place (k ∷ ks) bytes) (Ok (x, v))
goes_on field first taken place k ks bytes after x v is e h =
    (field x ∷ h.0, in_front place k ks bytes after (field x) e ∙ ap (with_first (field x)) h.1, both first taken (field x) h.0 x v (is x h.0) h.2)

failed : (f : Field) (r : Result (List Field) ShapeFault) (e : ShapeFault) → r ≡ Err e → with_first f r ≡ Err e
failed f (Ok fs) e h = absurd cc
failed f (Err g) e h = h

-- a fault behind what was read is the fault of all
pub fails : {A V W : Type 0} (field : A → Field) (taken : List Field → Option V) (all : List Field → Option W) (place : ℕ) (k : Kind) (ks : List Kind) (bytes after : List ℕ) (x : A) (e : ShapeFault) → field_at k bytes ≡ Ok (field x, after)
    → TakesRead taken (fields_from_at (place + 1) ks after) (Err e) → TakesRead all (fields_from_at place (k ∷ ks) bytes) (Err e)
fails field taken all place k ks bytes after x faults.OutOfMemory e h = tt
fails field taken all place k ks bytes after x (faults.Head f) e h = in_front place k ks bytes after (field x) e ∙ failed (field x) (fields_from_at (place + 1) ks after) (faults.Head f) h
fails field taken all place k ks bytes after x (faults.NoRow n) e h = in_front place k ks bytes after (field x) e ∙ failed (field x) (fields_from_at (place + 1) ks after) (faults.NoRow n) h
fails field taken all place k ks bytes after x (faults.Field i f) e h = in_front place k ks bytes after (field x) e ∙ failed (field x) (fields_from_at (place + 1) ks after) (faults.Field i f) h

pub fails_with : {A V W : Type 0} (field : A → Field) (taken : List Field → Option V) (all : List Field → Option W) (place : ℕ) (k : Kind) (ks : List Kind) (bytes after : List ℕ) (x : A) (e : ShapeFault) (r : Result W ShapeFault) → r ≡ Err e
    → field_at k bytes ≡ Ok (field x, after) → TakesRead taken (fields_from_at (place + 1) ks after) (Err e) → TakesRead all (fields_from_at place (k ∷ ks) bytes) r
fails_with {A} {V} {W} field taken all place k ks bytes after x e r is read h =
    subst (λ (o : Result W ShapeFault). TakesRead all (fields_from_at place (k ∷ ks) bytes) o) (sym is) (fails field taken all place k ks bytes after x e read h)

-- ---- no field

pub ends : (place : ℕ) (bytes : List ℕ) → end_at bytes ≡ Ok tt → TakesRead no_more (fields_from_at place [] bytes) (Ok tt)
unfolding fields_from_at fields_at
ends place bytes e = ([], rw e refl, refl)

pub more : (place : ℕ) (bytes : List ℕ) (f : XdrFault) → end_at bytes ≡ Err f → fields_from_at place [] bytes ≡ Err (faults.Field place f)
unfolding fields_from_at fields_at
more place bytes f e = let n : 0 + place ≡ place = omega arith in rw (e, n) refl

-- ---- a message

pub from_one : (ks : List Kind) (bytes : List ℕ) → fields_from_at 1 ks bytes ≡ fields_to_end_at ks bytes
unfolding fields_from_at fields_to_end_at
from_one ks bytes = refl

row_fields : {X : Type 0} (table : MessageTable X) (opcode : ℕ) (ks : List Kind) (bytes : List ℕ) → row_at table opcode ≡ Ok ks → row_fields_at table opcode bytes ≡ fields_to_end_at ks bytes
row_fields table opcode ks bytes e = rw e refl

-- the message that was taken of the fields is what the bytes are
pub is_body : {X : Type 0} (table : MessageTable X) (opcode : ℕ) (ks : List Kind) (bytes : List ℕ) (r : Result X ShapeFault) → row_at table opcode ≡ Ok ks → TakesRead (message_of table opcode) (row_fields_at table opcode bytes) r
    → GivesShape (λ m. m) (body_at table opcode ks bytes) r
unfolding body_at
is_body table opcode ks bytes (Ok m) e h = rw (sym (row_fields table opcode ks bytes e) ∙ h.1) (rw h.2 refl)
is_body table opcode ks bytes (Err faults.OutOfMemory) e h = tt
is_body table opcode ks bytes (Err (faults.Head f)) e h = rw (sym (row_fields table opcode ks bytes e) ∙ h) refl
is_body table opcode ks bytes (Err (faults.NoRow n)) e h = rw (sym (row_fields table opcode ks bytes e) ∙ h) refl
is_body table opcode ks bytes (Err (faults.Field i f)) e h = rw (sym (row_fields table opcode ks bytes e) ∙ h) refl
