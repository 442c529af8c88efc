-- The fields of a message up to the last byte: what is read is spelled so, what is spelled is read, and nothing may
-- stand behind it.
use Rattle.std.proofs.Common.{◌≡◌, ℕ, suc, ◌+◌, Bool, true, false, cond, eqb, List, [], ◌∷◌, ◌++◌, length, Option, Some, None, Result, Ok, Err, refl, sym, ap, subst, ◌∙◌, append-nil, arith}
use Rattle.std.specs.Prelude.{IsSomeAnd}
use Rattle.std.proofs.lemmas.Bool.{eqb-true}
use Rattle.std.proofs.lemmas.List.{nil_from_length}
use Rattle.afs_xdr.specs.declared.faults.XdrFault.{XdrFault}
use Rattle.afs_xdr.specs.declared.faults.XdrFault.TheVariants.{Extra}
use Rattle.afs_xdr.specs.Words.{end_at}
use Rattle.spec_shape.specs.declared.faults.ShapeFault.{ShapeFault}
use Rattle.spec_shape.specs.declared.faults.ShapeFault.TheVariants as faults
use Rattle.spec_shape.specs.declared.kinds.Kind.{Kind}
use Rattle.spec_shape.specs.declared.kinds.Field.{Field}
use Rattle.spec_shape.specs.Spelling.{fields_spelled}
use Rattle.spec_shape.specs.Reading.{◌>>=◌, in_place, fields_at, fields_to_end_at}
use Rattle.spec_shape.specs.Tables.{kinds_in, AreOf, AreInRange}
use Rattle.spec_shape.specs.Rows.{MessageTable, table_rows, message_of, IsWithin, IsSoundTable}
use Rattle.spec_shape.specs.Bodies.{found_row, row_at, made, body_at}
use Rattle.spec_shape.proofs.Codecs.{IsBytes}
use Rattle.spec_shape.proofs.FieldLaws.{bind_ok, in_place_ok, shape_ok_is, fields_take, fields_again}

-- ---- fields

ended_well : Result (Unit {0}) XdrFault
ended_well = Ok tt

ended : (b : Bool) (u : Unit {0}) → cond b (ended_well) (Err Extra) ≡ Ok u → b ≡ true
unfolding ended_well
ended true u e = refl
ended false u e = absurd cc

end_ok : (bytes : List ℕ) (u : Unit {0}) → end_at bytes ≡ Ok u → bytes ≡ []
unfolding ended_well
end_ok bytes u e = nil_from_length bytes (eqb-true _ _ (ended (eqb (length bytes) 0) u e))

pub record AreAll (ks : List Kind) (bytes : List ℕ) (fs : List Field) : Type 0 where
  pub whole : bytes ≡ fields_spelled fs
  pub are_of : AreOf ks fs
  pub in_range : AreInRange fs

pub last_fields_take : (ks : List Kind) (bytes : List ℕ) (fs : List Field) → IsBytes bytes → fields_to_end_at ks bytes ≡ Ok fs → AreAll ks bytes fs
unfolding fields_to_end_at
last_fields_take ks bytes fs fits e =
    let a = bind_ok (fields_at 1 ks bytes) (λ f. in_place (length f.0 + 1) (end_at f.1) >>= λ nothing. Ok f.0) fs e in
    let b = bind_ok (in_place (length a.0.0 + 1) (end_at a.0.1)) (λ nothing. Ok a.0.0) fs a.2 in
    let t = fields_take 1 ks bytes a.0.0 a.0.1 fits a.1 in
    let none : a.0.1 ≡ [] = end_ok a.0.1 b.0 (in_place_ok (length a.0.0 + 1) (end_at a.0.1) b.0 b.1) in
    let whole : bytes ≡ fields_spelled a.0.0 = t.takes.parts ∙ (ap (λ (r : List ℕ). fields_spelled a.0.0 ++ r) none ∙ append-nil (fields_spelled a.0.0)) in
    subst (λ (x : List Field). AreAll ks bytes x) (shape_ok_is a.0.0 fs b.2) (record { whole = whole; are_of = t.are_of; in_range = t.in_range })

pub last_fields_again : (ks : List Kind) (fs : List Field) → AreOf ks fs → AreInRange fs → fields_to_end_at ks (fields_spelled fs) ≡ Ok fs
unfolding fields_to_end_at
last_fields_again ks fs h r =
    let read : fields_at 1 ks (fields_spelled fs) ≡ Ok (fs, []) = ap (fields_at 1 ks) (sym (append-nil (fields_spelled fs))) ∙ fields_again 1 ks fs [] h r in
    rw read refl

no_zero : (n : ℕ) (t : Bool) → eqb (suc n) 0 ≡ t → t ≡ false
no_zero n false e = refl
no_zero n true e = let z : suc n ≡ 0 = eqb-true (suc n) 0 e in absurd (omega arith)

no_end : (x : ℕ) (more : List ℕ) → end_at (x ∷ more) ≡ Err Extra
no_end x more = rw (no_zero (length more) (eqb (suc (length more)) 0) refl) refl

-- the fault where bytes stand behind so many fields
abbrev pub extra : ℕ → ShapeFault
extra count = faults.Field (count + 1) Extra

pub last_fields_more : (ks : List Kind) (fs : List Field) (x : ℕ) (more : List ℕ) → AreOf ks fs → AreInRange fs → fields_to_end_at ks (fields_spelled fs ++ x ∷ more) ≡ Err (extra (length fs))
unfolding fields_to_end_at
last_fields_more ks fs x more h r = rw (fields_again 1 ks fs (x ∷ more) h r, no_end x more) refl

-- ---- the message that they make

pub row_ok : (opcode : ℕ) (o : Option (List Kind)) (ks : List Kind) → found_row opcode o ≡ Ok ks → o ≡ Some ks
row_ok opcode (Some k) ks e = cc
row_ok opcode None ks e = absurd cc

kinds_of_row : (o : Option (List Kind)) (fs : List Field) → IsSomeAnd o (λ ks. AreOf ks fs) → (ks : List Kind) × (o ≡ Some ks) × AreOf ks fs
kinds_of_row (Some ks) fs h = (ks, refl, h)
kinds_of_row None fs h = absurd h

-- the kinds of a message's row
pub row_of : {X : Type 0} (table : MessageTable X) (x : X) → IsWithin table x → (ks : List Kind) × (kinds_in (table.row x).opcode (table_rows table) ≡ Some ks) × AreOf ks (table.row x).fields
row_of table x h = kinds_of_row (kinds_in (table.row x).opcode (table_rows table)) (table.row x).fields h

pub row_again : {X : Type 0} (table : MessageTable X) (opcode : ℕ) (ks : List Kind) → kinds_in opcode (table_rows table) ≡ Some ks → row_at table opcode ≡ Ok ks
row_again table opcode ks e = ap (found_row opcode) e

made_is : {X : Type 0} (opcode : ℕ) (o : Option X) (x : X) → made opcode o ≡ Ok x → o ≡ Some x
made_is opcode (Some y) x e = ap Some (shape_ok_is y x e)
made_is opcode None x e = absurd cc

some_is : {A : Type 0} (x y : A) → Some x ≡ Some y → x ≡ y
some_is x y e = cc

-- a message of this opcode and all the bytes of its fields
pub record TakesBody {X : Type 0} (table : MessageTable X) (opcode : ℕ) (bytes : List ℕ) (x : X) : Type 0 where
  pub whole : bytes ≡ fields_spelled (table.row x).fields
  pub opcode_is : opcode ≡ (table.row x).opcode
  pub within : IsWithin table x
  pub in_range : AreInRange (table.row x).fields

pub body_takes : {X : Type 0} (table : MessageTable X) → IsSoundTable table → (opcode : ℕ) (ks : List Kind) (bytes : List ℕ) (x : X) → IsBytes bytes → row_at table opcode ≡ Ok ks → body_at table opcode ks bytes ≡ Ok x → TakesBody table opcode bytes x
unfolding body_at
body_takes {X} table sound opcode ks bytes x fits row e =
    let a = bind_ok (fields_to_end_at ks bytes) (λ fs. made opcode (message_of table opcode fs)) x e in
    let kinds = row_ok opcode (kinds_in opcode (table_rows table)) ks row in
    let t = last_fields_take ks bytes a.0 fits a.1 in
    let m = sound.makes opcode ks a.0 kinds t.are_of in
    let same : m.message ≡ x = some_is m.message x (sym m.is ∙ made_is opcode (message_of table opcode a.0) x a.2) in
    let fields_are : a.0 ≡ (table.row x).fields = sym m.fields_are ∙ ap (λ (y : X). (table.row y).fields) same in
    let opcode_is : opcode ≡ (table.row x).opcode = sym m.opcode_is ∙ ap (λ (y : X). (table.row y).opcode) same in
    let own : kinds_in (table.row x).opcode (table_rows table) ≡ Some ks = ap (λ (n : ℕ). kinds_in n (table_rows table)) (sym opcode_is) ∙ kinds in
    record {
      whole = t.whole ∙ ap fields_spelled fields_are;
      opcode_is = opcode_is;
      within = rw own (subst (λ (fs : List Field). AreOf ks fs) fields_are t.are_of);
      in_range = subst AreInRange fields_are t.in_range;
    }

pub body_again : {X : Type 0} (table : MessageTable X) → IsSoundTable table → (ks : List Kind) (x : X) → AreOf ks (table.row x).fields → AreInRange (table.row x).fields → body_at table (table.row x).opcode ks (fields_spelled (table.row x).fields) ≡ Ok x
unfolding body_at
body_again table sound ks x are in_range = rw (last_fields_again ks (table.row x).fields are in_range, sound.again x) refl

pub body_more : {X : Type 0} (table : MessageTable X) (opcode : ℕ) (ks : List Kind) (fs : List Field) (byte : ℕ) (more : List ℕ) → AreOf ks fs → AreInRange fs → body_at table opcode ks (fields_spelled fs ++ byte ∷ more) ≡ Err (extra (length fs))
unfolding body_at
body_more table opcode ks fs byte more are in_range = rw (last_fields_more ks fs byte more are in_range) refl
