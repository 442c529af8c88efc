-- The rows of a table that is made of parts, and what they make.
use Rattle.std.proofs.Common.{◌≡◌, ℕ, Bool, true, false, cond, eqb, List, [], ◌∷◌, ◌++◌, Option, Some, None, Result, Ok, Err, refl, sym, ap, subst, ◌∙◌}
use Rattle.std.specs.Prelude.{nat_eq, ◌==◌, find, map}
use Rattle.std.specs.Option.{option_map}
use Rattle.std.specs.Result.{IsErrAnd}
use Rattle.std.proofs.lemmas.Result.{err_from_is_err_and}
use Rattle.std.proofs.lemmas.Bool.{eqb-true, eqb-false, eq-eqb, ne_eqb}
use Rattle.spec_shape.specs.declared.faults.ShapeFault.{ShapeFault}
use Rattle.spec_shape.specs.declared.faults.ShapeFault.TheVariants as faults
use Rattle.spec_shape.specs.declared.kinds.Kind.{Kind}
use Rattle.spec_shape.specs.declared.kinds.Field.{Field}
use Rattle.spec_shape.specs.Tables.{kinds_in}
use Rattle.spec_shape.specs.Rows.{MessageTable, table_rows, made_in, message_of, in_interface}
use Rattle.spec_shape.specs.Bodies.{found_row, row_at}
use Rattle.spec_shape.specs.Reading.{◌>>=◌, fields_to_end_at}
use Rattle.spec_shape.specs.Taken.{row_fields_at, TakesRead}
use Rattle.spec_shape.proofs.BodyLaws.{row_ok, row_again}

abbrev Rows : Type 0
Rows = List (ℕ × List Kind)

abbrev second : Option (ℕ × List Kind) → Option (List Kind)
second o = option_map (λ x. x.1) o

-- ---- kinds

found_front : (b : Bool) (r : ℕ × List Kind) (o p : Option (ℕ × List Kind)) (ks : List Kind) → (second o ≡ Some ks → second p ≡ Some ks) → second (cond b (Some r) o) ≡ Some ks → second (cond b (Some r) p) ≡ Some ks
found_front true r o p ks further e = e
found_front false r o p ks further e = further e

kinds_front : (n : ℕ) (a b : Rows) (ks : List Kind) → kinds_in n a ≡ Some ks → kinds_in n (a ++ b) ≡ Some ks
kinds_front n [] b ks e = absurd cc
kinds_front n (r ∷ a) b ks e = found_front (r.0 == n) r (find (λ p. p.0 == n) a) (find (λ p. p.0 == n) (a ++ b)) ks (kinds_front n a b ks) e

found_past : (b : Bool) (r : ℕ × List Kind) (o p : Option (ℕ × List Kind)) (q : Option (List Kind)) → (second o ≡ None → second p ≡ q) → second (cond b (Some r) o) ≡ None → second (cond b (Some r) p) ≡ q
found_past true r o p q further e = absurd cc
found_past false r o p q further e = further e

kinds_past : (n : ℕ) (a b : Rows) → kinds_in n a ≡ None → kinds_in n (a ++ b) ≡ kinds_in n b
kinds_past n [] b e = refl
kinds_past n (r ∷ a) b e = found_past (r.0 == n) r (find (λ p. p.0 == n) a) (find (λ p. p.0 == n) (a ++ b)) (kinds_in n b) (kinds_past n a b) e

pub row_none : (opcode : ℕ) (o : Option (List Kind)) (e : ShapeFault) → found_row opcode o ≡ Err e → o ≡ None
row_none opcode (Some k) e h = absurd cc
row_none opcode None e h = refl

-- ---- messages

eqb_swap : (a b : ℕ) (t : Bool) → eqb a b ≡ t → nat_eq b a ≡ t
eqb_swap a b true e = eq-eqb b a (sym (eqb-true a b e))
eqb_swap a b false e = ne_eqb b a (λ same. eqb-false a b e (sym same))

either_made : {X Y : Type 0} (part : X → Y) (b : Bool) (o p : Option X) (q : Option Y) → q ≡ option_map part p → cond b (option_map part o) q ≡ option_map part (cond b o p)
either_made part true o p q e = refl
either_made part false o p q e = e

abbrev rows_each : {X : Type 0} → MessageTable X → List X → Rows
rows_each table each = map (λ x. let r = table.row x in (r.opcode, r.kinds)) each

-- a part that stands last makes what it makes alone
pub made_last : {X Y : Type 0} (table : MessageTable X) (whole : MessageTable Y) (part : X → Y) → ((x : X) → whole.row (part x) ≡ in_interface part (table.row x))
    → (n : ℕ) (fs : List Field) (xs : List X) → made_in n fs (map whole.row (map part xs)) ≡ option_map part (made_in n fs (map table.row xs))
made_last table whole part same n fs [] = refl
made_last table whole part same n fs (y ∷ ys) =
    rw (same y) (either_made part (nat_eq n (table.row y).opcode) ((table.row y).make fs) (made_in n fs (map table.row ys)) (made_in n fs (map whole.row (map part ys))) (made_last table whole part same n fs ys))

front_made : {X Y : Type 0} (part : X → Y) (b c : Bool) (r : ℕ × List Kind) (rest : Option (ℕ × List Kind)) (o p : Option X) (q : Option Y) (ks : List Kind) → c ≡ b → (second rest ≡ Some ks → q ≡ option_map part p) → second (cond b (Some r) rest) ≡ Some ks
    → cond c (option_map part o) q ≡ option_map part (cond c o p)
front_made part true true r rest o p q ks same further e = refl
front_made part false false r rest o p q ks same further e = further e
front_made part true false r rest o p q ks same further e = absurd cc
front_made part false true r rest o p q ks same further e = absurd cc

-- a part that has the opcode makes what it makes alone
pub made_front : {X Y : Type 0} (table : MessageTable X) (whole : MessageTable Y) (part : X → Y) → ((x : X) → whole.row (part x) ≡ in_interface part (table.row x))
    → (n : ℕ) (fs : List Field) (xs : List X) (behind : List Y) (ks : List Kind) → kinds_in n (rows_each table xs) ≡ Some ks → made_in n fs (map whole.row (map part xs ++ behind)) ≡ option_map part (made_in n fs (map table.row xs))
made_front table whole part same n fs [] behind ks e = absurd cc
made_front table whole part same n fs (y ∷ ys) behind ks e =
    let r = table.row y in
    rw (same y) (front_made part (r.opcode == n) (nat_eq n r.opcode) (r.opcode, r.kinds) (find (λ p. p.0 == n) (rows_each table ys)) (r.make fs) (made_in n fs (map table.row ys)) (made_in n fs (map whole.row (map part ys ++ behind))) ks
    (eqb_swap r.opcode n (r.opcode == n) refl) (made_front table whole part same n fs ys behind ks) e)

past_made : {Y : Type 0} (b c : Bool) (r : ℕ × List Kind) (rest : Option (ℕ × List Kind)) (o q s : Option Y) → c ≡ b → (second rest ≡ None → q ≡ s) → second (cond b (Some r) rest) ≡ None → cond c o q ≡ s
past_made true c r rest o q s same further e = absurd cc
past_made false false r rest o q s same further e = further e
past_made false true r rest o q s same further e = absurd cc

-- a part that hasn't the opcode is passed over
pub made_past : {X Y : Type 0} (table : MessageTable X) (whole : MessageTable Y) (part : X → Y) → ((x : X) → whole.row (part x) ≡ in_interface part (table.row x))
    → (n : ℕ) (fs : List Field) (xs : List X) (behind : List Y) → kinds_in n (rows_each table xs) ≡ None → made_in n fs (map whole.row (map part xs ++ behind)) ≡ made_in n fs (map whole.row behind)
made_past table whole part same n fs [] behind e = refl
made_past table whole part same n fs (y ∷ ys) behind e =
    let r = table.row y in
    rw (same y) (past_made (r.opcode == n) (nat_eq n r.opcode) (r.opcode, r.kinds) (find (λ p. p.0 == n) (rows_each table ys)) (option_map part (r.make fs)) (made_in n fs (map whole.row (map part ys ++ behind))) (made_in n fs (map whole.row behind))
    (eqb_swap r.opcode n (r.opcode == n) refl) (made_past table whole part same n fs ys behind) e)

-- ---- three parts as one table

-- a table whose messages are those of three others, one behind the other
pub record IsOfThree {X Y Z W : Type 0} (first : MessageTable X) (second : MessageTable Y) (third : MessageTable Z) (whole : MessageTable W) (a : X → W) (b : Y → W) (c : Z → W) : Type 0 where
  pub rows : table_rows whole ≡ table_rows first ++ (table_rows second ++ table_rows third)
  pub each : whole.each ≡ map a first.each ++ (map b second.each ++ map c third.each)
  pub in_first : (x : X) → whole.row (a x) ≡ in_interface a (first.row x)
  pub in_second : (y : Y) → whole.row (b y) ≡ in_interface b (second.row y)
  pub in_third : (z : Z) → whole.row (c z) ≡ in_interface c (third.row z)

pub first_row : {X Y Z W : Type 0} {first : MessageTable X} {second : MessageTable Y} {third : MessageTable Z} {whole : MessageTable W} {a : X → W} {b : Y → W} {c : Z → W} → IsOfThree first second third whole a b c
    → (n : ℕ) (ks : List Kind) → row_at first n ≡ Ok ks → row_at whole n ≡ Ok ks
first_row {X} {Y} {Z} {W} {first} {second} {third} {whole} {a} {b} {c} is n ks e =
    row_again whole n ks (ap (kinds_in n) is.rows ∙ kinds_front n (table_rows first) _ ks (row_ok n (kinds_in n (table_rows first)) ks e))

pub second_row : {X Y Z W : Type 0} {first : MessageTable X} {second : MessageTable Y} {third : MessageTable Z} {whole : MessageTable W} {a : X → W} {b : Y → W} {c : Z → W} → IsOfThree first second third whole a b c
    → (n : ℕ) (ks : List Kind) (f : ShapeFault) → row_at first n ≡ Err f → row_at second n ≡ Ok ks → row_at whole n ≡ Ok ks
second_row {X} {Y} {Z} {W} {first} {second} {third} {whole} {a} {b} {c} is n ks f none e =
    row_again whole n ks
    (ap (kinds_in n) is.rows ∙ (kinds_past n (table_rows first) _ (row_none n (kinds_in n (table_rows first)) f none) ∙ kinds_front n (table_rows second) _ ks (row_ok n (kinds_in n (table_rows second)) ks e)))

pub third_row : {X Y Z W : Type 0} {first : MessageTable X} {second : MessageTable Y} {third : MessageTable Z} {whole : MessageTable W} {a : X → W} {b : Y → W} {c : Z → W} → IsOfThree first second third whole a b c
    → (n : ℕ) (f g : ShapeFault) → row_at first n ≡ Err f → row_at second n ≡ Err g → row_at whole n ≡ row_at third n
third_row {X} {Y} {Z} {W} {first} {second} {third} {whole} {a} {b} {c} is n f g none no_more =
    ap (found_row n)
    (ap (kinds_in n) is.rows ∙ (kinds_past n (table_rows first) _ (row_none n (kinds_in n (table_rows first)) f none) ∙ kinds_past n (table_rows second) _ (row_none n (kinds_in n (table_rows second)) g no_more)))

pub first_made : {X Y Z W : Type 0} {first : MessageTable X} {second : MessageTable Y} {third : MessageTable Z} {whole : MessageTable W} {a : X → W} {b : Y → W} {c : Z → W} → IsOfThree first second third whole a b c
    → (n : ℕ) (fs : List Field) (ks : List Kind) → row_at first n ≡ Ok ks → message_of whole n fs ≡ option_map a (message_of first n fs)
first_made {X} {Y} {Z} {W} {first} {second} {third} {whole} {a} {b} {c} is n fs ks e =
    ap (λ (ws : List W). made_in n fs (map whole.row ws)) is.each ∙ made_front first whole a is.in_first n fs first.each _ ks (row_ok n (kinds_in n (table_rows first)) ks e)

pub second_made : {X Y Z W : Type 0} {first : MessageTable X} {second : MessageTable Y} {third : MessageTable Z} {whole : MessageTable W} {a : X → W} {b : Y → W} {c : Z → W} → IsOfThree first second third whole a b c
    → (n : ℕ) (fs : List Field) (ks : List Kind) (f : ShapeFault) → row_at first n ≡ Err f → row_at second n ≡ Ok ks → message_of whole n fs ≡ option_map b (message_of second n fs)
second_made {X} {Y} {Z} {W} {first} {second} {third} {whole} {a} {b} {c} is n fs ks f none e =
    ap (λ (ws : List W). made_in n fs (map whole.row ws)) is.each
    ∙ (made_past first whole a is.in_first n fs first.each _ (row_none n (kinds_in n (table_rows first)) f none) ∙ made_front second whole b is.in_second n fs second.each _ ks (row_ok n (kinds_in n (table_rows second)) ks e))

pub third_made : {X Y Z W : Type 0} {first : MessageTable X} {second : MessageTable Y} {third : MessageTable Z} {whole : MessageTable W} {a : X → W} {b : Y → W} {c : Z → W} → IsOfThree first second third whole a b c
    → (n : ℕ) (fs : List Field) (f g : ShapeFault) → row_at first n ≡ Err f → row_at second n ≡ Err g → message_of whole n fs ≡ option_map c (message_of third n fs)
third_made {X} {Y} {Z} {W} {first} {second} {third} {whole} {a} {b} {c} is n fs f g none no_more =
    ap (λ (ws : List W). made_in n fs (map whole.row ws)) is.each
    ∙ (made_past first whole a is.in_first n fs first.each _ (row_none n (kinds_in n (table_rows first)) f none)
    ∙ (made_past second whole b is.in_second n fs second.each _ (row_none n (kinds_in n (table_rows second)) g no_more) ∙ made_last third whole c is.in_third n fs third.each))

-- ---- what is taken while it is read

taken_as : {X W : Type 0} (part : X → W) (one : List Field → Option X) (all : List Field → Option W) (read whole : Result (List Field) ShapeFault) (x : X) → whole ≡ read → ((fs : List Field) → all fs ≡ option_map part (one fs)) → TakesRead one read (Ok x)
    → TakesRead all whole (Ok (part x))
taken_as part one all read whole x e same h = (h.0, e ∙ h.1, same h.0 ∙ ap (option_map part) h.2)

failed_as : {X W : Type 0} (one : List Field → Option X) (all : List Field → Option W) (read whole : Result (List Field) ShapeFault) (f : ShapeFault) → whole ≡ read → TakesRead one read (Err f) → TakesRead all whole (Err f)
failed_as one all read whole faults.OutOfMemory e h = tt
failed_as one all read whole (faults.Head f) e h = e ∙ h
failed_as one all read whole (faults.NoRow n) e h = e ∙ h
failed_as one all read whole (faults.Field i f) e h = e ∙ h

same_fields : {X W : Type 0} (table : MessageTable X) (whole : MessageTable W) (n : ℕ) (bytes : List ℕ) (r : Result (List Kind) ShapeFault) → row_at table n ≡ r → row_at whole n ≡ r → row_fields_at whole n bytes ≡ row_fields_at table n bytes
same_fields table whole n bytes r e f = ap (λ (o : Result (List Kind) ShapeFault). o >>= λ ks. fields_to_end_at ks bytes) (f ∙ sym e)

-- a fault that is handed up
pub failed_with : {W : Type 0} (all : List Field → Option W) (whole : Result (List Field) ShapeFault) (r : Result W ShapeFault) (f : ShapeFault) → IsErrAnd r (λ (e : ShapeFault). e ≡ f) → TakesRead all whole (Err f) → TakesRead all whole r
failed_with {W} all whole r f h t = let p = err_from_is_err_and r h in subst (λ (x : Result W ShapeFault). TakesRead all whole x) (sym (subst (λ (e : ShapeFault). r ≡ Err e) p.2 p.1)) t

pub first_taken : {X Y Z W : Type 0} {first : MessageTable X} {second : MessageTable Y} {third : MessageTable Z} {whole : MessageTable W} {a : X → W} {b : Y → W} {c : Z → W} → IsOfThree first second third whole a b c
    → (n : ℕ) (ks : List Kind) (bytes : List ℕ) (x : X) → row_at first n ≡ Ok ks → TakesRead (message_of first n) (row_fields_at first n bytes) (Ok x) → TakesRead (message_of whole n) (row_fields_at whole n bytes) (Ok (a x))
first_taken {X} {Y} {Z} {W} {first} {second} {third} {whole} {a} {b} {c} is n ks bytes x e h =
    taken_as a (message_of first n) (message_of whole n) (row_fields_at first n bytes) (row_fields_at whole n bytes) x (same_fields first whole n bytes (Ok ks) e (first_row is n ks e)) (λ fs. first_made is n fs ks e) h

pub first_failed : {X Y Z W : Type 0} {first : MessageTable X} {second : MessageTable Y} {third : MessageTable Z} {whole : MessageTable W} {a : X → W} {b : Y → W} {c : Z → W} → IsOfThree first second third whole a b c
    → (n : ℕ) (ks : List Kind) (bytes : List ℕ) (f : ShapeFault) → row_at first n ≡ Ok ks → TakesRead (message_of first n) (row_fields_at first n bytes) (Err f) → TakesRead (message_of whole n) (row_fields_at whole n bytes) (Err f)
first_failed {X} {Y} {Z} {W} {first} {second} {third} {whole} {a} {b} {c} is n ks bytes f e h =
    failed_as (message_of first n) (message_of whole n) (row_fields_at first n bytes) (row_fields_at whole n bytes) f (same_fields first whole n bytes (Ok ks) e (first_row is n ks e)) h

pub second_taken : {X Y Z W : Type 0} {first : MessageTable X} {second : MessageTable Y} {third : MessageTable Z} {whole : MessageTable W} {a : X → W} {b : Y → W} {c : Z → W} → IsOfThree first second third whole a b c
    → (n : ℕ) (ks : List Kind) (g : ShapeFault) (bytes : List ℕ) (y : Y) → row_at first n ≡ Err g → row_at second n ≡ Ok ks → TakesRead (message_of second n) (row_fields_at second n bytes) (Ok y) → TakesRead (message_of whole n) (row_fields_at whole n bytes) (Ok (b y))
second_taken {X} {Y} {Z} {W} {first} {second} {third} {whole} {a} {b} {c} is n ks g bytes y none e h =
    taken_as b (message_of second n) (message_of whole n) (row_fields_at second n bytes) (row_fields_at whole n bytes) y (same_fields second whole n bytes (Ok ks) e (second_row is n ks g none e)) (λ fs. second_made is n fs ks g none e) h

pub second_failed : {X Y Z W : Type 0} {first : MessageTable X} {second : MessageTable Y} {third : MessageTable Z} {whole : MessageTable W} {a : X → W} {b : Y → W} {c : Z → W} → IsOfThree first second third whole a b c
    → (n : ℕ) (ks : List Kind) (g : ShapeFault) (bytes : List ℕ) (f : ShapeFault) → row_at first n ≡ Err g → row_at second n ≡ Ok ks → TakesRead (message_of second n) (row_fields_at second n bytes) (Err f) → TakesRead (message_of whole n) (row_fields_at whole n bytes) (Err f)
second_failed {X} {Y} {Z} {W} {first} {second} {third} {whole} {a} {b} {c} is n ks g bytes f none e h =
    failed_as (message_of second n) (message_of whole n) (row_fields_at second n bytes) (row_fields_at whole n bytes) f (same_fields second whole n bytes (Ok ks) e (second_row is n ks g none e)) h

pub third_taken : {X Y Z W : Type 0} {first : MessageTable X} {second : MessageTable Y} {third : MessageTable Z} {whole : MessageTable W} {a : X → W} {b : Y → W} {c : Z → W} → IsOfThree first second third whole a b c
    → (n : ℕ) (g k : ShapeFault) (bytes : List ℕ) (z : Z) → row_at first n ≡ Err g → row_at second n ≡ Err k → TakesRead (message_of third n) (row_fields_at third n bytes) (Ok z) → TakesRead (message_of whole n) (row_fields_at whole n bytes) (Ok (c z))
third_taken {X} {Y} {Z} {W} {first} {second} {third} {whole} {a} {b} {c} is n g k bytes z none no_more h =
    taken_as c (message_of third n) (message_of whole n) (row_fields_at third n bytes) (row_fields_at whole n bytes) z (same_fields third whole n bytes (row_at third n) refl (third_row is n g k none no_more)) (λ fs. third_made is n fs g k none no_more) h

pub third_failed : {X Y Z W : Type 0} {first : MessageTable X} {second : MessageTable Y} {third : MessageTable Z} {whole : MessageTable W} {a : X → W} {b : Y → W} {c : Z → W} → IsOfThree first second third whole a b c
    → (n : ℕ) (g k : ShapeFault) (bytes : List ℕ) (f : ShapeFault) → row_at first n ≡ Err g → row_at second n ≡ Err k → TakesRead (message_of third n) (row_fields_at third n bytes) (Err f) → TakesRead (message_of whole n) (row_fields_at whole n bytes) (Err f)
third_failed {X} {Y} {Z} {W} {first} {second} {third} {whole} {a} {b} {c} is n g k bytes f none no_more h =
    failed_as (message_of third n) (message_of whole n) (row_fields_at third n bytes) (row_fields_at whole n bytes) f (same_fields third whole n bytes (row_at third n) refl (third_row is n g k none no_more)) h
