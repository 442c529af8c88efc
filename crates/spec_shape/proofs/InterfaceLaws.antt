-- Tables of several interfaces as one table.
use Rattle.std.proofs.Common.{◌≡◌, ℕ, Bool, true, false, cond, eqb, List, [], ◌∷◌, ◌++◌, Option, Some, refl, sym, ap, ◌∙◌, append-nil}
use Rattle.std.specs.Prelude.{nat_eq, ◌==◌, ◌||◌, ◌&&◌, find, map, not}
use Rattle.std.specs.Option.{option_map}
use Rattle.std.proofs.lemmas.Bool.{eqb-true, eqb-false, eq-eqb, ne_eqb}
use Rattle.spec_shape.specs.declared.kinds.Kind.{Kind}
use Rattle.spec_shape.specs.declared.kinds.Field.{Field}
use Rattle.spec_shape.specs.Tables.{kinds_in, is_among}
use Rattle.spec_shape.specs.Rows.{MessageRow, MessageTable, made_in, message_of, opcodes, in_interface}
use Rattle.spec_shape.proofs.MadeLaws.{MakesBehind, RowMakes}

eqb_swap : (a b : ℕ) (t : Bool) → eqb a b ≡ t → nat_eq b a ≡ t
eqb_swap a b true e = eq-eqb b a (sym (eqb-true a b e))
eqb_swap a b false e = ne_eqb b a (λ same. eqb-false a b e (sym same))

-- ---- what a row makes in one table it makes in the whole

made_more : {X Y : Type 0} (part : X → Y) (o : Option X) (x : X) → o ≡ Some x → option_map part o ≡ Some (part x)
made_more part o x e = ap (option_map part) e

pub row_makes : {X Y : Type 0} (table : MessageTable X) (whole : MessageTable Y) (part : X → Y) → ((x : X) → whole.row (part x) ≡ in_interface part (table.row x)) → (x : X) → RowMakes table x → RowMakes whole (part x)
row_makes {X} {Y} table whole part same x makes =
    let behind : MakesBehind whole (table.row x).opcode [] (λ fs. option_map part ((table.row x).make fs)) (table.row x).kinds = record {
      makes = λ fs are.
          let m = makes.makes fs are in
          record {
            message = part m.message;
            is = made_more part ((table.row x).make fs) m.message m.is;
            fields_are = ap (λ (r : MessageRow Y). r.fields) (same m.message) ∙ m.fields_are;
            opcode_is = ap (λ (r : MessageRow Y). r.opcode) (same m.message) ∙ m.opcode_is;
          };
    } in
    let goal : RowMakes whole (part x) = rw (same x) behind in
    goal

-- ---- a message is made in the first part that has its opcode

front_here : {X Y : Type 0} (part : X → Y) (b : Bool) (o rest : Option X) (more : Option Y) (x : X) → (rest ≡ Some x → more ≡ Some (part x)) → cond b o rest ≡ Some x → cond b (option_map part o) more ≡ Some (part x)
front_here part true o rest more x further e = made_more part o x e
front_here part false o rest more x further e = further e

-- what stands in front makes its messages, whatever stands behind
pub made_in_front : {X Y : Type 0} (table : MessageTable X) (whole : MessageTable Y) (part : X → Y) → ((x : X) → whole.row (part x) ≡ in_interface part (table.row x))
    → (n : ℕ) (fs : List Field) (xs : List X) (behind : List Y) (x : X) → made_in n fs (map table.row xs) ≡ Some x → made_in n fs (map whole.row (map part xs ++ behind)) ≡ Some (part x)
made_in_front table whole part same n fs [] behind x e = absurd cc
made_in_front table whole part same n fs (y ∷ ys) behind x e =
    let further = made_in_front table whole part same n fs ys behind x in
    rw (same y) (front_here part (nat_eq n (table.row y).opcode) ((table.row y).make fs) (made_in n fs (map table.row ys)) (made_in n fs (map whole.row (map part ys ++ behind))) x further e)

pub made_in_last : {X Y : Type 0} (table : MessageTable X) (whole : MessageTable Y) (part : X → Y) → ((x : X) → whole.row (part x) ≡ in_interface part (table.row x))
    → (n : ℕ) (fs : List Field) (xs : List X) (x : X) → made_in n fs (map table.row xs) ≡ Some x → made_in n fs (map whole.row (map part xs)) ≡ Some (part x)
made_in_last {X} {Y} table whole part same n fs xs x e =
    ap (λ (ys : List Y). made_in n fs (map whole.row ys)) (sym (append-nil (map part xs))) ∙ made_in_front table whole part same n fs xs [] x e

neither : (x y : Bool) → (x || y) ≡ false → (x ≡ false) × (y ≡ false)
neither false y e = (refl, e)
neither true y e = absurd cc

passed : {A : Type 0} (b : Bool) (o rest : Option A) → b ≡ false → cond b o rest ≡ rest
passed true o rest e = absurd cc
passed false o rest e = refl

-- and what hasn't the opcode is passed over
pub made_behind : {X Y : Type 0} (table : MessageTable X) (whole : MessageTable Y) (part : X → Y) → ((x : X) → whole.row (part x) ≡ in_interface part (table.row x))
    → (n : ℕ) (fs : List Field) (xs : List X) (behind : List Y) → is_among (map (λ x. (table.row x).opcode) xs) n ≡ false → made_in n fs (map whole.row (map part xs ++ behind)) ≡ made_in n fs (map whole.row behind)
made_behind table whole part same n fs [] behind e = refl
made_behind table whole part same n fs (y ∷ ys) behind e =
    let both = neither ((table.row y).opcode == n) (is_among (map (λ x. (table.row x).opcode) ys) n) e in
    let no : nat_eq n (table.row y).opcode ≡ false = eqb_swap (table.row y).opcode n false both.0 in
    rw (same y) (passed (nat_eq n (table.row y).opcode) _ _ no ∙ made_behind table whole part same n fs ys behind both.1)

-- ---- opcodes

either : (x y : Bool) → (x ≡ true → (x || y) ≡ true) × (y ≡ true → (x || y) ≡ true)
either true y = (λ e. refl, λ e. refl)
either false y = (λ e. absurd cc, λ e. e)

among_here : {X : Type 0} (b c later : Bool) (o rest : Option X) (x : X) → (b ≡ true → c ≡ true) → (rest ≡ Some x → later ≡ true) → cond b o rest ≡ Some x → (c || later) ≡ true
among_here true c later o rest x here further e = (either c later).0 (here refl)
among_here false c later o rest x here further e = (either c later).1 (further e)

made_is_among : {X : Type 0} (table : MessageTable X) (n : ℕ) (fs : List Field) (xs : List X) (x : X) → made_in n fs (map table.row xs) ≡ Some x → is_among (map (λ x. (table.row x).opcode) xs) n ≡ true
made_is_among table n fs [] x e = absurd cc
made_is_among table n fs (y ∷ ys) x e =
    let m = (table.row y).opcode in
    among_here (nat_eq n m) (m == n) (is_among (map (λ x. (table.row x).opcode) ys) n) ((table.row y).make fs) (made_in n fs (map table.row ys)) x (λ same. eqb_swap n m true same) (made_is_among table n fs ys x) e

-- the opcode of a message stands in its table
pub opcode_is_among : {X : Type 0} (table : MessageTable X) → ((x : X) → message_of table (table.row x).opcode (table.row x).fields ≡ Some x) → (x : X) → is_among (opcodes table) (table.row x).opcode ≡ true
opcode_is_among table again x = made_is_among table (table.row x).opcode (table.row x).fields table.each x (again x)

-- none of these stands among those
abbrev pub are_apart : List ℕ → List ℕ → Bool
are_apart [] ns = true
are_apart (m ∷ ms) ns = not (is_among ns m) && are_apart ms ns

both_true : (x y : Bool) → (x && y) ≡ true → (x ≡ true) × (y ≡ true)
both_true true y e = (refl, e)
both_true false y e = absurd cc

not_true : (b : Bool) → not b ≡ true → b ≡ false
not_true true e = absurd cc
not_true false e = refl

apart_by : (b later among : Bool) → (b ≡ true → among ≡ false) → (later ≡ true → among ≡ false) → (b || later) ≡ true → among ≡ false
apart_by true later among here further e = here refl
apart_by false later among here further e = further e

pub apart : (ms ns : List ℕ) (n : ℕ) → are_apart ms ns ≡ true → is_among ms n ≡ true → is_among ns n ≡ false
apart [] ns n far e = absurd cc
apart (m ∷ ms) ns n far e =
    let both = both_true (not (is_among ns m)) (are_apart ms ns) far in
    apart_by (m == n) (is_among ms n) (is_among ns n) (λ same. ap (is_among ns) (sym (eqb-true m n same)) ∙ not_true (is_among ns m) both.0) (apart ms ns n both.1) e

-- an opcode that has a row stands in the table
found_among : (b later : Bool) (r : ℕ × List Kind) (o : Option (ℕ × List Kind)) (ks : List Kind) → (option_map (λ x. x.1) o ≡ Some ks → later ≡ true) → option_map (λ x. x.1) (cond b (Some r) o) ≡ Some ks → (b || later) ≡ true
found_among true later r o ks further e = refl
found_among false later r o ks further e = further e

pub kinds_among : {X : Type 0} (table : MessageTable X) (xs : List X) (n : ℕ) (ks : List Kind) → kinds_in n (map (λ x. let r = table.row x in (r.opcode, r.kinds)) xs) ≡ Some ks → is_among (map (λ x. (table.row x).opcode) xs) n ≡ true
kinds_among table [] n ks e = absurd cc
kinds_among table (y ∷ ys) n ks e =
    let r = table.row y in
    found_among (r.opcode == n) (is_among (map (λ x. (table.row x).opcode) ys) n) (r.opcode, r.kinds) (find (λ p. p.0 == n) (map (λ x. let r = table.row x in (r.opcode, r.kinds)) ys)) ks (kinds_among table ys n ks) e
