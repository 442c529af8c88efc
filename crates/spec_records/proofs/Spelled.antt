-- What is read as a record is spelled so, and what is spelled is read.
use Rattle.std.proofs.Common.{◌≡◌, ◌⊎◌, ℕ, ◌+◌, ◌-◌, ◌<◌, ◌≤◌, ◌^◌, Bool, true, false, cond, leb, List, [], ◌∷◌, ◌++◌, length, map, Option, Some, None, refl, sym, ap, subst, ◌∙◌, arith, append_assoc, inl, inr, lit≤, lit<, suc, if◌then◌else◌}
use Rattle.std.specs.Prelude.{◌&&◌, nat_eq}
use Rattle.std.specs.List.{flat_map, AllByRecursion}
use Rattle.std.proofs.lemmas.Bool.{eqb-true, leb-true}
use Rattle.afs_num.specs.Nodes.{node_number, node_of, is_between}
use Rattle.afs_num.specs.declared.types.Node.{Node}
use Rattle.afs_num.specs.declared.types.Node.TheVariants.{Loc, Server, Client, Admin}
use Rattle.afs_num.specs.declared.vnodes.Vnode.{Vnode}
use Rattle.spec_shape.specs.Taking.{◌>>=◌}
use Rattle.spec_shape.proofs.Codecs.{IsBytes, Takes, Takes-then}
use Rattle.afs_num.specs.declared.records.RecordBody.{RecordBody}
use Rattle.afs_num.specs.declared.records.RecordBody.TheVariants as bodies
use Rattle.afs_num.specs.declared.records.RecordHead.{RecordHead}
use Rattle.afs_num.specs.declared.records.StoreRecord.{StoreRecord}
use Rattle.spec_records.specs.Forms.{Form, word_form, text_form, image_form, ◌before◌, many_at, list_form}
use Rattle.spec_records.specs.Records.{most_name, most_dump, most_reply, between, mark_form, kind_form, server_form, flag_number, flag_of, flag_form, caller_number, caller_numbered, caller_form, body_for, record_head, head_parts, head_made, head_form, may_call, tells_call, volume_mark, vnode_mark, listed_form, marked_form, listed_vnode, are_listed, are_whole, vnodes_form, volume_parts, volume_made, volume_form, made_at_end, made_behind, row, each, made_in, body_at, body_in, read_in, record_bytes, record_at, spelled_in, store_record, store_table, FitsIn, FitsRecord, RecordTable}
use Rattle.spec_records.proofs.Forms.{IsSoundForm, bound, some_is, word_sound, text_sound, before_sound, known_sound, only_sound, many_takes, many_again, list_sound}
use Rattle.spec_records.proofs.Images.{image_sound}

-- ---- tests

-- which way a test went
pub chosen : {A : Type 0} (b : Bool) (x y z : Option A) → cond b x y ≡ z → ((b ≡ true) × (x ≡ z)) ⊎ ((b ≡ false) × (y ≡ z))
chosen true x y z e = inl (refl, e)
chosen false x y z e = inr (refl, e)

pub both_true : (x y : Bool) → (x && y) ≡ true → (x ≡ true) × (y ≡ true)
both_true true y e = (refl, e)
both_true false y e = absurd cc

pub none_is_some : {A : Type 0} (x : A) → None ≡ Some x → ⊥
none_is_some x e = cc

-- ---- small forms

pub between_sound : (low high : ℕ) → IsSoundForm (between low high)
between_sound low high = only_sound (is_between low high) word_form word_sound

pub kind_sound : IsSoundForm kind_form
kind_sound = between_sound 0 2

pub server_sound : IsSoundForm server_form
server_sound = between_sound 1 8

mark_told : (n m : ℕ) (u : Unit {0}) → (if nat_eq m n then Some tt else None) ≡ Some u → n ≡ m
mark_told n m u e = elim (chosen (nat_eq m n) (Some tt) None (Some u) e) [
  | inl a ↦ sym (eqb-true m n a.0)
  | inr a ↦ absurd (none_is_some u a.1)
]

pub mark_sound : (n : ℕ) → IsSoundForm (mark_form n)
mark_sound n = known_sound word_form (λ u. n) (λ m. if nat_eq m n then Some tt else None) word_sound (mark_told n)

flag_told : (n : ℕ) (b : Bool) → flag_of n ≡ Some b → flag_number b ≡ n
flag_told n b e = elim (chosen (nat_eq n 0) (Some false) _ (Some b) e) [
  | inl a ↦ ap flag_number (sym (some_is false b a.1)) ∙ sym (eqb-true n 0 a.0)
  | inr a ↦ elim (chosen (nat_eq n 1) (Some true) None (Some b) a.1) [
    | inl c ↦ ap flag_number (sym (some_is true b c.1)) ∙ sym (eqb-true n 1 c.0)
    | inr c ↦ absurd (none_is_some b c.1)
  ]
]

pub flag_sound : IsSoundForm flag_form
flag_sound = known_sound word_form flag_number flag_of word_sound flag_told

-- a number within bounds above a base
above : (base low high n : ℕ) → is_between low high n ≡ true → base ≤ low → n ≡ base + (n - base)
above base low high n e le =
    let both = both_true (leb low n) (leb n high) e in
    let least : low ≤ n = leb-true low n both.0 in
    omega arith

node_told : (n : ℕ) (x : Node) → node_of n ≡ Some x → node_number x ≡ n
node_told n x e = elim (chosen (nat_eq n 0) (Some Loc) _ (Some x) e) [
  | inl a ↦ sym (eqb-true n 0 a.0 ∙ ap node_number (some_is Loc x a.1))
  | inr a ↦ elim (chosen (is_between 1 8 n) (Some (Server n)) _ (Some x) a.1) [
    | inl b ↦ sym (ap node_number (some_is (Server n) x b.1))
    | inr b ↦ elim (chosen (is_between 101 116 n) (Some (Client (n - 100))) _ (Some x) b.1) [
      | inl c ↦ sym (above 100 101 116 n c.0 (lit≤ tt) ∙ ap node_number (some_is (Client (n - 100)) x c.1))
      | inr c ↦ elim (chosen (is_between 201 204 n) (Some (Admin (n - 200))) None (Some x) c.1) [
        | inl d ↦ sym (above 200 201 204 n d.0 (lit≤ tt) ∙ ap node_number (some_is (Admin (n - 200)) x d.1))
        | inr d ↦ absurd (none_is_some x d.1)
      ]
    ]
  ]
]

caller_told : (n : ℕ) (c : Option Node) → caller_numbered n ≡ Some c → caller_number c ≡ n
caller_told n c e = elim (chosen (nat_eq n 0) (Some None) _ (Some c) e) [
  | inl a ↦ ap caller_number (sym (some_is None c a.1)) ∙ sym (eqb-true n 0 a.0)
  | inr a ↦ let m = bound (node_of n) (λ x. Some (Some x)) c a.1 in ap caller_number (sym (some_is (Some m.0) c m.1.1)) ∙ node_told n m.0 m.1.0
]

pub caller_sound : IsSoundForm caller_form
caller_sound = known_sound word_form caller_number caller_numbered word_sound caller_told

-- ---- the head

head_told : (p : ℕ × (ℕ × (Option Node × (ℕ × (ℕ × List ℕ))))) (h : RecordHead) → head_made p ≡ Some h → head_parts h ≡ p
head_told p h e = elim (chosen (tells_call p.1.1.0 p.1.1.1.0 p.1.1.1.1.0 p.1.1.1.1.1) (Some (record_head p)) None (Some h) e) [
  | inl a ↦ ap head_parts (sym (some_is (record_head p) h a.1))
  | inr a ↦ absurd (none_is_some h a.1)
]

pub head_sound : IsSoundForm head_form
unfolding head_form
head_sound =
    known_sound (word_form before word_form before caller_form before word_form before word_form before text_form most_reply) head_parts head_made
    (before_sound word_form (word_form before caller_form before word_form before word_form before text_form most_reply) word_sound
    (before_sound word_form (caller_form before word_form before word_form before text_form most_reply) word_sound
    (before_sound caller_form (word_form before word_form before text_form most_reply) caller_sound
    (before_sound word_form (word_form before text_form most_reply) word_sound
    (before_sound word_form (text_form most_reply) word_sound (text_sound most_reply))))))
    head_told

-- ---- a whole volume

pub listed_sound : IsSoundForm listed_form
listed_sound = before_sound word_form word_form word_sound word_sound

pub marked_sound : IsSoundForm marked_form
marked_sound = known_sound (mark_form vnode_mark before image_form) (λ v. (tt, v)) (λ p. Some p.1) (before_sound (mark_form vnode_mark) image_form (mark_sound vnode_mark) image_sound) (λ p v e. ap (λ (x : Vnode). (tt, x)) (sym (some_is p.1 v e)))

listed_are : (ps : List (ℕ × ℕ)) (vs : List Vnode) → are_listed ps vs ≡ true → ps ≡ map listed_vnode vs
listed_are [] [] e = refl
listed_are (p ∷ ps) (v ∷ vs) e =
    let a = both_true (nat_eq p.0 v.vnode) (nat_eq p.1 v.unique && are_listed ps vs) e in
    let b = both_true (nat_eq p.1 v.unique) (are_listed ps vs) a.1 in
    let first : p ≡ listed_vnode v = ap (λ (n : ℕ). (n, p.1)) (eqb-true p.0 v.vnode a.0) ∙ ap (λ (u : ℕ). (v.vnode, u)) (eqb-true p.1 v.unique b.0) in
    ap (λ (q : ℕ × ℕ). q ∷ ps) first ∙ ap (λ (qs : List (ℕ × ℕ)). listed_vnode v ∷ qs) (listed_are ps vs b.1)
listed_are [] (v ∷ vs) e = absurd cc
listed_are (p ∷ ps) [] e = absurd cc

whole_are : (ps : List (ℕ × ℕ)) (vs : List Vnode) → are_whole ps vs ≡ true → ps ≡ map listed_vnode vs
whole_are ps vs e = listed_are ps vs (both_true (are_listed ps vs) _ (both_true _ (are_listed ps vs && _) e).1).0

passed : {A : Type 0} (b : Bool) (x y : A) → cond b (Some x) None ≡ Some y → (b ≡ true) × (x ≡ y)
passed true x y e = (refl, some_is x y e)
passed false x y e = absurd cc

listed_length : (vs : List Vnode) → length (map listed_vnode vs) ≡ length vs
listed_length [] = refl
listed_length (v ∷ vs) = ap suc (listed_length vs)

pub vnodes_sound : IsSoundForm vnodes_form
vnodes_sound = record {
  takes = λ bytes vs rest fits e.
      let a = bound ((list_form listed_form).at bytes) (λ ps. (many_at marked_form.at (length ps.0) ps.1 >>= λ ws. (if are_whole ps.0 ws.0 then Some ws else None))) (vs, rest) e in
      let b = bound (many_at marked_form.at (length a.0.0) a.0.1) (λ ws. (if are_whole a.0.0 ws.0 then Some ws else None)) (vs, rest) a.1.1 in
      let g = passed (are_whole a.0.0 b.0.0) b.0 (vs, rest) b.1.1 in
      let t = (list_sound listed_form listed_sound).takes bytes a.0.0 a.0.1 fits a.1.0 in
      let u = many_takes marked_form marked_sound (length a.0.0) a.0.1 b.0.0 b.0.1 t.0.rest_fits b.1.0 in
      let both = Takes-then bytes ((list_form listed_form).spelled a.0.0) a.0.1 (flat_map marked_form.spelled b.0.0) b.0.1 t.0 u.0 in
      let same = whole_are a.0.0 b.0.0 g.0 in
      let here : Takes bytes (vnodes_form.spelled b.0.0) b.0.1 × vnodes_form.Fits b.0.0 =
      subst (λ (ps : List (ℕ × ℕ)). Takes bytes ((list_form listed_form).spelled ps ++ flat_map marked_form.spelled b.0.0) b.0.1 × ((list_form listed_form).Fits ps × (AllByRecursion marked_form.Fits b.0.0 × (are_whole ps b.0.0 ≡ true)))) {x = a.0.0} same (both, (t.1, (u.1.1, g.0))) in
      subst (λ (y : List Vnode × List ℕ). Takes bytes (vnodes_form.spelled y.0) y.1 × vnodes_form.Fits y.0) {x = b.0} g.1 here;
  again = λ vs rest fits.
      let regrouped = append_assoc ((list_form listed_form).spelled (map listed_vnode vs)) (flat_map marked_form.spelled vs) rest in
      let many : many_at marked_form.at (length (map listed_vnode vs)) (flat_map marked_form.spelled vs ++ rest) ≡ Some (vs, rest) =
      ap (λ (n : ℕ). many_at marked_form.at n (flat_map marked_form.spelled vs ++ rest)) (listed_length vs) ∙ many_again marked_form marked_sound vs rest fits.1.0 in
      ap vnodes_form.at regrouped ∙ rw ((list_sound listed_form listed_sound).again (map listed_vnode vs) (flat_map marked_form.spelled vs ++ rest) fits.0, many, fits.1.1) refl;
}

pub volume_sound : IsSoundForm volume_form
unfolding volume_form
volume_sound =
    known_sound (text_form most_name before word_form before mark_form volume_mark before word_form before word_form before kind_form before word_form before word_form before word_form before word_form before vnodes_form) volume_parts volume_made
    (before_sound (text_form most_name) (word_form before mark_form volume_mark before word_form before word_form before kind_form before word_form before word_form before word_form before word_form before vnodes_form) (text_sound most_name)
    (before_sound (word_form) (mark_form volume_mark before word_form before word_form before kind_form before word_form before word_form before word_form before word_form before vnodes_form) (word_sound)
    (before_sound (mark_form volume_mark) (word_form before word_form before kind_form before word_form before word_form before word_form before word_form before vnodes_form) (mark_sound volume_mark)
    (before_sound (word_form) (word_form before kind_form before word_form before word_form before word_form before word_form before vnodes_form) (word_sound)
    (before_sound (word_form) (kind_form before word_form before word_form before word_form before word_form before vnodes_form) (word_sound)
    (before_sound (kind_form) (word_form before word_form before word_form before word_form before vnodes_form) (kind_sound)
    (before_sound (word_form) (word_form before word_form before word_form before vnodes_form) (word_sound)
    (before_sound (word_form) (word_form before word_form before vnodes_form) (word_sound)
    (before_sound (word_form) (word_form before vnodes_form) (word_sound)
    (before_sound (word_form) (vnodes_form) (word_sound)
    vnodes_sound))))))))))
    (λ p v e. ap volume_parts (sym (some_is _ v e)))

-- ---- rows

-- what was read by a row: each field's value with the bytes behind it, and at the end what they make
abbrev Taking : Type 0 → Type 0 → Type 1
Taking F X = F → List ℕ → X → Type 0

abbrev pub TakesEnd : {X : Type 0} → Taking X X
TakesEnd {X} y bytes x = (bytes ≡ []) × (y ≡ x)

abbrev pub TakesField : {A F X : Type 0} → Form A → Taking F X → Taking (A → F) X
TakesField {A} {F} {X} form Others maker bytes x = (a : A) × ((rest : List ℕ) × ((bytes ≡ form.spelled a ++ rest) × (form.Fits a × Others (maker a) rest x)))

abbrev IsTaking : {F X : Type 0} → (F → List ℕ → Option X) → Taking F X → Type 0
IsTaking {F} {X} make Took = (maker : F) (bytes : List ℕ) (x : X) → IsBytes bytes → make maker bytes ≡ Some x → Took maker bytes x

pub at_end : {X : Type 0} → IsTaking {F = X} {X = X} made_at_end TakesEnd
at_end {X} y [] x fits e = (refl, some_is y x e)
at_end {X} y (b ∷ bytes) x fits e = absurd cc

pub behind : {A F X : Type 0} (form : Form A) → IsSoundForm form → (make : F → List ℕ → Option X) (Took : Taking F X) → IsTaking make Took → IsTaking (made_behind form make) (TakesField form Took)
behind {A} {F} {X} form p make Took others maker bytes x fits e =
    let a = bound (form.at bytes) (λ y. make (maker y.0) y.1) x e in
    let t = p.takes bytes a.0.0 a.0.1 fits a.1.0 in
    (a.0.0, (a.0.1, (t.0.parts, (t.1, others (maker a.0.0) a.0.1 x t.0.rest_fits a.1.1))))

pub behind_again : {A F X : Type 0} (form : Form A) → IsSoundForm form → (make : F → List ℕ → Option X) (maker : A → F) (a : A) (rest : List ℕ) → form.Fits a → made_behind form make maker (form.spelled a ++ rest) ≡ make (maker a) rest
behind_again {A} {F} {X} form p make maker a rest fits = ap (λ (o : Option (A × List ℕ)). o >>= λ y. make (maker y.0) y.1) (p.again a rest fits)

-- the bytes are those of this body, in this row
pub record IsRowOf {X : Type 0} (table : RecordTable X) (number : ℕ) (bytes : List ℕ) (x : X) : Type 0 where
  pub numbered : (table.row x).number ≡ number
  pub spelled : bytes ≡ (table.row x).spelled
  pub fits : (table.row x).Fits

abbrev IsRow : ℕ → List ℕ → RecordBody → Type 0
IsRow number bytes x = IsRowOf store_table number bytes x

abbrev pub RowIsSoundIn : {X : Type 0} → RecordTable X → X → Type 0
RowIsSoundIn {X} table d = (bytes : List ℕ) (x : X) → IsBytes bytes → (table.row d).make bytes ≡ Some x → IsRowOf table (table.row d).number bytes x

abbrev RowIsSound : RecordBody → Type 0
RowIsSound d = RowIsSoundIn store_table d

first_row : (bytes : List ℕ) (x : RecordBody) → (TakesField (list_form volume_form) TakesEnd) bodies.First bytes x → IsRow (row (bodies.First [])).number bytes x
first_row bytes x t = subst (λ (y : RecordBody). IsRow (row (bodies.First [])).number bytes y) {x = bodies.First t.0} t.1.1.1.1.1 (record { numbered = refl; spelled = t.1.1.0 ∙ ap (λ (s : List ℕ). (list_form volume_form).spelled t.0 ++ s) (t.1.1.1.1.0); fits = (t.1.1.1.0, tt) })

first_sound : RowIsSound (bodies.First [])
first_sound bytes x fits e = first_row bytes x ((behind (list_form volume_form) (list_sound volume_form volume_sound) made_at_end TakesEnd at_end) bodies.First bytes x fits e)

change_row : (bytes : List ℕ) (x : RecordBody) → (TakesField word_form (TakesField word_form (TakesField word_form (TakesField (list_form image_form) (TakesField (list_form word_form) TakesEnd))))) bodies.Change bytes x → IsRow (row (bodies.Change 0 0 0 [] [])).number bytes x
change_row bytes x t = subst (λ (y : RecordBody). IsRow (row (bodies.Change 0 0 0 [] [])).number bytes y) {x = bodies.Change t.0 t.1.1.1.1.0 t.1.1.1.1.1.1.1.1.0 t.1.1.1.1.1.1.1.1.1.1.1.1.0 t.1.1.1.1.1.1.1.1.1.1.1.1.1.1.1.1.0} t.1.1.1.1.1.1.1.1.1.1.1.1.1.1.1.1.1.1.1.1.1 (record { numbered = refl; spelled = t.1.1.0 ∙ ap (λ (s : List ℕ). word_form.spelled t.0 ++ s) (t.1.1.1.1.1.1.0 ∙ ap (λ (s : List ℕ). word_form.spelled t.1.1.1.1.0 ++ s) (t.1.1.1.1.1.1.1.1.1.1.0 ∙ ap (λ (s : List ℕ). word_form.spelled t.1.1.1.1.1.1.1.1.0 ++ s) (t.1.1.1.1.1.1.1.1.1.1.1.1.1.1.0 ∙ ap (λ (s : List ℕ). (list_form image_form).spelled t.1.1.1.1.1.1.1.1.1.1.1.1.0 ++ s) (t.1.1.1.1.1.1.1.1.1.1.1.1.1.1.1.1.1.1.0 ∙ ap (λ (s : List ℕ). (list_form word_form).spelled t.1.1.1.1.1.1.1.1.1.1.1.1.1.1.1.1.0 ++ s) (t.1.1.1.1.1.1.1.1.1.1.1.1.1.1.1.1.1.1.1.1.0))))); fits = (t.1.1.1.0, (t.1.1.1.1.1.1.1.0, (t.1.1.1.1.1.1.1.1.1.1.1.0, (t.1.1.1.1.1.1.1.1.1.1.1.1.1.1.1.0, (t.1.1.1.1.1.1.1.1.1.1.1.1.1.1.1.1.1.1.1.0, tt))))) })

change_sound : RowIsSound (bodies.Change 0 0 0 [] [])
change_sound bytes x fits e = change_row bytes x ((behind word_form word_sound (made_behind word_form (made_behind word_form (made_behind (list_form image_form) (made_behind (list_form word_form) made_at_end)))) (TakesField word_form (TakesField word_form (TakesField (list_form image_form) (TakesField (list_form word_form) TakesEnd)))) (behind word_form word_sound (made_behind word_form (made_behind (list_form image_form) (made_behind (list_form word_form) made_at_end))) (TakesField word_form (TakesField (list_form image_form) (TakesField (list_form word_form) TakesEnd))) (behind word_form word_sound (made_behind (list_form image_form) (made_behind (list_form word_form) made_at_end)) (TakesField (list_form image_form) (TakesField (list_form word_form) TakesEnd)) (behind (list_form image_form) (list_sound image_form image_sound) (made_behind (list_form word_form) made_at_end) (TakesField (list_form word_form) TakesEnd) (behind (list_form word_form) (list_sound word_form word_sound) made_at_end TakesEnd at_end))))) bodies.Change bytes x fits e)

boot_row : (bytes : List ℕ) (x : RecordBody) → (TakesField word_form TakesEnd) bodies.Boot bytes x → IsRow (row (bodies.Boot 0)).number bytes x
boot_row bytes x t = subst (λ (y : RecordBody). IsRow (row (bodies.Boot 0)).number bytes y) {x = bodies.Boot t.0} t.1.1.1.1.1 (record { numbered = refl; spelled = t.1.1.0 ∙ ap (λ (s : List ℕ). word_form.spelled t.0 ++ s) (t.1.1.1.1.0); fits = (t.1.1.1.0, tt) })

boot_sound : RowIsSound (bodies.Boot 0)
boot_sound bytes x fits e = boot_row bytes x ((behind word_form word_sound made_at_end TakesEnd at_end) bodies.Boot bytes x fits e)

create_row : (bytes : List ℕ) (x : RecordBody) → (TakesField word_form (TakesField word_form (TakesField (text_form most_name) (TakesField kind_form (TakesField word_form (TakesField word_form (TakesField flag_form TakesEnd))))))) bodies.Create bytes x → IsRow (row (bodies.Create 0 0 [] 0 0 0 false)).number bytes x
create_row bytes x t = subst (λ (y : RecordBody). IsRow (row (bodies.Create 0 0 [] 0 0 0 false)).number bytes y) {x = bodies.Create t.0 t.1.1.1.1.0 t.1.1.1.1.1.1.1.1.0 t.1.1.1.1.1.1.1.1.1.1.1.1.0 t.1.1.1.1.1.1.1.1.1.1.1.1.1.1.1.1.0 t.1.1.1.1.1.1.1.1.1.1.1.1.1.1.1.1.1.1.1.1.0 t.1.1.1.1.1.1.1.1.1.1.1.1.1.1.1.1.1.1.1.1.1.1.1.1.0} t.1.1.1.1.1.1.1.1.1.1.1.1.1.1.1.1.1.1.1.1.1.1.1.1.1.1.1.1.1 (record { numbered = refl; spelled = t.1.1.0 ∙ ap (λ (s : List ℕ). word_form.spelled t.0 ++ s) (t.1.1.1.1.1.1.0 ∙ ap (λ (s : List ℕ). word_form.spelled t.1.1.1.1.0 ++ s) (t.1.1.1.1.1.1.1.1.1.1.0 ∙ ap (λ (s : List ℕ). (text_form most_name).spelled t.1.1.1.1.1.1.1.1.0 ++ s) (t.1.1.1.1.1.1.1.1.1.1.1.1.1.1.0 ∙ ap (λ (s : List ℕ). kind_form.spelled t.1.1.1.1.1.1.1.1.1.1.1.1.0 ++ s) (t.1.1.1.1.1.1.1.1.1.1.1.1.1.1.1.1.1.1.0 ∙ ap (λ (s : List ℕ). word_form.spelled t.1.1.1.1.1.1.1.1.1.1.1.1.1.1.1.1.0 ++ s) (t.1.1.1.1.1.1.1.1.1.1.1.1.1.1.1.1.1.1.1.1.1.1.0 ∙ ap (λ (s : List ℕ). word_form.spelled t.1.1.1.1.1.1.1.1.1.1.1.1.1.1.1.1.1.1.1.1.0 ++ s) (t.1.1.1.1.1.1.1.1.1.1.1.1.1.1.1.1.1.1.1.1.1.1.1.1.1.1.0 ∙ ap (λ (s : List ℕ). flag_form.spelled t.1.1.1.1.1.1.1.1.1.1.1.1.1.1.1.1.1.1.1.1.1.1.1.1.0 ++ s) (t.1.1.1.1.1.1.1.1.1.1.1.1.1.1.1.1.1.1.1.1.1.1.1.1.1.1.1.1.0))))))); fits = (t.1.1.1.0, (t.1.1.1.1.1.1.1.0, (t.1.1.1.1.1.1.1.1.1.1.1.0, (t.1.1.1.1.1.1.1.1.1.1.1.1.1.1.1.0, (t.1.1.1.1.1.1.1.1.1.1.1.1.1.1.1.1.1.1.1.0, (t.1.1.1.1.1.1.1.1.1.1.1.1.1.1.1.1.1.1.1.1.1.1.1.0, (t.1.1.1.1.1.1.1.1.1.1.1.1.1.1.1.1.1.1.1.1.1.1.1.1.1.1.1.0, tt))))))) })

create_sound : RowIsSound (bodies.Create 0 0 [] 0 0 0 false)
create_sound bytes x fits e = create_row bytes x ((behind word_form word_sound (made_behind word_form (made_behind (text_form most_name) (made_behind kind_form (made_behind word_form (made_behind word_form (made_behind flag_form made_at_end)))))) (TakesField word_form (TakesField (text_form most_name) (TakesField kind_form (TakesField word_form (TakesField word_form (TakesField flag_form TakesEnd)))))) (behind word_form word_sound (made_behind (text_form most_name) (made_behind kind_form (made_behind word_form (made_behind word_form (made_behind flag_form made_at_end))))) (TakesField (text_form most_name) (TakesField kind_form (TakesField word_form (TakesField word_form (TakesField flag_form TakesEnd))))) (behind (text_form most_name) (text_sound most_name) (made_behind kind_form (made_behind word_form (made_behind word_form (made_behind flag_form made_at_end)))) (TakesField kind_form (TakesField word_form (TakesField word_form (TakesField flag_form TakesEnd)))) (behind kind_form kind_sound (made_behind word_form (made_behind word_form (made_behind flag_form made_at_end))) (TakesField word_form (TakesField word_form (TakesField flag_form TakesEnd))) (behind word_form word_sound (made_behind word_form (made_behind flag_form made_at_end)) (TakesField word_form (TakesField flag_form TakesEnd)) (behind word_form word_sound (made_behind flag_form made_at_end) (TakesField flag_form TakesEnd) (behind flag_form flag_sound made_at_end TakesEnd at_end))))))) bodies.Create bytes x fits e)

delete_row : (bytes : List ℕ) (x : RecordBody) → (TakesField word_form TakesEnd) bodies.Delete bytes x → IsRow (row (bodies.Delete 0)).number bytes x
delete_row bytes x t = subst (λ (y : RecordBody). IsRow (row (bodies.Delete 0)).number bytes y) {x = bodies.Delete t.0} t.1.1.1.1.1 (record { numbered = refl; spelled = t.1.1.0 ∙ ap (λ (s : List ℕ). word_form.spelled t.0 ++ s) (t.1.1.1.1.0); fits = (t.1.1.1.0, tt) })

delete_sound : RowIsSound (bodies.Delete 0)
delete_sound bytes x fits e = delete_row bytes x ((behind word_form word_sound made_at_end TakesEnd at_end) bodies.Delete bytes x fits e)

clone_row : (bytes : List ℕ) (x : RecordBody) → (TakesField word_form (TakesField word_form (TakesField (text_form most_name) (TakesField kind_form (TakesField word_form TakesEnd))))) bodies.Clone bytes x → IsRow (row (bodies.Clone 0 0 [] 0 0)).number bytes x
clone_row bytes x t = subst (λ (y : RecordBody). IsRow (row (bodies.Clone 0 0 [] 0 0)).number bytes y) {x = bodies.Clone t.0 t.1.1.1.1.0 t.1.1.1.1.1.1.1.1.0 t.1.1.1.1.1.1.1.1.1.1.1.1.0 t.1.1.1.1.1.1.1.1.1.1.1.1.1.1.1.1.0} t.1.1.1.1.1.1.1.1.1.1.1.1.1.1.1.1.1.1.1.1.1 (record { numbered = refl; spelled = t.1.1.0 ∙ ap (λ (s : List ℕ). word_form.spelled t.0 ++ s) (t.1.1.1.1.1.1.0 ∙ ap (λ (s : List ℕ). word_form.spelled t.1.1.1.1.0 ++ s) (t.1.1.1.1.1.1.1.1.1.1.0 ∙ ap (λ (s : List ℕ). (text_form most_name).spelled t.1.1.1.1.1.1.1.1.0 ++ s) (t.1.1.1.1.1.1.1.1.1.1.1.1.1.1.0 ∙ ap (λ (s : List ℕ). kind_form.spelled t.1.1.1.1.1.1.1.1.1.1.1.1.0 ++ s) (t.1.1.1.1.1.1.1.1.1.1.1.1.1.1.1.1.1.1.0 ∙ ap (λ (s : List ℕ). word_form.spelled t.1.1.1.1.1.1.1.1.1.1.1.1.1.1.1.1.0 ++ s) (t.1.1.1.1.1.1.1.1.1.1.1.1.1.1.1.1.1.1.1.1.0))))); fits = (t.1.1.1.0, (t.1.1.1.1.1.1.1.0, (t.1.1.1.1.1.1.1.1.1.1.1.0, (t.1.1.1.1.1.1.1.1.1.1.1.1.1.1.1.0, (t.1.1.1.1.1.1.1.1.1.1.1.1.1.1.1.1.1.1.1.0, tt))))) })

clone_sound : RowIsSound (bodies.Clone 0 0 [] 0 0)
clone_sound bytes x fits e = clone_row bytes x ((behind word_form word_sound (made_behind word_form (made_behind (text_form most_name) (made_behind kind_form (made_behind word_form made_at_end)))) (TakesField word_form (TakesField (text_form most_name) (TakesField kind_form (TakesField word_form TakesEnd)))) (behind word_form word_sound (made_behind (text_form most_name) (made_behind kind_form (made_behind word_form made_at_end))) (TakesField (text_form most_name) (TakesField kind_form (TakesField word_form TakesEnd))) (behind (text_form most_name) (text_sound most_name) (made_behind kind_form (made_behind word_form made_at_end)) (TakesField kind_form (TakesField word_form TakesEnd)) (behind kind_form kind_sound (made_behind word_form made_at_end) (TakesField word_form TakesEnd) (behind word_form word_sound made_at_end TakesEnd at_end))))) bodies.Clone bytes x fits e)

restore_row : (bytes : List ℕ) (x : RecordBody) → (TakesField word_form (TakesField (text_form most_dump) TakesEnd)) bodies.Restore bytes x → IsRow (row (bodies.Restore 0 [])).number bytes x
restore_row bytes x t = subst (λ (y : RecordBody). IsRow (row (bodies.Restore 0 [])).number bytes y) {x = bodies.Restore t.0 t.1.1.1.1.0} t.1.1.1.1.1.1.1.1.1 (record { numbered = refl; spelled = t.1.1.0 ∙ ap (λ (s : List ℕ). word_form.spelled t.0 ++ s) (t.1.1.1.1.1.1.0 ∙ ap (λ (s : List ℕ). (text_form most_dump).spelled t.1.1.1.1.0 ++ s) (t.1.1.1.1.1.1.1.1.0)); fits = (t.1.1.1.0, (t.1.1.1.1.1.1.1.0, tt)) })

restore_sound : RowIsSound (bodies.Restore 0 [])
restore_sound bytes x fits e = restore_row bytes x ((behind word_form word_sound (made_behind (text_form most_dump) made_at_end) (TakesField (text_form most_dump) TakesEnd) (behind (text_form most_dump) (text_sound most_dump) made_at_end TakesEnd at_end)) bodies.Restore bytes x fits e)

flags_row : (bytes : List ℕ) (x : RecordBody) → (TakesField word_form (TakesField word_form TakesEnd)) bodies.Flags bytes x → IsRow (row (bodies.Flags 0 0)).number bytes x
flags_row bytes x t = subst (λ (y : RecordBody). IsRow (row (bodies.Flags 0 0)).number bytes y) {x = bodies.Flags t.0 t.1.1.1.1.0} t.1.1.1.1.1.1.1.1.1 (record { numbered = refl; spelled = t.1.1.0 ∙ ap (λ (s : List ℕ). word_form.spelled t.0 ++ s) (t.1.1.1.1.1.1.0 ∙ ap (λ (s : List ℕ). word_form.spelled t.1.1.1.1.0 ++ s) (t.1.1.1.1.1.1.1.1.0)); fits = (t.1.1.1.0, (t.1.1.1.1.1.1.1.0, tt)) })

flags_sound : RowIsSound (bodies.Flags 0 0)
flags_sound bytes x fits e = flags_row bytes x ((behind word_form word_sound (made_behind word_form made_at_end) (TakesField word_form TakesEnd) (behind word_form word_sound made_at_end TakesEnd at_end)) bodies.Flags bytes x fits e)

forward_row : (bytes : List ℕ) (x : RecordBody) → (TakesField word_form (TakesField server_form TakesEnd)) bodies.Forward bytes x → IsRow (row (bodies.Forward 0 0)).number bytes x
forward_row bytes x t = subst (λ (y : RecordBody). IsRow (row (bodies.Forward 0 0)).number bytes y) {x = bodies.Forward t.0 t.1.1.1.1.0} t.1.1.1.1.1.1.1.1.1 (record { numbered = refl; spelled = t.1.1.0 ∙ ap (λ (s : List ℕ). word_form.spelled t.0 ++ s) (t.1.1.1.1.1.1.0 ∙ ap (λ (s : List ℕ). server_form.spelled t.1.1.1.1.0 ++ s) (t.1.1.1.1.1.1.1.1.0)); fits = (t.1.1.1.0, (t.1.1.1.1.1.1.1.0, tt)) })

forward_sound : RowIsSound (bodies.Forward 0 0)
forward_sound bytes x fits e = forward_row bytes x ((behind word_form word_sound (made_behind server_form made_at_end) (TakesField server_form TakesEnd) (behind server_form server_sound made_at_end TakesEnd at_end)) bodies.Forward bytes x fits e)

stamp_row : (bytes : List ℕ) (x : RecordBody) → TakesEnd bodies.Stamp bytes x → IsRow (row (bodies.Stamp)).number bytes x
stamp_row bytes x t = subst (λ (y : RecordBody). IsRow (row (bodies.Stamp)).number bytes y) {x = bodies.Stamp} t.1 (record { numbered = refl; spelled = t.0; fits = tt })

stamp_sound : RowIsSound (bodies.Stamp)
stamp_sound bytes x fits e = stamp_row bytes x (at_end bodies.Stamp bytes x fits e)

pub in_rows : {X : Type 0} (table : RecordTable X) (number : ℕ) (bytes : List ℕ) (x : X) (ds : List X) → AllByRecursion (RowIsSoundIn table) ds → IsBytes bytes → made_in table.row number bytes ds ≡ Some x → IsRowOf table number bytes x
in_rows {X} table number bytes x [] h fits e = absurd (none_is_some x e)
in_rows {X} table number bytes x (d ∷ ds) h fits e = elim (chosen (nat_eq number (table.row d).number) ((table.row d).make bytes) (made_in table.row number bytes ds) (Some x) e) [
  | inl a ↦ subst (λ (n : ℕ). IsRowOf table n bytes x) (sym (eqb-true number (table.row d).number a.0)) (h.0 bytes x fits a.1)
  | inr a ↦ in_rows table number bytes x ds h.1 fits a.1
]

body_takes : (number : ℕ) (bytes : List ℕ) (x : RecordBody) → IsBytes bytes → body_at number bytes ≡ Some x → IsRow number bytes x
body_takes number bytes x fits e = in_rows store_table number bytes x each (first_sound, (change_sound, (boot_sound, (create_sound, (delete_sound, (clone_sound, (restore_sound, (flags_sound, (forward_sound, (stamp_sound, tt)))))))))) fits e

body_again : (x : RecordBody) → (row x).Fits → body_at (row x).number (row x).spelled ≡ Some x
body_again (bodies.First v1) fits = (behind_again (list_form volume_form) (list_sound volume_form volume_sound) made_at_end (bodies.First) v1 [] fits.0)
body_again (bodies.Change v1 v2 v3 v4 v5) fits = (behind_again word_form word_sound (made_behind word_form (made_behind word_form (made_behind (list_form image_form) (made_behind (list_form word_form) made_at_end)))) (bodies.Change) v1 (word_form.spelled v2 ++ (word_form.spelled v3 ++ ((list_form image_form).spelled v4 ++ ((list_form word_form).spelled v5 ++ [])))) fits.0) ∙ (behind_again word_form word_sound (made_behind word_form (made_behind (list_form image_form) (made_behind (list_form word_form) made_at_end))) (bodies.Change v1) v2 (word_form.spelled v3 ++ ((list_form image_form).spelled v4 ++ ((list_form word_form).spelled v5 ++ []))) fits.1.0) ∙ (behind_again word_form word_sound (made_behind (list_form image_form) (made_behind (list_form word_form) made_at_end)) (bodies.Change v1 v2) v3 ((list_form image_form).spelled v4 ++ ((list_form word_form).spelled v5 ++ [])) fits.1.1.0) ∙ (behind_again (list_form image_form) (list_sound image_form image_sound) (made_behind (list_form word_form) made_at_end) (bodies.Change v1 v2 v3) v4 ((list_form word_form).spelled v5 ++ []) fits.1.1.1.0) ∙ (behind_again (list_form word_form) (list_sound word_form word_sound) made_at_end (bodies.Change v1 v2 v3 v4) v5 [] fits.1.1.1.1.0)
body_again (bodies.Boot v1) fits = (behind_again word_form word_sound made_at_end (bodies.Boot) v1 [] fits.0)
body_again (bodies.Create v1 v2 v3 v4 v5 v6 v7) fits = (behind_again word_form word_sound (made_behind word_form (made_behind (text_form most_name) (made_behind kind_form (made_behind word_form (made_behind word_form (made_behind flag_form made_at_end)))))) (bodies.Create) v1 (word_form.spelled v2 ++ ((text_form most_name).spelled v3 ++ (kind_form.spelled v4 ++ (word_form.spelled v5 ++ (word_form.spelled v6 ++ (flag_form.spelled v7 ++ [])))))) fits.0) ∙ (behind_again word_form word_sound (made_behind (text_form most_name) (made_behind kind_form (made_behind word_form (made_behind word_form (made_behind flag_form made_at_end))))) (bodies.Create v1) v2 ((text_form most_name).spelled v3 ++ (kind_form.spelled v4 ++ (word_form.spelled v5 ++ (word_form.spelled v6 ++ (flag_form.spelled v7 ++ []))))) fits.1.0) ∙ (behind_again (text_form most_name) (text_sound most_name) (made_behind kind_form (made_behind word_form (made_behind word_form (made_behind flag_form made_at_end)))) (bodies.Create v1 v2) v3 (kind_form.spelled v4 ++ (word_form.spelled v5 ++ (word_form.spelled v6 ++ (flag_form.spelled v7 ++ [])))) fits.1.1.0) ∙ (behind_again kind_form kind_sound (made_behind word_form (made_behind word_form (made_behind flag_form made_at_end))) (bodies.Create v1 v2 v3) v4 (word_form.spelled v5 ++ (word_form.spelled v6 ++ (flag_form.spelled v7 ++ []))) fits.1.1.1.0) ∙ (behind_again word_form word_sound (made_behind word_form (made_behind flag_form made_at_end)) (bodies.Create v1 v2 v3 v4) v5 (word_form.spelled v6 ++ (flag_form.spelled v7 ++ [])) fits.1.1.1.1.0) ∙ (behind_again word_form word_sound (made_behind flag_form made_at_end) (bodies.Create v1 v2 v3 v4 v5) v6 (flag_form.spelled v7 ++ []) fits.1.1.1.1.1.0) ∙ (behind_again flag_form flag_sound made_at_end (bodies.Create v1 v2 v3 v4 v5 v6) v7 [] fits.1.1.1.1.1.1.0)
body_again (bodies.Delete v1) fits = (behind_again word_form word_sound made_at_end (bodies.Delete) v1 [] fits.0)
body_again (bodies.Clone v1 v2 v3 v4 v5) fits = (behind_again word_form word_sound (made_behind word_form (made_behind (text_form most_name) (made_behind kind_form (made_behind word_form made_at_end)))) (bodies.Clone) v1 (word_form.spelled v2 ++ ((text_form most_name).spelled v3 ++ (kind_form.spelled v4 ++ (word_form.spelled v5 ++ [])))) fits.0) ∙ (behind_again word_form word_sound (made_behind (text_form most_name) (made_behind kind_form (made_behind word_form made_at_end))) (bodies.Clone v1) v2 ((text_form most_name).spelled v3 ++ (kind_form.spelled v4 ++ (word_form.spelled v5 ++ []))) fits.1.0) ∙ (behind_again (text_form most_name) (text_sound most_name) (made_behind kind_form (made_behind word_form made_at_end)) (bodies.Clone v1 v2) v3 (kind_form.spelled v4 ++ (word_form.spelled v5 ++ [])) fits.1.1.0) ∙ (behind_again kind_form kind_sound (made_behind word_form made_at_end) (bodies.Clone v1 v2 v3) v4 (word_form.spelled v5 ++ []) fits.1.1.1.0) ∙ (behind_again word_form word_sound made_at_end (bodies.Clone v1 v2 v3 v4) v5 [] fits.1.1.1.1.0)
body_again (bodies.Restore v1 v2) fits = (behind_again word_form word_sound (made_behind (text_form most_dump) made_at_end) (bodies.Restore) v1 ((text_form most_dump).spelled v2 ++ []) fits.0) ∙ (behind_again (text_form most_dump) (text_sound most_dump) made_at_end (bodies.Restore v1) v2 [] fits.1.0)
body_again (bodies.Flags v1 v2) fits = (behind_again word_form word_sound (made_behind word_form made_at_end) (bodies.Flags) v1 (word_form.spelled v2 ++ []) fits.0) ∙ (behind_again word_form word_sound made_at_end (bodies.Flags v1) v2 [] fits.1.0)
body_again (bodies.Forward v1 v2) fits = (behind_again word_form word_sound (made_behind server_form made_at_end) (bodies.Forward) v1 (server_form.spelled v2 ++ []) fits.0) ∙ (behind_again server_form server_sound made_at_end (bodies.Forward v1) v2 [] fits.1.0)
body_again bodies.Stamp fits = refl

number_small : (x : RecordBody) → (row x).number < 2 ^ 32
number_small (bodies.First _) = lit< tt
number_small (bodies.Change _ _ _ _ _) = lit< tt
number_small (bodies.Boot _) = lit< tt
number_small (bodies.Create _ _ _ _ _ _ _) = lit< tt
number_small (bodies.Delete _) = lit< tt
number_small (bodies.Clone _ _ _ _ _) = lit< tt
number_small (bodies.Restore _ _) = lit< tt
number_small (bodies.Flags _ _) = lit< tt
number_small (bodies.Forward _ _) = lit< tt
number_small bodies.Stamp = lit< tt

-- ---- records of a table

-- bodies that are read are spelled so, and what is spelled is read
pub record IsSoundTable {X : Type 0} (table : RecordTable X) : Type 0 where
  pub takes : (number : ℕ) (bytes : List ℕ) (x : X) → IsBytes bytes → body_in table number bytes ≡ Some x → IsRowOf table number bytes x
  pub again : (x : X) → (table.row x).Fits → body_in table (table.row x).number (table.row x).spelled ≡ Some x
  pub small : (x : X) → (table.row x).number < 2 ^ 32

pub table_read : {X R : Type 0} (table : RecordTable X) → IsSoundTable table → (make : RecordHead → X → R) (h : RecordHead) (b : X) → FitsIn table h b → read_in table make (spelled_in table h b) ≡ Some (make h b)
table_read {X} {R} table sound make h b fits =
    rw (word_sound.again (table.row b).number (head_form.spelled h ++ (table.row b).spelled) (sound.small b), head_sound.again h (table.row b).spelled fits.head, fits.caller, sound.again b fits.body) refl

-- a body that was read for a caller
called : {X : Type 0} (table : RecordTable X) (number : ℕ) (caller : Option Node) (bytes : List ℕ) (x : X) → body_for table number caller bytes ≡ Some x → (may_call number caller ≡ true) × (body_in table number bytes ≡ Some x)
called {X} table number caller bytes x e = elim (chosen (may_call number caller) (body_in table number bytes) None (Some x) e) [
  | inl a ↦ a
  | inr a ↦ absurd (none_is_some x a.1)
]

-- a record that was read: its head and its body
pub record HasRead {X R : Type 0} (table : RecordTable X) (make : RecordHead → X → R) (bytes : List ℕ) (r : R) : Type 0 where
  pub head : RecordHead
  pub body : X
  pub is : make head body ≡ r
  pub fits : FitsIn table head body
  pub spelled : spelled_in table head body ≡ bytes

pub table_spelled : {X R : Type 0} (table : RecordTable X) → IsSoundTable table → (make : RecordHead → X → R) (bytes : List ℕ) (r : R) → IsBytes bytes → read_in table make bytes ≡ Some r → HasRead table make bytes r
table_spelled {X} {R} table sound make bytes r fits e =
    let a = bound (word_form.at bytes) (λ number. (head_form.at number.1 >>= λ head. (body_for table number.0 head.0.caller head.1 >>= λ body. Some (make head.0 body)))) r e in
    let b = bound (head_form.at a.0.1) (λ head. (body_for table a.0.0 head.0.caller head.1 >>= λ body. Some (make head.0 body))) r a.1.1 in
    let c = bound (body_for table a.0.0 b.0.0.caller b.0.1) (λ body. Some (make b.0.0 body)) r b.1.1 in
    let d = called table a.0.0 b.0.0.caller b.0.1 c.0 c.1.0 in
    let t = word_sound.takes bytes a.0.0 a.0.1 fits a.1.0 in
    let u = head_sound.takes a.0.1 b.0.0 b.0.1 t.0.rest_fits b.1.0 in
    let w = sound.takes a.0.0 b.0.1 c.0 u.0.rest_fits d.1 in
    record {
      head = b.0.0;
      body = c.0;
      is = some_is (make b.0.0 c.0) r c.1.1;
      fits = record { head = u.1; body = w.fits; caller = subst (λ (n : ℕ). may_call n b.0.0.caller ≡ true) (sym w.numbered) d.0 };
      spelled =
          ap (λ (n : ℕ). word_form.spelled n ++ (head_form.spelled b.0.0 ++ (table.row c.0).spelled)) w.numbered
          ∙ sym (t.0.parts ∙ ap (λ (s : List ℕ). word_form.spelled a.0.0 ++ s) (u.0.parts ∙ ap (λ (s : List ℕ). head_form.spelled b.0.0 ++ s) w.spelled));
    }

-- ---- a server's records

pub store_sound : IsSoundTable store_table
store_sound = record { takes = body_takes; again = body_again; small = number_small }

pub record_read : (r : StoreRecord) → FitsRecord r → record_at (record_bytes r) ≡ Some r
unfolding record_at record_bytes
record_read r fits = table_read store_table store_sound store_record r.head r.body fits

pub record_spelled : (bytes : List ℕ) (r : StoreRecord) → IsBytes bytes → record_at bytes ≡ Some r → FitsRecord r × (record_bytes r ≡ bytes)
unfolding record_at record_bytes
record_spelled bytes r fits e =
    let a = table_spelled store_table store_sound store_record bytes r fits e in
    subst (λ (y : StoreRecord). FitsIn store_table y.head y.body × (spelled_in store_table y.head y.body ≡ bytes)) {x = store_record a.head a.body} a.is (a.fits, a.spelled)
