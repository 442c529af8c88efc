-- No two transactions are on one volume, and each is on one of the disk.
use Rattle.std.proofs.Common.{◌≡◌, ℕ, ◌+◌, ◌≤◌, ◌<◌, ◌⊎◌, inl, inr, Bool, true, false, cond, List, [], ◌∷◌, ◌++◌, Option, Some, None, Result, Ok, Err, is_some, nat_eq, nat_lt, refl, sym, ap, subst, ◌∙◌, arith, eqb-true, eq-eqb}
use Rattle.std.specs.Prelude.{⊤, not, ◌||◌, length}
use Rattle.std.proofs.lemmas.Bool.Decides.{nat_tests}
use Rattle.afs_num.specs.declared.types.Head.{Head}
use Rattle.afs_num.specs.declared.volume_calls.VolCall.{VolCall}
use Rattle.afs_num.specs.declared.volume_calls.VolCall.TheVariants as calls
use Rattle.afs_num.specs.declared.records.RecordBody.{RecordBody}
use Rattle.afs_num.specs.declared.records.RecordBody.TheVariants as bodies
use Rattle.spec_ideal.specs.Operations.{is_last_count}
use Rattle.spec_ideal.specs.Tables.{Table, get, set, unset, AscendsFrom}
use Rattle.spec_ideal.proofs.Tables.{get_set, get_unset, get_below, ascends_lower, ascends_set, ascends_unset}
use Rattle.spec_dumps.specs.Restores.{fed, restored_from}
use Rattle.spec_fold.specs.Deeds.{clone_put, done_by, flagged, has_volume, has_volume_room, on_stored, or_as_was, clone_made}
use Rattle.spec_records.specs.Durable.{Durable, Stored, has_room}
use Rattle.spec_records.specs.Records.{most_dump}
use Rattle.spec_volrows.proofs.Deciding.{each_decision}
use Rattle.spec_volrows.specs.VolLaws.{AreApart, KeepsApart, TransactionsStayApart}
use Rattle.spec_volrows.specs.VolRow.{After, Plan, Verdict, accepted, bad_dump, begins, begins_on, clones_anew, dumps_piece, ends, found, gave, gives, holds_other, in_its_volume, in_transaction, volume_held_code, is_held_by_other, is_of_other, is_there_already, last_after, no_room_left, of_family, part_given, refused, sends, stay, transactions_after, refused_where, verdict, volume_of_family, whole_given, without_family}
use Rattle.spec_volrows.specs.VolStates.{Transaction}
use Rattle.spec_volrows.specs.VolSteps.{Deed, VolDecision, deed_record, judged_by, not_written, or_stamp, raised_by, same_by, same_written, saves, vol_refusal, vol_reply, when_full}

-- ---- what is found

pub some_is : {A : Type 0} (x y : A) → Some x ≡ Some y → x ≡ y
some_is {A} x y e = cc

set_found_by : (b : Bool) (k n : ℕ) (x t : Transaction) (o : Option Transaction) → nat_eq k n ≡ b → cond b (Some x) o ≡ Some t → ((k ≡ n) × (x ≡ t)) ⊎ (o ≡ Some t)
set_found_by true k n x t o b e = inl (eqb-true k n b, some_is x t e)
set_found_by false k n x t o b e = inr e

pub set_found : (k n : ℕ) (x t : Transaction) (ts : Table Transaction) → get n (set k x ts) ≡ Some t → ((k ≡ n) × (x ≡ t)) ⊎ (get n ts ≡ Some t)
set_found k n x t ts e = set_found_by (nat_eq k n) k n x t (get n ts) refl (sym (get_set n k x ts) ∙ e)

unset_found_by : (b : Bool) (k n : ℕ) (t : Transaction) (o : Option Transaction) → nat_eq k n ≡ b → cond b None o ≡ Some t → (nat_eq k n ≡ false) × (o ≡ Some t)
unset_found_by true k n t o b e = absurd cc
unset_found_by false k n t o b e = (b, e)

pub unset_found : (k n : ℕ) (t : Transaction) (ts : Table Transaction) → get n (unset k ts) ≡ Some t → (nat_eq k n ≡ false) × (get n ts ≡ Some t)
unset_found k n t ts e = unset_found_by (nat_eq k n) k n t (get n ts) refl (sym (get_unset n k ts) ∙ e)

-- a volume that is put is there, and the others stay
put_by : (b : Bool) (s : Stored) (o : Option Stored) → is_some o ≡ true → is_some (cond b (Some s) o) ≡ true
put_by true s o h = refl
put_by false s o h = h

pub put_stays : (k id : ℕ) (s : Stored) (v : Table Stored) → is_some (get k v) ≡ true → is_some (get k (set id s v)) ≡ true
put_stays k id s v h = ap (λ (o : Option Stored). is_some o) (get_set k id s v) ∙ put_by (nat_eq id k) s (get k v) h

put_there : (id : ℕ) (s : Stored) (v : Table Stored) → is_some (get id (set id s v)) ≡ true
put_there id s v = ap (λ (o : Option Stored). is_some o) (get_set id id s v) ∙ rw (eq-eqb id id refl) refl

taken_by : (b : Bool) (o : Option Stored) → b ≡ false → is_some o ≡ true → is_some (cond b None o) ≡ true
taken_by true o e h = absurd cc
taken_by false o e h = h

taken_stays : (k id : ℕ) (v : Table Stored) → nat_eq id k ≡ false → is_some (get k v) ≡ true → is_some (get k (unset id v)) ≡ true
taken_stays k id v e h = ap (λ (o : Option Stored). is_some o) (get_unset k id v) ∙ taken_by (nat_eq id k) (get k v) e h

-- ---- what becomes of transactions

pub wider : (v w : Table Stored) (last : ℕ) (ts : Table Transaction) → ((k : ℕ) → is_some (get k v) ≡ true → is_some (get k w) ≡ true) → AreApart v last ts → AreApart w last ts
wider v w last ts more h = record { ascend = h.ascend; there = λ n t e. more t.volume (h.there n t e); numbered = h.numbered; alone = h.alone }

fewer : (v : Table Stored) (last : ℕ) (ts us : Table Transaction) → AscendsFrom 1 us → ((n : ℕ) (t : Transaction) → get n us ≡ Some t → get n ts ≡ Some t) → AreApart v last ts → AreApart v last us
fewer v last ts us up part h = record {
  ascend = up;
  there = λ n t e. h.there n t (part n t e);
  numbered = λ n t e. h.numbered n t (part n t e);
  alone = λ n m t u e f same. h.alone n m t u (part n t e) (part m u f) same;
}

there_by : (v : Table Stored) (x t : Transaction) (o : Option Transaction) (k n : ℕ) → is_some (get x.volume v) ≡ true → (o ≡ Some t → is_some (get t.volume v) ≡ true) → ((k ≡ n) × (x ≡ t)) ⊎ (o ≡ Some t) → is_some (get t.volume v) ≡ true
there_by v x t o k n h later (inl z) = subst (λ (y : Transaction). is_some (get y.volume v) ≡ true) z.1 h
there_by v x t o k n h later (inr z) = later z

numbered_by : (x t : Transaction) (o : Option Transaction) (k n last : ℕ) → k ≤ last → (o ≡ Some t → n ≤ last) → ((k ≡ n) × (x ≡ t)) ⊎ (o ≡ Some t) → n ≤ last
numbered_by x t o k n last h later (inl z) = subst (λ (j : ℕ). j ≤ last) z.0 h
numbered_by x t o k n last h later (inr z) = later z

alone_by : (x t u : Transaction) (o p : Option Transaction) (k n m : ℕ) → ((j : ℕ) (y : Transaction) → (o ≡ Some y) → (j ≡ n) → y.volume ≡ x.volume → k ≡ j) → ((j : ℕ) (y : Transaction) → (p ≡ Some y) → (j ≡ m) → y.volume ≡ x.volume → k ≡ j) → (o ≡ Some t → p ≡ Some u → t.volume ≡ u.volume → n ≡ m) →
    t.volume ≡ u.volume → ((k ≡ n) × (x ≡ t)) ⊎ (o ≡ Some t) → ((k ≡ m) × (x ≡ u)) ⊎ (p ≡ Some u) → n ≡ m
alone_by x t u o p k n m one two both same (inl y) (inl z) = sym y.0 ∙ z.0
alone_by x t u o p k n m one two both same (inl y) (inr z) = sym y.0 ∙ two m u z refl (sym same ∙ ap (λ (a : Transaction). a.volume) (sym y.1))
alone_by x t u o p k n m one two both same (inr y) (inl z) = sym (one n t y refl (same ∙ ap (λ (a : Transaction). a.volume) (sym z.1))) ∙ z.0
alone_by x t u o p k n m one two both same (inr y) (inr z) = both y z same

-- one is put
one_put : (v : Table Stored) (last most k : ℕ) (x : Transaction) (ts : Table Transaction) → 1 ≤ k → k ≤ most → last ≤ most → is_some (get x.volume v) ≡ true → ((j : ℕ) (y : Transaction) → get j ts ≡ Some y → y.volume ≡ x.volume → k ≡ j) → AreApart v last ts → AreApart v most (set k x ts)
one_put v last most k x ts low high more there mine h = record {
  ascend = ascends_set 1 k x ts low h.ascend;
  there = λ n t e. there_by v x t (get n ts) k n there (h.there n t) (set_found k n x t ts e);
  numbered = λ n t e. numbered_by x t (get n ts) k n most high (λ f. let z = h.numbered n t f in omega (arith, z, more)) (set_found k n x t ts e);
  alone = λ n m t u e f same. alone_by x t u (get n ts) (get m ts) k n m
      (λ j y g is. mine j y (ap (λ (i : ℕ). get i ts) is ∙ g)) (λ j y g is. mine j y (ap (λ (i : ℕ). get i ts) is ∙ g)) (h.alone n m t u) same (set_found k n x t ts e) (set_found k m x u ts f);
}

pub begun : (v : Table Stored) (last : ℕ) (x : Transaction) (ts : Table Transaction) → is_some (get x.volume v) ≡ true → ((j : ℕ) (y : Transaction) → get j ts ≡ Some y → y.volume ≡ x.volume → ⊥) → AreApart v last ts → AreApart v (last + 1) (set (last + 1) x ts)
begun v last x ts there free h = one_put v last (last + 1) (last + 1) x ts (omega (arith)) (omega (arith)) (omega (arith)) there (λ j y e same. absurd (free j y e same)) h

pub ended : (v : Table Stored) (last number : ℕ) (ts : Table Transaction) → AreApart v last ts → AreApart v last (unset number ts)
ended v last number ts h = fewer v last ts (unset number ts) (ascends_unset 1 number ts h.ascend) (λ n t e. (unset_found number n t ts e).1) h

low_number : (n : ℕ) (t : Transaction) (ts : Table Transaction) → AscendsFrom 1 ts → get n ts ≡ Some t → (b : Bool) → nat_lt n 1 ≡ b → 1 ≤ n
low_number n t ts up e true b = let z : get n ts ≡ None = get_below 1 n ts (let lt : n < 1 = grind (arith, nat_tests, b) in lt) up in absurd (none_some (get n ts) t z e)
  where
    none_some : (o : Option Transaction) (t : Transaction) → o ≡ None → o ≡ Some t → ⊥
    none_some o t e f = cc
low_number n t ts up e false b = grind (arith, nat_tests, b)

pub gave_apart : (v : Table Stored) (last number : ℕ) (bytes : List ℕ) (o : Option Transaction) (ts : Table Transaction) → get number ts ≡ o → AreApart v last ts → AreApart v last (gave number bytes o ts)
gave_apart v last number bytes None ts is h = h
gave_apart v last number bytes (Some t) ts is h =
    one_put v last last number (record t { given = bytes }) ts (low_number number t ts h.ascend is (nat_lt number 1) refl) (h.numbered number t is) (omega (arith)) (h.there number t is)
    (λ j y e same. h.alone number j t y is e (sym same)) h

-- of other families
keeps_ascent : (b : Bool) (m : ℕ) (p : ℕ × Transaction) (ps qs : Table Transaction) → AscendsFrom m (p ∷ ps) → AscendsFrom (p.0 + 1) qs → AscendsFrom m (cond b (p ∷ qs) qs)
keeps_ascent true m p ps qs up later = (up.0, later)
keeps_ascent false m p ps qs up later = ascends_lower m (p.0 + 1) qs (omega (arith, up.0)) later

rest_ascends : (family m : ℕ) (ts : Table Transaction) → AscendsFrom m ts → AscendsFrom m (without_family family ts)
rest_ascends family m [] up = tt
rest_ascends family m (p ∷ ps) up = keeps_ascent (is_of_other family p) m p ps (without_family family ps) up (rest_ascends family (p.0 + 1) ps up.1)

head_found : (c : Bool) (p : Transaction) (o q : Option Transaction) (t : Transaction) → (o ≡ Some t → q ≡ Some t) → cond c (Some p) o ≡ Some t → cond c (Some p) q ≡ Some t
head_found true p o q t later e = e
head_found false p o q t later e = later e

pub behind_found : (c : Bool) (n : ℕ) (p : ℕ × Transaction) (ps : Table Transaction) (t : Transaction) → nat_eq p.0 n ≡ c → AscendsFrom (p.0 + 1) ps → get n ps ≡ Some t → cond c (Some p.1) (get n ps) ≡ Some t
behind_found false n p ps t is up e = e
behind_found true n p ps t is up e = let z : get n ps ≡ None = get_below (p.0 + 1) n ps (let lt : n < p.0 + 1 = grind (arith, nat_tests, is) in lt) up in absurd cc

rest_found_by : (b : Bool) (family n : ℕ) (p : ℕ × Transaction) (ps qs : Table Transaction) (t : Transaction) → AscendsFrom (p.0 + 1) ps → (get n qs ≡ Some t → get n ps ≡ Some t) → get n (cond b (p ∷ qs) qs) ≡ Some t → get n (p ∷ ps) ≡ Some t
rest_found_by true family n p ps qs t up later e = head_found (nat_eq p.0 n) p.1 (get n qs) (get n ps) t later e
rest_found_by false family n p ps qs t up later e = behind_found (nat_eq p.0 n) n p ps t refl up (later e)

rest_found : (family m n : ℕ) (ts : Table Transaction) (t : Transaction) → AscendsFrom m ts → get n (without_family family ts) ≡ Some t → get n ts ≡ Some t
rest_found family m n [] t up e = e
rest_found family m n (p ∷ ps) t up e = rest_found_by (is_of_other family p) family n p ps (without_family family ps) t up.1 (rest_found family (p.0 + 1) n ps t up.1) e

pub rest_apart : (v : Table Stored) (last family : ℕ) (ts : Table Transaction) → AreApart v last ts → AreApart v last (without_family family ts)
rest_apart v last family ts h = fewer v last ts (without_family family ts) (rest_ascends family 1 ts h.ascend) (λ n t e. rest_found family 1 n ts t h.ascend e) h

pub no_both : (b : Bool) → b ≡ true → b ≡ false → ⊥
no_both b y z = cc

-- one is deleted with its volume
deleted : (v : Table Stored) (last number : ℕ) (t : Transaction) (ts : Table Transaction) → get number ts ≡ Some t → AreApart v last ts → AreApart (unset t.volume v) last (unset number ts)
deleted v last number t ts is h =
    let e = ended v last number ts h in
    record {
      ascend = e.ascend;
      there = λ n u f. let z = unset_found number n u ts f in taken_stays u.volume t.volume v (other (nat_eq t.volume u.volume) n u refl z.0 z.1) (h.there n u z.1);
      numbered = e.numbered;
      alone = e.alone;
    }
  where
    other : (b : Bool) (n : ℕ) (u : Transaction) → nat_eq t.volume u.volume ≡ b → nat_eq number n ≡ false → get n ts ≡ Some u → b ≡ false
    other false n u same unlike f = refl
    other true n u same unlike f = let z : number ≡ n = h.alone number n t u is f (eqb-true t.volume u.volume same) in absurd (no_both (nat_eq number n) (eq-eqb number n z) unlike)

-- ---- verdicts

unfoldable pub after_body : Option RecordBody → Durable → Durable
after_body None d = d
after_body (Some body) d = done_by body d

unfoldable pub None_begun : After → Type 0
None_begun (begins id f flags s) = ⊥
None_begun stay = ⊤
None_begun (ends number) = ⊤
None_begun (gives number bytes) = ⊤

unfoldable pub Apart : Durable → Table Transaction → ℕ → Verdict → Type 0
Apart d ts last (refused code after) = None_begun after
Apart d ts last (accepted p) = AreApart (after_body p.body d).volumes (last_after last p.after) (transactions_after last p.after ts)
Apart d ts last (sends x) = ⊤

pub none_apart : (v : Table Stored) (last : ℕ) (after : After) (ts : Table Transaction) → None_begun after → AreApart v last ts → AreApart v (last_after last after) (transactions_after last after ts)
unfolding None_begun
none_apart v last stay ts n h = h
none_apart v last (begins id f flags s) ts n h = absurd n
none_apart v last (ends number) ts n h = ended v last number ts h
none_apart v last (gives number bytes) ts n h = gave_apart v last number bytes (get number ts) ts refl h

pub full_none : (after : After) → None_begun (when_full after)
unfolding None_begun
full_none stay = tt
full_none (begins id f flags s) = tt
full_none (ends number) = tt
full_none (gives number bytes) = tt

-- a record that deletes none leaves what is there
stored_wider : (id : ℕ) (f : Stored → Stored) (o : Option Stored) (d : Durable) (k : ℕ) → is_some (get k d.volumes) ≡ true → is_some (get k (on_stored id f o d).volumes) ≡ true
stored_wider id f None d k h = h
stored_wider id f (Some s) d k h = put_stays k id (f s) d.volumes h

clone_put_wider : (source id : ℕ) (name : List ℕ) (kind release : ℕ) (s : Stored) (o : Option Stored) (d : Durable) (k : ℕ) → is_some (get k d.volumes) ≡ true → is_some (get k (clone_put source id name kind release s o d).volumes) ≡ true
clone_put_wider source id name kind release s None d k h = put_stays k id _ (set source _ d.volumes) (put_stays k source _ d.volumes h)
clone_put_wider source id name kind release s (Some old) d k h = put_stays k id _ (set source _ d.volumes) (put_stays k source _ d.volumes h)

clone_wider : (source id : ℕ) (name : List ℕ) (kind release : ℕ) (o : Option Stored) (d : Durable) (k : ℕ) → is_some (get k d.volumes) ≡ true → is_some (get k (clone_made source id name kind release o d).volumes) ≡ true
clone_wider source id name kind release None d k h = h
clone_wider source id name kind release (Some s) d k h = clone_put_wider source id name kind release s (get id d.volumes) d k h

unless_apart : (d : Durable) (ts : Table Transaction) (last : ℕ) (b : Bool) (code : ℕ) (v : Verdict) → (b ≡ false → Apart d ts last v) → Apart d ts last (refused_where b code v)
unfolding Apart None_begun
unless_apart d ts last true code v h = tt
unless_apart d ts last false code v h = h refl

long_apart : (d : Durable) (ts : Table Transaction) (last : ℕ) (b : Bool) (number : ℕ) (v : Verdict) → Apart d ts last v → Apart d ts last (cond b (refused no_room_left (gives number [])) v)
unfolding Apart None_begun
long_apart d ts last true number v h = tt
long_apart d ts last false number v h = h

volume_apart : (d : Durable) (ts : Table Transaction) (last : ℕ) (t : Transaction) (g : Transaction → Stored → Verdict) (o : Option Stored) → ((s : Stored) → Apart d ts last (g t s)) → Apart d ts last (in_its_volume t g o)
unfolding Apart None_begun
volume_apart d ts last t g None h = tt
volume_apart d ts last t g (Some s) h = h s

in_apart_by : (d : Durable) (ts : Table Transaction) (last : ℕ) (o : Option Transaction) (g : Transaction → Stored → Verdict) → ((t : Transaction) (s : Stored) → o ≡ Some t → Apart d ts last (g t s)) → Apart d ts last (in_transaction d o g)
unfolding Apart None_begun
in_apart_by d ts last None g h = tt
in_apart_by d ts last (Some t) g h = volume_apart d ts last t g (get t.volume d.volumes) (λ s. h t s refl)

of_family_by : (b : Bool) (x t : Transaction) → cond b (Some x) None ≡ Some t → Some x ≡ Some t
of_family_by true x t e = e
of_family_by false x t e = absurd cc

of_family_is : (family : ℕ) (o : Option Transaction) (t : Transaction) → of_family family o ≡ Some t → o ≡ Some t
of_family_is family None t e = absurd cc
of_family_is family (Some x) t e = of_family_by (nat_eq x.family family) x t e

in_apart : (d : Durable) (ts : Table Transaction) (last family number : ℕ) (g : Transaction → Stored → Verdict) → ((t : Transaction) (s : Stored) → get number ts ≡ Some t → Apart d ts last (g t s)) → Apart d ts last (in_transaction d (found family number ts) g)
in_apart d ts last family number g h = in_apart_by d ts last (found family number ts) g (λ t s e. h t s (of_family_is family (get number ts) t e))

whole_apart : (d : Durable) (ts : Table Transaction) (last number id : ℕ) (bytes : List ℕ) (r : Result Stored ℕ) → AreApart d.volumes last ts → Apart d ts last (whole_given number id bytes r)
unfolding Apart None_begun after_body
whole_apart d ts last number id bytes (Ok s) h =
    gave_apart (done_by (bodies.Restore id bytes) d).volumes last number [] (get number ts) ts refl (wider d.volumes (done_by (bodies.Restore id bytes) d).volumes last ts (λ k z. stored_wider id (λ x. or_as_was x (restored_from id x bytes)) (get id d.volumes) d k z) h)
whole_apart d ts last number id bytes (Err e) h = tt

part_apart : (d : Durable) (ts : Table Transaction) (last number : ℕ) (bytes : List ℕ) (o : Option ℕ) → AreApart d.volumes last ts → Apart d ts last (part_given number bytes o)
unfolding Apart None_begun after_body
part_apart d ts last number bytes None h = gave_apart d.volumes last number bytes (get number ts) ts refl h
part_apart d ts last number bytes (Some e) h = tt

piece_apart : (d : Durable) (ts : Table Transaction) (last : ℕ) (b : Bool) (number id : ℕ) (bytes : List ℕ) (r : Result Stored ℕ) → AreApart d.volumes last ts → Apart d ts last (cond b (part_given number bytes (fed bytes)) (whole_given number id bytes r))
piece_apart d ts last true number id bytes r h = part_apart d ts last number bytes (fed bytes) h
piece_apart d ts last false number id bytes r h = whole_apart d ts last number id bytes r h

-- none but this one is on the volume
is_held_by : (c : Bool) (number id n : ℕ) (p : ℕ × Transaction) (ps : Table Transaction) (t : Transaction) → nat_eq p.0 n ≡ c → (holds_other number id p || is_held_by_other number id ps) ≡ false → (is_held_by_other number id ps ≡ false → get n ps ≡ Some t → t.volume ≡ id → ⊥) → nat_eq n number ≡ false → cond c (Some p.1) (get n ps) ≡ Some t → t.volume ≡ id → ⊥
is_held_by true number id n p ps t is none later other e same =
    let one : p.0 ≡ n = eqb-true p.0 n is in
    let two : p.1 ≡ t = some_is p.1 t e in
    let on : nat_eq p.1.volume id ≡ true = eq-eqb p.1.volume id (ap (λ (x : Transaction). x.volume) two ∙ same) in
    let differs : nat_eq p.0 number ≡ false = ap (λ (i : ℕ). nat_eq i number) one ∙ other in
    no_both (holds_other number id p || is_held_by_other number id ps) (rw (on, differs) refl) none
is_held_by false number id n p ps t is none later other e same = later (rest_none (holds_other number id p) (is_held_by_other number id ps) none) e same
  where
    rest_none : (a b : Bool) → (a || b) ≡ false → b ≡ false
    rest_none true b e = absurd cc
    rest_none false b e = e

not_held : (number id n : ℕ) (ts : Table Transaction) (t : Transaction) → is_held_by_other number id ts ≡ false → nat_eq n number ≡ false → get n ts ≡ Some t → t.volume ≡ id → ⊥
not_held number id n [] t none other e same = absurd cc
not_held number id n (p ∷ ps) t none other e same = is_held_by (nat_eq p.0 n) number id n p ps t refl none (λ z f g. not_held number id n ps t z other f g) other e same

positive : (n : ℕ) → 1 ≤ n → nat_eq n 0 ≡ false
positive n le = grind (arith, nat_tests, le)

begins_apart : (d : Durable) (ts : Table Transaction) (last stamp family id flags : ℕ) (o : Option Stored) → (is_some o ≡ true → is_some (get id d.volumes) ≡ true) → AreApart d.volumes last ts → Apart d ts last (begins_on ts last stamp family id flags o)
unfolding Apart None_begun after_body
begins_apart d ts last stamp family id flags None there h = tt
begins_apart d ts last stamp family id flags (Some s) there h = unless_apart d ts last (is_held_by_other 0 id ts) volume_held_code _
    (λ none. begun d.volumes last _ ts (there refl) (λ j y e same. not_held 0 id j ts y none (positive j (low_number j y ts h.ascend e (nat_lt j 1) refl)) e same) h)

family_there : (family : ℕ) (o : Option Stored) → is_some (volume_of_family family o) ≡ true → is_some o ≡ true
family_there family None e = e
family_there family (Some s) e = refl

anew_apart : (d : Durable) (ts : Table Transaction) (last number id : ℕ) (t : Transaction) (s : Stored) (o : Option Stored) → AreApart d.volumes last ts → Apart d ts last (clones_anew number ts id t s o)
unfolding Apart None_begun after_body
anew_apart d ts last number id t s None h = tt
anew_apart d ts last number id t s (Some old) h = unless_apart d ts last (is_held_by_other number id ts) volume_held_code _ (λ e. unless_apart d ts last (is_last_count s.volume.release) no_room_left _
    (λ f. wider d.volumes (clone_made t.volume id old.volume.name old.volume.kind (s.volume.release + 1) (get t.volume d.volumes) d).volumes last ts (clone_wider t.volume id old.volume.name old.volume.kind (s.volume.release + 1) (get t.volume d.volumes) d) h))

dumps_apart : (d : Durable) (ts : Table Transaction) (last offset : ℕ) (bytes : List ℕ) → AreApart d.volumes last ts → Apart d ts last (dumps_piece offset bytes)
unfolding Apart None_begun after_body
dumps_apart d ts last offset bytes h = unless_apart d ts last (nat_lt (length bytes) offset) bad_dump _ (λ f. h)

pub verdict_apart : (d : Durable) (ts : Table Transaction) (last stamp : ℕ) (call : VolCall) → AreApart d.volumes last ts → Apart d ts last (verdict d ts last stamp call)
unfolding Apart None_begun after_body
verdict_apart d ts last stamp (calls.CreateVolume family id name kind flags quota) h =
    unless_apart d ts last (has_volume id d) is_there_already _ (λ e. unless_apart d ts last (not (has_volume_room d)) no_room_left _
    (λ f. begun _ last _ ts (put_there id _ d.volumes) (λ j y g same. no_both (is_some (get id d.volumes)) (ap (λ (k : ℕ). is_some (get k d.volumes)) (sym same) ∙ h.there j y g) e) (wider d.volumes _ last ts (λ k z. put_stays k id _ d.volumes z) h)))
verdict_apart d ts last stamp (calls.DeleteVolume family number) h = in_apart d ts last family number _ (λ t s e. deleted d.volumes last number t ts e h)
verdict_apart d ts last stamp (calls.Restore family number offset final piece) h =
    in_apart d ts last family number _ (λ t s e. unless_apart d ts last (not (nat_eq offset (length t.given))) bad_dump _ (λ f. long_apart d ts last (nat_lt most_dump (length (t.given ++ piece))) number _ (piece_apart d ts last (nat_eq final 0) number t.volume (t.given ++ piece) (restored_from t.volume s (t.given ++ piece)) h)))
verdict_apart d ts last stamp (calls.Forward family number from server target) h = in_apart d ts last family number _ (λ t s e. tt)
verdict_apart d ts last stamp (calls.EndTrans family number) h = in_apart d ts last family number _ (λ t s e. ended d.volumes last number ts h)
verdict_apart d ts last stamp (calls.Clone family number id name kind) h =
    unless_apart d ts last (has_volume id d) is_there_already _ (λ f. in_apart d ts last family number _ (λ t s e. unless_apart d ts last (not (has_volume_room d) || is_last_count s.volume.release) no_room_left _
    (λ g. wider d.volumes (clone_made t.volume id name kind (s.volume.release + 1) (get t.volume d.volumes) d).volumes last ts (clone_wider t.volume id name kind (s.volume.release + 1) (get t.volume d.volumes) d) h)))
verdict_apart d ts last stamp (calls.SetFlags family number flags) h = in_apart d ts last family number _ (λ t s e. wider d.volumes (on_stored t.volume (flagged flags) (get t.volume d.volumes) d).volumes last ts (stored_wider t.volume (flagged flags) (get t.volume d.volumes) d) h)
verdict_apart d ts last stamp (calls.GetFlags family number) h = in_apart d ts last family number _ (λ t s e. h)
verdict_apart d ts last stamp (calls.TransCreate family id flags) h = begins_apart d ts last stamp family id flags (volume_of_family family (get id d.volumes)) (family_there family (get id d.volumes)) h
verdict_apart d ts last stamp (calls.Dump family number from offset) h = in_apart d ts last family number _ (λ t s e. dumps_apart d ts last offset _ h)
verdict_apart d ts last stamp (calls.SetForwarding family number server) h = in_apart d ts last family number _ (λ t s e. h)
verdict_apart d ts last stamp (calls.GetStatus family number) h = in_apart d ts last family number _ (λ t s e. h)
verdict_apart d ts last stamp (calls.ListVols family) h = h
verdict_apart d ts last stamp (calls.ReClone family number id) h = in_apart d ts last family number _ (λ t s e. anew_apart d ts last number id t s (volume_of_family family (get id d.volumes)) h)

-- ---- decisions

written_by : (b : Bool) (d : Durable) (head : Head) (x : Deed) (full : VolDecision) → AreApart (done_by x.body d).volumes x.last x.transactions → KeepsApart d full → KeepsApart d (cond b (saves head x) full)
written_by true d head x full h k = h
written_by false d head x full h k = k

full_apart : (d : Durable) (boot : ℕ) (head : Head) (ts : Table Transaction) (last : ℕ) (v : Verdict) → Apart d ts last v → AreApart d.volumes last ts → KeepsApart d (not_written boot head ts last v)
unfolding Apart
full_apart d boot head ts last (refused code after) own h = none_apart d.volumes last after ts own h
full_apart d boot head ts last (accepted p) own h = none_apart d.volumes last (when_full p.after) ts (full_none p.after) h
full_apart d boot head ts last (sends x) own h = h

same_apart_body : (d : Durable) (head : Head) (ts : Table Transaction) (last : ℕ) (p : Plan) (o : Option RecordBody) → AreApart (after_body o d).volumes (last_after last p.after) (transactions_after last p.after ts) → AreApart d.volumes last ts → KeepsApart d (same_written d head ts last p o)
unfolding after_body
same_apart_body d head ts last p None own h = own
same_apart_body d head ts last p (Some body) own h =
    let x : Deed = record {
      reply = vol_reply d.boot head p.reply;
      body = body;
      family = 0;
      stamp = 0;
      withdraws = p.withdraws;
      transactions = transactions_after last p.after ts;
      last = last_after last p.after;
    } in
    written_by (has_room d (deed_record head x)) d head x (not_written d.boot head ts last (accepted p)) own (none_apart d.volumes last (when_full p.after) ts (full_none p.after) h)

same_apart : (d : Durable) (head : Head) (ts : Table Transaction) (last : ℕ) (v : Verdict) → Apart d ts last v → AreApart d.volumes last ts → KeepsApart d (same_by d head ts last v)
unfolding Apart
same_apart d head ts last (refused code after) own h = none_apart d.volumes last after ts own h
same_apart d head ts last (accepted p) own h = same_apart_body d head ts last p p.body own h
same_apart d head ts last (sends x) own h = tt

pub or_stamp_is : (o : Option RecordBody) (d : Durable) → after_body o d ≡ done_by (or_stamp o) d
unfolding after_body
or_stamp_is None d = refl
or_stamp_is (Some body) d = refl

raised_apart : (d : Durable) (head : Head) (family : ℕ) (live : Table Transaction) (last : ℕ) (v : Verdict) (full : VolDecision) → Apart d live last v → AreApart d.volumes last live → KeepsApart d full → KeepsApart d (raised_by d head family live last v full)
unfolding Apart
raised_apart d head family live last (refused code after) full own h k =
    let x : Deed = record {
      reply = vol_refusal d.boot head code;
      body = bodies.Stamp;
      family = family;
      stamp = head.stamp;
      withdraws = None;
      transactions = transactions_after last after live;
      last = last_after last after;
    } in
    written_by (has_room d (deed_record head x)) d head x full (none_apart d.volumes last after live own h) k
raised_apart d head family live last (accepted p) full own h k =
    let x : Deed = record {
      reply = vol_reply d.boot head p.reply;
      body = or_stamp p.body;
      family = family;
      stamp = head.stamp;
      withdraws = p.withdraws;
      transactions = transactions_after last p.after live;
      last = last_after last p.after;
    } in
    written_by (has_room d (deed_record head x)) d head x full (subst (λ (e : Durable). AreApart e.volumes (last_after last p.after) (transactions_after last p.after live)) (or_stamp_is p.body d) own) k
raised_apart d head family live last (sends x) full own h k = tt

one_of_three : (d : Durable) (a b : Bool) (x y z : VolDecision) → KeepsApart d x → KeepsApart d y → KeepsApart d z → KeepsApart d (cond a x (cond b y z))
one_of_three d true b x y z h k l = h
one_of_three d false true x y z h k l = k
one_of_three d false false x y z h k l = l

judged_apart : (d : Durable) (head : Head) (family stored : ℕ) (ts : Table Transaction) (last : ℕ) (call : VolCall) → AreApart d.volumes last ts → KeepsApart d (judged_by d head family stored ts last call)
judged_apart d head family stored ts last call h =
    let live = rest_apart d.volumes last family ts h in
    one_of_three d (nat_lt head.stamp stored) (nat_lt stored head.stamp) _ _ _ h
    (raised_apart d head family (without_family family ts) last (verdict d (without_family family ts) last head.stamp call) (not_written d.boot head ts last (verdict d ts last head.stamp call)) (verdict_apart d (without_family family ts) last head.stamp call live) live (full_apart d d.boot head ts last (verdict d ts last head.stamp call) (verdict_apart d ts last head.stamp call h) h))
    (same_apart d head ts last (verdict d ts last head.stamp call) (verdict_apart d ts last head.stamp call h) h)

pub transactions_stay_apart : TransactionsStayApart
transactions_stay_apart me d v m h = each_decision (KeepsApart d) me d v m (record {
  dropped = tt;
  told = λ head. tt;
  repeated = λ reply. tt;
  refused = λ head code. h;
  judged = λ head call. judged_apart d head _ _ v.transactions v.last_transaction call h;
})
