-- A change leaves a sound volume sound where the vnodes that it touches pass the test.
use Rattle.std.proofs.Common.{zero, ◌≡◌, ℕ, suc, ◌+◌, ◌%◌, ◌<◌, ◌≤◌, Bool, true, false, cond, eqb, not, List, [], ◌∷◌, ◌++◌, Option, Some, None, nat_eq, nat_lt, if◌then◌else◌, refl, sym, ap, subst, ◌∙◌, arith, eq-eqb, eqb-true, lt-ltb, ltb-true, le-ltb}
use Rattle.std.specs.Prelude.{◌&&◌, ◌||◌}
use Rattle.std.specs.List.{list_all}
use Rattle.std.proofs.lemmas.Bool.Decides.{nat_tests}
use Rattle.afs_num.specs.declared.directories.Name.{Name}
use Rattle.spec_ideal.specs.Tables.{Table, get, AscendsFrom}
use Rattle.spec_ideal.specs.Operations.{is_kind, is_below, leads_up}
use Rattle.spec_ideal.specs.Soundness.{names_it, names_of}
use Rattle.spec_ideal.specs.VnodeMaps.{most_vnodes}
use Rattle.spec_ideal.specs.Volumes.{VnodeKind, a_file, a_directory, a_link, Vnode, Volume}
use Rattle.spec_ideal.proofs.Basics.{both, both_true, some_of, yes_no}
use Rattle.spec_ideal.proofs.Counts.{count_more, one_if}
use Rattle.spec_ideal.proofs.Directories.{same_is}
use Rattle.spec_ideal.proofs.Ranks.{Ranked, at, steps, reaching_ranked, HasParents, ranked_reaching}
use Rattle.spec_ideal.proofs.Tables.{get_below}
use Rattle.spec_records.specs.Sound.{ascends_from, gives_held, gives_one, has_by_kind, has_names, is_held_by, is_named_in, is_root, is_sound, is_sound_vnode, kind_is_right, same_test}
use Rattle.afs_volume.specs.Taking.{is_among}
use Rattle.afs_patch.specs.Patching.{gives_touched, is_right, is_unmoved, keeps_place, others_named, passes, passes_by, reaches, same_others, same_parent, KeepsNames}

-- ---- names of others are counted as before

abbrev count_in : ℕ → ℕ → Option ℕ → List ℕ → ℕ
count_in m u o [] = 0
count_in m u None (a ∷ rest) = count_in m u (Some a) rest
count_in m u (Some a) (b ∷ rest) = one_if (nat_eq a m && nat_eq b u) + count_in m u None rest

not_named : (m u : ℕ) (touched : List ℕ) (n : Name) (b : Bool) → nat_eq n.vnode m ≡ b → is_among n.vnode touched ≡ true → is_among m touched ≡ false → (b && nat_eq n.unique u) ≡ false
not_named m u touched n true is met unmet = absurd (yes_no (is_among m touched) (ap (λ (k : ℕ). is_among k touched) (sym (eqb-true n.vnode m is)) ∙ met) unmet)
not_named m u touched n false is met unmet = refl

other_by : (b : Bool) (m u : ℕ) (touched : List ℕ) (n : Name) (ns : List Name) → is_among n.vnode touched ≡ b → is_among m touched ≡ false → names_of m u ns ≡ count_in m u None (others_named touched ns)
    → one_if (names_it m u n) + names_of m u ns ≡ count_in m u None ((if b then [] else n.vnode ∷ n.unique ∷ []) ++ others_named touched ns)
other_by true m u touched n ns is unmet more =
    let none : one_if (names_it m u n) ≡ 0 = ap one_if (not_named m u touched n (nat_eq n.vnode m) refl is unmet) in
    let less : one_if (names_it m u n) + names_of m u ns ≡ names_of m u ns = omega (arith, none) in
    less ∙ more
other_by false m u touched n ns is unmet more = ap (λ (k : ℕ). one_if (names_it m u n) + k) more

counted_others : (m u : ℕ) (touched : List ℕ) (ns : List Name) → is_among m touched ≡ false → names_of m u ns ≡ count_in m u None (others_named touched ns)
counted_others m u touched [] unmet = refl
counted_others m u touched (n ∷ ns) unmet = count_more (names_it m u) n ns ∙ other_by (is_among n.vnode touched) m u touched n ns refl unmet (counted_others m u touched ns unmet)

same_names : (m u : ℕ) (touched : List ℕ) (xs ys : List Name) → same_others touched xs ys ≡ true → is_among m touched ≡ false → names_of m u ys ≡ names_of m u xs
same_names m u touched xs ys same unmet =
    counted_others m u touched ys unmet ∙ (ap (count_in m u None) (sym (same_is (others_named touched xs) (others_named touched ys) same)) ∙ sym (counted_others m u touched xs unmet))

-- ---- a vnode of a sound volume

record IsRight (v : Volume) (n : ℕ) (x : Vnode) : Type 0 where
  kind : kind_is_right n x.kind ≡ true
  unique : nat_lt x.unique v.next ≡ true
  body : has_by_kind x.kind x ≡ true
  given : list_all (gives_one v n x.unique) x.names ≡ true
  named : (nat_eq n 1 || is_named_in (get x.parent v.vnodes) n x) ≡ true

first_or : (a b c : Bool) → (a || (b && c)) ≡ true → (a || b) ≡ true
first_or true b c h = refl
first_or false b c h = (both b c h).0

second_or : (a b c : Bool) → (a || (b && c)) ≡ true → a ≡ false → c ≡ true
second_or true b c h e = absurd cc
second_or false b c h e = (both b c h).1

right_so : (w : Volume) (n : ℕ) (x : Vnode) → is_right w n x ≡ true → IsRight w n x
right_so w n x h =
    let a = both (kind_is_right n x.kind) _ h in
    let b = both (nat_lt x.unique w.next) _ a.1 in
    let c = both (has_by_kind x.kind x) _ b.1 in
    let d = both (list_all (gives_one w n x.unique) x.names) _ c.1 in
    record { kind = a.0; unique = b.0; body = c.0; given = d.0; named = d.1 }

vnode_so : (v : Volume) (n : ℕ) (x : Vnode) → is_sound_vnode v n x ≡ true → IsRight v n x × (nat_eq n 1 ≡ false → is_below n 1 v ≡ true)
vnode_so v n x h =
    let a = both (kind_is_right n x.kind) _ h in
    let b = both (nat_lt x.unique v.next) _ a.1 in
    let c = both (has_by_kind x.kind x) _ b.1 in
    let d = both (list_all (gives_one v n x.unique) x.names) _ c.1 in (
      record {
        kind = a.0;
        unique = b.0;
        body = c.0;
        given = d.0;
        named = first_or (nat_eq n 1) (is_named_in (get x.parent v.vnodes) n x) (is_below n 1 v) d.1;
      },
      second_or (nat_eq n 1) (is_named_in (get x.parent v.vnodes) n x) (is_below n 1 v) d.1,
    )

placed_by : (a b c : Bool) → (a || b) ≡ true → (a ≡ false → c ≡ true) → (a || (b && c)) ≡ true
placed_by true b c h f = refl
placed_by false b c h f = both_true b c h (f refl)

vnode_is : (w : Volume) (n : ℕ) (x : Vnode) → IsRight w n x → (nat_eq n 1 ≡ false → is_below n 1 w ≡ true) → is_sound_vnode w n x ≡ true
vnode_is w n x r below =
    both_true (kind_is_right n x.kind) _ r.kind
    (both_true (nat_lt x.unique w.next) _ r.unique
    (both_true (has_by_kind x.kind x) _ r.body
    (both_true (list_all (gives_one w n x.unique) x.names) _ r.given
    (placed_by (nat_eq n 1) (is_named_in (get x.parent w.vnodes) n x) (is_below n 1 w) r.named below))))

-- ---- all vnodes of a table

missing : {A : Type 0} (x : A) → ◌≡◌ {A = Option A} None (Some x) → ⊥
missing {A} x e = cc

ascends : {A : Type 0} (n : ℕ) (t : Table A) → AscendsFrom n t → ascends_from n t ≡ true
ascends {A} n [] up = refl
ascends {A} n (p ∷ ps) up = rw (le-ltb p.0 n up.0) (ascends (p.0 + 1) ps up.1)

later : (n : ℕ) (x : Vnode) (p : ℕ × Vnode) (ps : Table Vnode) (b : Bool) → nat_eq p.0 n ≡ b → AscendsFrom (p.0 + 1) ps → get n ps ≡ Some x → get n (p ∷ ps) ≡ Some x
later n x p ps true is up e = absurd (missing x (sym (get_below (p.0 + 1) n ps (grind (arith, nat_tests, is)) up) ∙ e))
later n x p ps false is up e = rw is e

all_pass : (P : ℕ → Vnode → Bool) (m : ℕ) (t : Table Vnode) → AscendsFrom m t → ((n : ℕ) (x : Vnode) → get n t ≡ Some x → P n x ≡ true) → list_all (λ (p : ℕ × Vnode). P p.0 p.1) t ≡ true
all_pass P m [] up h = refl
all_pass P m (p ∷ ps) up h =
    both_true (P p.0 p.1) (list_all (λ (q : ℕ × Vnode). P q.0 q.1) ps) (h p.0 p.1 (grind (arith, nat_tests)))
    (all_pass P (p.0 + 1) ps up.1 (λ n x e. h n x (later n x p ps (nat_eq p.0 n) refl up.1 e)))

passes_here : (P : ℕ → Vnode → Bool) (p : ℕ × Vnode) (n : ℕ) (x : Vnode) (b : Bool) (rest : Option Vnode) → nat_eq p.0 n ≡ b → P p.0 p.1 ≡ true → (rest ≡ Some x → P n x ≡ true) → (if b then Some p.1 else rest) ≡ Some x → P n x ≡ true
passes_here P p n x true rest is front h e = ap (λ (m : ℕ). P m x) (sym (eqb-true p.0 n is)) ∙ (ap (λ (y : Vnode). P p.0 y) (sym (some_of p.1 x e)) ∙ front)
passes_here P p n x false rest is front h e = h e

passes_at : (P : ℕ → Vnode → Bool) (t : Table Vnode) (n : ℕ) (x : Vnode) → list_all (λ (p : ℕ × Vnode). P p.0 p.1) t ≡ true → get n t ≡ Some x → P n x ≡ true
passes_at P [] n x h e = absurd (missing x e)
passes_at P (p ∷ ps) n x h e =
    let two = both (P p.0 p.1) (list_all (λ (q : ℕ × Vnode). P q.0 q.1) ps) h in
    passes_here P p n x (nat_eq p.0 n) (get n ps) refl two.0 (passes_at P ps n x two.1) e

-- a vnode that has the same names in the same directory as before
same_named : (o : Option Vnode) (n : ℕ) (x y : Vnode) → KeepsNames x y → is_named_in o n x ≡ true → is_named_in o n y ≡ true
same_named None n x y keeps h = absurd cc
same_named (Some d) n x y keeps h =
    let first = both (is_kind d.kind a_directory) (nat_eq d.unique x.parent_unique && has_names x.kind x.links (names_of n x.unique d.names)) h in
    let second = both (nat_eq d.unique x.parent_unique) (has_names x.kind x.links (names_of n x.unique d.names)) first.1 in
    both_true (is_kind d.kind a_directory) _ first.0
    (both_true (nat_eq d.unique y.parent_unique) _ (ap (λ (u : ℕ). nat_eq d.unique u) (sym keeps.parent_unique) ∙ second.0)
    (keeps.counted (names_of n y.unique d.names) ∙ (ap (λ (u : ℕ). has_names x.kind x.links (names_of n u d.names)) (sym keeps.unique) ∙ second.1)))

other_or : (a b : Bool) → a ≡ false → (a || b) ≡ true → b ≡ true
other_or true b e h = absurd cc
other_or false b e h = h

pub named_as_before : (n : ℕ) (x y : Vnode) (v : Volume) → is_sound v ≡ true → get n v.vnodes ≡ Some x → nat_eq n 1 ≡ false → KeepsNames x y → is_named_in (get y.parent v.vnodes) n y ≡ true
unfolding is_sound
named_as_before n x y v sound there below keeps =
    let first = both (is_root (get 1 v.vnodes)) (ascends_from 1 v.vnodes && list_all (λ (p : ℕ × Vnode). is_sound_vnode v p.0 p.1) v.vnodes) sound in
    let second = both (ascends_from 1 v.vnodes) (list_all (λ (p : ℕ × Vnode). is_sound_vnode v p.0 p.1) v.vnodes) first.1 in
    let right = (vnode_so v n x (passes_at (is_sound_vnode v) v.vnodes n x second.1 there)).0 in
    let named : is_named_in (get x.parent v.vnodes) n x ≡ true = other_or (nat_eq n 1) (is_named_in (get x.parent v.vnodes) n x) below right.named in
    ap (λ (p : ℕ). is_named_in (get p v.vnodes) n y) (sym keeps.parent) ∙ same_named (get x.parent v.vnodes) n x y keeps named

-- ---- names of what isn't touched give what they gave

-- a directory holds the vnode of a number and a unique number
abbrev gives_numbers : ℕ → ℕ → ℕ → ℕ → Option Vnode → Bool
gives_numbers d unique n u None = false
gives_numbers d unique n u (Some x) = not (nat_eq n 1) && (nat_eq x.unique u && is_held_by d unique x)

gives_by_numbers : (d unique : ℕ) (m : Name) (o : Option Vnode) → gives_held d unique m.vnode o m ≡ gives_numbers d unique m.vnode m.unique o
gives_by_numbers d unique m None = refl
gives_by_numbers d unique m (Some x) = refl

-- it holds all of these
abbrev gives_each : Volume → ℕ → ℕ → Option ℕ → List ℕ → Bool
gives_each w d unique o [] = true
gives_each w d unique None (a ∷ rest) = gives_each w d unique (Some a) rest
gives_each w d unique (Some a) (b ∷ rest) = gives_numbers d unique a b (get a w.vnodes) && gives_each w d unique None rest

other_given : (b : Bool) (touched : List ℕ) (v w : Volume) (d unique : ℕ) (m : Name) (rest : List ℕ) → is_among m.vnode touched ≡ b → (is_among m.vnode touched ≡ false → get m.vnode w.vnodes ≡ get m.vnode v.vnodes) → gives_one v d unique m ≡ true →
    gives_each w d unique None rest ≡ true → gives_each w d unique None ((if b then [] else m.vnode ∷ m.unique ∷ []) ++ rest) ≡ true
other_given true touched v w d unique m rest is apart given more = more
other_given false touched v w d unique m rest is apart given more =
    both_true (gives_numbers d unique m.vnode m.unique (get m.vnode w.vnodes)) (gives_each w d unique None rest)
    (sym (gives_by_numbers d unique m (get m.vnode w.vnodes)) ∙ (ap (λ (o : Option Vnode). gives_held d unique m.vnode o m) (apart is) ∙ given)) more

others_given : (touched : List ℕ) (v w : Volume) (d unique : ℕ) (ms : List Name) → ((k : ℕ) → is_among k touched ≡ false → get k w.vnodes ≡ get k v.vnodes) → list_all (gives_one v d unique) ms ≡ true → gives_each w d unique None (others_named touched ms) ≡ true
others_given touched v w d unique [] apart given = refl
others_given touched v w d unique (m ∷ ms) apart given =
    let two = both (gives_one v d unique m) (list_all (gives_one v d unique) ms) given in
    other_given (is_among m.vnode touched) touched v w d unique m (others_named touched ms) refl (apart m.vnode) two.0 (others_given touched v w d unique ms apart two.1)

all_given_by : (b : Bool) (w : Volume) (d unique : ℕ) (m : Name) (rest : List ℕ) → (not b || gives_one w d unique m) ≡ true → gives_each w d unique None ((if b then [] else m.vnode ∷ m.unique ∷ []) ++ rest) ≡ true →
    (gives_one w d unique m ≡ true) × (gives_each w d unique None rest ≡ true)
all_given_by true w d unique m rest tested others = (tested, others)
all_given_by false w d unique m rest tested others =
    let two = both (gives_numbers d unique m.vnode m.unique (get m.vnode w.vnodes)) (gives_each w d unique None rest) others in
    (gives_by_numbers d unique m (get m.vnode w.vnodes) ∙ two.0, two.1)

all_given : (touched : List ℕ) (w : Volume) (d unique : ℕ) (ms : List Name) → list_all (gives_touched touched w d unique) ms ≡ true → gives_each w d unique None (others_named touched ms) ≡ true → list_all (gives_one w d unique) ms ≡ true
all_given touched w d unique [] tested others = refl
all_given touched w d unique (m ∷ ms) tested others =
    let two = both (gives_touched touched w d unique m) (list_all (gives_touched touched w d unique) ms) tested in
    let one = all_given_by (is_among m.vnode touched) w d unique m (others_named touched ms) two.0 others in
    both_true (gives_one w d unique m) (list_all (gives_one w d unique) ms) one.0 (all_given touched w d unique ms two.1 one.1)

-- a directory of a sound volume whose other names stay gives what it names, if it gives what is touched
pub gives_as_before : (touched : List ℕ) (v w : Volume) (n : ℕ) (x y : Vnode) → is_sound v ≡ true → get n v.vnodes ≡ Some x → ((k : ℕ) → is_among k touched ≡ false → get k w.vnodes ≡ get k v.vnodes) → x.unique ≡ y.unique →
    same_others touched x.names y.names ≡ true → list_all (gives_touched touched w n y.unique) y.names ≡ true → list_all (gives_one w n y.unique) y.names ≡ true
unfolding is_sound
gives_as_before touched v w n x y sound there apart unique same tested =
    let first = both (is_root (get 1 v.vnodes)) (ascends_from 1 v.vnodes && list_all (λ (p : ℕ × Vnode). is_sound_vnode v p.0 p.1) v.vnodes) sound in
    let second = both (ascends_from 1 v.vnodes) (list_all (λ (p : ℕ × Vnode). is_sound_vnode v p.0 p.1) v.vnodes) first.1 in
    let right = (vnode_so v n x (passes_at (is_sound_vnode v) v.vnodes n x second.1 there)).0 in
    let given : list_all (gives_one v n y.unique) x.names ≡ true = ap (λ (u : ℕ). list_all (gives_one v n u) x.names) (sym unique) ∙ right.given in
    let others : gives_each w n y.unique None (others_named touched y.names) ≡ true =
    ap (gives_each w n y.unique None) (sym (same_is (others_named touched x.names) (others_named touched y.names) same)) ∙ others_given touched v w n y.unique x.names apart given
    in
    all_given touched w n y.unique y.names tested others

-- ---- what is known of the two volumes

record Known (touched : List ℕ) (v w : Volume) : Type 0 where
  sound : (n : ℕ) (x : Vnode) → get n v.vnodes ≡ Some x → is_sound_vnode v n x ≡ true
  next : v.next ≤ w.next
  apart : (n : ℕ) → is_among n touched ≡ false → get n w.vnodes ≡ get n v.vnodes
  passed : (n : ℕ) → is_among n touched ≡ true → passes touched v w n ≡ true

-- a name that a directory gives which isn't touched

place_kept : (a b c : Bool) → a ≡ false → (a || (b && c)) ≡ true → (b ≡ true) × (c ≡ true)
place_kept true b c e h = absurd cc
place_kept false b c e h = both b c h

stays_out : (touched : List ℕ) (m n : ℕ) → m ≡ n → is_among n touched ≡ false → is_among m touched ≡ false
stays_out touched m n e unmet = ap (λ (k : ℕ). is_among k touched) e ∙ unmet

held_on : (touched : List ℕ) (v w : Volume) (n u : ℕ) (m : Name) (o p : Option Vnode) → is_among n touched ≡ false → passes_by touched v w m.vnode o p ≡ true → gives_held n u m.vnode o m ≡ true → gives_held n u m.vnode p m ≡ true
held_on touched v w n u m None p unmet test h = absurd cc
held_on touched v w n u m (Some x) None unmet test h =
    let first = both (not (nat_eq m.vnode 1)) (nat_eq x.unique m.unique && (nat_eq x.parent n && nat_eq x.parent_unique u)) h in
    let second = both (nat_eq x.unique m.unique) (nat_eq x.parent n && nat_eq x.parent_unique u) first.1 in
    let third = both (nat_eq x.parent n) (nat_eq x.parent_unique u) second.1 in
    let gone = both (is_among x.parent touched) (same_others touched x.names []) test in
    absurd (yes_no (is_among x.parent touched) gone.0 (stays_out touched x.parent n (eqb-true x.parent n third.0) unmet))
held_on touched v w n u m (Some x) (Some y) unmet test h =
    let first = both (not (nat_eq m.vnode 1)) (nat_eq x.unique m.unique && (nat_eq x.parent n && nat_eq x.parent_unique u)) h in
    let second = both (nat_eq x.unique m.unique) (nat_eq x.parent n && nat_eq x.parent_unique u) first.1 in
    let third = both (nat_eq x.parent n) (nat_eq x.parent_unique u) second.1 in
    let keeps = both (keeps_place touched x y) _ (both (is_right w m.vnode y) _ test).1 in
    let same = both (nat_eq x.unique y.unique) _ keeps.0 in
    let place = place_kept (is_among x.parent touched) (nat_eq x.parent y.parent) (nat_eq x.parent_unique y.parent_unique) (stays_out touched x.parent n (eqb-true x.parent n third.0) unmet) same.1 in
    both_true (not (nat_eq m.vnode 1)) _ first.0
    (both_true (nat_eq y.unique m.unique) _ (eq-eqb y.unique m.unique (sym (eqb-true x.unique y.unique same.0) ∙ eqb-true x.unique m.unique second.0))
    (both_true (nat_eq y.parent n) _ (eq-eqb y.parent n (sym (eqb-true x.parent y.parent place.0) ∙ eqb-true x.parent n third.0))
    (eq-eqb y.parent_unique u (sym (eqb-true x.parent_unique y.parent_unique place.1) ∙ eqb-true x.parent_unique u third.1))))

given_by : (b : Bool) (touched : List ℕ) (v w : Volume) (n u : ℕ) (m : Name) → is_among m.vnode touched ≡ b → Known touched v w → is_among n touched ≡ false → gives_one v n u m ≡ true → gives_one w n u m ≡ true
given_by true touched v w n u m is k unmet h = held_on touched v w n u m (get m.vnode v.vnodes) (get m.vnode w.vnodes) unmet (k.passed m.vnode is) h
given_by false touched v w n u m is k unmet h = ap (λ (o : Option Vnode). gives_held n u m.vnode o m) (k.apart m.vnode is) ∙ h

still_given : (touched : List ℕ) (v w : Volume) (n u : ℕ) (ms : List Name) → Known touched v w → is_among n touched ≡ false → list_all (gives_one v n u) ms ≡ true → list_all (gives_one w n u) ms ≡ true
still_given touched v w n u [] k unmet h = refl
still_given touched v w n u (m ∷ ms) k unmet h =
    let two = both (gives_one v n u m) (list_all (gives_one v n u) ms) h in
    both_true (gives_one w n u m) (list_all (gives_one w n u) ms) (given_by (is_among m.vnode touched) touched v w n u m refl k unmet two.0) (still_given touched v w n u ms k unmet two.1)

-- a vnode that isn't touched is named as before

no_names : (k : VnodeKind) (links count : ℕ) → count ≡ 0 → has_names k links count ≡ true → ⊥
no_names a_directory links count e h = grind (arith, nat_tests, e, h)
no_names a_file links count e h = grind (arith, nat_tests, e, (both (nat_eq count links) (not (nat_eq count 0)) h).1)
no_names a_link links count e h = grind (arith, nat_tests, e, (both (nat_eq count links) (not (nat_eq count 0)) h).1)

same_kind : (a b t : Bool) → same_test a t ≡ true → same_test b t ≡ true → a ≡ true → b ≡ true
same_kind true true t p q e = refl
same_kind true false true p q e = absurd cc
same_kind true false false p q e = absurd cc
same_kind false b t p q e = absurd cc

named_on : (touched : List ℕ) (v w : Volume) (n : ℕ) (x : Vnode) (o p : Option Vnode) → is_among n touched ≡ false → ((d : Vnode) → o ≡ Some d → kind_is_right x.parent d.kind ≡ true) → passes_by touched v w x.parent o p ≡ true → is_named_in o n x ≡ true → is_named_in p n x ≡ true
named_on touched v w n x None p unmet kind test h = absurd cc
named_on touched v w n x (Some d) None unmet kind test h =
    let first = both (is_kind d.kind a_directory) (nat_eq d.unique x.parent_unique && has_names x.kind x.links (names_of n x.unique d.names)) h in
    let second = both (nat_eq d.unique x.parent_unique) (has_names x.kind x.links (names_of n x.unique d.names)) first.1 in
    let gone = both (is_among d.parent touched) (same_others touched d.names []) test in
    absurd (no_names x.kind x.links (names_of n x.unique d.names) (sym (same_names n x.unique touched d.names [] gone.1 unmet)) second.1)
named_on touched v w n x (Some d) (Some e) unmet kind test h =
    let first = both (is_kind d.kind a_directory) (nat_eq d.unique x.parent_unique && has_names x.kind x.links (names_of n x.unique d.names)) h in
    let second = both (nat_eq d.unique x.parent_unique) (has_names x.kind x.links (names_of n x.unique d.names)) first.1 in
    let right = both (is_right w x.parent e) _ test in
    let keeps = both (keeps_place touched d e) _ right.1 in
    let same = both (nat_eq d.unique e.unique) _ keeps.0 in
    let names = both (same_others touched d.names e.names) _ keeps.1 in
    both_true (is_kind e.kind a_directory) _ (same_kind (is_kind d.kind a_directory) (is_kind e.kind a_directory) (nat_eq (x.parent % 2) 1) (kind d refl) (right_so w x.parent e right.0).kind first.0)
    (both_true (nat_eq e.unique x.parent_unique) _ (eq-eqb e.unique x.parent_unique (sym (eqb-true d.unique e.unique same.0) ∙ eqb-true d.unique x.parent_unique second.0))
    (ap (λ (count : ℕ). has_names x.kind x.links count) (same_names n x.unique touched d.names e.names names.0 unmet) ∙ second.1))

named_by : (b : Bool) (touched : List ℕ) (v w : Volume) (n : ℕ) (x : Vnode) → is_among x.parent touched ≡ b → Known touched v w → is_among n touched ≡ false → is_named_in (get x.parent v.vnodes) n x ≡ true → is_named_in (get x.parent w.vnodes) n x ≡ true
named_by true touched v w n x is k unmet h =
    named_on touched v w n x (get x.parent v.vnodes) (get x.parent w.vnodes) unmet (λ d e. (vnode_so v x.parent d (k.sound x.parent d e)).0.kind) (k.passed x.parent is) h
named_by false touched v w n x is k unmet h = ap (λ (o : Option Vnode). is_named_in o n x) (k.apart x.parent is) ∙ h

root_or : (a b c : Bool) → (b ≡ true → c ≡ true) → (a || b) ≡ true → (a || c) ≡ true
root_or true b c f h = refl
root_or false b c f h = f h

-- ---- so each vnode is right

right_in : (touched : List ℕ) (v w : Volume) (n : ℕ) (y : Vnode) (o : Option Vnode) → passes_by touched v w n o (Some y) ≡ true → is_right w n y ≡ true
right_in touched v w n y None test = (both (is_right w n y) _ test).0
right_in touched v w n y (Some x) test = (both (is_right w n y) _ test).0

right_by : (b : Bool) (touched : List ℕ) (v w : Volume) (n : ℕ) (y : Vnode) → is_among n touched ≡ b → Known touched v w → get n w.vnodes ≡ Some y → IsRight w n y
right_by true touched v w n y is k e =
    right_so w n y (right_in touched v w n y (get n v.vnodes) (subst (λ (o : Option Vnode). passes_by touched v w n (get n v.vnodes) o ≡ true) e (k.passed n is)))
right_by false touched v w n y is k e =
    let r = (vnode_so v n y (k.sound n y (sym (k.apart n is) ∙ e))).0 in
    record {
      kind = r.kind;
      unique = lt-ltb y.unique w.next (let less : y.unique < v.next = ltb-true y.unique v.next r.unique in let more = k.next in omega (arith, less, more));
      body = r.body;
      given = still_given touched v w n y.unique y.names k is r.given;
      named = root_or (nat_eq n 1) _ (is_named_in (get y.parent w.vnodes) n y) (named_by (is_among y.parent touched) touched v w n y refl k is) r.named;
    }

all_right : (touched : List ℕ) (v w : Volume) (n : ℕ) (y : Vnode) → Known touched v w → get n w.vnodes ≡ Some y → IsRight w n y
all_right touched v w n y k e = right_by (is_among n touched) touched v w n y refl k e

-- ---- and stands below the root

not_root : (n : ℕ) (b : Bool) → nat_eq n 1 ≡ b → (n ≡ 1 → ⊥) → b ≡ false
not_root n true is ne = absurd (ne (eqb-true n 1 is))
not_root n false is ne = refl

named_below : (a b : Bool) → a ≡ false → (a || b) ≡ true → b ≡ true
named_below true b e h = absurd cc
named_below false b e h = h

its_directory : (o : Option Vnode) (n : ℕ) (x : Vnode) → is_named_in o n x ≡ true → (d : Vnode) × ((o ≡ Some d) × (is_kind d.kind a_directory ≡ true))
its_directory None n x h = absurd cc
its_directory (Some d) n x h = (d, (refl, (both (is_kind d.kind a_directory) _ h).0))

parent_in : (u : Volume) (n : ℕ) (x : Vnode) → IsRight u n x → (n ≡ 1 → ⊥) → (d : Vnode) × ((get x.parent u.vnodes ≡ Some d) × (is_kind d.kind a_directory ≡ true))
parent_in u n x r ne = its_directory (get x.parent u.vnodes) n x (named_below (nat_eq n 1) (is_named_in (get x.parent u.vnodes) n x) (not_root n (nat_eq n 1) refl ne) r.named)

stood : (a b c d : Bool) → b ≡ true → (a || (if b then c else d)) ≡ true → a ≡ false → c ≡ true
stood true b c d e h n = absurd cc
stood false true c d e h n = h
stood false false c d e h n = absurd cc

-- a directory that was there and is there stands below the root, or hasn't moved
unmoved_on : (touched : List ℕ) (v w : Volume) (p : ℕ) (d e : Vnode) (b : Bool) → nat_eq d.parent e.parent ≡ b → is_kind d.kind a_directory ≡ true → reaches w p ≡ false → passes_by touched v w p (Some d) (Some e) ≡ true → b ≡ true
unmoved_on touched v w p d e true is dir below test = refl
unmoved_on touched v w p d e false is dir below test =
    let right = both (is_right w p e) _ test in
    let keeps = both (keeps_place touched d e) _ right.1 in
    let names = both (same_others touched d.names e.names) _ keeps.1 in
    absurd (yes_no (reaches w p) (stood (nat_eq d.parent e.parent) (is_kind d.kind a_directory) (reaches w p) (is_unmoved v w e.parent) dir names.1 is) below)

unmoved_by : (b : Bool) (touched : List ℕ) (v w : Volume) (p : ℕ) (d e : Vnode) → is_among p touched ≡ b → Known touched v w → is_kind d.kind a_directory ≡ true → reaches w p ≡ false → get p v.vnodes ≡ Some d → get p w.vnodes ≡ Some e → nat_eq d.parent e.parent ≡ true
unmoved_by true touched v w p d e is k dir below was now =
    unmoved_on touched v w p d e (nat_eq d.parent e.parent) refl dir below (subst (λ (o : Option Vnode). passes_by touched v w p (Some d) o ≡ true) now (subst (λ (o : Option Vnode). passes_by touched v w p o (get p w.vnodes) ≡ true) was (k.passed p is)))
unmoved_by false touched v w p d e is k dir below was now =
    let same : d ≡ e = some_of d e (sym was ∙ (sym (k.apart p is) ∙ now)) in
    eq-eqb d.parent e.parent (ap (λ (x : Vnode). x.parent) same)

unmoved : (touched : List ℕ) (v w : Volume) (p : ℕ) (d e : Vnode) → Known touched v w → is_kind d.kind a_directory ≡ true → reaches w p ≡ false → get p v.vnodes ≡ Some d → get p w.vnodes ≡ Some e → is_unmoved v w p ≡ true
unmoved touched v w p d e k dir below was now =
    ap (λ (o : Option Vnode). same_parent o (get p w.vnodes)) was ∙ (ap (λ (o : Option Vnode). same_parent (Some d) o) now ∙ unmoved_by (is_among p touched) touched v w p d e refl k dir below was now)

-- the rank: as before, and behind its directory for what comes or moves

abbrev parent_of : Option Vnode → ℕ
parent_of None = 0
parent_of (Some y) = y.parent

abbrev rank_by : (ℕ → ℕ) → ℕ → Option Vnode → Option Vnode → ℕ
rank_by rank n o p = cond (same_parent o p) (rank n) (suc (rank (parent_of p)))

abbrev new_rank : (ℕ → ℕ) → Volume → Volume → ℕ → ℕ
new_rank rank v w n = rank_by rank n (get n v.vnodes) (get n w.vnodes)

old_rank : (rank : ℕ → ℕ) (v w : Volume) (n : ℕ) → is_unmoved v w n ≡ true → new_rank rank v w n ≡ rank n
old_rank rank v w n e = rw e refl

same_of : (o : Option Vnode) (y : Vnode) → same_parent o (Some y) ≡ true → (x : Vnode) × ((o ≡ Some x) × (x.parent ≡ y.parent))
same_of None y e = absurd cc
same_of (Some x) y e = (x, (refl, eqb-true x.parent y.parent e))

moved_below : (a b c d : Bool) → a ≡ false → c ≡ false → (a || (if b then c else d)) ≡ true → d ≡ true
moved_below true b c d e n h = absurd cc
moved_below false true c d e n h = absurd (yes_no c h n)
moved_below false false c d e n h = h

moved_on : (touched : List ℕ) (v w : Volume) (n : ℕ) (y : Vnode) (o : Option Vnode) → same_parent o (Some y) ≡ false → reaches w n ≡ false → passes_by touched v w n o (Some y) ≡ true → is_unmoved v w y.parent ≡ true
moved_on touched v w n y None moved below test = (both (is_right w n y) (is_unmoved v w y.parent) test).1
moved_on touched v w n y (Some x) moved below test =
    let right = both (is_right w n y) _ test in
    let keeps = both (keeps_place touched x y) _ right.1 in
    let names = both (same_others touched x.names y.names) _ keeps.1 in
    moved_below (nat_eq x.parent y.parent) (is_kind x.kind a_directory) (reaches w n) (is_unmoved v w y.parent) moved below names.1

same_itself : (o : Option Vnode) (y : Vnode) → o ≡ Some y → same_parent o (Some y) ≡ true
same_itself o y e = ap (λ (p : Option Vnode). same_parent p (Some y)) e ∙ eq-eqb y.parent y.parent refl

moved_by : (b : Bool) (touched : List ℕ) (v w : Volume) (n : ℕ) (y : Vnode) → is_among n touched ≡ b → Known touched v w → get n w.vnodes ≡ Some y → reaches w n ≡ false → same_parent (get n v.vnodes) (Some y) ≡ false → is_unmoved v w y.parent ≡ true
moved_by true touched v w n y is k e below moved = moved_on touched v w n y (get n v.vnodes) moved below (subst (λ (o : Option Vnode). passes_by touched v w n (get n v.vnodes) o ≡ true) e (k.passed n is))
moved_by false touched v w n y is k e below moved = absurd (yes_no (same_parent (get n v.vnodes) (Some y)) (same_itself (get n v.vnodes) y (sym (k.apart n is) ∙ e)) moved)

-- what doesn't stand below the root falls so
falls_by : (b : Bool) (touched : List ℕ) (v w : Volume) (rank : ℕ → ℕ) (n : ℕ) (y : Vnode) → same_parent (get n v.vnodes) (Some y) ≡ b → Known touched v w → Ranked (at v) rank → get n w.vnodes ≡ Some y → (n ≡ 1 → ⊥) → reaches w n ≡ false → reaches w y.parent ≡ false → new_rank rank v w y.parent < cond b (rank n) (suc (rank y.parent))
falls_by true touched v w rank n y same k ranked e ne below up_below =
    let x = same_of (get n v.vnodes) y same in
    let was = parent_in v n x.0 (vnode_so v n x.0 (k.sound n x.0 x.1.0)).0 ne in
    let now = parent_in w n y (all_right touched v w n y k e) ne in
    let there : get y.parent v.vnodes ≡ Some was.0 = ap (λ (m : ℕ). get m v.vnodes) (sym x.1.1) ∙ was.1.0 in
    let old : new_rank rank v w y.parent ≡ rank y.parent = old_rank rank v w y.parent (unmoved touched v w y.parent was.0 now.0 k was.1.1 up_below there now.1.0) in
    let up : rank x.0.parent < rank n = ranked n x.0 x.1.0 ne in
    let same_rank : rank x.0.parent ≡ rank y.parent = ap rank x.1.1 in
    omega (arith, old, up, same_rank)
falls_by false touched v w rank n y moved k ranked e ne below up_below =
    let old : new_rank rank v w y.parent ≡ rank y.parent = old_rank rank v w y.parent (moved_by (is_among n touched) touched v w n y refl k e below moved) in
    omega (arith, old)

-- ---- steps to the root, for what stands below it

abbrev climb : ℕ → ℕ → Volume → Option Vnode → ℕ
climb zero n w o = 0
climb (suc k) n w None = 0
climb (suc k) n w (Some x) = cond (eqb n 1) 0 (suc (climb k x.parent w (get x.parent w.vnodes)))

settled_by : (b : Bool) (i j : ℕ) (up : Bool) → (b || up) ≡ true → (up ≡ true → i ≡ j) → cond b 0 (suc i) ≡ cond b 0 (suc j)
settled_by true i j up e h = refl
settled_by false i j up e h = ap suc (h e)

settled : (k n : ℕ) (w : Volume) (o : Option Vnode) → leads_up k n 1 w o ≡ true → climb (suc k) n w o ≡ climb k n w o
settled zero n w o e = absurd cc
settled (suc k) n w None e = refl
settled (suc k) n w (Some x) e =
    settled_by (eqb n 1) (climb (suc k) x.parent w (get x.parent w.vnodes)) (climb k x.parent w (get x.parent w.vnodes)) (leads_up k x.parent 1 w (get x.parent w.vnodes)) e
    (settled k x.parent w (get x.parent w.vnodes))

stepped : (b up : Bool) (i : ℕ) → b ≡ false → (b || up) ≡ true → (up ≡ true) × (cond b 0 (suc i) ≡ suc i)
stepped true up i ne e = absurd cc
stepped false up i ne e = (e, refl)

climbs : (k n : ℕ) (w : Volume) (x : Vnode) → nat_eq n 1 ≡ false → leads_up k n 1 w (Some x) ≡ true → climb k x.parent w (get x.parent w.vnodes) < climb k n w (Some x)
climbs zero n w x ne e = absurd cc
climbs (suc k) n w x ne e =
    let s = stepped (eqb n 1) (leads_up k x.parent 1 w (get x.parent w.vnodes)) (climb k x.parent w (get x.parent w.vnodes)) ne e in
    let same = settled k x.parent w (get x.parent w.vnodes) s.0 in
    let mine = s.1 in
    omega (arith, same, mine)

most_by : (b : Bool) (i k : ℕ) → i ≤ k → cond b 0 (suc i) ≤ suc k
most_by true i k le = omega arith
most_by false i k le = omega (arith, le)

climb_most : (k n : ℕ) (w : Volume) (o : Option Vnode) → climb k n w o ≤ k
climb_most zero n w o = omega arith
climb_most (suc k) n w None = omega arith
climb_most (suc k) n w (Some x) = most_by (eqb n 1) (climb k x.parent w (get x.parent w.vnodes)) k (climb_most k x.parent w (get x.parent w.vnodes))

or_map : (a b c : Bool) → (b ≡ true → c ≡ true) → (a || b) ≡ true → (a || c) ≡ true
or_map true b c f h = refl
or_map false b c f h = f h

more_up : (k n : ℕ) (w : Volume) (o : Option Vnode) → leads_up k n 1 w o ≡ true → leads_up (suc k) n 1 w o ≡ true
more_up zero n w o e = absurd cc
more_up (suc k) n w None e = absurd cc
more_up (suc k) n w (Some x) e = or_map (nat_eq n 1) (leads_up k x.parent 1 w (get x.parent w.vnodes)) (leads_up (suc k) x.parent 1 w (get x.parent w.vnodes)) (more_up k x.parent w (get x.parent w.vnodes)) e

parent_up : (k n : ℕ) (w : Volume) (x : Vnode) → nat_eq n 1 ≡ false → leads_up k n 1 w (Some x) ≡ true → leads_up k x.parent 1 w (get x.parent w.vnodes) ≡ true
parent_up zero n w x ne e = absurd cc
parent_up (suc k) n w x ne e = more_up k x.parent w (get x.parent w.vnodes) (stepped (eqb n 1) (leads_up k x.parent 1 w (get x.parent w.vnodes)) 0 ne e).0

abbrev climbed : ℕ → Volume → ℕ → ℕ
climbed most w n = climb most n w (get n w.vnodes)

abbrev whole_rank : ℕ → (ℕ → ℕ) → Volume → Volume → ℕ → ℕ
whole_rank most rank v w n = cond (leads_up most n 1 w (get n w.vnodes)) (climbed most w n) (suc most + new_rank rank v w n)

lower_by : (b c : Bool) (i j l r s : ℕ) → (b ≡ true → (c ≡ true) × (i < j)) → i ≤ l → (b ≡ false → c ≡ false → r < s) → cond c i (suc l + r) < cond b j (suc l + s)
lower_by true true i j l r s up most down = let u = up refl in omega (arith, u.1)
lower_by true false i j l r s up most down = let u = up refl in absurd (let z : false ≡ true = u.0 in cc)
lower_by false true i j l r s up most down = omega (arith, most)
lower_by false false i j l r s up most down = let d = down refl refl in omega (arith, d)

-- with so many steps as the test takes
ranked_by : (most : ℕ) (touched : List ℕ) (v w : Volume) (rank : ℕ → ℕ) → ((n : ℕ) → reaches w n ≡ leads_up most n 1 w (get n w.vnodes)) → Known touched v w → Ranked (at v) rank → Ranked (at w) (whole_rank most rank v w)
ranked_by most touched v w rank is k ranked n y e ne =
    let below : nat_eq n 1 ≡ false = not_root n (nat_eq n 1) refl ne in
    lower_by (leads_up most n 1 w (get n w.vnodes)) (leads_up most y.parent 1 w (get y.parent w.vnodes)) (climbed most w y.parent) (climbed most w n) most (new_rank rank v w y.parent) (new_rank rank v w n)
    (λ b. (let up : leads_up most n 1 w (Some y) ≡ true = subst (λ (o : Option Vnode). leads_up most n 1 w o ≡ true) e b in
    (parent_up most n w y below up, subst (λ (o : Option Vnode). climbed most w y.parent < climb most n w o) (sym e) (climbs most n w y below up))))
    (climb_most most y.parent w (get y.parent w.vnodes))
    (λ b c. subst (λ (o : Option Vnode). new_rank rank v w y.parent < rank_by rank n (get n v.vnodes) o) (sym e)
    (falls_by (same_parent (get n v.vnodes) (Some y)) touched v w rank n y refl k ranked e ne (is n ∙ b) (is y.parent ∙ c)))

now_ranked : (touched : List ℕ) (v w : Volume) (rank : ℕ → ℕ) → Known touched v w → Ranked (at v) rank → Ranked (at w) (whole_rank most_vnodes rank v w)
unfolding reaches
now_ranked touched v w rank k ranked = ranked_by most_vnodes touched v w rank (λ n. refl) k ranked

now_parents : (touched : List ℕ) (v w : Volume) → Known touched v w → HasParents (at w)
now_parents touched v w k n y e ne = let d = parent_in w n y (all_right touched v w n y k e) ne in (d.0, d.1.0)

was_ranked : (touched : List ℕ) (v w : Volume) → Known touched v w → Ranked (at v) (steps v)
was_ranked touched v w k = reaching_ranked v (λ n x e ne. (vnode_so v n x (k.sound n x e)).1 (not_root n (nat_eq n 1) refl ne))

-- ---- the volume

known : (touched : List ℕ) (v w : Volume) → is_sound v ≡ true → v.next ≤ w.next → ((n : ℕ) → is_among n touched ≡ false → get n w.vnodes ≡ get n v.vnodes) → ((n : ℕ) → is_among n touched ≡ true → passes touched v w n ≡ true) → Known touched v w
unfolding is_sound
known touched v w sound next apart passed =
    let first = both (is_root (get 1 v.vnodes)) (ascends_from 1 v.vnodes && list_all (λ (p : ℕ × Vnode). is_sound_vnode v p.0 p.1) v.vnodes) sound in
    let second = both (ascends_from 1 v.vnodes) (list_all (λ (p : ℕ × Vnode). is_sound_vnode v p.0 p.1) v.vnodes) first.1 in
    record { sound = λ n x e. passes_at (is_sound_vnode v) v.vnodes n x second.1 e; next = next; apart = apart; passed = passed }

pub still_sound : (touched : List ℕ) (v w : Volume) → is_sound v ≡ true → v.next ≤ w.next → is_root (get 1 w.vnodes) ≡ true → AscendsFrom 1 w.vnodes
    → ((n : ℕ) → is_among n touched ≡ false → get n w.vnodes ≡ get n v.vnodes) → ((n : ℕ) → is_among n touched ≡ true → passes touched v w n ≡ true) → is_sound w ≡ true
unfolding is_sound
still_sound touched v w sound next root up apart passed =
    let k = known touched v w sound next apart passed in
    let below : (n : ℕ) (y : Vnode) → get n w.vnodes ≡ Some y → is_below n 1 w ≡ true = ranked_reaching w (whole_rank most_vnodes (steps v) v w) (now_ranked touched v w (steps v) k (was_ranked touched v w k)) (now_parents touched v w k) in
    both_true (is_root (get 1 w.vnodes)) _ root
    (both_true (ascends_from 1 w.vnodes) _ (ascends 1 w.vnodes up)
    (all_pass (is_sound_vnode w) 1 w.vnodes up (λ n y e. vnode_is w n y (all_right touched v w n y k e) (λ b. below n y e))))
